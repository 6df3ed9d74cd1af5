-- The grammar of the words, by those of `clap`.
--   drdad init PATH --size N --rdb NAME
--   drdad pipe [PATH] [--rdb NAME] [--user U:P] [--user-file FILE]
--   drdad serve PATH --port N [--user U:P] [--user-file FILE] [--count N] [--idle N] [--login N] [--cursor-bytes N] [--all-bytes N] [--log] [--end-when-failed]
--   drdad indoubt PATH
--   drdad decide PATH XID DECISION
--   drdad decide PATH FORMAT GLOBAL BRANCH DECISION
--   drdad room PATH
--   drdad check PATH
--   drdad tables PATH
--   drdad dump PATH
--   drdad grow PATH NEW --size N
--   drdad version
use Rattle.std.specs.Prelude.{◌≡◌, true, false, List, [], ◌∷◌, Option, Some, codes}
use Rattle.clap.specs.declared.builder.action.ArgAction.TheVariants.{SetTrue}
use Rattle.clap.specs.declared.builder.arg.Arg.{Arg}
use Rattle.clap.specs.declared.builder.command.Command.{Command}
use Rattle.command_line.specs.declared.word.Kind.{Kind as CodeKind}
use Rattle.command_line.specs.declared.word.Kind.TheVariants as kind
use Rattle.command_line.specs.declared.word.Word.{Word}
use Rattle.command_line.specs.declared.app.Subcommand.{Subcommand}
use Rattle.clap.specs.Words.{AddsArg, AddsInTurn, AddsSubcommand, App, Kinds, Row, Rule, Text, app_of, fault_of, new_app, new_rule, rule_of, subcommand_of, with_rule, with_subcommand}

-- a word that stands for itself
abbrev pub word_rule : Text → Rule
word_rule id = new_rule id

abbrev pub needed_word : Text → Rule
needed_word id = record (word_rule id) { required = true }

-- --ID VALUE
abbrev pub option_rule : Text → Rule
option_rule id = record (new_rule id) { long = Some id; value_names = 1 }

abbrev pub needed_option : Text → Rule
needed_option id = record (option_rule id) { required = true }

abbrev pub default_option : Text → Text → Rule
default_option id value = record (option_rule id) { defaults = value ∷ [] }

-- --ID alone: its value is the text `true` where it is given, and `false` where it is not
abbrev pub flag_rule : Text → Rule
flag_rule id = record (new_rule id) { long = Some id; action = Some SetTrue }

abbrev pub init : App
init = with_rule (with_rule (with_rule (new_app (codes "init")) (needed_word (codes "path"))) (needed_option (codes "size"))) (needed_option (codes "rdb"))

abbrev pub pipe : App
pipe = with_rule (with_rule (with_rule (with_rule (new_app (codes "pipe")) (word_rule (codes "path"))) (default_option (codes "rdb") (codes "RDB"))) (option_rule (codes "user"))) (option_rule (codes "user-file"))

-- the path, the port and the login
abbrev pub identified : App
identified = with_rule (with_rule (with_rule (with_rule (new_app (codes "serve")) (needed_word (codes "path"))) (needed_option (codes "port"))) (option_rule (codes "user"))) (option_rule (codes "user-file"))

-- with how many conversations are served, and what they are held to
abbrev pub bounded : App
bounded = with_rule (with_rule (with_rule (with_rule (with_rule identified (option_rule (codes "count"))) (option_rule (codes "idle"))) (default_option (codes "login") (codes "30"))) (default_option (codes "cursor-bytes") (codes "536870912"))) (default_option (codes "all-bytes") (codes "1073741824"))

abbrev pub serve : App
serve = with_rule (with_rule bounded (flag_rule (codes "log"))) (flag_rule (codes "end-when-failed"))

abbrev pub in_doubt : App
in_doubt = with_rule (new_app (codes "indoubt")) (needed_word (codes "path"))

-- two words behind the path, or four
abbrev pub decide : App
decide = with_rule (with_rule (with_rule (with_rule (with_rule (new_app (codes "decide")) (needed_word (codes "path"))) (needed_word (codes "xid"))) (needed_word (codes "decision"))) (word_rule (codes "branch"))) (word_rule (codes "last"))

abbrev pub room : App
room = with_rule (new_app (codes "room")) (needed_word (codes "path"))

abbrev pub check : App
check = with_rule (new_app (codes "check")) (needed_word (codes "path"))

abbrev pub tables : App
tables = with_rule (new_app (codes "tables")) (needed_word (codes "path"))

abbrev pub dump : App
dump = with_rule (new_app (codes "dump")) (needed_word (codes "path"))

abbrev pub grow : App
grow = with_rule (with_rule (with_rule (new_app (codes "grow")) (needed_word (codes "path"))) (needed_word (codes "new"))) (needed_option (codes "size"))

abbrev pub version : App
version = new_app (codes "version")

-- a subcommand may not be left out
abbrev pub nothing_yet : App
nothing_yet = record (new_app (codes "drdad")) { top = record (new_app (codes "drdad")).top { subcommand_required = true } }

-- with what serves a store
abbrev pub serving : App
serving = with_subcommand (with_subcommand (with_subcommand (with_subcommand nothing_yet init.top) pipe.top) serve.top) in_doubt.top

-- with what tells of one that is not served
abbrev pub telling : App
telling = with_subcommand (with_subcommand (with_subcommand (with_subcommand serving decide.top) room.top) check.top) tables.top

abbrev pub drdad : App
drdad = with_subcommand (with_subcommand (with_subcommand telling dump.top) grow.top) version.top

-- what is wrong with the words
unfoldable pub faults : List Text → Kinds
faults words = fault_of drdad words

-- the subcommand that the words name, with what they give it
unfoldable pub given : List Text → Option (Text × List Row)
given words = subcommand_of drdad words

-- ---- in code

-- the rule of a word
abbrev pub rule_by : Text → CodeKind → Rule
rule_by id kind.Word = word_rule id
rule_by id kind.NeededWord = needed_word id
rule_by id (kind.Option value) = option_rule id
rule_by id (kind.NeededOption value) = needed_option id
rule_by id (kind.OptionOr value default) = default_option id default.now
rule_by id kind.Flag = flag_rule id

abbrev pub rule_for : Word → Rule
rule_for word = rule_by word.id.now word.kind

-- with these words, from the first on
unfoldable pub with_words : App → List Word → App
with_words app [] = app
with_words app (word ∷ words) = with_words (with_rule app (rule_for word)) words

abbrev pub app_for : Subcommand → App
app_for subcommand = with_words (new_app subcommand.name.now) subcommand.words.now

-- with these subcommands, from the first on
unfoldable pub with_all : App → List Subcommand → App
with_all app [] = app
with_all app (subcommand ∷ subcommands) = with_all (with_subcommand app (app_for subcommand).top) subcommands

-- an argument of this rule, of its own subcommand
abbrev pub IsWord : Rule → Arg → Type 0
IsWord rule arg = (rule_of arg ≡ rule) × (arg.global ≡ false)

-- a subcommand that is added as it is
abbrev pub AddsItself : Command → Type 0
AddsItself sub = (old new : Command) → AddsSubcommand old sub new → app_of new ≡ with_subcommand (app_of old) (app_of sub).top

-- arguments of their own subcommand
abbrev pub AreOwn : List Arg → Type 0
AreOwn [] = Unit {0}
AreOwn (arg ∷ args) = (arg.global ≡ false) × AreOwn args

-- a command of this grammar, which with further arguments of its own alone is added as it is
abbrev pub IsCommand : App → Command → Type 0
IsCommand app command = (app_of command ≡ app) × ((args : List Arg) (whole : Command) → AreOwn args → AddsInTurn AddsArg command args whole → AddsItself whole)
