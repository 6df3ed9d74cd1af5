-- Commands with arguments of their own alone.
use Rattle.std.proofs.Common.{◌≡◌, ◌∙◌, ℕ, ◌+◌, ◌<◌, add-one, get_or, length, ap, ap₂, sym, subst, drop, Bool, true, false, ◌||◌, List, [], ◌∷◌, refl}
use Rattle.std.proofs.Math.Seq.{drop-cons}
use Rattle.clap.specs.Words.{AddsArg, AddsInTurn, AddsSubcommand, App, Rule, app_of, with_rule, with_subcommand}
use Rattle.clap.specs.declared.builder.arg.Arg.{Arg}
use Rattle.clap.specs.declared.builder.command.Command.{Command}
use Rattle.command_line.specs.declared.app.Subcommand.{Subcommand}
use Rattle.command_line.specs.declared.word.Word.{Word}
use Rattle.command_line.specs.Grammar.{AddsItself, AreOwn, IsCommand, IsWord, app_for, rule_for, with_all, with_words}

-- Neither of two is there.
pub neither : (a b : Bool) → a ≡ false → b ≡ false → (a || b) ≡ false
neither false false p q = refl
neither false true p q = q
neither true b p q = p

-- what each argument keeps holds of the whole
pub kept : (P : Command → Type 0) → ((old new : Command) (arg : Arg) → P old → AddsArg old arg new → arg.global ≡ false → P new)
    → ((sub : Command) → P sub → AddsItself sub) → (args : List Arg) (first whole : Command) → P first → AreOwn args → AddsInTurn AddsArg first args whole → AddsItself whole
kept P step ends [] first whole p are is = ends whole (subst P is p)
kept P step ends (arg ∷ args) first whole p are (next, added, more) = kept P step ends args next whole (step first next arg p added are.0) are.1 more

-- one word more
pub longer : (app : App) (rule : Rule) (old new : Command) (arg : Arg) → IsCommand app old → IsWord rule arg → AddsArg old arg new → IsCommand (with_rule app rule) new
longer app rule old new arg is word added =
    (added.shape word.1 ∙ ap₂ with_rule is.0 word.0, λ args whole are more. is.1 (arg ∷ args) whole (word.1, are) (new, added, more))

-- a command that becomes this one with the words that are left
abbrev pub IsUnderWay : App → List Word → Command → Type 0
IsUnderWay whole left command = (app : App) × IsCommand app command × (with_words app left ≡ whole)

split_at : {A : Type 0} (xs : List A) (i : ℕ) (x : A) → i < length xs → drop i xs ≡ get_or xs i x ∷ drop (i + 1) xs
split_at xs i x below = rw (add-one, drop-cons xs i x) refl

pub next_word : (whole : App) (words : List Word) (i : ℕ) (word : Word) (old new : Command) (arg : Arg) → i < length words → IsWord (rule_for (get_or words i word)) arg → AddsArg old arg new
    → IsUnderWay whole (drop i words) old → IsUnderWay whole (drop (i + 1) words) new
unfolding with_words
next_word whole words i word old new arg below is added (app, old_is, leads) =
    let rule = rule_for (get_or words i word) in
    (with_rule app rule, longer app rule old new arg old_is is added, ap (with_words app) (sym (split_at words i word below)) ∙ leads)

pub no_word : (whole : App) (left : List Word) (command : Command) → left ≡ [] → IsUnderWay whole left command → IsCommand whole command
unfolding with_words
no_word whole left command none (app, is, leads) = subst (λ a. IsCommand a command) (ap (with_words app) (sym none) ∙ leads) is

-- one subcommand more
pub joined : (above sub : App) (old part new : Command) → app_of old ≡ above → IsCommand sub part → AddsSubcommand old part new → app_of new ≡ with_subcommand above sub.top
joined above sub old part new above_is is added = is.1 [] part tt refl old new added ∙ ap₂ (λ (a s : App). with_subcommand a s.top) above_is is.0

pub next_subcommand : (whole : App) (subcommands : List Subcommand) (i : ℕ) (subcommand : Subcommand) (old part new : Command) → i < length subcommands
    → IsCommand (app_for (get_or subcommands i subcommand)) part → AddsSubcommand old part new → with_all (app_of old) (drop i subcommands) ≡ whole → with_all (app_of new) (drop (i + 1) subcommands) ≡ whole
unfolding with_all
next_subcommand whole subcommands i subcommand old part new below is added leads =
    ap (λ app. with_all app (drop (i + 1) subcommands)) (joined _ _ old part new refl is added) ∙ ap (with_all (app_of old)) (sym (split_at subcommands i subcommand below)) ∙ leads

pub no_subcommand : (whole app : App) (left : List Subcommand) → left ≡ [] → with_all app left ≡ whole → app ≡ whole
unfolding with_all
no_subcommand whole app left none leads = ap (with_all app) (sym none) ∙ leads
