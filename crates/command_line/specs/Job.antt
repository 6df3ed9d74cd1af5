-- What words ask for.
use Rattle.std.specs.Prelude.{ℕ, Bool, false, ◌==◌, nat_lt, List, [], ◌∷◌, length, Option, Some, None, codes, bytes_eq, if◌then◌else◌, option_map, option_and_then}
use Rattle.std.specs.List.{position_or_len, before_first, after_first}
use Rattle.clap.specs.Words.{Kinds, Row, Text, first_of}
use Rattle.command_line.specs.Grammar.{faults, given}
use Rattle.command_line.specs.Number.{number_in, port_in, seconds_in}
use Rattle.command_line.specs.Spelling.{is_colon, xid_in_one, xid_said}
use Rattle.xa_manager.specs.declared.due.Decision.{Decision}
use Rattle.xa_manager.specs.declared.due.Decision.TheVariants.{Commit, RollBack}
use Rattle.command_line.specs.declared.job.Job.{Job as CodeJob}
use Rattle.command_line.specs.declared.job.Job.TheVariants as code
use Rattle.command_line.specs.declared.job.Login.{Login as CodeLogin}
use Rattle.command_line.specs.declared.job.LoginSource.{LoginSource as CodeSource}
use Rattle.command_line.specs.declared.job.LoginSource.TheVariants as source
use Rattle.command_line.specs.declared.job.ServeOptions.{ServeOptions}
use Rattle.command_line.specs.declared.texts.Limits.{Limits}

pub record Login : Type 0 where
  pub user : Text
  pub password : Text

pub data LoginSource : Type 0 where
  in_words : Login → LoginSource
  -- the path of a file that holds it
  in_file : Text → LoginSource

pub data Job : Type 0 where
  -- the path, the size, the name
  init : Text → ℕ → Text → Job
  -- perhaps a path, the name
  pipe : Option Text → Text → LoginSource → Job
  -- the path, the port, and how conversations are served
  serve : Text → ℕ → LoginSource → ServeOptions → Job
  in_doubt : Text → Job
  -- the path, the XID, and how its unit is decided
  decide : Text → List ℕ → Decision → Job
  room : Text → Job
  check : Text → Job
  tables : Text → Job
  dump : Text → Job
  -- the path, that of the new file, and its size
  grow : Text → Text → ℕ → Job
  version : Job

abbrev pub plain_login : CodeLogin → Login
plain_login l = record { user = l.user.now; password = l.password.now }

abbrev pub plain_source : CodeSource → LoginSource
plain_source (source.Words login) = in_words (plain_login login)
plain_source (source.File path) = in_file path.now

abbrev pub plain_job : CodeJob → Job
plain_job (code.Init path size rdb) = init path.now size rdb.now
plain_job (code.Pipe path rdb login) = pipe (option_map (λ p. p.now) path) rdb.now (plain_source login)
plain_job (code.Serve path port login options) = serve path.now port (plain_source login) options
plain_job (code.InDoubt path) = in_doubt path.now
plain_job (code.Decide path xid decision) = decide path.now xid decision
plain_job (code.Room path) = room path.now
plain_job (code.Check path) = check path.now
plain_job (code.Tables path) = tables path.now
plain_job (code.Dump path) = dump path.now
plain_job (code.Grow path new size) = grow path.now new.now size
plain_job code.Version = version

-- ---- what texts say

-- U:P, split at the first colon
abbrev pub login_in : Text → Option Login
login_in text = if nat_lt (position_or_len is_colon text) (length text)
    then Some (record { user = before_first is_colon text; password = after_first is_colon text }) else None

abbrev pub is_line_feed : ℕ → Bool
is_line_feed b = b == 10

-- a line without the carriage return at its end
unfoldable pub without_return : Text → Text
without_return [] = []
without_return (b ∷ []) = if b == 13 then [] else b ∷ []
without_return (b ∷ c ∷ cs) = b ∷ without_return (c ∷ cs)

-- the one line of a text: all of it, or what stands before its first line feed, behind which nothing may stand
abbrev pub line_in : Text → Option Text
line_in text = if nat_lt (position_or_len is_line_feed text) (length text)
    then (if length (after_first is_line_feed text) == 0 then Some (without_return (before_first is_line_feed text)) else None) else Some text

-- U:P as the one line of a file
abbrev pub login_in_file : Text → Option Login
login_in_file text = option_and_then login_in (line_in text)

-- one of both is given
abbrev pub source_by : Option Text → Option Text → Option LoginSource
source_by (Some user) None = option_map (λ (l : Login). in_words l) (login_in user)
source_by None (Some file) = Some (in_file file)
source_by None None = None
source_by (Some user) (Some file) = None

abbrev pub init_by : Option Text → Option Text → Option Text → Option Job
init_by (Some path) (Some size) (Some rdb) = option_map (λ (n : ℕ). init path n rdb) (number_in size)
init_by path size rdb = None

abbrev pub pipe_by : Option Text → Option Text → Option Text → Option Text → Option Job
pipe_by path (Some rdb) user file = option_map (λ (l : LoginSource). pipe path rdb l) (source_by user file)
pipe_by path None user file = None

-- the count, where one is given, is a number
abbrev pub counted : Option Text → Option (Option ℕ)
counted None = Some None
counted (Some text) = option_map (λ (n : ℕ). Some n) (number_in text)

-- the seconds, where some are given
abbrev pub timed : Option Text → Option (Option ℕ)
timed None = Some None
timed (Some text) = option_map (λ (n : ℕ). Some n) (seconds_in text)

-- whether a flag is given
abbrev pub is_given : Option Text → Bool
is_given None = false
is_given (Some text) = bytes_eq text (codes "true")

-- the seconds until the database is opened, the bytes that are kept for cursors, and those that are kept for all
abbrev pub limits_with : Option ℕ → Option ℕ → Option ℕ → Option Limits
limits_with (Some login) (Some cursor_bytes) (Some all_bytes) = Some (record { login = login; cursor_bytes = cursor_bytes; all_bytes = all_bytes })
limits_with login cursor_bytes all_bytes = None

abbrev pub limits_by : Option Text → Option Text → Option Text → Option Limits
limits_by (Some login) (Some cursor_bytes) (Some all_bytes) = limits_with (seconds_in login) (number_in cursor_bytes) (number_in all_bytes)
limits_by login cursor_bytes all_bytes = None

abbrev pub options_with : Option (Option ℕ) → Option (Option ℕ) → Option Limits → Bool → Bool → Option ServeOptions
options_with (Some count) (Some idle) (Some limits) is_logged ends_when_failed =
    Some (record { count = count; idle = idle; login = limits.login; cursor_bytes = limits.cursor_bytes; all_bytes = limits.all_bytes; is_logged = is_logged; ends_when_failed = ends_when_failed })
options_with count idle limits is_logged ends_when_failed = None

abbrev pub options_by : Option Text → Option Text → Option Limits → Option Text → Option Text → Option ServeOptions
options_by count idle limits log end_when_failed = options_with (counted count) (timed idle) limits (is_given log) (is_given end_when_failed)

abbrev pub serve_with : Text → Option ℕ → Option LoginSource → Option ServeOptions → Option Job
serve_with path (Some port) (Some login) (Some options) = Some (serve path port login options)
serve_with path port login options = None

abbrev pub serve_by : Option Text → Option Text → Option Text → Option Text → Option ServeOptions → Option Job
serve_by (Some path) (Some port) user file options = serve_with path (port_in port) (source_by user file) options
serve_by path port user file options = None

abbrev pub in_doubt_by : Option Text → Option Job
in_doubt_by path = option_map (λ (p : Text). in_doubt p) path

-- how a unit is decided
abbrev pub decision_in : Text → Option Decision
decision_in text = if bytes_eq text (codes "commit") then Some Commit else (if bytes_eq text (codes "rollback") then Some RollBack else None)

abbrev pub decide_with : Text → Option (List ℕ) → Text → Option Job
decide_with path (Some xid) decision = option_map (λ (d : Decision). decide path xid d) (decision_in decision)
decide_with path None decision = None

-- an XID in one word, and the decision; or an XID in three words, and the decision
abbrev pub decide_in : Text → Text → Text → Option Text → Option Text → Option Job
decide_in path xid decision None None = decide_with path (xid_in_one xid) decision
decide_in path format global (Some branch) (Some decision) = decide_with path (xid_said format global branch) decision
decide_in path xid decision branch last = None

abbrev pub decide_by : Option Text → Option Text → Option Text → Option Text → Option Text → Option Job
decide_by (Some path) (Some xid) (Some decision) branch last = decide_in path xid decision branch last
decide_by path xid decision branch last = None

abbrev pub room_by : Option Text → Option Job
room_by path = option_map (λ (p : Text). room p) path

abbrev pub check_by : Option Text → Option Job
check_by path = option_map (λ (p : Text). check p) path

abbrev pub tables_by : Option Text → Option Job
tables_by path = option_map (λ (p : Text). tables p) path

abbrev pub dump_by : Option Text → Option Job
dump_by path = option_map (λ (p : Text). dump p) path

abbrev pub grow_by : Option Text → Option Text → Option Text → Option Job
grow_by (Some path) (Some new) (Some size) = option_map (λ (n : ℕ). grow path new n) (number_in size)
grow_by path new size = None

-- ---- what words say

abbrev pub value : List Row → Text → Option Text
value rows id = first_of id rows

abbrev pub said_to : Text → List Row → Option Job
said_to name rows =
    if bytes_eq name (codes "init") then init_by (value rows (codes "path")) (value rows (codes "size")) (value rows (codes "rdb"))
    else (if bytes_eq name (codes "pipe") then pipe_by (value rows (codes "path")) (value rows (codes "rdb")) (value rows (codes "user")) (value rows (codes "user-file"))
    else (if bytes_eq name (codes "serve") then serve_by (value rows (codes "path")) (value rows (codes "port")) (value rows (codes "user")) (value rows (codes "user-file")) (options_by (value rows (codes "count")) (value rows (codes "idle")) (limits_by (value rows (codes "login")) (value rows (codes "cursor-bytes")) (value rows (codes "all-bytes"))) (value rows (codes "log")) (value rows (codes "end-when-failed")))
    else (if bytes_eq name (codes "indoubt") then in_doubt_by (value rows (codes "path"))
    else (if bytes_eq name (codes "decide") then decide_by (value rows (codes "path")) (value rows (codes "xid")) (value rows (codes "decision")) (value rows (codes "branch")) (value rows (codes "last"))
    else (if bytes_eq name (codes "room") then room_by (value rows (codes "path"))
    else (if bytes_eq name (codes "check") then check_by (value rows (codes "path"))
    else (if bytes_eq name (codes "tables") then tables_by (value rows (codes "path"))
    else (if bytes_eq name (codes "dump") then dump_by (value rows (codes "path"))
    else (if bytes_eq name (codes "grow") then grow_by (value rows (codes "path")) (value rows (codes "new")) (value rows (codes "size"))
    else (if bytes_eq name (codes "version") then Some version else None))))))))))

abbrev pub said_by : Kinds → Option (Text × List Row) → Option Job
said_by [] (Some sub) = said_to sub.0 sub.1
said_by [] None = None
said_by (kind ∷ kinds) sub = None

-- the job that words ask for, the program's name before them
abbrev pub said : List Text → Option Job
said words = said_by (faults words) (given words)
