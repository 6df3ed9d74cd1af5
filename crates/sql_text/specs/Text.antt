-- What a text is answered.
use Rattle.std.specs.Prelude.{ℕ, ◌-◌, List, length, Option, Some, None, Result, Ok, Err}
use Rattle.sql_lex.specs.Markers.{markers_in}
use Rattle.sql_lex.specs.Tokens.{tokens}
use Rattle.sql_text.specs.Checks.{refusal_of}
use Rattle.sql_text.specs.Plain.{command}
use Rattle.sql_text.specs.Reading.{Parsed}
use Rattle.sql_text.specs.Rules.{command_at}
use Rattle.sql_text.specs.declared.check.Refusal.{Refusal}
use Rattle.sql_text.specs.declared.check.Refusal.TheVariants as refusal
use Rattle.sql_text.specs.declared.fault.Fault.{Fault}
use Rattle.sql_text.specs.declared.fault.Fault.TheVariants as fault
use Rattle.sql_text.specs.declared.error.SqlError.{SqlError}
use Rattle.sql_text.specs.declared.error.SqlError.TheVariants as error
use Rattle.sql_text.specs.declared.draft.Draft.{Draft}
use Rattle.sql_text.specs.declared.tree.Statement.{Statement}

-- want of memory may come in place of any answer
abbrev pub but_memory : SqlError → Option SqlError
but_memory (error.SqlText at) = Some (error.SqlText at)
but_memory error.Limit = Some error.Limit
but_memory error.KeyUnknown = Some error.KeyUnknown
but_memory error.NoMemory = None

-- a place as the number of bytes before it, in a text of so many bytes
abbrev pub refusal_error : ℕ → Refusal → SqlError
refusal_error len refusal.Limit = error.Limit
refusal_error len (refusal.Wrong left) = error.SqlText (len - left)
refusal_error len refusal.KeyUnknown = error.KeyUnknown

abbrev pub fault_error : ℕ → Fault → SqlError
fault_error len (fault.Unexpected left) = error.SqlText (len - left)
fault_error len fault.Deep = error.Limit
fault_error len fault.Memory = error.NoMemory

abbrev pub statement : ℕ → Draft → Statement
statement markers d = record { command = command d; markers = markers }

abbrev pub answer_by : ℕ → ℕ → Draft → Option Refusal → Result Statement SqlError
answer_by len markers c None = Ok (statement markers c)
answer_by len markers c (Some r) = Err (refusal_error len r)

-- what a text is answered that is this statement
unfoldable pub answer : List ℕ → Draft → Result Statement SqlError
answer text c = answer_by (length text) (markers_in (tokens text)) c (refusal_of (markers_in (tokens text)) c)

abbrev pub outcome_answer : List ℕ → Parsed Draft → Result Statement SqlError
outcome_answer text (Ok x) = answer text x.0
outcome_answer text (Err f) = Err (fault_error (length text) f)

-- what a text is answered, by how it is read
unfoldable pub reading : List ℕ → Result Statement SqlError
reading text = outcome_answer text (command_at (tokens text))
