-- The text of a statement, the words of its attributes and the values of its markers, as a command brings
-- them (DRDA V5 volume 3: SQLSTT, SQLATTR, SQLDTA).
use Rattle.std.specs.Prelude.{◌==◌, ◌||◌, ◌&&◌, nat_le, nat_lt, ℕ, Bool, true, false, if◌then◌else◌, codes, List, [], ◌∷◌, length, Option, Some, None, Result, Ok, Err}
use Rattle.std.specs.List.{filter, slice_split}
use Rattle.std.specs.Option.{option_and_then, option_map_or}
use Rattle.std.specs.Str.{is_utf8, str_eq_ignore_ascii_case}
use Rattle.sql_text.specs.Text.{reading}
use Rattle.sql_text.specs.declared.error.SqlError.{SqlError}
use Rattle.sql_text.specs.declared.error.SqlError.TheVariants as error
use Rattle.sql_text.specs.declared.tree.Command.{Command}
use Rattle.sql_text.specs.declared.tree.Command.TheVariants as command
use Rattle.sql_text.specs.declared.tree.Statement.{Statement}
use Rattle.row_values.specs.Value.{Value}
use Rattle.fdoca.specs.Calls.{most_fields}
use Rattle.fdoca.specs.Reading.{descriptor_at, row_at}
use Rattle.core_calls.specs.declared.sql_fault.SqlFault.{SqlFault}
use Rattle.core_calls.specs.declared.sql_fault.SqlFault.TheVariants as fault
use Rattle.drda_commands.specs.Values.{DescribedData}

-- ---- the statement that a text is

abbrev pub text_fault : SqlError → SqlFault
text_fault (error.SqlText at) = fault.Syntax
text_fault error.Limit = fault.LimitReached
text_fault error.KeyUnknown = fault.ColumnUnknown
text_fault error.NoMemory = fault.LimitReached

abbrev pub told : Result Statement SqlError → Result Statement SqlFault
told (Ok s) = Ok s
told (Err e) = Err (text_fault e)

-- its length is judged first, and then that it is UTF-8
abbrev pub statement_of : List ℕ → Result Statement SqlFault
statement_of text =
    if nat_lt 32767 (length text) then Err fault.LimitReached
    else (if is_utf8 text then told (reading text) else Err fault.Syntax)

abbrev pub is_select : Command → Bool
is_select (command.Select named table filter) = true
is_select _ = false

-- ---- WITH HOLD

abbrev pub is_blank : ℕ → Bool
is_blank b = (b == 0x20) || (b == 0x09) || (b == 0x0A) || (b == 0x0D)

abbrev pub is_word : List ℕ → Bool
is_word [] = false
is_word (b ∷ bytes) = true

-- what stands between blanks
abbrev pub words : List ℕ → List (List ℕ)
words text = filter is_word (slice_split is_blank text)

abbrev pub begins_with_hold : List (List ℕ) → Bool
begins_with_hold [] = false
begins_with_hold (word ∷ others) = str_eq_ignore_ascii_case word (codes "HOLD")

-- WITH stands there, and HOLD next behind it, in letters of either case
abbrev pub has_with_hold : List (List ℕ) → Bool
has_with_hold [] = false
has_with_hold (word ∷ others) =
    (str_eq_ignore_ascii_case word (codes "WITH") && begins_with_hold others) || has_with_hold others

-- whether attributes, where some come, ask for cursors that are held over a commit
abbrev pub is_held_by : Option (List ℕ) → Bool
is_held_by attributes = option_map_or (λ text. has_with_hold (words text)) attributes false

-- ---- the values of markers

abbrev pub row_of : Option (List ℕ) → Option (List ℕ) → Option (List Value)
row_of (Some description) (Some values) =
    option_and_then (λ fields. if nat_le (length fields) most_fields then row_at fields values else None) (descriptor_at description)
row_of _ _ = None

-- none where no SQLDTA comes; of any other form there are no values
abbrev pub values_of : Option DescribedData → Option (List Value)
values_of None = Some []
values_of (Some sent) = row_of sent.description sent.values
