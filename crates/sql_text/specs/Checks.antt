-- What is checked of a statement behind its grammar.
use Rattle.std.specs.Prelude.{ℕ, Bool, false, not, ◌||◌, if◌then◌else◌, ◌==◌, nat_lt, List, [], ◌∷◌, ◌++◌, length, Option, Some, None}
use Rattle.std.specs.List.{list_any}
use Rattle.std.specs.Str.{str_eq_ignore_ascii_case}
use Rattle.sql_text.specs.declared.check.Refusal.{Refusal}
use Rattle.sql_text.specs.declared.check.Refusal.TheVariants as refusal
use Rattle.sql_text.specs.declared.draft.DraftType.{DraftType}
use Rattle.sql_text.specs.declared.draft.DraftType.TheVariants as column
use Rattle.sql_text.specs.declared.draft.DraftColumn.{DraftColumn}
use Rattle.sql_text.specs.declared.draft.DraftKey.{DraftKey}
use Rattle.sql_text.specs.declared.tree.Columns.TheVariants as columns
use Rattle.sql_text.specs.declared.draft.Draft.{Draft}
use Rattle.sql_text.specs.declared.draft.Draft.TheVariants as draft

-- two names are the same whatever the case of their letters
abbrev pub same_name : List ℕ → List ℕ → Bool
same_name = str_eq_ignore_ascii_case

-- ---- limits

-- a length is at most 2,000
abbrev pub is_too_long : DraftType → Bool
is_too_long (column.VarChar n left) = nat_lt 2000 n
is_too_long (column.VarBinary n left) = nat_lt 2000 n
is_too_long _ = false

-- at most 64 columns and 4 columns of the key, or 64 selected names
abbrev pub is_too_large : Draft → Bool
is_too_large (draft.Create table definitions key) = nat_lt 64 (length definitions) || nat_lt 4 (length key) || list_any (λ d. is_too_long d.column_type) definitions
is_too_large (draft.Select (columns.Named names) table filter) = nat_lt 64 (length names)
is_too_large _ = false

-- ---- tables to be made

-- the place of a length that is 0
abbrev pub empty_at : DraftType → Option ℕ
empty_at (column.VarChar n left) = if n == 0 then Some left else None
empty_at (column.VarBinary n left) = if n == 0 then Some left else None
empty_at _ = None

abbrev pub or_else : {A : Type 0} → Option A → Option A → Option A
or_else (Some a) o = Some a
or_else None o = o

-- the first length that is 0
abbrev pub first_empty : List DraftColumn → Option ℕ
first_empty [] = None
first_empty (d ∷ ds) = or_else (empty_at d.column_type) (first_empty ds)

-- the place of the first item whose name is one of an earlier item
abbrev pub first_repeat : {A : Type 0} → (A → List ℕ) → (A → ℕ) → List A → List A → Option ℕ
first_repeat name left before [] = None
first_repeat name left before (x ∷ xs) = if list_any (λ y. same_name (name y) (name x)) before then Some (left x) else first_repeat name left (before ++ x ∷ []) xs

abbrev pub repeated_column : List DraftColumn → Option ℕ
repeated_column ds = first_repeat (λ d. d.name) (λ d. d.left) [] ds

abbrev pub repeated_key : List DraftKey → Option ℕ
repeated_key ks = first_repeat (λ k. k.name) (λ k. k.left) [] ks

abbrev pub is_column : List DraftColumn → List ℕ → Bool
is_column ds name = list_any (λ d. same_name d.name name) ds

-- the key has a column that the table has not
abbrev pub has_unknown : List DraftColumn → List DraftKey → Bool
has_unknown ds ks = list_any (λ k. not (is_column ds k.name)) ks

abbrev pub wrong_at : Option ℕ → Option Refusal → Option Refusal
wrong_at (Some left) r = Some (refusal.Wrong left)
wrong_at None r = r

-- a length of 0, then a column twice, a column of the key twice, and a column of the key that is none
unfoldable pub table_refusal : List DraftColumn → List DraftKey → Option Refusal
table_refusal ds ks =
    wrong_at (first_empty ds) (wrong_at (repeated_column ds) (wrong_at (repeated_key ks) (if has_unknown ds ks then Some refusal.KeyUnknown else None)))

abbrev pub command_refusal : Draft → Option Refusal
command_refusal (draft.Create table definitions key) = table_refusal definitions key
command_refusal _ = None

-- why a statement with so many markers is refused: a limit comes before all else
unfoldable pub refusal_of : ℕ → Draft → Option Refusal
refusal_of markers c = if nat_lt 128 markers || is_too_large c then Some refusal.Limit else command_refusal c
