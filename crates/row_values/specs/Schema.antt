-- Schemas: the columns of a table, and the places of its key columns.
use Rattle.std.specs.Prelude.{ℕ, Bool, true, false, List, [], ◌∷◌, length, ◌&&◌, ◌||◌, not, ◌==◌, nat_le, nat_lt, nat_eq, bytes_eq, Option, Some, None}
use Rattle.std.specs.List.{list_all, list_any, slice_get, filter_map}
use Rattle.row_values.specs.declared.column.Kind.{Kind}
use Rattle.row_values.specs.declared.column.Kind.TheVariants.{SmallInt, Integer, BigInt, VarChar, VarBinary}
use Rattle.row_values.specs.Column.{Column}

-- a schema; the key columns stand in the order of PRIMARY KEY
pub record Schema : Type 0 where
  pub columns : List Column
  pub key : List ℕ

abbrev pub is_capital : ℕ → Bool
is_capital c = nat_le 65 c && nat_le c 90

abbrev pub goes_on_name : ℕ → Bool
goes_on_name c = is_capital c || (nat_le 48 c && nat_le c 57) || (c == 95)

-- a letter, then letters, digits and `_`, at most 30 bytes, in capitals
abbrev pub is_name : List ℕ → Bool
is_name [] = false
is_name (c ∷ cs) = is_capital c && list_all goes_on_name cs && nat_le (length cs) 29

-- texts and bytes have a length from 1 to 2,000, numbers have none
abbrev pub is_limit : Kind → ℕ → Bool
is_limit SmallInt limit = limit == 0
is_limit Integer limit = limit == 0
is_limit BigInt limit = limit == 0
is_limit VarChar limit = nat_lt 0 limit && nat_le limit 2000
is_limit VarBinary limit = nat_lt 0 limit && nat_le limit 2000

abbrev pub is_column : Column → Bool
is_column column = is_name column.name && is_limit column.kind column.limit

-- no item equals a later one
abbrev pub no_repeat : {A : Type 0} → (A → A → Bool) → List A → Bool
no_repeat eq [] = true
no_repeat eq (x ∷ xs) = not (list_any (eq x) xs) && no_repeat eq xs

-- a key column takes no NULL
abbrev pub can_be_key : Option Column → Bool
can_be_key None = false
can_be_key (Some column) = not column.is_nullable

abbrev pub same_name : Column → Column → Bool
same_name a b = bytes_eq a.name b.name

abbrev pub are_columns : List Column → Bool
are_columns columns = nat_le (length columns) 64 && list_all is_column columns && no_repeat same_name columns

abbrev pub is_key_of : List Column → List ℕ → Bool
is_key_of columns key = nat_lt 0 (length key) && nat_le (length key) 4 && list_all (λ place. can_be_key (slice_get columns place)) key && no_repeat nat_eq key

-- at most 64 columns of different names, and 1 to 4 of them as the key
abbrev pub is_schema : Schema → Bool
is_schema schema = are_columns schema.columns && is_key_of schema.columns schema.key

-- the items at these places
abbrev pub picked : {A : Type 0} → List A → List ℕ → List A
picked xs places = filter_map (slice_get xs) places

-- the key columns, in the order of PRIMARY KEY
abbrev pub key_columns : Schema → List Column
key_columns schema = picked schema.columns schema.key
