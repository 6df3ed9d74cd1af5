-- Rows of a schema in the order of their keys, and how they are judged one by one.
use Rattle.std.specs.Prelude.{◌≡◌, ◌&&◌, ℕ, Bool, List, [], ◌∷◌, Option, Some, None, map, true}
use Rattle.std.specs.List.{AllByRecursion, list_all}
use Rattle.std.specs.Ordering.{is_lt}
use Rattle.drda_words.specs.Bytes.{AreBytes}
use Rattle.drda_words.specs.Order.{rises}
use Rattle.row_values.specs.Key.{key_cmp, row_key}
use Rattle.row_values.specs.Row.{is_row}
use Rattle.row_values.specs.Schema.{Schema}

-- rows of the schema whose keys rise
abbrev pub do_rise : Schema → List (List ℕ) → Bool
do_rise schema rows = list_all (is_row schema) rows && rises (key_cmp schema) (map (row_key schema) rows)

-- rows of the schema, as bytes have them, whose keys rise
pub record AreJudged (schema : Schema) (rows : List (List ℕ)) : Type 0 where
  pub rise : do_rise schema rows ≡ true
  pub bytes : AllByRecursion AreBytes rows

-- ---- one row behind another

-- of two rows of the schema the first one's key comes first
abbrev pub comes_before : Schema → List ℕ → List ℕ → Bool
comes_before schema first second = is_lt (key_cmp schema (row_key schema first) (row_key schema second))

-- a row comes behind the last one, where there is one
abbrev pub is_behind : Schema → Option (List ℕ) → List ℕ → Bool
is_behind schema None row = true
is_behind schema (Some last) row = comes_before schema last row

-- rows go on behind the last one: each is one of the schema, and comes behind the one before
abbrev pub go_on : Schema → Option (List ℕ) → List (List ℕ) → Bool
go_on schema last [] = true
go_on schema last (row ∷ rows) = is_row schema row && (is_behind schema last row && go_on schema (Some row) rows)
