-- What a predicate says of a row: one of three truth values.
use Rattle.std.specs.Prelude.{Bool, true, false, not, ◌||◌, ◌==◌, if◌then◌else◌, List, [], ◌∷◌, Option, Some, None}
use Rattle.std.specs.Ordering.{is_eq, is_ne, is_lt, is_le, is_gt, is_ge}
use Rattle.std.specs.declared.cmp.Ordering.{Ordering}
use Rattle.sql_lex.specs.declared.token.Comparison.{Comparison}
use Rattle.sql_lex.specs.declared.token.Comparison.TheVariants as op
use Rattle.sql_text.specs.declared.tree.Predicate.{Predicate}
use Rattle.sql_text.specs.declared.tree.Predicate.TheOpen.{Predicate-F}
use Rattle.sql_text.specs.declared.tree.Predicate.TheFolds.{fold-Predicate}
use Rattle.row_values.specs.Value.{Value, class_of, value_cmp}
use Rattle.row_values.specs.Column.{Column}
use Rattle.sql_semantics.specs.Values.{named_value, term_value}
use Rattle.sql_semantics.specs.declared.truth.Truth.{Truth}
use Rattle.sql_semantics.specs.declared.truth.Truth.TheVariants.{Holds, Fails, Unknown}

abbrev pub negated : Truth → Truth
negated Holds = Fails
negated Fails = Holds
negated Unknown = Unknown

-- AND
abbrev pub both : Truth → Truth → Truth
both Fails q = Fails
both Holds q = q
both Unknown Fails = Fails
both Unknown q = Unknown

-- OR
abbrev pub either : Truth → Truth → Truth
either Holds q = Holds
either Fails q = q
either Unknown Holds = Holds
either Unknown q = Unknown

abbrev pub all_of : List Truth → Truth
all_of [] = Holds
all_of (t ∷ ts) = both t (all_of ts)

abbrev pub any_of : List Truth → Truth
any_of [] = Fails
any_of (t ∷ ts) = either t (any_of ts)

abbrev pub holds : Truth → Bool
holds Holds = true
holds Fails = false
holds Unknown = false

abbrev pub truth_of : Bool → Truth
truth_of true = Holds
truth_of false = Fails

-- the test of a comparison
abbrev pub passes : Comparison → Ordering → Bool
passes op.Equal o = is_eq o
passes op.NotEqual o = is_ne o
passes op.Less o = is_lt o
passes op.LessEqual o = is_le o
passes op.Greater o = is_gt o
passes op.GreaterEqual o = is_ge o

abbrev pub is_null : Value → Bool
is_null v = class_of v == 0

-- with NULL it is unknown
unfoldable pub compared : Comparison → Value → Value → Truth
compared c a b = if is_null a || is_null b then Unknown else truth_of (passes c (value_cmp a b))

module _ (params : List Value) (columns : List Column) (values : List Value) where
  -- one part of a predicate, by the truth of the parts in it
  abbrev pub layer_truth : Predicate-F Truth → Truth
  layer_truth (Predicate-F.Any ts) = any_of ts
  layer_truth (Predicate-F.All ts) = all_of ts
  layer_truth (Predicate-F.Not t) = negated t
  layer_truth (Predicate-F.Group t) = t
  layer_truth (Predicate-F.Compare a c b) = compared c (term_value params columns values a) (term_value params columns values b)
  layer_truth (Predicate-F.IsNull name negative) = truth_of (if negative then not (is_null (named_value columns values name)) else is_null (named_value columns values name))

  -- a predicate, of a row with these values
  unfoldable pub truth : Predicate → Truth
  truth = fold-Predicate Truth layer_truth

  -- a row matches where the predicate is true
  abbrev pub matches : Option Predicate → Bool
  matches None = true
  matches (Some p) = holds (truth p)
