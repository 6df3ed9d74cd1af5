use Rattle.std.proofs.Common.{◌≡◌, ◌-◌, ◌+◌, ◌*◌}
use Rattle.sql_lex.specs.Markers.{markers_of}
use Rattle.sql_lex.specs.Tokens.{tokens_ahead}
use Rattle.sql_lex.specs.declared.terminal.Terminal.TheVariants as w
use Rattle.sql_text.specs.Reading.{take_fixed}
use Rattle.sql_text.specs.Rules.{items, items_from, all_at, neg_at}
use Rattle.sql_text.proofs.predicate.+grammar.Given as goal

abbrev pub decreases-all : goal.decreases-all
decreases-all l = 4 * l.depth + 1

abbrev pub decreases-any : goal.decreases-any
decreases-any l = 4 * l.depth + 2

abbrev pub decreases-neg : goal.decreases-neg
decreases-neg l = 4 * l.depth

abbrev pub decreases-level : goal.decreases-level
decreases-level l = 4 * l.depth + 3

abbrev pub invariant-all-loop-turn : goal.invariant-all-loop-turn
invariant-all-loop-turn l = record {
  same : items (neg_at l.depth) (take_fixed w.And) (tokens_ahead l.fn.cursor) ≡ items_from (neg_at l.depth) (take_fixed w.And) (l.turns - l._turn) l.found (tokens_ahead l.rest);
  markers : markers_of l.rest ≡ markers_of l.fn.cursor;
}

abbrev pub invariant-any-loop-turn : goal.invariant-any-loop-turn
invariant-any-loop-turn l = record {
  same : items (all_at (neg_at l.depth)) (take_fixed w.Or) (tokens_ahead l.fn.cursor) ≡ items_from (all_at (neg_at l.depth)) (take_fixed w.Or) (l.turns - l._turn) l.found (tokens_ahead l.rest);
  markers : markers_of l.rest ≡ markers_of l.fn.cursor;
}
