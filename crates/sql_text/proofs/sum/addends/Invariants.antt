use Rattle.std.proofs.Common.{◌≡◌, ◌-◌}
use Rattle.sql_lex.specs.Markers.{markers_of}
use Rattle.sql_lex.specs.Tokens.{tokens_ahead}
use Rattle.sql_text.specs.Rules.{addends_at, addends_from}
use Rattle.sql_text.proofs.sum.addends.Given as goal

abbrev pub invariant-loop-turn : goal.invariant-loop-turn
invariant-loop-turn l = record {
  same : addends_at (tokens_ahead l.fn.cursor) ≡ addends_from (l.turns - l._turn) l.found (tokens_ahead l.rest);
  markers : markers_of l.rest ≡ markers_of l.fn.cursor;
}
