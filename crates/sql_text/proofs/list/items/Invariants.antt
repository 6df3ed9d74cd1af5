use Rattle.std.proofs.Common.{◌≡◌, ◌-◌}
use Rattle.sql_lex.specs.Markers.{markers_of}
use Rattle.sql_lex.specs.Tokens.{tokens_ahead}
use Rattle.sql_text.specs.Rules.{items, items_from}
use Rattle.sql_text.proofs.list.items.Given as goal

abbrev pub invariant-loop-turn : goal.invariant-loop-turn
invariant-loop-turn g l = record {
  same : items g.T.ListItem.item_at g.T.ListItem.more_at (tokens_ahead l.fn.cursor) ≡ items_from g.T.ListItem.item_at g.T.ListItem.more_at (l.turns - l._turn) l.found (tokens_ahead l.rest);
  markers : markers_of l.rest ≡ markers_of l.fn.cursor;
}
