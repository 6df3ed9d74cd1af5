use Rattle.std.proofs.Common.{◌≡◌, ◌++◌}
use Rattle.std.specs.List.{AllByRecursion}
use Rattle.drda_words.specs.Bytes.{AreBytes}
use Rattle.table_map.specs.Keyed.{copied}
use Rattle.store_check.specs.Judging.{go_on, last_key}
use Rattle.store_check.proofs.rows.are_rows.Given as goal

abbrev pub invariant-loop-row : goal.invariant-loop-row
invariant-loop-row g l = record {
  next : (goal.iterator-loop-row g).can_next l.rows;
  finite : (goal.iterator-loop-row g).is_finite l.rows;
  good : go_on l.schema (g.K.RowKeys.key_of l.keys) (copied l.last) l.rows ≡ go_on l.schema (g.K.RowKeys.key_of l.keys) (copied l.fn.last) l.page.rows;
  last : last_key (g.K.RowKeys.key_of l.keys) (copied l.last) l.rows ≡ last_key (g.K.RowKeys.key_of l.keys) (copied l.fn.last) l.page.rows;
  bytes : AllByRecursion AreBytes l.rows → AllByRecursion AreBytes l.page.rows;
  noted : l.noted.listed.value ++ l.rows ≡ l.fn.noted.listed.value ++ l.page.rows;
}
