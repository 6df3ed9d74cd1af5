use Rattle.std.proofs.Common.{◌≡◌, None, length, map, true}
use Rattle.std.specs.Prelude.{IsTrue}
use Rattle.std.specs.List.{AllByRecursion}
use Rattle.drda_words.specs.Bytes.{AreBytes}
use Rattle.drda_disk.specs.Disk.{Stays}
use Rattle.table_map.specs.Keyed.{copied}
use Rattle.store_check.specs.Judging.{go_on, last_key}
use Rattle.store_check.proofs.Judged.{AreNoted}
use Rattle.store_check.proofs.table.check_table.Given as goal

abbrev pub invariant-loop-page : goal.invariant-loop-page
invariant-loop-page g l = record {
  stays : Stays (g.D.Disk.life l.fn.pager) (g.D.Disk.life l.pager);
  faults : (g.D.Disk.life l.pager).faults ≡ (g.D.Disk.life l.fn.pager).faults;
  many : length l.first_keys.items ≡ l.page;
  rising : go_on l.schema (g.K.RowKeys.key_of l.keys) None l.rows.listed.value ≡ true;
  bytes : AllByRecursion AreBytes l.rows.listed.value;
  last : copied l.last ≡ last_key (g.K.RowKeys.key_of l.keys) None l.rows.listed.value;
  noted : IsTrue g.D.Disk.is_modelled
      → AreNoted l.schema (g.K.RowKeys.key_of l.keys) (g.D.Disk.life l.fn.pager).seen l.at l.page (map (λ k. k.items) l.first_keys.items) (copied l.last) l.rows.listed.value;
}
