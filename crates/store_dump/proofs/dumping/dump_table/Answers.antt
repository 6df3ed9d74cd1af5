use Rattle.std.proofs.Common.{ℕ, List, ap₂, refl, subst}
use Rattle.std.specs.Io.KnownBytes.{Appends}
use Rattle.paged_tables.specs.Stored.{rows_in}
use Rattle.table_map.specs.Table.{without_keys}
use Rattle.store_dump.specs.Dump.{HasFront, rows_text, table_line, table_text}
use Rattle.store_dump.proofs.Going.{failed, front_behind, front_of_front}
use Rattle.store_dump.proofs.Lent.{stand_lent, text_lent}
use Rattle.store_dump.proofs.dumping.dump_table.Goals as goal

pub returns-in_err-write_table-clause-told : goal.returns-in_err-write_table-clause-told
returns-in_err-write_table-clause-told g c e lent honest on =
    let contents = g.W.Write.contents in
    let before = contents c.args.out.now in
    let now = contents c.write_table.new.out in
    let rows = without_keys (rows_in e.1) in
    failed (table_text e.0 e.1.schema rows) c.from_residual.result before now c.from_residual.ensures.0
    (front_of_front (table_text e.0 e.1.schema rows) (table_line e.0 e.1.schema) (rows_text e.0 e.1.schema 0 rows) before now refl
    (subst (λ (t : List ℕ). HasFront t before now) (ap₂ table_line lent.name lent.schema) c.in_err-write_table.ensures))

pub returns-in_err-write_rows-clause-told : goal.returns-in_err-write_rows-clause-told
returns-in_err-write_rows-clause-told g c e lent honest on =
    let contents = g.W.Write.contents in
    let file = (g.D.Disk.life c.args.disk.now).seen in
    let before = contents c.args.out.now in
    let mid = contents c.write_table.new.out in
    let now = contents c.write_rows.new.out in
    let rows = without_keys (rows_in e.1) in
    failed (table_text e.0 e.1.schema rows) c.from_residual-in_err-write_rows.result before now c.from_residual-in_err-write_rows.ensures.0
    (front_behind (table_text e.0 e.1.schema rows) (table_line e.0 e.1.schema) (rows_text e.0 e.1.schema 0 rows) before mid now refl
    (subst (λ (t : List ℕ). Appends before mid t) (ap₂ table_line lent.name lent.schema) c.in_ok-write_table.ensures)
    (subst (λ (t : List ℕ). HasFront t mid now) (text_lent e c.args.table.now file lent on) (c.in_err-write_rows.ensures.told on.pages honest (stand_lent e c.args.table.now file lent on))))
