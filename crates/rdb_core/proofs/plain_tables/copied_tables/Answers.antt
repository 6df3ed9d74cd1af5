use Rattle.paged_tables.specs.declared.stored_table.JudgedRows.{JudgedRows}
use Rattle.paged_tables.specs.PagedTables.{store_in}
use Rattle.std.proofs.Common.{refl, subst}
use Rattle.paged_tables.specs.TablesByName.{Tables}
use Rattle.rdb_core.proofs.Along.{failed_at_last, none_read, read_on, refused_at_last}
use Rattle.rdb_core.proofs.Copying.{IsCopying, none_copied, one_copied}
use Rattle.rdb_core.proofs.plain_tables.copied_tables.Goals as goal

pub loop-table-init : goal.loop-table-init
loop-table-init g c = record {
  copying = none_copied (store_in c.args.tables.now) c.args.tables.now.tables g.S.Source.is_told c.lend-left.result c.new-view.result refl c.lend-left.ensures.tables c.new-view.ensures;
  read = none_read g.S.Source.reads c.args.source.now;
  holds = c.requires;
}

pub returns-in_err-rows-clause-source : goal.returns-in_err-rows-clause-source
returns-in_err-rows-clause-source g c =
    failed_at_last g.S.Source.reads g.S.Source.fails_to_read JudgedRows c.from_residual.result c.in_err-rows.field-0.0 c.args.source.now c.loop-table.source c.rows.new.self c.from_residual.ensures.1 c.loop-table.invariant.read c.in_err-rows.ensures.read

pub returns-in_err-add_table-clause-source : goal.returns-in_err-add_table-clause-source
returns-in_err-add_table-clause-source g c =
    refused_at_last g.S.Source.reads g.S.Source.fails_to_read c.from_residual-in_err-add_table.result c.args.source.now c.rows.new.self c.from_residual-in_err-add_table.ensures.1
    (read_on g.S.Source.reads c.args.source.now c.loop-table.source c.rows.new.self c.loop-table.invariant.read c.in_ok-rows.ensures.read)

pub loop-table-preserved : goal.loop-table-preserved
loop-table-preserved g c =
    let store = store_in c.args.tables.now in
    let first = c.in-Some.ensures.0 in
    let left = c.next_table.new.self in
    let copying = subst (λ (ts : Tables). IsCopying store ts g.S.Source.is_told c.loop-table.view) c.in-Some.ensures.2 c.loop-table.invariant.copying in
    let lent = c.in-Some.ensures.1 in
    record {
      copying = one_copied store c.lend-left.ensures.good first left g.S.Source.is_told c.loop-table.view copying c.in-Some.table.name.now c.in-Some.table.schema.now c.in_ok-rows.field-0.rows c.add_table.new.view lent.name lent.schema
          (λ told. c.in_ok-rows.ensures.rows told) c.in_ok-add_table.ensures;
      read = read_on g.S.Source.reads c.args.source.now c.loop-table.source c.rows.new.self c.loop-table.invariant.read c.in_ok-rows.ensures.read;
      holds = g.met.S.Source.still_holds c.loop-table.source c.rows.new.self c.args.tables.now.tables c.in_ok-rows.ensures.read c.loop-table.invariant.holds;
    }
