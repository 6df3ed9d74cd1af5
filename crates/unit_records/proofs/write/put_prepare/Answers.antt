use Rattle.std.proofs.Common.{map}
use Rattle.std.proofs.lemmas.Result.{err_from_is_err_and}
use Rattle.tables.proofs.PlainTables.{on_err}
use Rattle.tables.specs.ChangeView.{change_of}
use Rattle.unit_records.proofs.Lengths.{few_code_changes, few_in_prepare, kept_behind}
use Rattle.unit_records.proofs.write.put_prepare.Goals as goal

pub put_claims-requires : goal.put_claims-requires
put_claims-requires c = (few_in_prepare c.args.xid.now (map change_of c.args.changes.now) c.args.claims.now c.requires).0

pub put_changes-requires : goal.put_changes-requires
put_changes-requires c = few_code_changes c.args.changes.now (few_in_prepare c.args.xid.now (map change_of c.args.changes.now) c.args.claims.now c.requires).1

pub returns-in_err-put_claims-clause-err : goal.returns-in_err-put_claims-clause-err
returns-in_err-put_claims-clause-err c =
    let error = err_from_is_err_and c.from_residual-in_err-put_claims.result c.from_residual-in_err-put_claims.ensures.1 in
    rw error.1 (kept_behind c.args.out.now.items c.extend_from_slice.new.self.items c.put_claims.new.out.items _ c.in_ok-extend_from_slice.ensures.items c.in_err-put_claims.ensures.err)

pub returns-clause-err : goal.returns-clause-err
returns-clause-err c =
    on_err c.put_changes.result (λ kept. kept_behind c.args.out.now.items c.extend_from_slice.new.self.items c.put_changes.new.out.items _ c.in_ok-extend_from_slice.ensures.items
    (kept_behind c.extend_from_slice.new.self.items c.put_claims.new.out.items c.put_changes.new.out.items _ c.in_ok-put_claims.ensures.ok kept)) c.put_changes.ensures.err
