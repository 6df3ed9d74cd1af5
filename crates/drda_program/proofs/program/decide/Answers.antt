use Rattle.std.proofs.Common.{Err, Ok, inl, refl, rules}
use Rattle.drda_program.proofs.Decided.{decides, said}
use Rattle.drda_program.proofs.program.decide.Goals as goal

pub returns-in_err-core : goal.returns-in_err-core
returns-in_err-core g c = inl (c.in_err-core.field-0.0, search rules, c.in_err-core.ensures, refl)

pub returns-in_err-decide_on : goal.returns-in_err-decide_on
returns-in_err-decide_on g c =
    decides g.F.Disk.Disk.is_modelled g.F.Disk.Disk.life g.F.StoreFiles.calls c.args.path.now c.args.xid.now c.args.decision c.args.files.now c.open_file.new.files c.in_ok-core.core c.decide_on.new.core c.in_ok-core.ensures c.decide_on.ensures.journaled
    (Err c.in_err-decide_on.field-0.0) _ _ _ c.in_err-decide_on.ensures.ends (search rules, refl)

pub returns : goal.returns
returns g c =
    decides g.F.Disk.Disk.is_modelled g.F.Disk.Disk.life g.F.StoreFiles.calls c.args.path.now c.args.xid.now c.args.decision c.args.files.now c.open_file.new.files c.in_ok-core.core c.decide_on.new.core c.in_ok-core.ensures c.decide_on.ensures.journaled
    (Ok tt) _ _ _ c.in_ok-decide_on.ensures.ends (said _ _ c.tell.result c.tell.ensures.told c.tell.ensures.cause)
