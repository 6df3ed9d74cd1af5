use Rattle.session_commands.proofs.Appending.{kept_mid, on_err}
use Rattle.session_commands.proofs.reply.write_accrdbrm.Goals as goal

pub returns-in_err-write_name-2-clause-err : goal.returns-in_err-write_name-2-clause-err
returns-in_err-write_name-2-clause-err c =
    let next = c.write_name-2.new.out.items in
    on_err _ (kept_mid c.args.out.now c.open.new.out next _ c.in_ok-container.ensures.ok
    (kept_mid c.open.new.out c.put.new.out next _ c.in_ok-put.ensures.ok
    (kept_mid c.put.new.out c.write_name.new.out next _ c.in_ok-write_name.ensures.ok c.in_err-write_name-2.ensures.err)))

pub returns-in_err-write_ccsids-clause-err : goal.returns-in_err-write_ccsids-clause-err
returns-in_err-write_ccsids-clause-err c =
    let next = c.write_ccsids.new.out.items in
    on_err _ (kept_mid c.args.out.now c.open.new.out next _ c.in_ok-container.ensures.ok
    (kept_mid c.open.new.out c.put.new.out next _ c.in_ok-put.ensures.ok
    (kept_mid c.put.new.out c.write_name.new.out next _ c.in_ok-write_name.ensures.ok
    (kept_mid c.write_name.new.out c.write_name-2.new.out next _ c.in_ok-write_name-2.ensures.ok c.in_err-write_ccsids.ensures.err))))
