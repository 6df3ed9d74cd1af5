use Rattle.std.proofs.Common.{List, ℕ, ◌++◌, Some, ap, ◌∙◌, arith}
use Rattle.ddm_objects.specs.Writing.{spelled}
use Rattle.ddm_objects.specs.declared.code_point.TheConstants.{EXCSATRD, EXTNAM, SRVCLSNM, SRVNAM, SRVRLSLV}
use Rattle.session_commands.specs.Replies.{levels_part}
use Rattle.session_commands.specs.declared.reply.TheConstants.{SERVER_NAME, SERVER_CLASS, RELEASE_LEVEL}
use Rattle.session_commands.proofs.Appending.{closed, joined, kept_mid, ok_so, on_err}
use Rattle.session_commands.proofs.reply.write_with_levels.Goals as goal

pub returns-in_err-write_levels-clause-err : goal.returns-in_err-write_levels-clause-err
returns-in_err-write_levels-clause-err c =
    let next = c.write_levels.new.out.items in
    on_err _ (kept_mid c.args.out.now c.open.new.out next _ c.in_ok-container.ensures.ok
    (kept_mid c.open.new.out c.write_external_name.new.out next _ c.in_ok-write_external_name.ensures.ok c.in_err-write_levels.ensures.err))

pub returns-in_err-write_server_names-clause-err : goal.returns-in_err-write_server_names-clause-err
returns-in_err-write_server_names-clause-err c =
    let next = c.write_server_names.new.out.items in
    on_err _ (kept_mid c.args.out.now c.open.new.out next _ c.in_ok-container.ensures.ok
    (kept_mid c.open.new.out c.write_external_name.new.out next _ c.in_ok-write_external_name.ensures.ok
    (kept_mid c.write_external_name.new.out c.write_levels.new.out next _ c.in_ok-write_levels.ensures.ok c.in_err-write_server_names.ensures.err)))

pub returns-clause-ok : goal.returns-clause-ok
returns-clause-ok c =
    let old : List ℕ = c.args.out.now.items in
    let name : List ℕ = spelled EXTNAM SERVER_NAME in
    let levels : List ℕ = levels_part (Some c.args.asked.now) in
    let class : List ℕ = spelled SRVCLSNM SERVER_CLASS in
    let server : List ℕ = spelled SRVNAM SERVER_NAME in
    let release : List ℕ = spelled SRVRLSLV RELEASE_LEVEL in
    let parts = c.in_ok-write_server_names.ensures.ok
    ∙ ap (λ (z : List ℕ). z ++ class ++ server ++ release) (c.in_ok-write_levels.ensures.ok
    ∙ ap (λ (z : List ℕ). z ++ levels) (c.in_ok-write_external_name.ensures.ok ∙ ap (λ (z : List ℕ). z ++ name) c.in_ok-container.ensures.ok))
    ∙ joined _ name levels class server release in
    ok_so c.close.result
    (closed EXCSATRD c.in_ok-container.container.code c.in_ok-container.container.at old c.write_server_names.new.out.items c.close.new.out.items (name ++ levels ++ class ++ server ++ release)
    (omega (arith, c.in_ok-container.ensures.opened.0, c.args.out.now.ok.0)) c.in_ok-container.ensures.opened.1 parts)
    c.close.ensures.ok
