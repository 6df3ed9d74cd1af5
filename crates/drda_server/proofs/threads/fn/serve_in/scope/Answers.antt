use denote.Exit.{no}
use denote.Param.{param}
use denote.Param.Send.{arg_send, param_send, shr_send}
use Rattle.std.proofs.Common.{rules, ◌≡◌, ◌∙◌, ap, Some, None, List, slice_set}
use Rattle.core_history.proofs.pass.Pass.TheSendSync as pass_sends
use Rattle.drda_server.specs.Threads.{IsAttended}
use Rattle.drda_server.proofs.Sending.{five_send, hall_sync, peer_send}
use Rattle.drda_server.proofs.Settling.{all_served, begins, kept_so, served_here, served_there, turned_away}
use Rattle.drda_server.proofs.threads.fn.serve_in.scope.Goals as goal
use Rattle.drda_server.proofs.threads.fn.serve_in.scope.Goals.{in-None, in-Some+in_default}

pub serving-init : goal.serving-init
serving-init g c = begins _ _ _ _ c.in_ok-threads.threads.items c.captures.streams.now c.in_ok-threads.ensures

pub serving-preserved-in_default-welcome : goal.serving-preserved-in_default-welcome
serving-preserved-in_default-welcome g c =
    let given : g.S.Streams.gives c.serving.streams (Some (c.in-Some-next.reader, c.in-Some-next.writer)) c.next-in-serving.new.self = search rules in
    turned_away _ _ _ _ c.serving.threads.items c.captures.streams.now c.serving.streams c.next-in-serving.new.self _ _ c.serving.invariant given (c.welcome.ensures.none c.in_default-welcome.is)

pub serving-preserved-in-Ok : goal.serving-preserved-in-Ok
serving-preserved-in-Ok g c =
    let given : g.S.Streams.gives c.serving.streams (Some (c.in-Some-next.reader, c.in-Some-next.writer)) c.next-in-serving.new.self = search rules in
    let made = c.in-Ok.ensures.ok in
    served_there _ _ _ _ c.serving.threads.items c.captures.streams.now c.serving.streams c.next-in-serving.new.self c.in-Some-welcome.pass c.in-Some-next.reader c.in-Some-next.writer c.serving.invariant given c.in-Some-welcome.ensures.some c.place-place.result c.place-place.ensures c.join_at.ensures.kept c.put_at.new.threads.items
    c.in-Ok.thread (c.put_at.ensures ∙ ap (λ ts. slice_set ts c.place-place.result (Some c.in-Ok.thread)) c.join_at.ensures.emptied)
    (λ kept. record { leave = c.in-Some-welcome.ensures.given; attended = kept_so (IsAttended g.D.Disk.is_modelled g.D.Disk.life g.B.Origin.is g.S.Reader.Read.remaining g.S.Writer.Write.contents) _ _ _ _ _ _ _ _ (ap (λ p. p.settings.value) made ∙ c.new-attendance.ensures.settings) (ap (λ p. p.pass.value) made ∙ c.new-attendance.ensures.pass) (ap (λ p. p.reader.value) made ∙ c.new-attendance.ensures.reader) (ap (λ p. p.writer.value) made ∙ c.new-attendance.ensures.writer) kept })

pub serving-preserved : goal.serving-preserved
serving-preserved g c =
    let given : g.S.Streams.gives c.serving.streams (Some (c.in-Some-next.reader, c.in-Some-next.writer)) c.next-in-serving.new.self = search rules in
    let attended : IsAttended g.D.Disk.is_modelled g.D.Disk.life g.B.Origin.is g.S.Reader.Read.remaining g.S.Writer.Write.contents c.captures.hall.now.settings.now c.in-Some-welcome.pass c.in-Some-next.reader c.in-Some-next.writer = (c.spawn_with-in-Err.result, search rules) in
    served_here _ _ _ _ c.serving.threads.items c.captures.streams.now c.serving.streams c.next-in-serving.new.self c.in-Some-welcome.pass c.in-Some-next.reader c.in-Some-next.writer c.serving.invariant given c.in-Some-welcome.ensures.some c.place-place.result c.place-place.ensures c.join_at.ensures.kept c.join_at.new.threads.items
    c.join_at.ensures.emptied (record { leave = c.in-Some-welcome.ensures.given; attended = attended })

pub returns : goal.returns
returns g c = elim c.match-next.branch [
  | in-None w ↦ absurd (cc w.in-None.ensures.steps)
  | in-Some+in_default w ↦
      let none : g.S.Streams.gives c.serving.streams None w.next-in-serving.new.self = search rules in
      all_served _ _ _ _ c.serving.threads.items c.captures.streams.now c.serving.streams w.next-in-serving.new.self c.serving.invariant none c.join_all.ensures
]

pub spawn_with-requires-send-F : goal.spawn_with-requires-send-F
spawn_with-requires-send-F g c κs within =
    let hall = hall_sync _ (param 0 g.row.D) (param 1 g.row.B) (param 2 g.row.R) (param 3 g.row.G) (param 4 g.row.L) _ g.D.Disk g.B.Origin c.requires.3 c.requires.0 c.requires.1 c.requires.2 c.requires.5 in
    param_send 2 _ (arg_send _ no _ (five_send _ _ _ _ _ _ (shr_send _ _ _ hall) pass_sends.the_send peer_send c.requires.4 c.requires.5))
