use Rattle.std.proofs.Common.{inl, inr, subst, sym}
use Rattle.recovery.specs.Journaled.{Journaled, shown_on}
use Rattle.core_calls.specs.Call.{call_of}
use Rattle.core_history.specs.Books.{Told}
use Rattle.core_history.specs.declared.acted.Acted.TheVariants.{Answered}
use Rattle.shared_node.specs.Turns.{MayFulfil, TakesTurn}
use Rattle.shared_node.proofs.Turning.{asked_as_seen, at_once, collected_at_last}
use Rattle.shared_node.proofs.held.Held.act.Goals as goal

pub returns-in_default-clause-turn : goal.returns-in_default-clause-turn
returns-in_default-clause-turn g c =
    subst (λ (b : Told g.row.D.Denot). TakesTurn {D = g.row.D.Denot} g.D.Disk.is_modelled g.D.Disk.life c.args.pass.now (call_of c.args.call.now) c.act.result c.act.new.pass b c.act.new.self) c.self.view_is
    (at_once {D = g.row.D.Denot} g.D.Disk.is_modelled g.D.Disk.life c.answers_belong_to_calls.ensures.belong c.answers_belong_to_calls.ensures.excuses c.self.inside.book c.act.new.self c.args.pass.now c.act.new.pass (call_of c.args.call.now) c.act.result
    c.is_kept.ensures (inl c.act.ensures.acts))

pub returns-in-Some-collect-clause-turn : goal.returns-in-Some-collect-clause-turn
returns-in-Some-collect-clause-turn g c =
    subst (λ (b : Told g.row.D.Denot). TakesTurn {D = g.row.D.Denot} g.D.Disk.is_modelled g.D.Disk.life c.args.pass.now (call_of c.args.call.now) (Answered c.in-Some-collect.answer) c.collect.new.pass b c.collect.new.self) c.self.view_is
    (at_once {D = g.row.D.Denot} g.D.Disk.is_modelled g.D.Disk.life c.answers_belong_to_calls.ensures.belong c.answers_belong_to_calls.ensures.excuses c.self.inside.book c.collect.new.self c.args.pass.now c.collect.new.pass (call_of c.args.call.now)
    (Answered c.in-Some-collect.answer) c.is_kept.ensures (inr (_, c.requires _ c.in-Some.is, c.in-Some-collect.ensures.some)))

pub returns-in-Some-collect-2-clause-turn : goal.returns-in-Some-collect-2-clause-turn
returns-in-Some-collect-2-clause-turn g c =
    let waited = subst (λ (b : Told g.row.D.Denot). MayFulfil {D = g.row.D.Denot} g.D.Disk.life c.collect.new.self b) (sym c.self-2.view_is) c.fulfil.ensures.fulfils in
    subst (λ (b : Told g.row.D.Denot). TakesTurn {D = g.row.D.Denot} g.D.Disk.is_modelled g.D.Disk.life c.args.pass.now (call_of c.args.call.now) (Answered c.in-Some-collect-2.answer) c.collect-2.new.pass b c.collect-2.new.self) c.self.view_is
    (collected_at_last {D = g.row.D.Denot} g.D.Disk.is_modelled g.D.Disk.life c.answers_belong_to_calls.ensures.belong c.answers_belong_to_calls.ensures.excuses c.self.inside.book c.collect.new.self c.self-2.inside.book c.collect-2.new.self c.args.pass.now
    c.collect.new.pass c.collect-2.new.pass _ (call_of c.args.call.now) c.in-Some-collect-2.answer c.is_kept-2.ensures (c.collect.ensures.none c.in_default-collect.is) waited (c.requires _ c.in-Some.is) c.in-Some-collect-2.ensures.some)

pub returns-clause-turn : goal.returns-clause-turn
returns-clause-turn g c =
    subst (λ (b : Told g.row.D.Denot). TakesTurn {D = g.row.D.Denot} g.D.Disk.is_modelled g.D.Disk.life c.args.pass.now (call_of c.args.call.now) c.act-2.result c.act-2.new.pass b c.act-2.new.self) c.self.view_is
    (asked_as_seen {D = g.row.D.Denot} g.D.Disk.is_modelled g.D.Disk.life c.answers_belong_to_calls.ensures.belong c.answers_belong_to_calls.ensures.excuses c.self.inside.book c.collect.new.self c.self-2.inside.book c.fulfil.new.self c.collect-2.new.self c.act-2.new.self c.args.pass.now
    c.collect.new.pass c.collect-2.new.pass c.act-2.new.pass _ (call_of c.args.call.now) c.act-2.result c.self-2.view_is c.is_kept.ensures c.is_kept-2.ensures (c.collect.ensures.none c.in_default-collect.is) c.fulfil.ensures.fulfils c.fulfil.ensures.stands
    (c.collect-2.ensures.none c.in_default-collect-2.is) c.act-2.ensures.acts)

pub returns-clause-journaled : goal.returns-clause-journaled
returns-clause-journaled g c =
    let both = c.calls_go_on.ensures.both g.D.Disk.is_modelled in
    let first = c.self.inside.book.core in
    let together = c.self-2.inside.book.core in
    let again = c.collect-2.new.self.core in
    let made = subst (λ (b : Told g.row.D.Denot). Journaled g.D.Disk.is_modelled (shown_on {D = g.row.D.Denot} g.D.Disk.life c.collect.new.self.core) (shown_on {D = g.row.D.Denot} g.D.Disk.life b.core)) (sym c.self-2.view_is) c.fulfil.ensures.journaled in
    subst (λ (b : Told g.row.D.Denot). Journaled g.D.Disk.is_modelled (shown_on {D = g.row.D.Denot} g.D.Disk.life b.core) (shown_on {D = g.row.D.Denot} g.D.Disk.life c.act-2.new.self.core)) c.self.view_is
    (both first again c.act-2.new.self.core
    (both first together again (both first c.collect.new.self.core together c.collect.ensures.journaled made) c.collect-2.ensures.journaled) c.act-2.ensures.journaled)
