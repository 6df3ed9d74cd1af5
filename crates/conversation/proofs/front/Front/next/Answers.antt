use Rattle.std.proofs.Common.{Option, Result, inl, inr, rules, subst}
use Rattle.dss_frames.specs.declared.fault.FrameFault.{FrameFault}
use Rattle.dss_frames.specs.declared.group.Group.{Group}
use Rattle.dss_frames.specs.Fault.{FaultAt}
use Rattle.dss_frames.specs.Lending.{Takes, FailsAt}
use Rattle.conversation.specs.Held.{Held}
use Rattle.conversation.proofs.front.Front.next.Goals as goal

pub returns-in-Err : goal.returns-in-Err
returns-in-Err g c =
    let fails : FailsAt c.self.inside.segments c.in-Err.fault c.next.follows.lender-at-none =
    subst (λ (r : Result (Option Group) FrameFault). Takes c.self.inside.segments r c.next.follows.lender-at-none) c.in-Err.is c.next.follows.holds-at-none in
    let P : Held → Type 0 = λ h. FaultAt h.rest c.in-Err.fault in
    inr (inl (record {
      open_still = search rules;
      fault = c.in-Err.fault;
      there = subst P c.self.view_is fails.found;
      session = search rules;
      reply = search rules;
      settings = search rules;
      statements = search rules;
      unasked = search rules;
    }))
