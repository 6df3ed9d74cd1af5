use Rattle.std.specs.Prelude.{false, Option, Some}
use Rattle.std.proofs.Common.{subst}
use Rattle.early_disk.specs.Early.{IsShown}
use Rattle.early_disk.specs.declared.early.EarlyByte.{EarlyByte}
use Rattle.early_disk.proofs.Showing.{shown_again, shown_back, shown_reads}
use Rattle.early_disk.proofs.early.EarlyDisk.take_back.Goals as goal

pub invariant_of-self-2 : goal.invariant_of-self-2
invariant_of-self-2 g c =
    let D = g.D.Disk in
    let s = c.self.inside.shown.disk.value in
    let was = subst (λ (early : Option EarlyByte). IsShown {D = g.row.D.Denot} D.is_modelled D.life g.P.EarlyRule.allows c.self.inside.inner early c.self.inside.is_settled s) c.in-Some.is c.self.invariant in
    shown_back D.is_modelled D.life g.P.EarlyRule.allows c.self.inside.inner c.write_at.new.self c.sync.new.self c.in-Some.early c.self.inside.is_settled s was c.in_ok-write_at.ensures.tears c.in_ok-write_at.ensures.written c.in_ok-sync.ensures.stays c.in_ok-sync.ensures.durable

pub invariant_of-self-in_err-sync : goal.invariant_of-self-in_err-sync
invariant_of-self-in_err-sync g c =
    let D = g.D.Disk in
    let s = c.self.inside.shown.disk.value in
    let e = c.in-Some.early in
    let was = subst (λ (early : Option EarlyByte). IsShown {D = g.row.D.Denot} D.is_modelled D.life g.P.EarlyRule.allows c.self.inside.inner early c.self.inside.is_settled s) c.in-Some.is c.self.invariant in
    shown_reads D.is_modelled D.life g.P.EarlyRule.allows c.write_at.new.self c.sync.new.self (Some (record e { is_written = false })) false s c.in_err-sync.ensures.stays
    (shown_again D.is_modelled D.life g.P.EarlyRule.allows c.self.inside.inner c.write_at.new.self e c.self.inside.is_settled s c.in_ok-write_at.ensures.tears was)

pub invariant_of-self : goal.invariant_of-self
invariant_of-self g c =
    let D = g.D.Disk in
    let s = c.self.inside.shown.disk.value in
    let was = subst (λ (early : Option EarlyByte). IsShown {D = g.row.D.Denot} D.is_modelled D.life g.P.EarlyRule.allows c.self.inside.inner early c.self.inside.is_settled s) c.in-Some.is c.self.invariant in
    shown_again D.is_modelled D.life g.P.EarlyRule.allows c.self.inside.inner c.write_at.new.self c.in-Some.early c.self.inside.is_settled s c.write_at.ensures.tears was
