use Rattle.std.specs.Prelude.{IfSome, length}
use Rattle.std.proofs.Common.{◌∙◌, ◌⊎◌, ◌+◌, ◌≤◌, ap, subst, sym}
use Rattle.drda_words.specs.Place.{part}
use Rattle.early_disk.specs.Early.{Parts}
use Rattle.early_disk.specs.Shown.{Shown}
use Rattle.early_disk.specs.declared.early.EarlyByte.{EarlyByte}
use Rattle.early_disk.proofs.Showing.{read_shown}
use Rattle.early_disk.proofs.disk.EarlyDiskDisk.read_at.Goals as goal

pub returns-clause-read : goal.returns-clause-read
returns-clause-read g c is =
    let v = c.self.inside in
    let n = length c.args.into.now in
    let at = c.args.at in
    let apart = subst (λ (p : Parts g.row.D.Denot). IfSome p.early (λ (e : EarlyByte). (at + n ≤ e.at) ⊎ (e.at + 1 ≤ at))) (sym c.self.view_is) c.in_ok-clear.ensures.apart in
    c.in_ok-read_at.ensures.read is ∙ read_shown g.D.Disk.is_modelled g.D.Disk.life g.P.EarlyRule.allows v.inner v.early v.is_settled v.shown.disk.value c.self.invariant is at n apart
    ∙ ap (λ (p : Parts g.row.D.Denot). part p.shown.seen at n) c.self.view_is ∙ ap (λ (s : Shown g.row.D.Denot). part s.seen at n) c.in_ok-clear.ensures.shown
