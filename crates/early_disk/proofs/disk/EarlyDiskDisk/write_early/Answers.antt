use Rattle.std.proofs.Common.{rules, ◌≡◌, ◌∙◌, ℕ, ◌+◌, IsTrue, true, List, [], ◌∷◌, length, slice_index_or, ap, subst, sym, arith}
use Rattle.std.specs.Prelude.{Option, None}
use Rattle.drda_words.specs.Place.{part}
use Rattle.drda_disk.specs.Disk.{Now, Torn, overlaid}
use Rattle.early_disk.specs.Early.{IsShown, Parts}
use Rattle.early_disk.specs.Shown.{Shown, shown_life}
use Rattle.early_disk.specs.declared.early.EarlyByte.{EarlyByte}
use Rattle.early_disk.proofs.Showing.{shown_early}
use Rattle.early_disk.proofs.disk.EarlyDiskDisk.write_early.Goals as goal

pub invariant_of-self-in_err-written : goal.invariant_of-self-in_err-written
invariant_of-self-in_err-written g c =
    let D = g.D.Disk in
    let v = c.self.inside in
    let s = v.shown.disk.value in
    let none : v.early ≡ None = ap (λ (p : Parts g.row.D.Denot). p.early) c.self.view_is ∙ c.in_ok-take_back.ensures.none in
    let same : s ≡ c.args.self.now.shown = ap (λ (p : Parts g.row.D.Denot). p.shown) c.self.view_is ∙ c.in_ok-take_back.ensures.shown in
    let was = subst (λ (early : Option EarlyByte). IsShown {D = g.row.D.Denot} D.is_modelled D.life g.P.EarlyRule.allows v.inner early v.is_settled s) none c.self.invariant in
    let read : IsTrue D.is_modelled → part (D.life v.inner).seen c.args.at 1 ≡ slice_index_or c.read_at.new.into 0 0 ∷ [] = search rules in
    let written : c.is_ok.result ≡ true → IsTrue D.is_modelled → (D.life c.write_at-written.new.self).seen ≡ overlaid (D.life c.read_at.new.self).seen c.args.at (c.args.byte ∷ []) = search rules in
    shown_early D.is_modelled D.life g.P.EarlyRule.allows v.inner c.read_at.new.self c.write_at-written.new.self v.is_settled s _ (D.life c.args.self.now.inner).faults was
    (omega (arith, c.requires.inside, ap (λ (x : Shown g.row.D.Denot). length x.seen) same)) c.in_ok-read_at.ensures.stays read c.write_at-written.ensures.tears
    (subst (λ (x : Shown g.row.D.Denot). IsTrue D.is_modelled → (d image : List ℕ) → Now (shown_life D.is_modelled D.life x (D.life c.args.self.now.inner).faults) d → Torn c.args.at 1 d image → g.P.EarlyRule.allows d image) (sym same) c.requires.allowed)
    written

pub invariant_of-self-2 : goal.invariant_of-self-2
invariant_of-self-2 g c =
    let D = g.D.Disk in
    let v = c.self.inside in
    let s = v.shown.disk.value in
    let none : v.early ≡ None = ap (λ (p : Parts g.row.D.Denot). p.early) c.self.view_is ∙ c.in_ok-take_back.ensures.none in
    let same : s ≡ c.args.self.now.shown = ap (λ (p : Parts g.row.D.Denot). p.shown) c.self.view_is ∙ c.in_ok-take_back.ensures.shown in
    let was = subst (λ (early : Option EarlyByte). IsShown {D = g.row.D.Denot} D.is_modelled D.life g.P.EarlyRule.allows v.inner early v.is_settled s) none c.self.invariant in
    let read : IsTrue D.is_modelled → part (D.life v.inner).seen c.args.at 1 ≡ slice_index_or c.read_at.new.into 0 0 ∷ [] = search rules in
    let written : c.is_ok.result ≡ true → IsTrue D.is_modelled → (D.life c.write_at-written.new.self).seen ≡ overlaid (D.life c.read_at.new.self).seen c.args.at (c.args.byte ∷ []) = search rules in
    shown_early D.is_modelled D.life g.P.EarlyRule.allows v.inner c.read_at.new.self c.write_at-written.new.self v.is_settled s _ (D.life c.args.self.now.inner).faults was
    (omega (arith, c.requires.inside, ap (λ (x : Shown g.row.D.Denot). length x.seen) same)) c.in_ok-read_at.ensures.stays read c.write_at-written.ensures.tears
    (subst (λ (x : Shown g.row.D.Denot). IsTrue D.is_modelled → (d image : List ℕ) → Now (shown_life D.is_modelled D.life x (D.life c.args.self.now.inner).faults) d → Torn c.args.at 1 d image → g.P.EarlyRule.allows d image) (sym same) c.requires.allowed)
    written
