use Rattle.std.proofs.Common.{◌≡◌, ◌≢◌, ◌+◌, ◌<◌, ◌≤◌, length, get_or, refl, sym, ◌∙◌, ap, subst, arith}
use Rattle.drda_disk.specs.Disk.{Torn}
use Rattle.drda_disk.proofs.Moments.{weaker}
use Rattle.half_store.specs.Layout.{half_len, offset_of, other_than}
use Rattle.half_store.specs.Opened.{store_of}
use Rattle.half_store.specs.Writing.{IsKept}
use Rattle.half_store.proofs.Kept.{gate_inside, half_inside, closing_kept, begun_within, begun_active}
use Rattle.half_store.proofs.begin.begin_image.Goals as goal

pub returns-in_err-close_gate-clause-any_moment : goal.returns-in_err-close_gate-clause-any_moment
returns-in_err-close_gate-clause-any_moment g c honest only active =
    let seen = (g.D.Disk.life c.args.disk.now).seen in
    let other = other_than c.args.active.now.half in
    let halves : c.half_bytes-half_bytes.result ≡ half_len (length seen) = c.half_bytes-half_bytes.ensures.len ∙ ap half_len c.size.ensures in
    let place : c.offset.result ≡ offset_of (half_len (length seen)) other =
    c.offset.ensures ∙ ap (λ k. offset_of c.half_bytes-half_bytes.result k) c.other-half.ensures ∙ ap (λ k. offset_of k other) halves in
    let large : 8192 < half_len (length seen) = omega (arith, c.half_bytes-half_bytes.ensures.large, halves) in
    let low : c.offset.result + 1 ≤ length seen = gate_inside (length seen) c.offset.result (half_len (length seen)) other place large (omega (arith, c.half_bytes-half_bytes.ensures.inside, halves, c.size.ensures)) in
    weaker _ _ _ _ (c.close_gate.ensures.any_moment honest only) (λ i closing. subst (λ k. IsKept seen (store_of c.args.active.now) k 1 i) place (closing_kept seen i (store_of c.args.active.now) c.offset.result active large place low closing))

pub returns-clause-any_moment : goal.returns-clause-any_moment
returns-clause-any_moment g c honest only active =
    let seen = (g.D.Disk.life c.args.disk.now).seen in
    let other = other_than c.args.active.now.half in
    let halves : c.half_bytes-half_bytes.result ≡ half_len (length seen) = c.half_bytes-half_bytes.ensures.len ∙ ap half_len c.size.ensures in
    let place : c.offset.result ≡ offset_of (half_len (length seen)) other =
    c.offset.ensures ∙ ap (λ k. offset_of c.half_bytes-half_bytes.result k) c.other-half.ensures ∙ ap (λ k. offset_of k other) halves in
    let large : 8192 < half_len (length seen) = omega (arith, c.half_bytes-half_bytes.ensures.large, halves) in
    let low : c.offset.result + 1 ≤ length seen = gate_inside (length seen) c.offset.result (half_len (length seen)) other place large (omega (arith, c.half_bytes-half_bytes.ensures.inside, halves, c.size.ensures)) in
    weaker _ _ _ _ (c.close_gate.ensures.any_moment honest only) (λ i closing. subst (λ k. IsKept seen (store_of c.args.active.now) k 1 i) place (closing_kept seen i (store_of c.args.active.now) c.offset.result active large place low closing))

pub returns-clause-begun : goal.returns-clause-begun
returns-clause-begun g c honest only active =
    let seen = (g.D.Disk.life c.args.disk.now).seen in
    let new = g.D.Disk.life c.close_gate.new.disk in
    let halves : c.half_bytes-half_bytes.result ≡ half_len (length seen) = c.half_bytes-half_bytes.ensures.len ∙ ap half_len c.size.ensures in
    let large : 8192 < half_len (length seen) = omega (arith, c.half_bytes-half_bytes.ensures.large, halves) in
    let torn = subst (λ k. Torn k 1 seen new.seen) c.offset.ensures c.close_gate.ensures.others in
    let shut = subst (λ k. get_or new.seen k 0 ≢ 165) c.offset.ensures (c.in_ok-close_gate.ensures.shut honest) in
    record {
      modelled_disk = honest;
      within = begun_within new _ _ c.in_ok-close_gate.ensures.durable;
      active = begun_active seen new.seen (store_of c.args.active.now) c.other-half.result c.half_bytes-half_bytes.result active large halves c.other-half.ensures torn shut;
      other = c.other-half.ensures;
      shut = shut;
      halves = halves ∙ ap half_len (sym torn.size);
      generation = c.following-generation.ensures;
    }

pub returns-clause-empty : goal.returns-clause-empty
returns-clause-empty g c =
    let low = half_inside c.size.result c.half_bytes-half_bytes.result c.other-half.result c.half_bytes-half_bytes.ensures.inside in
    record { none = refl; inside = omega (arith, low, c.size.ensures, c.close_gate.ensures.others.size) }
