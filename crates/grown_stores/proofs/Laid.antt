-- What stands on a disk once the head and the gate of the second half are written.
use Rattle.std.proofs.Common.{◌≡◌, ◌∙◌, sym, ap, subst, ℕ, ◌+◌, ◌<◌, ◌≤◌, List, [], ◌∷◌, length, drop, get_or, add-zero, arith, refl}
use Rattle.std.proofs.lemmas.List.{get_or-drop, get_or-take}
use Rattle.drda_words.specs.Place.{part}
use Rattle.drda_disk.specs.Disk.{Torn, overlaid}
use Rattle.drda_disk.specs.Images.{Torn-overlaid}
use Rattle.drda_disk.proofs.Parts.{part_after, part_before, part-overlaid}

byte_in : (file : List ℕ) (at n i : ℕ) → i < n → get_or (part file at n) i 0 ≡ get_or file (at + i) 0
byte_in file at n i low = get_or-take n (drop at file) i 0 low ∙ get_or-drop at file i 0

module _ (mid now head : List ℕ) (at : ℕ) (front : 8 + length head ≤ 8192) (behind : 8192 ≤ at) (inside : at < length mid) (written : now ≡ overlaid (overlaid mid 8 head) at (0 ∷ [])) where
  cut_head : Torn 8 (length head) mid (overlaid mid 8 head)
  cut_head = Torn-overlaid mid 8 head (omega (arith, front, behind, inside))

  cut_gate : Torn at 1 (overlaid mid 8 head) now
  cut_gate = subst (λ (f : List ℕ). Torn at 1 (overlaid mid 8 head) f) (sym written) (Torn-overlaid (overlaid mid 8 head) at (0 ∷ []) (omega (arith, inside, cut_head.size)))

  pub head_there : part now 8 (length head) ≡ head
  head_there = part_before (overlaid mid 8 head) now at 8 (length head) cut_gate.before (omega (arith, front, behind)) ∙ part-overlaid mid 8 head (omega (arith, front, behind, inside))

  pub between : (i n : ℕ) → 8192 ≤ i → i + n ≤ at → part now i n ≡ part mid i n
  between i n low high = part_before (overlaid mid 8 head) now at i n cut_gate.before high ∙ part_after mid (overlaid mid 8 head) (8 + length head) i n cut_head.after (omega (arith, front, low))

  pub gate_there : get_or now at 0 ≡ 0
  gate_there =
      let one : part now at 1 ≡ 0 ∷ [] = ap (λ (f : List ℕ). part f at 1) written ∙ part-overlaid (overlaid mid 8 head) at (0 ∷ []) (omega (arith, inside, cut_head.size)) in
      ap (λ k. get_or now k 0) (sym (add-zero at)) ∙ sym (byte_in now at 1 0 (omega arith)) ∙ ap (λ (f : List ℕ). get_or f 0 0) one
