-- What a switch of halves leaves.
use Rattle.std.proofs.Common.{◌≡◌, ◌≢◌, inl, inr, ℕ, ◌+◌, ◌-◌, ◌<◌, ◌≤◌, Bool, true, false, cond, List, [], ◌∷◌, ◌++◌, length, take, get_or, Result, Ok, Err, refl, sym, ◌∙◌, ap, subst, arith, add-zero}
use Rattle.std.specs.Prelude.{◌==◌, nat_lt, IsTrue}
use Rattle.std.proofs.lemmas.Bool.{false≢true, cases_eq, lt-ltb, le-ltb}
use Rattle.std.proofs.lemmas.Bool.Decides.{eqb_tells}
use Rattle.std.proofs.lemmas.List.{drop_more}
use Rattle.drda_words.specs.Place.{part}
use Rattle.drda_disk.specs.Disk.{Life, Now, Within, LeavesOnly, Torn, overlaid}
use Rattle.drda_disk.specs.Images.{Torn-overlaid}
use Rattle.drda_disk.proofs.Moments.{weaker, and_then}
use Rattle.drda_disk.proofs.Parts.{part_before, part_after, part_outside, part-add, part-overlaid, Torn-wider, Torn-trans}
use Rattle.half_store.specs.Layout.{is_store_size, half_len, offset_of, other_than}
use Rattle.half_store.specs.Header.{half_in, is_inside}
use Rattle.half_store.specs.Active.{Store, Refusal, name_in, picked, with_half, with_name, active_of}
use Rattle.half_store.specs.Writing.{IsWriting, half_bytes_of, from_of}
use Rattle.half_store.specs.Switching.{header_of, switched, IsOldOrNew, IsBehindGate}
use Rattle.half_store.specs.Fresh.{zeros, header_bytes}
use Rattle.half_store.specs.declared.layout.Half.{Half}
use Rattle.half_store.specs.declared.layout.Half.TheVariants.{First, Second}
use Rattle.half_store.specs.declared.header.Header.{Header}
use Rattle.half_store.specs.declared.header.HalfState.{HalfState}
use Rattle.half_store.specs.declared.header.HalfState.TheVariants.{Closed, Unsound, Open}
use Rattle.half_store.specs.declared.image.ImageWriter.{ImageWriter}
use Rattle.half_store.proofs.Pages.{Fits, zeros_whole, half_open, byte_in_part}
use Rattle.half_store.proofs.Kept.{by_parts, state_at, by_parts_is, from_base, is_first, tag, off, when_sized, kept, kept_now, behind_kept, shut_is}

-- the bytes behind a gate, and then the gate
pub opening : (at n : ℕ) (base file bytes : List ℕ) (old mid new : Life) → LeavesOnly old mid (Torn (at + 1) n base) → mid.seen ≡ overlaid file (at + 1) bytes → LeavesOnly mid new (Torn at 1 mid.seen) → LeavesOnly old new (IsBehindGate at n base file bytes)
opening at n base file bytes old mid new first is second = and_then old mid new _ _ _ first second (λ c cut. inl cut) (λ c cut. inr (subst (λ (l : List ℕ). Torn at 1 l c) is cut))

-- ---- which half is picked

store_in : Store → Result Store Refusal → Store
store_in d (Ok s) = s
store_in d (Err e) = d

less_apart : (m n : ℕ) → m < n → (m == n) ≡ false
less_apart m n low = elim (eqb_tells m n) [ inl same ↦ absurd (omega (arith, same.1, low)) | inr differs ↦ differs.0 ]

more_apart : (m n : ℕ) → n < m → (m == n) ≡ false
more_apart m n low = elim (eqb_tells m n) [ inl same ↦ absurd (omega (arith, same.1, low)) | inr differs ↦ differs.0 ]

-- the second half, newer than the first one
second_newer : (n : List ℕ) (h : ℕ) (a new : Header) (s : Store) → with_half n (Ok (First, a)) ≡ Ok s → new.generation ≡ s.header.generation + 1 → with_half n (picked h (Open a) (Open new)) ≡ Ok (record { name = s.name; half = Second; header = new })
unfolding picked store_in
second_newer n h a new s is next =
    let gens : a.generation ≡ s.header.generation = ap (λ (r : Result Store Refusal). (store_in s r).header.generation) is in
    let make : List ℕ → Result Store Refusal = λ m. Ok (record { name = m; half = Second; header = new }) in
    ap (λ t. with_half n (cond t (Err (8192 + h)) (cond (nat_lt a.generation new.generation) (Ok (Second, new)) (Ok (First, a))))) (less_apart a.generation new.generation (omega (arith, gens, next)))
    ∙ ap (λ t. with_half n (cond t (Ok (Second, new)) (Ok (First, a)))) (lt-ltb a.generation new.generation (omega (arith, gens, next)))
    ∙ ap make (ap (λ (r : Result Store Refusal). (store_in s r).name) is)

-- the first, newer than the second
first_newer : (n : List ℕ) (h : ℕ) (b new : Header) (s : Store) → with_half n (Ok (Second, b)) ≡ Ok s → new.generation ≡ s.header.generation + 1 → with_half n (picked h (Open new) (Open b)) ≡ Ok (record { name = s.name; half = First; header = new })
unfolding picked store_in
first_newer n h b new s is next =
    let gens : b.generation ≡ s.header.generation = ap (λ (r : Result Store Refusal). (store_in s r).header.generation) is in
    let make : List ℕ → Result Store Refusal = λ m. Ok (record { name = m; half = First; header = new }) in
    ap (λ t. with_half n (cond t (Err (8192 + h)) (cond (nat_lt new.generation b.generation) (Ok (Second, b)) (Ok (First, new))))) (more_apart new.generation b.generation (omega (arith, gens, next)))
    ∙ ap (λ t. with_half n (cond t (Ok (Second, b)) (Ok (First, new)))) (le-ltb new.generation b.generation (omega (arith, gens, next)))
    ∙ ap make (ap (λ (r : Result Store Refusal). (store_in s r).name) is)

-- where the first one counted
second_picked : (name : Result (List ℕ) Refusal) (h : ℕ) (a b : HalfState) (s : Store) (new : Header) → with_name name (picked h a b) ≡ Ok s → s.half ≡ First → new.generation ≡ s.header.generation + 1
    → with_name name (picked h a (Open new)) ≡ Ok (record { name = s.name; half = Second; header = new })
unfolding picked tag is_first
second_picked (Err e) h a b s new is half next = absurd (false≢true (ap tag is ∙ ap is_first half))
second_picked (Ok n) h Unsound b s new is half next = absurd (false≢true (ap tag is ∙ ap is_first half))
second_picked (Ok n) h Closed Unsound s new is half next = absurd (false≢true (ap tag is ∙ ap is_first half))
second_picked (Ok n) h Closed Closed s new is half next = absurd (false≢true (ap tag is ∙ ap is_first half))
second_picked (Ok n) h Closed (Open b) s new is half next = absurd (false≢true (ap tag is ∙ ap is_first half))
second_picked (Ok n) h (Open a) Unsound s new is half next = absurd (false≢true (ap tag is ∙ ap is_first half))
second_picked (Ok n) h (Open a) Closed s new is half next = second_newer n h a new s is next
second_picked (Ok n) h (Open a) (Open b) s new is half next = second_newer n h a new s (by_tests (a.generation == b.generation) (nat_lt a.generation b.generation) is) next
  where
    by_tests : (same less : Bool) → with_half n (cond same (Err (8192 + h)) (cond less (Ok (Second, b)) (Ok (First, a)))) ≡ Ok s → with_half n (Ok (First, a)) ≡ Ok s
    by_tests true less was = absurd (false≢true (ap tag was ∙ ap is_first half))
    by_tests false true was = absurd (false≢true (ap tag was ∙ ap is_first half))
    by_tests false false was = was

-- where the second one counted
first_picked : (name : Result (List ℕ) Refusal) (h : ℕ) (a b : HalfState) (s : Store) (new : Header) → with_name name (picked h a b) ≡ Ok s → s.half ≡ Second → new.generation ≡ s.header.generation + 1
    → with_name name (picked h (Open new) b) ≡ Ok (record { name = s.name; half = First; header = new })
unfolding picked off is_first
first_picked (Err e) h a b s new is half next = absurd (false≢true (ap off is ∙ ap (λ k. is_first (other_than k)) half))
first_picked (Ok n) h Unsound b s new is half next = absurd (false≢true (ap off is ∙ ap (λ k. is_first (other_than k)) half))
first_picked (Ok n) h Closed Unsound s new is half next = absurd (false≢true (ap off is ∙ ap (λ k. is_first (other_than k)) half))
first_picked (Ok n) h Closed Closed s new is half next = absurd (false≢true (ap off is ∙ ap (λ k. is_first (other_than k)) half))
first_picked (Ok n) h Closed (Open b) s new is half next = first_newer n h b new s is next
first_picked (Ok n) h (Open a) Unsound s new is half next = absurd (false≢true (ap off is ∙ ap (λ k. is_first (other_than k)) half))
first_picked (Ok n) h (Open a) Closed s new is half next = absurd (false≢true (ap off is ∙ ap (λ k. is_first (other_than k)) half))
first_picked (Ok n) h (Open a) (Open b) s new is half next = first_newer n h b new s (by_tests (a.generation == b.generation) (nat_lt a.generation b.generation) is) next
  where
    by_tests : (same less : Bool) → with_half n (cond same (Err (8192 + h)) (cond less (Ok (Second, b)) (Ok (First, a)))) ≡ Ok s → with_half n (Ok (Second, b)) ≡ Ok s
    by_tests true less was = absurd (false≢true (ap off was ∙ ap (λ k. is_first (other_than k)) half))
    by_tests false true was = was
    by_tests false false was = absurd (false≢true (ap off was ∙ ap (λ k. is_first (other_than k)) half))

-- ---- the active half of an image

module _ (base image : List ℕ) (s : Store) (new : Header) (size : length image ≡ length base) (head : take 39 image ≡ take 39 base) (active : active_of base ≡ Ok s) (next : new.generation ≡ s.header.generation + 1) where
  -- the other half is open in the image with the next generation, and the one that counted is the base's
  second_new : s.half ≡ First → part image 8192 8192 ≡ part base 8192 8192 → state_at (half_len (length base)) image (8192 + half_len (length base)) ≡ Open new → active_of image ≡ Ok (record { name = s.name; half = Second; header = new })
  second_new half same opened =
      from_base base image size head
      ∙ ap (λ (l : List ℕ). by_parts (length base) (take 39 base) (half_in (half_len (length base)) l) (state_at (half_len (length base)) image (8192 + half_len (length base)))) same
      ∙ ap (λ b. by_parts (length base) (take 39 base) (state_at (half_len (length base)) base 8192) b) opened
      ∙ when_sized (is_store_size (length base)) _ s _ (sym (by_parts_is base) ∙ active) _
      (λ is. second_picked (name_in (length base) (take 39 base)) (half_len (length base)) (state_at (half_len (length base)) base 8192) (state_at (half_len (length base)) base (8192 + half_len (length base))) s new is half next)

  first_new : s.half ≡ Second → part image (8192 + half_len (length base)) 8192 ≡ part base (8192 + half_len (length base)) 8192 → state_at (half_len (length base)) image 8192 ≡ Open new → active_of image ≡ Ok (record { name = s.name; half = First; header = new })
  first_new half same opened =
      from_base base image size head
      ∙ ap (λ a. by_parts (length base) (take 39 base) a (state_at (half_len (length base)) image (8192 + half_len (length base)))) opened
      ∙ ap (λ (l : List ℕ). by_parts (length base) (take 39 base) (Open new) (half_in (half_len (length base)) l)) same
      ∙ when_sized (is_store_size (length base)) _ s _ (sym (by_parts_is base) ∙ active) _
      (λ is. first_picked (name_in (length base) (take 39 base)) (half_len (length base)) (state_at (half_len (length base)) base 8192) (state_at (half_len (length base)) base (8192 + half_len (length base))) s new is half next)

-- bytes of the other half change, and it is open then with the next generation
other_new : (base image : List ℕ) (s : Store) (i : ℕ) (half : Half) (new : Header) → s.half ≡ half → active_of base ≡ Ok s → 8192 < half_len (length base) → i ≡ offset_of (half_len (length base)) (other_than half)
    → Torn i (half_len (length base)) base image → state_at (half_len (length base)) image i ≡ Open new → new.generation ≡ s.header.generation + 1 → active_of image ≡ Ok (record { name = s.name; half = other_than half; header = new })
other_new base image s i First new half_is active large place torn opened next =
    second_new base image s new torn.size (part_before base image i 0 39 torn.before (omega (arith, place, large))) active next half_is (part_before base image i 8192 8192 torn.before (omega (arith, place, large)))
    (ap (λ k. state_at (half_len (length base)) image k) (sym place) ∙ opened)
other_new base image s i Second new half_is active large place torn opened next =
    first_new base image s new torn.size (part_before base image i 0 39 torn.before (omega (arith, place, large))) active next half_is
    (part_outside i (half_len (length base)) (8192 + half_len (length base)) 8192 base image torn (inr (omega (arith, place))))
    (ap (λ k. state_at (half_len (length base)) image k) (sym place) ∙ opened)

-- ---- the images of a switch

module _ (base file bytes : List ℕ) (s : Store) (i h : ℕ) (new : Header) (active : active_of base ≡ Ok s) (halves : h ≡ half_len (length base)) (large : 8192 < h) (place : i ≡ offset_of h (other_than s.half))
    (inside : i + h ≤ length file) (within : Torn (i + 1) (h - 1) base file) (shut : get_or base i 0 ≢ 165) (is : bytes ≡ header_bytes new ++ zeros 8167) (len : length bytes ≡ 8191)
    (fits : Fits new) (room : is_inside h new ≡ true) (next : new.generation ≡ s.header.generation + 1) where
  there : i ≡ offset_of (half_len (length base)) (other_than s.half)
  there = place ∙ ap (λ k. offset_of k (other_than s.half)) halves

  written : Torn (i + 1) (length bytes) file (overlaid file (i + 1) bytes)
  written = Torn-overlaid file (i + 1) bytes (omega arith)

  -- the image beside what was read, and beside the base
  beside_file : (c : List ℕ) → Torn i 1 (overlaid file (i + 1) bytes) c → Torn i 8192 file c
  beside_file c cut = Torn-trans i 8192 file (overlaid file (i + 1) bytes) c (Torn-wider (i + 1) (length bytes) i 8192 file (overlaid file (i + 1) bytes) (omega arith) (omega arith) written) (Torn-wider i 1 i 8192 (overlaid file (i + 1) bytes) c (omega arith) (omega arith) cut)

  beside_base : (c : List ℕ) → Torn i 1 (overlaid file (i + 1) bytes) c → Torn i h base c
  beside_base c cut = Torn-trans i h base file c (Torn-wider (i + 1) (h - 1) i h base file (omega arith) (omega arith) within) (Torn-wider i 8192 i h file c (omega arith) (omega arith) (beside_file c cut))

  page_is : (c : List ℕ) → Torn i 1 (overlaid file (i + 1) bytes) c → get_or c i 0 ≡ 165 → part c i 8192 ≡ 165 ∷ (header_bytes new ++ zeros 8167)
  page_is c cut opened =
      let gate : part c i 1 ≡ 165 ∷ [] = ap (λ (l : List ℕ). take 1 l) (drop_more c i 0 (omega (arith, cut.size, written.size))) ∙ ap (λ b. b ∷ []) opened in
      let behind : part c (i + 1) 8191 ≡ bytes = part_after (overlaid file (i + 1) bytes) c (i + 1) (i + 1) 8191 cut.after (omega arith) ∙ ap (λ n. part (overlaid file (i + 1) bytes) (i + 1) n) (sym len) ∙ part-overlaid file (i + 1) bytes (omega arith) in
      part-add c i 1 8191 ∙ ap (λ (l : List ℕ). l ++ part c (i + 1) 8191) gate ∙ ap (λ (l : List ℕ). 165 ∷ l) (behind ∙ is)

  state_is : (c : List ℕ) → Torn i 1 (overlaid file (i + 1) bytes) c → get_or c i 0 ≡ 165 → state_at h c i ≡ Open new
  state_is c cut opened = ap (λ (l : List ℕ). half_in h l) (page_is c cut opened) ∙ half_open h new (zeros 8167) fits room (zeros_whole 8167)

  -- with an open gate
  pub new_active : (c : List ℕ) → Torn i 1 (overlaid file (i + 1) bytes) c → get_or c i 0 ≡ 165 → active_of c ≡ Ok (record { name = s.name; half = other_than s.half; header = new })
  new_active c cut opened =
      other_new base c s i s.half new refl active (omega (arith, large, halves)) there (subst (λ k. Torn i k base c) halves (beside_base c cut)) (ap (λ k. state_at k c i) (sym halves) ∙ state_is c cut opened) next

  pub old_or_new : (c : List ℕ) → IsBehindGate i (h - 1) base file bytes c → IsOldOrNew base file s (record { name = s.name; half = other_than s.half; header = new }) i h c
  old_or_new c (inl cut) = inl (record { active = (behind_kept base c s i h active (omega (arith, large, halves)) halves place shut cut).active; others = Torn-wider (i + 1) (h - 1) i h base c (omega arith) (omega arith) cut })
  old_or_new c (inr cut) = elim (cases_eq (get_or c i 0) 165) [
    | inl opened ↦ inr (record { active = new_active c cut opened; others = beside_file c cut })
    | inr closed ↦ inl (record { active = kept base c s i h i s.half refl active (omega (arith, large, halves)) there (omega arith) (omega (arith, halves)) (beside_base c cut) (shut_is (get_or c i 0) closed); others = beside_base c cut })
  ]

-- what a switch of a writer leaves
module _ (modelled : Bool) (old : Life) (base bytes : List ℕ) (s : Store) (w : ImageWriter) (first catalogue at : ℕ) (writing : IsWriting modelled old base s w) (place : at ≡ from_of w) (read : Now old old.seen)
    (large : 8192 < half_bytes_of w) (inside : from_of w + half_bytes_of w ≤ length old.seen) (is : bytes ≡ header_bytes (header_of w first catalogue) ++ zeros 8167) (len : length bytes ≡ 8191)
    (fits : Fits (header_of w first catalogue)) (room : is_inside (half_bytes_of w) (header_of w first catalogue) ≡ true) where
  stands : from_of w ≡ offset_of (half_bytes_of w) (other_than s.half)
  stands = ap (λ half. offset_of (half_bytes_of w) half) writing.other

  within : Torn (from_of w + 1) (half_bytes_of w - 1) base old.seen
  within = writing.within old.seen read

  as_switched : Half → Store
  as_switched half = record { name = s.name; half = half; header = header_of w first catalogue }

  pub switch_moments : (new : Life) → ((n : ℕ) (first_base : List ℕ) → IsTrue modelled → length bytes ≤ n → Within (at + 1) n first_base old → LeavesOnly old new (IsBehindGate at n first_base old.seen bytes)) → LeavesOnly old new (IsOldOrNew base old.seen s (switched s w first catalogue) (from_of w) (half_bytes_of w))
  unfolding as_switched
  switch_moments new run =
      let at_gate : Within (at + 1) (half_bytes_of w - 1) base old = subst (λ k. Within (k + 1) (half_bytes_of w - 1) base old) (sym place) writing.within in
      weaker old new _ _ (subst (λ k. LeavesOnly old new (IsBehindGate k (half_bytes_of w - 1) base old.seen bytes)) place (run (half_bytes_of w - 1) base writing.modelled_disk (omega (arith, len, large)) at_gate))
      (λ c behind. subst (λ half. IsOldOrNew base old.seen s (as_switched half) (from_of w) (half_bytes_of w) c) (sym writing.other)
      (old_or_new base old.seen bytes s (from_of w) (half_bytes_of w) (header_of w first catalogue) writing.active writing.halves large stands inside within writing.shut is len fits room writing.generation c behind))

  pub switch_active : (image : List ℕ) → image ≡ overlaid (overlaid old.seen (at + 1) bytes) at (165 ∷ []) → active_of image ≡ Ok (switched s w first catalogue)
  unfolding as_switched
  switch_active image image_is =
      let mid : List ℕ = overlaid old.seen (from_of w + 1) bytes in
      let low : from_of w + 1 ≤ length mid = omega (arith, (Torn-overlaid old.seen (from_of w + 1) bytes (omega (arith, len, large, inside))).size, large, inside) in
      let same : image ≡ overlaid mid (from_of w) (165 ∷ []) = image_is ∙ ap (λ k. overlaid (overlaid old.seen (k + 1) bytes) k (165 ∷ [])) place in
      let cut : Torn (from_of w) 1 mid image = subst (λ (l : List ℕ). Torn (from_of w) 1 mid l) (sym same) (Torn-overlaid mid (from_of w) (165 ∷ []) low) in
      let opened : get_or image (from_of w) 0 ≡ 165 = ap (λ k. get_or image k 0) (sym (add-zero (from_of w))) ∙ sym (byte_in_part image (from_of w) 1 0 (omega arith)) ∙ ap (λ (l : List ℕ). get_or l 0 0) (ap (λ (l : List ℕ). part l (from_of w) 1) same ∙ part-overlaid mid (from_of w) (165 ∷ []) low) in
      new_active base old.seen bytes s (from_of w) (half_bytes_of w) (header_of w first catalogue) writing.active writing.halves large stands inside within writing.shut is len fits room writing.generation image cut opened
      ∙ ap (λ half. Ok (as_switched half)) (sym writing.other)

-- before the first call on the device
pub before_switch : (modelled : Bool) (old : Life) (base : List ℕ) (s t : Store) (w : ImageWriter) → IsWriting modelled old base s w → 8192 < half_bytes_of w → (c : List ℕ) → Now old c → IsOldOrNew base old.seen s t (from_of w) (half_bytes_of w) c
before_switch modelled old base s t w is large c now =
    let was = kept_now modelled old base s w is large c now in
    inl (record { active = was.active; others = Torn-wider (from_of w + 1) (half_bytes_of w - 1) (from_of w) (half_bytes_of w) base c (omega arith) (omega arith) was.others })
