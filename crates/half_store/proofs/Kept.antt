-- What no write in the other half changes.
use Rattle.std.proofs.Common.{◌≡◌, ◌≢◌, inl, inr, ℕ, ◌+◌, ◌-◌, ◌<◌, ◌≤◌, Bool, true, false, cond, List, ◌∷◌, ◌++◌, length, take, drop, get_or, Result, Ok, Err, refl, sym, ◌∙◌, ap, subst, arith, add-zero, take-append-drop}
use Rattle.std.specs.Prelude.{◌==◌, nat_lt}
use Rattle.std.proofs.lemmas.Bool.{false≢true, cases_eq}
use Rattle.std.proofs.lemmas.Bool.Decides.{eqb_tells}
use Rattle.std.proofs.lemmas.List.{drop_more}
use Rattle.drda_words.specs.Place.{part}
use Rattle.drda_disk.specs.Disk.{Life, Now, Only, LeavesOnly, Torn, Within}
use Rattle.drda_disk.specs.Images.{Torn-refl}
use Rattle.drda_disk.proofs.Moments.{weaker}
use Rattle.drda_disk.proofs.Parts.{part_before, part_outside, byte_outside}
use Rattle.half_store.specs.Layout.{is_store_size, half_len, offset_of, other_than}
use Rattle.half_store.specs.Header.{half_in}
use Rattle.half_store.specs.Active.{Store, Refusal, not_a_store, name_in, picked, with_half, with_name, active_of}
use Rattle.half_store.specs.Writing.{IsKept, IsWriting, IsClosing, half_bytes_of, from_of}
use Rattle.half_store.specs.declared.layout.Half.{Half}
use Rattle.half_store.specs.declared.layout.Half.TheVariants.{First, Second}
use Rattle.half_store.specs.declared.header.HalfState.{HalfState}
use Rattle.half_store.specs.declared.header.HalfState.TheVariants.{Closed, Unsound, Open}
use Rattle.half_store.specs.declared.image.ImageWriter.{ImageWriter}
use Rattle.half_store.proofs.Pages.{byte_in_part, half_closed}

-- an image by its length, its head and the states of its halves
abbrev pub by_parts : ℕ → List ℕ → HalfState → HalfState → Result Store Refusal
by_parts n head a b = cond (is_store_size n) (with_name (name_in n head) (picked (half_len n) a b)) (Err not_a_store)

-- the state of a half of an image
abbrev pub state_at : ℕ → List ℕ → ℕ → HalfState
state_at h image at = half_in h (part image at 8192)

pub by_parts_is : (image : List ℕ) → active_of image ≡ by_parts (length image) (take 39 image) (state_at (half_len (length image)) image 8192) (state_at (half_len (length image)) image (8192 + half_len (length image)))
unfolding active_of
by_parts_is image = refl

module _ (base image : List ℕ) (size : length image ≡ length base) (head : take 39 image ≡ take 39 base) where
  -- with the halves' states as they are in the image
  pub from_base : active_of image ≡ by_parts (length base) (take 39 base) (state_at (half_len (length base)) image 8192) (state_at (half_len (length base)) image (8192 + half_len (length base)))
  from_base =
      let at : ℕ → Result Store Refusal = λ n. by_parts n (take 39 image) (state_at (half_len n) image 8192) (state_at (half_len n) image (8192 + half_len n)) in
      by_parts_is image ∙ ap at size ∙ ap (λ (l : List ℕ). by_parts (length base) l (state_at (half_len (length base)) image 8192) (state_at (half_len (length base)) image (8192 + half_len (length base)))) head

unfoldable pub is_first : Half → Bool
is_first First = true
is_first Second = false

-- the store of an image has its first half
unfoldable pub tag : Result Store Refusal → Bool
tag (Ok s) = is_first s.half
tag (Err e) = false

unfoldable pub off : Result Store Refusal → Bool
off (Ok s) = is_first (other_than s.half)
off (Err e) = false

-- the first half alone, where it counted
pub alone_first : (name : Result (List ℕ) Refusal) (h : ℕ) (a b : HalfState) (s : Store) → with_name name (picked h a b) ≡ Ok s → s.half ≡ First → with_name name (picked h a Closed) ≡ Ok s
unfolding picked tag is_first
alone_first (Err e) h a b s is half = is
alone_first (Ok n) h Unsound b s is half = is
alone_first (Ok n) h Closed Unsound s is half = absurd (false≢true (ap tag is ∙ ap is_first half))
alone_first (Ok n) h Closed Closed s is half = is
alone_first (Ok n) h Closed (Open b) s is half = absurd (false≢true (ap tag is ∙ ap is_first half))
alone_first (Ok n) h (Open a) Unsound s is half = absurd (false≢true (ap tag is ∙ ap is_first half))
alone_first (Ok n) h (Open a) Closed s is half = is
alone_first (Ok n) h (Open a) (Open b) s is half = by_tests (a.generation == b.generation) (nat_lt a.generation b.generation) is
  where
    by_tests : (same less : Bool) → with_half n (cond same (Err (8192 + h)) (cond less (Ok (Second, b)) (Ok (First, a)))) ≡ Ok s → with_half n (Ok (First, a)) ≡ Ok s
    by_tests true less was = absurd (false≢true (ap tag was ∙ ap is_first half))
    by_tests false true was = absurd (false≢true (ap tag was ∙ ap is_first half))
    by_tests false false was = was

-- and the second
pub alone_second : (name : Result (List ℕ) Refusal) (h : ℕ) (a b : HalfState) (s : Store) → with_name name (picked h a b) ≡ Ok s → s.half ≡ Second → with_name name (picked h Closed b) ≡ Ok s
unfolding picked off is_first
alone_second (Err e) h a b s is half = is
alone_second (Ok n) h Unsound b s is half = absurd (false≢true (ap off is ∙ ap (λ k. is_first (other_than k)) half))
alone_second (Ok n) h Closed b s is half = is
alone_second (Ok n) h (Open a) Unsound s is half = absurd (false≢true (ap off is ∙ ap (λ k. is_first (other_than k)) half))
alone_second (Ok n) h (Open a) Closed s is half = absurd (false≢true (ap off is ∙ ap (λ k. is_first (other_than k)) half))
alone_second (Ok n) h (Open a) (Open b) s is half = by_tests (a.generation == b.generation) (nat_lt a.generation b.generation) is
  where
    by_tests : (same less : Bool) → with_half n (cond same (Err (8192 + h)) (cond less (Ok (Second, b)) (Ok (First, a)))) ≡ Ok s → with_half n (Ok (Second, b)) ≡ Ok s
    by_tests true less was = absurd (false≢true (ap off was ∙ ap (λ k. is_first (other_than k)) half))
    by_tests false true was = was
    by_tests false false was = absurd (false≢true (ap off was ∙ ap (λ k. is_first (other_than k)) half))

pub shut_state : (image : List ℕ) (h at : ℕ) → (get_or image at 0 == 165) ≡ false → state_at h image at ≡ Closed
shut_state image h at shut = half_closed h (part image at 8192) (ap (λ b. b == 165) (byte_in_part image at 8192 0 (omega arith) ∙ ap (λ i. get_or image i 0) (add-zero at)) ∙ shut)

has_store : Result Store Refusal → Bool
has_store (Ok s) = true
has_store (Err e) = false

pub when_sized : (b : Bool) (x : Result Store Refusal) (s t : Store) → cond b x (Err not_a_store) ≡ Ok s → (y : Result Store Refusal) → (x ≡ Ok s → y ≡ Ok t) → cond b y (Err not_a_store) ≡ Ok t
unfolding has_store
when_sized true x s t is y next = next is
when_sized false x s t is y next = absurd (false≢true (ap has_store is))

module _ (base image : List ℕ) (s : Store) (size : length image ≡ length base) (head : take 39 image ≡ take 39 base) (active : active_of base ≡ Ok s) where
  -- the other half is closed in the image, and the active one is the base's
  pub first_kept : s.half ≡ First → part image 8192 8192 ≡ part base 8192 8192 → (get_or image (8192 + half_len (length base)) 0 == 165) ≡ false → active_of image ≡ Ok s
  first_kept half same shut =
      let closed : state_at (half_len (length base)) image (8192 + half_len (length base)) ≡ Closed = shut_state image (half_len (length base)) (8192 + half_len (length base)) shut in
      from_base base image size head
      ∙ ap (λ (l : List ℕ). by_parts (length base) (take 39 base) (half_in (half_len (length base)) l) (state_at (half_len (length base)) image (8192 + half_len (length base)))) same
      ∙ ap (λ b. by_parts (length base) (take 39 base) (state_at (half_len (length base)) base 8192) b) closed
      ∙ when_sized (is_store_size (length base)) _ s s (sym (by_parts_is base) ∙ active) _
      (λ is. alone_first (name_in (length base) (take 39 base)) (half_len (length base)) (state_at (half_len (length base)) base 8192) (state_at (half_len (length base)) base (8192 + half_len (length base))) s is half)

  pub second_kept : s.half ≡ Second → part image (8192 + half_len (length base)) 8192 ≡ part base (8192 + half_len (length base)) 8192 → (get_or image 8192 0 == 165) ≡ false → active_of image ≡ Ok s
  second_kept half same shut =
      let closed : state_at (half_len (length base)) image 8192 ≡ Closed = shut_state image (half_len (length base)) 8192 shut in
      from_base base image size head
      ∙ ap (λ a. by_parts (length base) (take 39 base) a (state_at (half_len (length base)) image (8192 + half_len (length base)))) closed
      ∙ ap (λ (l : List ℕ). by_parts (length base) (take 39 base) Closed (half_in (half_len (length base)) l)) same
      ∙ when_sized (is_store_size (length base)) _ s s (sym (by_parts_is base) ∙ active) _
      (λ is. alone_second (name_in (length base) (take 39 base)) (half_len (length base)) (state_at (half_len (length base)) base 8192) (state_at (half_len (length base)) base (8192 + half_len (length base))) s is half)

-- bytes of the other half change, and its gate is closed then
pub kept : (base image : List ℕ) (s : Store) (at n i : ℕ) (half : Half) → s.half ≡ half → active_of base ≡ Ok s → 8192 < half_len (length base) → i ≡ offset_of (half_len (length base)) (other_than half)
    → i ≤ at → at + n ≤ i + half_len (length base) → Torn at n base image → (get_or image i 0 == 165) ≡ false → active_of image ≡ Ok s
kept base image s at n i First half_is active large place low high torn shut =
    first_kept base image s torn.size (part_before base image at 0 39 torn.before (omega (arith, place, low))) active half_is (part_before base image at 8192 8192 torn.before (omega (arith, place, low, large)))
    (ap (λ k. get_or image k 0 == 165) (sym place) ∙ shut)
kept base image s at n i Second half_is active large place low high torn shut =
    second_kept base image s torn.size (part_before base image at 0 39 torn.before (omega (arith, place, low))) active half_is (part_outside at n (8192 + half_len (length base)) 8192 base image torn (inr (omega (arith, place, high))))
    (ap (λ k. get_or image k 0 == 165) (sym place) ∙ shut)

-- one byte that may be anything, and is what it was
pub same_byte : (file c : List ℕ) (at : ℕ) → at + 1 ≤ length file → Torn at 1 file c → get_or c at 0 ≡ get_or file at 0 → c ≡ file
same_byte file c at low torn same =
    sym (take-append-drop at c) ∙ ap (λ (l : List ℕ). l ++ drop at c) torn.before
    ∙ ap (λ (l : List ℕ). take at file ++ l) (drop_more c at 0 (omega (arith, low, torn.size)) ∙ ap (λ b. b ∷ drop (at + 1) c) same ∙ ap (λ (l : List ℕ). get_or file at 0 ∷ l) torn.after ∙ sym (drop_more file at 0 (omega (arith, low))))
    ∙ take-append-drop at file

pub shut_is : (n : ℕ) → n ≢ 165 → (n == 165) ≡ false
shut_is n apart = elim (eqb_tells n 165) [ inl same ↦ absurd (apart same.1) | inr differs ↦ differs.0 ]

-- while a gate is closed
pub closing_kept : (base image : List ℕ) (s : Store) (i : ℕ) → active_of base ≡ Ok s → 8192 < half_len (length base) → i ≡ offset_of (half_len (length base)) (other_than s.half) → i + 1 ≤ length base → IsClosing i base image → IsKept base s i 1 image
closing_kept base image s i active large place low (inl same) = record { active = ap active_of same ∙ active; others = subst (λ (l : List ℕ). Torn i 1 base l) (sym same) (Torn-refl i 1 base) }
closing_kept base image s i active large place low (inr torn) = record {
  active = elim (cases_eq (get_or image i 0) 165) [
    | inl opened ↦ ap active_of (same_byte base image i low torn.1 (opened ∙ sym torn.0)) ∙ active
    | inr shut ↦ kept base image s i 1 i s.half refl active large place (omega arith) (omega (arith, large)) torn.1 (shut_is (get_or image i 0) shut)
  ];
  others = torn.1;
}

-- behind the closed gate
pub behind_kept : (base image : List ℕ) (s : Store) (i h : ℕ) → active_of base ≡ Ok s → 8192 < half_len (length base) → h ≡ half_len (length base) → i ≡ offset_of h (other_than s.half) → get_or base i 0 ≢ 165 → Torn (i + 1) (h - 1) base image → IsKept base s (i + 1) (h - 1) image
behind_kept base image s i h active large half place shut torn = record {
  active = kept base image s (i + 1) (h - 1) i s.half refl active large (place ∙ ap (λ k. offset_of k (other_than s.half)) half) (omega arith) (omega (arith, half, large)) torn
      (shut_is (get_or image i 0) (λ opened. shut (sym (byte_outside (i + 1) (h - 1) i base image torn (inl (omega arith))) ∙ opened)));
  others = torn;
}

offset_low : (h : ℕ) (half : Half) → offset_of h half ≤ 8192 + h
offset_low h First = omega arith
offset_low h Second = omega arith

-- each half lies in the image
pub half_inside : (size h : ℕ) (half : Half) → 8192 + (h + h) ≤ size → offset_of h half + h ≤ size
half_inside size h half inside = omega (arith, offset_low h half, inside)

-- the other half's gate lies in the image
pub gate_inside : (size at h : ℕ) (half : Half) → at ≡ offset_of h half → 8192 < h → 8192 + (h + h) ≤ size → at + 1 ≤ size
gate_inside size at h half place large inside = omega (arith, place, offset_low h half, large, inside)

-- what a writer's call leaves
module _ (modelled : Bool) (old : Life) (base : List ℕ) (s : Store) (w : ImageWriter) (is : IsWriting modelled old base s w) (large : 8192 < half_bytes_of w) where
  kept_torn : (c : List ℕ) → Torn (from_of w + 1) (half_bytes_of w - 1) base c → IsKept base s (from_of w + 1) (half_bytes_of w - 1) c
  kept_torn c torn = behind_kept base c s (from_of w) (half_bytes_of w) is.active (omega (arith, large, is.halves)) is.halves (ap (λ half. offset_of (half_bytes_of w) half) is.other) is.shut torn

  pub kept_now : (c : List ℕ) → Now old c → IsKept base s (from_of w + 1) (half_bytes_of w - 1) c
  kept_now c now = kept_torn c (is.within c now)

  module _ (new : Life) (run : LeavesOnly old new (Torn (from_of w + 1) (half_bytes_of w - 1) base)) where
    pub writing_kept : LeavesOnly old new (IsKept base s (from_of w + 1) (half_bytes_of w - 1))
    writing_kept = weaker old new _ _ run kept_torn

-- what beginning leaves: each image is what is read, and the store is the same
pub begun_within : (new : Life) (at n : ℕ) → Only new → Within at n new.seen new
begun_within new at n only c now = subst (λ (l : List ℕ). Torn at n new.seen l) (sym (only c now)) (Torn-refl at n new.seen)

pub begun_active : (old new : List ℕ) (s : Store) (half : Half) (h : ℕ) → active_of old ≡ Ok s → 8192 < half_len (length old) → h ≡ half_len (length old) → half ≡ other_than s.half → Torn (offset_of h half) 1 old new → get_or new (offset_of h half) 0 ≢ 165 → active_of new ≡ Ok s
begun_active old new s half h active large halves other torn shut =
    kept old new s (offset_of h half) 1 (offset_of h half) s.half refl active large (ap (λ k. offset_of h k) other ∙ ap (λ k. offset_of k (other_than s.half)) halves) (omega arith) (omega (arith, large)) torn (shut_is (get_or new (offset_of h half) 0) shut)

-- what a write behind the gate leaves of a writing, as that of the journal's records
pub still_writing : (modelled : Bool) (old new : Life) (base : List ℕ) (s : Store) (w : ImageWriter) → IsWriting modelled old base s w → Within (from_of w + 1) (half_bytes_of w - 1) base new → IsWriting modelled new base s w
still_writing modelled old new base s w is within = record { modelled_disk = is.modelled_disk; within = within; active = is.active; other = is.other; shut = is.shut; halves = is.halves; generation = is.generation }
