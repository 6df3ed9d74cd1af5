-- A half that stands in a larger image, as its first one.
use Rattle.std.proofs.Common.{◌≡◌, ℕ, ◌+◌, ◌*◌, ◌≤◌, Bool, true, false, cond, ◌&&◌, List, length, take, drop, get_or, Option, Some, None, Result, Ok, Err, refl, sym, ◌∙◌, ap, arith}
use Rattle.std.specs.Prelude.{◌==◌, nat_le, nat_lt}
use Rattle.std.specs.List.{list_all}
use Rattle.std.specs.Int.{w32, from_be_bytes}
use Rattle.std.proofs.lemmas.Bool.{and_parts, lt-ltb, ltb-true}
use Rattle.drda_words.specs.Place.{part}
use Rattle.half_store.specs.Layout.{is_store_size, half_len, offset_of}
use Rattle.half_store.specs.Header.{half_in, header_in, is_inside, layout_of, opened}
use Rattle.half_store.specs.Active.{Store, Refusal, not_a_store, is_marked, name_in, picked, with_half, with_name, active_of}
use Rattle.half_store.specs.declared.layout.Half.{Half}
use Rattle.half_store.specs.declared.layout.Half.TheVariants.{First, Second}
use Rattle.half_store.specs.declared.header.Header.{Header}
use Rattle.half_store.specs.declared.header.Layout.{Layout}
use Rattle.half_store.specs.declared.header.HalfState.{HalfState}
use Rattle.half_store.specs.declared.header.HalfState.TheVariants.{Closed, Unsound, Open}
use Rattle.half_store.proofs.Formatted.{HasHead, name_read}
use Rattle.half_store.proofs.Found.{sized}
use Rattle.half_store.proofs.Kept.{alone_first, alone_second, by_parts_is, shut_state, state_at}

-- ---- a header that is sound in a half is sound in a longer one

taken : (b : Bool) (a : HalfState) (x : Header) → cond b a Unsound ≡ Open x → b ≡ true
taken true a x is = refl
taken false a x is = absurd cc

still_inside : (h k : ℕ) (x : Header) → h ≤ k → is_inside h x ≡ true → is_inside k x ≡ true
still_inside h k x low is =
    let both = and_parts (nat_lt (8192 * (1 + x.pages)) h) (nat_le (x.first_catalogue + x.catalogue_pages) x.pages) is in
    ap (λ b. b && nat_le (x.first_catalogue + x.catalogue_pages) x.pages) (lt-ltb (8192 * (1 + x.pages)) k (omega (arith, low, ltb-true (8192 * (1 + x.pages)) h both.0))) ∙ ap (λ b. true && b) both.1

opened_still : (h k : ℕ) (page : List ℕ) (l : Option Layout) (x : Header) → h ≤ k → opened h page l ≡ Open x → opened k page l ≡ Open x
opened_still h k page None x low is = is
opened_still h k page (Some l) x low is =
    let here = header_in l page in
    let blank = list_all (λ b. b == 0) (drop 25 page) in
    let so = taken (is_inside h here && blank) (Open here) x is in
    let both = and_parts (is_inside h here) blank so in
    ap (λ b. cond (b && blank) (Open here) Unsound) (still_inside h k here low both.0)
    ∙ ap (λ b. cond (true && b) (Open here) Unsound) both.1
    ∙ ap (λ b. cond b (Open here) Unsound) (sym so) ∙ is

half_still : (h k : ℕ) (page : List ℕ) (x : Header) → h ≤ k → half_in h page ≡ Open x → half_in k page ≡ Open x
unfolding half_in
half_still h k page x low is = by_gate (get_or page 0 0 == 165) is
  where
    by_gate : (b : Bool) → cond b (opened h page (layout_of (from_be_bytes w32 (part page 21 4)))) Closed ≡ Open x → cond b (opened k page (layout_of (from_be_bytes w32 (part page 21 4)))) Closed ≡ Open x
    by_gate true was = opened_still h k page (layout_of (from_be_bytes w32 (part page 21 4))) x low was
    by_gate false was = was

-- ---- the half that counts is open

there : Store → Result Store Refusal
there s = Ok s

abbrev header_there : Store → HalfState
header_there s = Open s.header

same_store : (a b : Store) → there a ≡ there b → a ≡ b
unfolding there
same_store a b is = cc

open_first : (name : Result (List ℕ) Refusal) (h : ℕ) (a : HalfState) (s : Store) → with_name name (picked h a Closed) ≡ Ok s → a ≡ Open s.header
unfolding picked there
open_first (Err e) h a s is = absurd cc
open_first (Ok n) h Unsound s is = absurd cc
open_first (Ok n) h Closed s is = absurd cc
open_first (Ok n) h (Open x) s is = ap header_there (same_store (record { name = n; half = First; header = x }) s is)

open_second : (name : Result (List ℕ) Refusal) (h : ℕ) (b : HalfState) (s : Store) → with_name name (picked h Closed b) ≡ Ok s → b ≡ Open s.header
unfolding picked there
open_second (Err e) h b s is = absurd cc
open_second (Ok n) h Unsound s is = absurd cc
open_second (Ok n) h Closed s is = absurd cc
open_second (Ok n) h (Open x) s is = ap header_there (same_store (record { name = n; half = Second; header = x }) s is)

when_there : (b : Bool) (x : Result Store Refusal) (s : Store) → cond b x (Err not_a_store) ≡ Ok s → x ≡ Ok s
when_there true x s is = is
when_there false x s is = absurd cc

header_read : (image : List ℕ) (s : Store) (half : Half) → s.half ≡ half → active_of image ≡ Ok s → state_at (half_len (length image)) image (offset_of (half_len (length image)) half) ≡ Open s.header
header_read image s First half_is active =
    let h = half_len (length image) in
    let a = state_at h image 8192 in
    let b = state_at h image (8192 + h) in
    let name = name_in (length image) (take 39 image) in
    open_first name h a s (alone_first name h a b s (when_there (is_store_size (length image)) (with_name name (picked h a b)) s (sym (by_parts_is image) ∙ active)) half_is)
header_read image s Second half_is active =
    let h = half_len (length image) in
    let a = state_at h image 8192 in
    let b = state_at h image (8192 + h) in
    let name = name_in (length image) (take 39 image) in
    open_second name h b s (alone_second name h a b s (when_there (is_store_size (length image)) (with_name name (picked h a b)) s (sym (by_parts_is image) ∙ active)) half_is)

first_alone : (n : List ℕ) (h : ℕ) (s : Store) → n ≡ s.name → with_half n (picked h (Open s.header) Closed) ≡ Ok (record s { half = First })
unfolding picked
first_alone n h s name = ap (λ (l : List ℕ). let t : Result Store Refusal = Ok (record { name = l; half = First; header = s.header }) in t) name

-- ---- the larger image

module _ (old new : List ℕ) (s : Store) (active : active_of old ≡ Ok s) (head : HasHead s.name new) (marked : is_marked new ≡ true) (wider : half_len (length old) ≤ half_len (length new))
    (same : part new 8192 8192 ≡ part old (offset_of (half_len (length old)) s.half) 8192) (shut : get_or new (8192 + half_len (length new)) 0 ≡ 0) where
  first_open : state_at (half_len (length new)) new 8192 ≡ Open s.header
  first_open =
      half_still (half_len (length old)) (half_len (length new)) (part new 8192 8192) s.header wider
      (ap (λ (l : List ℕ). half_in (half_len (length old)) l) same ∙ header_read old s s.half refl active)

  second_shut : state_at (half_len (length new)) new (8192 + half_len (length new)) ≡ Closed
  second_shut = shut_state new (half_len (length new)) (8192 + half_len (length new)) (ap (λ k. k == 165) shut)

  -- it is the same store, whose first half is active
  pub is_larger : active_of new ≡ Ok (record s { half = First })
  is_larger =
      let h = half_len (length new) in
      sized new head.sized
      ∙ ap (λ (n : Result (List ℕ) Refusal). with_name n (picked h (state_at h new 8192) (state_at h new (8192 + h)))) (name_read s.name new head marked)
      ∙ ap (λ a. with_half s.name (picked h a (state_at h new (8192 + h)))) first_open
      ∙ ap (λ b. with_half s.name (picked h (Open s.header) b)) second_shut
      ∙ first_alone s.name h s refl
