-- A store that stands on a disk, but for its mark, and with it.
use Rattle.std.proofs.Common.{◌≡◌, ◌⊎◌, ◌∙◌, inl, inr, refl, sym, ap, subst, ℕ, ◌+◌, ◌-◌, ◌≤◌, Bool, true, false, List, length, take, get_or, Result, Ok, Err, OnOk, add-zero, arith}
use Rattle.std.specs.Prelude.{IsTrue, bytes_eq, codes, nat_le}
use Rattle.std.proofs.lemmas.Bool.{and_parts, leb-true}
use Rattle.drda_words.specs.Place.{part}
use Rattle.drda_disk.specs.Disk.{LeavesOnly, Life, Torn, overlaid}
use Rattle.drda_disk.specs.Images.{Torn-overlaid}
use Rattle.drda_disk.proofs.Moments.{and_then, no_call, weaker}
use Rattle.drda_disk.proofs.Parts.{byte_outside, part_after, part-part}
use Rattle.half_store.specs.Active.{active_of, is_marked}
use Rattle.half_store.specs.Fresh.{IsUnmarked, head_bytes, is_name, is_store_of}
use Rattle.half_store.specs.Layout.{are_printable, half_len, is_name_len, is_store_size, offset_of}
use Rattle.half_store.specs.Opened.{IsBehindPages, store_of}
use Rattle.half_store.specs.declared.active.Active.{Active}
use Rattle.half_store.proofs.Formatted.{HasHead, head_torn, small_size, unmarked_none}
use Rattle.half_store.proofs.Larger.{is_larger}
use Rattle.grown_stores.specs.Growing.{IsGrown, IsMoved, IsNoneOrGrown}

-- what holds at each success
pub all_ok : {T E : Type 0} (r : Result T E) (A B P : Type 0) → OnOk r A → OnOk r B → (A → B → P) → OnOk r P
all_ok (Ok x) A B P a b f = f a b
all_ok (Err e) A B P a b f = tt

abbrev pub name_of : Active → List ℕ
name_of a = (store_of a).name

-- All of a store but its mark stands there: a head, the bytes of the half that was active, and the closed gate of the second one.
pub record IsReady (old mid : List ℕ) (active : Active) : Type 0 where
  pub was : active_of old ≡ Ok (store_of active)
  pub head : HasHead (name_of active) mid
  pub wider : half_len (length old) ≤ half_len (length mid)
  pub inside : 8192 + half_len (length mid) ≤ length mid
  pub long : 8192 ≤ half_len (length old)
  pub same : part mid 8192 (half_len (length old)) ≡ part old (offset_of (half_len (length old)) active.half) (half_len (length old))
  pub shut : get_or mid (8192 + half_len (length mid)) 0 ≡ 0

-- ---- from what was moved

module _ (old mid head name : List ℕ) (active : Active) (from size count room n : ℕ) (from_is : from ≡ length old) (size_there : size ≡ n) (kept : length mid ≡ n) (count_is : count ≡ half_len from) (room_is : room ≡ half_len size)
    (wider : half_len from ≤ half_len size) (named : is_store_of size name ≡ true) (name_is : name ≡ name_of active) (inside : 8192 + (room + room) ≤ size) (large : 1040384 ≤ count) (head_is : head ≡ head_bytes size name) where
  size_is : size ≡ length mid
  size_is = size_there ∙ sym kept

  is_half : count ≡ half_len (length old)
  is_half = count_is ∙ ap half_len from_is

  is_room : room ≡ half_len (length mid)
  is_room = room_is ∙ ap half_len size_is

  good_name : (is_name_len (length name) ≡ true) × (are_printable name ≡ true)
  good_name = and_parts (is_name_len (length name)) (are_printable name) (and_parts (is_store_size size) (is_name name) named).1

  has_head : part mid 8 (length head) ≡ head → HasHead name mid
  has_head there = record {
    sized = ap (λ n. is_store_size n) (sym size_is) ∙ (and_parts (is_store_size size) (is_name name) named).0;
    name_len = good_name.0;
    printable = good_name.1;
    bytes = let long : length head ≡ 13 + length name = omega (arith, ap length head_is) in
        ap (λ n. part mid 8 n) (sym long) ∙ there ∙ head_is ∙ ap (λ n. head_bytes n name) size_is;
  }

  pub is_ready : (one other : Bool) → IsTrue one → IsTrue other → active_of old ≡ Ok (store_of active) → IsBehindPages (half_len (length old)) active
      → IsMoved one other old (active.region.at + active.region.length - count) count head (8192 + room) mid → IsReady old mid active
  is_ready one other told heard was region moved =
      let h = half_len (length old) in
      let ends = region.ends in
      let at : active.region.at + active.region.length - count ≡ offset_of h active.half = omega (arith, ends, is_half) in
      record {
        was = was;
        head = subst (λ (l : List ℕ). HasHead l mid) name_is (has_head (moved.head_there heard));
        wider = omega (arith, wider, ap half_len from_is, ap half_len size_is);
        inside = omega (arith, inside, is_room, size_is);
        long = omega (arith, is_half, large);
        same = subst (λ k. part mid 8192 k ≡ part old (offset_of h active.half) k) is_half (subst (λ k. part mid 8192 count ≡ part old k count) at (moved.copied told heard));
        shut = ap (λ k. get_or mid (8192 + k) 0) (sym is_room) ∙ moved.gate_shut heard;
      }

-- a head ends in front of the first half
pub short_head : (size : ℕ) (name head : List ℕ) → is_store_of size name ≡ true → head ≡ head_bytes size name → 8 + length head ≤ 8192
short_head size name head named is =
    let n = length name in
    let len = (and_parts (is_name_len n) (are_printable name) (and_parts (is_store_size size) (is_name name) named).1).0 in
    omega (arith, ap length is, leb-true n 18 (and_parts (nat_le 1 n) (nat_le n 18) len).1)

-- ---- with the mark

either_bool : (b : Bool) → (b ≡ true) ⊎ (b ≡ false)
either_bool true = inl refl
either_bool false = inr refl

module _ (old mid : List ℕ) (active : Active) (ready : IsReady old mid active) where
  marked_is : (image : List ℕ) → Torn 0 8 mid image → is_marked image ≡ true → IsGrown old image
  marked_is image cut marked =
      let h = half_len (length old) in
      let at = offset_of h active.half in
      let head = head_torn (name_of active) mid image cut ready.head in
      let wider : h ≤ half_len (length image) = subst (λ n. h ≤ half_len n) (sym cut.size) ready.wider in
      let same : part image 8192 h ≡ part old at h = part_after mid image 8 8192 h cut.after (omega arith) ∙ ready.same in
      let page : part image 8192 8192 ≡ part old at 8192 =
      sym (part-part image 8192 h 0 8192 ready.long) ∙ ap (λ (l : List ℕ). part l 0 8192) same ∙ part-part old at h 0 8192 ready.long ∙ ap (λ k. part old k 8192) (add-zero at) in
      let shut : get_or image (8192 + half_len (length image)) 0 ≡ 0 =
      ap (λ n. get_or image (8192 + half_len n) 0) cut.size ∙ byte_outside 0 8 (8192 + half_len (length mid)) mid image cut (inr (omega arith)) ∙ ready.shut in
      record {
        store = store_of active;
        was = ready.was;
        is = is_larger old image (store_of active) ready.was head marked wider page shut;
        wider = wider;
        inside = subst (λ n. 8192 + half_len n ≤ n) (sym cut.size) ready.inside;
        small = small_size (length image) head.sized;
        same = same;
      }

  -- any bytes in the place of the mark
  none_or_grown : (image : List ℕ) → Torn 0 8 mid image → IsNoneOrGrown old image
  none_or_grown image cut = elim (either_bool (is_marked image)) [
    | inl marked ↦ inr (marked_is image cut marked)
    | inr bare ↦ inl (unmarked_none image bare)
  ]

  pub is_grown : (now : List ℕ) → now ≡ overlaid mid 0 (codes "DRDASTO1") → IsGrown old now
  is_grown now is =
      marked_is now (subst (λ (l : List ℕ). Torn 0 8 mid l) (sym is) (Torn-overlaid mid 0 (codes "DRDASTO1") (omega (arith, ready.inside))))
      (ap (λ (l : List ℕ). bytes_eq (take 8 l) (codes "DRDASTO1")) is)

  pub moments : (first second third : Life) → second.seen ≡ mid → LeavesOnly first second (λ c. is_marked c ≡ false) → LeavesOnly second third (Torn 0 8 second.seen) → LeavesOnly first third (IsNoneOrGrown old)
  moments first second third seen before behind =
      and_then first second third (λ c. is_marked c ≡ false) (Torn 0 8 second.seen) (IsNoneOrGrown old) before behind (λ i bare. inl (unmarked_none i bare))
      (λ i cut. none_or_grown i (subst (λ (l : List ℕ). Torn 0 8 l i) seen cut))

-- ---- before the mark

pub unmarked_yet : (old : List ℕ) (first second : Life) → LeavesOnly first second (λ c. is_marked c ≡ false) → LeavesOnly first second (IsNoneOrGrown old)
unmarked_yet old first second bare = weaker first second (λ c. is_marked c ≡ false) (IsNoneOrGrown old) bare (λ i is. inl (unmarked_none i is))

pub untouched : (old : List ℕ) (disk : Life) → IsUnmarked disk → LeavesOnly disk disk (IsNoneOrGrown old)
untouched old disk bare = no_call disk (IsNoneOrGrown old) (λ i now. inl (unmarked_none i (bare i now)))
