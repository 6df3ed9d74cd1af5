-- A fresh store, from the bytes that were written.
use Rattle.std.proofs.Common.{◌≡◌, ◌⊎◌, inl, inr, ℕ, ◌+◌, ◌-◌, ◌^◌, ◌<◌, ◌≤◌, Bool, true, false, cond, ◌&&◌, List, ◌∷◌, ◌++◌, length, take, drop, get_or, Result, Ok, Err, refl, sym, ◌∙◌, ap, subst, arith, append_assoc, length-append, add-zero, zero-add, eq-eqb}
use Rattle.std.specs.Prelude.{◌==◌, nat_le, bytes_eq, codes}
use Rattle.std.specs.List.{list_all}
use Rattle.std.specs.Int.{w32, w64, from_be_bytes}
use Rattle.std.proofs.lemmas.Nat.{from_be_bytes-to_be_bytes_8}
use Rattle.std.proofs.lemmas.Bool.{lt-ltb, leb-true, false≢true}
use Rattle.std.proofs.lemmas.List.{take_at, drop_at, take_all, take-take, drop-drop, get_or-take}
use Rattle.drda_words.specs.Place.{part}
use Rattle.drda_disk.specs.Disk.{Life, LeavesOnly, Torn, Tears, overlaid}
use Rattle.drda_disk.specs.Images.{Torn-overlaid}
use Rattle.drda_disk.proofs.Moments.{torn}
use Rattle.drda_disk.proofs.Parts.{part_before, part_after, part-add, part-part, part-overlaid, byte_outside}
use Rattle.half_store.specs.Layout.{is_store_size, half_len, is_name_len, are_printable}
use Rattle.half_store.specs.Header.{half_in, is_inside}
use Rattle.half_store.specs.Active.{Refusal, not_a_store, damaged, is_marked, name_behind, name_in, picked, with_half, with_name, active_of}
use Rattle.half_store.specs.Fresh.{zeros, is_name, head_bytes, header_bytes, first_header, IsFresh, IsNoneOrFresh, IsUnmarked, head_page, front_bytes}
use Rattle.half_store.specs.declared.layout.Half.TheVariants.{First}
use Rattle.half_store.specs.declared.header.HalfState.TheVariants.{Closed, Open}
use Rattle.half_store.proofs.Found.{not_sized, sized}
use Rattle.half_store.proofs.Pages.{length-zeros, zeros_blank, zeros_at, byte_in_part, half_closed, half_open}

-- a write behind the mark
pub unmarked_torn : (at n : ℕ) (old new : Life) → 8 ≤ at → Tears at n old new → IsUnmarked old → LeavesOnly old new (λ c. is_marked c ≡ false)
unmarked_torn at n old new low tears before = torn at n old new (λ c. is_marked c ≡ false) tears before (λ c d was cut. ap (λ (l : List ℕ). bytes_eq l (codes "DRDASTO1")) (part_before d c at 0 8 cut.before low) ∙ before d was)

-- the mark lies in the head
mark_in_head : (c : List ℕ) → is_marked (take 39 c) ≡ is_marked c
mark_in_head c = ap (λ (l : List ℕ). bytes_eq l (codes "DRDASTO1")) (take-take 8 39 c (omega arith))

unmarked_name : (size : ℕ) (head : List ℕ) → is_marked head ≡ false → name_in size head ≡ Err not_a_store
unfolding name_in
unmarked_name size head bare = ap (λ b. cond b (cond (from_be_bytes w32 (part head 8 4) == 1) (cond (from_be_bytes w64 (part head 12 8) == size) (name_behind (get_or head 20 0) (drop 21 head)) (Err (damaged 12))) (Err (damaged 8))) (Err not_a_store)) bare

either_bool : (b : Bool) → (b ≡ true) ⊎ (b ≡ false)
either_bool true = inl refl
either_bool false = inr refl

-- without the mark it is no store
pub unmarked_none : (c : List ℕ) → is_marked c ≡ false → active_of c ≡ Err not_a_store
unmarked_none c bare = elim (either_bool (is_store_size (length c))) [
  | inl within ↦ sized c within ∙ ap (λ (f : Result (List ℕ) Refusal). with_name f (picked (half_len (length c)) (half_in (half_len (length c)) (part c 8192 8192)) (half_in (half_len (length c)) (part c (8192 + half_len (length c)) 8192))))
      (unmarked_name (length c) (take 39 c) (mark_in_head c ∙ bare))
  | inr small ↦ not_sized c small
]

and_left : (a b : Bool) → (a && b) ≡ true → a ≡ true
and_left true b is = refl
and_left false b is = is

and_right : (a b : Bool) → (a && b) ≡ true → b ≡ true
and_right true b is = is
and_right false b is = absurd (false≢true is)

pub small_size : (n : ℕ) → is_store_size n ≡ true → n < 2 ^ 64
small_size n within = omega (arith, leb-true n 1073741824 (and_right (nat_le 2097152 n) (nat_le n 1073741824) within))

-- behind the place of the mark there is a head with this name
pub record HasHead (name image : List ℕ) : Type 0 where
  pub sized : is_store_size (length image) ≡ true
  pub name_len : is_name_len (length name) ≡ true
  pub printable : are_printable name ≡ true
  pub bytes : part image 8 (13 + length name) ≡ head_bytes (length image) name

-- what is there before the mark is written
pub record IsLaid (name image : List ℕ) : Type 0 where
  pub head : HasHead name image
  pub header : part image 8192 25 ≡ 165 ∷ header_bytes first_header
  pub rest : part image 8217 8168 ≡ zeros 8168
  pub second : get_or image (8192 + half_len (length image)) 0 ≡ 0
  pub room : 8192 < half_len (length image)

-- the mark does not lie among that
pub head_torn : (name old new : List ℕ) → Torn 0 8 old new → HasHead name old → HasHead name new
head_torn name old new cut h = record {
  sized = ap (λ n. is_store_size n) cut.size ∙ h.sized;
  name_len = h.name_len;
  printable = h.printable;
  bytes = part_after old new 8 8 (13 + length name) cut.after (omega arith) ∙ h.bytes ∙ ap (λ n. head_bytes n name) (sym cut.size);
}

pub laid_torn : (name old new : List ℕ) → Torn 0 8 old new → IsLaid name old → IsLaid name new
laid_torn name old new cut l = record {
  head = head_torn name old new cut l.head;
  header = part_after old new 8 8192 25 cut.after (omega arith) ∙ l.header;
  rest = part_after old new 8 8217 8168 cut.after (omega arith) ∙ l.rest;
  second = ap (λ n. get_or new (8192 + half_len n) 0) cut.size ∙ byte_outside 0 8 (8192 + half_len (length old)) old new cut (inr (omega arith)) ∙ l.second;
  room = subst (λ n. 8192 < half_len n) (sym cut.size) l.room;
}

passes : (size : ℕ) (head : List ℕ) → is_marked head ≡ true → (from_be_bytes w32 (part head 8 4) == 1) ≡ true → (from_be_bytes w64 (part head 12 8) == size) ≡ true → name_in size head ≡ name_behind (get_or head 20 0) (drop 21 head)
unfolding name_in
passes size head a b c =
    let name = name_behind (get_or head 20 0) (drop 21 head) in
    ap (λ t. cond t (cond (from_be_bytes w32 (part head 8 4) == 1) (cond (from_be_bytes w64 (part head 12 8) == size) name (Err (damaged 12))) (Err (damaged 8))) (Err not_a_store)) a
    ∙ ap (λ t. cond t (cond (from_be_bytes w64 (part head 12 8) == size) name (Err (damaged 12))) (Err (damaged 8))) b
    ∙ ap (λ t. cond t name (Err (damaged 12))) c

named_behind : (n : ℕ) (bytes name : List ℕ) → take n bytes ≡ name → is_name_len n ≡ true → are_printable name ≡ true → name_behind n bytes ≡ Ok name
named_behind n bytes name is len printable =
    ap (λ b. cond b (cond (are_printable (take n bytes)) (Ok (take n bytes)) (Err (damaged 21))) (Err (damaged 20))) len
    ∙ ap (λ (l : List ℕ). cond (are_printable l) (Ok l) (Err (damaged 21))) is
    ∙ ap (λ b. cond b (Ok name) (Err (damaged 21))) printable

first_alone : (k : ℕ) → picked k (Open first_header) Closed ≡ Ok (First, first_header)
unfolding picked
first_alone k = refl

short_name : (n : ℕ) → is_name_len n ≡ true → n ≤ 18
short_name n is = leb-true n 18 (and_right (nat_le 1 n) (nat_le n 18) is)

module _ (name image : List ℕ) (h : HasHead name image) (marked : is_marked image ≡ true) where
  -- a part of the head
  in_head : (i n : ℕ) → i + n ≤ 13 + length name → part (take 39 image) (8 + i) n ≡ part (head_bytes (length image) name) i n
  in_head i n low = part-part image 0 39 (8 + i) n (omega (arith, low, short_name (length name) h.name_len)) ∙ ap (λ k. part image k n) (zero-add (8 + i)) ∙ sym (part-part image 8 (13 + length name) i n low) ∙ ap (λ (f : List ℕ). part f i n) h.bytes

  layout_is : (from_be_bytes w32 (part (take 39 image) 8 4) == 1) ≡ true
  layout_is = ap (λ (f : List ℕ). from_be_bytes w32 f == 1) (in_head 0 4 (omega arith))

  size_is : (from_be_bytes w64 (part (take 39 image) 12 8) == length image) ≡ true
  size_is =
      let same : from_be_bytes w64 (part (take 39 image) 12 8) ≡ length image = ap (λ (f : List ℕ). from_be_bytes w64 f) (in_head 4 8 (omega arith)) ∙ from_be_bytes-to_be_bytes_8 (length image) (small_size (length image) h.sized) in
      eq-eqb _ _ same

  len_is : get_or (take 39 image) 20 0 ≡ length name
  len_is = get_or-take 39 image 20 0 (omega arith) ∙ sym (byte_in_part image 8 (13 + length name) 12 (omega arith)) ∙ ap (λ (f : List ℕ). get_or f 12 0) h.bytes

  name_is : take (length name) (drop 21 (take 39 image)) ≡ name
  name_is = in_head 13 (length name) (omega arith) ∙ take_all (length name) name (omega arith)

  pub name_read : name_in (length image) (take 39 image) ≡ Ok name
  name_read = passes (length image) (take 39 image) (mark_in_head image ∙ marked) layout_is size_is ∙ ap (λ n. name_behind n (drop 21 (take 39 image))) len_is ∙ named_behind (length name) (drop 21 (take 39 image)) name name_is h.name_len h.printable

module _ (name image : List ℕ) (l : IsLaid name image) (marked : is_marked image ≡ true) where
  blank : list_all (λ b. b == 0) (part image 8217 8167) ≡ true
  blank = ap (λ (f : List ℕ). list_all (λ b. b == 0) f) (sym (take-take 8167 8168 (drop 8217 image) (omega arith)) ∙ ap (λ (f : List ℕ). take 8167 f) l.rest) ∙ zeros_blank 8167 8168

  inside : is_inside (half_len (length image)) first_header ≡ true
  inside = ap (λ b. b && true) (lt-ltb 8192 (half_len (length image)) l.room)

  first_is : half_in (half_len (length image)) (part image 8192 8192) ≡ Open first_header
  first_is = ap (λ (f : List ℕ). half_in (half_len (length image)) f) (part-add image 8192 25 8167 ∙ ap (λ (f : List ℕ). f ++ part image 8217 8167) l.header)
      ∙ half_open (half_len (length image)) first_header (part image 8217 8167) (record { generation = omega arith; pages = omega arith; first_catalogue = omega arith; catalogue_pages = omega arith }) inside blank

  second_is : half_in (half_len (length image)) (part image (8192 + half_len (length image)) 8192) ≡ Closed
  second_is = half_closed (half_len (length image)) (part image (8192 + half_len (length image)) 8192)
      (ap (λ b. b == 165) (byte_in_part image (8192 + half_len (length image)) 8192 0 (omega arith) ∙ ap (λ i. get_or image i 0) (add-zero _) ∙ l.second))

  pub is_fresh : IsFresh name image
  is_fresh = record {
    active = sized image l.head.sized ∙ ap (λ (f : Result (List ℕ) Refusal). with_name f (picked (half_len (length image)) (half_in (half_len (length image)) (part image 8192 8192)) (half_in (half_len (length image)) (part image (8192 + half_len (length image)) 8192)))) (name_read name image l.head marked)
        ∙ ap (λ a. with_half name (picked (half_len (length image)) a (half_in (half_len (length image)) (part image (8192 + half_len (length image)) 8192)))) first_is
        ∙ ap (λ b. with_half name (picked (half_len (length image)) (Open first_header) b)) second_is
        ∙ ap (λ p. with_half name p) (first_alone (half_len (length image)));
    gate = sym (byte_in_part image 8217 8168 8167 (omega arith)) ∙ ap (λ (f : List ℕ). get_or f 8167 0) l.rest ∙ zeros_at 8168 8167;
  }

-- with any bytes in the place of the mark
pub none_or_fresh : (name old new : List ℕ) → Torn 0 8 old new → IsLaid name old → IsNoneOrFresh name new
none_or_fresh name old new cut l = elim (either_bool (is_marked new)) [
  | inl marked ↦ inr (is_fresh name new (laid_torn name old new cut l) marked)
  | inr bare ↦ inl (unmarked_none new bare)
]

-- with the mark itself
pub fresh_written : (name old new : List ℕ) → IsLaid name old → 8 ≤ length old → new ≡ overlaid old 0 (codes "DRDASTO1") → IsFresh name new
fresh_written name old new l low is =
    let cut : Torn 0 8 old new = subst (λ (f : List ℕ). Torn 0 8 old f) (sym is) (Torn-overlaid old 0 (codes "DRDASTO1") low) in
    is_fresh name new (laid_torn name old new cut l) (ap (λ (f : List ℕ). bytes_eq (take 8 f) (codes "DRDASTO1")) is)

-- from the two writes
module _ (name file new : List ℕ) (at : ℕ) (front second : List ℕ) (front_is : front ≡ front_bytes (length file) name) (second_is : second ≡ zeros 8192)
    (is_at : at ≡ 8192 + half_len (length file)) (within : is_store_size (length file) ≡ true) (named : is_name name ≡ true) (short : length name ≤ 18) (large : 1040384 ≤ half_len (length file)) (inside : at + 8192 ≤ length file)
    (written : new ≡ overlaid (overlaid file 8 front) at second) where
  page_len : length (head_page (length file) name) ≡ 8184
  page_len = omega (arith, length-append (head_bytes (length file) name) (zeros (8184 - length (head_bytes (length file) name))), length-zeros (8184 - length (head_bytes (length file) name)))

  front_len : length front ≡ 16377
  front_len = omega (arith, ap length front_is, length-append (head_page (length file) name) ((165 ∷ header_bytes first_header) ++ zeros 8168), page_len, length-zeros 8168)

  second_len : length second ≡ 8192
  second_len = ap length second_is ∙ length-zeros 8192

  cut_front : Torn 8 (length front) file (overlaid file 8 front)
  cut_front = Torn-overlaid file 8 front (omega (arith, front_len, is_at, large, inside))

  cut_second : Torn at (length second) (overlaid file 8 front) new
  cut_second = subst (λ (f : List ℕ). Torn at (length second) (overlaid file 8 front) f) (sym written) (Torn-overlaid (overlaid file 8 front) at second (omega (arith, second_len, inside, cut_front.size)))

  size : length new ≡ length file
  size = cut_second.size ∙ cut_front.size

  -- a part of the front
  in_front : (i n : ℕ) → i + n ≤ 16377 → part new (8 + i) n ≡ part front i n
  in_front i n low =
      part_before (overlaid file 8 front) new at (8 + i) n cut_second.before (omega (arith, low, is_at, large))
      ∙ sym (part-part (overlaid file 8 front) 8 (length front) i n (omega (arith, low, front_len)))
      ∙ ap (λ (f : List ℕ). part f i n) (part-overlaid file 8 front (omega (arith, front_len, is_at, large, inside)))

  behind_page : drop 8184 front ≡ (165 ∷ header_bytes first_header) ++ zeros 8168
  behind_page = ap (λ (f : List ℕ). drop 8184 f) front_is ∙ drop_at (head_page (length file) name) ((165 ∷ header_bytes first_header) ++ zeros 8168) 8184 page_len

  pub is_laid : IsLaid name new
  is_laid = record {
    head = record {
      sized = ap (λ n. is_store_size n) size ∙ within;
      name_len = and_left (is_name_len (length name)) (are_printable name) named;
      printable = and_right (is_name_len (length name)) (are_printable name) named;
      bytes = in_front 0 (13 + length name) (omega (arith, short))
          ∙ ap (λ (f : List ℕ). take (13 + length name) f) (front_is ∙ append_assoc (head_bytes (length file) name) (zeros (8184 - length (head_bytes (length file) name))) ((165 ∷ header_bytes first_header) ++ zeros 8168))
          ∙ take_at (head_bytes (length file) name) _ (13 + length name) (omega arith) ∙ ap (λ n. head_bytes n name) (sym size);
    };
    header = in_front 8184 25 (omega arith) ∙ ap (λ (f : List ℕ). take 25 f) behind_page ∙ take_at (165 ∷ header_bytes first_header) (zeros 8168) 25 refl;
    rest = in_front 8209 8168 (omega arith) ∙ ap (λ (f : List ℕ). take 8168 f) (sym (drop-drop 25 8184 front) ∙ ap (λ (f : List ℕ). drop 25 f) behind_page ∙ drop_at (165 ∷ header_bytes first_header) (zeros 8168) 25 refl) ∙ take_all 8168 (zeros 8168) (omega (arith, length-zeros 8168));
    second = ap (λ n. get_or new (8192 + half_len n) 0) size ∙ ap (λ i. get_or new i 0) (sym (is_at) ∙ sym (add-zero at)) ∙ sym (byte_in_part new at (length second) 0 (omega (arith, second_len)))
        ∙ ap (λ (f : List ℕ). get_or f 0 0) (ap (λ (f : List ℕ). part f at (length second)) written ∙ part-overlaid (overlaid file 8 front) at second (omega (arith, second_len, inside, cut_front.size)) ∙ second_is) ∙ zeros_at 8192 0;
    room = subst (λ n. 8192 < half_len n) (sym size) (omega (arith, large));
  }
