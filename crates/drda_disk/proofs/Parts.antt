-- Parts of a file, and what is torn.
use Rattle.std.proofs.Common.{◌≡◌, ◌⊎◌, ⊎_elim, ℕ, ◌+◌, ◌-◌, ◌<◌, ◌≤◌, List, ◌++◌, length, get_or, take, drop, refl, sym, ◌∙◌, ap, arith, length-take, length-drop, take-append-drop}
use Rattle.std.proofs.lemmas.List.{take_at, drop_at, drop-take, take-take, drop-drop, get_or-take, get_or-drop}
use Rattle.drda_words.specs.Place.{part}
use Rattle.drda_disk.specs.Disk.{overlaid, Torn}
use Rattle.drda_disk.specs.Images.{length-front}

pub length-part : (file : List ℕ) (at n : ℕ) → at + n ≤ length file → length (part file at n) ≡ n
length-part file at n within = omega (arith, length-take n (drop at file), length-drop at file)

part_is : (file : List ℕ) (at n : ℕ) → part file at n ≡ drop at (take (at + n) file)
part_is file at n = sym (drop-take at n file)

-- a part below what changed
pub part_before : (old new : List ℕ) (k at n : ℕ) → take k new ≡ take k old → at + n ≤ k → part new at n ≡ part old at n
part_before old new k at n same le =
    part_is new at n ∙ ap (λ (l : List ℕ). drop at l) (sym (take-take (at + n) k new le) ∙ ap (λ (l : List ℕ). take (at + n) l) same ∙ take-take (at + n) k old le) ∙ sym (part_is old at n)

-- a part above what changed
pub part_after : (old new : List ℕ) (k at n : ℕ) → drop k new ≡ drop k old → k ≤ at → part new at n ≡ part old at n
part_after old new k at n same le =
    let sum : k + (at - k) ≡ at = omega arith in
    let from : (file : List ℕ) → drop at file ≡ drop (at - k) (drop k file) = λ file. ap (λ m. drop m file) (sym sum) ∙ sym (drop-drop (at - k) k file) in
    ap (λ (l : List ℕ). take n l) (from new ∙ ap (λ (l : List ℕ). drop (at - k) l) same ∙ sym (from old))

pub take-add : (m n : ℕ) (xs : List ℕ) → take (m + n) xs ≡ take m xs ++ take n (drop m xs)
take-add m n xs =
    sym (take-append-drop m (take (m + n) xs)) ∙ ap (λ (l : List ℕ). l ++ drop m (take (m + n) xs)) (take-take m (m + n) xs (omega arith)) ∙ ap (λ (l : List ℕ). take m xs ++ l) (drop-take m n xs)

pub part-add : (file : List ℕ) (at m n : ℕ) → part file at (m + n) ≡ part file at m ++ part file (at + m) n
part-add file at m n = take-add m n (drop at file) ∙ ap (λ (l : List ℕ). take m (drop at file) ++ take n l) (drop-drop m at file)

-- what a write wrote is read back
pub part-overlaid : (file : List ℕ) (at : ℕ) (bytes : List ℕ) → at + length bytes ≤ length file → part (overlaid file at bytes) at (length bytes) ≡ bytes
part-overlaid file at bytes within =
    ap (λ (l : List ℕ). take (length bytes) l) (drop_at (take at file) (bytes ++ drop (at + length bytes) file) at (length-front file at (length bytes) within)) ∙ take_at bytes (drop (at + length bytes) file) (length bytes) refl

-- in a wider range
pub Torn-wider : (at n from m : ℕ) (old new : List ℕ) → from ≤ at → at + n ≤ from + m → Torn at n old new → Torn from m old new
Torn-wider at n from m old new low high torn =
    let sum : at + n + (from + m - (at + n)) ≡ from + m = omega arith in
    let back : (file : List ℕ) → drop (from + m) file ≡ drop (from + m - (at + n)) (drop (at + n) file) = λ file. ap (λ k. drop k file) (sym sum) ∙ sym (drop-drop (from + m - (at + n)) (at + n) file) in
    record {
      size = torn.size;
      before = sym (take-take from at new low) ∙ ap (λ (l : List ℕ). take from l) torn.before ∙ take-take from at old low;
      after = back new ∙ ap (λ (l : List ℕ). drop (from + m - (at + n)) l) torn.after ∙ sym (back old);
    }

pub Torn-trans : (at n : ℕ) (a b c : List ℕ) → Torn at n a b → Torn at n b c → Torn at n a c
Torn-trans at n a b c s t = record { size = t.size ∙ s.size; before = t.before ∙ s.before; after = t.after ∙ s.after }

-- a part of a part
pub part-part : (file : List ℕ) (at m i n : ℕ) → i + n ≤ m → part (part file at m) i n ≡ part file (at + i) n
part-part file at m i n le =
    let sum : m ≡ i + (m - i) = omega arith in
    ap (λ k. take n (drop i (take k (drop at file)))) sum ∙ ap (λ (l : List ℕ). take n l) (drop-take i (m - i) (drop at file)) ∙ take-take n (m - i) (drop i (drop at file)) (omega arith) ∙ ap (λ (l : List ℕ). take n l) (drop-drop i at file)

-- a part outside of the range that was torn
pub part_outside : (at n i m : ℕ) (old new : List ℕ) → Torn at n old new → (i + m ≤ at) ⊎ (at + n ≤ i) → part new i m ≡ part old i m
part_outside at n i m old new torn away = ⊎_elim (λ low. part_before old new at i m torn.before low) (λ high. part_after old new (at + n) i m torn.after high) away

-- a byte outside of it
pub byte_outside : (at n i : ℕ) (old new : List ℕ) → Torn at n old new → (i < at) ⊎ (at + n ≤ i) → get_or new i 0 ≡ get_or old i 0
byte_outside at n i old new torn away = ⊎_elim before after away
  where
    before : i < at → get_or new i 0 ≡ get_or old i 0
    before low = sym (get_or-take at new i 0 low) ∙ ap (λ (l : List ℕ). get_or l i 0) torn.before ∙ get_or-take at old i 0 low

    after : at + n ≤ i → get_or new i 0 ≡ get_or old i 0
    after high =
        let sum : at + n + (i - (at + n)) ≡ i = omega arith in
        ap (λ k. get_or new k 0) (sym sum) ∙ sym (get_or-drop (at + n) new (i - (at + n)) 0) ∙ ap (λ (l : List ℕ). get_or l (i - (at + n)) 0) torn.after ∙ get_or-drop (at + n) old (i - (at + n)) 0 ∙ ap (λ k. get_or old k 0) sum
