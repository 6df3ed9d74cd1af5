-- An object at the front is read, and what is read is an object at the front.
use Rattle.std.proofs.Common.{◌≡◌, ℕ, zero, suc, ◌+◌, ◌-◌, ◌^◌, ◌<◌, ◌≤◌, Bool, true, false, cond, eqb, ltb, List, [], ◌∷◌, ◌++◌, length, get_or, take, drop, Result, Ok, Err, refl, sym, ap, subst, ◌∙◌, append_assoc, arith, ◌⊎◌, inl, inr, length-append}
use Rattle.std.specs.Int.{w16, w64, from_be_bytes, bytes_high_first}
use Rattle.std.proofs.lemmas.Bool.{ltb-false, ltb-true, le-ltb, lt-ltb, eqb-true}
use Rattle.std.proofs.lemmas.List.{take_at, drop_at, take-append-drop, length-take, length-drop}
use Rattle.std.proofs.lemmas.Nat.{be_bytes_2, be_bytes_8}
use Rattle.ddm_objects.specs.declared.fault.ObjFault.{ObjFault}
use Rattle.ddm_objects.specs.declared.fault.ObjFault.TheVariants.{LengthBelowFour, PastContainer, ExtendedLength}
use Rattle.ddm_objects.specs.Objects.{Obj, Form, Plain, Extended4, Extended6, Extended8, heading, HasRoom, IsObject}
use Rattle.ddm_objects.specs.Reading.{value_at, plain_at, extended4_at, extended6_at, extended8_at, object_at}
use Rattle.std.specs.Prelude.{IsOkAnd, IfOk, Some}
use Rattle.std.specs.Borrow.{Bor}
use Rattle.drda_words.specs.Bytes.{AreBytes}
use Rattle.drda_words.specs.Excuse.{Answers}
use Rattle.ddm_objects.specs.declared.object.Object.{Object}
use Rattle.ddm_objects.specs.Source.{view}
use Rattle.ddm_objects.proofs.Numbers.{two_again, four_again, six_again, eight_again}

-- ---- what is spelled is read

value_again : (code read m : ℕ) (value rest : List ℕ) → read ≡ code → m ≡ length value → value_at read m (value ++ rest) ≡ Ok (record { code = code; value = value }, rest)
value_again code read m value rest same e =
    let long : ltb (length (value ++ rest)) m ≡ false = le-ltb _ _ (omega (arith, length-append value rest)) in
    rw (long, take_at value rest m (sym e), drop_at value rest m (sym e), same) refl

-- an object behind a length of two bytes
abbrev decided : ℕ → List ℕ → Result (Obj × List ℕ) ObjFault
decided n bytes =
    cond (ltb n 4) (Err LengthBelowFour) (cond (ltb n 0x8000) (plain_at (n - 4) bytes) (cond (eqb n 0x8008) (extended4_at bytes) (cond (eqb n 0x800A) (extended6_at bytes) (cond (eqb n 0x800C) (extended8_at bytes) (Err ExtendedLength)))))

decided_plain : (n m : ℕ) (bytes : List ℕ) → 4 ≤ n → n < 2 ^ 15 → m ≡ n → decided m bytes ≡ plain_at (n - 4) bytes
decided_plain n m bytes low high same =
    let a : ltb m 4 ≡ false = le-ltb _ _ (omega arith) in
    let b : ltb m 0x8000 ≡ true = lt-ltb _ _ (omega arith) in
    rw (a, b, same) refl

plain_again : (m : ℕ) (o : Obj) (rest : List ℕ) → m ≡ length o.value → o.code < 2 ^ 16
    → plain_at m (bytes_high_first 2 (length o.value + 4) ++ (bytes_high_first 2 o.code ++ (o.value ++ rest))) ≡ Ok (o, rest)
unfolding plain_at
plain_again m o rest e small = value_again o.code (from_be_bytes w16 (bytes_high_first 2 o.code)) m o.value rest (two_again o.code small) e

pub read_again : (form : Form) (o : Obj) (rest : List ℕ) → HasRoom form (length o.value) → o.code < 2 ^ 16
    → object_at ((heading form o.code (length o.value) ++ o.value) ++ rest) ≡ Ok (o, rest)
unfolding object_at plain_at extended4_at extended6_at extended8_at
read_again Plain o rest room small =
    let n = length o.value + 4 in
    decided_plain n (from_be_bytes w16 (bytes_high_first 2 n)) (bytes_high_first 2 n ++ (bytes_high_first 2 o.code ++ (o.value ++ rest))) (omega arith) room (two_again n (omega (arith, room)))
    ∙ plain_again (n - 4) o rest (omega arith) small
read_again Extended4 o rest room small =
    value_again o.code (from_be_bytes w16 (bytes_high_first 2 o.code)) _ o.value rest (two_again o.code small) (four_again (length o.value) room)
read_again Extended6 o rest room small =
    value_again o.code (from_be_bytes w16 (bytes_high_first 2 o.code)) _ o.value rest (two_again o.code small) (six_again (length o.value) room)
read_again Extended8 o rest room small =
    value_again o.code (from_be_bytes w16 (bytes_high_first 2 o.code)) _ o.value rest (two_again o.code small) (eight_again (length o.value) room)

-- an object at the front is read
pub object_is_read : (bytes front rest : List ℕ) (o : Obj) → IsObject front o → bytes ≡ front ++ rest → object_at bytes ≡ Ok (o, rest)
object_is_read bytes front rest o is e =
    ap object_at (e ∙ ap (λ (y : List ℕ). y ++ rest) is.spelled) ∙ read_again is.form o rest is.size_fits is.code_fits

-- ---- what is read was spelled

-- a reading that found something
abbrev pub okay : {A : Type 0} → A → Result A ObjFault
okay x = Ok x

refused : {A : Type 0} (b : Bool) (f : ObjFault) (r : Result A ObjFault) (x : A) → cond b (Err f) r ≡ okay x → (b ≡ false) × (r ≡ okay x)
refused true f r x e = absurd cc
refused false f r x e = (refl, e)

chosen : {A : Type 0} (b : Bool) (p q : Result A ObjFault) (x : A) → cond b p q ≡ okay x → ((b ≡ true) × (p ≡ okay x)) ⊎ ((b ≡ false) × (q ≡ okay x))
chosen true p q x e = inl (refl, e)
chosen false p q x e = inr (refl, e)

pub same_ok : {A : Type 0} (x y : A) → okay x ≡ okay y → x ≡ y
same_ok x y e = cc

abbrev pub TakesObject : List ℕ → Obj × List ℕ → Type 0
TakesObject bytes x = (front : List ℕ) × IsObject front x.0 × (bytes ≡ front ++ x.1)

-- an object in a form, where the heading is what stands in front of its data
spelled_so : (form : Form) (code m : ℕ) (head rest : List ℕ) (x : Obj × List ℕ) → value_at code m rest ≡ okay x → code < 2 ^ 16 → HasRoom form m → head ≡ heading form code m
    → TakesObject (head ++ rest) x
spelled_so form code m head rest x e small room is =
    let o : Obj = record { code = code; value = take m rest } in
    let made : Obj × List ℕ = (o, drop m rest) in
    let g = refused (ltb (length rest) m) PastContainer (okay made) x e in
    let enough : m ≤ length rest = ltb-false _ _ g.0 in
    let size : length (take m rest) ≡ m = omega (arith, length-take m rest) in
    let whole : head ++ rest ≡ (head ++ take m rest) ++ drop m rest = sym (append_assoc head (take m rest) (drop m rest) ∙ ap (λ (y : List ℕ). head ++ y) (take-append-drop m rest)) in
    subst (λ y. TakesObject (head ++ rest) y) (same_ok made x g.1)
    (head ++ take m rest, record { form = form; code_fits = small; size_fits = subst (HasRoom form) (sym size) room; spelled = ap (λ (y : List ℕ). y ++ take m rest) (is ∙ ap (heading form code) (sym size)) }, whole)

two_bytes : (a b n : ℕ) → a < 256 → b < 256 → n ≡ from_be_bytes w16 (a ∷ b ∷ []) → a ∷ b ∷ [] ≡ bytes_high_first 2 n
two_bytes a b n p q e = sym (be_bytes_2 (a ∷ b ∷ []) n refl pair e)
  where
    pair : (i : ℕ) → get_or (a ∷ b ∷ []) i 0 < 256
    pair zero = p
    pair (suc zero) = q
    pair (suc (suc i)) = omega arith

abbrev eight : ℕ → ℕ → ℕ → ℕ → ℕ → ℕ → ℕ → ℕ → List ℕ
eight a b c d e f g h = a ∷ b ∷ c ∷ d ∷ e ∷ f ∷ g ∷ h ∷ []

eight_bytes : (a b c d e f g h : ℕ) → a < 256 → b < 256 → c < 256 → d < 256 → e < 256 → f < 256 → g < 256 → h < 256 → eight a b c d e f g h ≡ bytes_high_first 8 (from_be_bytes w64 (eight a b c d e f g h))
eight_bytes a b c d e f g h p q r s t u v w = sym (be_bytes_8 (eight a b c d e f g h) _ refl all refl)
  where
    all : (i : ℕ) → get_or (eight a b c d e f g h) i 0 < 256
    all zero = p
    all (suc zero) = q
    all (suc (suc zero)) = r
    all (suc (suc (suc zero))) = s
    all (suc (suc (suc (suc zero)))) = t
    all (suc (suc (suc (suc (suc zero))))) = u
    all (suc (suc (suc (suc (suc (suc zero)))))) = v
    all (suc (suc (suc (suc (suc (suc (suc zero))))))) = w
    all (suc (suc (suc (suc (suc (suc (suc (suc i)))))))) = omega arith

plain_taken : (a b c d : ℕ) (rest : List ℕ) (x : Obj × List ℕ) → AreBytes (a ∷ b ∷ c ∷ d ∷ rest) → 4 ≤ from_be_bytes w16 (a ∷ b ∷ []) → from_be_bytes w16 (a ∷ b ∷ []) < 2 ^ 15
    → value_at (from_be_bytes w16 (c ∷ d ∷ [])) (from_be_bytes w16 (a ∷ b ∷ []) - 4) rest ≡ okay x → TakesObject (a ∷ b ∷ c ∷ d ∷ rest) x
plain_taken a b c d rest x fits low high e =
    let n = from_be_bytes w16 (a ∷ b ∷ []) in
    let first = two_bytes a b (n - 4 + 4) (fits 0) (fits 1) (omega arith) in
    let second = two_bytes c d _ (fits 2) (fits 3) refl in
    spelled_so Plain _ (n - 4) (a ∷ b ∷ c ∷ d ∷ []) rest x e (omega (arith, fits 2, fits 3)) (omega arith)
    (ap (λ (y : List ℕ). y ++ (c ∷ d ∷ [])) first ∙ ap (λ (y : List ℕ). bytes_high_first 2 (n - 4 + 4) ++ y) second)

-- the heading of an extended length
head_of : (a b c d n : ℕ) (size spelled : List ℕ) → a < 256 → b < 256 → c < 256 → d < 256 → from_be_bytes w16 (a ∷ b ∷ []) ≡ n → size ≡ spelled
    → a ∷ b ∷ c ∷ d ∷ size ≡ bytes_high_first 2 n ++ bytes_high_first 2 (from_be_bytes w16 (c ∷ d ∷ [])) ++ spelled
head_of a b c d n size spelled p q r s e same =
    let first = two_bytes a b n p q (sym e) in
    let second = two_bytes c d _ r s refl in
    ap (λ (y : List ℕ). (y ++ (c ∷ d ∷ [])) ++ size) first
    ∙ ap (λ (y : List ℕ). (bytes_high_first 2 n ++ y) ++ size) second
    ∙ ap (λ (y : List ℕ). (bytes_high_first 2 n ++ bytes_high_first 2 (from_be_bytes w16 (c ∷ d ∷ []))) ++ y) same

taken4 : (a b : ℕ) (rest : List ℕ) (x : Obj × List ℕ) → AreBytes (a ∷ b ∷ rest) → from_be_bytes w16 (a ∷ b ∷ []) ≡ 0x8008 → extended4_at (a ∷ b ∷ rest) ≡ okay x → TakesObject (a ∷ b ∷ rest) x
unfolding extended4_at
taken4 a b (c ∷ d ∷ e ∷ f ∷ g ∷ h ∷ rest) x fits is was =
    let n = from_be_bytes w64 (eight 0 0 0 0 e f g h) in
    let z : 0 < 256 = omega arith in
    let size : e ∷ f ∷ g ∷ h ∷ [] ≡ bytes_high_first 4 n = ap (drop 4) (eight_bytes 0 0 0 0 e f g h z z z z (fits 4) (fits 5) (fits 6) (fits 7)) in
    spelled_so Extended4 _ n (a ∷ b ∷ c ∷ d ∷ e ∷ f ∷ g ∷ h ∷ []) rest x was (omega (arith, fits 2, fits 3)) (omega (arith, fits 4, fits 5, fits 6, fits 7))
    (head_of a b c d 0x8008 (e ∷ f ∷ g ∷ h ∷ []) (bytes_high_first 4 n) (fits 0) (fits 1) (fits 2) (fits 3) is size)
taken4 a b rest x fits is was = absurd cc

taken6 : (a b : ℕ) (rest : List ℕ) (x : Obj × List ℕ) → AreBytes (a ∷ b ∷ rest) → from_be_bytes w16 (a ∷ b ∷ []) ≡ 0x800A → extended6_at (a ∷ b ∷ rest) ≡ okay x → TakesObject (a ∷ b ∷ rest) x
unfolding extended6_at
taken6 a b (c ∷ d ∷ e ∷ f ∷ g ∷ h ∷ i ∷ j ∷ rest) x fits is was =
    let n = from_be_bytes w64 (eight 0 0 e f g h i j) in
    let z : 0 < 256 = omega arith in
    let size : e ∷ f ∷ g ∷ h ∷ i ∷ j ∷ [] ≡ bytes_high_first 6 n = ap (drop 2) (eight_bytes 0 0 e f g h i j z z (fits 4) (fits 5) (fits 6) (fits 7) (fits 8) (fits 9)) in
    spelled_so Extended6 _ n (a ∷ b ∷ c ∷ d ∷ e ∷ f ∷ g ∷ h ∷ i ∷ j ∷ []) rest x was (omega (arith, fits 2, fits 3)) (omega (arith, fits 4, fits 5, fits 6, fits 7, fits 8, fits 9))
    (head_of a b c d 0x800A (e ∷ f ∷ g ∷ h ∷ i ∷ j ∷ []) (bytes_high_first 6 n) (fits 0) (fits 1) (fits 2) (fits 3) is size)
taken6 a b rest x fits is was = absurd cc

taken8 : (a b : ℕ) (rest : List ℕ) (x : Obj × List ℕ) → AreBytes (a ∷ b ∷ rest) → from_be_bytes w16 (a ∷ b ∷ []) ≡ 0x800C → extended8_at (a ∷ b ∷ rest) ≡ okay x → TakesObject (a ∷ b ∷ rest) x
unfolding extended8_at
taken8 a b (c ∷ d ∷ e ∷ f ∷ g ∷ h ∷ i ∷ j ∷ k ∷ l ∷ rest) x fits is was =
    let n = from_be_bytes w64 (eight e f g h i j k l) in
    let size = eight_bytes e f g h i j k l (fits 4) (fits 5) (fits 6) (fits 7) (fits 8) (fits 9) (fits 10) (fits 11) in
    spelled_so Extended8 _ n (a ∷ b ∷ c ∷ d ∷ e ∷ f ∷ g ∷ h ∷ i ∷ j ∷ k ∷ l ∷ []) rest x was (omega (arith, fits 2, fits 3)) (omega (arith, fits 4, fits 5, fits 6, fits 7, fits 8, fits 9, fits 10, fits 11))
    (head_of a b c d 0x800C (eight e f g h i j k l) (bytes_high_first 8 n) (fits 0) (fits 1) (fits 2) (fits 3) is size)
taken8 a b rest x fits is was = absurd cc

taken2 : (a b : ℕ) (rest : List ℕ) (x : Obj × List ℕ) → AreBytes (a ∷ b ∷ rest) → 4 ≤ from_be_bytes w16 (a ∷ b ∷ []) → from_be_bytes w16 (a ∷ b ∷ []) < 2 ^ 15 → plain_at (from_be_bytes w16 (a ∷ b ∷ []) - 4) (a ∷ b ∷ rest) ≡ okay x → TakesObject (a ∷ b ∷ rest) x
unfolding plain_at
taken2 a b (c ∷ d ∷ rest) x fits low high was = plain_taken a b c d rest x fits low high was
taken2 a b rest x fits low high was = absurd cc

not_ok : {A : Type 0} (f : ObjFault) (x : A) → Err f ≡ okay x → ⊥
not_ok f x e = cc

-- a reading took one of the four forms
by_form : (P : Type 0) (n : ℕ) (bytes : List ℕ) (x : Obj × List ℕ) → (4 ≤ n → n < 2 ^ 15 → plain_at (n - 4) bytes ≡ okay x → P) → (n ≡ 0x8008 → extended4_at bytes ≡ okay x → P)
    → (n ≡ 0x800A → extended6_at bytes ≡ okay x → P) → (n ≡ 0x800C → extended8_at bytes ≡ okay x → P) → decided n bytes ≡ okay x → P
by_form P n bytes x plain four six eight' e =
    let p = refused (ltb n 4) LengthBelowFour (cond (ltb n 0x8000) (plain_at (n - 4) bytes) (cond (eqb n 0x8008) (extended4_at bytes) (cond (eqb n 0x800A) (extended6_at bytes) (cond (eqb n 0x800C) (extended8_at bytes) (Err ExtendedLength))))) x e in
    elim (chosen (ltb n 0x8000) (plain_at (n - 4) bytes) (cond (eqb n 0x8008) (extended4_at bytes) (cond (eqb n 0x800A) (extended6_at bytes) (cond (eqb n 0x800C) (extended8_at bytes) (Err ExtendedLength)))) x p.1) [
      | inl q ↦ plain (ltb-false _ _ p.0) (ltb-true _ _ q.0) q.1
      | inr q ↦ elim (chosen (eqb n 0x8008) (extended4_at bytes) (cond (eqb n 0x800A) (extended6_at bytes) (cond (eqb n 0x800C) (extended8_at bytes) (Err ExtendedLength))) x q.1) [
        | inl is ↦ four (eqb-true _ _ is.0) is.1
        | inr r ↦ elim (chosen (eqb n 0x800A) (extended6_at bytes) (cond (eqb n 0x800C) (extended8_at bytes) (Err ExtendedLength)) x r.1) [
          | inl is ↦ six (eqb-true _ _ is.0) is.1
          | inr s ↦ elim (chosen (eqb n 0x800C) (extended8_at bytes) (Err ExtendedLength) x s.1) [
            | inl is ↦ eight' (eqb-true _ _ is.0) is.1
            | inr t ↦ absurd (not_ok ExtendedLength x t.1)
          ]
        ]
      ]
    ]

-- what is read from bytes is an object at their front
pub read_is_object : (bytes : List ℕ) (x : Obj × List ℕ) → AreBytes bytes → object_at bytes ≡ okay x → TakesObject bytes x
unfolding object_at
read_is_object (a ∷ b ∷ rest) x fits e =
    by_form (TakesObject (a ∷ b ∷ rest) x) (from_be_bytes w16 (a ∷ b ∷ [])) (a ∷ b ∷ rest) x (taken2 a b rest x fits) (taken4 a b rest x fits) (taken6 a b rest x fits) (taken8 a b rest x fits) e
read_is_object bytes x fits e = absurd cc

-- ---- what follows an object is shorter

value_shorter : (code m : ℕ) (rest : List ℕ) (x : Obj × List ℕ) → value_at code m rest ≡ okay x → length x.1 ≤ length rest
value_shorter code m rest x e =
    let made : Obj × List ℕ = (record { code = code; value = take m rest }, drop m rest) in
    let g = refused (ltb (length rest) m) PastContainer (okay made) x e in
    let same : drop m rest ≡ x.1 = ap (λ (y : Obj × List ℕ). y.1) (same_ok made x g.1) in
    omega (arith, ap length (sym same), length-drop m rest)

shorter2 : (m a b : ℕ) (rest : List ℕ) (x : Obj × List ℕ) → plain_at m (a ∷ b ∷ rest) ≡ okay x → length x.1 < length (a ∷ b ∷ rest)
unfolding plain_at
shorter2 m a b (c ∷ d ∷ rest) x e = omega (arith, value_shorter _ m rest x e)
shorter2 m a b rest x e = absurd cc

shorter4 : (a b : ℕ) (rest : List ℕ) (x : Obj × List ℕ) → extended4_at (a ∷ b ∷ rest) ≡ okay x → length x.1 < length (a ∷ b ∷ rest)
unfolding extended4_at
shorter4 a b (c ∷ d ∷ e ∷ f ∷ g ∷ h ∷ rest) x was = omega (arith, value_shorter _ _ rest x was)
shorter4 a b rest x was = absurd cc

shorter6 : (a b : ℕ) (rest : List ℕ) (x : Obj × List ℕ) → extended6_at (a ∷ b ∷ rest) ≡ okay x → length x.1 < length (a ∷ b ∷ rest)
unfolding extended6_at
shorter6 a b (c ∷ d ∷ e ∷ f ∷ g ∷ h ∷ i ∷ j ∷ rest) x was = omega (arith, value_shorter _ _ rest x was)
shorter6 a b rest x was = absurd cc

shorter8 : (a b : ℕ) (rest : List ℕ) (x : Obj × List ℕ) → extended8_at (a ∷ b ∷ rest) ≡ okay x → length x.1 < length (a ∷ b ∷ rest)
unfolding extended8_at
shorter8 a b (c ∷ d ∷ e ∷ f ∷ g ∷ h ∷ i ∷ j ∷ k ∷ l ∷ rest) x was = omega (arith, value_shorter _ _ rest x was)
shorter8 a b rest x was = absurd cc

pub read_shorter : (bytes : List ℕ) (x : Obj × List ℕ) → object_at bytes ≡ okay x → length x.1 < length bytes
unfolding object_at
read_shorter (a ∷ b ∷ rest) x e =
    let n = from_be_bytes w16 (a ∷ b ∷ []) in
    by_form (length x.1 < length (a ∷ b ∷ rest)) n (a ∷ b ∷ rest) x (λ low high. shorter2 (n - 4) a b rest x) (λ is. shorter4 a b rest x) (λ is. shorter6 a b rest x) (λ is. shorter8 a b rest x) e
read_shorter bytes x e = absurd cc

-- ---- what a reader answers

pub answers_found : (r : Result (Object × Bor (List ℕ)) ObjFault) (bytes : List ℕ) → AreBytes bytes → Answers (λ (x : Object × Bor (List ℕ)). (view x.0, x.1.now)) (λ e. Some e) r (object_at bytes)
    → IfOk r (λ x. (front : List ℕ) × IsObject front (view x.0) × (bytes ≡ front ++ x.1.now))
answers_found (Ok x) bytes fits given = read_is_object bytes (view x.0, x.1.now) fits given
answers_found (Err f) bytes fits given = tt

pub answers_only : (r : Result (Object × Bor (List ℕ)) ObjFault) (bytes rest : List ℕ) (o : Obj) → object_at bytes ≡ okay (o, rest) → Answers (λ (x : Object × Bor (List ℕ)). (view x.0, x.1.now)) (λ e. Some e) r (object_at bytes)
    → IsOkAnd r (λ x. (view x.0 ≡ o) × (x.1.now ≡ rest))
answers_only (Ok x) bytes rest o e given =
    let seen : Obj × List ℕ = (view x.0, x.1.now) in
    let same = same_ok seen (o, rest) (sym given ∙ e) in
    (ap (λ (y : Obj × List ℕ). y.0) same, ap (λ (y : Obj × List ℕ). y.1) same)
answers_only (Err f) bytes rest o e given = absurd cc
