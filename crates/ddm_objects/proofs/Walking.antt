-- The walk over a text and its cut into objects.
use Rattle.std.proofs.Common.{◌≡◌, ◌≢◌, ℕ, zero, suc, ◌+◌, ◌<◌, ◌≤◌, List, [], ◌∷◌, ◌++◌, length, Option, Some, None, Result, Ok, Err, refl, sym, ap, subst, ◌∙◌, arith, get_or}
use Rattle.ddm_objects.specs.declared.fault.ObjFault.{ObjFault}
use Rattle.ddm_objects.specs.Objects.{Obj, Begins, AreObjects}
use Rattle.ddm_objects.specs.Reading.{object_at, Walk, walk, walk_within, walk_on, walk_end, walk_stop, walk_past, walk_behind}
use Rattle.std.proofs.lemmas.List.{append-nil, get_or-append-add}
use Rattle.drda_words.specs.Bytes.{AreBytes}
use Rattle.ddm_objects.proofs.Reading.{okay, same_ok, object_is_read, read_shorter, read_is_object}

empty_holds_none : (x : Obj × List ℕ) → object_at [] ≡ okay x → ⊥
unfolding object_at
empty_holds_none x e = absurd cc

-- two readings of one text are the same
same_reading : (bytes : List ℕ) (x y : Obj × List ℕ) → object_at bytes ≡ okay x → object_at bytes ≡ okay y → x ≡ y
same_reading bytes x y e f = same_ok x y (sym e ∙ f)

pub cut_once : (bytes : List ℕ) (objects others : List Obj) → AreObjects bytes objects → AreObjects bytes others → objects ≡ others
cut_once bytes [] [] a b = refl
cut_once bytes [] (p ∷ ps) a b = absurd (empty_holds_none (p, b.1) (ap object_at (sym a) ∙ object_is_read bytes b.0 b.1 p b.2 b.3))
cut_once bytes (o ∷ os) [] a b = absurd (empty_holds_none (o, a.1) (ap object_at (sym b) ∙ object_is_read bytes a.0 a.1 o a.2 a.3))
cut_once bytes (o ∷ os) (p ∷ ps) a b =
    let same = same_reading bytes (o, a.1) (p, b.1) (object_is_read bytes a.0 a.1 o a.2 a.3) (object_is_read bytes b.0 b.1 p b.2 b.3) in
    let first : o ≡ p = ap (λ (x : Obj × List ℕ). x.0) same in
    let after : a.1 ≡ b.1 = ap (λ (x : Obj × List ℕ). x.1) same in
    let beside = cut_once b.1 os ps (subst (λ r. AreObjects r os) after a.4) b.4 in
    ap (λ (x : Obj). x ∷ os) first ∙ ap (λ (xs : List Obj). p ∷ xs) beside

-- ---- the walk goes on object by object

on_same : (r : Result (Obj × List ℕ) ObjFault) (f g : List ℕ → Walk) → ((x : Obj × List ℕ) → r ≡ okay x → f x.1 ≡ g x.1) → walk_on r f ≡ walk_on r g
on_same (Ok x) f g same = ap (walk_past x.0) (same x refl)
on_same (Err e) f g same = refl

-- a limit that is no less than the length does not matter
within_enough : (n m : ℕ) (bytes : List ℕ) → length bytes ≤ n → length bytes ≤ m → walk_within n bytes ≡ walk_within m bytes
within_enough zero zero bytes l k = refl
within_enough zero (suc m) [] l k = refl
within_enough (suc n) zero [] l k = refl
within_enough (suc n) (suc m) [] l k = refl
within_enough zero (suc m) (b ∷ bytes) l k = absurd (omega arith)
within_enough (suc n) zero (b ∷ bytes) l k = absurd (omega arith)
within_enough (suc n) (suc m) (b ∷ bytes) l k =
    on_same (object_at (b ∷ bytes)) (walk_within n) (walk_within m)
    (λ x e. let short = read_shorter (b ∷ bytes) x e in within_enough n m x.1 (omega arith) (omega arith))

pub walk_at_end : walk [] ≡ walk_end
unfolding walk
walk_at_end = refl

pub walk_goes_past : (bytes rest : List ℕ) (o : Obj) → object_at bytes ≡ Ok (o, rest) → walk bytes ≡ walk_past o (walk rest)
unfolding walk
walk_goes_past [] rest o e = absurd (empty_holds_none (o, rest) e)
walk_goes_past (b ∷ bytes) rest o e =
    let short = read_shorter (b ∷ bytes) (o, rest) e in
    let n = length bytes in
    ap (λ (r : Result (Obj × List ℕ) ObjFault). walk_on r (walk_within n)) e ∙ ap (walk_past o) (within_enough n (length rest) rest (omega arith) (omega arith))

pub walk_stops : (bytes : List ℕ) (f : ObjFault) → bytes ≢ [] → object_at bytes ≡ Err f → walk bytes ≡ walk_stop f
unfolding walk
walk_stops [] f some e = absurd (some refl)
walk_stops (b ∷ bytes) f some e = ap (λ (r : Result (Obj × List ℕ) ObjFault). walk_on r (walk_within (length bytes))) e

-- ---- the walk is the cut

-- how a walk ends
abbrev pub Ends : List ℕ → Option ObjFault → Type 0
Ends rest None = rest ≡ []
Ends rest (Some f) = (rest ≢ []) × (object_at rest ≡ Err f)

pub walk_of_begun : (bytes : List ℕ) (objects : List Obj) (rest : List ℕ) → Begins bytes objects rest → walk bytes ≡ walk_behind objects (walk rest)
walk_of_begun bytes [] rest begun = ap walk begun
walk_of_begun bytes (o ∷ os) rest begun =
    walk_goes_past bytes begun.1 o (object_is_read bytes begun.0 begun.1 o begun.2 begun.3) ∙ ap (walk_past o) (walk_of_begun begun.1 os rest begun.4)

pub walk_of_ended : (rest : List ℕ) (fault : Option ObjFault) → Ends rest fault → walk rest ≡ record { objects = []; fault = fault }
walk_of_ended rest None e = ap walk e ∙ walk_at_end
walk_of_ended rest (Some f) e = walk_stops rest f e.0 e.1

pub walk_of_cut : (bytes : List ℕ) (objects : List Obj) (rest : List ℕ) (fault : Option ObjFault) → Begins bytes objects rest → Ends rest fault → walk bytes ≡ record { objects = objects; fault = fault }
walk_of_cut bytes objects rest fault begun ended =
    walk_of_begun bytes objects rest begun ∙ ap (walk_behind objects) (walk_of_ended rest fault ended)
    ∙ ap (λ (xs : List Obj). record { objects = xs; fault = fault }) (append-nil objects)

abbrev pub CutOf : List ℕ → List Obj → Option ObjFault → Type 0
CutOf bytes objects fault = (rest : List ℕ) × Begins bytes objects rest × Ends rest fault

no_object : (f : ObjFault) (o : Obj) (os : List Obj) (fault : Option ObjFault) → walk_stop f ≡ record { objects = o ∷ os; fault = fault } → ⊥
no_object f o os fault e = let bad : [] ≡ o ∷ os = ap (λ (w : Walk). w.objects) e in cc

some_object : (o : Obj) (w : Walk) (fault : Option ObjFault) → walk_past o w ≡ record { objects = []; fault = fault } → ⊥
some_object o w fault e = let bad : o ∷ w.objects ≡ [] = ap (λ (w : Walk). w.objects) e in cc

no_walk : (o : Obj) (os : List Obj) (fault : Option ObjFault) → walk_end ≡ record { objects = o ∷ os; fault = fault } → ⊥
no_walk o os fault e = let bad : [] ≡ o ∷ os = ap (λ (w : Walk). w.objects) e in cc

stopped_at : (f : ObjFault) (fault : Option ObjFault) (rest : List ℕ) → rest ≢ [] → object_at rest ≡ Err f → walk_stop f ≡ record { objects = []; fault = fault } → Ends rest fault
stopped_at f fault rest some e was = subst (Ends rest) (ap (λ (w : Walk). w.fault) was) (some, e)

head_is : (x o : Obj) (xs os : List Obj) → x ∷ xs ≡ o ∷ os → (x ≡ o) × (xs ≡ os)
head_is x o xs os e = (cc, cc)

-- what a walk past an object says of the rest
past_is : (x o : Obj) (w : Walk) (os : List Obj) (fault : Option ObjFault) → walk_past x w ≡ record { objects = o ∷ os; fault = fault } → (x ≡ o) × (w ≡ record { objects = os; fault = fault })
past_is x o w os fault e =
    let both = head_is x o w.objects os (ap (λ (v : Walk). v.objects) e) in
    (both.0, ap (λ (xs : List Obj). record { objects = xs; fault = w.fault }) both.1 ∙ ap (λ (f : Option ObjFault). record { objects = os; fault = f }) (ap (λ (v : Walk). v.fault) e))

pub bytes_behind : (bytes front rest : List ℕ) → bytes ≡ front ++ rest → AreBytes bytes → AreBytes rest
bytes_behind bytes front rest e fits i = subst (λ n. n < 256) (get_or-append-add front rest i 0) (subst (λ (y : List ℕ). get_or y (length front + i) 0 < 256) e (fits (length front + i)))

not_empty : (b : ℕ) (bytes : List ℕ) → b ∷ bytes ≡ [] → ⊥
not_empty b bytes e = cc

cut_of_none : (bytes : List ℕ) (fault : Option ObjFault) (r : Result (Obj × List ℕ) ObjFault) → object_at bytes ≡ r → walk bytes ≡ record { objects = []; fault = fault } → CutOf bytes [] fault
cut_of_none [] fault r e was = ([], refl, subst (Ends []) (ap (λ (w : Walk). w.fault) (sym walk_at_end ∙ was)) refl)
cut_of_none (b ∷ bytes) fault (Ok x) e was = absurd (some_object x.0 (walk x.1) fault (sym (walk_goes_past (b ∷ bytes) x.1 x.0 e) ∙ was))
cut_of_none (b ∷ bytes) fault (Err f) e was =
    (b ∷ bytes, refl, stopped_at f fault (b ∷ bytes) (not_empty b bytes) e (sym (walk_stops (b ∷ bytes) f (not_empty b bytes) e) ∙ was))

first_of_walk : (bytes : List ℕ) (o : Obj) (os : List Obj) (fault : Option ObjFault) (r : Result (Obj × List ℕ) ObjFault) → object_at bytes ≡ r → walk bytes ≡ record { objects = o ∷ os; fault = fault }
    → (after : List ℕ) × (object_at bytes ≡ okay (o, after)) × (walk after ≡ record { objects = os; fault = fault })
first_of_walk [] o os fault r e was = absurd (no_walk o os fault (sym walk_at_end ∙ was))
first_of_walk (b ∷ bytes) o os fault (Ok x) e was =
    let is = past_is x.0 o (walk x.1) os fault (sym (walk_goes_past (b ∷ bytes) x.1 x.0 e) ∙ was) in
    (x.1, e ∙ ap (λ (y : Obj). okay (y, x.1)) is.0, is.1)
first_of_walk (b ∷ bytes) o os fault (Err f) e was = absurd (no_object f o os fault (sym (walk_stops (b ∷ bytes) f (not_empty b bytes) e) ∙ was))

pub cut_of_walk : (bytes : List ℕ) (objects : List Obj) (fault : Option ObjFault) → AreBytes bytes → walk bytes ≡ record { objects = objects; fault = fault } → CutOf bytes objects fault
cut_of_walk bytes [] fault fits e = cut_of_none bytes fault (object_at bytes) refl e
cut_of_walk bytes (o ∷ os) fault fits e =
    let f = first_of_walk bytes o os fault (object_at bytes) refl e in
    let t = read_is_object bytes (o, f.0) fits f.1 in
    let beside = cut_of_walk f.0 os fault (bytes_behind bytes t.0 f.0 t.2 fits) f.2 in
    (beside.0, (t.0, f.0, t.1, t.2, beside.1), beside.2)
