-- A search for a code point, object by object.
use Rattle.std.proofs.Common.{◌≡◌, ℕ, ◌<◌, Bool, true, false, cond, eqb, List, [], ◌∷◌, ◌++◌, length, Option, Some, None, Result, Ok, Err, refl, sym, ap, subst, ◌∙◌, arith, inl, inr, length-append, lit<}
use Rattle.std.specs.Prelude.{◌==◌, is_some}
use Rattle.std.proofs.lemmas.Bool.{eq-eqb}
use Rattle.std.proofs.lemmas.Bool.Decides.{eqb_tells}
use Rattle.std.proofs.lemmas.List.{append-nil}
use Rattle.std.proofs.lemmas.List.Elements.{filter-append}
use Rattle.ddm_objects.specs.declared.fault.ObjFault.{ObjFault}
use Rattle.ddm_objects.specs.declared.fault.FindFault.TheVariants.{Twice}
use Rattle.ddm_objects.specs.declared.object.Object.{Object}
use Rattle.ddm_objects.specs.declared.parts.Parts.{Parts}
use Rattle.ddm_objects.specs.Objects.{Obj, IsObject, Begins}
use Rattle.ddm_objects.specs.Reading.{Walk, walk, with_code}
use Rattle.ddm_objects.specs.Source.{view, LiesBefore, LiesIn, rest_of, source_of, Steps, Finds}
use Rattle.drda_words.specs.Bytes.{AreBytes}
use Rattle.ddm_objects.proofs.Reading.{read_is_object}
use Rattle.ddm_objects.proofs.Walking.{walk_of_cut, bytes_behind}

-- what a search has found among the objects that it has seen
abbrev pub Sees : List ℕ → ℕ → List Obj → Option Object → Bool → Type 0
Sees source code seen None twice = (with_code code seen ≡ []) × (twice ≡ false)
Sees source code seen (Some o) false = (with_code code seen ≡ view o ∷ []) × LiesIn source o
Sees source code seen (Some o) true = 1 < length (with_code code seen)

-- a search that has come to a place
pub record SoFar (source : List ℕ) (code : ℕ) (found : Option Object) (twice : Bool) (place : Parts) : Type 0 where
  pub seen : List Obj
  pub same : source_of place ≡ source
  pub begins : Begins source seen (rest_of place)
  pub sees : Sees source code seen found twice

begins_next : (bytes : List ℕ) (os : List Obj) (rest front after : List ℕ) (o : Obj) → Begins bytes os rest → IsObject front o → rest ≡ front ++ after → Begins bytes (os ++ o ∷ []) after
begins_next bytes [] rest front after o begun is e = (front, after, is, begun ∙ e, refl)
begins_next bytes (x ∷ os) rest front after o begun is e = (begun.0, begun.1, begun.2, begun.3, begins_next begun.1 os rest front after o begun.4 is e)

-- a byte list that goes on behind objects
bytes_left : (bytes : List ℕ) (os : List Obj) (rest : List ℕ) → Begins bytes os rest → AreBytes bytes → AreBytes rest
bytes_left bytes [] rest begun fits = subst AreBytes begun fits
bytes_left bytes (x ∷ os) rest begun fits = bytes_left begun.1 os rest begun.4 (bytes_behind bytes begun.0 begun.1 begun.3 fits)

one_more : (os : List Obj) (code : ℕ) (o : Obj) → o.code ≡ code → with_code code (os ++ o ∷ []) ≡ with_code code os ++ o ∷ []
one_more os code o e = filter-append (λ (x : Obj). x.code == code) os (o ∷ []) ∙ ap (λ b. with_code code os ++ cond b (o ∷ []) []) (eq-eqb o.code code e)

none_more : (os : List Obj) (code : ℕ) (o : Obj) → eqb o.code code ≡ false → with_code code (os ++ o ∷ []) ≡ with_code code os
none_more os code o e = filter-append (λ (x : Obj). x.code == code) os (o ∷ []) ∙ ap (λ b. with_code code os ++ cond b (o ∷ []) []) e ∙ append-nil (with_code code os)

differs : (m n : ℕ) → (m ≡ n → ⊥) → eqb m n ≡ false
differs m n h = elim (eqb_tells m n) [ inl p ↦ absurd (h p.1) | inr p ↦ p.0 ]

sees_this : (source : List ℕ) (code : ℕ) (seen : List Obj) (found : Option Object) (twice : Bool) (o : Object) → Sees source code seen found twice → o.code ≡ code → LiesIn source o
    → Sees source code (seen ++ view o ∷ []) (Some o) (is_some found)
sees_this source code seen None twice o sees same lies = (one_more seen code (view o) same ∙ ap (λ (os : List Obj). os ++ view o ∷ []) sees.0, lies)
sees_this source code seen (Some f) false o sees same lies =
    let e = one_more seen code (view o) same ∙ ap (λ (os : List Obj). os ++ view o ∷ []) sees.0 in
    subst (λ (os : List Obj). 1 < length os) (sym e) (lit< tt)
sees_this source code seen (Some f) true o sees same lies = omega (arith, ap length (one_more seen code (view o) same), length-append (with_code code seen) (view o ∷ []))

sees_other : (source : List ℕ) (code : ℕ) (seen : List Obj) (found : Option Object) (twice : Bool) (o : Obj) → Sees source code seen found twice → (o.code ≡ code → ⊥)
    → Sees source code (seen ++ o ∷ []) found twice
sees_other source code seen None twice o sees differ = (none_more seen code o (differs o.code code differ) ∙ sees.0, sees.1)
sees_other source code seen (Some f) false o sees differ = (none_more seen code o (differs o.code code differ) ∙ sees.0, sees.1)
sees_other source code seen (Some f) true o sees differ = subst (λ (os : List Obj). 1 < length os) (sym (none_more seen code o (differs o.code code differ))) sees

-- ---- a step of the search

-- the next object, in the source
next_is : (source : List ℕ) (seen : List Obj) (old new : Parts) (o : Object) → AreBytes source → source_of old ≡ source → Begins source seen (rest_of old) → Steps old (Some (Ok o)) new
    → Begins source (seen ++ view o ∷ []) (rest_of new) × LiesIn source o
next_is source seen old new o fits same begun step =
    let t = read_is_object (rest_of old) (view o, rest_of new) (bytes_left source seen (rest_of old) begun fits) step.here in (
      begins_next source seen (rest_of old) t.0 (rest_of new) (view o) begun t.1 t.2,
      record { earlier = seen; text = rest_of old; rest = rest_of new; begins = begun; here = step.here; place = subst (λ y. LiesBefore y o (rest_of new)) same step.place },
    )

abbrev Part : Type 0
Part = Result Object ObjFault

pub goes_on_this : (source : List ℕ) (code : ℕ) (found : Option Object) (twice now : Bool) (old new : Parts) (part : Part) (o : Object) → AreBytes source → SoFar source code found twice old
    → Steps old (Some part) new → part ≡ Ok o → o.code ≡ code → now ≡ is_some found → SoFar source code (Some o) now new
goes_on_this source code found twice now old new part o fits before step is same said =
    let s : Steps old (Some (Ok o)) new = subst (λ p. Steps old (Some p) new) is step in
    let n = next_is source before.seen old new o fits before.same before.begins s in
    record {
      seen = before.seen ++ view o ∷ [];
      same = s.source ∙ before.same;
      begins = n.0;
      sees = subst (Sees source code (before.seen ++ view o ∷ []) (Some o)) (sym said) (sees_this source code before.seen found twice o before.sees same n.1);
    }

pub goes_on_other : (source : List ℕ) (code : ℕ) (found : Option Object) (twice : Bool) (old new : Parts) (part : Part) (o : Object) → AreBytes source → SoFar source code found twice old
    → Steps old (Some part) new → part ≡ Ok o → (o.code ≡ code → ⊥) → SoFar source code found twice new
goes_on_other source code found twice old new part o fits before step is differ =
    let s : Steps old (Some (Ok o)) new = subst (λ p. Steps old (Some p) new) is step in
    let n = next_is source before.seen old new o fits before.same before.begins s in
    record { seen = before.seen ++ view o ∷ []; same = s.source ∙ before.same; begins = n.0; sees = sees_other source code before.seen found twice (view o) before.sees differ }

pub stops_at : (source : List ℕ) (code : ℕ) (found : Option Object) (twice : Bool) (old new : Parts) (part : Part) (f : ObjFault) → SoFar source code found twice old
    → Steps old (Some part) new → part ≡ Err f → (walk source).fault ≡ Some f
stops_at source code found twice old new part f before step is =
    let s : Steps old (Some (Err f)) new = subst (λ p. Steps old (Some p) new) is step in
    ap (λ (w : Walk). w.fault) (walk_of_cut source before.seen (rest_of old) (Some f) before.begins (s.something_left, s.here))

-- ---- the end of the search

whole : (source : List ℕ) (code : ℕ) (found : Option Object) (twice : Bool) (old new : Parts) (before : SoFar source code found twice old) → Steps old None new
    → walk source ≡ record { objects = before.seen; fault = None }
whole source code found twice old new before step = walk_of_cut source before.seen (rest_of old) None before.begins step.nothing_left

sees_two : (source : List ℕ) (code : ℕ) (seen : List Obj) (found : Option Object) → Sees source code seen found true → 1 < length (with_code code seen)
sees_two source code seen None sees = absurd (let bad : true ≡ false = sees.1 in cc)
sees_two source code seen (Some o) sees = sees

pub ends_twice : (source : List ℕ) (code : ℕ) (found : Option Object) (twice : Bool) (old new : Parts) → SoFar source code found twice old → Steps old None new → twice ≡ true
    → Finds source code (Err Twice)
ends_twice source code found twice old new before step said =
    let w = whole source code found twice old new before step in
    let two = sees_two source code before.seen found (subst (Sees source code before.seen found) said before.sees) in
    (ap (λ (w : Walk). w.fault) w, subst (λ (os : List Obj). 1 < length (with_code code os)) (sym (ap (λ (w : Walk). w.objects) w)) two)

finds_of : (source : List ℕ) (code : ℕ) (seen : List Obj) (found : Option Object) → walk source ≡ record { objects = seen; fault = None } → Sees source code seen found false → Finds source code (Ok found)
finds_of source code seen None w sees = (ap (λ (w : Walk). w.fault) w, ap (λ (w : Walk). with_code code w.objects) w ∙ sees.0)
finds_of source code seen (Some o) w sees = (ap (λ (w : Walk). w.fault) w, ap (λ (w : Walk). with_code code w.objects) w ∙ sees.0, sees.1)

pub ends_once : (source : List ℕ) (code : ℕ) (found : Option Object) (twice : Bool) (old new : Parts) → SoFar source code found twice old → Steps old None new → twice ≡ false
    → Finds source code (Ok found)
ends_once source code found twice old new before step said =
    finds_of source code before.seen found (whole source code found twice old new before step) (subst (Sees source code before.seen found) said before.sees)
