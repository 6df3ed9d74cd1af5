-- Places in a source, from a place in the source on.
use Rattle.std.proofs.Common.{◌≡◌, ℕ, ◌+◌, ◌≤◌, List, [], length, take, drop, Ok, Err, refl, eqb, true, false, sym, ap, subst, ◌∙◌, arith}
use Rattle.std.proofs.lemmas.List.{drop-drop, length-drop, nil_from_length}
use Rattle.std.proofs.lemmas.Bool.{eqb-true, eq-eqb}
use Rattle.drda_words.specs.Place.{StandsAt}
use Rattle.ddm_objects.specs.declared.fault.ObjFault.{ObjFault}
use Rattle.ddm_objects.specs.declared.object.Object.{Object}
use Rattle.ddm_objects.specs.declared.parts.Parts.{Parts}
use Rattle.ddm_objects.specs.Reading.{object_at, walk}
use Rattle.ddm_objects.specs.Source.{view, LiesBefore, rest_of, source_of, AtEnd, Passes, Stops}
use Rattle.ddm_objects.proofs.Walking.{walk_at_end, walk_goes_past, walk_stops}

-- bytes at a place of what begins at k
stands_further : (source : List ℕ) (k at : ℕ) (bytes : List ℕ) → k ≤ length source → StandsAt (drop k source) at bytes → StandsAt source (k + at) bytes
stands_further source k at bytes inside stands =
    (omega (arith, stands.0, length-drop k source), ap (take (length bytes)) (sym (drop-drop at k source)) ∙ stands.1)

-- what follows an object that begins at k
follows_further : (source : List ℕ) (k at n : ℕ) → drop n (drop at (drop k source)) ≡ drop (k + at + n) source
follows_further source k at n = ap (drop n) (drop-drop at k source) ∙ drop-drop n (k + at) source

-- an object that is read from k on, with its place in the whole source
pub lies_further : (source : List ℕ) (k : ℕ) (o : Object) (rest : List ℕ) → k ≤ length source → LiesBefore (drop k source) o rest
    → LiesBefore source (record { code = o.code; at = k + o.at; value = o.value }) (drop (k + o.at + length o.value.now) source)
lies_further source k o rest inside lies =
    record { stands = stands_further source k o.at o.value.now inside lies.stands; follows = sym (drop-drop (length o.value.now) (k + o.at) source) }

-- ---- the steps of a walk; left is what the code sees of the source from its place on

pub ends : (old : Parts) (left : List ℕ) → left ≡ rest_of old → eqb (length left) 0 ≡ true → AtEnd old old
ends old left is none =
    let nothing : rest_of old ≡ [] = nil_from_length (rest_of old) (ap length (sym is) ∙ eqb-true (length left) 0 none) in
    record { nothing_left = nothing; walked = ap walk nothing ∙ walk_at_end; ended = nothing; source = refl }

pub passes : (old new : Parts) (left : List ℕ) (o : Object) (rest : List ℕ) → left ≡ rest_of old → object_at left ≡ Ok (view o, rest) → LiesBefore left o rest
    → source_of new ≡ source_of old → new.at ≡ old.at + o.at + length o.value.now → Passes old (record { code = o.code; at = old.at + o.at; value = o.value }) new
passes old new left o rest is e lies same at =
    let source = old.source.now in
    let lies_here : LiesBefore (rest_of old) o rest = subst (λ (y : List ℕ). LiesBefore y o rest) is lies in
    let behind : drop (old.at + o.at + length o.value.now) source ≡ rest_of new = ap (λ (k : ℕ). drop k source) (sym at) ∙ ap (drop new.at) (sym same) in
    let rest_is : rest ≡ rest_of new = lies_here.follows ∙ follows_further source old.at o.at (length o.value.now) ∙ behind in
    let here : object_at (rest_of old) ≡ Ok (view o, rest_of new) = ap object_at (sym is) ∙ e ∙ ap (λ (r : List ℕ). Ok (view o, r)) rest_is in
    let moved : Object = record { code = o.code; at = old.at + o.at; value = o.value } in
    record {
      here = here;
      walked = walk_goes_past (rest_of old) (rest_of new) (view o) here;
      place = subst (λ (r : List ℕ). LiesBefore source moved r) behind (lies_further source old.at o rest old.inside lies_here);
      source = same;
    }

pub stops : (old new : Parts) (left : List ℕ) (f : ObjFault) → left ≡ rest_of old → eqb (length left) 0 ≡ false → object_at left ≡ Err f → source_of new ≡ source_of old → rest_of new ≡ []
    → Stops old f new
stops old new left f is some e same ended =
    let here : object_at (rest_of old) ≡ Err f = ap object_at (sym is) ∙ e in
    let something : rest_of old ≡ [] → ⊥ = λ none. absurd (let bad : true ≡ false = sym (eq-eqb (length left) 0 (ap length (is ∙ none))) ∙ some in cc) in
    record { something_left = something; here = here; walked = walk_stops (rest_of old) f something here; ended = ended; source = same }
