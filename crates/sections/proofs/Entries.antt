-- What the calls of a map do to the list of its sections by their names.
use Rattle.std.proofs.Common.{◌≡◌, ℕ, zero, suc, Bool, true, false, cond, List, [], ◌∷◌, ◌++◌, length, map, slice_get, None, Some, is_some, refl, sym, ap, ◌∙◌, true≢false}
use Rattle.std.specs.Prelude.{bytes_eq}
use Rattle.std.specs.Map.{lookup, set_value, values_of}
use Rattle.indexmap.specs.IndexMap.{set_value_at}
use Rattle.sections.specs.Cursors.{changed_at}
use Rattle.sections.specs.Kept.{Section}

abbrev pub Entries : Type 0
Entries = List (List ℕ × Section)

-- a value that is set under a name is a section changed
changed : (name : List ℕ) (change : Section → Section) (es : Entries) (old : Section) → lookup (bytes_eq name) es ≡ Some old → set_value (bytes_eq name) es (change old) ≡ changed_at name change es
changed name change [] old h = absurd cc
changed name change (e ∷ es) old h = by (bytes_eq name e.0) h (changed name change es old)
  where
    by : (b : Bool) → cond b (Some e.1) (lookup (bytes_eq name) es) ≡ Some old
        → (lookup (bytes_eq name) es ≡ Some old → set_value (bytes_eq name) es (change old) ≡ changed_at name change es)
        → cond b ((e.0, change old) ∷ es) (e ∷ set_value (bytes_eq name) es (change old)) ≡ cond b ((e.0, change e.1) ∷ es) (e ∷ changed_at name change es)
    by true h rest = let same : old ≡ e.1 = cc in ap (λ (s : Section). (e.0, change s) ∷ es) same
    by false h rest = ap (λ xs. e ∷ xs) (rest h)

pub changed_by : (name : List ℕ) (change : Section → Section) (es now : Entries) (old new : Section) → Some old ≡ lookup (bytes_eq name) es → new ≡ change old
    → now ≡ set_value (bytes_eq name) es new → now ≡ changed_at name change es
changed_by name change es now old new is same set = set ∙ ap (set_value (bytes_eq name) es) same ∙ changed name change es old (sym is)

-- where no section has the name, none is changed
unchanged : (name : List ℕ) (change : Section → Section) (xs : Entries) → lookup (bytes_eq name) xs ≡ None → changed_at name change xs ≡ xs
unchanged name change [] h = refl
unchanged name change (x ∷ xs) h = by (bytes_eq name x.0) h (unchanged name change xs)
  where
    by : (b : Bool) → cond b (Some x.1) (lookup (bytes_eq name) xs) ≡ None → (lookup (bytes_eq name) xs ≡ None → changed_at name change xs ≡ xs)
        → cond b ((x.0, change x.1) ∷ xs) (x ∷ changed_at name change xs) ≡ x ∷ xs
    by true h rest = absurd cc
    by false h rest = ap (λ ys. x ∷ ys) (rest h)

pub unchanged_by : (name : List ℕ) (change : Section → Section) (es now : Entries) → None ≡ lookup (bytes_eq name) es → now ≡ es → now ≡ changed_at name change es
unchanged_by name change es now none same = same ∙ sym (unchanged name change es (sym none))

-- a section that is put in comes last
pub added_by : (es now : Entries) (key name : List ℕ) (section new : Section) → key ≡ name → section ≡ new → lookup (bytes_eq name) es ≡ None
    → (lookup (bytes_eq key) es ≡ None → now ≡ es ++ (key, section) ∷ []) → now ≡ es ++ (name, new) ∷ []
added_by es now key name section new named is none more =
    more (ap (λ n. lookup (bytes_eq n) es) named ∙ none) ∙ ap (λ (n : List ℕ). es ++ (n, section) ∷ []) named ∙ ap (λ (s : Section). es ++ (name, s) ∷ []) is

-- a name that is there is found
pub there : (name other : List ℕ) (es : Entries) → other ≡ name → None ≡ lookup (bytes_eq other) es → is_some (lookup (bytes_eq name) es) ≡ true → ⊥
there name other es same none some = true≢false (sym some ∙ ap is_some (sym (none ∙ ap (λ n. lookup (bytes_eq n) es) same)))

-- the first so many changed
abbrev pub changed_to : (Section → Section) → ℕ → Entries → Entries
changed_to change zero xs = xs
changed_to change (suc i) [] = []
changed_to change (suc i) (x ∷ xs) = (x.0, change x.1) ∷ changed_to change i xs

pub changed_all : (change : Section → Section) (xs : Entries) → changed_to change (length xs) xs ≡ map (λ named. (named.0, change named.1)) xs
changed_all change [] = refl
changed_all change (x ∷ xs) = ap (λ ys. (x.0, change x.1) ∷ ys) (changed_all change xs)

-- and one more of them
pub changed_next : (change : Section → Section) (i : ℕ) (es xs : Entries) (old : Section) → es ≡ changed_to change i xs → slice_get (values_of es) i ≡ Some old
    → set_value_at es i (change old) ≡ changed_to change (suc i) xs
changed_next change i es xs old is at = ap (λ (now : Entries). set_value_at now i (change old)) is ∙ next i xs (sym (ap (λ (now : Entries). slice_get (values_of now) i) is) ∙ at)
  where
    next : (i : ℕ) (xs : Entries) → slice_get (values_of (changed_to change i xs)) i ≡ Some old → set_value_at (changed_to change i xs) i (change old) ≡ changed_to change (suc i) xs
    next zero [] at = absurd cc
    next (suc i) [] at = absurd cc
    next zero (x ∷ xs) at = let same : old ≡ x.1 = cc in ap (λ (s : Section). (x.0, change s) ∷ xs) same
    next (suc i) (x ∷ xs) at = ap (λ (ys : Entries). (x.0, change x.1) ∷ ys) (next i xs at)
