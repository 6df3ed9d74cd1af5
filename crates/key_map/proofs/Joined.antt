-- Pieces one behind another.
use Rattle.std.proofs.Common.{◌≡◌, ℕ, suc, ◌<◌, ◌≤◌, List, [], ◌∷◌, ◌++◌, length, drop, get_or, refl, sym, ap, subst, ◌∙◌, arith, append_assoc, append-nil, Equal, Greater, Ordering}
use Rattle.std.specs.Ordering.{ordering_then}
use Rattle.std.specs.Cmp.{nat_cmp_is}
use Rattle.std.proofs.Math.Seq.{drop-cons}
use Rattle.std.proofs.lemmas.List.{drop_all}
use Rattle.key_map.specs.Slots.{by_bytes}
use Rattle.key_map.specs.SortForm.{byte_form, text_form}
use Rattle.key_map.specs.Fronts.{Compares}
use Rattle.key_map.specs.declared.front.Front.{Front}
use Rattle.key_map.specs.declared.front.Front.TheVariants.{Before, Behind, Same}

-- behind the same bytes what follows decides
same_front : (a r s : List ℕ) → by_bytes (a ++ r) (a ++ s) ≡ by_bytes r s
same_front [] r s = refl
same_front (x ∷ xs) r s = ap (λ o. ordering_then o (by_bytes (xs ++ r) (xs ++ s))) (sym (nat_cmp_is x x Equal refl)) ∙ same_front xs r s

-- what is found of a second piece, where the first one stands in front
pub on : (form a rest b : List ℕ) (o : Front) → form ≡ a ++ rest → Compares rest b o → Compares form (a ++ b) o
on form a rest b Before is h = λ more. ap (λ f. by_bytes f ((a ++ b) ++ more)) is ∙ ap (by_bytes (a ++ rest)) (append_assoc a b more) ∙ same_front a rest (b ++ more) ∙ h more
on form a rest b Behind is h = λ more. ap (λ f. by_bytes f ((a ++ b) ++ more)) is ∙ ap (by_bytes (a ++ rest)) (append_assoc a b more) ∙ same_front a rest (b ++ more) ∙ h more
on form a rest b (Same after) is h = is ∙ ap (λ (x : List ℕ). a ++ x) h ∙ sym (append_assoc a b after.now)

-- what is found of a first piece that the form does not begin with is found of both
pub before : (form a b : List ℕ) → Compares form a Before → Compares form (a ++ b) Before
before form a b h = λ more. ap (by_bytes form) (append_assoc a b more) ∙ h (b ++ more)

pub behind : (form a b : List ℕ) → Compares form a Behind → Compares form (a ++ b) Behind
behind form a b h = λ more. ap (by_bytes form) (append_assoc a b more) ∙ h (b ++ more)

-- a whole form
pub whole : (form piece : List ℕ) (o : Ordering) → by_bytes form (piece ++ []) ≡ o → by_bytes form piece ≡ o
whole form piece o h = ap (by_bytes form) (sym (append-nil piece)) ∙ h

ends : (form piece rest : List ℕ) → form ≡ piece ++ rest → by_bytes form piece ≡ by_bytes rest []
ends form piece rest is = ap (λ f. by_bytes f piece) is ∙ ap (by_bytes (piece ++ rest)) (sym (append-nil piece)) ∙ same_front piece rest []

-- ---- what is left of a list of pieces

pub byte_before : (form piece : List ℕ) (i : ℕ) → i < length piece → Compares form (get_or piece i 0 ∷ []) Before → Compares form (drop i piece) Before
byte_before form piece i low h = subst (λ (l : List ℕ). Compares form l Before) (sym (drop-cons piece i 0 low)) (before form (get_or piece i 0 ∷ []) (drop (suc i) piece) h)

pub byte_behind : (form piece : List ℕ) (i : ℕ) → i < length piece → Compares form (get_or piece i 0 ∷ []) Behind → Compares form (drop i piece) Behind
byte_behind form piece i low h = subst (λ (l : List ℕ). Compares form l Behind) (sym (drop-cons piece i 0 low)) (behind form (get_or piece i 0 ∷ []) (drop (suc i) piece) h)

pub text_before : (form text : List ℕ) (i : ℕ) → i < length text → Compares form (byte_form (get_or text i 0)) Before → Compares form (text_form (drop i text)) Before
text_before form text i low h = subst (λ (l : List ℕ). Compares form (text_form l) Before) (sym (drop-cons text i 0 low)) (before form (byte_form (get_or text i 0)) (text_form (drop (suc i) text)) h)

pub text_behind : (form text : List ℕ) (i : ℕ) → i < length text → Compares form (byte_form (get_or text i 0)) Behind → Compares form (text_form (drop i text)) Behind
text_behind form text i low h = subst (λ (l : List ℕ). Compares form (text_form l) Behind) (sym (drop-cons text i 0 low)) (behind form (byte_form (get_or text i 0)) (text_form (drop (suc i) text)) h)

pub all_there : (piece : List ℕ) (i : ℕ) → length piece ≤ i → (rest : List ℕ) → rest ≡ drop i piece ++ rest
all_there piece i past rest = ap (λ (l : List ℕ). l ++ rest) (sym (drop_all i piece past))

-- ---- where a form ends

pub ended : (form piece rest : List ℕ) → form ≡ piece ++ rest → length rest ≤ 0 → by_bytes form piece ≡ Equal
ended form piece [] is none = ends form piece [] is
ended form piece (x ∷ rest) is none = absurd (omega (arith, none))

pub goes_on : (form piece rest : List ℕ) → form ≡ piece ++ rest → 0 < length rest → by_bytes form piece ≡ Greater
goes_on form piece [] is some = absurd (omega (arith, some))
goes_on form piece (x ∷ rest) is some = ends form piece (x ∷ rest) is
