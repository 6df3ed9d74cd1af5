-- The units stand in the order of their owners.
use Rattle.std.proofs.Common.{◌≡◌, ◌≤◌, ◌<◌, ⊎_elim, ℕ, Bool, true, false, ◌==◌, List, [], ◌∷◌, refl, sym, ◌∙◌, ap, subst, arith, eq-eqb}
use Rattle.std.specs.Prelude.{if◌then◌else◌, bytes_eq, nat_lt}
use Rattle.std.proofs.lemmas.Bool.{eqb-true, ltb-false, ltb-true, lt-ltb}
use Rattle.drda_words.proofs.Precedes.{bytes_eq-refl, precedes-trans, precedes_or, precedes_other, same_bytes}
use Rattle.core_model.specs.Units.{Held, Owner, Work, comes_before, global, has_work, idle, local, left_of, others, same_owner, set_unit, unit_of, view, with_unit, without}
use Rattle.core_model.specs.Asked.{Question, answer_to, changes_by, claims_of, kept, unfit}
use Rattle.core_model.specs.Events.{Ask, Base, bare}
use Rattle.core_model.specs.Step.{owner_of}
use Rattle.core_model.specs.Laws.{AreListed, ComesFirst, OneListing, UnitsStayListed}
use Rattle.core_model.proofs.Owners.{Lacks, both, owners_same, same_self, which, without_lacks}
use Rattle.core_model.proofs.Asking.{through}
use Rattle.core_model.proofs.Keeping.{step_keeps}

-- ---- the order

before_through : (o p q : Owner) → comes_before o p ≡ true → comes_before p q ≡ true → comes_before o q ≡ true
before_through (local l) (local m) (local n) h k =
    let first : l < m = ltb-true l m h in let second : m < n = ltb-true m n k in lt-ltb l n (omega (arith, first, second))
before_through (local l) (local m) (global x) h k = refl
before_through (local l) (global y) (local n) h k = both false k refl
before_through (local l) (global y) (global x) h k = refl
before_through (global x) (local m) q h k = both false h refl
before_through (global x) (global y) (local n) h k = both false k refl
before_through (global x) (global y) (global z) h k = precedes-trans x y z h k

-- of two different owners one comes first
or_before : (o p : Owner) → comes_before o p ≡ false → same_owner o p ≡ false → comes_before p o ≡ true
or_before (local m) (local n) h ne =
    let least : n ≤ m = ltb-false m n h in
    ⊎_elim (λ so. so) (λ f. let most : m ≤ n = ltb-false n m f in both (m == n) (eq-eqb m n (omega (arith, least, most))) ne) (which (nat_lt n m))
or_before (local m) (global x) h ne = both true refl h
or_before (global x) (local n) h ne = refl
or_before (global x) (global y) h ne =
    precedes_or x y h (⊎_elim (λ so. both (bytes_eq x y) (ap (λ (z : List ℕ). bytes_eq z y) (sym (same_bytes y x so)) ∙ bytes_eq-refl y) ne) (λ f. f) (which (bytes_eq y x)))

pub first_through : (o p : Owner) (hs : List Held) → comes_before o p ≡ true → ComesFirst p hs → ComesFirst o hs
first_through o p [] h first = tt
first_through o p (k ∷ ks) h first = (before_through o p k.owner h first.0, first_through o p ks h first.1)

-- ---- edits

first_without : (p o : Owner) (hs : List Held) → ComesFirst p hs → ComesFirst p (without o hs)
first_without p o [] first = tt
first_without p o (h ∷ hs) first =
    let P : Bool → Type 0 = λ b. ComesFirst p (if b then without o hs else h ∷ without o hs) in
    ⊎_elim (λ so. subst P (sym so) (first_without p o hs first.1)) (λ n. subst P (sym n) (first.0, first_without p o hs first.1)) (which (same_owner o h.owner))

pub listed_without : (o : Owner) (hs : List Held) → AreListed hs → AreListed (without o hs)
listed_without o [] listed = tt
listed_without o (h ∷ hs) listed =
    let P : Bool → Type 0 = λ b. AreListed (if b then without o hs else h ∷ without o hs) in
    let rest = listed_without o hs listed.2 in
    ⊎_elim (λ so. subst P (sym so) rest) (λ n. subst P (sym n) (listed.0, first_without h.owner o hs listed.1, rest)) (which (same_owner o h.owner))

first_with : (p : Owner) (new : Held) (hs : List Held) → comes_before p new.owner ≡ true → ComesFirst p hs → ComesFirst p (with_unit new hs)
first_with p new [] h first = (h, tt)
first_with p new (k ∷ ks) h first =
    let P : Bool → Type 0 = λ b. ComesFirst p (if b then new ∷ k ∷ ks else k ∷ with_unit new ks) in
    ⊎_elim (λ so. subst P (sym so) (h, first)) (λ n. subst P (sym n) (first.0, first_with p new ks h first.1)) (which (comes_before new.owner k.owner))

listed_with : (new : Held) (hs : List Held) → has_work new.work ≡ true → Lacks new.owner hs → AreListed hs → AreListed (with_unit new hs)
listed_with new [] works lacks listed = (works, tt, tt)
listed_with new (h ∷ hs) works lacks listed =
    let P : Bool → Type 0 = λ b. AreListed (if b then new ∷ h ∷ hs else h ∷ with_unit new hs) in
    ⊎_elim
    (λ so. subst P (sym so) (works, (so, first_through new.owner h.owner hs so listed.1), listed))
    (λ n. subst P (sym n) (listed.0, first_with h.owner new hs (or_before new.owner h.owner n lacks.0) listed.1, listed_with new hs works lacks.1 listed.2))
    (which (comes_before new.owner h.owner))

pub listed_set : (o : Owner) (u : Work) (hs : List Held) → AreListed hs → AreListed (set_unit o u hs)
listed_set o u hs listed =
    let new : Held = record { owner = o; work = u } in
    let P : Bool → Type 0 = λ b. AreListed (if b then with_unit new (without o hs) else without o hs) in
    let rest = listed_without o hs listed in
    ⊎_elim (λ so. subst P (sym so) (listed_with new (without o hs) so (without_lacks o hs) rest)) (λ n. subst P (sym n) rest) (which (has_work u))

-- ---- along a step

abbrev AreSo : Base → Type 0
AreSo b = AreListed b.units

ask_listed : (b : Base) (o : Owner) (q : Question) → AreSo b → AreSo (bare b (Ask o q))
ask_listed b o q listed =
    let u = unit_of o b.units in let v = view b.store u in
    let cs = claims_of q v in let a = answer_to q (left_of u) v in let xs = changes_by q (left_of u) v in
    through (others o b.units) u cs a xs AreSo b o (unfit q) listed (λ n m. listed_set o (kept u cs xs) b.units listed)

pub units_stay_listed : UnitsStayListed
units_stay_listed s c k listed =
    step_keeps AreSo (λ b o h. listed_without o b.units h) (λ b o h. listed_without o b.units h) s c k (λ q. ask_listed s.base (owner_of s.branches c) q listed) listed

-- ---- one listing

pub not_first : (o p : Owner) → comes_before o p ≡ true → same_owner o p ≡ false
not_first (local m) (local n) h = let less : m < n = ltb-true m n h in ⊎_elim (λ so. let e : m ≡ n = eqb-true m n so in absurd (omega (arith, less, e))) (λ f. f) (which (m == n))
not_first (local m) (global x) h = refl
not_first (global x) (local n) h = refl
not_first (global x) (global y) h = precedes_other x y h

-- who comes before all that are listed is not listed
pub none_of_first : (o : Owner) (hs : List Held) → ComesFirst o hs → unit_of o hs ≡ idle
none_of_first o [] first = refl
none_of_first o (h ∷ hs) first = ap (λ b. if b then h.work else unit_of o hs) (not_first o h.owner first.0) ∙ none_of_first o hs first.1

-- a unit with work is none that is not listed
works_not : {X : Type 0} (u : Work) → has_work u ≡ true → u ≡ idle → X
works_not u works e = both (has_work u) works (ap has_work e)

here : (h : Held) (hs : List Held) → unit_of h.owner (h ∷ hs) ≡ h.work
here h hs = ap (λ b. if b then h.work else unit_of h.owner hs) (same_self h.owner)

-- the first of one list comes before the other list
ahead : {X : Type 0} (h k : Held) (hs ks : List Held) → AreListed (h ∷ hs) → AreListed (k ∷ ks) → unit_of h.owner (h ∷ hs) ≡ unit_of h.owner (k ∷ ks) → comes_before h.owner k.owner ≡ true → X
ahead h k hs ks one two same so =
    works_not h.work one.0 (sym (here h hs) ∙ same ∙ none_of_first h.owner (k ∷ ks) (so, first_through h.owner k.owner ks so two.1))

level : (h k : Held) (hs ks : List Held) → AreListed (h ∷ hs) → AreListed (k ∷ ks) → ((o : Owner) → unit_of o (h ∷ hs) ≡ unit_of o (k ∷ ks)) → same_owner h.owner k.owner ≡ true
level h k hs ks one two same =
    ⊎_elim (λ so. so)
    (λ ne. ⊎_elim
    (λ so. ahead h k hs ks one two (same h.owner) so)
    (λ n. ahead k h ks hs two one (sym (same k.owner)) (or_before h.owner k.owner n ne))
    (which (comes_before h.owner k.owner)))
    (which (same_owner h.owner k.owner))

behind : (o : Owner) (h : Held) (hs : List Held) → same_owner o h.owner ≡ false → unit_of o (h ∷ hs) ≡ unit_of o hs
behind o h hs ne = ap (λ b. if b then h.work else unit_of o hs) ne

pub one_listing : OneListing
one_listing [] [] one two same = refl
one_listing [] (k ∷ ks) one two same = works_not k.work two.0 (sym (here k ks) ∙ sym (same k.owner))
one_listing (h ∷ hs) [] one two same = works_not h.work one.0 (sym (here h hs) ∙ same h.owner)
one_listing (h ∷ hs) (k ∷ ks) one two same =
    let owners : h.owner ≡ k.owner = owners_same h.owner k.owner (level h k hs ks one two same) in
    let works : h.work ≡ k.work = sym (here h hs) ∙ same h.owner ∙ ap (λ (o : Owner). unit_of o (k ∷ ks)) owners ∙ here k ks in
    let rest : hs ≡ ks = one_listing hs ks one.2 two.2 (λ o.
    ⊎_elim
    (λ so.
    let at : o ≡ h.owner = owners_same o h.owner so in
    let first : unit_of o hs ≡ idle = subst (λ (p : Owner). unit_of p hs ≡ idle) (sym at) (none_of_first h.owner hs one.1) in
    let second : unit_of o ks ≡ idle = subst (λ (p : Owner). unit_of p ks ≡ idle) (sym (at ∙ owners)) (none_of_first k.owner ks two.1) in
    first ∙ sym second)
    (λ n. sym (behind o h hs n) ∙ same o ∙ behind o k ks (subst (λ (p : Owner). same_owner o p ≡ false) owners n))
    (which (same_owner o h.owner))) in
    λ i. record { owner = owners i; work = works i } ∷ rest i
