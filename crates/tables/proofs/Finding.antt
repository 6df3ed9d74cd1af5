-- What is found in a list of entries after it has changed.
use Rattle.std.proofs.Common.{◌≡◌, ◌≢◌, ℕ, List, [], ◌∷◌, Bool, true, false, cond, if◌then◌else◌, refl, sym, ap, subst, ◌∙◌, Option, Some, None, option_map, true≢false, Ordering, Less, Equal, Greater}
use Rattle.std.specs.Prelude.{bytes_eq, not, filter}
use Rattle.std.specs.Map.{lookup}
use Rattle.std.specs.BTreeMap.{insert_entry}
use Rattle.std.specs.Ordering.{match_ordering}
use Rattle.std.proofs.lemmas.Slice.Eq.{bytes_eq-Decides}
use Rattle.tables.specs.Tables.{Store, Table, with_table}

-- a list of bytes is itself, and what is another is told apart
pub itself : (a : List ℕ) → bytes_eq a a ≡ true
itself a = (bytes_eq-Decides a a).1 refl

pub same_bytes : (a b : List ℕ) → bytes_eq a b ≡ true → a ≡ b
same_bytes a b h = (bytes_eq-Decides a b).0 h

-- an order that tells all keys apart
pub record TellsApart (R : List ℕ → List ℕ → Ordering) : Type 0 where
  pub exact : (a b : List ℕ) → R a b ≡ Equal → a ≡ b
  pub itself : (a : List ℕ) → R a a ≡ Equal

pub otherwise : (b : Bool) {A : Type 0} (x y : A) → b ≡ false → cond b x y ≡ y
otherwise b x y h = rw h refl

pub indeed : (b : Bool) {A : Type 0} (x y : A) → b ≡ true → cond b x y ≡ x
indeed b x y h = rw h refl

not_same : (R : List ℕ → List ℕ → Ordering) → TellsApart R → (k e : List ℕ) (o : Ordering) (b : Bool) → R k e ≡ o → o ≢ Equal → bytes_eq k e ≡ b → b ≡ false
not_same R t k e o true is apart same = absurd (apart (sym is ∙ ap (λ l. R l e) (same_bytes k e same) ∙ t.itself e))
not_same R t k e o false is apart same = refl

-- a comparison that does not tie is of two keys
pub told_apart : (R : List ℕ → List ℕ → Ordering) → TellsApart R → (k e : List ℕ) (o : Ordering) → R k e ≡ o → o ≢ Equal → bytes_eq k e ≡ false
told_apart R t k e o is apart = not_same R t k e o (bytes_eq k e) is apart refl

twice : {A : Type 0} (b : Bool) (x y z : A) → cond b x z ≡ cond b x (cond b y z)
twice true x y z = refl
twice false x y z = refl

swap_cases : {A : Type 0} (a b : Bool) (x y z : A) → (a ≡ true → b ≡ true → ⊥) → cond a x (cond b y z) ≡ cond b y (cond a x z)
swap_cases true true x y z no_both = absurd (no_both refl refl)
swap_cases true false x y z no_both = refl
swap_cases false true x y z no_both = refl
swap_cases false false x y z no_both = refl

clash : (a b : List ℕ) → a ≡ b → bytes_eq a b ≡ false → ⊥
clash a b same apart = true≢false (sym (sym (ap (λ (l : List ℕ). bytes_eq a l) same) ∙ itself a) ∙ apart)

found_step : (R : List ℕ → List ℕ → Ordering) {X : Type 0} → TellsApart R → (q k : List ℕ) (v : X) (e : List ℕ × X) (es rest : List (List ℕ × X)) (o : Ordering) → R k e.0 ≡ o
    → lookup (bytes_eq q) rest ≡ cond (bytes_eq q k) (Some v) (lookup (bytes_eq q) es)
    → lookup (bytes_eq q) (match_ordering o ((k, v) ∷ e ∷ es) ((e.0, v) ∷ es) (e ∷ rest)) ≡ cond (bytes_eq q k) (Some v) (lookup (bytes_eq q) (e ∷ es))
found_step R t q k v e es rest Less is same = refl
found_step R t q k v e es rest Equal is same =
    let alike : k ≡ e.0 = t.exact k e.0 is in
    twice (bytes_eq q e.0) (Some v) (Some e.1) (lookup (bytes_eq q) es) ∙ ap (λ (l : List ℕ). cond (bytes_eq q l) (Some v) (lookup (bytes_eq q) (e ∷ es))) (sym alike)
found_step R t q k v e es rest Greater is same =
    let apart : bytes_eq k e.0 ≡ false = told_apart R t k e.0 Greater is (λ h. cc) in
    ap (λ o. cond (bytes_eq q e.0) (Some e.1) o) same
    ∙ swap_cases (bytes_eq q e.0) (bytes_eq q k) (Some e.1) (Some v) (lookup (bytes_eq q) es)
    (λ one two. clash k e.0 (sym (same_bytes q k two) ∙ same_bytes q e.0 one) apart)

-- what is found after an entry was put
pub found_put : (R : List ℕ → List ℕ → Ordering) {X : Type 0} → TellsApart R → (q k : List ℕ) (v : X) (es : List (List ℕ × X)) → lookup (bytes_eq q) (insert_entry R es k v) ≡ cond (bytes_eq q k) (Some v) (lookup (bytes_eq q) es)
found_put R t q k v [] = refl
found_put R t q k v (e ∷ es) = found_step R t q k v e es (insert_entry R es k v) (R k e.0) refl (found_put R t q k v es)

taken_step : {X : Type 0} (q k : List ℕ) (e : List ℕ × X) (es rest : List (List ℕ × X)) (b : Bool) → bytes_eq k e.0 ≡ b → lookup (bytes_eq q) rest ≡ cond (bytes_eq q k) None (lookup (bytes_eq q) es)
    → lookup (bytes_eq q) (if not b then e ∷ rest else rest) ≡ cond (bytes_eq q k) None (lookup (bytes_eq q) (e ∷ es))
taken_step q k e es rest true is same =
    let alike : k ≡ e.0 = same_bytes k e.0 is in
    same ∙ ap (λ (l : List ℕ). cond (bytes_eq q l) None (lookup (bytes_eq q) es)) alike ∙ twice (bytes_eq q e.0) None (Some e.1) (lookup (bytes_eq q) es) ∙ ap (λ (l : List ℕ). cond (bytes_eq q l) None (lookup (bytes_eq q) (e ∷ es))) (sym alike)
taken_step q k e es rest false is same =
    ap (λ o. cond (bytes_eq q e.0) (Some e.1) o) same
    ∙ swap_cases (bytes_eq q e.0) (bytes_eq q k) (Some e.1) None (lookup (bytes_eq q) es)
    (λ one two. clash k e.0 (sym (same_bytes q k two) ∙ same_bytes q e.0 one) is)

pub either_way : {A : Type 0} (b : Bool) (x : A) → x ≡ cond b x x
either_way true x = refl
either_way false x = refl

-- what is found after the entries of a key were taken out
pub found_taken : {X : Type 0} (q k : List ℕ) (es : List (List ℕ × X)) → lookup (bytes_eq q) (filter (λ (e : List ℕ × X). not (bytes_eq k e.0)) es) ≡ cond (bytes_eq q k) None (lookup (bytes_eq q) es)
found_taken q k [] = either_way (bytes_eq q k) None
found_taken q k (e ∷ es) = taken_step q k e es (filter (λ d. not (bytes_eq k d.0)) es) (bytes_eq k e.0) refl (found_taken q k es)

in_place : {X : Type 0} (f : X → X) (b : Bool) (x : X) (o : Option X) → cond b (Some (f x)) o ≡ cond b (option_map f (cond b (Some x) o)) (cond b (Some x) o)
in_place f true x o = refl
in_place f false x o = refl

elsewhere : {X : Type 0} (f : X → X) (a b : Bool) (x : X) (o p : Option X) → p ≡ cond b (option_map f o) o → (a ≡ true → b ≡ true → ⊥) → cond a (Some x) p ≡ cond b (option_map f (cond a (Some x) o)) (cond a (Some x) o)
elsewhere f true true x o p is apart = absurd (apart refl refl)
elsewhere f true false x o p is apart = refl
elsewhere f false true x o p is apart = is
elsewhere f false false x o p is apart = is

changed_step : (f : Table → Table) (q n : List ℕ) (e : List ℕ × Table) (es rest : Store) (b : Bool) → bytes_eq n e.0 ≡ b
    → lookup (bytes_eq q) rest ≡ cond (bytes_eq q n) (option_map f (lookup (bytes_eq q) es)) (lookup (bytes_eq q) es)
    → lookup (bytes_eq q) (if b then (e.0, f e.1) ∷ es else e ∷ rest) ≡ cond (bytes_eq q n) (option_map f (lookup (bytes_eq q) (e ∷ es))) (lookup (bytes_eq q) (e ∷ es))
changed_step f q n e es rest true is same =
    let alike : n ≡ e.0 = same_bytes n e.0 is in
    subst (λ (l : List ℕ). lookup (bytes_eq q) ((e.0, f e.1) ∷ es) ≡ cond (bytes_eq q l) (option_map f (lookup (bytes_eq q) (e ∷ es))) (lookup (bytes_eq q) (e ∷ es))) (sym alike)
    (in_place f (bytes_eq q e.0) e.1 (lookup (bytes_eq q) es))
changed_step f q n e es rest false is same =
    elsewhere f (bytes_eq q e.0) (bytes_eq q n) e.1 (lookup (bytes_eq q) es) (lookup (bytes_eq q) rest) same (λ one two. clash n e.0 (sym (same_bytes q n two) ∙ same_bytes q e.0 one) is)

-- what is found after the table of a name has changed
pub found_changed : (f : Table → Table) (q n : List ℕ) (es : Store) → lookup (bytes_eq q) (with_table f n es) ≡ cond (bytes_eq q n) (option_map f (lookup (bytes_eq q) es)) (lookup (bytes_eq q) es)
found_changed f q n [] = either_way (bytes_eq q n) None
found_changed f q n (e ∷ es) = changed_step f q n e es (with_table f n es) (bytes_eq n e.0) refl (found_changed f q n es)
