-- The whole index after a claim is entered, refused for want of memory, or taken off.
use Rattle.std.proofs.Common.{◌≡◌, ◌≢◌, ◌<◌, ◌≤◌, ◌+◌, ◌-◌, ℕ, zero, suc, Bool, true, false, List, [], ◌∷◌, ◌++◌, refl, sym, ap, subst, ◌∙◌, length, take, arith, Option, Some, None, MatchOption, IsSome, slice_get, length-append, append-nil}
use Rattle.std.proofs.Math.Seq.{take-append_seam}
use Rattle.std.specs.Global.{Vec}
use Rattle.std.specs.Option.{option_to_list}
use Rattle.unit_locks.specs.declared.place.Place.{Place}
use Rattle.unit_locks.specs.declared.holder.Holder.{Holder}
use Rattle.unit_locks.specs.Claim.{Claim}
use Rattle.unit_locks.specs.Claims.{ClashesWith, ClashesWithNone}
use Rattle.unit_locks.specs.Index.{Adds, IsIndex, Leaves, Stays, Use, held, is_place, one_if, place_of, placed, same_use, use_in, used}
use Rattle.unit_locks.specs.Lists.{list_at}
use Rattle.unit_locks.proofs.Indexed.{all_same, count_less, count_more, count_same, index_less, index_more, index_same, within_popped}

pub stayed : (units : List (Vec Claim)) (places places' : List (Vec Place)) (holders holders' : List (Vec Holder)) → IsIndex units places holders → Stays places places' holders holders' → IsIndex units places' holders'
stayed units places places' holders holders' index stays = record {
  indexed = index_same places places' (λ n. list_at units n) (λ n. list_at units n) index.indexed stays.kept (λ n. refl);
  counts = λ k. stays.same k ∙ index.counts k;
}

pub same_lists : (units units' : List (Vec Claim)) (places : List (Vec Place)) (holders : List (Vec Holder)) → IsIndex units places holders → ((n : ℕ) → list_at units' n ≡ list_at units n) → IsIndex units' places holders
same_lists units units' places holders index same = record {
  indexed = index_same places places (λ n. list_at units n) (λ n. list_at units' n) index.indexed (λ q h. h) same;
  counts = λ k. index.counts k ∙ ap (λ (l : List Claim). used l k) (sym (same k.unit));
}

pub entered : (units units' : List (Vec Claim)) (places places' : List (Vec Place)) (holders holders' : List (Vec Holder)) (unit : ℕ) (c : Claim) (p : Place) → IsIndex units places holders
    → p ≡ place_of unit (length (list_at units unit)) c → p.unit ≡ unit → Adds places places' holders holders' p (use_in p.unit c)
    → list_at units' unit ≡ list_at units unit ++ c ∷ [] → ((n : ℕ) → n ≢ unit → list_at units' n ≡ list_at units n) → IsIndex units' places' holders'
entered units units' places places' holders holders' unit c p index is own adds here others =
    let P : ℕ → Type 0 = λ n. (k : Use) → held holders' k ≡ held holders k + one_if (same_use (use_in n c) k) in
    record {
      indexed = index_more places places' (λ n. list_at units n) (λ n. list_at units' n) unit c index.indexed adds.kept (subst (λ (x : Place). placed places' x ≡ true) is adds.there) here others;
      counts = count_more holders holders' (λ n. list_at units n) (λ n. list_at units' n) unit c index.counts (subst P own adds.up) here others;
    }

pub refused : (units units' : List (Vec Claim)) (places mid_places places' : List (Vec Place)) (holders mid holders' : List (Vec Holder)) (unit : ℕ) (c d : Claim) (p : Place) → IsIndex units places holders
    → p ≡ place_of unit (length (list_at units unit)) c → p.unit ≡ unit → d ≡ c → Adds places mid_places holders mid p (use_in p.unit c) → Leaves mid_places places' mid holders' p (use_in p.unit d)
    → list_at units' unit ≡ list_at units unit → ((n : ℕ) → n ≢ unit → list_at units' n ≡ list_at units n) → IsIndex units' places' holders'
refused units units' places mid_places places' holders mid holders' unit c d p index is own given adds leaves here others =
    let claims : ℕ → List Claim = λ n. list_at units n in
    let more : ℕ → List Claim = λ n. list_at units' n in
    let same : (n : ℕ) → more n ≡ claims n = all_same claims more unit here others in
    let P : Place → Type 0 = λ x. (q : Place) → is_place q x ≡ false → placed mid_places q ≡ true → placed places' q ≡ true in
    let Q : Claim → Type 0 = λ x. (k : Use) → held holders' k ≡ held mid k - one_if (same_use (use_in p.unit x) k) in
    let stands : p ≡ place_of unit (length (more unit)) c = is ∙ ap (λ (l : List Claim). place_of unit (length l) c) (sym here) in
    record {
      indexed = index_less mid_places places' claims more unit c (index_same places mid_places claims claims index.indexed adds.kept (λ n. refl)) (subst P stands leaves.kept)
          (λ u at e h. ap (λ (l : List Claim). slice_get l at) (sym (same u)) ∙ h);
      counts = count_same holders mid holders' claims more (use_in p.unit c) index.counts adds.up (subst Q given leaves.down) same;
    }

-- the last claim of a unit is taken off
pub left : (units units' : List (Vec Claim)) (places places' : List (Vec Place)) (holders holders' : List (Vec Holder)) (unit : ℕ) (c : Claim) (p : Place) → IsIndex units places holders
    → p ≡ place_of unit (length (list_at units' unit)) c → p.unit ≡ unit → Leaves places places' holders holders' p (use_in p.unit c)
    → list_at units unit ≡ list_at units' unit ++ c ∷ [] → ((n : ℕ) → n ≢ unit → list_at units' n ≡ list_at units n) → IsIndex units' places' holders'
left units units' places places' holders holders' unit c p index is own leaves here others =
    let claims : ℕ → List Claim = λ n. list_at units n in
    let less : ℕ → List Claim = λ n. list_at units' n in
    let P : Place → Type 0 = λ x. (q : Place) → is_place q x ≡ false → placed places q ≡ true → placed places' q ≡ true in
    let Q : ℕ → Type 0 = λ n. (k : Use) → held holders' k ≡ held holders k - one_if (same_use (use_in n c) k) in
    record {
      indexed = index_less places places' claims less unit c index.indexed (subst P is leaves.kept) (within_popped claims less unit c here others);
      counts = count_less holders holders' claims less unit c index.counts (subst Q own leaves.down) here others;
    }

-- a list without its last item
pub without_last : (xs ys : List Claim) (c : Claim) → xs ≡ ys ++ c ∷ [] → ys ≡ take (length xs - 1) xs
without_last xs ys c is =
    let size : length (ys ++ c ∷ []) ≡ length ys + 1 = length-append ys (c ∷ []) in
    let less : length (ys ++ c ∷ []) - 1 ≡ length ys = omega (arith, size) in
    sym (ap (λ (l : List Claim). take (length l - 1) l) is ∙ ap (λ (n : ℕ). take n (ys ++ c ∷ [])) less ∙ take-append_seam ys (c ∷ []))

-- a unit without claims stays so
pub none_left : (units units' : List (Vec Claim)) (unit : ℕ) → list_at units unit ≡ list_at units' unit ++ [] → ((n : ℕ) → n ≢ unit → list_at units' n ≡ list_at units n) → (n : ℕ) → list_at units' n ≡ list_at units n
none_left units units' unit here others = all_same (λ n. list_at units n) (λ n. list_at units' n) unit (sym (here ∙ append-nil (list_at units' unit))) others

-- what is said of an option, by what is said of its cases
pub on_match : (o : Option ℕ) (A B : Type 0) (P Q : ℕ → Type 0) → (A → B) → ((x : ℕ) → P x → Q x) → MatchOption o A P → MatchOption o B Q
on_match None A B P Q none some h = none h
on_match (Some x) A B P Q none some h = some x h

pub some_key : (key : Option (List ℕ)) → IsSome key → (k : List ℕ) × (key ≡ Some k)
some_key (Some k) is = (k, refl)
some_key None is = absurd cc

pub nothing_left : (xs ys : List Claim) → xs ≡ ys ++ [] → xs ≡ [] → ys ≡ take (length xs - 1) xs
nothing_left xs ys here empty = sym (append-nil ys) ∙ sym here ∙ empty ∙ sym (ap (λ (l : List Claim). take (length l - 1) l) empty)
