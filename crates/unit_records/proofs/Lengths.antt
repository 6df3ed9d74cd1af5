-- How many items and bytes there are.
use Rattle.std.proofs.Common.{◌≡◌, ℕ, ◌+◌, ◌-◌, ◌^◌, ◌<◌, ◌≤◌, List, [], ◌∷◌, ◌++◌, length, get_or, take, drop, map, refl, sym, ap, subst, ◌∙◌, arith, length-append}
use Rattle.std.proofs.lemmas.List.{length-map, take_all}
use Rattle.std.specs.List.{AllByRecursion, flat_map}
use Rattle.std.specs.Int.{w32, to_be_bytes}
use Rattle.row_values.specs.Bytes.{Keeps}
use Rattle.row_values.proofs.Kept.{kept_more, kept_then}
use Rattle.tables.specs.Change.{Change, change_bytes, create, put, remove}
use Rattle.tables.specs.ChangeView.{change_of}
use Rattle.tables.specs.declared.change.Change.{Change as CodeChange}
use Rattle.unit_locks.specs.Claim.{Claim, IsClaim, claim_bytes}
use Rattle.xa_calls.specs.Xid.{IsXid}
use Rattle.unit_records.specs.Fronts.{AreListed, listed}
use Rattle.unit_records.specs.Records.{IsChange}

-- ---- no more items than bytes

module _ {A : Type 0} (bytes_of : A → List ℕ) (some : (a : A) → 0 < length (bytes_of a)) where
  no_more : (items : List A) → length items ≤ length (flat_map bytes_of items)
  no_more [] = omega arith
  no_more (a ∷ items) = omega (arith, some a, no_more items, length-append (bytes_of a) (flat_map bytes_of items))

  pub length-listed : (items : List A) → length (listed bytes_of items) ≡ 4 + length (flat_map bytes_of items)
  length-listed items = length-append (to_be_bytes w32 (length items)) (flat_map bytes_of items)

  pub few : (items : List A) → length (listed bytes_of items) < 2 ^ 32 → length items < 2 ^ 32
  few items short = omega (arith, length-listed items, no_more items)

change_long : (change : Change) → 0 < length (change_bytes change)
change_long (create name schema) = omega arith
change_long (put name row) = omega arith
change_long (remove name key) = omega arith

claim_long : (claim : Claim) → 0 < length (claim_bytes claim)
claim_long claim = omega arith

pub few_changes : (changes : List Change) → length (listed change_bytes changes) < 2 ^ 32 → length changes < 2 ^ 32
few_changes = few change_bytes change_long

pub few_claims : (claims : List Claim) → length (listed claim_bytes claims) < 2 ^ 32 → length claims < 2 ^ 32
few_claims = few claim_bytes claim_long

-- of the parts of a prepare
pub few_in_prepare : (xid : List ℕ) (changes : List Change) (claims : List Claim) → length (xid ++ (listed claim_bytes claims ++ listed change_bytes changes)) < 2 ^ 32
    → (length claims < 2 ^ 32) × (length changes < 2 ^ 32)
few_in_prepare xid changes claims short =
    let one = length-append xid (listed claim_bytes claims ++ listed change_bytes changes) in
    let two = length-append (listed claim_bytes claims) (listed change_bytes changes) in
    (few_claims claims (omega arith), few_changes changes (omega arith))

-- ---- what holds of the code's changes

pub all_changes : (changes : List CodeChange) → AllByRecursion IsChange (map change_of changes)
all_changes [] = tt
all_changes (change ∷ changes) = (change.good, all_changes changes)

-- ---- loops over what is left

-- the first of those that are left, and the others
pub first_left : {A : Type 0} (left : List A) (x : A) → 1 ≤ length left → x ≡ get_or left 0 x → left ≡ x ∷ take (length left - 1) (drop 1 left)
first_left [] x some is = absurd (omega arith)
first_left (y ∷ left) x some is =
    let count : length (y ∷ left) - 1 ≡ length left = omega arith in
    ap (λ z. z ∷ left) (sym is) ∙ ap (λ l. x ∷ l) (sym (ap (λ n. take n left) count ∙ take_all (length left) left (omega arith)))

pub none_left : {A B : Type 0} (f : A → List B) (left : List A) → length left < 1 → length (flat_map f left) ≡ 0
none_left f [] few = refl
none_left f (x ∷ left) few = absurd (omega arith)

pub all_of_none : {A : Type 0} (P : A → Type 0) (left : List A) → length left < 1 → AllByRecursion P left
all_of_none P [] few = tt
all_of_none P (x ∷ left) few = absurd (omega arith)

-- ---- what can be written

pub good_changes : (changes : List CodeChange) → length (listed change_bytes (map change_of changes)) < 2 ^ 32 → AreListed IsChange (map change_of changes)
good_changes changes short = (few_changes (map change_of changes) short, all_changes changes)

pub few_code_changes : (changes : List CodeChange) → length (map change_of changes) < 2 ^ 32 → length changes < 2 ^ 32
few_code_changes changes few = omega (arith, length-map changes change_of)

pub good_prepare : (xid : List ℕ) (changes : List CodeChange) (claims : List Claim) → IsXid xid → AllByRecursion IsClaim claims
    → length (xid ++ (listed claim_bytes claims ++ listed change_bytes (map change_of changes))) < 2 ^ 32 → IsXid xid × AreListed IsClaim claims × AreListed IsChange (map change_of changes)
good_prepare xid changes claims named good short =
    let few = few_in_prepare xid (map change_of changes) claims short in
    (named, (few.0, good), (few.1, all_changes changes))

-- ---- appending further

pub kept_behind : (a b c d : List ℕ) → b ≡ a ++ d → Keeps b c → Keeps a c
kept_behind a b c d more kept = kept_then a b c (subst (λ (l : List ℕ). Keeps a l) (sym more) (kept_more a d)) kept
