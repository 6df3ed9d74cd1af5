-- Claims that are added one after the other to those of one unit.
use Rattle.std.proofs.Common.{◌≡◌, ◌≢◌, ℕ, Bool, true, false, List, [], ◌∷◌, ◌++◌, length, take, refl, sym, ◌∙◌, ap, append_assoc}
use Rattle.std.specs.Prelude.{if◌then◌else◌}
use Rattle.unit_locks.specs.Claim.{Claim}
use Rattle.unit_locks.specs.Claims.{ClaimsOf, added, all_added, has}

-- ---- what is added stands behind

append_none : (cs : List Claim) → cs ++ [] ≡ cs
append_none [] = refl
append_none (c ∷ cs) = ap (λ (l : List Claim). c ∷ l) (append_none cs)

pub record Behind (old new : List Claim) : Type 0 where
  pub more : List Claim
  pub is : new ≡ old ++ more

added_behind : (b : Bool) (cs : List Claim) (c : Claim) → Behind cs (if b then cs else cs ++ c ∷ [])
added_behind true cs c = record { more = []; is = sym (append_none cs) }
added_behind false cs c = record { more = c ∷ []; is = refl }

behind_through : (a b c : List Claim) → Behind a b → Behind b c → Behind a c
behind_through a b c h k = record { more = h.more ++ k.more; is = k.is ∙ ap (λ (l : List Claim). l ++ k.more) h.is ∙ append_assoc a h.more k.more }

pub all_behind : (cs ds : List Claim) → Behind cs (all_added cs ds)
all_behind cs [] = record { more = []; is = sym (append_none cs) }
all_behind cs (d ∷ ds) = behind_through cs (added cs d) (all_added (added cs d) ds) (added_behind (has cs d) cs d) (all_behind (added cs d) ds)

take_front : (cs ds : List Claim) → take (length cs) (cs ++ ds) ≡ cs
take_front [] ds = refl
take_front (c ∷ cs) ds = ap (λ (l : List Claim). c ∷ l) (take_front cs ds)

-- the first of them are those that were there
pub front_stays : (cs ds new : List Claim) → new ≡ all_added cs ds → take (length cs) new ≡ cs
front_stays cs ds new is =
    let h = all_behind cs ds in
    ap (λ (l : List Claim). take (length cs) l) (is ∙ h.is) ∙ take_front cs h.more

-- ---- one after the other

all_then : (cs ds : List Claim) (d : Claim) → all_added cs (ds ++ d ∷ []) ≡ added (all_added cs ds) d
all_then cs [] d = refl
all_then cs (x ∷ ds) d = all_then (added cs x) ds d

pub record IsAdding (unit : ℕ) (old now : ClaimsOf) (done : List Claim) : Type 0 where
  pub added : now unit ≡ all_added (old unit) done
  pub others : (other : ℕ) → other ≢ unit → now other ≡ old other

pub none_added : (unit : ℕ) (old : ClaimsOf) → IsAdding unit old old []
none_added unit old = record { added = refl; others = λ other ne. refl }

pub one_added : (unit : ℕ) (old now last : ClaimsOf) (done : List Claim) (d : Claim) → IsAdding unit old now done → last unit ≡ added (now unit) d
    → ((other : ℕ) → other ≢ unit → last other ≡ now other) → IsAdding unit old last (done ++ d ∷ [])
one_added unit old now last done d is more others = record {
  added = more ∙ ap (λ (l : List Claim). added l d) is.added ∙ sym (all_then (old unit) done d);
  others = λ other ne. others other ne ∙ is.others other ne;
}
