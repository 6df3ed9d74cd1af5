-- What calls make of the book that they find under the lock.
use Rattle.std.proofs.Common.{◌≡◌, Bool, true, false, ap, Option, Some, None, IfSome, IsTrue}
use Rattle.drda_disk.specs.Disk.{Life}
use Rattle.recovery.specs.Journaled.{Journaled, OnDisk, shown_on}
use Rattle.core_history.specs.declared.pass.Pass.{Pass}
use Rattle.core_history.specs.Books.{IsKept, Told}
use Rattle.core_history.specs.Passes.{Admits, HasNoLeave}
use Rattle.turns.specs.declared.turn.Turn.{Turn}
use Rattle.shared_node.specs.Locked.{Considers, GivesLeave, GivesNone, LaysAhead, Retires, UnderLock}
use Rattle.shared_node.proofs.Remaining.{retires}

module _ {D : Type 0} (modelled : Bool) (life : D → Life) (origin : OnDisk D → Type 0) (found left : Told D) (of : origin found.opening) (was : IsKept modelled life found) (now : IsKept modelled life left)
    (journaled : Journaled modelled (shown_on life found.core) (shown_on life left.core)) where
  under : (Makes : Told D → Told D → Type 0) → left.opening ≡ found.opening → Makes found left → UnderLock modelled life origin Makes
  under Makes opening makes = record { found = found; left = left; is_of = of; opening = opening; was_kept = was; is_kept = now; journaled = journaled; makes = makes }

  pub gives : (r : Option Pass) → IfSome r (λ pass. Admits found pass left) → IfSome r (λ pass. UnderLock modelled life origin (GivesLeave pass))
  gives (Some pass) admits = under (GivesLeave pass) (ap (λ (t : Told D). t.opening) admits.book) (record { admits = admits })
  gives None admits = tt

  pub gives_none : (left ≡ found) × HasNoLeave found → UnderLock modelled life origin GivesNone
  gives_none none = let (same, full) = none in under GivesNone (ap (λ (t : Told D). t.opening) same) (record { full = full; same = same })

  pub takes_back : (pass : Pass) (is_taken : Bool) → Retires pass is_taken found left → UnderLock modelled life origin (Retires pass is_taken)
  takes_back pass is_taken r = under (Retires pass is_taken) ((retires pass is_taken found left r).opening) r

  pub considers : (turn : Turn) → Considers turn found left → UnderLock modelled life origin (Considers turn)
  considers turn c = under (Considers turn) (ap (λ (t : Told D). t.opening) c.rest) c

  pub lays_ahead : LaysAhead found left → UnderLock modelled life origin LaysAhead
  lays_ahead l = under LaysAhead (ap (λ (t : Told D). t.opening) l.rest) l
