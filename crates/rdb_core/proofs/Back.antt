-- A unit that is taken back.
use Rattle.std.proofs.Common.{◌≡◌, ⊎_elim, true, false, List, [], ◌∷◌, refl, sym, ◌∙◌, subst}
use Rattle.std.specs.Prelude.{◌||◌}
use Rattle.tables.specs.Change.{Change}
use Rattle.unit_locks.specs.Claim.{Claim}
use Rattle.core_model.specs.Units.{Held, Owner, Work, has_any, has_work, idle, same_owner, set_unit, unit_of, without}
use Rattle.core_model.specs.Laws.{AreListed}
use Rattle.core_model.proofs.Listing.{listed_set, listed_without, one_listing}
use Rattle.core_model.proofs.Owners.{both, owners_same, unit_of_gone, unit_of_other, unit_of_without, which}

no_work : (xs : List Change) (cs : List Claim) → (has_any xs || has_any cs) ≡ false → record { changes = xs; claims = cs } ≡ idle
no_work [] [] h = refl
no_work [] (c ∷ cs) h = both true refl h
no_work (x ∷ xs) cs h = both true refl h

-- where an owner had no work, all units are as before
pub taken_back : (o : Owner) (u : Work) (hs : List Held) → AreListed hs → has_work (unit_of o hs) ≡ false → without o (set_unit o u hs) ≡ hs
taken_back o u hs listed none =
    one_listing (without o (set_unit o u hs)) hs (listed_without o (set_unit o u hs) (listed_set o u hs listed)) listed
    (λ p. ⊎_elim
    (λ so.
    let P : Owner → Type 0 = λ q. unit_of q (without o (set_unit o u hs)) ≡ unit_of q hs in
    subst P (sym (owners_same p o so)) (unit_of_gone o (set_unit o u hs) ∙ sym (no_work (unit_of o hs).changes (unit_of o hs).claims none)))
    (λ ne. unit_of_without p o (set_unit o u hs) ne ∙ unit_of_other p o u hs ne)
    (which (same_owner p o)))
