-- Pages that stand in an image stand in one that was written elsewhere.
use Rattle.std.proofs.Common.{◌≡◌, inl, inr, ⊎_elim, ℕ, ◌+◌, ◌-◌, ◌≤◌, List, [], ◌∷◌, length, ap, ◌∙◌, arith}
use Rattle.drda_disk.specs.Disk.{Torn}
use Rattle.half_store.specs.Layout.{offset_of, other_than}
use Rattle.half_store.specs.declared.layout.Half.{Half}
use Rattle.half_store.specs.declared.layout.Half.TheVariants.{First, Second}
use Rattle.checkpoint_writer.proofs.MergedRows.{at_moves, many_keys}
use Rattle.paged_tables.specs.Stored.{IsOnPages, LiesInside, LiesOutside, Stored}
use Rattle.paged_tables.specs.TablesByName.{AreOnPages, LieInside, LieOutside, Tables}

one_moves : (old new : List ℕ) (from n : ℕ) (t : Stored) → Torn from n old new → LiesOutside from (from + n) t → IsOnPages old t → IsOnPages new t
one_moves old new from n t torn away is =
    let many : length t.places.keys ≡ length is.pages = ap length is.stand.first ∙ many_keys _ is.pages in
    record {
      pages = is.pages;
      stand = record {
        stand = at_moves old new from n t.places.at is.pages torn (⊎_elim (λ before. inl (omega (arith, before, many))) (λ behind. inr behind) away) is.stand.stand;
        some = is.stand.some;
        first = is.stand.first;
        order = is.stand.order;
      };
      rows = is.rows;
    }

pub all_move : (old new : List ℕ) (from n : ℕ) (tables : Tables) → Torn from n old new → LieOutside from (from + n) tables → AreOnPages old tables → AreOnPages new tables
all_move old new from n [] torn away all = tt
all_move old new from n (e ∷ es) torn away all = (one_moves old new from n e.1 torn away.0 all.0, all_move old new from n es torn away.1 all.1)

-- pages in front of an offset lie outside of what begins there
pub in_front : (at end : ℕ) (tables : Tables) → LieInside at tables → LieOutside at end tables
in_front at end [] all = tt
in_front at end (e ∷ es) all = (inl all.0, in_front at end es all.1)

pub lie_wider : (small large : ℕ) (tables : Tables) → small ≤ large → LieInside small tables → LieInside large tables
lie_wider small large [] le all = tt
lie_wider small large (e ∷ es) le all = (omega (arith, le, all.0), lie_wider small large es le all.1)

-- ---- the other half

one_away : (half : Half) (h front end : ℕ) (t : Stored) → front ≤ end → end ≡ offset_of h half + h → LiesInside front t → LiesOutside 0 (end - h) t → LiesOutside (offset_of h (other_than half)) (offset_of h (other_than half) + h) t
one_away First h front end t le is inside behind = inl (omega (arith, le, is, inside))
one_away Second h front end t le is inside behind = ⊎_elim (λ (none : _). inl (omega (arith, none))) (λ (there : _). inr (omega (arith, there, is))) behind

-- Pages of a half, in front of its journal, lie outside of the other half.
pub away_from_other : (half : Half) (h front end : ℕ) (tables : Tables) → front ≤ end → end ≡ offset_of h half + h → LieInside front tables → LieOutside 0 (end - h) tables → LieOutside (offset_of h (other_than half)) (offset_of h (other_than half) + h) tables
away_from_other half h front end [] le is inside behind = tt
away_from_other half h front end (e ∷ es) le is inside behind = (one_away half h front end e.1 le is inside.0 behind.0, away_from_other half h front end es le is inside.1 behind.1)
