-- Records laid one behind another.
use Rattle.std.proofs.Common.{◌≡◌, ℕ, zero, suc, ◌+◌, ◌-◌, ◌^◌, ◌<◌, ◌≤◌, min, List, [], ◌∷◌, ◌++◌, length, get_or, take, sym, ◌∙◌, ap, subst, arith, length-append}
use Rattle.std.proofs.lemmas.List.{map_push, take_more}
use Rattle.drda_words.specs.Place.{part}
use Rattle.drda_disk.specs.Disk.{overlaid, Torn}
use Rattle.drda_disk.specs.Images.{Torn-overlaid}
use Rattle.drda_disk.specs.Region.{end_of}
use Rattle.drda_disk.specs.declared.region.Region.{Region}
use Rattle.drda_disk.proofs.Parts.{part-overlaid}
use Rattle.unit_journal.specs.Record.{Entry, behind, laid, AreShort, entry_of, entries_of}
use Rattle.unit_journal.specs.Stands.{Stands}
use Rattle.unit_journal.specs.declared.record.Record.{Record}
use Rattle.unit_journal.proofs.Spelling.{laid-push, length-laid-push, length-laid-cons}

module _ (rs : List Record) (i : ℕ) (r : Record) (low : i < length rs) (is : r ≡ get_or rs i r) where
  entries_next : entries_of (take (i + 1) rs) ≡ entries_of (take i rs) ++ entry_of r ∷ []
  entries_next = ap entries_of (take_more rs i r low ∙ ap (λ (x : Record). take i rs ++ x ∷ []) (sym is)) ∙ map_push entry_of (take i rs) r

  pub laid_next : laid (entries_of (take (i + 1) rs)) ≡ laid (entries_of (take i rs)) ++ 165 ∷ behind (entry_of r)
  laid_next = ap (λ (l : List Entry). laid l) entries_next ∙ laid-push (entries_of (take i rs)) (entry_of r)

  pub length_next : length (laid (entries_of (take (i + 1) rs))) ≡ length (laid (entries_of (take i rs))) + (6 + length r.body.items)
  length_next = ap (λ (l : List Entry). length (laid l)) entries_next ∙ length-laid-push (entries_of (take i rs)) (entry_of r)

-- the records before a place are no longer than all
pub length-laid-take : (rs : List Record) (i : ℕ) → length (laid (entries_of (take i rs))) ≤ length (laid (entries_of rs))
length-laid-take [] zero = omega arith
length-laid-take [] (suc i) = omega arith
length-laid-take (r ∷ rs) zero = omega arith
length-laid-take (r ∷ rs) (suc i) = omega (arith, length-laid-cons (entry_of r) (entries_of (take i rs)), length-laid-cons (entry_of r) (entries_of rs), length-laid-take rs i)

-- the next record lies before the end of all
pub fits_next : (rs : List Record) (i : ℕ) (r : Record) → i < length rs → r ≡ get_or rs i r → (start at : ℕ) → at ≡ start + length (laid (entries_of (take i rs))) → at + (6 + length r.body.items) ≤ start + length (laid (entries_of rs))
fits_next rs i r low is start at place = omega (arith, place, length_next rs i r low is, length-laid-take rs (i + 1))

-- from the two sums that stop at the greatest value
pub total_fits : (total held sum need room : ℕ) → room < 2 ^ 64 - 1 → sum ≡ min total (2 ^ 64 - 1) → need ≡ min (sum + held) (2 ^ 64 - 1) → need ≤ room → total + held ≤ room
total_fits total held sum need room small is and_held le = omega (arith, small, is, and_held, le)

-- bodies that lie in a short region are short
pub short_all : (es : List Entry) → length (laid es) < 2 ^ 32 → AreShort es
short_all [] low = tt
short_all (e ∷ es) low = (omega (arith, low, length-laid-cons e es), short_all es (omega (arith, low, length-laid-cons e es)))

-- a region whose records were laid by one write
module _ (region : Region) (es : List Entry) (file new bytes : List ℕ) (is : bytes ≡ laid es ++ 0 ∷ []) (fits : region.at + length (laid es) < end_of region) where
  pub length-laid : length bytes ≡ length (laid es) + 1
  length-laid = omega (arith, ap length is, length-append (laid es) (0 ∷ []))

  pub laid_stands : end_of region ≤ length file → AreShort es → new ≡ overlaid file region.at bytes → Stands region es new
  laid_stands inside short written =
      let low : region.at + length bytes ≤ length file = omega (arith, length-laid, fits, inside) in
      let torn : Torn region.at (length bytes) file new = subst (λ (l : List ℕ). Torn region.at (length bytes) file l) (sym written) (Torn-overlaid file region.at bytes low) in
      record {
        gate = 0;
        shut = λ no. cc;
        spelled = ap (λ n. part new region.at n) (sym length-laid) ∙ ap (λ (l : List ℕ). part l region.at (length bytes)) written ∙ part-overlaid file region.at bytes low ∙ is;
        within = fits;
        inside = omega (arith, inside, torn.size);
        short = short;
      }
