-- Records that stay where nothing of their region changes.
use Rattle.std.proofs.Common.{◌⊎◌, inl, inr, ℕ, ◌+◌, ◌≤◌, List, length, ◌∙◌, arith}
use Rattle.drda_disk.specs.Disk.{Torn}
use Rattle.drda_disk.specs.Region.{end_of}
use Rattle.drda_disk.specs.declared.region.Region.{Region}
use Rattle.drda_disk.proofs.Parts.{part_outside}
use Rattle.unit_journal.specs.Record.{Entry, laid}
use Rattle.unit_journal.specs.Stands.{Stands}

-- a write outside of the region
pub Stands-outside : (at n : ℕ) (region : Region) (es : List Entry) (old new : List ℕ) → Torn at n old new → (end_of region ≤ at) ⊎ (at + n ≤ region.at) → Stands region es old → Stands region es new
Stands-outside at n region es old new torn away s = record {
  gate = s.gate;
  shut = s.shut;
  spelled = part_outside at n region.at (length (laid es) + 1) old new torn (near away) ∙ s.spelled;
  within = s.within;
  inside = omega (arith, s.inside, torn.size);
  short = s.short;
}
  where
    near : (end_of region ≤ at) ⊎ (at + n ≤ region.at) → (region.at + (length (laid es) + 1) ≤ at) ⊎ (at + n ≤ region.at)
    near (inl low) = inl (omega (arith, low, s.within))
    near (inr high) = inr high
