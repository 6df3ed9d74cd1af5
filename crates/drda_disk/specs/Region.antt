use Rattle.std.specs.Prelude.{ℕ, ◌+◌, List}
use Rattle.drda_disk.specs.Disk.{Torn}
use Rattle.drda_disk.specs.declared.region.Region.{Region}

-- the offset behind a region
abbrev pub end_of : Region → ℕ
end_of region = region.at + region.length

-- nothing outside a region changes
abbrev pub SameOutside : Region → List ℕ → List ℕ → Type 0
SameOutside region old new = Torn region.at region.length old new
