-- Switching to the half that was written.
use Rattle.std.specs.Prelude.{◌≡◌, ◌⊎◌, ℕ, ◌+◌, List}
use Rattle.drda_disk.specs.Disk.{Torn, overlaid}
use Rattle.drda_disk.specs.Layout.{page_bytes}
use Rattle.half_store.specs.Active.{Store}
use Rattle.half_store.specs.Writing.{IsKept, half_of, generation_of, pages_of}
use Rattle.half_store.specs.declared.header.Header.{Header}
use Rattle.half_store.specs.declared.header.Layout.TheVariants.{Two}
use Rattle.half_store.specs.declared.image.ImageWriter.{ImageWriter}

-- the header of the image that is written, whose catalogue has so many pages from the first one on; its layout is 2
abbrev pub header_of : ImageWriter → ℕ → ℕ → Header
header_of w first catalogue = record { generation = generation_of w; pages = pages_of w; first_catalogue = first; catalogue_pages = catalogue; layout = Two }

-- the store once that image is its active half
abbrev pub switched : Store → ImageWriter → ℕ → ℕ → Store
switched store w first catalogue = record { name = store.name; half = half_of w; header = header_of w first catalogue }

-- An image has the old active half, and outside of the other one, of h bytes from an offset on, it is the base; or it
-- has the new one, and outside of that half's header page it is the file that was read before the switch.
abbrev pub IsOldOrNew : List ℕ → List ℕ → Store → Store → ℕ → ℕ → List ℕ → Type 0
IsOldOrNew base file old new at h image = IsKept base old at h image ⊎ IsKept file new at page_bytes image

-- Behind a gate there are any bytes, in a base; or there are those that were written, and the gate is any byte.
abbrev pub IsBehindGate : ℕ → ℕ → List ℕ → List ℕ → List ℕ → List ℕ → Type 0
IsBehindGate at n base file bytes image = Torn (at + 1) n base image ⊎ Torn at 1 (overlaid file (at + 1) bytes) image
