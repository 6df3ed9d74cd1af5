-- What all that lies on a disk has in common.
use Rattle.std.specs.Prelude.{ℕ}

-- the bytes of a page
abbrev pub page_bytes : ℕ
page_bytes = 8192

-- the byte that opens a gate
abbrev pub open_gate : ℕ
open_gate = 165
