-- A conversation whose framing is at fault is closed.
use Rattle.std.specs.Prelude.{◌≡◌, Bool, false}

abbrev pub IsOpenAtFault : Bool → Bool → Type 0
IsOpenAtFault at_fault is_closed = is_closed ≡ false → at_fault ≡ false
