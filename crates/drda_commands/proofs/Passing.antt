-- One pass over the items of a command.
use Rattle.std.proofs.Common.{ℕ, Option, Some, None, Result, Err}
use Rattle.drda_commands.specs.declared.refusal.Refusal.{Refusal}
use Rattle.drda_commands.specs.declared.refusal.Refusal.TheVariants.{ValueNotSupported}

-- the first item with a bad value names the refusal, and later ones count only where none stood before
abbrev pub or_later : Option ℕ → Result (Unit {0}) Refusal → Result (Unit {0}) Refusal
or_later None later = later
or_later (Some code) later = Err (ValueNotSupported code)
