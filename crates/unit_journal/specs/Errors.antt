-- What refusals say.
use Rattle.std.specs.Prelude.{◌≡◌, ℕ, ◌+◌, ◌-◌, ◌^◌, ◌<◌, ◌≤◌, min, Option, Some, None, Result, Ok, Err}
use Rattle.drda_disk.specs.declared.errors.Full.{Full}
use Rattle.drda_disk.specs.declared.errors.WriteError.{WriteError}
use Rattle.drda_disk.specs.declared.errors.WriteError.TheVariants as write
use Rattle.unit_journal.specs.declared.errors.LayError.{LayError}
use Rattle.unit_journal.specs.declared.errors.LayError.TheVariants as lay

-- `Full` is told exactly where what is asked for is more than the room and what is released, with the difference and the room
abbrev pub SaysFull : {T : Type 0} → Result T WriteError → ℕ → ℕ → ℕ → Type 0
SaysFull (Ok x) asked release room = asked ≤ room + release
SaysFull (Err write.DeviceFailed) asked release room = asked ≤ room + release
SaysFull (Err (write.Full full)) asked release room = (full.need ≡ asked - release) × (full.room ≡ room) × (room + release < asked)

-- what is lacking, where anything is: the difference, and the room that there is
abbrev pub Lacks : Option Full → ℕ → ℕ → ℕ → Type 0
Lacks None asked release room = asked ≤ room + release
Lacks (Some full) asked release room = (full.need ≡ asked - release) × (full.room ≡ room) × (room + release < asked)

abbrev pub SaysFullToLay : {T : Type 0} → Result T LayError → ℕ → ℕ → Type 0
SaysFullToLay (Ok x) asked room = asked ≤ room
SaysFullToLay (Err lay.NoMemory) asked room = asked ≤ room
SaysFullToLay (Err lay.DeviceFailed) asked room = asked ≤ room
SaysFullToLay (Err (lay.Full full)) asked room = (full.need ≡ min asked (2 ^ 64 - 1)) × (full.room ≡ room) × (room < asked)

-- what holds where no record is laid, for want of memory or room
abbrev pub OnRefusedToLay : {T : Type 0} → Result T LayError → Type 0 → Type 0
OnRefusedToLay (Ok x) P = Unit {0}
OnRefusedToLay (Err lay.NoMemory) P = P
OnRefusedToLay (Err (lay.Full full)) P = P
OnRefusedToLay (Err lay.DeviceFailed) P = Unit {0}

abbrev pub CountsLay : {T : Type 0} → Result T LayError → ℕ → ℕ → Type 0
CountsLay (Ok x) old new = new ≡ old
CountsLay (Err lay.NoMemory) old new = new ≡ old
CountsLay (Err (lay.Full full)) old new = new ≡ old
CountsLay (Err lay.DeviceFailed) old new = new ≡ old + 1
