-- What a read makes of who reads.
use Rattle.std.specs.Prelude.{◌≡◌, ◌⊎◌, Result, Ok, Err}
use Rattle.ahead_view.specs.declared.reading.ReadAhead.{ReadAhead}
use Rattle.ahead_view.specs.declared.reading.ReadAhead.TheVariants.{Nothing, Row, Rows}
use Rattle.ahead_view.specs.declared.source.ReadError.{ReadError}
use Rattle.ahead_view.specs.declared.source.ReadError.TheVariants as error

-- by how it comes out: memory may be refused in a read that is made
abbrev pub LeavesReader : {S A : Type 0} → (S → S → Type 0) → (S → S → Type 0) → S → Result A ReadError → S → Type 0
LeavesReader reads fails old (Ok x) new = reads old new
LeavesReader reads fails old (Err error.NoMemory) new = reads old new
LeavesReader reads fails old (Err error.DeviceFailed) new = fails old new

-- nothing was read, or something was
abbrev pub MayRead : {S : Type 0} → (S → S → Type 0) → S → S → Type 0
MayRead reads old new = (new ≡ old) ⊎ reads old new

-- where something was read, there was a read of it
abbrev pub IsReadBy : {S : Type 0} → (S → S → Type 0) → ReadAhead → S → S → Type 0
IsReadBy reads Nothing old new = new ≡ old
IsReadBy reads (Row table key row) old new = reads old new
IsReadBy reads (Rows table rows) old new = reads old new
