-- What is reported of words, and of a run over a core.
use Rattle.std.specs.Prelude.{◌≡◌, ◌+◌, Bool, true, false, List, ℕ, Option, Result, Ok, Err}
use Rattle.std.specs.Io.KnownBytes.{Keeps}
use Rattle.durable_core.specs.declared.errors.OpenError.{OpenError}
use Rattle.drda_node.specs.declared.serving.RunEnd.{RunEnd}
use Rattle.drda_node.specs.declared.serving.RunEnd.TheVariants as ends
use Rattle.command_line.specs.declared.words.BadWords.{BadWords}
use Rattle.command_line.specs.declared.words.BadWords.TheVariants as words
use Rattle.store_files.specs.Endings.{fault_for}
use Rattle.store_files.specs.declared.fault.Fault.{Fault}
use Rattle.store_files.specs.declared.fault.Fault.TheVariants.{BadArguments, BadEvent, Device, NoMemory}

-- words that ask for nothing are a mistake
abbrev pub fault_of_words : BadWords → Fault
fault_of_words words.NoJob = BadArguments
fault_of_words words.NoMemory = NoMemory

-- what is reported of a run by its end, and by whether the last flush succeeded: a flush that fails is
-- reported however the run had ended
abbrev pub result_for : RunEnd → Bool → Result (Unit {0}) Fault
result_for end false = Err Device
result_for ends.Ended true = Ok tt
result_for ends.BadEvent true = Err BadEvent
result_for ends.ReadFault true = Err Device
result_for ends.WriteFault true = Err Device
result_for ends.NoMemory true = Err NoMemory

-- a flush that fails is one failed write more
abbrev pub CountsFlush : Bool → ℕ → ℕ → Type 0
CountsFlush true old new = new ≡ old
CountsFlush false old new = new ≡ old + 1

-- how it ended, behind a last flush; or why it was refused. `faults` is how many writes had failed
abbrev pub Reports : Result RunEnd OpenError → Option (List ℕ) → ℕ → Result (Unit {0}) Fault → Option (List ℕ) → ℕ → Type 0
Reports (Ok end) before faults outcome now faults' = Keeps before now × ((is_flushed : Bool) × (outcome ≡ result_for end is_flushed) × CountsFlush is_flushed faults faults')
Reports (Err error) before faults outcome now faults' = (now ≡ before) × (outcome ≡ Err (fault_for error)) × (faults' ≡ faults)
