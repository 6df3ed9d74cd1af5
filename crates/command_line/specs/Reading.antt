-- What reading the words answers.
use Rattle.std.specs.Prelude.{◌≡◌, ◌≢◌, ℕ, List, [], Option, Some, None, Result, Ok, Err}
use Rattle.clap.specs.Words.{Row, Text}
use Rattle.command_line.specs.Grammar.{faults, given}
use Rattle.command_line.specs.Job.{Job, plain_job}
use Rattle.command_line.specs.declared.job.Job.{Job as CodeJob}
use Rattle.command_line.specs.declared.words.BadWords.{BadWords}
use Rattle.command_line.specs.declared.words.BadWords.TheVariants.{NoJob, NoMemory}

-- of words that have no faults, the subcommand that they name, with what they give it; memory may be refused
abbrev pub Parses : {M : Type 0} → (M → Option (Text × List Row)) → List Text → Result M BadWords → Type 0
Parses rows words (Ok m) = (faults words ≡ []) × (rows m ≡ given words)
Parses rows words (Err NoJob) = faults words ≢ []
Parses rows words (Err NoMemory) = Unit {0}

-- what is answered for words that say this, or nothing; memory may be refused
abbrev pub Says : Option Job → Result CodeJob BadWords → Type 0
Says said (Ok job) = said ≡ Some (plain_job job)
Says said (Err NoJob) = said ≡ None
Says said (Err NoMemory) = Unit {0}

-- what the parser has said of that: nothing, unless the words say nothing
abbrev pub Tells : {M : Type 0} → Result M BadWords → List ℕ → List ℕ → Type 0
Tells (Ok m) before now = now ≡ before
Tells (Err NoJob) before now = Unit {0}
Tells (Err NoMemory) before now = now ≡ before
