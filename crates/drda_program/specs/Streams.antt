-- What event records come in on and go out on.
use Rattle.std.specs.Prelude.{ℕ, Bool, List, Option}
use Rattle.counted_streams.specs.Faults.{Counts}
use Rattle.drda_node.specs.Serving.{TellsFaults}
use Rattle.drda_node.specs.declared.serving.RunEnd.{RunEnd}
use Rattle.drda_program.specs.Reporting.{CountsFlush}

-- what was written, and what of both streams is counted
pub record Streams : Type 0 where
  pub written : Option (List ℕ)
  pub counted : Counts

abbrev pub streams : Option (List ℕ) → Counts → Streams
streams written counted = record { written = written; counted = counted }

-- how a run ended has a cause in what has failed of both streams until its last flush; and so has what became of the flush
pub record RunTellsFaults (end : RunEnd) (is_flushed : Bool) (old new : Counts) : Type 0 where
  pub faults : ℕ
  pub cause : TellsFaults end old (record { reads = new.reads; read_faults = new.read_faults; write_faults = faults })
  pub flush : CountsFlush is_flushed faults new.write_faults
