-- A flush keeps what was written before.
use Rattle.std.proofs.Common.{◌∙◌, ℕ, Bool, List, [], ◌++◌, take, Option, Some, None, IfSome}
use Rattle.std.specs.Io.KnownBytes.{Appends, Keeps}
use Rattle.drda_disk.specs.Disk.{Life}
use Rattle.recovery.specs.Journaled.{OnDisk}
use Rattle.drda_node.specs.Machine.{Machine}
use Rattle.drda_node.specs.Serving.{Runs, Serves}
use Rattle.drda_node.specs.Stations.{RunsAlong, Station, first_station}
use Rattle.store_service.specs.Running.{GoesFrom}
use Rattle.drda_node.specs.declared.serving.RunEnd.{RunEnd}
use Rattle.drda_node.specs.declared.serving.RunEnd.TheVariants as ends

pub appended_kept : (before mid now : Option (List ℕ)) (written : List ℕ) → Appends before mid written → Keeps mid now → Appends before now written
appended_kept None mid now written a k = tt
appended_kept (Some xs) None now written a k = absurd a
appended_kept (Some xs) (Some ys) None written a k = absurd k
appended_kept (Some xs) (Some ys) (Some zs) written a k = k ∙ a

-- ---- of a run

serves_kept : (first last : Machine) (input rest : List ℕ) (before mid now : Option (List ℕ)) → Keeps mid now → Serves first input before rest mid last → Serves first input before rest now last
serves_kept first last input rest before mid now k s = record { written = s.written; answered = s.answered; appended = appended_kept before mid now s.written s.appended k }

runs_kept : (first last : Machine) (input : List ℕ) (before mid now : Option (List ℕ)) (end : RunEnd) → Keeps mid now → Runs first input before end mid last → Runs first input before end now last
runs_kept first last input before mid now ends.Ended k r = serves_kept first last input [] before mid now k r
runs_kept first last input before mid now ends.BadEvent k (rest, bad, s) = (rest, bad, serves_kept first last input rest before mid now k s)
runs_kept first last input before mid now ends.ReadFault k (rest, s) = (rest, serves_kept first last input rest before mid now k s)
runs_kept first last input before mid now ends.NoMemory k (rest, answered, s, leaves) = (rest, answered, serves_kept first answered input rest before mid now k s, leaves)
runs_kept first last input before mid now ends.WriteFault k (written, rest, count, answered, a, w, leaves) = (written, rest, count, answered, a, appended_kept before mid now (take count written) w k, leaves)

-- of what stood in the reader, where it tells
pub kept_run : (first last : Machine) (before mid now : Option (List ℕ)) (end : RunEnd) (o : Option (List ℕ)) → Keeps mid now
    → IfSome o (λ input. Runs first input before end mid last) → IfSome o (λ input. Runs first input before end now last)
kept_run first last before mid now end None k r = tt
kept_run first last before mid now end (Some input) k r = runs_kept first last input before mid now end k r

-- and station by station
along_kept : {D : Type 0} (modelled : Bool) (life : D → Life) (first : Station D) (left : OnDisk D) (before mid now : Option (List ℕ)) (o : Option (List ℕ)) → Keeps mid now
    → IfSome o (λ input. RunsAlong modelled life first input before mid left) → IfSome o (λ input. RunsAlong modelled life first input before now left)
along_kept modelled life first left before mid now None k r = tt
along_kept modelled life first left before mid now (Some input) k r = record {
  events = r.events;
  rest = r.rest;
  allowed = r.allowed;
  input_is = r.input_is;
  at = r.at;
  stations = r.stations;
  behind = r.behind;
  more = r.more;
  written = appended_kept before mid now (r.at.sent ++ r.more) r.written k;
}

-- a run that went on from a core
pub goes_kept : {D : Type 0} (modelled : Bool) (life : D → Life) (core : OnDisk D) (first : Machine) (input before mid now : Option (List ℕ)) (left : D) (end : RunEnd) → Keeps mid now
    → GoesFrom modelled life core first input before left end mid → GoesFrom modelled life core first input before left end now
goes_kept modelled life core first input before mid now left end k goes = record {
  new = goes.new;
  disk_is = goes.disk_is;
  journaled = goes.journaled;
  last = goes.last;
  core_is = goes.core_is;
  history = goes.history;
  runs = kept_run first goes.last before mid now end input k goes.runs;
  stations = along_kept modelled life (first_station first core) goes.new before mid now input k goes.stations;
}
