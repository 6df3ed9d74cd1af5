-- The state whose parts these are.
use Rattle.std.specs.Prelude.{List}
use Rattle.tables.specs.Tables.{Store}
use Rattle.core_model.specs.Units.{Held}
use Rattle.core_model.specs.Step.{CoreState}
use Rattle.xa_manager.specs.declared.branch.Branch.{Branch}

abbrev pub state_in : Store → List Held → List Branch → CoreState
state_in store units branches = record { base = record { store = store; units = units }; branches = branches }
