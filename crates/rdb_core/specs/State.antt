-- The state of a core, as its step has it.
use Rattle.std.specs.Prelude.{[]}
use Rattle.core_model.specs.Step.{CoreState}
use Rattle.paged_tables.specs.TablesByName.{Tables}
use Rattle.unit_statements.specs.Base.{base_of}
use Rattle.rdb_core.specs.declared.engine.Core.{Core}

abbrev pub state_of : {R : Type 0} → Core R → CoreState
state_of core = record { base = base_of core.base; branches = core.branches }

-- who records what becomes of its units
abbrev pub recorder_of : {R : Type 0} → Core R → R
recorder_of core = core.recorder

-- the committed tables, where they lie
abbrev pub pages_of : {R : Type 0} → Core R → Tables
pages_of core = core.base.tables.tables

-- no tables, no units, no branches
abbrev pub empty : CoreState
empty = record { base = record { store = []; units = [] }; branches = [] }
