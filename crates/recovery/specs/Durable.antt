-- What the records of a journal stand for, one after another: the committed store, and the branches in doubt.
use Rattle.std.specs.Prelude.{ℕ, Bool, true, false, List, [], ◌∷◌, length, Option, Some, None, is_some, not, nat_lt, bytes_eq, ◌&&◌, ◌||◌, if◌then◌else◌}
use Rattle.std.specs.Option.{option_and_then}
use Rattle.std.specs.Ordering.{nat_cmp}
use Rattle.std.specs.Cmp.Lexicographic.{slice_cmp}
use Rattle.std.specs.Map.{lookup, remove_entry}
use Rattle.std.specs.BTreeMap.{insert_entry}
use Rattle.row_values.specs.Schema.{Schema}
use Rattle.row_values.specs.Row.{is_row}
use Rattle.row_values.specs.Key.{is_key}
use Rattle.tables.specs.Change.{Change, create, put, remove}
use Rattle.tables.specs.Tables.{Store, apply, schema_of}
use Rattle.unit_locks.specs.Claim.{Claim}
use Rattle.unit_locks.specs.Claims.{all_added, has}
use Rattle.unit_locks.specs.declared.access.Access.TheVariants.{Write}
use Rattle.xa_manager.specs.declared.due.Decision.{Decision}
use Rattle.xa_manager.specs.declared.due.Decision.TheVariants as decision
use Rattle.core_model.specs.Units.{Work, apply_all, idle}
use Rattle.unit_records.specs.Records.{UnitRecord, committed, decided, forgotten, heuristic, prepared}

-- what is kept of a branch in doubt: its unit, and how it was decided heuristically, where it was; then its unit has ended
pub record Doubt : Type 0 where
  pub work : Work
  pub outcome : Option Decision

-- it waits for its decision
abbrev pub waiting : Work → Doubt
waiting work = record { work = work; outcome = None }

-- it waits to be forgotten
abbrev pub completed : Decision → Doubt
completed o = record { work = idle; outcome = Some o }

-- the branches in doubt by their XIDs, in the order of the XIDs' bytes
abbrev pub Doubts : Type 0
Doubts = List (List ℕ × Doubt)

pub record Durable : Type 0 where
  pub store : Store
  pub doubts : Doubts

-- at a checkpoint, whose tables the journal's records follow: the units in doubt are among the records
abbrev pub at_checkpoint : Store → Durable
at_checkpoint store = record { store = store; doubts = [] }

-- of a store that was just made
abbrev pub fresh : Durable
fresh = at_checkpoint []

-- ---- places

abbrev pub fits_in : (Schema → Bool) → Option Schema → Bool
fits_in fits None = false
fits_in fits (Some schema) = fits schema

-- a change has a place in a store: the table that it creates is not there, and with it there are 1,000 at
-- most; what it puts or removes is a row, or a key, of a table that is there. No row has to be at the key.
abbrev pub has_place : Change → Store → Bool
has_place (create name schema) store = not (is_some (schema_of store name)) && nat_lt (length store) 1000
has_place (put name row) store = fits_in (λ schema. is_row schema row) (schema_of store name)
has_place (remove name key) store = fits_in (λ schema. is_key schema key) (schema_of store name)

-- each change has one behind those before it
abbrev pub have_places : List Change → Store → Bool
have_places [] store = true
have_places (change ∷ changes) store = has_place change store && have_places changes (apply change store)

-- ---- branches in doubt

abbrev pub doubt_of : Doubts → List ℕ → Option Doubt
doubt_of doubts xid = lookup (bytes_eq xid) doubts

abbrev pub with_doubt : Doubts → List ℕ → Doubt → Doubts
with_doubt doubts xid doubt = insert_entry (slice_cmp nat_cmp) doubts xid doubt

abbrev pub without_doubt : Doubts → List ℕ → Doubts
without_doubt doubts xid = remove_entry (bytes_eq xid) doubts

-- with another in the place of the first of this XID
abbrev pub turned : Doubts → List ℕ → Doubt → Doubts
turned [] xid doubt = []
turned (e ∷ es) xid doubt = if bytes_eq xid e.0 then (e.0, doubt) ∷ es else e ∷ turned es xid doubt

-- no table is created
abbrev pub creates_none : List Change → Bool
creates_none [] = true
creates_none (create name schema ∷ changes) = false
creates_none (put name row ∷ changes) = creates_none changes
creates_none (remove name key ∷ changes) = creates_none changes

-- the claim to write all names: of the table `*`, which is none
abbrev pub names_claim : Claim
names_claim = record { access = Write; table = 42 ∷ []; key = None }

-- a unit that creates a table has claimed all names
abbrev pub is_claimed : List Change → List Claim → Bool
is_claimed changes claims = creates_none changes || has claims names_claim

-- the XID is not in doubt yet, and fewer than 256 are
abbrev pub is_free : Doubts → List ℕ → Bool
is_free doubts xid = not (is_some (doubt_of doubts xid)) && nat_lt (length doubts) 256

-- a unit that was in doubt is decided: its changes are made, or not, and its claims end
abbrev pub decide_changes : Decision → List Change → Store → Store
decide_changes decision.Commit changes store = apply_all changes store
decide_changes decision.RollBack changes store = store

abbrev pub decide : Decision → Store → Work → Store
decide o store work = decide_changes o work.changes store

-- the branch of an XID is decided, where it waits for that
abbrev pub ended_in : Durable → List ℕ → Decision → Work → Option Decision → Option Durable
ended_in d xid o work None = Some (record { store = decide o d.store work; doubts = without_doubt d.doubts xid })
ended_in d xid o work (Some h) = None

abbrev pub ended : Durable → List ℕ → Decision → Doubt → Option Durable
ended d xid o doubt = ended_in d xid o doubt.work doubt.outcome

-- it is decided heuristically, where it waits for its decision, and stands so
abbrev pub completed_in : Durable → List ℕ → Decision → Work → Option Decision → Option Durable
completed_in d xid o work None = Some (record { store = decide o d.store work; doubts = turned d.doubts xid (completed o) })
completed_in d xid o work (Some h) = None

-- one that is not in doubt is found so, as behind a checkpoint, where fewer than 256 are in doubt
abbrev pub decided_so : Durable → List ℕ → Decision → Option Doubt → Option Durable
decided_so d xid o None = if nat_lt (length d.doubts) 256 then Some (record { store = d.store; doubts = with_doubt d.doubts xid (completed o) }) else None
decided_so d xid o (Some doubt) = completed_in d xid o doubt.work doubt.outcome

-- one that was decided heuristically is forgotten
abbrev pub let_go_of : Durable → List ℕ → Option Decision → Option Durable
let_go_of d xid None = None
let_go_of d xid (Some o) = Some (record { store = d.store; doubts = without_doubt d.doubts xid })

abbrev pub let_go : Durable → List ℕ → Doubt → Option Durable
let_go d xid doubt = let_go_of d xid doubt.outcome

-- ---- records

-- A unit has each claim once, in the order in which it first made them. Where a record has no place among those before it, the journal is damaged there
abbrev pub next : Durable → UnitRecord → Option Durable
next d (committed changes) = if have_places changes d.store then Some (record { store = apply_all changes d.store; doubts = d.doubts }) else None
next d (prepared xid changes claims) = if have_places changes d.store && (is_claimed changes claims && is_free d.doubts xid)
    then Some (record { store = d.store; doubts = with_doubt d.doubts xid (waiting (record { changes = changes; claims = all_added [] claims })) }) else None
next d (decided xid o) = option_and_then (ended d xid o) (doubt_of d.doubts xid)
next d (heuristic xid o) = decided_so d xid o (doubt_of d.doubts xid)
next d (forgotten xid) = option_and_then (let_go d xid) (doubt_of d.doubts xid)

-- all records, from a state on
abbrev pub replayed_from : Durable → List UnitRecord → Option Durable
replayed_from d [] = Some d
replayed_from d (r ∷ rs) = option_and_then (λ (e : Durable). replayed_from e rs) (next d r)

abbrev pub replayed : List UnitRecord → Option Durable
replayed rs = replayed_from fresh rs
