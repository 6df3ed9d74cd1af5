-- Each change has its room.
use Rattle.std.proofs.Common.{◌≡◌, ℕ, List, None, Some, subst, sym}
use Rattle.std.specs.String.{string_bytes}
use Rattle.row_values.specs.Schema.{Schema}
use Rattle.tables.specs.Change.{action_of}
use Rattle.tables.specs.Tables.{Store, schema_of}
use Rattle.tables.specs.declared.action.Action.{Action}
use Rattle.paged_tables.specs.Stored.{FormsKey, FormsRow, HasRoomFor, form_in}
use Rattle.paged_tables.specs.TablesByName.{IsReady, schema_after, schema_at, slots_at, tables_in}
use Rattle.paged_tables.proofs.TreeSteps.{always_ok, if_both, ready_create, ready_put, ready_remove}
use Rattle.paged_tables.proofs.tables_by_name.reserve_in.Goals as goal

pub returns-in_ok-hold_ready-in-CreateTable-clause-ready : goal.returns-in_ok-hold_ready-in-CreateTable-clause-ready
returns-in_ok-hold_ready-in-CreateTable-clause-ready c = λ store known.
    subst (λ (a : Action). IsReady (action_of a) None store (tables_in c.hold_ready.new.tables.entries)) (sym c.in-CreateTable.is)
    (ready_create (string_bytes c.in-CreateTable.table) c.as_bytes.result.now c.in-CreateTable.schema store (tables_in c.args.tables.now.entries) (tables_in c.hold_ready.new.tables.entries) c.as_bytes.ensures.value
    c.in_ok-hold_ready-in-CreateTable.ensures.schemas known)

pub returns-in-Put-clause-schemas : goal.returns-in-Put-clause-schemas
returns-in-Put-clause-schemas c =
    always_ok c.reserve.result ((q : List ℕ) → schema_at (tables_in c.reserve.new.tables.entries) q ≡ schema_after (action_of c.args.action.now) (tables_in c.args.tables.now.entries) q)
    (subst (λ (a : Action). (q : List ℕ) → schema_at (tables_in c.reserve.new.tables.entries) q ≡ schema_after (action_of a) (tables_in c.args.tables.now.entries) q) (sym c.in-Put.is) c.reserve.ensures.schemas)

pub returns-in-Put-clause-ready : goal.returns-in-Put-clause-ready
returns-in-Put-clause-ready c =
    if_both c.reserve.result (λ form. (schema : Schema) → schema_at (tables_in c.args.tables.now.entries) c.as_bytes-in-Put.result.now ≡ Some schema → FormsRow schema c.as_slice.result.now (form_in form))
    (λ form. (schema : Schema) → schema_at (tables_in c.args.tables.now.entries) c.as_bytes-in-Put.result.now ≡ Some schema → HasRoomFor (slots_at (tables_in c.reserve.new.tables.entries) c.as_bytes-in-Put.result.now) (form_in form))
    (λ form. (store : Store) → ((q : List ℕ) → schema_of store q ≡ schema_at (tables_in c.args.tables.now.entries) q) → IsReady (action_of c.args.action.now) (form_in form) store (tables_in c.reserve.new.tables.entries))
    (λ form formed room store known. subst (λ (a : Action). IsReady (action_of a) (form_in form) store (tables_in c.reserve.new.tables.entries)) (sym c.in-Put.is)
    (ready_put (string_bytes c.in-Put.table) c.as_bytes-in-Put.result.now c.in-Put.row.items c.as_slice.result.now (form_in form) store (tables_in c.args.tables.now.entries) (tables_in c.reserve.new.tables.entries) c.as_bytes-in-Put.ensures.value c.as_slice.ensures.value known formed room))
    c.reserve.ensures.form c.reserve.ensures.room

pub returns-in-Remove-clause-schemas : goal.returns-in-Remove-clause-schemas
returns-in-Remove-clause-schemas c =
    always_ok c.reserve_key.result ((q : List ℕ) → schema_at (tables_in c.reserve_key.new.tables.entries) q ≡ schema_after (action_of c.args.action.now) (tables_in c.args.tables.now.entries) q)
    (subst (λ (a : Action). (q : List ℕ) → schema_at (tables_in c.reserve_key.new.tables.entries) q ≡ schema_after (action_of a) (tables_in c.args.tables.now.entries) q) (sym c.in-Remove.is) c.reserve_key.ensures.schemas)

pub returns-in-Remove-clause-ready : goal.returns-in-Remove-clause-ready
returns-in-Remove-clause-ready c =
    if_both c.reserve_key.result (λ form. (schema : Schema) → schema_at (tables_in c.args.tables.now.entries) c.as_bytes-in-Remove.result.now ≡ Some schema → FormsKey schema c.as_slice-in-Remove.result.now (form_in form))
    (λ form. (schema : Schema) → schema_at (tables_in c.args.tables.now.entries) c.as_bytes-in-Remove.result.now ≡ Some schema → HasRoomFor (slots_at (tables_in c.reserve_key.new.tables.entries) c.as_bytes-in-Remove.result.now) (form_in form))
    (λ form. (store : Store) → ((q : List ℕ) → schema_of store q ≡ schema_at (tables_in c.args.tables.now.entries) q) → IsReady (action_of c.args.action.now) (form_in form) store (tables_in c.reserve_key.new.tables.entries))
    (λ form formed room store known. subst (λ (a : Action). IsReady (action_of a) (form_in form) store (tables_in c.reserve_key.new.tables.entries)) (sym c.in-Remove.is)
    (ready_remove (string_bytes c.in-Remove.table) c.as_bytes-in-Remove.result.now c.in-Remove.key.items c.as_slice-in-Remove.result.now (form_in form) store (tables_in c.args.tables.now.entries) (tables_in c.reserve_key.new.tables.entries) c.as_bytes-in-Remove.ensures.value c.as_slice-in-Remove.ensures.value known formed room))
    c.reserve_key.ensures.form c.reserve_key.ensures.room
