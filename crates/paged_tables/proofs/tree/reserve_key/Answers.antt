-- The room for the mark is made in the table of the name, where there is one.
use Rattle.std.proofs.Common.{◌≡◌, Some, subst}
use Rattle.row_values.specs.Schema.{Schema}
use Rattle.paged_tables.specs.Stored.{FormsKey, HasRoomFor, form_in}
use Rattle.paged_tables.specs.TablesByName.{schema_at, slots_at, tables_in}
use Rattle.paged_tables.proofs.TreeSteps.{grows_written, if_ok, no_schema, room_written, same_written, schema_is, schemas_written}
use Rattle.paged_tables.proofs.tree.reserve_key.Goals as goal

pub returns-in-Some-clause-store : goal.returns-in-Some-clause-store
returns-in-Some-clause-store c =
    same_written c.args.tables.now.entries c.args.name.now c.in-Some.table.now c.reserve_key.new.self (c.get_mut.follows.lender c.reserve_key.new.self).entries c.in-Some.ensures.value (c.get_mut.follows.holds c.reserve_key.new.self).0 c.reserve_key.ensures.shown

pub returns-in-Some-clause-grows : goal.returns-in-Some-clause-grows
returns-in-Some-clause-grows c =
    grows_written c.args.tables.now.entries c.args.name.now c.in-Some.table.now c.reserve_key.new.self (c.get_mut.follows.lender c.reserve_key.new.self).entries c.in-Some.ensures.value (c.get_mut.follows.holds c.reserve_key.new.self).0 c.reserve_key.ensures.pages c.reserve_key.ensures.room

pub returns-in-Some-clause-schemas : goal.returns-in-Some-clause-schemas
returns-in-Some-clause-schemas c =
    schemas_written c.args.tables.now.entries c.args.name.now c.in-Some.table.now c.reserve_key.new.self (c.get_mut.follows.lender c.reserve_key.new.self).entries c.in-Some.ensures.value (c.get_mut.follows.holds c.reserve_key.new.self).0 c.reserve_key.ensures.pages.schema

pub returns-in-Some-clause-form : goal.returns-in-Some-clause-form
returns-in-Some-clause-form c =
    if_ok c.reserve_key.result (λ form. FormsKey c.in-Some.table.now.schema c.args.key.now (form_in form))
    (λ form. (schema : Schema) → schema_at (tables_in c.args.tables.now.entries) c.args.name.now ≡ Some schema → FormsKey schema c.args.key.now (form_in form))
    (λ form h schema is. subst (λ (s : Schema). FormsKey s c.args.key.now (form_in form)) (schema_is c.args.tables.now.entries c.args.name.now c.in-Some.table.now schema c.in-Some.ensures.value is) h)
    c.reserve_key.ensures.form

pub returns-in-Some-clause-room : goal.returns-in-Some-clause-room
returns-in-Some-clause-room c =
    if_ok c.reserve_key.result (λ form. HasRoomFor c.reserve_key.new.self.changes (form_in form))
    (λ form. (schema : Schema) → schema_at (tables_in c.args.tables.now.entries) c.args.name.now ≡ Some schema → HasRoomFor (slots_at (tables_in (c.get_mut.follows.lender c.reserve_key.new.self).entries) c.args.name.now) (form_in form))
    (λ form h schema is. room_written c.args.tables.now.entries c.args.name.now c.in-Some.table.now c.reserve_key.new.self (c.get_mut.follows.lender c.reserve_key.new.self).entries (form_in form) c.in-Some.ensures.value (c.get_mut.follows.holds c.reserve_key.new.self).0 h)
    c.reserve_key.ensures.made

pub returns-in-None-clause-form : goal.returns-in-None-clause-form
returns-in-None-clause-form c = λ schema is. no_schema c.args.tables.now.entries c.args.name.now schema c.in-None.ensures.value is
