-- A change keeps a store one.
use Rattle.std.proofs.Common.{ap, refl, sym, ◌∙◌}
use Rattle.std.specs.String.{string_bytes}
use Rattle.tables.specs.Change.{action_of, is_change, create, put, remove}
use Rattle.tables.specs.Plain.{store_of}
use Rattle.tables.specs.View.{is_store}
use Rattle.tables.proofs.Keeping.{apply_keeps}
use Rattle.tables.proofs.PlainTables.{still_store}
use Rattle.tables.proofs.plain_view.PlainView.apply.Goals as goal

pub invariant_of-self : goal.invariant_of-self
invariant_of-self c =
    let sound = sym (ap (λ action. is_change (action_of action)) c.in-CreateTable.is) ∙ c.args.change.good in
    still_store c.create.result (create (string_bytes c.in-CreateTable.table) c.in-CreateTable.schema) (store_of c.self.inside.tables.items) (store_of c.create.new.tables.items)
    c.create.ensures.applied c.create.ensures.kept sound c.self.invariant

pub invariant_of-self-in-Put : goal.invariant_of-self-in-Put
invariant_of-self-in-Put c =
    still_store c.put.result (put c.as_str.result.now c.in-Put.row.items) (store_of c.self.inside.tables.items) (store_of c.put.new.tables.items) c.put.ensures.applied c.put.ensures.kept refl c.self.invariant

pub invariant_of-self-in-Remove : goal.invariant_of-self-in-Remove
invariant_of-self-in-Remove c =
    ap is_store c.remove.ensures ∙ apply_keeps (remove c.as_str-in-Remove.result.now c.as_slice.result.now) (store_of c.self.inside.tables.items) refl c.self.invariant
