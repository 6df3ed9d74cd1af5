use Rattle.std.proofs.Common.{ap, ◌∙◌, Some}
use Rattle.std.specs.BTreeMap.{insert_entry}
use Rattle.key_map.specs.Slots.{by_bytes, rows_of}
use Rattle.key_map.proofs.Said.{said_some, put_said, put_made}
use Rattle.key_map.proofs.overlay.Overlay.put.Goals as goal

pub returns-clause-changes : goal.returns-clause-changes
returns-clause-changes c =
    put_said c.args.self.now c.put.new.self c.args.key.items c.args.row.items (Some c.args.row.items) (said_some c.args.row.items c.requires)
    (c.in_ok-put.ensures.rows ∙ ap (λ s. insert_entry by_bytes (rows_of s) c.args.key.items c.args.row.items) c.self.view_is)

pub returns-clause-rows : goal.returns-clause-rows
returns-clause-rows c =
    put_made c.args.self.now c.put.new.self c.args.key.items c.args.row.items (Some c.args.row.items) (said_some c.args.row.items c.requires)
    (c.in_ok-put.ensures.rows ∙ ap (λ s. insert_entry by_bytes (rows_of s) c.args.key.items c.args.row.items) c.self.view_is)
