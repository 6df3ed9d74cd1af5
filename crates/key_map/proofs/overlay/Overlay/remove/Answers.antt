use Rattle.std.proofs.Common.{ap, ◌∙◌, None}
use Rattle.std.specs.BTreeMap.{insert_entry}
use Rattle.key_map.specs.Slots.{by_bytes, rows_of}
use Rattle.key_map.specs.Overlay.{said}
use Rattle.key_map.proofs.Said.{put_said, put_made}
use Rattle.key_map.proofs.overlay.Overlay.remove.Goals as goal

pub returns-clause-changes : goal.returns-clause-changes
returns-clause-changes c =
    put_said c.args.self.now c.put.new.self c.args.key.items c.new.result.items None (ap said c.new.ensures.items)
    (c.in_ok-put.ensures.rows ∙ ap (λ s. insert_entry by_bytes (rows_of s) c.args.key.items c.new.result.items) c.self.view_is)

pub returns-clause-rows : goal.returns-clause-rows
returns-clause-rows c =
    put_made c.args.self.now c.put.new.self c.args.key.items c.new.result.items None (ap said c.new.ensures.items)
    (c.in_ok-put.ensures.rows ∙ ap (λ s. insert_entry by_bytes (rows_of s) c.args.key.items c.new.result.items) c.self.view_is)
