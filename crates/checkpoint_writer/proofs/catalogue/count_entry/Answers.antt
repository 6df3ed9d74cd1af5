use Rattle.std.proofs.Common.{List, ℕ, length, ap, ◌∙◌}
use Rattle.checkpoint_writer.specs.Catalogue.{entry_bytes}
use Rattle.checkpoint_writer.proofs.Counting.{as_long, as_many}
use Rattle.checkpoint_writer.proofs.catalogue.count_entry.Goals as goal

pub returns : goal.returns
returns c e rows name schema =
    let row = ap (λ (l : List ℕ). length l) (c.deref.ensures.value ∙ c.in_ok-entry_row.ensures.row) in
    c.push.ensures rows ∙ as_many c.args.count.now c.deref.result.now (entry_bytes e) rows (row ∙ as_long e (record { name = c.args.name.now; schema = c.args.schema.now; first_page = 0; pages = 0 }) name schema)
