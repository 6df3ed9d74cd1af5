-- A name is UTF-8.
use Rattle.paged_tables.proofs.Opened.{name_is_text}
use Rattle.paged_tables.proofs.lending.text_of.Goals as goal

pub unreachable-requires : goal.unreachable-requires
unreachable-requires c = c.in-Err.ensures.cases.0 (name_is_text c.args.name.now c.requires)
