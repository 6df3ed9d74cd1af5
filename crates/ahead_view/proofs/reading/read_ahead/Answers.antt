-- What is not told is judged.
use Rattle.std.proofs.Common.{sym, ◌∙◌}
use Rattle.paged_tables.specs.PagedTables.{store_in}
use Rattle.ahead_view.proofs.Standing.{not_told, stands}
use Rattle.ahead_view.proofs.reading.read_ahead.Goals as goal

pub fail-requires : goal.fail-requires
fail-requires g c =
    not_told g.S.Source.is_told c.in_ok-is_possible.field-0 (store_in c.args.tables.now) c.in_ok-read.field-0.read c.count-count.ensures.good c.in_ok-read.ensures.told c.in_ok-is_possible.ensures c.if-not-branch.true

pub returns-clause-stands : goal.returns-clause-stands
returns-clause-stands g c =
    stands g.S.Source.is_told (store_in c.args.tables.now) c.in_ok-read.field-0.read c.count-count.ensures.good (sym c.in_ok-is_possible.ensures ∙ c.if-not-branch.false) c.in_ok-read.ensures.told
