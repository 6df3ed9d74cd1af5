use Rattle.std.proofs.Common.{◌∙◌, List, map, sym, ap}
use Rattle.std.proofs.lemmas.Result.{IfOk-weaker}
use Rattle.row_values.specs.Value.{value_of}
use Rattle.unit_locks.specs.Claim.{Claim}
use Rattle.core_model.specs.Units.{clashes, left_of, others, unit_of}
use Rattle.paged_tables.specs.PagedTables.{store_in}
use Rattle.unit_table.specs.Owner.{plain_owner}
use Rattle.unit_statements.specs.Sight.{seen_by}
use Rattle.unit_statements.proofs.Questions.{claims_as, found_as}
use Rattle.unit_statements.proofs.finding.find.Goals as goal

pub returns-clause-found : goal.returns-clause-found
returns-clause-found g c =
    let o = plain_owner c.args.owner.now in
    let units = c.args.units.now in
    let q = c.args.question in
    IfOk-weaker c.find_statement.result _ _
    (λ found is. found_as g.R.Source.is_told g.R.Source.reads (store_in c.args.sight.now.tables.now) c.args.source.now c.find_statement.new.source found (others o units) (map value_of q.parameters.now) (left_of (unit_of o units)) q.statement.now c.args.sight.now.changes.now q.kind is)
    c.find_statement.ensures.found

pub returns-clause-clash : goal.returns-clause-clash
returns-clause-clash g c = λ clash.
    let q = c.args.question in
    let theirs = others (plain_owner c.args.owner.now) c.args.units.now in
    c.find_statement.ensures.clash (sym (ap (λ (cs : List Claim). clashes cs theirs) (claims_as q.kind q.statement.now (map value_of q.parameters.now) (seen_by c.args.sight.now))) ∙ clash)
