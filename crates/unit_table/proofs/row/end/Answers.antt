use Rattle.std.proofs.Common.{List, sym, ◌∙◌, ap, subst, arith}
use Rattle.core_model.specs.Units.{Work}
use Rattle.unit_table.specs.declared.entry.Entry.{Entry}
use Rattle.unit_table.specs.Owner.{plain_owner}
use Rattle.unit_table.specs.Table.{AreKept, held}
use Rattle.unit_table.proofs.Rows.{at_inside}
use Rattle.unit_table.proofs.Changing.{ended_kept, ended_units, work_at}
use Rattle.unit_table.proofs.row.end.Goals as goal

pub remove-number-requires : goal.remove-number-requires
remove-number-requires c =
    let below = at_inside c.args.claims.now (plain_owner c.args.owner.now) c.args.entries.now.items c.args.at c.requires.at in
    omega (arith, below, c.args.entries.now.ok.0)

pub returns-clause-kept : goal.returns-clause-kept
returns-clause-kept c =
    subst (λ (l : List Entry). AreKept l c.drop_unit.new.self) (sym c.remove-number.ensures.items)
    (ended_kept c.args.claims.now c.drop_unit.new.self (plain_owner c.args.owner.now) c.args.entries.now.items c.args.at c.remove-number.result c.requires.kept c.requires.at c.remove-number.ensures.value c.drop_unit.ensures.others c.drop_unit.ensures.gone)

pub returns-clause-units : goal.returns-clause-units
returns-clause-units c =
    ap (λ (l : List Entry). held c.drop_unit.new.self l) c.remove-number.ensures.items
    ∙ ended_units c.args.claims.now c.drop_unit.new.self (plain_owner c.args.owner.now) c.args.entries.now.items c.args.at c.remove-number.result c.requires.kept c.requires.at c.remove-number.ensures.value c.drop_unit.ensures.others

pub returns-clause-changes : goal.returns-clause-changes
returns-clause-changes c =
    sym (ap (λ (w : Work). w.changes) (work_at c.args.claims.now (plain_owner c.args.owner.now) c.args.entries.now.items c.args.at c.remove-number.result c.requires.at c.remove-number.ensures.value))
