use Rattle.std.proofs.Common.{◌≡◌, true, refl, subst, sym}
use Rattle.tables.specs.Applied.{apply_all}
use Rattle.tables.specs.View.{is_store}
use Rattle.small_sql.specs.Bound.{IsOver}
use Rattle.ahead_view.specs.Given.{Ahead, given_by}
use Rattle.paged_tables.specs.PagedTables.{store_in}
use Rattle.unit_statements.specs.Given.{IsReplied}
use Rattle.unit_statements.proofs.Standing.{read_or_not, still_good, still_over}
use Rattle.unit_statements.proofs.sight.Sight.reply.Goals as goal

pub reply_over-requires-clause-over : goal.reply_over-requires-clause-over
reply_over-requires-clause-over g c = λ faithful.
    let store = store_in c.args.self.now.tables.now in
    let changes = c.args.self.now.changes.now in
    subst (λ (a : Ahead). IsOver c.args.bound.now (apply_all changes a.store)) (sym c.new-base.ensures) (still_over changes (given_by store c.in_ok-read.read) store c.in_ok-read.ensures.stands c.args.bound.now c.requires.over)

pub reply_over-requires-clause-good : goal.reply_over-requires-clause-good
reply_over-requires-clause-good g c = λ faithful.
    let store = store_in c.args.self.now.tables.now in
    let changes = c.args.self.now.changes.now in
    subst (λ (a : Ahead). is_store (apply_all changes a.store) ≡ true) (sym c.new-base.ensures) (still_good changes (given_by store c.in_ok-read.read) store c.in_ok-read.ensures.stands c.requires.good)

pub returns-in-Ok-clause-given : goal.returns-in-Ok-clause-given
returns-in-Ok-clause-given g c =
    let store = store_in c.args.self.now.tables.now in
    record {
      given = given_by store c.in_ok-read.read;
      read = read_or_not g.R.Source.is_told g.R.Source.reads store c.args.source.now c.read_ahead.new.source c.in_ok-read.read c.in_ok-read.ensures.stands c.in_ok-read.ensures.read;
      told = subst (λ (a : Ahead). IsReplied c.args.bound.now c.args.left (apply_all c.args.self.now.changes.now a.store) c.in-Ok.reply) c.new-base.ensures (record { answer_is = c.in-Ok.ensures.answer refl; changes_are = c.in-Ok.ensures.changes refl });
    }
