use Rattle.std.proofs.Common.{◌≡◌, ◌∙◌, ℕ, List, false, true, ap, inl, refl, rules, sym}
use Rattle.tables.specs.Applied.{apply_all}
use Rattle.unit_locks.specs.Claim.{Claim}
use Rattle.sql_semantics.specs.Frame.{changes_of, covered_answer}
use Rattle.core_model.specs.Asked.{meant}
use Rattle.core_model.specs.Units.{clashes, others}
use Rattle.paged_tables.specs.PagedTables.{store_in}
use Rattle.unit_table.specs.Owner.{plain_owner}
use Rattle.unit_statements.proofs.Standing.{over_given}
use Rattle.unit_statements.proofs.finding.find_bound.Goals as goal

pub returns-then-clashes-clause-found : goal.returns-then-clashes-clause-found
returns-then-clashes-clause-found g c =
    let store = store_in c.args.sight.now.tables.now in
    let theirs = others (plain_owner c.args.owner.now) c.args.units.now in
    let clash : clashes c.in_ok-claims.claims.items theirs ≡ true = search rules in
    record {
      given = store;
      read = inl (refl, refl);
      told = λ params statement bound.
          ap (λ (cs : List Claim). clashes cs theirs) (sym (c.in_ok-claims.ensures params statement (apply_all c.args.sight.now.changes.now store) bound c.requires.over)) ∙ clash;
    }

pub returns-clause-found : goal.returns-clause-found
returns-clause-found g c =
    let store = store_in c.args.sight.now.tables.now in
    let changes = c.args.sight.now.changes.now in
    let is = c.in_ok-answer.ensures.given in
    let free : clashes c.in_ok-claims.claims.items (others (plain_owner c.args.owner.now) c.args.units.now) ≡ false = search rules in
    record {
      given = is.given;
      read = is.read;
      told = λ params statement bound. record {
        claims = c.in_ok-claims.ensures params statement (apply_all changes is.given) bound
            (over_given g.R.Source.is_told g.R.Source.reads store c.args.source.now c.reply.new.source changes is c.args.bound.now c.requires.over);
        free = free;
        answer = is.told.answer_is params statement bound ∙ ap (λ (left : ℕ). meant (covered_answer params left statement (apply_all changes is.given))) c.left.ensures;
        changes = is.told.changes_are params statement bound ∙ ap (λ (left : ℕ). changes_of (covered_answer params left statement (apply_all changes is.given))) c.left.ensures;
      };
    }
