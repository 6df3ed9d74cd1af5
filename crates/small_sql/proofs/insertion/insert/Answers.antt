use Rattle.std.proofs.Common.{◌≡◌, ap, false, filter, rules, ◌∙◌}
use Rattle.std.specs.Arc.{arc_value}
use Rattle.row_values.specs.Schema.{Schema, is_name}
use Rattle.sql_changes.specs.Given.{values_given}
use Rattle.sql_semantics.specs.Frame.{rows_covered}
use Rattle.sql_semantics.specs.Meaning.{answered, has_key, put_answer}
use Rattle.small_sql.specs.Scope.{key_in, scope_of}
use Rattle.small_sql.proofs.Covered.{none_keyed}
use Rattle.small_sql.proofs.Named.{not_found}
use Rattle.small_sql.proofs.insertion.insert.Goals as goal

pub returns-then-not-is_name-clause-answer : goal.returns-then-not-is_name-clause-answer
returns-then-not-is_name-clause-answer g c = λ told.
    let bad : is_name c.args.table.now ≡ false = search rules in
    absurd (not_found (g.V.TableView.store c.args.view.now) c.args.table.now (arc_value c.args.schema.now) (c.requires.good told) (c.requires.schema told) bad)

pub returns-in-Ok-clause-answer : goal.returns-in-Ok-clause-answer
returns-in-Ok-clause-answer g c = λ told.
    let s = g.V.TableView.store c.args.view.now in
    let table = c.args.table.now in
    let schema = arc_value c.args.schema.now in
    let w = scope_of c.args.scope.now in
    let others = filter (has_key schema (key_in w)) (rows_covered w table s) in
    let lent : c.deref.result.now ≡ schema = search rules in
    let has = none_keyed c.statements_are_framed.ensures.keys s table schema w (c.requires.good told) (c.requires.schema told) c.in_ok-is_free.is_free (c.in_ok-is_free.ensures.free told) in
    c.in-Ok.ensures others has
    ∙ ap (λ (sh : Schema). answered (put_answer c.args.left table sh others (values_given c.args.row.now))) lent
