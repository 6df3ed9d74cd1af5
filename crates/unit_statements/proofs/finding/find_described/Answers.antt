use Rattle.std.proofs.Common.{◌≡◌, ap, option_map, rules, ◌∙◌}
use Rattle.std.specs.Arc.{arc_value}
use Rattle.std.specs.Option.{option_copied}
use Rattle.tables.specs.Tables.{Store, schema_of}
use Rattle.sql_semantics.specs.Describe.{described}
use Rattle.sql_semantics.specs.Scope.{table_name}
use Rattle.core_model.specs.Asked.{described_claims, told as told_of}
use Rattle.unit_statements.proofs.finding.find_described.Goals as goal

pub returns : goal.returns
returns g c = λ is_faithful.
    let s = g.V.TableView.store c.args.view.now in
    let name = table_name c.args.statement.now.command in
    let lent : option_copied c.as_deref.result ≡ option_map arc_value c.in-Ok.schema = search rules in
    record {
      claims = c.in_ok-claimed.ensures ∙ ap (described_claims name) (lent ∙ c.in-Ok.ensures.found is_faithful);
      free = search rules;
      answer =
          c.in_ok-answer.ensures.answer is_faithful
          ∙ ap (λ (t : Store). told_of (described c.args.side c.args.statement.now.command (schema_of t name))) c.in-Ok.ensures.store;
      changes = c.in_ok-answer.ensures.changes;
    }
