use Rattle.std.proofs.Common.{◌≡◌, ◌++◌, ◌∙◌, ap, codes}
use Rattle.row_values.specs.Row.{values_in}
use Rattle.row_values.specs.RowView.{row_in, schema_in}
use Rattle.sql_spelling.specs.Text.{insert_text, separated, value_text}
use Rattle.sql_spelling.proofs.Appending.{five}
use Rattle.sql_spelling.proofs.statement.put_insert.Goals as goal

pub returns : goal.returns
unfolding insert_text
returns c =
    let first : c.extend_from_slice.new.self.items ≡ c.args.out.now.items ++ codes "INSERT INTO " = c.in_ok-extend_from_slice.ensures.items in
    let name : c.extend_from_slice-2.new.self.items ≡ c.extend_from_slice.new.self.items ++ c.args.name.now = c.in_ok-extend_from_slice-2.ensures.items ∙ ap (λ z. c.extend_from_slice.new.self.items ++ z) c.as_bytes.ensures.value in
    let word : c.extend_from_slice-3.new.self.items ≡ c.extend_from_slice-2.new.self.items ++ codes " VALUES (" = c.in_ok-extend_from_slice-3.ensures.items in
    let values : c.put_values.new.out.items ≡ c.extend_from_slice-3.new.self.items ++ separated value_text (values_in (schema_in c.args.row.now) (row_in c.args.row.now)) =
    c.in_ok-put_values.ensures ∙ ap (λ vs. c.extend_from_slice-3.new.self.items ++ separated value_text vs) c.values.ensures in
    let last : c.extend_from_slice-4.new.self.items ≡ c.put_values.new.out.items ++ codes ")" = c.in_ok-extend_from_slice-4.ensures.items in
    five c.args.out.now.items (codes "INSERT INTO ") c.args.name.now (codes " VALUES (") (separated value_text (values_in (schema_in c.args.row.now) (row_in c.args.row.now))) (codes ")") _ _ _ _ _ first name word values last
