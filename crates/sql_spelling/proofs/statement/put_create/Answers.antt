use Rattle.std.proofs.Common.{◌≡◌, ◌++◌, ◌∙◌, ap, codes}
use Rattle.row_values.specs.Schema.{key_columns}
use Rattle.sql_spelling.specs.Text.{column_text, create_text, separated}
use Rattle.sql_spelling.proofs.Appending.{seven}
use Rattle.sql_spelling.proofs.statement.put_create.Goals as goal

pub returns : goal.returns
unfolding create_text
returns c =
    let first : c.extend_from_slice.new.self.items ≡ c.args.out.now.items ++ codes "CREATE TABLE " = c.in_ok-extend_from_slice.ensures.items in
    let name : c.extend_from_slice-2.new.self.items ≡ c.extend_from_slice.new.self.items ++ c.args.name.now = c.in_ok-extend_from_slice-2.ensures.items ∙ ap (λ z. c.extend_from_slice.new.self.items ++ z) c.as_bytes.ensures.value in
    let open_ : c.extend_from_slice-3.new.self.items ≡ c.extend_from_slice-2.new.self.items ++ codes " (" = c.in_ok-extend_from_slice-3.ensures.items in
    let columns : c.put_columns.new.out.items ≡ c.extend_from_slice-3.new.self.items ++ separated column_text c.args.schema.now.columns =
    c.in_ok-put_columns.ensures ∙ ap (λ cs. c.extend_from_slice-3.new.self.items ++ separated column_text cs) c.columns.ensures.columns in
    let word : c.extend_from_slice-4.new.self.items ≡ c.put_columns.new.out.items ++ codes ", PRIMARY KEY (" = c.in_ok-extend_from_slice-4.ensures.items in
    let key : c.put_key.new.out.items ≡ c.extend_from_slice-4.new.self.items ++ separated (λ c. c.name) (key_columns c.args.schema.now) = c.in_ok-put_key.ensures in
    let last : c.extend_from_slice-5.new.self.items ≡ c.put_key.new.out.items ++ codes "))" = c.in_ok-extend_from_slice-5.ensures.items in
    seven c.args.out.now.items (codes "CREATE TABLE ") c.args.name.now (codes " (") (separated column_text c.args.schema.now.columns) (codes ", PRIMARY KEY (") (separated (λ c. c.name) (key_columns c.args.schema.now)) (codes "))") _ _ _ _ _ _ _ first name open_ columns word key last
