-- The column's value is read where those of the earlier columns end.
use Rattle.std.proofs.Common.{◌≡◌, ◌<◌, IsTrue, Some, subst, ap, map, sym, ◌∙◌, arith, length}
use Rattle.std.proofs.lemmas.List.{length-map}
use Rattle.row_values.specs.Value.{value_of}
use Rattle.std.specs.List.{slice_get}
use Rattle.drda_words.specs.Place.{StandsAt}
use Rattle.row_values.specs.Column.{column_of, fits}
use Rattle.row_values.specs.Row.{place_of, value_bytes, values_in}
use Rattle.row_values.proofs.RowSteps.{column_at}
use Rattle.row_values.proofs.ReadSteps.{stands_there}
use Rattle.row_values.proofs.RowColumns.{at_place, column_value}
use Rattle.row_values.proofs.row_ref.RowRef.column.Goals as goal

pub take_value-requires : goal.take_value-requires
take_value-requires c =
    let count : length c.columns-columns.result.now ≡ length c.args.self.now.schema.now.columns = sym (length-map c.columns-columns.result.now column_of) ∙ ap length c.columns-columns.ensures.columns in
    let within : c.args.i < length c.columns-columns.result.now = let le = c.requires in omega arith in
    stands_there (map column_of c.columns-columns.result.now) c.args.self.now.bytes.now c.args.i (column_of c.index-columns-i.result) c.from_column-rest.result.now
    (column_at c.columns-columns.result.now c.args.i c.index-columns-i.result within c.index-columns-i.is) c.from_column-rest.ensures

pub returns : goal.returns
returns c =
    let count : length c.columns-columns.result.now ≡ length c.args.self.now.schema.now.columns = sym (length-map c.columns-columns.result.now column_of) ∙ ap length c.columns-columns.ensures.columns in
    let within : c.args.i < length c.columns-columns.result.now = let le = c.requires in omega arith in
    let at = column_at c.columns-columns.result.now c.args.i c.index-columns-i.result within c.index-columns-i.is in
    let r = column_value c.args.self.now.schema.now c.args.self.now.bytes.now (map column_of c.columns-columns.result.now) c.args.i (column_of c.index-columns-i.result) c.from_column-rest.result.now
    (value_of c.take_value.result.0, c.take_value.result.1.now) c.columns-columns.ensures.columns c.args.self.now.is_row c.args.self.now.written at c.from_column-rest.ensures
    c.take_value.ensures in
    let there = subst (λ cs. slice_get cs c.args.i ≡ Some (column_of c.index-columns-i.result)) c.columns-columns.ensures.columns at in
    let schema = c.args.self.now.schema.now in
    let row = c.args.self.now.bytes.now in
    record {
      value = r.0;
      fits = at_place (λ column. IsTrue (fits column (value_of c.take_value.result.0))) schema.columns c.args.i (column_of c.index-columns-i.result) there r.1;
      place = at_place (λ column. StandsAt row (place_of schema.columns (values_in schema row) c.args.i) (value_bytes column.kind (value_of c.take_value.result.0))) schema.columns c.args.i (column_of c.index-columns-i.result) there r.2;
    }
