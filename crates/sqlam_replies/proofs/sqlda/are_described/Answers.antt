use Rattle.std.proofs.Common.{◌≡◌, ◌≤◌, Bool, List, [], ◌∷◌, refl, sym, ap, ◌∙◌, true, map, length, nat_le, arith, ◌&&◌}
use Rattle.std.specs.List.{list_all}
use Rattle.std.proofs.lemmas.Bool.{le-leb}
use Rattle.std.proofs.lemmas.List.{length-map}
use Rattle.row_values.specs.declared.column.Column.{Column as CodeColumn}
use Rattle.row_values.specs.Column.{Column, column_of}
use Rattle.sqlam_replies.proofs.sqlda.are_described.Goals as goal

all_shown : (test : Column → Bool) (columns : List CodeColumn) → list_all (λ c. test (column_of c)) columns ≡ list_all test (map column_of columns)
all_shown test [] = refl
all_shown test (c ∷ columns) = ap (λ b. test (column_of c) && b) (all_shown test columns)

few : (columns : List CodeColumn) → length columns ≤ 128 → nat_le (length (map column_of columns)) 128 ≡ true
few columns le = le-leb _ _ (omega (arith, le, length-map columns column_of))

pub returns-then-columns-le-MAX_DESCRIBED : goal.returns-then-columns-le-MAX_DESCRIBED
returns-then-columns-le-MAX_DESCRIBED c =
    let shown = map column_of c.args.columns.now in
    let short = λ (column : Column). nat_le (length column.name) 30 in
    c.have_short_names.ensures
    ∙ all_shown short c.args.columns.now
    ∙ sym (ap (λ b. b && list_all short shown) (few c.args.columns.now c.if-columns-le-MAX_DESCRIBED.true))
