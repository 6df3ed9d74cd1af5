use Rattle.std.proofs.Common.{◌≡◌, ◌++◌, ◌∷◌, [], ◌≤◌, ◌+◌, length, drop, ◌∙◌, ap, sym, arith}
use Rattle.std.specs.List.{flat_map}
use Rattle.std.proofs.lemmas.List.{append-nil, drop_all}
use Rattle.row_values.specs.Column.{Column, column_of}
use Rattle.row_values.specs.Schema.{key_columns}
use Rattle.row_values.proofs.Keys.{key_count}
use Rattle.row_values.proofs.ReadSteps.{drop_at}
use Rattle.sql_spelling.proofs.Appending.{one_more}
use Rattle.sql_spelling.proofs.Reading.{some_places}
use Rattle.sql_spelling.proofs.statement.put_key.Goals as goal

pub key_column-requires : goal.key_column-requires
key_column-requires c = some_places c.args.schema.now c.key-count.ensures.good

pub loop-i-preserved : goal.loop-i-preserved
loop-i-preserved c =
    let keys = key_columns c.args.schema.now in
    let step : drop c.loop-i.i keys ≡ column_of c.key_column-in-loop-i.result.now ∷ drop (c.loop-i.i + 1) keys = drop_at keys c.loop-i.i (column_of c.key_column-in-loop-i.result.now) c.key_column-in-loop-i.ensures in
    let whole = ap (λ cs. c.loop-i.out.items ++ flat_map (λ (d : Column). 44 ∷ 32 ∷ d.name) cs) (sym step) ∙ c.loop-i.invariant in
    let between : c.extend_from_slice-in-loop-i.new.self.items ≡ c.loop-i.out.items ++ (44 ∷ 32 ∷ []) = c.in_ok-extend_from_slice-2.ensures.items in
    let name : c.extend_from_slice-in-loop-i-2.new.self.items ≡ c.extend_from_slice-in-loop-i.new.self.items ++ (column_of c.key_column-in-loop-i.result.now).name =
    c.in_ok-extend_from_slice-3.ensures.items ∙ ap (λ z. c.extend_from_slice-in-loop-i.new.self.items ++ z) c.as_bytes-in-loop-i.ensures.value in
    one_more c.loop-i.out.items (44 ∷ 32 ∷ []) (column_of c.key_column-in-loop-i.result.now).name (flat_map (λ (d : Column). 44 ∷ 32 ∷ d.name) (drop (c.loop-i.i + 1) keys)) c.extend_from_slice-in-loop-i-2.new.self.items _ whole
    (name ∙ ap (λ z. z ++ (column_of c.key_column-in-loop-i.result.now).name) between)

pub returns : goal.returns
returns c =
    let keys = key_columns c.args.schema.now in
    let count = key_count c.args.schema.now c.key-count.ensures.good in
    let same : length c.key-count.result.now ≡ length c.args.schema.now.key = ap length c.key-count.ensures.key in
    let past : length keys ≤ c.loop-i.i = omega (arith, c.loop-i-test.false) in
    let none : drop c.loop-i.i keys ≡ [] = drop_all c.loop-i.i keys past in
    sym (append-nil c.loop-i.out.items) ∙ ap (λ cs. c.loop-i.out.items ++ flat_map (λ (d : Column). 44 ∷ 32 ∷ d.name) cs) (sym none) ∙ c.loop-i.invariant
