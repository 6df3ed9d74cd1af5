use Rattle.std.proofs.Common.{◌≡◌, ◌<◌, ◌+◌, ◌++◌, List, ℕ, length, map, subst, sym, nat_le, true}
use Rattle.std.specs.List.{list_all}
use Rattle.std.specs.Prelude.{OnErr, OnOk, vec_capacity, vec_len}
use Rattle.row_values.specs.Column.{Column, column_of}
use Rattle.sqlam_replies.proofs.Picks.{same_sqldard, schema_names, selected_described}
use Rattle.sqlam_replies.proofs.selected.selected_sqldard.Goals as goal

pub push_description-pushed-requires-clause-names : goal.push_description-pushed-requires-clause-names
push_description-pushed-requires-clause-names c = subst (λ (l : List Column). list_all (λ (x : Column). nat_le (length x.name) 30) l ≡ true) (sym c.columns.ensures.columns) (schema_names c.args.schema.now c.columns.ensures.good)

pub returns-then-is_err-clause-few : goal.returns-then-is_err-clause-few
returns-then-is_err-clause-few c = selected_described c.args.schema.now c.args.selected.now c.columns.ensures.good c.requires

pub returns-else-is_err-clause-few : goal.returns-else-is_err-clause-few
returns-else-is_err-clause-few c = selected_described c.args.schema.now c.args.selected.now c.columns.ensures.good c.requires

pub returns-then-is_err-clause-full : goal.returns-then-is_err-clause-full
returns-then-is_err-clause-full c =
    subst (λ (text : List ℕ). OnErr c.push_description-pushed.result (vec_capacity c.args.out.now < vec_len c.args.out.now + length text))
    (same_sqldard c.args.unicode (map column_of c.columns.result.now) c.args.schema.now c.args.selected.now c.columns.ensures.columns c.requires)
    c.push_description-pushed.ensures.full

pub returns-else-is_err-clause-ok : goal.returns-else-is_err-clause-ok
returns-else-is_err-clause-ok c =
    subst (λ (text : List ℕ). OnOk c.push_description-pushed.result (c.push_description-pushed.new.out.items ≡ c.args.out.now.items ++ text))
    (same_sqldard c.args.unicode (map column_of c.columns.result.now) c.args.schema.now c.args.selected.now c.columns.ensures.columns c.requires)
    c.push_description-pushed.ensures.ok
