-- What is selected are places of columns.
use Rattle.std.proofs.Common.{ℕ, List, ap, arith, length}
use Rattle.sql_predicates.proofs.Places.{all_selected, named_selected}
use Rattle.sql_predicates.proofs.selection.selected_places.Goals as goal

pub returns-in_ok-all_places-in-All-clause-good : goal.returns-in_ok-all_places-in-All-clause-good
returns-in_ok-all_places-in-All-clause-good c =
    all_selected c.args.schema.now _ _ c.columns-schema_columns.ensures.columns c.columns-schema_columns.ensures.good c.in_ok-all_places-in-All.ensures

pub returns-else-len-gt-MAX_SELECTED-clause-good : goal.returns-else-len-gt-MAX_SELECTED-clause-good
returns-else-len-gt-MAX_SELECTED-clause-good c =
    let same = ap (λ (names : List (List ℕ)). length names) c.as_slice.ensures in
    named_selected c.args.schema.now _ _ c.named_places.result c.columns-schema_columns.ensures.columns (omega arith) c.named_places.ensures
