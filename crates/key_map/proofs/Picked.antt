-- The form of values that are picked, place by place.
use Rattle.std.proofs.Common.{◌≡◌, ℕ, suc, ◌<◌, ◌≤◌, List, [], ◌∷◌, ◌++◌, length, drop, get_or, Option, Some, None, refl, sym, ap, ◌∙◌}
use Rattle.std.specs.List.{slice_get}
use Rattle.std.proofs.Math.Seq.{drop-cons}
use Rattle.std.proofs.lemmas.List.{drop_all}
use Rattle.row_values.specs.Column.{Column}
use Rattle.row_values.specs.Value.{Value}
use Rattle.row_values.specs.Schema.{picked}
use Rattle.key_map.specs.SortForm.{values_form}
use Rattle.key_map.specs.Fronts.{form_if}
use Rattle.key_map.specs.RowForm.{values_read}

next_picked : (values : List Value) (place : ℕ) (places : List ℕ) → values_form (picked values (place ∷ places)) ≡ form_if (slice_get values place) ++ values_form (picked values places)
next_picked values place places = by (slice_get values place) refl
  where
    by : (o : Option Value) → slice_get values place ≡ o → values_form (picked values (place ∷ places)) ≡ form_if o ++ values_form (picked values places)
    by None is = rw is refl
    by (Some v) is = rw is refl

-- the form of what is left from a place of the key on
pub left_at : (columns cols : List Column) (row key items : List ℕ) (i place : ℕ) → cols ≡ columns → items ≡ key → place ≡ get_or items i 0 → i < length items
    → values_form (picked (values_read columns row) (drop i key)) ≡ form_if (slice_get (values_read cols row) place) ++ values_form (picked (values_read columns row) (drop (suc i) key))
left_at columns cols row key items i place is same at low =
    let vs = values_read columns row in
    ap (λ (k : List ℕ). values_form (picked vs (drop i k))) (sym same)
    ∙ ap (λ (l : List ℕ). values_form (picked vs l)) (drop-cons items i 0 low)
    ∙ ap (λ (p : ℕ). values_form (picked vs (p ∷ drop (suc i) items))) (sym at)
    ∙ next_picked vs place (drop (suc i) items)
    ∙ ap (λ (cs : List Column). form_if (slice_get (values_read cs row) place) ++ values_form (picked vs (drop (suc i) items))) (sym is)
    ∙ ap (λ (k : List ℕ). form_if (slice_get (values_read cols row) place) ++ values_form (picked vs (drop (suc i) k))) same

pub none_left : (columns : List Column) (row key items : List ℕ) (i : ℕ) → items ≡ key → length items ≤ i → (rest : List ℕ) → rest ≡ values_form (picked (values_read columns row) (drop i key)) ++ rest
none_left columns row key items i same past rest =
    let gone : drop i key ≡ [] = ap (drop i) (sym same) ∙ drop_all i items past in
    sym (ap (λ (l : List ℕ). values_form (picked (values_read columns row) l) ++ rest) gone)
