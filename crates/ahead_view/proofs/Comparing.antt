-- The key of a row and bytes that may be it are compared by their values, where these lie.
use Rattle.std.proofs.Common.{◌≡◌, ℕ, ◌+◌, ◌<◌, ◌≤◌, List, [], ◌∷◌, Bool, true, false, refl, sym, ap, ◌∙◌, length, drop, get_or, arith, Some, Ordering, Less, Equal, Greater}
use Rattle.std.specs.Prelude.{bytes_eq}
use Rattle.std.specs.List.{slice_get}
use Rattle.std.specs.Ordering.{is_ne, ordering_then}
use Rattle.std.specs.Cmp.Lexicographic.{slice_cmp}
use Rattle.std.proofs.lemmas.Cmp.{lists_total, tied_itself}
use Rattle.std.proofs.lemmas.List.{drop_more}
use Rattle.std.proofs.lemmas.Option.{slice_get_within}
use Rattle.std.proofs.lemmas.Slice.Eq.{bytes_eq-Decides}
use Rattle.drda_words.specs.Bytes.{AreBytes}
use Rattle.row_values.specs.Value.{Value, null, value_cmp}
use Rattle.row_values.specs.Schema.{Schema, is_schema, key_columns}
use Rattle.row_values.specs.Row.{row_bytes, values_in}
use Rattle.row_values.specs.Key.{is_key, key_values, row_key}
use Rattle.row_values.proofs.ValueLaws.{values_at-is}
use Rattle.row_values.proofs.ReadSteps.{values_count}
use Rattle.row_values.proofs.Keys.{key_count}
use Rattle.row_values.proofs.RowKeys.{row_key_good}
use Rattle.row_values.proofs.KeyOrder.{OrderedFrom, key_read, value_cmp_total, values_exact}
use Rattle.row_pages.proofs.Comparing.{Fits, keyed, keyed_at, keyed_count, keyed_is, order_at, tie_at_end}

-- ---- a row, and bytes that may be its key

unless : (b : Bool) → (b ≡ true → ⊥) → false ≡ b
unless true never = absurd (never refl)
unless false never = refl

differ : (o p : Ordering) → is_ne o ≡ true → ordering_then o p ≡ Equal → ⊥
differ Less p ne tie = absurd cc
differ Equal p ne tie = absurd cc
differ Greater p ne tie = absurd cc

ties : (o : Ordering) → is_ne o ≡ false → o ≡ Equal
ties Less is = absurd cc
ties Equal is = refl
ties Greater is = absurd cc

pub no_key : (schema : Schema) (row key : List ℕ) → is_schema schema ≡ true → Fits schema row → is_key schema key ≡ false → false ≡ bytes_eq key (row_key schema row)
no_key schema row key good fit none =
    unless (bytes_eq key (row_key schema row))
    (λ same. let is : is_key schema key ≡ true = ap (is_key schema) ((bytes_eq-Decides key (row_key schema row)).0 same) ∙ row_key_good schema row good fit in absurd cc)

module _ (schema : Schema) (row key : List ℕ) (good : is_schema schema ≡ true) (fit : Fits schema row) (is : is_key schema key ≡ true) where
  values_count_is : length (key_values schema key) ≡ length schema.key
  values_count_is = values_count (key_columns schema) key (key_values schema key) (key_read schema key is) ∙ key_count schema good

  -- the key has a value for each place
  pub more_to_come : (i : ℕ) (left : List Value) → i < length schema.key → left ≡ drop i (key_values schema key) → left ≡ [] → ⊥
  more_to_come i left lt to_come none =
      let count = values_count_is in let more = drop_more (key_values schema key) i null (omega arith) in absurd cc

  next_is : (i : ℕ) (left : List Value) (y : Value) (rest : List Value) → i < length schema.key → left ≡ drop i (key_values schema key) → left ≡ y ∷ rest → (y ≡ get_or (key_values schema key) i null) × (rest ≡ drop (i + 1) (key_values schema key))
  next_is i left y rest lt to_come next =
      let count = values_count_is in let more = drop_more (key_values schema key) i null (omega arith) in
      let all : y ∷ rest ≡ get_or (key_values schema key) i null ∷ drop (i + 1) (key_values schema key) = sym next ∙ to_come ∙ more in (cc, cc)

  -- the values at a place, and those behind it
  pub one_at : (i place : ℕ) (left : List Value) (x y : Value) (rest : List Value) (o : Ordering) → slice_get schema.key i ≡ Some place → slice_get (values_in schema row) place ≡ Some x → left ≡ drop i (key_values schema key) → left ≡ y ∷ rest
      → value_cmp x y ≡ o → OrderedFrom (keyed schema row) (key_values schema key) i
      → (rest ≡ drop (i + 1) (key_values schema key)) × (ordering_then o (slice_cmp value_cmp (drop (i + 1) (keyed schema row)) (drop (i + 1) (key_values schema key))) ≡ slice_cmp value_cmp (keyed schema row) (key_values schema key))
  one_at i place left x y rest o at in_row to_come next so order =
      let n = next_is i left y rest (slice_get_within schema.key i place at) to_come next in (
        n.1,
        order_at (keyed schema row) (key_values schema key) i x y o (keyed_at schema row good fit i place x at in_row) (sym to_come ∙ next ∙ ap (λ (l : List Value). y ∷ l) n.1) so order,
      )

  -- a value differs
  pub another_key : (i place : ℕ) (left : List Value) (x y : Value) (rest : List Value) → slice_get schema.key i ≡ Some place → slice_get (values_in schema row) place ≡ Some x → left ≡ drop i (key_values schema key) → left ≡ y ∷ rest
      → is_ne (value_cmp x y) ≡ true → OrderedFrom (keyed schema row) (key_values schema key) i → false ≡ bytes_eq key (row_key schema row)
  another_key i place left x y rest at in_row to_come next ne order =
      let one = one_at i place left x y rest (value_cmp x y) at in_row to_come next refl order in
      unless (bytes_eq key (row_key schema row))
      (λ same. let values : key_values schema key ≡ keyed schema row = ap (key_values schema) ((bytes_eq-Decides key (row_key schema row)).0 same) ∙ keyed_is schema row good fit in
      differ (value_cmp x y) _ ne (one.1 ∙ ap (slice_cmp value_cmp (keyed schema row)) values ∙ tied_itself (lists_total value_cmp_total) (keyed schema row)))

  -- it does not
  pub same_so_far : (i place : ℕ) (left : List Value) (x y : Value) (rest : List Value) → slice_get schema.key i ≡ Some place → slice_get (values_in schema row) place ≡ Some x → left ≡ drop i (key_values schema key) → left ≡ y ∷ rest
      → is_ne (value_cmp x y) ≡ false → OrderedFrom (keyed schema row) (key_values schema key) i → (rest ≡ drop (i + 1) (key_values schema key)) × OrderedFrom (keyed schema row) (key_values schema key) (i + 1)
  same_so_far i place left x y rest at in_row to_come next tie order = one_at i place left x y rest Equal at in_row to_come next (ties (value_cmp x y) tie) order

  -- none does
  pub same_key : (i : ℕ) → AreBytes key → length schema.key ≤ i → OrderedFrom (keyed schema row) (key_values schema key) i → true ≡ bytes_eq key (row_key schema row)
  same_key i bytes past order =
      let count = keyed_count schema row good fit in let count_key = values_count_is in
      let values = values_exact (keyed schema row) (key_values schema key) (sym (tie_at_end (keyed schema row) (key_values schema key) i (omega arith) (omega arith) order)) in
      let written = values_at-is (key_columns schema) key (key_values schema key) bytes (key_read schema key is) in
      sym ((bytes_eq-Decides key (row_key schema row)).1 (written.1 ∙ ap (row_bytes (key_columns schema)) (sym values)))
