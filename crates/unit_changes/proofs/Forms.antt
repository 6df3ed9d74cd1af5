-- Keys and their sort forms, and the laws that are used of them.
use Rattle.std.proofs.Common.{◌≡◌, ℕ, List, [], ◌∷◌, ◌++◌, Bool, true, false, true≢false, refl, sym, ap, ◌∙◌, Ordering, Less, Equal, Greater}
use Rattle.std.specs.Prelude.{bytes_eq}
use Rattle.std.specs.Ordering.{is_eq}
use Rattle.std.specs.Cmp.{eq_by_cmp_equiv}
use Rattle.row_values.specs.Schema.{Schema}
use Rattle.row_values.specs.Key.{is_key, key_cmp}
use Rattle.row_values.specs.Laws.{KeysAreOrdered}
use Rattle.key_map.specs.SortForm.{KeysKeepOrder, sort_form}
use Rattle.key_map.specs.Slots.{by_key}
use Rattle.key_map.specs.Merging.{Changes, InOrder, MergedAt, MergedInOrder, Rows, changed}
use Rattle.unit_changes.specs.UnitTable.{IsKey, all_changed}
use Rattle.unit_changes.proofs.Storing.{Local, Tabled}
use Rattle.unit_changes.proofs.Listing.{itself, same_bytes}

pub record Laws : Type 0 where
  pub local : Local
  pub tabled : Tabled
  pub at : MergedAt
  pub order : MergedInOrder
  pub forms : KeysKeepOrder
  pub keys : KeysAreOrdered

-- ---- keys and their forms

not_tied : (schema : Schema) → ((a b : List ℕ) → key_cmp schema a b ≡ Equal → a ≡ b) → (a b : List ℕ) → bytes_eq a b ≡ false → (o : Ordering) → key_cmp schema a b ≡ o → is_eq o ≡ false
not_tied schema exact a b apart Less is = refl
not_tied schema exact a b apart Greater is = refl
not_tied schema exact a b apart Equal is = absurd (true≢false (sym (itself a) ∙ ap (bytes_eq a) (exact a b is) ∙ apart))

pub tie_test : Laws → (schema : Schema) (a b : List ℕ) (t : Bool) → bytes_eq a b ≡ t → is_eq (key_cmp schema a b) ≡ t
tie_test laws schema a b true is = ap (λ (k : List ℕ). is_eq (key_cmp schema a k)) (sym (same_bytes a b is)) ∙ (eq_by_cmp_equiv (laws.keys schema).0).refl a
tie_test laws schema a b false is = not_tied schema (laws.keys schema).1 a b is (key_cmp schema a b) refl

-- forms are the same where the keys are
pub form_test : Laws → (schema : Schema) (a b : List ℕ) → IsKey schema a → IsKey schema b → by_key (sort_form schema a) (sort_form schema b) ≡ bytes_eq a b
form_test laws schema a b key_a key_b =
    ap is_eq (laws.forms schema a b key_a.0 key_b.0 key_a.1 key_b.1) ∙ tie_test laws schema a b (bytes_eq a b) refl

pub no_key_is : (schema : Schema) (a b : List ℕ) → is_key schema a ≡ false → is_key schema b ≡ true → (t : Bool) → bytes_eq a b ≡ t → t ≡ false
no_key_is schema a b none key true is = absurd (true≢false (sym key ∙ ap (is_key schema) (sym (same_bytes a b is)) ∙ none))
no_key_is schema a b none key false is = refl

-- ---- many changes

pub changed_then : (rows : Rows) (xs ys : Changes) → all_changed rows (xs ++ ys) ≡ all_changed (all_changed rows xs) ys
changed_then rows [] ys = refl
changed_then rows (x ∷ xs) ys = changed_then (changed rows x.0 x.1) xs ys

pub changed_order : Laws → (rows : Rows) (cs : Changes) → InOrder rows → InOrder (all_changed rows cs)
changed_order laws rows [] up = up
changed_order laws rows (c ∷ cs) up = changed_order laws (changed rows c.0 c.1) cs (laws.order rows (c ∷ []) up)
