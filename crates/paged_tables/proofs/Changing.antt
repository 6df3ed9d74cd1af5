-- What one change more makes of a table's rows.
use Rattle.std.proofs.Common.{◌≡◌, ℕ, List, [], ◌∷◌, ◌++◌, refl, sym, ap, subst, ◌∙◌, append-nil, cond, Some, None, Ordering, Less, Equal, Greater}
use Rattle.std.specs.Prelude.{Option}
use Rattle.std.specs.Ordering.{is_eq, match_ordering}
use Rattle.std.specs.List.{AllByRecursion}
use Rattle.std.specs.Map.{keys_of, remove_entry}
use Rattle.std.specs.BTreeMap.{insert_entry}
use Rattle.std.proofs.lemmas.Map.Keys.{sorted_head, sorted_tail}
use Rattle.std.proofs.lemmas.Map.Lookups.{exact_bytes}
use Rattle.std.proofs.lemmas.Cmp.{nat_list_cmp_total}
use Rattle.key_map.specs.Merging.{InOrder, Rows, changed, keyed, merged}
use Rattle.key_map.specs.Overlay.{changes_of}
use Rattle.key_map.specs.Slots.{by_bytes, by_key}
use Rattle.key_map.proofs.Merged.{merged_order}
use Rattle.row_pages.specs.Laying.{rows_over}
use Rattle.table_map.specs.Keyed.{keyed_rows}
use Rattle.table_map.specs.Table.{Table, rows_of_table}

abbrev Entry : Type 0
Entry = List ℕ × List ℕ

put_step : (form row : List ℕ) (e : Entry) (es more rest : Rows) (o : Ordering) → by_bytes form e.0 ≡ o → more ≡ rest
    → match_ordering o (keyed form (Some row) ++ (e ∷ es)) (keyed form (Some row) ++ es) (e ∷ more) ≡ match_ordering o ((form, row) ∷ e ∷ es) ((e.0, row) ∷ es) (e ∷ rest)
put_step form row e es more rest Less is h = refl
put_step form row e es more rest Equal is h = ap (λ (k : List ℕ). (k, row) ∷ es) (exact_bytes form e.0 is)
put_step form row e es more rest Greater is h = ap (λ l. e ∷ l) h

-- a row that is put stands at its form
pub put_change : (form row : List ℕ) (rows : Rows) → changed rows form (Some row) ≡ insert_entry by_bytes rows form row
put_change form row [] = refl
put_change form row (e ∷ es) = put_step form row e es (changed es form (Some row)) (insert_entry by_bytes es form row) (by_bytes form e.0) refl (put_change form row es)

-- no row behind the form has it
above : (form : List ℕ) (rows : Rows) → AllByRecursion (λ k. by_bytes form k ≡ Less) (keys_of rows) → remove_entry (by_key form) rows ≡ rows
above form [] up = refl
above form (e ∷ es) up = ap (λ o. cond (is_eq o) es (e ∷ remove_entry (by_key form) es)) up.0 ∙ ap (λ l. e ∷ l) (above form es up.1)

trans_above : (form key : List ℕ) (rows : Rows) → by_bytes form key ≡ Less → AllByRecursion (λ k. by_bytes key k ≡ Less) (keys_of rows) → AllByRecursion (λ k. by_bytes form k ≡ Less) (keys_of rows)
trans_above form key [] lt up = tt
trans_above form key (e ∷ es) lt up = (nat_list_cmp_total.trans form key e.0 lt up.0, trans_above form key es lt up.1)

take_step : (form : List ℕ) (e : Entry) (es more : Rows) (o : Ordering) → by_bytes form e.0 ≡ o → (o ≡ Less → remove_entry (by_key form) es ≡ es) → more ≡ remove_entry (by_key form) es
    → match_ordering o (keyed form None ++ (e ∷ es)) (keyed form None ++ es) (e ∷ more) ≡ cond (is_eq o) es (e ∷ remove_entry (by_key form) es)
take_step form e es more Less is none h = ap (λ l. e ∷ l) (sym (none refl))
take_step form e es more Equal is none h = refl
take_step form e es more Greater is none h = ap (λ l. e ∷ l) h

-- a row that is taken out
pub take_change : (form : List ℕ) (rows : Rows) → InOrder rows → changed rows form None ≡ remove_entry (by_key form) rows
take_change form [] up = refl
take_change form (e ∷ es) up =
    take_step form e es (changed es form None) (by_bytes form e.0) refl (λ lt. above form es (trans_above form e.0 es lt (sorted_head by_bytes e.0 (keys_of es) up)))
    (take_change form es (sorted_tail by_bytes e.0 (keys_of es) up))

-- ---- the rows of a table whose pages have these

module _ (k : List ℕ → List ℕ) (base : List (List ℕ)) where
  abbrev pub with_changes : Table → Rows
  with_changes t = merged (keyed_rows k base) (changes_of t.overlay)

  one_page : keyed_rows k (rows_over (base ∷ [])) ≡ keyed_rows k base
  one_page = ap (keyed_rows k) (append-nil base)

  module _ (order : InOrder (keyed_rows k base)) where
    order_there : InOrder (keyed_rows k (rows_over (base ∷ [])))
    order_there = subst (λ (r : Rows). InOrder r) (sym one_page) order

    changed_there : (old new : Table) (form : List ℕ) (r : Option (List ℕ))
        → ((key_of : List ℕ → List ℕ) (pages : List (List (List ℕ))) → InOrder (keyed_rows key_of (rows_over pages)) → rows_of_table key_of new pages ≡ changed (rows_of_table key_of old pages) form r)
        → with_changes new ≡ changed (with_changes old) form r
    changed_there old new form r said =
        ap (λ (l : Rows). merged l (changes_of new.overlay)) (sym one_page) ∙ said k (base ∷ []) order_there ∙ ap (λ (l : Rows). changed (merged l (changes_of old.overlay)) form r) one_page

    pub rising : (t : Table) → InOrder (with_changes t)
    rising t = merged_order (keyed_rows k base) (changes_of t.overlay) order

    pub put_there : (old new : Table) (form row : List ℕ)
        → ((key_of : List ℕ → List ℕ) (pages : List (List (List ℕ))) → InOrder (keyed_rows key_of (rows_over pages)) → rows_of_table key_of new pages ≡ changed (rows_of_table key_of old pages) form (Some row))
        → with_changes new ≡ insert_entry by_bytes (with_changes old) form row
    put_there old new form row said = changed_there old new form (Some row) said ∙ put_change form row (with_changes old)

    pub taken_there : (old new : Table) (form : List ℕ)
        → ((key_of : List ℕ → List ℕ) (pages : List (List (List ℕ))) → InOrder (keyed_rows key_of (rows_over pages)) → rows_of_table key_of new pages ≡ changed (rows_of_table key_of old pages) form None)
        → with_changes new ≡ remove_entry (by_key form) (with_changes old)
    taken_there old new form said = changed_there old new form None said ∙ take_change form (with_changes old) (rising old)
