-- Rows that are put behind others, step by step.
use Rattle.std.proofs.Common.{◌≡◌, ℕ, zero, suc, ◌<◌, ◌≤◌, List, [], ◌∷◌, ◌++◌, length, take, drop, get_or, map, Option, Some, None, refl, sym, ap, ◌∙◌, subst, append_assoc, append-nil, Less, Equal, Greater}
use Rattle.std.specs.List.{slice_get}
use Rattle.std.specs.Borrow.{Bor}
use Rattle.std.specs.Map.{keys_of}
use Rattle.std.proofs.lemmas.List.{map-append, drop_all}
use Rattle.std.proofs.lemmas.Map.Keys.{sorted_tail}
use Rattle.std.proofs.Math.Seq.{drop-cons}
use Rattle.key_map.specs.Slots.{by_bytes}
use Rattle.row_pages.specs.Laying.{rows_over}
use Rattle.key_map.specs.Merging.{Rows, Above, ChangeFirst, ChangeHere, RowFirst, InOrder, keyed, merged}
use Rattle.key_map.specs.Overlay.{change_of, said}
use Rattle.table_map.specs.Keyed.{keyed_rows}
use Rattle.table_map.specs.Passing.{Passes, listed, order_to, row_said}
use Rattle.table_map.specs.Table.{without_keys}
use Rattle.table_map.specs.Walk.{TakesEntry}
use Rattle.table_map.proofs.Found.{behind_order, keyed_append}
use Rattle.table_map.proofs.Going.{all_above, mirrored}

without_append : (a b : Rows) → without_keys (a ++ b) ≡ without_keys a ++ without_keys b
without_append a b = map-append (λ (e : List ℕ × List ℕ). e.1) a b

without_keyed : (key : List ℕ) (o : Option (List ℕ)) → without_keys (keyed key o) ≡ listed o
without_keyed key None = refl
without_keyed key (Some row) = refl

-- what a change gives is put behind others
pub put_first : (old : List (List ℕ)) (key : List ℕ) (o : Option (List ℕ)) (more : Rows) → old ++ without_keys (keyed key o ++ more) ≡ (old ++ listed o) ++ without_keys more
put_first old key o more =
    ap (λ (l : List (List ℕ)). old ++ l) (without_append (keyed key o) more ∙ ap (λ (l : List (List ℕ)). l ++ without_keys more) (without_keyed key o))
    ∙ sym (append_assoc old (listed o) (without_keys more))

module _ (key_of : List ℕ → List ℕ) where
  -- ---- one row

  pub above_row : (row : List ℕ) (changes : Rows) → order_to (key_of row) changes ≡ Greater → InOrder (map change_of changes) → Above (key_of row) (map change_of changes)
  above_row row [] is up = tt
  above_row row (e ∷ es) is up = all_above (key_of row) e.0 (said e.1) (map change_of es) (mirrored e.0 (key_of row) is) up

  pub row_passes : RowFirst → (row : List ℕ) (changes : Rows) (old new : List (List ℕ)) → order_to (key_of row) changes ≡ Greater → new ≡ old ++ row ∷ [] → Passes key_of (row ∷ []) changes changes old new
  row_passes law row changes old new is put =
      record {
        same = λ rest up rising.
            ap (λ (l : Rows). old ++ without_keys l) (law (key_of row, row) rest (map change_of changes) (above_row row changes is rising))
            ∙ sym (append_assoc old (row ∷ []) (without_keys (merged rest (map change_of changes))))
            ∙ ap (λ (l : List (List ℕ)). l ++ without_keys (merged rest (map change_of changes))) (sym put);
        rising = λ up. up;
      }

  no_order : (row : List ℕ) (changes : Rows) → changes ≡ [] → (order_to (key_of row) changes ≡ Equal → ⊥) × (order_to (key_of row) changes ≡ Less → ⊥)
  no_order row [] is = (λ e. absurd cc, λ e. absurd cc)
  no_order row (e ∷ es) is = absurd cc

  here_step : ChangeHere → (row : List ℕ) (e : List ℕ × List ℕ) (es : Rows) (old new : List (List ℕ)) → by_bytes e.0 (key_of row) ≡ Equal → new ≡ old ++ listed (said e.1) → Passes key_of (row ∷ []) (e ∷ es) es old new
  here_step law row e es old new is put =
      record {
        same = λ rest up rising.
            ap (λ (l : Rows). old ++ without_keys l) (law (key_of row, row) rest (change_of e) (map change_of es) is rising)
            ∙ put_first old e.0 (said e.1) (merged rest (map change_of es))
            ∙ ap (λ (l : List (List ℕ)). l ++ without_keys (merged rest (map change_of es))) (sym put);
        rising = λ up. sorted_tail by_bytes e.0 (keys_of (map change_of es)) up;
      }

  pub here_passes : ChangeHere → (row : List ℕ) (changes more : Rows) (entry : Option (Bor (List ℕ) × Bor (List ℕ))) (old new : List (List ℕ)) → TakesEntry changes entry more → order_to (key_of row) changes ≡ Equal → new ≡ old ++ row_said entry
      → Passes key_of (row ∷ []) changes more old new
  here_passes law row changes more None old new takes is put = absurd ((no_order row changes takes.0).0 is)
  here_passes law row changes more (Some e) old new takes is put =
      subst (λ (l : Rows). Passes key_of (row ∷ []) l more old new) (sym takes)
      (here_step law row (e.0.now, e.1.now) more old new (ap (order_to (key_of row)) (sym takes) ∙ is) put)

  before_step : ChangeFirst → (row : List ℕ) (e : List ℕ × List ℕ) (es last : Rows) (old new end : List (List ℕ)) → by_bytes e.0 (key_of row) ≡ Less → new ≡ old ++ listed (said e.1) → Passes key_of (row ∷ []) es last new end
      → Passes key_of (row ∷ []) (e ∷ es) last old end
  before_step law row e es last old new end is put more =
      record {
        same = λ rest up rising.
            let rows : Rows = (key_of row, row) ∷ rest in
            ap (λ (l : Rows). old ++ without_keys l) (law rows (change_of e) (map change_of es) (all_above e.0 (key_of row) row rest is up) rising)
            ∙ put_first old e.0 (said e.1) (merged rows (map change_of es))
            ∙ ap (λ (l : List (List ℕ)). l ++ without_keys (merged rows (map change_of es))) (sym put)
            ∙ more.same rest up (sorted_tail by_bytes e.0 (keys_of (map change_of es)) rising);
        rising = λ up. more.rising (sorted_tail by_bytes e.0 (keys_of (map change_of es)) up);
      }

  pub before_passes : ChangeFirst → (row : List ℕ) (changes more last : Rows) (entry : Option (Bor (List ℕ) × Bor (List ℕ))) (old new end : List (List ℕ)) → TakesEntry changes entry more → order_to (key_of row) changes ≡ Less → new ≡ old ++ row_said entry
      → Passes key_of (row ∷ []) more last new end → Passes key_of (row ∷ []) changes last old end
  before_passes law row changes more last None old new end takes is put next = absurd ((no_order row changes takes.0).1 is)
  before_passes law row changes more last (Some e) old new end takes is put next =
      subst (λ (l : Rows). Passes key_of (row ∷ []) l last old end) (sym takes)
      (before_step law row (e.0.now, e.1.now) more last old new end (ap (order_to (key_of row)) (sym takes) ∙ is) put next)

  -- ---- rows behind one another

  pub none_passes : (changes : Rows) (old : List (List ℕ)) → Passes key_of [] changes changes old old
  none_passes changes old = record { same = λ rest up rising. refl; rising = λ up. up }

  pub both_pass : (a b : List (List ℕ)) (changes mid last : Rows) (old new end : List (List ℕ)) → Passes key_of a changes mid old new → Passes key_of b mid last new end → Passes key_of (a ++ b) changes last old end
  both_pass a b changes mid last old new end first second =
      record {
        same = λ rest up rising.
            let joined : keyed_rows key_of (a ++ b) ++ rest ≡ keyed_rows key_of a ++ (keyed_rows key_of b ++ rest) =
            ap (λ (l : Rows). l ++ rest) (keyed_append key_of [] a b) ∙ append_assoc (keyed_rows key_of a) (keyed_rows key_of b) rest in
            let order = subst (λ (l : Rows). InOrder l) joined up in
            ap (λ (l : Rows). old ++ without_keys (merged l (map change_of changes))) joined
            ∙ first.same (keyed_rows key_of b ++ rest) order rising
            ∙ second.same rest (behind_order (keyed_rows key_of a) (keyed_rows key_of b ++ rest) order) (first.rising rising);
        rising = λ up. second.rising (first.rising up);
      }

  take_next : (rows : List (List ℕ)) (i : ℕ) (row : List ℕ) → slice_get rows i ≡ Some row → take (suc i) rows ≡ take i rows ++ row ∷ []
  take_next [] i row is = absurd cc
  take_next (r ∷ rows) zero row is = let same : r ≡ row = cc in ap (λ (x : List ℕ). x ∷ []) same
  take_next (r ∷ rows) (suc i) row is = ap (λ (l : List (List ℕ)). r ∷ l) (take_next rows i row is)

  pub next_passes : (rows : List (List ℕ)) (i n : ℕ) (row : List ℕ) (changes mid last : Rows) (old new end : List (List ℕ)) → slice_get rows i ≡ Some row → n ≡ suc i → Passes key_of (take i rows) changes mid old new → Passes key_of (row ∷ []) mid last new end
      → Passes key_of (take n rows) changes last old end
  next_passes rows i n row changes mid last old new end is next first second =
      subst (λ (l : List (List ℕ)). Passes key_of l changes last old end) (sym (ap (λ k. take k rows) next ∙ take_next rows i row is))
      (both_pass (take i rows) (row ∷ []) changes mid last old new end first second)

  -- ---- pages behind one another

  -- these were put there, and with what the pages and changes that are left give they are all
  pub record IsPassed (left : List (List (List ℕ))) (changes : Rows) (given all : List (List ℕ)) : Type 0 where
    pub order : InOrder (keyed_rows key_of (rows_over left))
    pub rising : InOrder (map change_of changes)
    pub same : all ≡ given ++ without_keys (merged (keyed_rows key_of (rows_over left)) (map change_of changes))

  pub page_passed : (pages : List (List (List ℕ))) (i n : ℕ) (changes more : Rows) (given new all : List (List ℕ)) → i < length pages → n ≡ suc i → IsPassed (drop i pages) changes given all → Passes key_of (get_or pages i []) changes more given new
      → IsPassed (drop n pages) more new all
  page_passed pages i n changes more given new all low next held passes =
      let page = get_or pages i [] in
      let rest = drop (suc i) pages in
      let joined : keyed_rows key_of (rows_over (drop i pages)) ≡ keyed_rows key_of page ++ keyed_rows key_of (rows_over rest) =
      ap (λ (l : List (List (List ℕ))). keyed_rows key_of (rows_over l)) (drop-cons pages i [] low) ∙ keyed_append key_of [] page (rows_over rest) in
      let order = subst (λ (l : Rows). InOrder l) joined held.order in
      subst (λ k. IsPassed (drop k pages) more new all) (sym next)
      (record {
        order = behind_order (keyed_rows key_of page) (keyed_rows key_of (rows_over rest)) order;
        rising = passes.rising held.rising;
        same =
            held.same
            ∙ ap (λ (l : Rows). given ++ without_keys (merged l (map change_of changes))) joined
            ∙ passes.same (keyed_rows key_of (rows_over rest)) order held.rising;
      })

  pub all_passed : (pages : List (List (List ℕ))) (i : ℕ) (changes : Rows) (given end all : List (List ℕ)) → length pages ≤ i → IsPassed (drop i pages) changes given all → (InOrder (map change_of changes) → end ≡ given ++ without_keys (merged [] (map change_of changes))) → end ≡ all
  all_passed pages i changes given end all past held last =
      last held.rising
      ∙ ap (λ (l : List (List (List ℕ))). given ++ without_keys (merged (keyed_rows key_of (rows_over l)) (map change_of changes))) (sym (drop_all i pages past))
      ∙ sym held.same

-- ---- the changes that are left

-- what is put behind others where no row is left
abbrev pub PutsRest : Rows → List (List ℕ) → List (List ℕ) → Type 0
PutsRest changes old new = InOrder (map change_of changes) → new ≡ old ++ without_keys (merged [] (map change_of changes))

pub none_rest : (changes : Rows) (old : List (List ℕ)) → changes ≡ [] → PutsRest changes old old
none_rest [] old is = λ up. sym (append-nil old)
none_rest (e ∷ es) old is = absurd cc

pub one_rest : ChangeFirst → (changes more : Rows) (e : Bor (List ℕ) × Bor (List ℕ)) (old mid new : List (List ℕ)) → changes ≡ (e.0.now, e.1.now) ∷ more → mid ≡ old ++ listed (said e.1.now) → PutsRest more mid new → PutsRest changes old new
one_rest law changes more e old mid new is put rest = λ up.
    let rising = subst (λ (l : Rows). InOrder (map change_of l)) is up in
    rest (sorted_tail by_bytes e.0.now (keys_of (map change_of more)) rising)
    ∙ ap (λ (l : List (List ℕ)). l ++ without_keys (merged [] (map change_of more))) put
    ∙ sym (put_first old e.0.now (said e.1.now) (merged [] (map change_of more)))
    ∙ ap (λ (l : Rows). old ++ without_keys l) (sym (law [] (e.0.now, said e.1.now) (map change_of more) tt rising))
    ∙ ap (λ (l : Rows). old ++ without_keys (merged [] (map change_of l))) (sym is)
