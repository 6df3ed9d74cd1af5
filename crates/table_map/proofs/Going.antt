-- What is left of a table's rows, step by step.
use Rattle.std.proofs.Common.{◌≡◌, inl, inr, ℕ, suc, List, [], ◌∷◌, ◌++◌, Option, Some, None, length, map, refl, sym, ap, ◌∙◌, subst, arith, Less, Equal, Greater, Ordering}
use Rattle.std.specs.Borrow.{Bor}
use Rattle.std.specs.Map.{keys_of}
use Rattle.std.specs.Ordering.{match_ordering, ordering_reverse}
use Rattle.std.specs.Cmp.Lexicographic.{nat_list_cmp_total}
use Rattle.std.proofs.lemmas.Map.Keys.{sorted_head, sorted_tail}
use Rattle.key_map.specs.Slots.{by_bytes}
use Rattle.row_pages.specs.Laying.{rows_over}
use Rattle.key_map.specs.Merging.{Rows, Above, ChangeFirst, ChangeHere, RowFirst, InOrder, keyed, merged}
use Rattle.key_map.specs.Overlay.{change_of, said}
use Rattle.key_map.proofs.Merged.{weaker}
use Rattle.table_map.specs.Keyed.{keyed_rows}
use Rattle.table_map.specs.Stored.{AreAt}
use Rattle.table_map.specs.Walk.{PagesLeft, IsLoaded, ReadsPage, Loads, GivesRow, TakesEntry}
use Rattle.table_map.specs.Cursor.{IsLeft, GoesOn, GoesOnAt, GoesOnWith, Steps, SaysStep, smaller_of}
use Rattle.table_map.specs.declared.cursor.Place.TheVariants as place
use Rattle.table_map.specs.declared.cursor.RowCursor.{RowCursor}
use Rattle.table_map.specs.declared.cursor.Smaller.TheVariants as smaller
use Rattle.table_map.specs.declared.cursor.Step.{Step}
use Rattle.table_map.specs.declared.cursor.Step.TheVariants as step

-- ---- whose key is smaller

is_less : (o : Ordering) → match_ordering o smaller.Change smaller.Both smaller.Row ≡ smaller.Change → o ≡ Less
is_less Less e = refl
is_less Equal e = absurd cc
is_less Greater e = absurd cc

is_equal : (o : Ordering) → match_ordering o smaller.Change smaller.Both smaller.Row ≡ smaller.Both → o ≡ Equal
is_equal Less e = absurd cc
is_equal Equal e = refl
is_equal Greater e = absurd cc

is_greater : (o : Ordering) → match_ordering o smaller.Change smaller.Both smaller.Row ≡ smaller.Row → o ≡ Greater
is_greater Less e = absurd cc
is_greater Equal e = absurd cc
is_greater Greater e = refl

pub all_above : {X : Type 0} (k key : List ℕ) (x : X) (rest : List (List ℕ × X)) → by_bytes k key ≡ Less → InOrder ((key, x) ∷ rest) → Above k ((key, x) ∷ rest)
all_above k key x rest less up = (less, weaker (λ y. by_bytes key y ≡ Less) (λ y. by_bytes k y ≡ Less) (keys_of rest) (λ y lt. nat_list_cmp_total.trans k key y less lt) (sorted_head by_bytes key (keys_of rest) up))

pub mirrored : (a b : List ℕ) → by_bytes a b ≡ Greater → by_bytes b a ≡ Less
mirrored a b greater = nat_list_cmp_total.antisymm b a ∙ ap ordering_reverse greater

module _ (key_of : List ℕ → List ℕ) (file : List ℕ) where
  abbrev cursor : ℕ → ℕ → List (List ℕ) → Option (List ℕ) → Rows → RowCursor
  cursor at n rows last entries = record { base = record { at = at; pages = n; rows = rows; last = last }; changes = entries }

  row_above : (row : List ℕ) (rows : List (List ℕ)) (entries : Rows) → smaller_of key_of (row ∷ rows) entries ≡ smaller.Row → InOrder (map change_of entries) → Above (key_of row) (map change_of entries)
  row_above row rows [] is up = tt
  row_above row rows (e ∷ es) is up = all_above (key_of row) e.0 (said e.1) (map change_of es) (mirrored e.0 (key_of row) (is_greater (by_bytes e.0 (key_of row)) is)) up

  change_above : (e : List ℕ × List ℕ) (es : Rows) (rows : List (List ℕ)) (pages : List (List (List ℕ))) → smaller_of key_of rows (e ∷ es) ≡ smaller.Change → (rows ≡ [] → length pages ≡ 0) → InOrder (keyed_rows key_of (rows ++ rows_over pages)) → Above e.0 (keyed_rows key_of (rows ++ rows_over pages))
  change_above e es [] [] is settled up = tt
  change_above e es [] (page ∷ pages) is settled up = let none : suc (length pages) ≡ 0 = settled refl in absurd (omega (arith, none))
  change_above e es (row ∷ rows) pages is settled up = all_above e.0 (key_of row) row (keyed_rows key_of (rows ++ rows_over pages)) (is_less (by_bytes e.0 (key_of row)) is) up

  -- ---- a row of the pages

  row_goes : RowFirst → (at n : ℕ) (row : List ℕ) (rows : List (List ℕ)) (last now : Option (List ℕ)) (entries left : Rows) → smaller_of key_of (row ∷ rows) entries ≡ smaller.Row → IsLeft key_of file (cursor at n (row ∷ rows) last entries) left
      → GoesOn key_of file left row (cursor at n rows now entries)
  row_goes law at n row rows last now entries left is held =
      let rest = keyed_rows key_of (rows ++ rows_over held.pages) in
      record {
        key = key_of row;
        more = merged rest (map change_of entries);
        same = held.same ∙ law (key_of row, row) rest (map change_of entries) (row_above row rows entries is held.rising);
        is = record { pages = held.pages; stand = held.stand; many = held.many; order = sorted_tail by_bytes (key_of row) (keys_of rest) held.order; rising = held.rising; same = refl };
      }

  no_row : (entries : Rows) → smaller_of key_of [] entries ≡ smaller.Row → ⊥
  no_row [] is = absurd cc
  no_row (e ∷ es) is = absurd cc

  -- what holds of a cursor of these parts holds of one that has them
  with_base : (P : RowCursor → Type 0) (at n : ℕ) (rows : List (List ℕ)) (entries : Rows) (new : PagesLeft) → new.at ≡ at → new.pages ≡ n → new.rows ≡ rows → P (cursor at n rows new.last entries) → P (record { base = new; changes = entries })
  with_base P at n rows entries new same_at same_pages same_rows is =
      subst (λ a. P (cursor a new.pages new.rows new.last entries)) (sym same_at)
      (subst (λ m. P (cursor at m new.rows new.last entries)) (sym same_pages)
      (subst (λ (l : List (List ℕ)). P (cursor at n l new.last entries)) (sym same_rows) is))

  row_given : RowFirst → (at n : ℕ) (rows : List (List ℕ)) (last : Option (List ℕ)) (entries left : Rows) → smaller_of key_of rows entries ≡ smaller.Row → IsLeft key_of file (cursor at n rows last entries) left
      → (new : PagesLeft) → GivesRow rows new → new.at ≡ at → new.pages ≡ n → GoesOnAt key_of file left place.Page (record { base = new; changes = entries })
  row_given law at n [] last entries left is held new gives same_at same_pages = absurd (no_row entries is)
  row_given law at n (row ∷ rows) last entries left is held new gives same_at same_pages =
      subst (λ (o : Option (List ℕ)). GoesOnWith key_of file left o (record { base = new; changes = entries })) (sym gives.1)
      (with_base (λ (c : RowCursor). GoesOn key_of file left row c) at n rows entries new same_at same_pages gives.0 (row_goes law at n row rows last new.last entries left is held))

  pub row_steps : RowFirst → (old : RowCursor) (left : Rows) → smaller_of key_of old.base.rows old.changes ≡ smaller.Row → IsLeft key_of file old left
      → (new : PagesLeft) → GivesRow old.base.rows new → new.at ≡ old.base.at → new.pages ≡ old.base.pages → GoesOnAt key_of file left place.Page (record { base = new; changes = old.changes })
  row_steps law old left is held new gives at pages = row_given law old.base.at old.base.pages old.base.rows old.base.last old.changes left is held new gives at pages

  -- ---- a change

  -- what a change makes of the rows that are left
  abbrev Told : Rows → Option (List ℕ) → RowCursor → Type 0
  Told left None new = IsLeft key_of file new left
  Told left (Some row) new = GoesOn key_of file left row new

  told : (at n : ℕ) (rows : List (List ℕ)) (last : Option (List ℕ)) (pages : List (List (List ℕ))) (key : List ℕ) (entries left : Rows) → AreAt file at pages → length pages ≡ n → InOrder (keyed_rows key_of (rows ++ rows_over pages)) → InOrder (map change_of entries)
      → (o : Option (List ℕ)) → left ≡ keyed key o ++ merged (keyed_rows key_of (rows ++ rows_over pages)) (map change_of entries) → Told left o (cursor at n rows last entries)
  told at n rows last pages key entries left stand many order rising None same = record { pages = pages; stand = stand; many = many; order = order; rising = rising; same = same }
  told at n rows last pages key entries left stand many order rising (Some row) same =
      record {
        key = key;
        more = merged (keyed_rows key_of (rows ++ rows_over pages)) (map change_of entries);
        same = same;
        is = record { pages = pages; stand = stand; many = many; order = order; rising = rising; same = refl };
      }

  change_goes : ChangeFirst → (at n : ℕ) (rows : List (List ℕ)) (last : Option (List ℕ)) (e : List ℕ × List ℕ) (es left : Rows) → (rows ≡ [] → n ≡ 0) → smaller_of key_of rows (e ∷ es) ≡ smaller.Change → IsLeft key_of file (cursor at n rows last (e ∷ es)) left
      → Told left (said e.1) (cursor at n rows last es)
  change_goes law at n rows last e es left settled is held =
      told at n rows last held.pages e.0 es left held.stand held.many held.order (sorted_tail by_bytes e.0 (keys_of (map change_of es)) held.rising) (said e.1)
      (held.same ∙ law (keyed_rows key_of (rows ++ rows_over held.pages)) (change_of e) (map change_of es) (change_above e es rows held.pages is (λ none. held.many ∙ settled none) held.order) held.rising)

  both_go : ChangeHere → (at n : ℕ) (row : List ℕ) (rows : List (List ℕ)) (last now : Option (List ℕ)) (e : List ℕ × List ℕ) (es left : Rows) → smaller_of key_of (row ∷ rows) (e ∷ es) ≡ smaller.Both → IsLeft key_of file (cursor at n (row ∷ rows) last (e ∷ es)) left
      → Told left (said e.1) (cursor at n rows now es)
  both_go law at n row rows last now e es left is held =
      let rest = keyed_rows key_of (rows ++ rows_over held.pages) in
      told at n rows now held.pages e.0 es left held.stand held.many (sorted_tail by_bytes (key_of row) (keys_of rest) held.order) (sorted_tail by_bytes e.0 (keys_of (map change_of es)) held.rising) (said e.1)
      (held.same ∙ law (key_of row, row) rest (change_of e) (map change_of es) (is_equal (by_bytes e.0 (key_of row)) is) held.rising)

  told_step : (left : Rows) (new : RowCursor) (e : Bor (List ℕ) × Bor (List ℕ)) → Told left (said e.1.now) new → (made : Step) → SaysStep (Some e) made → Steps key_of file left made new
  told_step left new e is step.End says = absurd says
  told_step left new e is (step.Row place.Page) says = absurd says
  told_step left new e is (step.Row (place.Change row)) says = subst (λ (o : Option (List ℕ)). Told left o new) says is
  told_step left new e is step.Skip says = subst (λ (o : Option (List ℕ)). Told left o new) says is

  no_change : (rows : List (List ℕ)) → smaller_of key_of rows [] ≡ smaller.Change → ⊥
  no_change [] is = absurd cc
  no_change (row ∷ rows) is = absurd cc

  pub change_steps : ChangeFirst → (old : RowCursor) (left : Rows) → IsLoaded old.base → smaller_of key_of old.base.rows old.changes ≡ smaller.Change → IsLeft key_of file old left
      → (entry : Option (Bor (List ℕ) × Bor (List ℕ))) (more : Rows) → TakesEntry old.changes entry more → (made : Step) → SaysStep entry made → Steps key_of file left made (record { base = old.base; changes = more })
  change_steps law old left settled is held None more takes made says = absurd (no_change old.base.rows (ap (λ (l : Rows). smaller_of key_of old.base.rows l) (sym takes.0) ∙ is))
  change_steps law old left settled is held (Some e) more takes made says =
      told_step left (record { base = old.base; changes = more }) e
      (change_goes law old.base.at old.base.pages old.base.rows old.base.last (e.0.now, e.1.now) more left settled (ap (λ (l : Rows). smaller_of key_of old.base.rows l) (sym takes) ∙ is)
      (subst (λ (l : Rows). IsLeft key_of file (record { base = old.base; changes = l }) left) takes held))
      made says

  not_both : (rows : List (List ℕ)) → smaller_of key_of rows [] ≡ smaller.Both → ⊥
  not_both [] is = absurd cc
  not_both (row ∷ rows) is = absurd cc

  no_row_too : (entries : Rows) → smaller_of key_of [] entries ≡ smaller.Both → ⊥
  no_row_too [] is = absurd cc
  no_row_too (e ∷ es) is = absurd cc

  both_given : ChangeHere → (at n : ℕ) (rows : List (List ℕ)) (last : Option (List ℕ)) (entries left : Rows) → smaller_of key_of rows entries ≡ smaller.Both → IsLeft key_of file (cursor at n rows last entries) left
      → (new : PagesLeft) → GivesRow rows new → new.at ≡ at → new.pages ≡ n → (entry : Option (Bor (List ℕ) × Bor (List ℕ))) (more : Rows) → TakesEntry entries entry more
      → (made : Step) → SaysStep entry made → Steps key_of file left made (record { base = new; changes = more })
  both_given law at n [] last entries left is held new gives same_at same_pages entry more takes made says = absurd (no_row_too entries is)
  both_given law at n (row ∷ rows) last entries left is held new gives same_at same_pages None more takes made says = absurd (not_both (row ∷ rows) (ap (λ (l : Rows). smaller_of key_of (row ∷ rows) l) (sym takes.0) ∙ is))
  both_given law at n (row ∷ rows) last entries left is held new gives same_at same_pages (Some e) more takes made says =
      told_step left (record { base = new; changes = more }) e
      (with_base (λ (c : RowCursor). Told left (said e.1.now) c) at n rows more new same_at same_pages gives.0
      (both_go law at n row rows last new.last (e.0.now, e.1.now) more left (ap (λ (l : Rows). smaller_of key_of (row ∷ rows) l) (sym takes) ∙ is)
      (subst (λ (l : Rows). IsLeft key_of file (cursor at n (row ∷ rows) last l) left) takes held)))
      made says

  pub both_steps : ChangeHere → (old : RowCursor) (left : Rows) → smaller_of key_of old.base.rows old.changes ≡ smaller.Both → IsLeft key_of file old left
      → (new : PagesLeft) → GivesRow old.base.rows new → new.at ≡ old.base.at → new.pages ≡ old.base.pages
      → (entry : Option (Bor (List ℕ) × Bor (List ℕ))) (more : Rows) → TakesEntry old.changes entry more → (made : Step) → SaysStep entry made → Steps key_of file left made (record { base = new; changes = more })
  both_steps law old left is held new gives at pages = both_given law old.base.at old.base.pages old.base.rows old.base.last old.changes left is held new gives at pages

  -- ---- a page is read

  read_left : (old : RowCursor) (left : Rows) (new : PagesLeft) (pages : List (List (List ℕ))) → ReadsPage file old.base new → AreAt file old.base.at pages → length pages ≡ old.base.pages
      → InOrder (keyed_rows key_of (old.base.rows ++ rows_over pages)) → InOrder (map change_of old.changes) → left ≡ merged (keyed_rows key_of (old.base.rows ++ rows_over pages)) (map change_of old.changes)
      → IsLeft key_of file (record { base = new; changes = old.changes }) left
  read_left old left new [] reads stand many order rising same = let none : 0 ≡ suc new.pages = many ∙ reads.pages in absurd (omega (arith, none))
  read_left old left new (page ∷ pages) reads stand many order rising same =
      let is : old.base.rows ++ (page ++ rows_over pages) ≡ new.rows ++ rows_over pages =
      ap (λ (l : List (List ℕ)). l ++ (page ++ rows_over pages)) reads.none ∙ ap (λ (l : List (List ℕ)). l ++ rows_over pages) (sym (reads.rows page stand.0)) in
      let count : suc (length pages) ≡ suc new.pages = many ∙ reads.pages in
      record {
        pages = pages;
        stand = subst (λ a. AreAt file a pages) (sym reads.at) stand.1;
        many = omega (arith, count);
        order = subst (λ (l : List (List ℕ)). InOrder (keyed_rows key_of l)) is order;
        rising = rising;
        same = same ∙ ap (λ (l : List (List ℕ)). merged (keyed_rows key_of l) (map change_of old.changes)) is;
      }

  pub settled_left : (old : RowCursor) (left : Rows) (new : PagesLeft) → Loads file old.base new → IsLeft key_of file old left → IsLeft key_of file (record { base = new; changes = old.changes }) left
  settled_left old left new (inl same) held = subst (λ (b : PagesLeft). IsLeft key_of file (record { base = b; changes = old.changes }) left) (sym same) held
  settled_left old left new (inr reads) held = read_left old left new held.pages reads held.stand held.many held.order held.rising held.same
