-- Halves that are whole, and halves that are not.
use Rattle.std.proofs.Common.{◌≡◌, inl, inr, ℕ, List, [], ◌∷◌, ◌++◌, refl, sym, ap, subst, ◌∙◌}
use Rattle.row_pages.specs.Parsing.{OnePage}
use Rattle.checkpoint_writer.specs.Catalogue.{Entry}
use Rattle.store_check.specs.Listed.{entries_over}
use Rattle.store_check.specs.Whole.{IsFirstBad}
use Rattle.store_check.specs.Half.{AreTables, BreaksAmong, BreaksHalf, BreaksInCatalogue, BreaksInMeaning, HalfPages, IsCatalogue, IsTable, IsWholeHalf, KeysBySchema, TableRows, entries_of, page_at, pages_over}
use Rattle.store_check.proofs.Formed.{not_without, one_without, whole_formed}
use Rattle.store_check.proofs.Listed.{listed_not_bad, listed_one_bad, one_listing}
use Rattle.store_check.proofs.Whole.{never_bad, one_bad, one_list}

abbrev head_of : Entry → List Entry → Entry
head_of d [] = d
head_of d (e ∷ es) = e

abbrev tail_of : List Entry → List Entry
tail_of [] = []
tail_of (e ∷ es) = es

same_head : (e f : Entry) (es fs : List Entry) → e ∷ es ≡ f ∷ fs → e ≡ f
same_head e f es fs same = ap (λ (l : List Entry). head_of e l) same

same_tail : (e f : Entry) (es fs : List Entry) → e ∷ es ≡ f ∷ fs → es ≡ fs
same_tail e f es fs same = ap (λ (l : List Entry). tail_of l) same

pub one_catalogue : OnePage → (file : List ℕ) (half : HalfPages) (es fs : List Entry) → IsCatalogue file half es → IsCatalogue file half fs → es ≡ fs
one_catalogue law file half es fs a b =
    sym a.2 ∙ ap (λ (pages : List (List Entry)). entries_over pages) (one_listing law file (page_at half.at half.first_catalogue) half.catalogue_pages half.first_catalogue a.0 b.0 a.1 b.1) ∙ b.2

module _ (law : OnePage) (key_of : KeysBySchema) (file : List ℕ) where
  abbrev BadAt : ℕ → Entry → ℕ → Type 0
  BadAt at e here = IsFirstBad e.schema (key_of e.schema) file (page_at at e.first_page) e.pages here

  -- a table that is whole has no first bad page
  table_not_bad : (at here : ℕ) (t : TableRows) (e : Entry) → t.entry ≡ e → IsTable key_of file at t → BadAt at e here → ⊥
  table_not_bad at here t e same whole bad =
      never_bad t.entry.schema (key_of t.entry.schema) file (page_at at t.entry.first_page) law t.entry.pages here t.pages whole (subst (λ (x : Entry). BadAt at x here) (sym same) bad)

  whole_not_bad : (at here : ℕ) (tables front : List TableRows) (e : Entry) (more : List Entry) → entries_of tables ≡ entries_of front ++ e ∷ more → AreTables key_of file at tables → BadAt at e here → ⊥
  whole_not_bad at here [] [] e more same whole bad = absurd cc
  whole_not_bad at here [] (f ∷ front) e more same whole bad = absurd cc
  whole_not_bad at here (t ∷ tables) [] e more same whole bad = table_not_bad at here t e (same_head t.entry e (entries_of tables) more same) whole.0 bad
  whole_not_bad at here (t ∷ tables) (f ∷ front) e more same whole bad = whole_not_bad at here tables front e more (same_tail t.entry f.entry (entries_of tables) (entries_of front ++ e ∷ more) same) whole.1 bad

  one_bad_table : (at here there : ℕ) (front others : List TableRows) (e f : Entry) (more rest : List Entry) → entries_of front ++ e ∷ more ≡ entries_of others ++ f ∷ rest → AreTables key_of file at front → AreTables key_of file at others → BadAt at e here → BadAt at f there → here ≡ there
  one_bad_table at here there [] [] e f more rest same whole other a b =
      one_bad e.schema (key_of e.schema) file (page_at at e.first_page) law e.pages here there a (subst (λ (x : Entry). BadAt at x there) (sym (same_head e f more rest same)) b)
  one_bad_table at here there [] (u ∷ others) e f more rest same whole other a b = absurd (table_not_bad at here u e (sym (same_head e u.entry more (entries_of others ++ f ∷ rest) same)) other.0 a)
  one_bad_table at here there (t ∷ front) [] e f more rest same whole other a b = absurd (table_not_bad at there t f (same_head t.entry f (entries_of front ++ e ∷ more) rest same) whole.0 b)
  one_bad_table at here there (t ∷ front) (u ∷ others) e f more rest same whole other a b =
      one_bad_table at here there front others e f more rest (same_tail t.entry u.entry (entries_of front ++ e ∷ more) (entries_of others ++ f ∷ rest) same) whole.1 other.1 a b

  -- ---- one first bad page at most

  one_among : (at first here there : ℕ) (es fs : List Entry) → es ≡ fs → BreaksAmong key_of file at first es here → BreaksAmong key_of file at first fs there → here ≡ there
  one_among at first here there es fs same (inl a) (inl b) = one_bad_table at here there a.front b.front a.entry b.entry a.more b.more (sym a.same ∙ same ∙ b.same) a.whole b.whole a.bad b.bad
  one_among at first here there es fs same (inl a) (inr b) = absurd (whole_not_bad at here b.tables a.front a.entry a.more (sym b.same ∙ sym same ∙ a.same) b.whole a.bad)
  one_among at first here there es fs same (inr a) (inl b) = absurd (whole_not_bad at there a.tables b.front b.entry b.more (sym a.same ∙ same ∙ b.same) a.whole b.bad)
  one_among at first here there es fs same (inr a) (inr b) = a.place ∙ ap (λ (l : List Entry). page_at at (pages_over l)) same ∙ sym b.place

  whole_among : (at first here : ℕ) (tables : List TableRows) (es : List Entry) → entries_of tables ≡ es → AreTables key_of file at tables → pages_over (entries_of tables) ≡ first → BreaksAmong key_of file at first es here → ⊥
  whole_among at first here tables es same whole behind (inl a) = whole_not_bad at here tables a.front a.entry a.more (same ∙ a.same) whole a.bad
  whole_among at first here tables es same whole behind (inr a) = a.apart (ap (λ (l : List Entry). pages_over l) (sym same) ∙ behind)

  module _ (half : HalfPages) where
    no_listing_breaks : (here : ℕ) (es : List Entry) → IsCatalogue file half es → BreaksInCatalogue file half here → ⊥
    no_listing_breaks here es is bad = listed_not_bad law file (page_at half.at half.first_catalogue) half.catalogue_pages half.first_catalogue here is.0 is.1 bad.breaks

    meaning_not_bad : (here : ℕ) (tables : List TableRows) → IsWholeHalf key_of file half tables → BreaksInMeaning key_of file half here → ⊥
    meaning_not_bad here tables whole (inl bad) = bad.apart whole.last
    meaning_not_bad here tables whole (inr (inl bad)) = no_listing_breaks here (entries_of tables) whole.catalogue bad
    meaning_not_bad here tables whole (inr (inr bad)) =
        whole_among half.at half.first_catalogue here tables bad.entries (one_catalogue law file half (entries_of tables) bad.entries whole.catalogue bad.catalogue) whole.whole whole.behind bad.breaks

    pub half_not_bad : (here : ℕ) (tables : List TableRows) → IsWholeHalf key_of file half tables → BreaksHalf key_of file half here → ⊥
    half_not_bad here tables whole (inl bad) = not_without file half here (whole_formed file half key_of tables whole) bad
    half_not_bad here tables whole (inr bad) = meaning_not_bad here tables whole bad.1

    one_bad_meaning : (here there : ℕ) → BreaksInMeaning key_of file half here → BreaksInMeaning key_of file half there → here ≡ there
    one_bad_meaning here there (inl a) (inl b) = a.place ∙ sym b.place
    one_bad_meaning here there (inl a) (inr (inl b)) = absurd (a.apart b.last)
    one_bad_meaning here there (inl a) (inr (inr b)) = absurd (a.apart b.last)
    one_bad_meaning here there (inr (inl a)) (inl b) = absurd (b.apart a.last)
    one_bad_meaning here there (inr (inr a)) (inl b) = absurd (b.apart a.last)
    one_bad_meaning here there (inr (inl a)) (inr (inl b)) = listed_one_bad law file (page_at half.at half.first_catalogue) half.catalogue_pages half.first_catalogue here there a.breaks b.breaks
    one_bad_meaning here there (inr (inl a)) (inr (inr b)) = absurd (no_listing_breaks here b.entries b.catalogue a)
    one_bad_meaning here there (inr (inr a)) (inr (inl b)) = absurd (no_listing_breaks there a.entries a.catalogue b)
    one_bad_meaning here there (inr (inr a)) (inr (inr b)) =
        one_among half.at half.first_catalogue here there a.entries b.entries (one_catalogue law file half a.entries b.entries a.catalogue b.catalogue) a.breaks b.breaks

    pub one_bad_half : (here there : ℕ) → BreaksHalf key_of file half here → BreaksHalf key_of file half there → here ≡ there
    one_bad_half here there (inl a) (inl b) = one_without file half here there a b
    one_bad_half here there (inl a) (inr b) = absurd (not_without file half here b.0 a)
    one_bad_half here there (inr a) (inl b) = absurd (not_without file half there a.0 b)
    one_bad_half here there (inr a) (inr b) = one_bad_meaning here there a.1 b.1

  -- ---- whole in one way at most

  same_tables : (at : ℕ) (a b : List TableRows) → entries_of a ≡ entries_of b → AreTables key_of file at a → AreTables key_of file at b → a ≡ b
  same_tables at [] [] same whole other = refl
  same_tables at [] (u ∷ b) same whole other = absurd cc
  same_tables at (t ∷ a) [] same whole other = absurd cc
  same_tables at (t ∷ a) (u ∷ b) same whole other =
      let head = same_head t.entry u.entry (entries_of a) (entries_of b) same in
      let pages = one_list t.entry.schema (key_of t.entry.schema) file (page_at at t.entry.first_page) law t.entry.pages t.pages u.pages whole.0 (subst (λ (x : Entry). IsTable key_of file at (record { entry = x; pages = u.pages })) (sym head) other.0) in
      ap (λ (p : List (List (List ℕ))). (record { entry = t.entry; pages = p }) ∷ a) pages
      ∙ ap (λ (x : Entry). (record { entry = x; pages = u.pages }) ∷ a) head
      ∙ ap (λ (l : List TableRows). u ∷ l) (same_tables at a b (same_tail t.entry u.entry (entries_of a) (entries_of b) same) whole.1 other.1)

  pub one_half : (half : HalfPages) (tables others : List TableRows) → IsWholeHalf key_of file half tables → IsWholeHalf key_of file half others → tables ≡ others
  one_half half tables others a b = same_tables half.at tables others (one_catalogue law file half (entries_of tables) (entries_of others) a.catalogue b.catalogue) a.whole b.whole
