-- Rows that are noted behind others, whatever device they were read from.
use Rattle.std.proofs.Common.{◌≡◌, ℕ, true, List, ◌++◌, Option, None, Result, Ok, Err, OnOk, sym, ap, subst, ◌∙◌}
use Rattle.std.specs.Global.{Vec}
use Rattle.std.specs.List.{AllByRecursion}
use Rattle.drda_words.specs.Bytes.{AreBytes}
use Rattle.row_values.specs.Schema.{Schema}
use Rattle.row_pages.specs.Page.{Page}
use Rattle.table_map.specs.Keyed.{copied}
use Rattle.store_check.specs.Judging.{JudgesPage, NotesRows, go_on, last_key}
use Rattle.store_check.specs.Whole.{AreRows}
use Rattle.store_check.specs.declared.errors.CheckError.{CheckError}
use Rattle.store_check.proofs.Rising.{all_fit, in_order, joined, last_joined}
use Rattle.store_check.proofs.Standing.{all_joined}

module _ (schema : Schema) (key_of : List ℕ → List ℕ) where
  -- the rows of a page that was judged
  pub rows_noted : (at : ℕ) (page : Page) (old new : Option (Vec ℕ)) (noted more : List (List ℕ)) (result : Result (Vec ℕ) CheckError) → JudgesPage schema key_of at page old result new → OnOk result (more ≡ noted ++ page.rows) → OnOk result (AllByRecursion AreBytes page.rows)
      → OnOk result (NotesRows schema key_of (copied old) (copied new) noted more)
  rows_noted at page old new noted more (Ok key) judged same bytes = record { rows = page.rows; rising = judged.1.rising; bytes = bytes; last = judged.3; same = same }
  rows_noted at page old new noted more (Err e) judged same bytes = tt

  module _ (old new : Option (List ℕ)) (noted more : List (List ℕ)) (so : go_on schema key_of None noted ≡ true) (last : old ≡ last_key key_of None noted) (notes : NotesRows schema key_of old new noted more) where
    -- they go on behind those that were noted
    pub rising_more : go_on schema key_of None more ≡ true
    rising_more =
        ap (λ (rows : List (List ℕ)). go_on schema key_of None rows) notes.same
        ∙ joined schema key_of None noted notes.rows so (ap (λ (l : Option (List ℕ)). go_on schema key_of l notes.rows) (sym last) ∙ notes.rising)

    pub bytes_more : AllByRecursion AreBytes noted → AllByRecursion AreBytes more
    bytes_more all = subst (λ (rows : List (List ℕ)). AllByRecursion AreBytes rows) (sym notes.same) (all_joined AreBytes noted notes.rows all notes.bytes)

    pub last_more : new ≡ last_key key_of None more
    last_more =
        notes.last
        ∙ ap (λ (l : Option (List ℕ)). last_key key_of l notes.rows) last
        ∙ sym (last_joined key_of None noted notes.rows)
        ∙ ap (λ (rows : List (List ℕ)). last_key key_of None rows) (sym notes.same)

  pub are_rows : (rows : List (List ℕ)) → go_on schema key_of None rows ≡ true → AllByRecursion AreBytes rows → AreRows schema key_of rows
  are_rows rows rising bytes = record { fit = all_fit schema key_of None rows rising; bytes = bytes; order = in_order schema key_of None rows rising }
