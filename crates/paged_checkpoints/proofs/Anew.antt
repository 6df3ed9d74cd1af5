-- A table over its pages that is laid anew.
use Rattle.std.proofs.Common.{◌≡◌, ℕ, ◌+◌, ◌<◌, Bool, true, false, List, length, cond, refl, sym, ap, ap₂, subst, ◌∙◌, arith, eqb-true}
use Rattle.std.specs.Prelude.{◌==◌}
use Rattle.std.specs.List.{AllByRecursion}
use Rattle.std.specs.Map.{values_of}
use Rattle.row_values.specs.Schema.{Schema, is_schema}
use Rattle.row_values.specs.Row.{is_row}
use Rattle.key_map.specs.Merging.{Rows}
use Rattle.key_map.specs.RowForm.{RowsHaveTheirForms, row_form}
use Rattle.row_pages.specs.Laying.{IsShort, laid}
use Rattle.table_map.specs.Keyed.{first_keys, keyed_rows}
use Rattle.table_map.specs.Stored.{Places, IsStored as StandAt}
use Rattle.table_map.specs.Table.{rows_of_table, without_keys}
use Rattle.half_store.specs.Writing.{from_of, pages_of}
use Rattle.half_store.specs.declared.image.ImageWriter.{ImageWriter}
use Rattle.checkpoint_writer.specs.Adding.{AreLast}
use Rattle.checkpoint_writer.specs.Catalogue.{Entry}
use Rattle.checkpoint_writer.specs.Stored.{HaveKeys, IsImageOf, LieApart}
use Rattle.checkpoint_writer.proofs.MergedRows.{many_keys}
use Rattle.store_check.specs.Checkpoint.{forms}
use Rattle.store_check.specs.Half.{page_at}
use Rattle.store_check.specs.Written.{IsWritten}
use Rattle.store_check.specs.Laying.{IsGood, laid_at, rows_under}
use Rattle.store_check.specs.Room.{entry_of_table, pages_of_table}
use Rattle.store_check.proofs.Placing.{bare_under, good_rows}
use Rattle.paged_tables.specs.Lending.{IsLent}
use Rattle.paged_tables.specs.Stored.{Stored, rows_in, table_in}
use Rattle.paged_tables.specs.declared.lending.TableRef.{TableRef}
use Rattle.paged_tables.proofs.Shown.{forms_back}
use Rattle.paged_checkpoints.specs.Apart.{IsReadable}
use Rattle.paged_checkpoints.specs.Laying.{IsUnder, LaysTable, created_entry}
use Rattle.paged_checkpoints.proofs.Standing as standing

-- where there are pages, the first one has this number
by_test : (n first at : ℕ) (b : Bool) → (n == 0) ≡ b → 0 < n → page_at at first ≡ page_at at (cond b 0 first)
by_test n first at true is some = absurd (omega (arith, eqb-true n 0 is, some))
by_test n first at false is some = refl

abbrev the_entry : List ℕ → Schema → ℕ → ℕ → Entry
the_entry name schema first pages = record { name = name; schema = schema; first_page = first; pages = pages }

-- the rows of a table that is lent are those of what it shows, at their forms
pub is_under : RowsHaveTheirForms → (e : List ℕ × Stored) (lent : TableRef) → IsLent e lent → is_schema lent.schema.now ≡ true → IsUnder e
is_under law e lent is sound =
    sym (forms_back law e.1.schema (rows_in e.1) (subst (λ (s : Schema). is_schema s ≡ true) is.schema sound) is.stored.forms)
    ∙ ap (λ (rows : List (List ℕ)). keyed_rows (row_form e.1.schema) rows) (standing.bare e.1.schema (rows_in e.1))

module _ (law : RowsHaveTheirForms) (modelled : Bool) (file : List ℕ) (w : ImageWriter) (e : List ℕ × Stored) (lent : TableRef) (is : IsLent e lent) (sound : is_schema lent.schema.now ≡ true) (readable : IsReadable modelled file w e.1) where
  abbrev key_of : List ℕ → List ℕ
  key_of = row_form lent.schema.now

  abbrev all : Rows
  all = rows_of_table key_of lent.rows.now readable.stand.pages

  -- its pages stand there, apart
  pub stands : StandAt key_of lent.rows.now.places readable.stand.pages file
  stands = standing.stands law file e lent is sound readable.stand

  pub apart : LieApart lent.rows.now.places w
  apart = subst (λ (p : Places). LieApart p w) (sym (standing.same_places law file e lent is sound readable.stand)) readable.apart

  pub have : HaveKeys key_of all
  have = standing.have law file e lent is sound readable.stand

  pub count : length (laid (without_keys all)) ≡ pages_of_table (table_in e.1)
  count = standing.count law file e lent is sound readable.stand

  pub short : IsGood (created_entry e) → AllByRecursion IsShort (without_keys all)
  short good = standing.short law file e lent is sound readable.stand good

  under : all ≡ rows_under (table_in e.1)
  under = standing.all_are law file e lent is sound readable.stand ∙ is_under law e lent is sound

  -- ---- once it was laid

  module _ (new : List ℕ) (after : ImageWriter) (written : Places) (good : IsGood (created_entry e)) (image : IsImageOf key_of all written new) (last : AreLast w after written) (from : from_of after ≡ from_of w) where
    abbrev there : ℕ → ℕ
    there n = page_at (from_of w + 8192) n

    many_there : length written.keys ≡ pages_of_table (table_in e.1)
    many_there = ap length image.stored.first ∙ many_keys key_of (laid (without_keys all)) ∙ count

    pub pages_then : pages_of after ≡ pages_of w + pages_of_table (table_in e.1)
    pages_then = omega (arith, from, last.at, last.next, many_there)

    placed : written ≡ (laid_at (from_of w + 8192) (pages_of w) (created_entry e)).places
    placed =
        let at : written.at ≡ there (pages_of w) = omega (arith, last.at) in
        let keys : written.keys ≡ first_keys (row_form e.1.schema) (laid (values_of (table_in e.1).rows)) =
        image.stored.first
        ∙ ap (λ (rows : List (List ℕ)). first_keys key_of (laid rows)) (standing.bare_all law file e lent is sound readable.stand)
        ∙ ap (λ (s : Schema). first_keys (row_form s) (laid (values_of (table_in e.1).rows))) is.schema in
        ap₂ (λ (n : ℕ) (k : List (List ℕ)). record { at = n; keys = k }) at keys

    image_there : IsImageOf (row_form e.1.schema) (rows_under (table_in e.1)) ((laid_at (from_of w + 8192) (pages_of w) (created_entry e)).places) new
    image_there =
        subst (λ (p : Places). IsImageOf (row_form e.1.schema) (rows_under (table_in e.1)) p new) placed
        (subst (λ (s : Schema). IsImageOf (row_form s) (rows_under (table_in e.1)) written new) is.schema
        (subst (λ (rows : Rows). IsImageOf key_of rows written new) under image))

    laid_there : IsWritten forms new (from_of w + 8192) (laid_at (from_of w + 8192) (pages_of w) (created_entry e))
    laid_there = record {
      image = image_there;
      fit = subst (λ (l : List (List ℕ)). AllByRecursion (λ row. is_row e.1.schema row ≡ true) l) (sym (bare_under (row_form e.1.schema) (values_of (table_in e.1).rows))) (good_rows (created_entry e) good);
      many = many_keys (row_form e.1.schema) (laid (values_of (table_in e.1).rows));
      place = λ some. by_test (pages_of_table (table_in e.1)) (pages_of w) (from_of w + 8192) (pages_of_table (table_in e.1) == 0) refl some;
    }

    entry_then : (first pages : ℕ) → pages ≡ pages_of_table (table_in e.1) → first ≡ cond (pages == 0) 0 (pages_of w) → the_entry lent.name.now lent.schema.now first pages ≡ entry_of_table (pages_of w) (created_entry e)
    entry_then first pages many place =
        ap₂ (λ (n : List ℕ) (s : Schema). the_entry n s first pages) is.name is.schema
        ∙ ap₂ (λ (f p : ℕ). the_entry e.0 e.1.schema f p) (place ∙ ap (λ (k : ℕ). cond (k == 0) 0 (pages_of w)) many) many

    pub lays : (first pages : ℕ) → pages ≡ pages_of_table (table_in e.1) → first ≡ cond (pages == 0) 0 (pages_of w) → LaysTable new w after (created_entry e) (the_entry lent.name.now lent.schema.now first pages) written
    lays first pages many place = record { entry_is = entry_then first pages many place; many = pages_then; written = laid_there; places_are = placed }
