-- Pages that have their form.
use Rattle.std.proofs.Common.{◌≡◌, ◌⊎◌, inl, inr, ℕ, zero, suc, ◌+◌, ◌-◌, ◌*◌, ◌<◌, ◌≤◌, Bool, true, false, ◌&&◌, ◌==◌, nat_le, List, [], ◌∷◌, length, Option, Some, None, Result, Ok, Err, refl, sym, ap, subst, ◌∙◌, arith, if◌then◌else◌, lt-ltb}
use Rattle.std.specs.List.{AllByRecursion}
use Rattle.std.proofs.lemmas.Bool.{and_parts, cases_lt, eqb-true, le-ltb, ne_eqb}
use Rattle.drda_words.specs.Place.{part}
use Rattle.row_pages.specs.Laying.{HasSome}
use Rattle.row_pages.specs.Page.{IsPage, Page}
use Rattle.row_pages.specs.Parsing.{OnePage}
use Rattle.row_pages.specs.declared.page.PageKind.{PageKind}
use Rattle.row_pages.specs.declared.page.PageKind.TheVariants as kind
use Rattle.table_map.specs.Stored.{AreAt}
use Rattle.checkpoint_writer.specs.Catalogue.{Entry}
use Rattle.store_check.specs.Formed.{IsFormed, TellsWhether}
use Rattle.store_check.specs.Listed.{EntriesAt, entries_over, first_page_of, lie_from}
use Rattle.store_check.specs.Half.{AreTables, BreaksInForm, BreaksInMeaning, ChecksHalf, HalfPages, HasForm, HaveForm, IsCatalogue, IsTable, IsWholeHalf, KeysBySchema, TableRows, catalogue_end, entries_of, kind_of, page_at, pages_over}
use Rattle.store_check.specs.Halving.{ChecksForm, TellsFirst, first_of}
use Rattle.store_check.specs.Errors.{CountsCheck}
use Rattle.store_check.specs.declared.errors.CheckError.{CheckError}
use Rattle.store_check.specs.declared.errors.CheckError.TheVariants.{NoMemory, DeviceFailed, Damaged}
use Rattle.store_check.proofs.Entries.{rows_there}
use Rattle.store_check.proofs.Tables.{lie_first, next_more}
use Rattle.store_check.proofs.Whole.{by_length}

-- what is told of a page is told of its bytes
pub formed_told : OnePage → (k : PageKind) (bytes : List ℕ) (page : Page) (b : Bool) → IsPage page bytes → (b ≡ true → (page.kind ≡ k) × HasSome page.rows) → (b ≡ false → page.kind ≡ k → HasSome page.rows → ⊥) → TellsWhether (IsFormed k bytes) (Ok b)
formed_told law k bytes page true is so other =
    let p = so refl in
    record { rows = page.rows; page = subst (λ (x : PageKind). IsPage (record { kind = x; rows = page.rows }) bytes) p.0 is; some = p.1 }
formed_told law k bytes page false is so other = λ formed.
    let same = law page (record { kind = k; rows = formed.rows }) bytes is formed.page in
    other refl (ap (λ (p : Page). p.kind) same) (subst (λ (l : List (List ℕ)). HasSome l) (ap (λ (p : Page). p.rows) (sym same)) formed.some)

pub no_form : (k : PageKind) (bytes : List ℕ) → ((page : Page) → IsPage page bytes → ⊥) → TellsWhether (IsFormed k bytes) (Ok false)
no_form k bytes none = λ formed. none (record { kind = k; rows = formed.rows }) formed.page

rows_formed : (file : List ℕ) (at i : ℕ) (pages : List (List (List ℕ))) → AreAt file at pages → AllByRecursion HasSome pages → i < length pages → IsFormed kind.Rows (part file (at + 8192 * i) 8192)
rows_formed file at i [] stand some low = absurd (omega (arith, low))
rows_formed file at zero (page ∷ pages) stand some low = subst (λ n. IsFormed kind.Rows (part file n 8192)) (omega arith) (record { rows = page; page = stand.0; some = some.0 })
rows_formed file at (suc i) (page ∷ pages) stand some low = subst (λ n. IsFormed kind.Rows (part file n 8192)) (omega arith) (rows_formed file (at + 8192) i pages stand.1 some.1 (omega (arith, low)))

entries_formed : (file : List ℕ) (at i : ℕ) (pages : List (List Entry)) → EntriesAt file at pages → i < length pages → IsFormed kind.Catalogue (part file (at + 8192 * i) 8192)
entries_formed file at i [] stand low = absurd (omega (arith, low))
entries_formed file at zero (page ∷ pages) stand low =
    subst (λ n. IsFormed kind.Catalogue (part file n 8192)) (omega arith) (record { rows = stand.0.is.rows; page = stand.0.is.page; some = rows_there stand.0.is.rows page stand.0.is.are stand.0.some })
entries_formed file at (suc i) (page ∷ pages) stand low = subst (λ n. IsFormed kind.Catalogue (part file n 8192)) (omega arith) (entries_formed file (at + 8192) i pages stand.1 (omega (arith, low)))

-- a table with pages begins with the next one
begins : (pages next first : ℕ) → 0 < pages → first ≡ (if pages == 0 then 0 else next) → first ≡ next
begins zero next first some is = absurd (omega (arith, some))
begins (suc pages) next first some is = is ∙ ap (λ (b : Bool). if b then 0 else next) (ne_eqb (suc pages) 0 (λ none. omega (arith, none)))

first_next : (next last : ℕ) (e : Entry) (es : List Entry) → lie_from next last (e ∷ es) ≡ true → 0 < e.pages → e.first_page ≡ next
first_next next last e es lie some =
    let p = and_parts (e.first_page == first_page_of next e) (nat_le (next + e.pages) last && lie_from (next + e.pages) last es) lie in
    begins e.pages next e.first_page some (eqb-true e.first_page (first_page_of next e) p.0)

module _ (key_of : KeysBySchema) (file : List ℕ) (at : ℕ) where
  table_formed : (next last n : ℕ) (t : TableRows) (es : List Entry) → lie_from next last (t.entry ∷ es) ≡ true → IsTable key_of file at t → next ≤ n → n < next + t.entry.pages → IsFormed kind.Rows (part file (page_at at n) 8192)
  table_formed next last n t es lie is low high =
      let place = first_next next last t.entry es lie (omega (arith, low, high)) in
      subst (λ m. IsFormed kind.Rows (part file m 8192)) (omega (arith, place, low))
      (rows_formed file (page_at at t.entry.first_page) (n - next) t.pages is.whole.stand is.whole.some (omega (arith, is.many, low, high)))

  tables_formed : (next last n : ℕ) (ts : List TableRows) → lie_from next last (entries_of ts) ≡ true → AreTables key_of file at ts → next ≤ n → n < next + pages_over (entries_of ts) → IsFormed kind.Rows (part file (page_at at n) 8192)
  tables_formed next last n [] lie all low high = absurd (omega (arith, low, high))
  tables_formed next last n (t ∷ ts) lie all low high =
      which (λ there. tables_formed (next + t.entry.pages) last n ts (next_more next last t.entry (entries_of ts) lie) all.1 there (omega (arith, high))) (cases_lt n (next + t.entry.pages))
    where
      which : (next + t.entry.pages ≤ n → IsFormed kind.Rows (part file (page_at at n) 8192)) → (n < next + t.entry.pages) ⊎ (next + t.entry.pages ≤ n) → IsFormed kind.Rows (part file (page_at at n) 8192)
      which more (inl here) = table_formed next last n t (entries_of ts) lie all.0 low here
      which more (inr there) = more there

module _ (file : List ℕ) (half : HalfPages) where
  abbrev Formed : PageKind → ℕ → Type 0
  Formed k n = IsFormed k (part file (page_at half.at n) 8192)

  as_rows : (n : ℕ) → n < half.first_catalogue → Formed kind.Rows n → Formed (kind_of half n) n
  as_rows n low is = subst (λ k. Formed k n) (sym (ap (λ (b : Bool). if b then kind.Rows else kind.Catalogue) (lt-ltb n half.first_catalogue low))) is

  as_catalogue : (n : ℕ) → half.first_catalogue ≤ n → Formed kind.Catalogue n → Formed (kind_of half n) n
  as_catalogue n high is = subst (λ k. Formed k n) (sym (ap (λ (b : Bool). if b then kind.Rows else kind.Catalogue) (le-ltb n half.first_catalogue high))) is

  listed_lie : (es : List Entry) → IsCatalogue file half es → lie_from 0 half.first_catalogue es ≡ true
  listed_lie es is = subst (λ (l : List Entry). lie_from 0 half.first_catalogue l ≡ true) is.2 (lie_first half.first_catalogue (entries_over is.0) is.1.listed.listed)

  -- the pages of a whole half have their form
  pub whole_formed : (key_of : KeysBySchema) (tables : List TableRows) → IsWholeHalf key_of file half tables → HaveForm file half half.count
  whole_formed key_of tables whole n low = record { within = omega (arith, low, whole.last); is = which (cases_lt n half.first_catalogue) }
    where
      which : (n < half.first_catalogue) ⊎ (half.first_catalogue ≤ n) → Formed (kind_of half n) n
      which (inl here) = as_rows n here (tables_formed key_of file half.at 0 half.first_catalogue n tables (listed_lie (entries_of tables) whole.catalogue) whole.whole (omega arith) (omega (arith, here, whole.behind)))
      which (inr there) =
          as_catalogue n there
          (subst (λ m. IsFormed kind.Catalogue (part file m 8192)) (omega (arith, there))
          (entries_formed file (page_at half.at half.first_catalogue) (n - half.first_catalogue) whole.catalogue.0 whole.catalogue.1.listed.stand (omega (arith, low, there, whole.last, whole.catalogue.1.many))))

  -- one first page without its form at most
  pub one_without : (here there : ℕ) → BreaksInForm file half here → BreaksInForm file half there → here ≡ there
  one_without here there a b =
      let same = by_length a.number b.number (λ less. a.bad (b.front a.number less)) (λ less. b.bad (a.front b.number less)) in
      a.place ∙ ap (λ (n : ℕ). page_at half.at n) same ∙ sym b.place

  pub not_without : (here : ℕ) → HaveForm file half half.count → BreaksInForm file half here → ⊥
  not_without here all bad = bad.bad (all bad.number bad.within)

  -- a page more has its form
  pub form_more : (n : ℕ) → HaveForm file half n → HasForm file half n → HaveForm file half (n + 1)
  form_more n all is m low = which (cases_lt m n)
    where
      which : (m < n) ⊎ (n ≤ m) → HasForm file half m
      which (inl less) = all m less
      which (inr more) = subst (λ k. HasForm file half k) (omega (arith, low, more)) is

  -- what is told of the page with a number
  pub form_told : (n : ℕ) → n < catalogue_end half → (k : PageKind) → k ≡ kind_of half n → (at : ℕ) → at ≡ page_at half.at n → (r : Result Bool CheckError) → TellsWhether (IsFormed k (part file at 8192)) r → TellsWhether (HasForm file half n) r
  form_told n low k kind_is at place r told =
      by_result r (subst (λ (x : PageKind). TellsWhether (Formed x n) r) kind_is (subst (λ (m : ℕ). TellsWhether (IsFormed k (part file m 8192)) r) place told))
    where
      by_result : (r : Result Bool CheckError) → TellsWhether (Formed (kind_of half n) n) r → TellsWhether (HasForm file half n) r
      by_result (Ok true) told = record { within = low; is = told }
      by_result (Ok false) told = λ has. told has.is
      by_result (Err NoMemory) told = tt
      by_result (Err DeviceFailed) told = tt
      by_result (Err (Damaged here)) told = told

  -- what is told of the pages one by one
  pub first_broken : (n here : ℕ) (b : Bool) → n < half.count → HaveForm file half n → TellsWhether (HasForm file half n) (Ok b) → b ≡ false → here ≡ page_at half.at n → BreaksInForm file half here
  first_broken n here false low all is off place = record { number = n; within = low; front = all; bad = is; place = place }
  first_broken n here true low all is off place = absurd cc

  pub one_formed : (n : ℕ) (b : Bool) → HaveForm file half n → TellsWhether (HasForm file half n) (Ok b) → b ≡ true → HaveForm file half (n + 1)
  one_formed n true all is on = form_more n all is
  one_formed n false all is on = absurd cc

  pub all_formed : (n : ℕ) → HaveForm file half n → n ≡ half.count → HaveForm file half half.count
  all_formed n all same = subst (λ (m : ℕ). HaveForm file half m) same all

  pub not_told : (P : Type 0) (e : CheckError) → TellsWhether P (Err e) → (r : Result (Option ℕ) CheckError) → r ≡ Err e → ChecksForm file half r
  not_told P e told r is = subst (λ (x : Result (Option ℕ) CheckError). ChecksForm file half x) (sym is) (by_error e told)
    where
      by_error : (e : CheckError) → TellsWhether P (Err e) → ChecksForm file half (Err e)
      by_error NoMemory told = tt
      by_error DeviceFailed told = tt
      by_error (Damaged here) told = told

  -- what is told of all
  pub first_told : (found : ℕ) (first : Option ℕ) (e : CheckError) → ChecksForm file half (Ok first) → e ≡ first_of first found → TellsFirst file half found e
  first_told found first e told is = subst (λ (x : CheckError). TellsFirst file half found x) (sym is) (by_first first told)
    where
      by_first : (first : Option ℕ) → ChecksForm file half (Ok first) → TellsFirst file half found (first_of first found)
      by_first (Some here) told = inl told
      by_first None told = inr (told, refl)

  pub error_told : (found : ℕ) (e : CheckError) → ChecksForm file half (Err e) → TellsFirst file half found e
  error_told found NoMemory told = tt
  error_told found DeviceFailed told = tt
  error_told found (Damaged here) told = absurd told

  pub half_told : (key_of : KeysBySchema) (found : ℕ) (e : CheckError) → TellsFirst file half found e → BreaksInMeaning key_of file half found → ChecksHalf key_of file half (Err e)
  half_told key_of found NoMemory told bad = tt
  half_told key_of found DeviceFailed told bad = tt
  half_told key_of found (Damaged here) (inl form) bad = inl form
  half_told key_of found (Damaged here) (inr other) bad = inr (other.0, subst (λ (n : ℕ). BreaksInMeaning key_of file half n) (sym other.1) bad)

-- faults are counted on from where there were none
pub counted_on : (T : Type 0) (U : Type 0) (e : CheckError) (old mid new : ℕ) → mid ≡ old → CountsCheck {T = T} (Err e) mid new → CountsCheck {T = U} (Err e) old new
counted_on T U NoMemory old mid new same told = told ∙ same
counted_on T U (Damaged here) old mid new same told = told ∙ same
counted_on T U DeviceFailed old mid new same told = told ∙ ap (λ (n : ℕ). n + 1) same
