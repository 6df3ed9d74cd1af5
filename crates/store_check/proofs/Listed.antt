-- The pages of a catalogue, and pages that are none.
use Rattle.std.proofs.Common.{◌≡◌, ℕ, ◌+◌, ◌*◌, ◌<◌, Bool, true, false, ◌&&◌, ◌==◌, nat_le, List, [], ◌∷◌, ◌++◌, length, length-append, Option, Result, Ok, Err, map, refl, sym, ap, subst, ◌∙◌, arith, append_assoc, append-nil, inl, inr}
use Rattle.std.specs.Prelude.{unwrap_or}
use Rattle.std.specs.Global.{Vec}
use Rattle.std.proofs.lemmas.Bool.{and_from, and_parts}
use Rattle.drda_words.specs.Place.{part}
use Rattle.row_pages.specs.Page.{Page}
use Rattle.row_pages.specs.Parsing.{OnePage}
use Rattle.row_pages.specs.declared.page.PageKind.TheVariants as kind
use Rattle.checkpoint_writer.specs.Catalogue.{Entry, HasEntries, IsDamagedAt, IsEntryPage, entries_in, entry_of}
use Rattle.checkpoint_writer.specs.declared.entry.StoredTable.{StoredTable}
use Rattle.store_check.specs.Breaking.{BreaksAt}
use Rattle.store_check.specs.Listed.{AreListed, ChecksCatalogue, EntriesAt, HasTables, IsListing, IsTablesPage, are_listed, entries_over, first_page_of, is_before, lie_from, names_rise}
use Rattle.checkpoint_writer.specs.ReadCatalogue.{TellsCatalogue}
use Rattle.checkpoint_writer.specs.declared.reading.CatalogueError.{CatalogueError}
use Rattle.checkpoint_writer.specs.declared.reading.CatalogueError.TheVariants as catalogue
use Rattle.store_check.specs.Errors.{catalogue_error}
use Rattle.store_check.specs.Judging.{JudgesEntries}
use Rattle.store_check.proofs.Whole.{by_length}
use Rattle.store_check.specs.declared.errors.CheckError.{CheckError}
use Rattle.store_check.specs.declared.errors.CheckError.TheVariants.{NoMemory, DeviceFailed, Damaged}

-- ---- tables in front of others

names_front : (es more : List Entry) → names_rise (es ++ more) ≡ true → names_rise es ≡ true
names_front [] more rise = refl
names_front (e ∷ []) more rise = refl
names_front (e ∷ f ∷ es) more rise =
    let p = and_parts (is_before e (f ∷ es ++ more)) (names_rise (f ∷ es ++ more)) rise in
    and_from (is_before e (f ∷ es)) (names_rise (f ∷ es)) p.0 (names_front (f ∷ es) more p.1)

lie_front : (next last : ℕ) (es more : List Entry) → lie_from next last (es ++ more) ≡ true → lie_from next last es ≡ true
lie_front next last [] more lie = refl
lie_front next last (e ∷ es) more lie =
    let p = and_parts (e.first_page == first_page_of next e) (nat_le (next + e.pages) last && lie_from (next + e.pages) last (es ++ more)) lie in
    let q = and_parts (nat_le (next + e.pages) last) (lie_from (next + e.pages) last (es ++ more)) p.1 in
    and_from (e.first_page == first_page_of next e) (nat_le (next + e.pages) last && lie_from (next + e.pages) last es) p.0
    (and_from (nat_le (next + e.pages) last) (lie_from (next + e.pages) last es) q.0 (lie_front (next + e.pages) last es more q.1))

listed_front : (last : ℕ) (es more : List Entry) → are_listed last (es ++ more) ≡ true → are_listed last es ≡ true
listed_front last es more listed =
    let p = and_parts (names_rise (es ++ more)) (lie_from 0 last (es ++ more)) listed in
    and_from (names_rise es) (lie_from 0 last es) (names_front es more p.0) (lie_front 0 last es more p.1)

-- ---- pages behind others

entries_front : (front more : List (List Entry)) → entries_over (front ++ more) ≡ entries_over front ++ entries_over more
entries_front [] more = refl
entries_front (p ∷ front) more = ap (λ (es : List Entry). p ++ es) (entries_front front more) ∙ sym (append_assoc p (entries_over front) (entries_over more))

entries_more : (front : List (List Entry)) (page : List Entry) → entries_over (front ++ page ∷ []) ≡ entries_over front ++ page
entries_more front page = entries_front front (page ∷ []) ∙ ap (λ (es : List Entry). entries_over front ++ es) (append-nil page)

stand_more : (file : List ℕ) (at here : ℕ) (front : List (List Entry)) (page : List Entry) → here ≡ at + 8192 * length front → EntriesAt file at front → IsTablesPage (part file here 8192) page → EntriesAt file at (front ++ page ∷ [])
stand_more file at here [] page place stand is = (subst (λ n. IsTablesPage (part file n 8192) page) (omega (arith, place)) is, tt)
stand_more file at here (p ∷ front) page place stand is = (stand.0, stand_more file (at + 8192) here front page (omega (arith, place)) stand.1 is)

stand_last : (file : List ℕ) (at here : ℕ) (front : List (List Entry)) (page : List Entry) → here ≡ at + 8192 * length front → EntriesAt file at (front ++ page ∷ []) → IsTablesPage (part file here 8192) page
stand_last file at here [] page place stand = subst (λ n. IsTablesPage (part file n 8192) page) (omega (arith, place)) stand.0
stand_last file at here (p ∷ front) page place stand = stand_last file (at + 8192) here front page (omega (arith, place)) stand.1

stand_front : (file : List ℕ) (at : ℕ) (front more : List (List Entry)) → EntriesAt file at (front ++ more) → EntriesAt file at front
stand_front file at [] more stand = tt
stand_front file at (p ∷ front) more stand = (stand.0, stand_front file (at + 8192) front more stand.1)

-- ---- one list of tables at most

-- bytes are a page of these tables and of no others
one_entries : OnePage → (bytes : List ℕ) (a b : List Entry) → IsEntryPage bytes a → IsEntryPage bytes b → a ≡ b
one_entries law bytes a b is other =
    let same = law (record { kind = kind.Catalogue; rows = is.rows }) (record { kind = kind.Catalogue; rows = other.rows }) bytes is.page other.page in
    ap (λ (o : Option (List Entry)). unwrap_or o []) (sym is.are ∙ ap (λ (p : Page). entries_in p.rows) same ∙ other.are)

in_front : OnePage → (file : List ℕ) (at : ℕ) (a b : List (List Entry)) → EntriesAt file at a → EntriesAt file at b → length a < length b → (page : List Entry) × (rest : List (List Entry)) × (b ≡ (a ++ page ∷ []) ++ rest)
in_front law file at a [] stand other fewer = absurd (omega (arith, fewer))
in_front law file at [] (q ∷ b) stand other fewer = (q, b, refl)
in_front law file at (p ∷ a) (q ∷ b) stand other fewer =
    let found = in_front law file (at + 8192) a b stand.1 other.1 (omega (arith, fewer)) in
    (found.0, found.1, ap (λ (x : List Entry). x ∷ b) (one_entries law (part file at 8192) q p other.0.is stand.0.is) ∙ ap (λ (l : List (List Entry)). p ∷ l) found.2)

-- with the first bad page more pages than those in front of it are no catalogue's
listed_not_more : OnePage → (file : List ℕ) (at count last here : ℕ) (pages : List (List Entry)) → AreListed file at last pages → (bad : BreaksAt (AreListed file at last) at count here) → length bad.front < length pages → ⊥
listed_not_more law file at count last here pages is bad more =
    let found = in_front law file at bad.front pages bad.right.stand is.stand more in
    let whole = subst (λ (l : List (List Entry)). AreListed file at last l) found.2 is in
    bad.bad found.0 (record {
      stand = stand_front file at (bad.front ++ found.0 ∷ []) found.1 whole.stand;
      listed = listed_front last (entries_over (bad.front ++ found.0 ∷ [])) (entries_over found.1) (ap (λ (es : List Entry). are_listed last es) (sym (entries_front (bad.front ++ found.0 ∷ []) found.1)) ∙ whole.listed);
    })

pub listed_not_bad : OnePage → (file : List ℕ) (at count last here : ℕ) (pages : List (List Entry)) → IsListing file at count last pages → BreaksAt (AreListed file at last) at count here → ⊥
listed_not_bad law file at count last here pages is bad = listed_not_more law file at count last here pages is.listed bad (omega (arith, bad.within, is.many))

-- a catalogue has one first bad page at most
pub listed_one_bad : OnePage → (file : List ℕ) (at count last here there : ℕ) → BreaksAt (AreListed file at last) at count here → BreaksAt (AreListed file at last) at count there → here ≡ there
listed_one_bad law file at count last here there a b =
    let same = by_length (length a.front) (length b.front) (listed_not_more law file at count last here b.front b.right a) (listed_not_more law file at count last there a.front a.right b) in
    omega (arith, a.place, b.place, same)

same_entries : OnePage → (file : List ℕ) (at : ℕ) (a b : List (List Entry)) → EntriesAt file at a → EntriesAt file at b → length a ≡ length b → a ≡ b
same_entries law file at [] [] stand other many = refl
same_entries law file at [] (q ∷ b) stand other many = absurd cc
same_entries law file at (p ∷ a) [] stand other many = absurd cc
same_entries law file at (p ∷ a) (q ∷ b) stand other many =
    ap (λ (x : List Entry). x ∷ a) (one_entries law (part file at 8192) p q stand.0.is other.0.is) ∙ ap (λ (l : List (List Entry)). q ∷ l) (same_entries law file (at + 8192) a b stand.1 other.1 (omega (arith, many)))

-- so many pages are those of one catalogue at most
pub one_listing : OnePage → (file : List ℕ) (at count last : ℕ) (a b : List (List Entry)) → IsListing file at count last a → IsListing file at count last b → a ≡ b
one_listing law file at count last a b is other = same_entries law file at a b is.listed.stand other.listed.stand (is.many ∙ sym other.many)

-- ---- page by page

-- so many pages were read, and these are their tables
pub record AreFound (file : List ℕ) (at n : ℕ) (tables : List Entry) : Type 0 where
  pub pages : List (List Entry)
  pub many : length pages ≡ n
  pub stand : EntriesAt file at pages
  pub same : tables ≡ entries_over pages

module _ (file : List ℕ) (at last : ℕ) where
  pub none_found : (tables : List StoredTable) → tables ≡ [] → AreFound file at 0 (map entry_of tables)
  none_found tables none = record { pages = []; many = refl; stand = tt; same = ap (λ (l : List StoredTable). map entry_of l) none }

  pub one_found : {T : Type 0} (x : T) (n : ℕ) (old new : List StoredTable) → AreFound file at n (map entry_of old) → JudgesEntries {T = T} (part file (at + 8192 * n) 8192) (at + 8192 * n) last old (Ok x) new → AreFound file at (n + 1) (map entry_of new)
  one_found x n old new so told =
      record {
        pages = so.pages ++ told.0 ∷ [];
        many = length-append so.pages (told.0 ∷ []) ∙ ap (λ (m : ℕ). m + 1) so.many;
        stand = stand_more file at (at + 8192 * n) so.pages told.0 (ap (λ (m : ℕ). at + 8192 * m) (sym so.many)) so.stand told.1;
        same = told.2 ∙ ap (λ (es : List Entry). es ++ told.0) so.same ∙ sym (entries_more so.pages told.0);
      }

  first_bad : (T : Type 0) (n count here : ℕ) (old new : List StoredTable) → n < count → AreFound file at n (map entry_of old) → are_listed last (map entry_of old) ≡ true → JudgesEntries {T = T} (part file (at + 8192 * n) 8192) (at + 8192 * n) last old (Err (Damaged here)) new
      → BreaksAt (AreListed file at last) at count here
  first_bad T n count here old new low so listed told =
      let place : at + 8192 * n ≡ at + 8192 * length so.pages = ap (λ (m : ℕ). at + 8192 * m) (sym so.many) in
      record {
        front = so.pages;
        place = told.0 ∙ place;
        within = omega (arith, low, so.many);
        right = record { stand = so.stand; listed = ap (λ (es : List Entry). are_listed last es) (sym so.same) ∙ listed };
        bad = λ page right.
            told.1 page (stand_last file at (at + 8192 * n) so.pages page place right.stand)
            (ap (λ (es : List Entry). are_listed last (es ++ page)) so.same ∙ ap (λ (es : List Entry). are_listed last es) (sym (entries_more so.pages page)) ∙ right.listed);
      }

  -- the check ends at an error
  pub stopped : (T : Type 0) (n count : ℕ) (old new : List StoredTable) (e : CheckError) → n < count → AreFound file at n (map entry_of old) → are_listed last (map entry_of old) ≡ true → JudgesEntries {T = T} (part file (at + 8192 * n) 8192) (at + 8192 * n) last old (Err e) new
      → (result : Result (Vec StoredTable) CheckError) → result ≡ Err e → ChecksCatalogue file at count last result
  stopped T n count old new e low so listed told result is = subst (λ (r : Result (Vec StoredTable) CheckError). ChecksCatalogue file at count last r) (sym is) (by_error e told)
    where
      by_error : (e : CheckError) → JudgesEntries {T = T} (part file (at + 8192 * n) 8192) (at + 8192 * n) last old (Err e) new → ChecksCatalogue file at count last (Err e)
      by_error NoMemory told = tt
      by_error DeviceFailed told = tt
      by_error (Damaged here) told = first_bad T n count here old new low so listed told

  pub all_found : (n count : ℕ) (tables : Vec StoredTable) → n ≡ count → AreFound file at n (map entry_of tables.items) → are_listed last (map entry_of tables.items) ≡ true → ChecksCatalogue file at count last (Ok tables)
  all_found n count tables all so listed =
      (so.pages, record { listed = record { stand = so.stand; listed = ap (λ (es : List Entry). are_listed last es) (sym so.same) ∙ listed }; many = so.many ∙ all }, so.same)

-- ---- one page

module _ (law : OnePage) (file : List ℕ) (at last : ℕ) (old : List StoredTable) where
  -- one page of a catalogue that was read
  page_read : (found : List Entry) → HasEntries file at 1 found → IsEntryPage (part file at 8192) found
  page_read found has =
      subst (λ (es : List Entry). IsEntryPage (part file at 8192) es) (sym (has.4 ∙ ap (λ (es : List Entry). has.0 ++ es) has.3 ∙ append-nil has.0)) has.2

  has_tables : (found : List StoredTable) → (length found ≡ 0 → ⊥) → HasTables (map entry_of found)
  has_tables [] some = some refl
  has_tables (t ∷ found) some = tt

  no_tables : (es : List Entry) → es ≡ [] → HasTables es → ⊥
  no_tables es none some = subst (λ (l : List Entry). HasTables l) none some

  -- a page without tables is none of a catalogue
  pub page_empty : (T : Type 0) (found new : List StoredTable) → HasEntries file at 1 (map entry_of found) → length found ≡ 0 → JudgesEntries {T = T} (part file at 8192) at last old (Err (Damaged at)) new
  page_empty T found new has none = (
    refl,
    λ entries is listed. no_tables entries (one_entries law (part file at 8192) entries (map entry_of found) is.is (page_read (map entry_of found) has) ∙ empty found none) is.some,
  )
    where
      empty : (found : List StoredTable) → length found ≡ 0 → map entry_of found ≡ []
      empty [] none = refl
      empty (t ∷ found) none = absurd cc

  -- and one that was not
  pub page_not_read : (T : Type 0) (d : ℕ) (new : List StoredTable) → IsDamagedAt file at 1 d → JudgesEntries {T = T} (part file at 8192) at last old (Err (Damaged d)) new
  page_not_read T d new (inl here) = (here.0, λ entries is listed. here.1 entries is.is)
  page_not_read T d new (inr there) = absurd there.2

  pub not_read : (T : Type 0) (e : CatalogueError) → TellsCatalogue file at 1 (Err e) → (f : CheckError) → f ≡ catalogue_error e → JudgesEntries {T = T} (part file at 8192) at last old (Err f) old
  not_read T e told f is = subst (λ (x : CheckError). JudgesEntries {T = T} (part file at 8192) at last old (Err x) old) (sym is) (by_error e told)
    where
      by_error : (e : CatalogueError) → TellsCatalogue file at 1 (Err e) → JudgesEntries {T = T} (part file at 8192) at last old (Err (catalogue_error e)) old
      by_error catalogue.NoMemory told = tt
      by_error catalogue.DeviceFailed told = tt
      by_error (catalogue.Damaged d) told = page_not_read T d old told

  -- its tables come behind those of the pages in front of it
  pub page_fits : {T : Type 0} (x : T) (found new : List StoredTable) → HasEntries file at 1 (map entry_of found) → (length found ≡ 0 → ⊥) → map entry_of new ≡ map entry_of old ++ map entry_of found → are_listed last (map entry_of new) ≡ true → JudgesEntries {T = T} (part file at 8192) at last old (Ok x) new
  page_fits x found new has some behind listed = (map entry_of found, record { is = page_read (map entry_of found) has; some = has_tables found some }, behind, listed)

  pub page_fits_not : (T : Type 0) (found new : List StoredTable) → HasEntries file at 1 (map entry_of found) → map entry_of new ≡ map entry_of old ++ map entry_of found → (are_listed last (map entry_of new) ≡ true → ⊥) → JudgesEntries {T = T} (part file at 8192) at last old (Err (Damaged at)) new
  page_fits_not T found new has behind unlisted = (
    refl,
    λ entries is listed.
        unlisted (ap (λ (es : List Entry). are_listed last es) (behind ∙ ap (λ (es : List Entry). map entry_of old ++ es) (one_entries law (part file at 8192) (map entry_of found) entries (page_read (map entry_of found) has) is.is)) ∙ listed),
  )

pub off_on : false ≡ true → ⊥
off_on wrong = absurd cc

pub unlisted : (b : Bool) (last : ℕ) (new seen : List StoredTable) → b ≡ false → b ≡ are_listed last (map entry_of seen) → seen ≡ new → are_listed last (map entry_of new) ≡ true → ⊥
unlisted b last new seen off is same listed = off_on (sym off ∙ is ∙ ap (λ (l : List StoredTable). are_listed last (map entry_of l)) same ∙ listed)
