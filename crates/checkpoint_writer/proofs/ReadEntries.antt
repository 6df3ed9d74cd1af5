-- A page of a catalogue, as it is read.
use Rattle.std.proofs.Common.{◌≡◌, ℕ, ◌+◌, ◌-◌, ◌<◌, suc, inl, inr, List, [], ◌∷◌, ◌++◌, length, Option, Some, None, option_map, map, refl, sym, ap, subst, ◌∙◌, arith, append_assoc, append-nil}
use Rattle.drda_words.specs.Place.{part}
use Rattle.row_pages.specs.Page.{IsPage, Page}
use Rattle.row_pages.specs.Parsing.{OnePage}
use Rattle.row_pages.specs.declared.page.PageKind.TheVariants as kind
use Rattle.std.specs.Prelude.{Result, Ok, Err, unwrap_or}
use Rattle.std.specs.Global.{Vec}
use Rattle.std.specs.List.{AllByRecursion}
use Rattle.std.specs.Option.{option_and_then}
use Rattle.row_pages.specs.Laying.{IsShort, Laying, laid, rows_over}
use Rattle.checkpoint_writer.specs.Laying.{StandAt}
use Rattle.checkpoint_writer.proofs.EntryBytes.{entry_back}
use Rattle.row_pages.specs.Keeping.{TellsDamage}
use Rattle.row_pages.specs.declared.kept.PageFault.{PageFault}
use Rattle.row_pages.specs.declared.kept.PageFault.TheVariants as fault
use Rattle.checkpoint_writer.specs.ReadCatalogue.{ReadsBytes, TellsCatalogue, catalogue_error}
use Rattle.checkpoint_writer.specs.declared.entry.StoredTable.{StoredTable}
use Rattle.checkpoint_writer.specs.declared.reading.CatalogueError.{CatalogueError}
use Rattle.checkpoint_writer.specs.declared.reading.CatalogueError.TheVariants.{NoMemory, DeviceFailed, Damaged}
use Rattle.checkpoint_writer.specs.Catalogue.{AreEntries, Entry, HasEntries, IsDamagedAt, IsEntryPage, entries_in, entry_at, entry_of, rows_of}

-- a row of the page is no table
pub no_entries : {X : Type 0} → OnePage → (page : Page) (bytes : List ℕ) → IsPage page bytes → (f : List Entry → X) → option_map f (entries_in page.rows) ≡ None → (entries : List Entry) → IsEntryPage bytes entries → ⊥
no_entries law page bytes is f none entries e =
    let same = law page (record { kind = kind.Catalogue; rows = e.rows }) bytes is e.page in
    apart (sym none ∙ ap (λ (p : Page). option_map f (entries_in p.rows)) same ∙ ap (λ o. option_map f o) e.are)
  where
    apart : {A : Type 0} {x : A} → None ≡ Some x → ⊥
    apart same = absurd cc

-- ---- page by page

-- one page of those that are left
pub one_page_more : (file : List ℕ) (at n : ℕ) (first rest : List Entry) → IsEntryPage (part file at 8192) first → HasEntries file (at + 8192) n rest → HasEntries file at (suc n) (first ++ rest)
one_page_more file at n first rest is has = (first, rest, is, has, refl)

pub left_one : (n : ℕ) → 0 < n → n ≡ suc (n - 1)
left_one n some = omega (arith, some)

-- a page that was not read
pub not_read : (T S : Type 0) (bytes : List ℕ) (at : ℕ) (old : List StoredTable) (f : PageFault) → TellsDamage {T = T} bytes (Err f) → (e : CatalogueError) → e ≡ catalogue_error at f → ReadsBytes {T = S} bytes at old (Err e) old
not_read T S bytes at old f tells e is = subst (λ (x : CatalogueError). ReadsBytes {T = S} bytes at old (Err x) old) (sym is) (by_fault f tells)
  where
    by_fault : (f : PageFault) → TellsDamage {T = T} bytes (Err f) → ReadsBytes {T = S} bytes at old (Err (catalogue_error at f)) old
    by_fault fault.NoMemory tells = tt
    by_fault fault.DeviceFailed tells = tt
    by_fault fault.Damaged tells = (refl, λ entries e. tells (record { kind = kind.Catalogue; rows = e.rows }) e.page)

module _ (file : List ℕ) (at n : ℕ) (old new : List StoredTable) (start pages : ℕ) (some : 0 < n) where
  pub has_more : ((rest : List Entry) → HasEntries file at n rest → HasEntries file start pages (map entry_of old ++ rest)) → ReadsBytes {T = Unit {0}} (part file at 8192) at old (Ok tt) new
      → (rest : List Entry) → HasEntries file (at + 8192) (n - 1) rest → HasEntries file start pages (map entry_of new ++ rest)
  has_more before reads rest has =
      subst (λ (es : List Entry). HasEntries file start pages es) (sym (append_assoc (map entry_of old) reads.0 rest) ∙ ap (λ (es : List Entry). es ++ rest) (sym reads.2))
      (before (reads.0 ++ rest) (subst (λ m. HasEntries file at m (reads.0 ++ rest)) (sym (left_one n some)) (one_page_more file at (n - 1) reads.0 rest reads.1 has)))

  pub damaged_more : ((d : ℕ) → IsDamagedAt file at n d → IsDamagedAt file start pages d) → ReadsBytes {T = Unit {0}} (part file at 8192) at old (Ok tt) new
      → (d : ℕ) → IsDamagedAt file (at + 8192) (n - 1) d → IsDamagedAt file start pages d
  damaged_more before reads d damaged = before d (subst (λ m. IsDamagedAt file at m d) (sym (left_one n some)) (inr (reads.0, reads.1, damaged)))

  pub stopped : ((d : ℕ) → IsDamagedAt file at n d → IsDamagedAt file start pages d) → (e : CatalogueError) → ReadsBytes {T = Unit {0}} (part file at 8192) at old (Err e) new
      → (result : Result (Vec StoredTable) CatalogueError) → result ≡ Err e → TellsCatalogue file start pages result
  stopped before e reads result is = subst (λ (r : Result (Vec StoredTable) CatalogueError). TellsCatalogue file start pages r) (sym is) (by_error e reads)
    where
      by_error : (e : CatalogueError) → ReadsBytes {T = Unit {0}} (part file at 8192) at old (Err e) new → TellsCatalogue file start pages (Err e)
      by_error NoMemory reads = tt
      by_error DeviceFailed reads = tt
      by_error (Damaged d) reads = before d (subst (λ m. IsDamagedAt file at m d) (sym (left_one n some)) (inl reads))

-- all pages are read
pub all_read : (file : List ℕ) (at n : ℕ) (tables : List StoredTable) (start pages : ℕ) → n ≡ 0 → ((rest : List Entry) → HasEntries file at n rest → HasEntries file start pages (map entry_of tables ++ rest)) → HasEntries file start pages (map entry_of tables)
all_read file at n tables start pages none before =
    subst (λ (es : List Entry). HasEntries file start pages es) (append-nil (map entry_of tables)) (before [] (subst (λ m. HasEntries file at m []) (sym none) refl))

-- ---- what was written is read

entries_back : (es : List Entry) → AreEntries es → entries_in (rows_of es) ≡ Some es
entries_back [] good = refl
entries_back (e ∷ es) good =
    ap (λ (o : Option Entry). option_and_then (λ (x : Entry). option_map (λ (xs : List Entry). x ∷ xs) (entries_in (rows_of es))) o) (entry_back e good.0)
    ∙ ap (λ (o : Option (List Entry)). option_map (λ (xs : List Entry). e ∷ xs) o) (entries_back es good.1)

-- rows of tables, and rows of tables behind them
record Splits (rows more : List (List ℕ)) (es : List Entry) : Type 0 where
  front : List Entry
  back : List Entry
  first : entries_in rows ≡ Some front
  second : entries_in more ≡ Some back
  same : es ≡ front ++ back

one_split : (row : List ℕ) (rows more : List (List ℕ)) (es : List Entry) (o : Option Entry) (q : Option (List Entry)) → entry_at row ≡ o → entries_in (rows ++ more) ≡ q
    → option_and_then (λ (x : Entry). option_map (λ (xs : List Entry). x ∷ xs) q) o ≡ Some es → ((rest : List Entry) → entries_in (rows ++ more) ≡ Some rest → Splits rows more rest) → Splits (row ∷ rows) more es
one_split row rows more es None q first there is ih = absurd cc
one_split row rows more es (Some e) None first there is ih = absurd cc
one_split row rows more es (Some e) (Some rest) first there is ih =
    let s = ih rest there in
    record {
      front = e ∷ s.front;
      back = s.back;
      first =
          ap (λ (o : Option Entry). option_and_then (λ (x : Entry). option_map (λ (xs : List Entry). x ∷ xs) (entries_in rows)) o) first
          ∙ ap (λ (o : Option (List Entry)). option_map (λ (xs : List Entry). e ∷ xs) o) s.first;
      second = s.second;
      same = sym (ap (λ (o : Option (List Entry)). unwrap_or o []) is) ∙ ap (λ (xs : List Entry). e ∷ xs) s.same;
    }

splits : (rows more : List (List ℕ)) (es : List Entry) → entries_in (rows ++ more) ≡ Some es → Splits rows more es
splits [] more es is = record { front = []; back = es; first = refl; second = is; same = refl }
splits (row ∷ rows) more es is =
    one_split row rows more es (entry_at row) (entries_in (rows ++ more)) refl refl is (λ rest there. splits rows more rest there)

read_back : (file : List ℕ) (at : ℕ) (pages : List (List (List ℕ))) (es : List Entry) → StandAt kind.Catalogue file at pages → entries_in (rows_over pages) ≡ Some es → HasEntries file at (length pages) es
read_back file at [] es stand is = sym (ap (λ (o : Option (List Entry)). unwrap_or o []) is)
read_back file at (p ∷ pages) es stand is =
    let s = splits p (rows_over pages) es is in
    (s.front, s.back, record { rows = p; page = stand.0; are = s.first }, read_back file (at + 8192) pages s.back stand.1 s.second, s.same)

pub catalogue_back : Laying → (file : List ℕ) (at : ℕ) (es : List Entry) → AreEntries es → AllByRecursion IsShort (rows_of es) → StandAt kind.Catalogue file at (laid (rows_of es)) → HasEntries file at (length (laid (rows_of es))) es
catalogue_back law file at es good short stand =
    read_back file at (laid (rows_of es)) es stand (ap (λ (l : List (List ℕ)). entries_in l) (law (rows_of es) short).same ∙ entries_back es good)
