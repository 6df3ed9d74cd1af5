-- What the rows of a catalogue say of tables.
use Rattle.std.proofs.Common.{◌≡◌, ℕ, ◌+◌, Bool, true, false, List, [], ◌∷◌, ◌++◌, Some, None, refl, sym, ap, subst, ◌∙◌, if◌then◌else◌, option_map}
use Rattle.std.specs.Option.{option_and_then}
use Rattle.std.specs.List.{AllByRecursion}
use Rattle.row_values.specs.Schema.{Schema, is_name, is_schema}
use Rattle.row_values.specs.Bytes.{name_at, name_in, named_at, parts_at, schema_at}
use Rattle.row_values.proofs.ValueLaws.{chained, mapped}
use Rattle.row_pages.specs.Laying.{HasSome}
use Rattle.checkpoint_writer.specs.Catalogue.{Entry, entries_in, entry_at, entry_with, numbers_at}
use Rattle.store_check.specs.Listed.{EntriesAt, HasTables, entries_over}

-- a table has a name and a schema
pub record IsNamed (e : Entry) : Type 0 where
  pub name : is_name e.name ≡ true
  pub schema : is_schema e.schema ≡ true

abbrev pub AreNamed : List Entry → Type 0
AreNamed es = AllByRecursion IsNamed es

-- what a test lets through has passed it
passed : {X : Type 0} (test : X → Bool) (b : Bool) (x y : X) → test x ≡ b → (if b then Some x else None) ≡ Some y → test y ≡ true
passed test true x y at is = let same : x ≡ y = cc in ap test (sym same) ∙ at
passed test false x y at is = absurd cc

name_told : (bytes : List ℕ) (x : List ℕ × List ℕ) → name_at bytes ≡ Some x → is_name x.0 ≡ true
unfolding name_in
name_told bytes x is =
    let read = chained (λ (y : List ℕ × List ℕ). option_map (λ (name : List ℕ). (name, y.1)) (name_in y.0)) (named_at bytes) x is in
    let found = mapped (λ (name : List ℕ). (name, read.0.1)) (name_in read.0.0) x read.2 in
    ap (λ (y : List ℕ × List ℕ). is_name y.0) (sym found.2) ∙ passed is_name (is_name read.0.0) read.0.0 found.0 refl found.1

schema_told : (bytes : List ℕ) (x : Schema × List ℕ) → schema_at bytes ≡ Some x → is_schema x.0 ≡ true
unfolding schema_at
schema_told bytes x is =
    let read = chained (λ (y : Schema × List ℕ). if is_schema y.0 then Some y else None) (parts_at bytes) x is in
    passed (λ (y : Schema × List ℕ). is_schema y.0) (is_schema read.0.0) read.0 x refl read.2

entry_named : (row : List ℕ) (e : Entry) → entry_at row ≡ Some e → IsNamed e
unfolding entry_at
entry_named row e is =
    let name = chained (λ (x : List ℕ × List ℕ). option_and_then (λ (y : Schema × List ℕ). entry_with x.0 y.0 (numbers_at y.1)) (schema_at x.1)) (name_at row) e is in
    let schema = chained (λ (y : Schema × List ℕ). entry_with name.0.0 y.0 (numbers_at y.1)) (schema_at name.0.1) e name.2 in
    let whole = mapped (λ (n : ℕ × ℕ). record { name = name.0.0; schema = schema.0.0; first_page = n.0; pages = n.1 }) (numbers_at schema.0.1) e schema.2 in
    let made : Entry = record { name = name.0.0; schema = schema.0.0; first_page = whole.0.0; pages = whole.0.1 } in
    subst (λ (x : Entry). IsNamed x) {x = made} whole.2 (record { name = name_told row name.0 name.1; schema = schema_told name.0.1 schema.0 schema.1 })

rows_named : (rows : List (List ℕ)) (es : List Entry) → entries_in rows ≡ Some es → AreNamed es
rows_named [] es is = let none : [] ≡ es = cc in subst (λ (l : List Entry). AreNamed l) none tt
rows_named (row ∷ rows) es is =
    let first = chained (λ (e : Entry). option_map (λ (l : List Entry). e ∷ l) (entries_in rows)) (entry_at row) es is in
    let rest = mapped (λ (l : List Entry). first.0 ∷ l) (entries_in rows) es first.2 in
    subst (λ (l : List Entry). AreNamed l) rest.2 (entry_named row first.0 first.1, rows_named rows rest.0 rest.1)

-- rows of tables, where there are tables, and tables where there are rows
pub rows_there : (rows : List (List ℕ)) (es : List Entry) → entries_in rows ≡ Some es → HasTables es → HasSome rows
rows_there [] es is some = let none : es ≡ [] = cc in subst (λ (l : List Entry). HasTables l) none some
rows_there (row ∷ rows) es is some = tt

pub tables_there : (rows : List (List ℕ)) (es : List Entry) → entries_in rows ≡ Some es → HasSome rows → HasTables es
tables_there [] es is some = absurd some
tables_there (row ∷ rows) es is some =
    let first = chained (λ (e : Entry). option_map (λ (l : List Entry). e ∷ l) (entries_in rows)) (entry_at row) es is in
    let rest = mapped (λ (l : List Entry). first.0 ∷ l) (entries_in rows) es first.2 in
    subst (λ (l : List Entry). HasTables l) rest.2 tt

named_both : (es more : List Entry) → AreNamed es → AreNamed more → AreNamed (es ++ more)
named_both [] more named also = also
named_both (e ∷ es) more named also = (named.0, named_both es more named.1 also)

-- the tables of a catalogue have names and schemas
pub pages_named : (file : List ℕ) (at : ℕ) (pages : List (List Entry)) → EntriesAt file at pages → AreNamed (entries_over pages)
pages_named file at [] stand = tt
pages_named file at (page ∷ pages) stand = named_both page (entries_over pages) (rows_named stand.0.is.rows page stand.0.is.are) (pages_named file (at + 8192) pages stand.1)
