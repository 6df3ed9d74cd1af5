-- The tables that a statement is given are a store with the tables that there are, and have what was read.
use Rattle.std.proofs.Common.{◌≡◌, ℕ, List, Bool, true, false, cond, refl, sym, ap, subst, ◌∙◌, true≢false, Option, Some, None}
use Rattle.std.specs.Prelude.{bytes_eq, IsTrue, ◌&&◌}
use Rattle.std.specs.Global.{Vec}
use Rattle.std.specs.List.{list_all}
use Rattle.std.specs.Ordering.{nat_cmp}
use Rattle.std.specs.Cmp.Lexicographic.{slice_cmp}
use Rattle.std.specs.Map.{keys_of}
use Rattle.drda_words.specs.Order.{rises}
use Rattle.row_values.specs.Key.{row_key}
use Rattle.row_values.specs.Row.{is_row}
use Rattle.row_values.specs.Schema.{Schema}
use Rattle.row_values.proofs.ValueLaws.{both_true, first_true, second_true}
use Rattle.table_map.specs.Keyed.{copied}
use Rattle.tables.specs.Change.{put, remove}
use Rattle.tables.specs.Tables.{Store, apply, is_row_at, put_row, remove_row, row_of, schema_of}
use Rattle.tables.specs.View.{is_store}
use Rattle.tables.proofs.Changes.{put_puts, remove_removes}
use Rattle.tables.proofs.Finding.{indeed, itself, same_bytes}
use Rattle.tables.proofs.Found.{found_are_rows}
use Rattle.tables.proofs.Keeping.{apply_keeps, named_table, same_keys}
use Rattle.tables.proofs.Showing.{good_table, same_stores}
use Rattle.paged_tables.specs.Judged.{may_be_row}
use Rattle.ahead_view.specs.Ahead.{WasRead, may_be_read}
use Rattle.ahead_view.specs.Given.{IsAhead, StandsFor, given_by, with_row, with_rows}
use Rattle.ahead_view.specs.declared.reading.ReadAhead.{ReadAhead}
use Rattle.ahead_view.specs.declared.reading.ReadAhead.TheVariants.{Nothing, Row, Rows}
use Rattle.ahead_view.proofs.MayBe.{row_may_be, rows_may_be}
use Rattle.ahead_view.proofs.Replacing.{rows_good, rows_same, rows_schemas, rows_there}

-- what a store has may be read of it
pub was_may : (s : Store) (read : ReadAhead) → is_store s ≡ true → WasRead s read → may_be_read s read ≡ true
was_may s Nothing good was = refl
was_may s (Row table key row) good was = row_may_be (schema_of s table.now) (copied row) key.now (λ r is. found_are_rows s table.now key.now r good (sym was ∙ is))
was_may s (Rows table rows) good was =
    let all = first_true (list_all named_table s) (rises (slice_cmp nat_cmp) (keys_of s)) good in
    rows_may_be _ rows (good_table s table.now all) was

-- ---- a row

row_ahead : (s : Store) (name key : List ℕ) (row : Option (Vec ℕ)) (read : ReadAhead) → is_store s ≡ true → may_be_row (schema_of s name) (copied row) key ≡ true
    → ((t : Store) → copied row ≡ row_of t name key → WasRead t read) → IsAhead s (record { store = with_row name key row s; read = read })
row_ahead s name key None read good may was =
    let r = remove_removes name key s in
    let here : (bytes_eq name name && bytes_eq key key) ≡ true = both_true (bytes_eq name name) (bytes_eq key key) (itself name) (itself key) in
    record {
      good = apply_keeps (remove name key) s refl good;
      schemas = λ q. sym (r.schemas q);
      names = sym (same_keys (remove_row key) name s);
      read = was (apply (remove name key) s) (sym (r.found name key ∙ indeed (bytes_eq name name && bytes_eq key key) None (row_of s name key) here));
    }
row_ahead s name key (Some row) read good may was =
    let p = put_puts name row.items s in
    let at = is_row_at (schema_of s name) row.items key in
    let here : (bytes_eq name name && at) ≡ true = both_true (bytes_eq name name) at (itself name) may in
    record {
      good = apply_keeps (put name row.items) s refl good;
      schemas = λ q. sym (p.schemas q);
      names = sym (same_keys (put_row row.items) name s);
      read = was (apply (put name row.items) s) (sym (p.found name key ∙ indeed (bytes_eq name name && at) (Some row.items) (row_of s name key) here));
    }

kept : {A : Type 0} (b : Bool) (x o : A) → (b ≡ true → o ≡ x) → cond b x o ≡ o
kept true x o h = sym (h refl)
kept false x o h = refl

-- a row has one key
one_key : (schema : Option Schema) (row a b : List ℕ) → is_row_at schema row a ≡ true → is_row_at schema row b ≡ true → a ≡ b
one_key None row a b p q = absurd cc
one_key (Some schema) row a b p q =
    same_bytes a (row_key schema row) (second_true (is_row schema row) (bytes_eq a (row_key schema row)) p)
    ∙ sym (same_bytes b (row_key schema row) (second_true (is_row schema row) (bytes_eq b (row_key schema row)) q))

found_there : (s : Store) (name key q k : List ℕ) (o : Option (List ℕ)) → q ≡ name → k ≡ key → o ≡ row_of s name key → row_of s q k ≡ o
found_there s name key q k o names keys is = ap (λ (n : List ℕ). row_of s n k) names ∙ ap (row_of s name) keys ∙ sym is

row_same : (s : Store) (name key : List ℕ) (row : Option (Vec ℕ)) → is_store s ≡ true → copied row ≡ row_of s name key → with_row name key row s ≡ s
row_same s name key None good is =
    let r = remove_removes name key s in
    same_stores (apply (remove name key) s) s (apply_keeps (remove name key) s refl good) good r.schemas
    (λ q k. r.found q k ∙ kept (bytes_eq q name && bytes_eq k key) None (row_of s q k)
    (λ h. found_there s name key q k None (same_bytes q name (first_true (bytes_eq q name) (bytes_eq k key) h)) (same_bytes k key (second_true (bytes_eq q name) (bytes_eq k key) h)) is))
row_same s name key (Some row) good is =
    let p = put_puts name row.items s in
    let there = found_are_rows s name key row.items good (sym is) in
    same_stores (apply (put name row.items) s) s (apply_keeps (put name row.items) s refl good) good p.schemas
    (λ q k. let at = is_row_at (schema_of s name) row.items k in
    p.found q k ∙ kept (bytes_eq q name && at) (Some row.items) (row_of s q k)
    (λ h. found_there s name key q k (Some row.items) (same_bytes q name (first_true (bytes_eq q name) at h)) (one_key (schema_of s name) row.items k key (second_true (bytes_eq q name) at h) there) is))

-- ---- what was read

ahead : (s : Store) (read : ReadAhead) → is_store s ≡ true → may_be_read s read ≡ true → IsAhead s (record { store = given_by s read; read = read })
ahead s Nothing good may = record { good = good; schemas = λ q. refl; names = refl; read = tt }
ahead s (Row table key row) good may = row_ahead s table.now key.now row (Row table key row) good may (λ t is. is)
ahead s (Rows table rows) good may = record {
  good = rows_good s table.now rows good may;
  schemas = rows_schemas s table.now rows;
  names = sym (same_keys (with_rows rows) table.now s);
  read = rows_there s table.now rows may;
}

given_same : (s : Store) (read : ReadAhead) → is_store s ≡ true → WasRead s read → given_by s read ≡ s
given_same s Nothing good was = refl
given_same s (Row table key row) good was = row_same s table.now key.now row good was
given_same s (Rows table rows) good was = rows_same s table.now rows good was

pub stands : (is_told : Bool) (s : Store) (read : ReadAhead) → is_store s ≡ true → may_be_read s read ≡ true → (IsTrue is_told → WasRead s read) → StandsFor is_told (given_by s read) s
stands is_told s read good may told =
    let is = ahead s read good may in
    record { good = is.good; schemas = is.schemas; names = is.names; told = λ t. given_same s read good (told t) }

pub ahead_of : (given s : Store) (read : ReadAhead) → given ≡ given_by s read → is_store s ≡ true → may_be_read s read ≡ true → IsAhead s (record { store = given; read = read })
ahead_of given s read is good may = subst (λ (t : Store). IsAhead s (record { store = t; read = read })) (sym is) (ahead s read good may)

-- what was told may be
pub not_told : (is_told may : Bool) (s : Store) (read : ReadAhead) → is_store s ≡ true → (IsTrue is_told → WasRead s read) → may ≡ may_be_read s read → may ≡ false → is_told ≡ false
not_told false may s read good told is not = refl
not_told true may s read good told is not = absurd (true≢false (sym (was_may s read good (told refl)) ∙ sym is ∙ not))
