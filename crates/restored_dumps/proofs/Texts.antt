-- The text of a store is that of its lines.
use Rattle.std.proofs.Common.{◌≡◌, ℕ, ◌+◌, Bool, true, false, List, [], ◌∷◌, ◌++◌, refl, sym, ap, ◌∙◌, append_assoc}
use Rattle.std.specs.Prelude.{◌==◌, codes, if◌then◌else◌}
use Rattle.std.specs.List.{flat_map}
use Rattle.std.specs.Map.{values_of}
use Rattle.row_values.specs.Schema.{Schema}
use Rattle.row_values.specs.Row.{values_in}
use Rattle.tables.specs.Tables.{Store, Table}
use Rattle.sql_spelling.specs.Text.{create_text, insert_text}
use Rattle.store_dump.specs.Dump.{commit_text, dump_text, last_commit, row_line, rows_text, since_commit, table_line, table_text, unit_end}
use Rattle.restored_dumps.specs.Restoring.{Line, Commit, line_text, last_lines, row_lines, table_lines, lines_of}

joined : {A B : Type 0} (f : A → List B) (xs ys : List A) → flat_map f (xs ++ ys) ≡ flat_map f xs ++ flat_map f ys
joined f [] ys = refl
joined f (x ∷ xs) ys = ap (λ z. f x ++ z) (joined f xs ys) ∙ sym (append_assoc (f x) (flat_map f xs) (flat_map f ys))

last_same : (n : ℕ) → last_commit n ≡ flat_map line_text (last_lines n)
last_same n = by (n == 0)
  where
    by : (b : Bool) → (if b then [] else commit_text) ≡ flat_map line_text (if b then [] else Commit ∷ [])
    by true = refl
    by false = refl

module _ (name : List ℕ) (schema : Schema) where
  row_same : (row : List ℕ) (n : ℕ) (b : Bool) (zero_ more : List ℕ) (zeros mores : List Line) → zero_ ≡ flat_map line_text zeros → more ≡ flat_map line_text mores
      → (insert_text name (values_in schema row) ++ (codes ";\n" ++ (if b then commit_text else []))) ++ (if b then zero_ else more) ≡ (insert_text name (values_in schema row) ++ codes ";\n") ++ flat_map line_text (if b then Commit ∷ zeros else mores)
  row_same row n true zero_ more zeros mores p q =
      let insert = insert_text name (values_in schema row) in
      append_assoc insert (codes ";\n" ++ commit_text) zero_ ∙ sym (append_assoc insert (codes ";\n") (commit_text ++ zero_)) ∙ ap (λ z. (insert ++ codes ";\n") ++ (commit_text ++ z)) p
  row_same row n false zero_ more zeros mores p q = ap (λ z. (insert_text name (values_in schema row) ++ codes ";\n") ++ z) q

  since : (b : Bool) (n : ℕ) (rows : List (List ℕ)) → rows_text name schema (if b then 0 else n) rows ≡ (if b then rows_text name schema 0 rows else rows_text name schema n rows)
  since true n rows = refl
  since false n rows = refl

  rows_same : (rows : List (List ℕ)) (n : ℕ) → rows_text name schema n rows ≡ flat_map line_text (row_lines name schema n rows)
  rows_same [] n = last_same n
  rows_same (row ∷ rows) n =
      ap (λ z. row_line name schema n row ++ z) (since (n + 1 == 256) (n + 1) rows)
      ∙ row_same row n (n + 1 == 256) (rows_text name schema 0 rows) (rows_text name schema (n + 1) rows) (row_lines name schema 0 rows) (row_lines name schema (n + 1) rows) (rows_same rows 0) (rows_same rows (n + 1))

table_same : (e : List ℕ × Table) → table_text e.0 e.1.schema (values_of e.1.rows) ≡ flat_map line_text (table_lines e)
table_same e =
    let create = create_text e.0 e.1.schema in
    let rest = rows_text e.0 e.1.schema 0 (values_of e.1.rows) in
    append_assoc create (codes ";\nCOMMIT;\n") rest ∙ sym (append_assoc create (codes ";\n") (commit_text ++ rest)) ∙ ap (λ z. (create ++ codes ";\n") ++ (commit_text ++ z)) (rows_same e.0 e.1.schema (values_of e.1.rows) 0)

pub text_same : (store : Store) → dump_text store ≡ flat_map line_text (lines_of store)
text_same [] = refl
text_same (e ∷ es) =
    ap (λ z. z ++ dump_text es) (table_same e) ∙ ap (λ z. flat_map line_text (table_lines e) ++ z) (text_same es) ∙ sym (joined line_text (table_lines e) (lines_of es))
