-- How far the rows of a table are written.
use Rattle.std.proofs.Common.{◌≡◌, ℕ, List, [], ◌∷◌, ◌++◌, Option, Some, None, refl, sym, ap, ◌∙◌, subst, append_assoc, take, drop, take-append-drop, Result, Ok, Err}
use Rattle.std.specs.Result.{IsErr}
use Rattle.std.specs.Io.KnownBytes.{Appends}
use Rattle.row_values.specs.Schema.{Schema}
use Rattle.key_map.specs.Merging.{Rows}
use Rattle.table_map.specs.Cursor.{IsLeft, GoesOn}
use Rattle.table_map.specs.Table.{without_keys}
use Rattle.table_map.specs.declared.cursor.RowCursor.{RowCursor}
use Rattle.store_dump.specs.Dump.{HasFront, IsWritten, last_commit, row_line, rows_text, since_commit}

pub appended : (a b c : Option (List ℕ)) (x y : List ℕ) → Appends a b x → Appends b c y → Appends a c (x ++ y)
appended None b c x y e f = tt
appended (Some u) None c x y e f = absurd e
appended (Some u) (Some v) None x y e f = absurd f
appended (Some u) (Some v) (Some w) x y e f = f ∙ ap (λ z. z ++ y) e ∙ append_assoc u x y

pub nothing_appended : (a : Option (List ℕ)) → Appends a a []
nothing_appended None = tt
nothing_appended (Some u) = sym (nil u)
  where
    nil : (u : List ℕ) → u ++ [] ≡ u
    nil [] = refl
    nil (b ∷ u) = ap (λ z. b ∷ z) (nil u)

-- ---- fronts

-- nothing is written
pub no_front : (text : List ℕ) (a : Option (List ℕ)) → HasFront text a a
no_front text a = record { front = []; rest = text; both = refl; wrote = nothing_appended a }

-- a front of what stands behind what is written
pub front_behind : (text x y : List ℕ) (a b c : Option (List ℕ)) → x ++ y ≡ text → Appends a b x → HasFront y b c → HasFront text a c
front_behind text x y a b c is wrote h = record {
  front = x ++ h.front;
  rest = h.rest;
  both = sym is ∙ ap (λ z. x ++ z) h.both ∙ sym (append_assoc x h.front h.rest);
  wrote = appended a b c x h.front wrote h.wrote;
}

-- a front of what stands in front
pub front_of_front : (text x y : List ℕ) (a b : Option (List ℕ)) → x ++ y ≡ text → HasFront x a b → HasFront text a b
front_of_front text x y a b is h = record {
  front = h.front;
  rest = h.rest ++ y;
  both = sym is ∙ ap (λ z. z ++ y) h.both ∙ append_assoc h.front h.rest y;
  wrote = h.wrote;
}

pub front_taken : (text : List ℕ) (a b : Option (List ℕ)) → (count : ℕ) × Appends a b (take count text) → HasFront text a b
front_taken text a b (count, wrote) = record { front = take count text; rest = drop count text; both = sym (take-append-drop count text); wrote = wrote }

-- what failed wrote a front
pub failed : {A E : Type 0} (text : List ℕ) (r : Result A E) (a b : Option (List ℕ)) → IsErr r → HasFront text a b → IsWritten text r a b
failed text (Ok x) a b is front = absurd (cc is)
failed text (Err e) a b is front = front

-- what is written so far
pub front_so_far : (text x y : List ℕ) (a b : Option (List ℕ)) → x ++ y ≡ text → Appends a b x → HasFront text a b
front_so_far text x y a b is wrote = record { front = x; rest = y; both = sym is; wrote = wrote }

-- with the lines of the rows that are left, what is written is all
pub record IsWriting (key_of : List ℕ → List ℕ) (file : List ℕ) (cursor : RowCursor) (name : List ℕ) (schema : Schema) (since : ℕ) (before now : Option (List ℕ)) (all : List (List ℕ)) : Type 0 where
  pub left : Rows
  pub is : IsLeft key_of file cursor left
  pub written : List ℕ
  pub so_far : Appends before now written
  pub same : written ++ rows_text name schema since (without_keys left) ≡ rows_text name schema 0 all

module _ (key_of : List ℕ → List ℕ) (file name : List ℕ) (schema : Schema) (before : Option (List ℕ)) (all : List (List ℕ)) where
  pub one_written : (old new : RowCursor) (since more : ℕ) (now then_ : Option (List ℕ)) (row : List ℕ) (held : IsWriting key_of file old name schema since before now all) → GoesOn key_of file held.left row new
      → Appends now then_ (row_line name schema since row) → more ≡ since_commit since → IsWriting key_of file new name schema more before then_ all
  one_written old new since more now then_ row held goes line is = record {
    left = goes.more;
    is = goes.is;
    written = held.written ++ row_line name schema since row;
    so_far = appended before now then_ held.written (row_line name schema since row) held.so_far line;
    same =
        append_assoc held.written (row_line name schema since row) (rows_text name schema more (without_keys goes.more))
        ∙ ap (λ (n : ℕ). held.written ++ (row_line name schema since row ++ rows_text name schema n (without_keys goes.more))) is
        ∙ ap (λ (l : Rows). held.written ++ rows_text name schema since (without_keys l)) (sym goes.same)
        ∙ held.same;
  }

  pub all_written : (cursor : RowCursor) (since : ℕ) (now then_ : Option (List ℕ)) (held : IsWriting key_of file cursor name schema since before now all) → held.left ≡ [] → Appends now then_ (last_commit since) → Appends before then_ (rows_text name schema 0 all)
  all_written cursor since now then_ held none line =
      let whole = ap (λ (l : Rows). held.written ++ rows_text name schema since (without_keys l)) (sym none) ∙ held.same in
      subst (λ (z : List ℕ). Appends before then_ z) whole (appended before now then_ held.written (last_commit since) held.so_far line)

  pub front_told : (cursor : RowCursor) (since : ℕ) (now : Option (List ℕ)) → IsWriting key_of file cursor name schema since before now all → HasFront (rows_text name schema 0 all) before now
  front_told cursor since now held = front_so_far (rows_text name schema 0 all) held.written (rows_text name schema since (without_keys held.left)) before now held.same held.so_far

  pub front_with_line : (old new : RowCursor) (since : ℕ) (now then_ : Option (List ℕ)) (row : List ℕ) (held : IsWriting key_of file old name schema since before now all) → GoesOn key_of file held.left row new
      → HasFront (row_line name schema since row) now then_ → HasFront (rows_text name schema 0 all) before then_
  front_with_line old new since now then_ row held goes line =
      front_behind (rows_text name schema 0 all) held.written (rows_text name schema since (without_keys held.left)) before now then_ held.same held.so_far
      (front_of_front (rows_text name schema since (without_keys held.left)) (row_line name schema since row) (rows_text name schema (since_commit since) (without_keys goes.more)) now then_
      (ap (λ (l : Rows). rows_text name schema since (without_keys l)) (sym goes.same)) line)

  pub front_with_last : (cursor : RowCursor) (since : ℕ) (now then_ : Option (List ℕ)) (held : IsWriting key_of file cursor name schema since before now all) → held.left ≡ [] → HasFront (last_commit since) now then_ → HasFront (rows_text name schema 0 all) before then_
  front_with_last cursor since now then_ held none line =
      front_behind (rows_text name schema 0 all) held.written (last_commit since) before now then_ (ap (λ (l : Rows). held.written ++ rows_text name schema since (without_keys l)) (sym none) ∙ held.same) held.so_far line
