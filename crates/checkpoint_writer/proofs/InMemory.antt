-- The rows of a table that lie in memory, one by one.
use Rattle.std.proofs.Common.{◌≡◌, ℕ, ◌+◌, ◌*◌, List, [], ◌∷◌, ◌++◌, length, map, Bool, true, false, refl, sym, ap, ap₂, subst, ◌∙◌, arith, append_assoc, append-nil, length-append}
use Rattle.std.specs.Prelude.{Result, Err}
use Rattle.std.specs.Global.{Vec}
use Rattle.std.specs.List.{AllByRecursion}
use Rattle.std.proofs.lemmas.List.{map-append, length-map}
use Rattle.row_pages.specs.Laying.{IsLaid, IsShort, Laying, laid, laid_behind, rows_over}
use Rattle.row_pages.specs.declared.page.PageKind.{PageKind}
use Rattle.row_pages.specs.declared.page.PageKind.TheVariants as kind
use Rattle.key_map.specs.Merging.{InOrder, Rows}
use Rattle.half_store.specs.Writing.{from_of, half_bytes_of, next_of}
use Rattle.half_store.specs.declared.image.ImageWriter.{ImageWriter}
use Rattle.table_map.specs.Keyed.{first_keys, keyed_rows}
use Rattle.table_map.specs.Table.{without_keys}
use Rattle.checkpoint_writer.specs.Adding.{end_of_half}
use Rattle.checkpoint_writer.specs.Errors.{TellsFull}
use Rattle.checkpoint_writer.specs.Laying.{IsLaying, StandAt, has_none, key_if}
use Rattle.checkpoint_writer.specs.Stored.{HaveKeys, IsImageOf}
use Rattle.checkpoint_writer.specs.Writing.{HasLaidAt}
use Rattle.checkpoint_writer.specs.declared.errors.ImageError.{ImageError}
use Rattle.checkpoint_writer.specs.declared.merging.TableWriter.{TableWriter}
use Rattle.checkpoint_writer.specs.declared.rows.RowWriter.{RowWriter}
use Rattle.checkpoint_writer.proofs.MergedRows.{many_keys, rows_stand, some_rows, told_so}
use Rattle.checkpoint_writer.proofs.Told.{all_behind}

-- ---- rows under their keys

head_same : (x y : List ℕ × List ℕ) (xs ys : Rows) → x ∷ xs ≡ y ∷ ys → x ≡ y
head_same x y xs ys e = cc

tail_same : (x y : List ℕ × List ℕ) (xs ys : Rows) → x ∷ xs ≡ y ∷ ys → xs ≡ ys
tail_same x y xs ys e = cc

-- those in front have theirs, and so has the last one
front_has : (key_of : List ℕ → List ℕ) (rows : Rows) (key row : List ℕ) → HaveKeys key_of (rows ++ (key, row) ∷ []) → HaveKeys key_of rows × (key_of row ≡ key)
front_has key_of [] key row have = (refl, ap (λ (e : List ℕ × List ℕ). e.0) (head_same (key_of row, row) (key, row) [] [] have))
front_has key_of (e ∷ rows) key row have =
    let more = front_has key_of rows key row (tail_same (key_of e.1, e.1) e (keyed_rows key_of (without_keys (rows ++ (key, row) ∷ []))) (rows ++ (key, row) ∷ []) have) in
    (ap₂ (λ (x : List ℕ × List ℕ) (l : Rows). x ∷ l) (head_same (key_of e.1, e.1) e (keyed_rows key_of (without_keys (rows ++ (key, row) ∷ []))) (rows ++ (key, row) ∷ []) have) more.0, more.1)

-- ---- one row

module _ (modelled : Bool) (old new : List ℕ) (start : ℕ) (before after : ImageWriter) (writer : TableWriter) (rows : Rows) (key row : List ℕ) (first : Bool) (rest : RowWriter)
    (held : HasLaidAt modelled old start before writer rows) (laying : IsLaying modelled new start after rest (without_keys rows ++ row ∷ []))
    (same_kind : rest.page.kind ≡ writer.rows.page.kind)
    (more : (key_of : List ℕ → List ℕ) → first_keys key_of (laid (without_keys rows ++ row ∷ [])) ≡ first_keys key_of (laid (without_keys rows)) ++ key_if first (key_of row)) where
  all : without_keys (rows ++ (key, row) ∷ []) ≡ without_keys rows ++ row ∷ []
  all = map-append (λ (e : List ℕ × List ℕ). e.1) rows ((key, row) ∷ [])

  laid_now : IsLaying modelled new start after rest (without_keys (rows ++ (key, row) ∷ []))
  laid_now = subst (λ (l : List (List ℕ)). IsLaying modelled new start after rest l) (sym all) laying

  pages_now : length (laid (without_keys (rows ++ (key, row) ∷ []))) ≡ length (laid (without_keys rows)) + length (key_if first row)
  pages_now =
      ap (λ (l : List (List ℕ)). length (laid l)) all
      ∙ sym (many_keys (λ r. r) (laid (without_keys rows ++ row ∷ [])))
      ∙ ap length (more (λ r. r))
      ∙ length-append (first_keys (λ r. r) (laid (without_keys rows))) (key_if first row)
      ∙ ap (λ n. n + length (key_if first row)) (many_keys (λ r. r) (laid (without_keys rows)))

  -- it is the first of its page
  pub with_key_at : (keys : Vec (Vec ℕ)) (copy : Vec ℕ) → first ≡ true → keys.items ≡ writer.first_keys.items ++ copy ∷ [] → copy.items ≡ key → HasLaidAt modelled new start after (record { rows = rest; first_keys = keys }) (rows ++ (key, row) ∷ [])
  with_key_at keys copy is pushed same = record {
    laying = laid_now;
    kind = same_kind ∙ held.kind;
    many =
        ap length pushed ∙ length-append writer.first_keys.items (copy ∷ [])
        ∙ ap (λ n. n + 1) held.many
        ∙ ap (λ b. length (laid (without_keys rows)) + length (key_if b row)) (sym is)
        ∙ sym pages_now;
    keys = λ key_of have.
        let parts = front_has key_of rows key row have in
        ap (λ (l : List (Vec ℕ)). map (λ k. k.items) l) pushed
        ∙ map-append (λ (k : Vec ℕ). k.items) writer.first_keys.items (copy ∷ [])
        ∙ ap (λ (k : List ℕ). map (λ (k : Vec ℕ). k.items) writer.first_keys.items ++ k ∷ []) (same ∙ sym parts.1)
        ∙ ap (λ (l : List (List ℕ)). l ++ key_of row ∷ []) (held.keys key_of parts.0)
        ∙ ap (λ b. first_keys key_of (laid (without_keys rows)) ++ key_if b (key_of row)) (sym is)
        ∙ sym (more key_of)
        ∙ ap (λ (l : List (List ℕ)). first_keys key_of (laid l)) (sym all);
  }

  -- it is not
  pub without_key_at : first ≡ false → HasLaidAt modelled new start after (record { rows = rest; first_keys = writer.first_keys }) (rows ++ (key, row) ∷ [])
  without_key_at is = record {
    laying = laid_now;
    kind = same_kind ∙ held.kind;
    many = held.many ∙ omega arith ∙ ap (λ b. length (laid (without_keys rows)) + length (key_if b row)) (sym is) ∙ sym pages_now;
    keys = λ key_of have.
        let parts = front_has key_of rows key row have in
        held.keys key_of parts.0
        ∙ sym (append-nil (first_keys key_of (laid (without_keys rows))))
        ∙ ap (λ b. first_keys key_of (laid (without_keys rows)) ++ key_if b (key_of row)) (sym is)
        ∙ sym (more key_of)
        ∙ ap (λ (l : List (List ℕ)). first_keys key_of (laid l)) (sym all);
  }

-- ---- all rows

-- these were laid, and with those that are left they are all
pub record IsPart (modelled : Bool) (file : List ℕ) (start : ℕ) (image : ImageWriter) (writer : TableWriter) (left all : Rows) : Type 0 where
  pub rows : Rows
  pub laid : HasLaidAt modelled file start image writer rows
  pub same : rows ++ left ≡ all

pub none_laid : (modelled : Bool) (file : List ℕ) (image : ImageWriter) (writer : TableWriter) (all : Rows) → writer.rows.page ≡ record { kind = kind.Rows; rows = [] } → writer.rows.is_empty ≡ true → writer.first_keys.items ≡ []
    → IsPart modelled file (next_of image) image writer all all
none_laid modelled file image writer all page empty keys = record {
  rows = [];
  laid = record {
    laying = record {
      full = [];
      stand = λ honest. tt;
      next = omega arith;
      same = λ rest. ap (λ p. laid_behind p.rows rest) (sym page);
      empty = empty ∙ ap (λ p. has_none p.rows) (sym page);
      short = tt;
    };
    kind = ap (λ p. p.kind) page;
    many = ap length keys;
    keys = λ key_of have. ap (λ (l : List (Vec ℕ)). map (λ key. key.items) l) keys;
  };
  same = refl;
}

told_from : (T : Type 0) {S : Type 0} (e : ImageError) (result : Result S ImageError) (end there at all : ℕ) → result ≡ Err e → end ≡ there → at ≡ all → TellsFull {T = T} (Err e) end at → TellsFull result there all
told_from T {S = S} e result end there at all is same_end same_at tells =
    subst (λ (r : Result S ImageError). TellsFull r there all) (sym is)
    (subst (λ n. TellsFull {T = S} (Err e) n all) same_end (subst (λ n. TellsFull {T = S} (Err e) end n) same_at (told_so T S e end at tells)))

module _ (modelled : Bool) (file : List ℕ) (start : ℕ) (image : ImageWriter) (writer : TableWriter) (left all : Rows) (held : IsPart modelled file start image writer left all) where
  rows_now : (key row : List ℕ) (rest : Rows) → left ≡ (key, row) ∷ rest → without_keys held.rows ++ row ∷ without_keys rest ≡ without_keys all
  rows_now key row rest is =
      sym (map-append (λ (e : List ℕ × List ℕ). e.1) held.rows ((key, row) ∷ rest))
      ∙ ap (λ (l : Rows). without_keys (held.rows ++ l)) (sym is)
      ∙ ap without_keys held.same

  -- a row more
  pub one_part : (new : List ℕ) (after : ImageWriter) (more : TableWriter) (key row : List ℕ) (rest : Rows) → left ≡ (key, row) ∷ rest → HasLaidAt modelled new start after more (held.rows ++ (key, row) ∷ [])
      → IsPart modelled new start after more rest all
  one_part new after more key row rest is laid = record {
    rows = held.rows ++ (key, row) ∷ [];
    laid = laid;
    same = append_assoc held.rows ((key, row) ∷ []) rest ∙ ap (λ (l : Rows). held.rows ++ l) (sym is) ∙ held.same;
  }

  -- where a page has no room, all pages have none
  pub full_part : (T : Type 0) {S : Type 0} (begun : ImageWriter) (e : ImageError) (result : Result S ImageError) (key row : List ℕ) (rest : Rows) → result ≡ Err e → from_of image ≡ from_of begun → half_bytes_of image ≡ half_bytes_of begun → left ≡ (key, row) ∷ rest
      → TellsFull {T = T} (Err e) (end_of_half image) (start + 8192 * length (laid (without_keys held.rows ++ row ∷ without_keys rest))) → TellsFull result (end_of_half begun) (start + 8192 * length (laid (without_keys all)))
  full_part T begun e result key row rest is_err from half is tells =
      told_from T e result (end_of_half image) (end_of_half begun) (start + 8192 * length (laid (without_keys held.rows ++ row ∷ without_keys rest))) (start + 8192 * length (laid (without_keys all)))
      is_err (ap₂ (λ a b. a + b) from half) (ap (λ (l : List (List ℕ)). start + 8192 * length (laid l)) (rows_now key row rest is)) tells

  -- where all rows are short, one of them is
  pub short_part : (key row : List ℕ) (rest : Rows) → left ≡ (key, row) ∷ rest → AllByRecursion IsShort (without_keys all) → IsShort row
  short_part key row rest is short =
      (all_behind IsShort (without_keys held.rows) (row ∷ without_keys rest) (subst (λ (l : List (List ℕ)). AllByRecursion IsShort l) (sym (rows_now key row rest is)) short)).0

  -- ---- at the end

  pub all_part : left ≡ [] → held.rows ≡ all
  all_part none = sym (append-nil held.rows) ∙ ap (λ (l : Rows). held.rows ++ l) (sym none) ∙ held.same

  pub full_end : (T : Type 0) {S : Type 0} (begun : ImageWriter) (e : ImageError) (result : Result S ImageError) → result ≡ Err e → from_of image ≡ from_of begun → half_bytes_of image ≡ half_bytes_of begun → left ≡ []
      → TellsFull {T = T} (Err e) (end_of_half image) (start + 8192 * length (laid (without_keys held.rows))) → TellsFull result (end_of_half begun) (start + 8192 * length (laid (without_keys all)))
  full_end T begun e result is_err from half none tells =
      told_from T e result (end_of_half image) (end_of_half begun) (start + 8192 * length (laid (without_keys held.rows))) (start + 8192 * length (laid (without_keys all)))
      is_err (ap₂ (λ a b. a + b) from half) (ap (λ (l : Rows). start + 8192 * length (laid (without_keys l))) (all_part none)) tells

  pub many_end : left ≡ [] → length (map (λ (key : Vec ℕ). key.items) writer.first_keys.items) ≡ length (laid (without_keys all))
  many_end none = length-map writer.first_keys.items (λ (key : Vec ℕ). key.items) ∙ held.laid.many ∙ ap (λ (l : Rows). length (laid (without_keys l))) (all_part none)

  -- the table that was written
  pub stored_part : Laying → (key_of : List ℕ → List ℕ) (new : List ℕ) → left ≡ [] → InOrder all → HaveKeys key_of all
      → StandAt writer.rows.page.kind new start (laid (without_keys held.rows)) → IsImageOf key_of all (record { at = start; keys = map (λ (key : Vec ℕ). key.items) writer.first_keys.items }) new
  stored_part law key_of new none order own stand =
      let same = all_part none in
      let shorts : AllByRecursion IsShort (without_keys all) = subst (λ (l : Rows). AllByRecursion IsShort (without_keys l)) same held.laid.laying.short in
      let laying : IsLaid (without_keys all) (laid (without_keys all)) = law (without_keys all) shorts in
      let back : keyed_rows key_of (rows_over (laid (without_keys all))) ≡ all = ap (λ (l : List (List ℕ)). keyed_rows key_of l) laying.same ∙ own in
      record {
        stored = record {
          stand = rows_stand new start (laid (without_keys all))
              (subst (λ (l : Rows). StandAt kind.Rows new start (laid (without_keys l))) same (subst (λ (k : PageKind). StandAt k new start (laid (without_keys held.rows))) held.laid.kind stand));
          some = some_rows (laid (without_keys all)) laying.filled;
          first = held.laid.keys key_of (subst (λ (l : Rows). HaveKeys key_of l) (sym same) own) ∙ ap (λ (l : Rows). first_keys key_of (laid (without_keys l))) same;
          order = subst (λ (r : Rows). InOrder r) (sym back) order;
        };
        same = back;
        short = shorts;
      }
