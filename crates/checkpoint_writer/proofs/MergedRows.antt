-- All rows of a table, from its pages into those of an image.
use Rattle.std.proofs.Common.{◌≡◌, ◌⊎◌, inl, inr, ⊎_elim, ℕ, suc, ◌+◌, ◌-◌, ◌*◌, ◌^◌, ◌≤◌, List, [], ◌∷◌, ◌++◌, length, map, Bool, true, refl, sym, ap, ap₂, subst, ◌∙◌, arith, append_assoc, append-nil}
use Rattle.std.specs.Prelude.{IsTrue, Result, Err}
use Rattle.std.specs.Global.{Vec}
use Rattle.std.specs.List.{AllByRecursion}
use Rattle.drda_disk.specs.Disk.{Torn}
use Rattle.drda_disk.proofs.Parts.{part_outside}
use Rattle.row_pages.specs.Page.{IsPage}
use Rattle.row_pages.specs.Laying.{AreFilled, HasSome, IsLaid, IsShort, Laying, laid, laid_behind, rows_over}
use Rattle.row_pages.specs.declared.page.PageKind.{PageKind}
use Rattle.row_pages.specs.declared.page.PageKind.TheVariants as kind
use Rattle.key_map.specs.Merging.{InOrder, MergedInOrder, Rows}
use Rattle.key_map.specs.Overlay.{changes_of}
use Rattle.half_store.specs.Layout.{offset_of}
use Rattle.half_store.specs.Writing.{from_of, half_bytes_of, next_of}
use Rattle.half_store.specs.declared.image.ImageWriter.{ImageWriter}
use Rattle.half_store.specs.declared.layout.Half.{Half}
use Rattle.half_store.specs.declared.layout.Half.TheVariants.{First, Second}
use Rattle.table_map.specs.Cursor.{IsLeft}
use Rattle.table_map.specs.Keyed.{first_keys, keyed_rows}
use Rattle.table_map.specs.Stored.{AreAt, IsStored}
use Rattle.table_map.specs.Table.{Table, rows_of_table, without_keys}
use Rattle.table_map.specs.declared.cursor.RowCursor.{RowCursor}
use Rattle.checkpoint_writer.specs.Errors.{TellsFull}
use Rattle.checkpoint_writer.specs.declared.errors.ImageError.{ImageError}
use Rattle.checkpoint_writer.specs.declared.errors.ImageError.TheVariants.{NoMemory, DeviceFailed, Damaged, Full}
use Rattle.checkpoint_writer.specs.Adding.{end_of_half}
use Rattle.checkpoint_writer.specs.Laying.{StandAt, has_none}
use Rattle.checkpoint_writer.specs.Stored.{HaveKeys, IsImageOf, LieApart}
use Rattle.checkpoint_writer.specs.Writing.{HasLaid}
use Rattle.checkpoint_writer.specs.Steps.{LeavesBehind}
use Rattle.checkpoint_writer.proofs.Told.{all_behind}
use Rattle.checkpoint_writer.specs.declared.merging.TableWriter.{TableWriter}

-- these were given, and with those that are left they are all
pub record IsGiven (key_of : List ℕ → List ℕ) (file : List ℕ) (cursor : RowCursor) (given all : List (List ℕ)) : Type 0 where
  pub left : Rows
  pub is : IsLeft key_of file cursor left
  pub same : given ++ without_keys left ≡ all

-- the rows that were given are laid
pub record Merges (modelled : Bool) (key_of : List ℕ → List ℕ) (table : Table) (first : List ℕ) (begun : ImageWriter) (file : List ℕ) (image : ImageWriter) (writer : TableWriter) (cursor : RowCursor) : Type 0 where
  pub rows : List (List ℕ)
  pub laid : HasLaid modelled key_of file (next_of begun) image writer rows
  pub given : (pages : List (List (List ℕ))) → IsTrue modelled → IsStored key_of table.places pages first → LieApart table.places begun → IsGiven key_of file cursor rows (without_keys (rows_of_table key_of table pages))

-- and those are noted
pub record MergesNoted (modelled : Bool) (key_of : List ℕ → List ℕ) (table : Table) (first : List ℕ) (begun : ImageWriter) (file : List ℕ) (image : ImageWriter) (writer : TableWriter) (cursor : RowCursor) (noted : List (List ℕ)) : Type 0 where
  pub held : Merges modelled key_of table first begun file image writer cursor
  pub same : noted ≡ held.rows

-- ---- pages that stay where they are

pub at_moves : (old new : List ℕ) (from n at : ℕ) (pages : List (List (List ℕ))) → Torn from n old new → (at + 8192 * length pages ≤ from) ⊎ (from + n ≤ at) → AreAt old at pages → AreAt new at pages
at_moves old new from n at [] torn away stand = tt
at_moves old new from n at (p ∷ pages) torn away stand = (
  subst (λ (l : List ℕ). IsPage (record { kind = kind.Rows; rows = p }) l) (sym (part_outside from n at 8192 old new torn (⊎_elim (λ low. inl (omega (arith, low))) (λ high. inr high) away))) stand.0,
  at_moves old new from n (at + 8192) pages torn (⊎_elim (λ low. inl (omega (arith, low))) (λ high. inr (omega (arith, high))) away) stand.1,
)

left_moves : (key_of : List ℕ → List ℕ) (old new : List ℕ) (from n : ℕ) (cursor : RowCursor) (left : Rows) → Torn from n old new → (cursor.base.at + 8192 * cursor.base.pages ≤ from) ⊎ (from + n ≤ cursor.base.at) → IsLeft key_of old cursor left → IsLeft key_of new cursor left
left_moves key_of old new from n cursor left torn away held = record {
  pages = held.pages;
  stand = at_moves old new from n cursor.base.at held.pages torn (⊎_elim (λ low. inl (omega (arith, low, held.many))) (λ high. inr high) away) held.stand;
  many = held.many;
  order = held.order;
  rising = held.rising;
  same = held.same;
}

-- ---- at the beginning

pub begins : (modelled : Bool) (key_of : List ℕ → List ℕ) (file : List ℕ) (image : ImageWriter) (writer : TableWriter) → writer.rows.page ≡ record { kind = kind.Rows; rows = [] } → writer.rows.is_empty ≡ true → writer.first_keys.items ≡ [] → HasLaid modelled key_of file (next_of image) image writer []
begins modelled key_of file image writer page empty keys = record {
  laying = record {
    full = [];
    stand = λ honest. tt;
    next = omega arith;
    same = λ rest. ap (λ p. laid_behind p.rows rest) (sym page);
    empty = empty ∙ ap (λ p. has_none p.rows) (sym page);
    short = tt;
  };
  kind = ap (λ p. p.kind) page;
  keys = ap (λ (l : List (Vec ℕ)). map (λ key. key.items) l) keys;
}

-- ---- rows that are given

pub told_so : (T S : Type 0) (e : ImageError) (end at : ℕ) → TellsFull {T = T} (Err e) end at → TellsFull {T = S} (Err e) end at
told_so T S NoMemory end at tells = tt
told_so T S DeviceFailed end at tells = tt
told_so T S Damaged end at tells = tt
told_so T S (Full full) end at tells = tells

-- what is told of some rows is told of the same ones
pub told_of : (T : Type 0) {S : Type 0} (e : ImageError) (result : Result S ImageError) (end start : ℕ) (rows all : List (List ℕ)) → result ≡ Err e → rows ≡ all → TellsFull {T = T} (Err e) end (start + 8192 * length (laid rows)) → TellsFull result end (start + 8192 * length (laid all))
told_of T {S = S} e result end start rows all is same tells =
    subst (λ (r : Result S ImageError). TellsFull r end (start + 8192 * length (laid all))) (sym is)
    (subst (λ (l : List (List ℕ)). TellsFull {T = S} (Err e) end (start + 8192 * length (laid l))) same (told_so T S e end (start + 8192 * length (laid rows)) tells))

module _ (modelled : Bool) (key_of : List ℕ → List ℕ) (table : Table) (first : List ℕ) (begun : ImageWriter) (file : List ℕ) (image : ImageWriter) (writer : TableWriter) (cursor : RowCursor)
    (held : Merges modelled key_of table first begun file image writer cursor) where
  -- rows that were given, laid and noted
  pub more_given : (new : List ℕ) (after : ImageWriter) (more : TableWriter) (next : RowCursor) (given noted noted_then : List (List ℕ))
      → HasLaid modelled key_of new (next_of begun) after more (held.rows ++ given) → Torn (next_of image) (end_of_half image - next_of image) file new
      → from_of image ≡ from_of begun → half_bytes_of image ≡ half_bytes_of begun → next.base.at + 8192 * next.base.pages ≡ table.places.at + 8192 * length table.places.keys → table.places.at ≤ next.base.at
      → ((left : Rows) → IsTrue modelled → IsLeft key_of file cursor left → LeavesBehind key_of file left given next)
      → noted ≡ held.rows → noted_then ≡ noted ++ given → MergesNoted modelled key_of table first begun new after more next noted_then
  more_given new after more next given noted noted_then laid torn from half end forward gives old_noted noted_more = record {
    held = record {
      rows = held.rows ++ given;
      laid = laid;
      given = λ pages honest is apart.
          let so = held.given pages honest is apart in
          let goes = gives so.left honest so.is in
          record {
            left = goes.more;
            is = left_moves key_of file new (next_of image) (end_of_half image - next_of image) next goes.more torn
                (⊎_elim (λ low. inl (omega (arith, low, end, from))) (λ high. inr (omega (arith, high, forward, from, half, image.fits))) apart)
                goes.is;
            same =
                append_assoc held.rows given (without_keys goes.more)
                ∙ ap (λ (l : List (List ℕ)). held.rows ++ l) (sym goes.same)
                ∙ so.same;
          };
    };
    same = noted_more ∙ ap (λ (rows : List (List ℕ)). rows ++ given) old_noted;
  }

  -- where a page has no room, all pages have none
  pub no_room_for : (T : Type 0) {S : Type 0} (e : ImageError) → from_of image ≡ from_of begun → half_bytes_of image ≡ half_bytes_of begun
      → ((left : Rows) → IsTrue modelled → IsLeft key_of file cursor left → TellsFull {T = T} (Err e) (end_of_half image) (next_of begun + 8192 * length (laid (held.rows ++ without_keys left))))
      → (result : Result S ImageError) → result ≡ Err e
      → (pages : List (List (List ℕ))) → IsTrue modelled → IsStored key_of table.places pages first → LieApart table.places begun
      → TellsFull result (end_of_half begun) (next_of begun + 8192 * length (laid (without_keys (rows_of_table key_of table pages))))
  no_room_for T e from half tells result is_err pages honest is apart =
      let so = held.given pages honest is apart in
      told_of T e result (end_of_half begun) (next_of begun) (held.rows ++ without_keys so.left) (without_keys (rows_of_table key_of table pages)) is_err so.same
      (subst (λ n. TellsFull {T = T} (Err e) n (next_of begun + 8192 * length (laid (held.rows ++ without_keys so.left)))) (ap₂ (λ a b. a + b) from half) (tells so.left honest so.is))

  -- where all rows are short, those that are left are
  pub left_short : (pages : List (List (List ℕ))) (honest : IsTrue modelled) (is : IsStored key_of table.places pages first) (apart : LieApart table.places begun) → AllByRecursion IsShort (without_keys (rows_of_table key_of table pages))
      → AllByRecursion IsShort (without_keys (held.given pages honest is apart).left)
  left_short pages honest is apart short =
      let so = held.given pages honest is apart in
      all_behind IsShort held.rows (without_keys so.left) (subst (λ (l : List (List ℕ)). AllByRecursion IsShort l) (sym so.same) short)

  -- ---- at the end

  -- all were given
  pub all_given : ((left : Rows) → IsTrue modelled → IsLeft key_of file cursor left → left ≡ []) → (pages : List (List (List ℕ))) → IsTrue modelled → IsStored key_of table.places pages first → LieApart table.places begun
      → held.rows ≡ without_keys (rows_of_table key_of table pages)
  all_given none pages honest is apart =
      let so = held.given pages honest is apart in
      sym (append-nil held.rows) ∙ ap (λ (l : Rows). held.rows ++ without_keys l) (sym (none so.left honest so.is)) ∙ so.same

  pub full_last : (T : Type 0) {S : Type 0} (e : ImageError) (end : ℕ) → end ≡ end_of_half begun → ((left : Rows) → IsTrue modelled → IsLeft key_of file cursor left → left ≡ [])
      → TellsFull {T = T} (Err e) end (next_of begun + 8192 * length (laid held.rows)) → (result : Result S ImageError) → result ≡ Err e
      → (pages : List (List (List ℕ))) → IsTrue modelled → IsStored key_of table.places pages first → LieApart table.places begun
      → TellsFull result (end_of_half begun) (next_of begun + 8192 * length (laid (without_keys (rows_of_table key_of table pages))))
  full_last T e end is_end none tells result is_err pages honest is apart =
      told_of T e result (end_of_half begun) (next_of begun) held.rows (without_keys (rows_of_table key_of table pages)) is_err (all_given none pages honest is apart)
      (subst (λ n. TellsFull {T = T} (Err e) n (next_of begun + 8192 * length (laid held.rows))) is_end tells)

-- ---- the table that was written

pub rows_stand : (file : List ℕ) (at : ℕ) (pages : List (List (List ℕ))) → StandAt kind.Rows file at pages → AreAt file at pages
rows_stand file at [] stand = tt
rows_stand file at (p ∷ pages) stand = (stand.0, rows_stand file (at + 8192) pages stand.1)

pub some_rows : (pages : List (List (List ℕ))) → AreFilled pages → AllByRecursion HasSome pages
some_rows [] all = tt
some_rows (p ∷ pages) all = (all.0, some_rows pages all.3)

pub many_keys : (key_of : List ℕ → List ℕ) (pages : List (List (List ℕ))) → length (first_keys key_of pages) ≡ length pages
many_keys key_of [] = refl
many_keys key_of (p ∷ pages) = ap suc (many_keys key_of pages)

pub stored : Laying → MergedInOrder → (key_of : List ℕ → List ℕ) (table : Table) (pages : List (List (List ℕ))) (first file : List ℕ) (start : ℕ) (k : PageKind) (keys : List (List ℕ)) (rows : List (List ℕ))
    → IsStored key_of table.places pages first → HaveKeys key_of (rows_of_table key_of table pages) → rows ≡ without_keys (rows_of_table key_of table pages)
    → k ≡ kind.Rows → StandAt k file start (laid rows) → keys ≡ first_keys key_of (laid rows) → AllByRecursion IsShort rows
    → IsImageOf key_of (rows_of_table key_of table pages) (record { at = start; keys = keys }) file
stored law merging key_of table pages first file start k keys rows is own same kind_is stand are short =
    let all = without_keys (rows_of_table key_of table pages) in
    let shorts : AllByRecursion IsShort all = subst (λ (l : List (List ℕ)). AllByRecursion IsShort l) same short in
    let laying : IsLaid all (laid all) = law all shorts in
    let back : keyed_rows key_of (rows_over (laid all)) ≡ rows_of_table key_of table pages = ap (λ (l : List (List ℕ)). keyed_rows key_of l) laying.same ∙ own in
    record {
      stored = record {
        stand = subst (λ (l : List (List ℕ)). AreAt file start (laid l)) same (rows_stand file start (laid rows) (subst (λ (k : PageKind). StandAt k file start (laid rows)) kind_is stand));
        some = some_rows (laid all) laying.filled;
        first = are ∙ ap (λ (l : List (List ℕ)). first_keys key_of (laid l)) same;
        order = subst (λ (r : Rows). InOrder r) (sym back) (merging (keyed_rows key_of (rows_over pages)) (changes_of table.overlay) is.order);
      };
      same = back;
      short = shorts;
    }

offset_low : (h : ℕ) (half : Half) → offset_of h half ≤ 8192 + h
offset_low h First = omega arith
offset_low h Second = omega arith

-- a half ends below 2 ^ 40
pub end_small : (w : ImageWriter) → end_of_half w ≤ 2 ^ 32
end_small w = omega (arith, w.small, offset_low w.half_bytes w.half)
