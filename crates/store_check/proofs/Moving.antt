-- Tables one behind another, while pages are written behind them.
use Rattle.std.proofs.Common.{◌≡◌, inl, ℕ, ◌+◌, ◌≤◌, true, ◌&&◌, List, [], ◌∷◌, ◌++◌, length, refl, sym, ap, ap₂, subst, ◌∙◌, arith, append_assoc}
use Rattle.std.specs.Prelude.{Bool, IsTrue, Result, Err}
use Rattle.std.specs.List.{AllByRecursion, list_all}
use Rattle.std.specs.Map.{keys_of, values_of}
use Rattle.std.specs.Ordering.{nat_cmp}
use Rattle.std.specs.Cmp.Lexicographic.{slice_cmp}
use Rattle.drda_words.specs.Order.{rises}
use Rattle.drda_disk.specs.Disk.{Torn}
use Rattle.row_values.specs.Schema.{is_name}
use Rattle.row_values.proofs.ValueLaws.{first_true}
use Rattle.row_pages.specs.Laying.{laid}
use Rattle.key_map.specs.RowForm.{row_form}
use Rattle.tables.specs.Tables.{Store, Table}
use Rattle.tables.specs.View.{is_store, is_table}
use Rattle.table_map.specs.Table.{without_keys}
use Rattle.half_store.specs.Writing.{from_of, next_of, pages_of}
use Rattle.half_store.specs.declared.image.ImageWriter.{ImageWriter}
use Rattle.checkpoint_writer.specs.Catalogue.{Entry}
use Rattle.checkpoint_writer.specs.Errors.{TellsFull}
use Rattle.checkpoint_writer.specs.declared.errors.ImageError.{ImageError}
use Rattle.checkpoint_writer.proofs.Filling.{tells_more}
use Rattle.checkpoint_writer.proofs.MergedRows.{at_moves, told_so}
use Rattle.store_check.specs.Checkpoint.{forms}
use Rattle.store_check.specs.Half.{page_at}
use Rattle.store_check.specs.Written.{IsWritten}
use Rattle.store_check.specs.Laying.{laid_at, laid_from, rows_under}
use Rattle.store_check.specs.Room.{entries_from, entry_of_table, pages_of_table, pages_of_tables}
use Rattle.store_check.proofs.Placing.{bare_under}

-- ---- a table more

pub pages_more : (done : Store) (e : List ℕ × Table) (rest : Store) → pages_of_tables (done ++ e ∷ rest) ≡ pages_of_tables done + pages_of_table e.1 + pages_of_tables rest
pages_more [] e rest = omega arith
pages_more (d ∷ done) e rest = omega (arith, pages_more done e rest)

pub entries_more : (next : ℕ) (done : Store) (e : List ℕ × Table) → entries_from next (done ++ e ∷ []) ≡ entries_from next done ++ entry_of_table (next + pages_of_tables done) e ∷ []
entries_more next [] e = let same : next ≡ next + 0 = omega arith in ap (λ n. entry_of_table n e ∷ []) same
entries_more next (d ∷ done) e =
    let same : next + pages_of_table d.1 + pages_of_tables done ≡ next + (pages_of_table d.1 + pages_of_tables done) = omega arith in
    ap (λ (l : List Entry). entry_of_table next d ∷ l) (entries_more (next + pages_of_table d.1) done e ∙ ap (λ n. entries_from (next + pages_of_table d.1) done ++ entry_of_table n e ∷ []) same)

pub written_more : (file : List ℕ) (at next : ℕ) (done : Store) (e : List ℕ × Table) → AllByRecursion (IsWritten forms file at) (laid_from at next done) → IsWritten forms file at (laid_at at (next + pages_of_tables done) e)
    → AllByRecursion (IsWritten forms file at) (laid_from at next (done ++ e ∷ []))
written_more file at next [] e all one = let same : next + 0 ≡ next = omega arith in (subst (λ n. IsWritten forms file at (laid_at at n e)) same one, tt)
written_more file at next (d ∷ done) e all one =
    let same : next + (pages_of_table d.1 + pages_of_tables done) ≡ next + pages_of_table d.1 + pages_of_tables done = omega arith in
    (all.0, written_more file at (next + pages_of_table d.1) done e all.1 (subst (λ n. IsWritten forms file at (laid_at at n e)) same one))

-- ---- pages behind them

one_stays : (old new : List ℕ) (from n at next : ℕ) (e : List ℕ × Table) → Torn from n old new → page_at at (next + pages_of_table e.1) ≤ from → IsWritten forms old at (laid_at at next e) → IsWritten forms new at (laid_at at next e)
one_stays old new from n at next e torn low is =
    let bare : length (laid (without_keys (rows_under e.1))) ≡ pages_of_table e.1 = ap (λ (l : List (List ℕ)). length (laid l)) (bare_under (row_form e.1.schema) (values_of e.1.rows)) in
    record {
      image = record {
        stored = record {
          stand = at_moves old new from n (page_at at next) (laid (without_keys (rows_under e.1))) torn (inl (omega (arith, low, bare))) is.image.stored.stand;
          some = is.image.stored.some;
          first = is.image.stored.first;
          order = is.image.stored.order;
        };
        same = is.image.same;
        short = is.image.short;
      };
      fit = is.fit;
      many = is.many;
      place = is.place;
    }

pub all_stay : (old new : List ℕ) (from n at next : ℕ) (tables : Store) → Torn from n old new → page_at at (next + pages_of_tables tables) ≤ from → AllByRecursion (IsWritten forms old at) (laid_from at next tables) → AllByRecursion (IsWritten forms new at) (laid_from at next tables)
all_stay old new from n at next [] torn low all = tt
all_stay old new from n at next (e ∷ tables) torn low all = (
  one_stays old new from n at next e torn (omega (arith, low)) all.0,
  all_stay old new from n at (next + pages_of_table e.1) tables torn (omega (arith, low)) all.1,
)

-- ---- a store

-- a table of one
abbrev pub is_good : List ℕ × Table → Bool
is_good e = is_name e.0 && is_table e.1

pub good_all : (tables : Store) → is_store tables ≡ true → list_all is_good tables ≡ true
good_all tables h = first_true (list_all is_good tables) (rises (slice_cmp nat_cmp) (keys_of tables)) h

-- ---- no room

was_told : {T : Type 0} (S : Type 0) (e : ImageError) (from : Result T ImageError) (end at : ℕ) → from ≡ Err e → TellsFull from end at → TellsFull {T = S} (Err e) end at
was_told {T = T} S e from end at was tells = told_so T S e end at (subst (λ (r : Result T ImageError). TellsFull r end at) was tells)

pub told_wider : {T S : Type 0} (e : ImageError) (from : Result T ImageError) (result : Result S ImageError) (end there at all : ℕ) → from ≡ Err e → result ≡ Err e → end ≡ there → at ≤ all → TellsFull from end at → TellsFull result there all
told_wider {T = T} {S = S} e from result end there at all was is same low tells =
    subst (λ (r : Result S ImageError). TellsFull r there all) (sym is)
    (subst (λ n. TellsFull {T = S} (Err e) n all) same (tells_more {T = S} (Err e) end at all low (was_told {T = T} S e from end at was tells)))

-- ---- so far

-- The tables that were lent are written, one behind another, and their places are kept; with those that are left they
-- are all.
pub record IsSoFar (modelled : Bool) (file : List ℕ) (begun image : ImageWriter) (listed : List Entry) (left all : Store) : Type 0 where
  pub done : Store
  pub same : done ++ left ≡ all
  pub places : listed ≡ entries_from 0 done
  pub pages : pages_of image ≡ pages_of_tables done
  pub written : IsTrue modelled → AllByRecursion (IsWritten forms file (from_of begun + 8192)) (laid_from (from_of begun + 8192) 0 done)

pub none_yet : (modelled : Bool) (file : List ℕ) (w : ImageWriter) (places : List Entry) (all : Store) → pages_of w ≡ 0 → places ≡ [] → IsSoFar modelled file w w places all all
none_yet modelled file w places all none empty = record { done = []; same = refl; places = empty; pages = none; written = λ honest. tt }

module _ (modelled : Bool) (file : List ℕ) (begun image : ImageWriter) (places : List Entry) (left all : Store) (held : IsSoFar modelled file begun image places left all) where
  pub room_left : (e : List ℕ × Table) (rest : Store) → left ≡ e ∷ rest → pages_of image + pages_of_table e.1 ≤ pages_of_tables all
  room_left e rest is = omega (arith, held.pages, ap pages_of_tables (ap (λ (s : Store). held.done ++ s) (sym is) ∙ held.same), pages_more held.done e rest)

  number : 0 + pages_of_tables held.done ≡ pages_of image
  number = omega (arith, held.pages)

  pub one_more : (new : List ℕ) (n : ℕ) (after : ImageWriter) (more : List Entry) (e : List ℕ × Table) (rest : Store) → left ≡ e ∷ rest → from_of image ≡ from_of begun → Torn (next_of image) n file new
      → more ≡ places ++ entry_of_table (pages_of image) e ∷ [] → pages_of after ≡ pages_of image + pages_of_table e.1
      → (IsTrue modelled → IsWritten forms new (from_of image + 8192) (laid_at (from_of image + 8192) (pages_of image) e)) → IsSoFar modelled new begun after more rest all
  one_more new n after more e rest is from torn pushed pages one = record {
    done = held.done ++ e ∷ [];
    same = append_assoc held.done (e ∷ []) rest ∙ ap (λ (s : Store). held.done ++ s) (sym is) ∙ held.same;
    places = pushed ∙ ap₂ (λ (l : List Entry) (k : ℕ). l ++ entry_of_table k e ∷ []) held.places (sym number) ∙ sym (entries_more 0 held.done e);
    pages = omega (arith, pages, held.pages, pages_more held.done e []);
    written = λ honest.
        written_more new (from_of begun + 8192) 0 held.done e
        (all_stay file new (next_of image) n (from_of begun + 8192) 0 held.done torn (omega (arith, from, held.pages)) (held.written honest))
        (subst (λ (k : ℕ). IsWritten forms new (from_of begun + 8192) (laid_at (from_of begun + 8192) k e)) (sym number) (subst (λ (k : ℕ). IsWritten forms new (k + 8192) (laid_at (k + 8192) (pages_of image) e)) from (one honest)));
  }
