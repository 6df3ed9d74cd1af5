-- Tables that are laid one behind another.
use Rattle.std.proofs.Common.{◌≡◌, ℕ, ◌+◌, ◌≤◌, Bool, true, List, [], ◌∷◌, ◌++◌, sym, ap, ap₂, subst, ◌∙◌, arith, append_assoc}
use Rattle.std.specs.List.{AllByRecursion, list_all}
use Rattle.drda_disk.specs.Disk.{Torn}
use Rattle.row_values.specs.Schema.{is_name}
use Rattle.row_values.proofs.ValueLaws.{first_true, second_true}
use Rattle.table_map.specs.Stored.{Places}
use Rattle.half_store.specs.Writing.{from_of, next_of, pages_of}
use Rattle.half_store.specs.declared.image.ImageWriter.{ImageWriter}
use Rattle.checkpoint_writer.specs.Catalogue.{Entry, HaveNames}
use Rattle.store_check.specs.Laying.{IsGood, laid_at}
use Rattle.store_check.specs.Room.{pages_of_table}
use Rattle.store_check.proofs.Moving.{IsSoFar, is_good, none_yet, one_more}
use Rattle.paged_tables.specs.Stored.{Stored}
use Rattle.paged_tables.specs.TablesByName.{Tables}
use Rattle.paged_checkpoints.specs.Apart.{LiesFrom}
use Rattle.paged_checkpoints.specs.Laying.{LaysTable, all_shown, created_entry, places_from}

-- These tables are laid, one behind another, and their pages are kept; with those that are left they are all.
pub record LaysSoFar (modelled : Bool) (file : List ℕ) (begun image : ImageWriter) (listed : List Entry) (pages : List Places) (left all : Tables) : Type 0 where
  pub far : IsSoFar modelled file begun image listed (all_shown left) (all_shown all)
  pub places : pages ++ places_from (from_of begun + 8192) (pages_of image) (all_shown left) ≡ places_from (from_of begun + 8192) 0 (all_shown all)

pub none_laid : (modelled : Bool) (file : List ℕ) (w : ImageWriter) (listed : List Entry) (pages : List Places) (all : Tables) → pages_of w ≡ 0 → listed ≡ [] → pages ≡ [] → LaysSoFar modelled file w w listed pages all all
none_laid modelled file w listed pages all none empty bare = record {
  far = none_yet modelled file w listed (all_shown all) none empty;
  places = ap₂ (λ (l : List Places) (n : ℕ). l ++ places_from (from_of w + 8192) n (all_shown all)) bare none;
}

pub one_laid : (modelled : Bool) (old new : List ℕ) (begun image after : ImageWriter) (n : ℕ) (listed more : List Entry) (pages then : List Places) (left : Tables) (e : List ℕ × Stored) (rest all : Tables) (entry : Entry) (places : Places) → left ≡ e ∷ rest
    → from_of image ≡ from_of begun → Torn (next_of image) n old new → more ≡ listed ++ entry ∷ [] → then ≡ pages ++ places ∷ [] → LaysTable new image after (created_entry e) entry places
    → LaysSoFar modelled old begun image listed pages left all → LaysSoFar modelled new begun after more then rest all
one_laid modelled old new begun image after n listed more pages then left e rest all entry places is from torn pushed behind lays so =
    let at : ℕ = from_of begun + 8192 in
    record {
      far = one_more modelled old begun image listed (all_shown left) (all_shown all) so.far new n after more (created_entry e) (all_shown rest) (ap all_shown is) from torn
          (pushed ∙ ap (λ (x : Entry). listed ++ x ∷ []) lays.entry_is) lays.many (λ honest. lays.written);
      places =
          ap₂ (λ (l : List Places) (k : ℕ). l ++ places_from at k (all_shown rest)) behind lays.many
          ∙ append_assoc pages (places ∷ []) (places_from at (pages_of image + pages_of_table (created_entry e).1) (all_shown rest))
          ∙ ap (λ (p : Places). pages ++ p ∷ places_from at (pages_of image + pages_of_table (created_entry e).1) (all_shown rest)) (lays.places_are ∙ ap (λ (k : ℕ). (laid_at (k + 8192) (pages_of image) (created_entry e)).places) from)
          ∙ ap (λ (l : Tables). pages ++ places_from at (pages_of image) (all_shown l)) (sym is)
          ∙ so.places;
    }

-- ---- of any device

pub names_more : (es : List Entry) (e : Entry) → HaveNames es → is_name e.name ≡ true → HaveNames (es ++ e ∷ [])
names_more [] e all one = (one, tt)
names_more (d ∷ es) e all one = (all.0, names_more es e all.1 one)

pub lie_wider : (from end low high : ℕ) (pages : List Places) → low ≤ from → end ≤ high → AllByRecursion (LiesFrom from end) pages → AllByRecursion (LiesFrom low high) pages
lie_wider from end low high [] le ge all = tt
lie_wider from end low high (p ∷ pages) le ge all = (record { first = omega (arith, le, all.0.first); last = omega (arith, ge, all.0.last) }, lie_wider from end low high pages le ge all.1)

pub lie_more : (from end : ℕ) (pages : List Places) (p : Places) → AllByRecursion (LiesFrom from end) pages → LiesFrom from end p → AllByRecursion (LiesFrom from end) (pages ++ p ∷ [])
lie_more from end [] p all one = (one, tt)
lie_more from end (q ∷ pages) p all one = (all.0, lie_more from end pages p all.1 one)

-- the first of the tables that are left is one
pub good_first : (left : Tables) (e : List ℕ × Stored) (rest : Tables) → left ≡ e ∷ rest → list_all is_good (all_shown left) ≡ true → IsGood (created_entry e) × (list_all is_good (all_shown rest) ≡ true)
good_first left e rest is all =
    let here : list_all is_good (all_shown (e ∷ rest)) ≡ true = subst (λ (l : Tables). list_all is_good (all_shown l) ≡ true) is all in
    (first_true (is_good (created_entry e)) (list_all is_good (all_shown rest)) here, second_true (is_good (created_entry e)) (list_all is_good (all_shown rest)) here)
