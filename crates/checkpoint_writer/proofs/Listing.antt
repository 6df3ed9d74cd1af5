-- The rows of a catalogue, one by one.
use Rattle.std.proofs.Common.{◌≡◌, ℕ, ◌+◌, ◌*◌, ◌-◌, ◌<◌, ◌≤◌, List, [], ◌∷◌, ◌++◌, Bool, true, length, map, get_or, take, drop, refl, sym, ap, ap₂, subst, ◌∙◌, arith, append_assoc, append-nil}
use Rattle.std.specs.Prelude.{Result, Err}
use Rattle.std.proofs.lemmas.List.{take_rest}
use Rattle.row_pages.specs.Page.{Page}
use Rattle.row_pages.specs.Laying.{laid, laid_behind}
use Rattle.row_pages.specs.declared.page.PageKind.TheVariants as kind
use Rattle.half_store.specs.Writing.{from_of, half_bytes_of, next_of}
use Rattle.half_store.specs.declared.image.ImageWriter.{ImageWriter}
use Rattle.checkpoint_writer.specs.Adding.{end_of_half}
use Rattle.checkpoint_writer.specs.Catalogue.{Entry, HaveNames, entry_bytes, place_of, rows_of}
use Rattle.checkpoint_writer.specs.Errors.{TellsFull}
use Rattle.checkpoint_writer.specs.Laying.{IsLaying, has_none}
use Rattle.checkpoint_writer.specs.declared.entry.TablePlace.{TablePlace}
use Rattle.checkpoint_writer.specs.declared.errors.ImageError.{ImageError}
use Rattle.checkpoint_writer.specs.declared.rows.RowWriter.{RowWriter}
use Rattle.checkpoint_writer.proofs.MergedRows.{told_so}

-- the rows of the tables that were taken are laid
pub record IsListing (modelled : Bool) (file : List ℕ) (start : ℕ) (image : ImageWriter) (writer : RowWriter) (left all : List Entry) : Type 0 where
  pub rows : List (List ℕ)
  pub laying : IsLaying modelled file start image writer rows
  pub kind : writer.page.kind ≡ kind.Catalogue
  pub same : rows ++ rows_of left ≡ rows_of all

-- a list by its first element and the others
opened : {A : Type 0} (xs : List A) (x : A) → 1 ≤ length xs → x ≡ get_or xs 0 x → xs ≡ x ∷ take (length xs - 1) (drop 1 xs)
opened [] x some is = absurd (omega arith)
opened (y ∷ ys) x some is = ap (λ z. z ∷ ys) (sym is) ∙ ap (λ zs. x ∷ zs) (sym (take_rest (y ∷ ys) 1))

pub first_left : (left : List TablePlace) (x : TablePlace) → 1 ≤ length left → x ≡ get_or left 0 x → map place_of left ≡ place_of x ∷ map place_of (take (length left - 1) (drop 1 left))
first_left left x some is = ap (λ (l : List TablePlace). map place_of l) (opened left x some is)

pub none_left : (left : List TablePlace) → length left < 1 → map place_of left ≡ []
none_left [] none = refl
none_left (x ∷ left) none = absurd (omega (arith, none))

pub names_left : (left : List Entry) (e : Entry) (rest : List Entry) → left ≡ e ∷ rest → HaveNames left → HaveNames rest
names_left left e rest is names = (subst HaveNames is names).1

pub nothing_laid : (modelled : Bool) (file : List ℕ) (image : ImageWriter) (writer : RowWriter) (all : List Entry) → writer.page ≡ record { kind = kind.Catalogue; rows = [] } → writer.is_empty ≡ true → IsListing modelled file (next_of image) image writer all all
nothing_laid modelled file image writer all page empty = record {
  rows = [];
  laying = record {
    full = [];
    stand = λ honest. tt;
    next = omega arith;
    same = λ rest. ap (λ (p : Page). laid_behind p.rows rest) (sym page);
    empty = empty ∙ ap (λ (p : Page). has_none p.rows) (sym page);
    short = tt;
  };
  kind = ap (λ (p : Page). p.kind) page;
  same = refl;
}

module _ (modelled : Bool) (file : List ℕ) (start : ℕ) (image : ImageWriter) (writer : RowWriter) (left all : List Entry) (held : IsListing modelled file start image writer left all) where
  rows_now : (e : Entry) (rest : List Entry) (now : List ℕ) → left ≡ e ∷ rest → now ≡ entry_bytes e → held.rows ++ now ∷ rows_of rest ≡ rows_of all
  rows_now e rest now is row = ap (λ (r : List ℕ). held.rows ++ r ∷ rows_of rest) row ∙ ap (λ (es : List Entry). held.rows ++ rows_of es) (sym is) ∙ held.same

  -- a table more
  pub one_listed : (new : List ℕ) (after : ImageWriter) (more : RowWriter) (e : Entry) (rest : List Entry) (now : List ℕ) → left ≡ e ∷ rest → now ≡ entry_bytes e → IsLaying modelled new start after more (held.rows ++ now ∷ [])
      → more.page.kind ≡ writer.page.kind → IsListing modelled new start after more rest all
  one_listed new after more e rest now is row laying same = record {
    rows = held.rows ++ now ∷ [];
    laying = laying;
    kind = same ∙ held.kind;
    same = append_assoc held.rows (now ∷ []) (rows_of rest) ∙ rows_now e rest now is row;
  }

  told_at : {S : Type 0} (begun : ImageWriter) (e : ImageError) (result : Result S ImageError) (rows : List (List ℕ)) → result ≡ Err e → from_of image ≡ from_of begun → half_bytes_of image ≡ half_bytes_of begun → rows ≡ rows_of all
      → TellsFull {T = Bool} (Err e) (end_of_half image) (start + 8192 * length (laid rows)) → TellsFull result (end_of_half begun) (start + 8192 * length (laid (rows_of all)))
  told_at {S = S} begun e result rows is_err from half same tells =
      subst (λ (r : Result S ImageError). TellsFull r (end_of_half begun) (start + 8192 * length (laid (rows_of all)))) (sym is_err)
      (subst (λ n. TellsFull {T = S} (Err e) n (start + 8192 * length (laid (rows_of all)))) (ap₂ (λ a b. a + b) from half)
      (subst (λ (l : List (List ℕ)). TellsFull {T = S} (Err e) (end_of_half image) (start + 8192 * length (laid l))) same (told_so Bool S e (end_of_half image) (start + 8192 * length (laid rows)) tells)))

  pub full_listed : {S : Type 0} (begun : ImageWriter) (x : ImageError) (result : Result S ImageError) (e : Entry) (rest : List Entry) (now : List ℕ) → result ≡ Err x → from_of image ≡ from_of begun → half_bytes_of image ≡ half_bytes_of begun
      → left ≡ e ∷ rest → now ≡ entry_bytes e → TellsFull {T = Bool} (Err x) (end_of_half image) (start + 8192 * length (laid (held.rows ++ now ∷ rows_of rest)))
      → TellsFull result (end_of_half begun) (start + 8192 * length (laid (rows_of all)))
  full_listed begun x result e rest now is_err from half is row tells = told_at begun x result (held.rows ++ now ∷ rows_of rest) is_err from half (rows_now e rest now is row) tells

  pub all_listed : left ≡ [] → held.rows ≡ rows_of all
  all_listed none = sym (append-nil held.rows) ∙ ap (λ (es : List Entry). held.rows ++ rows_of es) (sym none) ∙ held.same
