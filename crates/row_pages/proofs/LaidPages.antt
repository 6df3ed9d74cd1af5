-- Rows are laid into pages in one way.
use Rattle.std.proofs.Common.{◌≡◌, ℕ, ◌+◌, ◌<◌, List, [], ◌∷◌, ◌++◌, length, Bool, true, false, refl, sym, ap, subst, ◌∙◌, arith, append_assoc, append-nil, length-append}
use Rattle.std.specs.Prelude.{nat_le, if◌then◌else◌}
use Rattle.std.specs.List.{AllByRecursion}
use Rattle.std.proofs.lemmas.Bool.{le-leb, leb-true}
use Rattle.row_pages.specs.Page.{Fits, row_bytes, rows_bytes}
use Rattle.row_pages.specs.Laying.{fits, IsShort, HasSome, EndsBefore, rows_over, AreFilled, IsLaid, ended, laid_behind, laid, last_count, count_behind}
use Rattle.row_pages.proofs.Growing.{size_more}

-- ---- what fits

is_fit : (rows : List (List ℕ)) → Fits rows → fits rows ≡ true
is_fit rows h = le-leb (3 + length (rows_bytes rows)) 8192 h

fit_is : (rows : List (List ℕ)) → fits rows ≡ true → Fits rows
fit_is rows e = leb-true (3 + length (rows_bytes rows)) 8192 e

pub no_fit : (rows : List (List ℕ)) → fits rows ≡ false → Fits rows → ⊥
no_fit rows e h = apart (sym (is_fit rows h) ∙ e)
  where
    apart : true ≡ false → ⊥
    apart e = absurd cc

pub not_fit : (rows : List (List ℕ)) → (Fits rows → ⊥) → fits rows ≡ false
not_fit rows never = by_test (fits rows) refl
  where
    by_test : (b : Bool) → fits rows ≡ b → b ≡ false
    by_test false e = refl
    by_test true e = absurd (never (fit_is rows e))

rows_append : (a b : List (List ℕ)) → rows_bytes (a ++ b) ≡ rows_bytes a ++ rows_bytes b
rows_append [] b = refl
rows_append (row ∷ a) b = ap (λ (x : List ℕ). row_bytes row ++ x) (rows_append a b) ∙ sym (append_assoc (row_bytes row) (rows_bytes a) (rows_bytes b))

-- fewer rows fit too
fewer : (a b : List (List ℕ)) → Fits (a ++ b) → Fits a
fewer a b h = omega (arith, h, ap length (rows_append a b), length-append (rows_bytes a) (rows_bytes b))

pub one_fits : (row : List ℕ) → IsShort row → Fits (row ∷ [])
one_fits row short = omega (arith, size_more [] row, short)

-- ---- laying gives filled pages

laid_step : (page : List (List ℕ)) (row : List ℕ) (rows : List (List ℕ)) (b : Bool) → fits (page ++ row ∷ []) ≡ b → IsShort row
    → (Fits (page ++ row ∷ []) → IsLaid ((page ++ row ∷ []) ++ rows) (laid_behind (page ++ row ∷ []) rows)) → Fits page → IsLaid (row ∷ rows) (laid_behind (row ∷ []) rows)
    → IsLaid (page ++ row ∷ rows) (if b then laid_behind (page ++ row ∷ []) rows else page ∷ laid_behind (row ∷ []) rows)
laid_step page row rows true e short on fit new =
    let more = on (fit_is (page ++ row ∷ []) e) in
    record { same = more.same ∙ append_assoc page (row ∷ []) rows; filled = more.filled }
laid_step page row rows false e short on fit new =
    record {
      same = ap (λ (x : List (List ℕ)). page ++ x) new.same;
      filled = (some page e, fit, subst (EndsBefore page) (sym new.same) (no_fit (page ++ row ∷ []) e), new.filled);
    }
  where
    some : (p : List (List ℕ)) → fits (p ++ row ∷ []) ≡ false → HasSome p
    some [] past = absurd (no_fit (row ∷ []) past (one_fits row short))
    some (r ∷ p) past = tt

laid_last : (page : List (List ℕ)) → Fits page → IsLaid (page ++ []) (ended page)
laid_last [] fit = record { same = refl; filled = tt }
laid_last (row ∷ rows) fit = record { same = refl; filled = (tt, fit, tt, tt) }

pub laid_so : (page rows : List (List ℕ)) → Fits page → AllByRecursion IsShort rows → IsLaid (page ++ rows) (laid_behind page rows)
laid_so page [] fit short = laid_last page fit
laid_so page (row ∷ rows) fit short =
    laid_step page row rows (fits (page ++ row ∷ [])) refl short.0 (λ more. laid_so (page ++ row ∷ []) rows more short.1) fit (laid_so (row ∷ []) rows (one_fits row short.0) short.1)

-- ---- filled pages are what laying gives

abbrev FirstFits : List (List ℕ) → Type 0
FirstFits [] = Unit {0}
FirstFits (row ∷ rows) = Fits (row ∷ [])

first_fits : (pages : List (List (List ℕ))) → AreFilled pages → FirstFits (rows_over pages)
first_fits [] all = tt
first_fits ([] ∷ pages) all = absurd all.0
first_fits ((row ∷ rows) ∷ pages) all = fewer (row ∷ []) rows all.1

go_on : (page : List (List ℕ)) (row : List ℕ) (rows : List (List ℕ)) → Fits (page ++ row ∷ []) → laid_behind page (row ∷ rows) ≡ laid_behind (page ++ row ∷ []) rows
go_on page row rows fit = ap (λ b. if b then laid_behind (page ++ row ∷ []) rows else page ∷ laid_behind (row ∷ []) rows) (is_fit (page ++ row ∷ []) fit)

fill : (page more rest : List (List ℕ)) → Fits (page ++ more) → laid_behind page (more ++ rest) ≡ laid_behind (page ++ more) rest
fill page [] rest fit = ap (λ (x : List (List ℕ)). laid_behind x rest) (sym (append-nil page))
fill page (row ∷ more) rest fit =
    let one = append_assoc page (row ∷ []) more in
    let all : Fits ((page ++ row ∷ []) ++ more) = subst Fits (sym one) fit in
    go_on page row (more ++ rest) (fewer (page ++ row ∷ []) more all)
    ∙ fill (page ++ row ∷ []) more rest all
    ∙ ap (λ (x : List (List ℕ)). laid_behind x rest) one

turn : (page rows : List (List ℕ)) → HasSome page → EndsBefore page rows → FirstFits rows → laid_behind page rows ≡ page ∷ laid rows
turn [] rows some ends first = absurd some
turn (r ∷ page) [] some ends first = refl
turn (r ∷ page) (row ∷ rows) some ends first =
    ap (λ b. if b then laid_behind ((r ∷ page) ++ row ∷ []) rows else (r ∷ page) ∷ laid_behind (row ∷ []) rows) (not_fit ((r ∷ page) ++ row ∷ []) ends)
    ∙ ap (λ (x : List (List (List ℕ))). (r ∷ page) ∷ x) (sym (go_on [] row rows first))

-- rows that stand in one page, laid behind a page that could not take the first of them, are a page that goes on to be filled
pub page_behind : (page : List (List ℕ)) (row : List ℕ) (rows rest : List (List ℕ)) → HasSome page → (Fits (page ++ row ∷ []) → ⊥) → Fits (row ∷ rows) → laid_behind page ((row ∷ rows) ++ rest) ≡ page ∷ laid_behind (row ∷ rows) rest
page_behind page row rows rest some ends fit =
    turn page ((row ∷ rows) ++ rest) some ends (fewer (row ∷ []) rows fit)
    ∙ ap (λ (x : List (List (List ℕ))). page ∷ x) (fill [] (row ∷ rows) rest fit)

-- and so they are behind no page
pub page_alone : (rows rest : List (List ℕ)) → Fits rows → laid_behind [] (rows ++ rest) ≡ laid_behind rows rest
page_alone rows rest fit = fill [] rows rest fit

-- a row that takes more than what a page has left does not fit
pub no_room : (page : List (List ℕ)) (row : List ℕ) (room : ℕ) → 3 + length (rows_bytes page) + room ≡ 8192 → room < 2 + length row → Fits (page ++ row ∷ []) → ⊥
no_room page row room left more fit = absurd (omega (arith, left, more, fit, size_more page row))

-- each of rows that stand in one page is short
pub all_short : (rows : List (List ℕ)) → Fits rows → AllByRecursion IsShort rows
all_short [] fit = tt
all_short (row ∷ rows) fit =
    let one : length (row_bytes row) ≡ 2 + length row = omega arith in
    let all = length-append (row_bytes row) (rows_bytes rows) in
    (omega (arith, fit, all, one), all_short rows (omega (arith, fit, all, one)))

pub filled_is_laid : (pages : List (List (List ℕ))) → AreFilled pages → pages ≡ laid (rows_over pages)
filled_is_laid [] all = refl
filled_is_laid (page ∷ pages) all =
    ap (λ (x : List (List (List ℕ))). page ∷ x) (filled_is_laid pages all.3)
    ∙ sym (turn page (rows_over pages) all.0 all.2 (first_fits pages all.3))
    ∙ sym (fill [] page (rows_over pages) all.1)

pub only_laid : (rows : List (List ℕ)) (pages : List (List (List ℕ))) → IsLaid rows pages → pages ≡ laid rows
only_laid rows pages is = filled_is_laid pages is.filled ∙ ap laid is.same

-- ---- how many pages there are

count_step : (page : List (List ℕ)) (row : List ℕ) (rows : List (List ℕ)) (b : Bool)
    → length (laid_behind (page ++ row ∷ []) rows) ≡ count_behind (length (rows_bytes page) + 2 + length row) rows → length (laid_behind (row ∷ []) rows) ≡ count_behind (2 + length row) rows
    → length (if b then laid_behind (page ++ row ∷ []) rows else page ∷ laid_behind (row ∷ []) rows) ≡ (if b then count_behind (length (rows_bytes page) + 2 + length row) rows else 1 + count_behind (2 + length row) rows)
count_step page row rows true on new = on
count_step page row rows false on new = omega (arith, new)

count_last : (page : List (List ℕ)) → length (ended page) ≡ last_count (length (rows_bytes page))
count_last [] = refl
count_last (row ∷ rows) = sym (ap (λ b. if b then 1 else 0) (le-leb 1 (length (rows_bytes (row ∷ rows))) (omega (arith, length-append (row_bytes row) (rows_bytes rows), row_size row))))
  where
    row_size : (row : List ℕ) → length (row_bytes row) ≡ 2 + length row
    row_size row = omega arith

pub count_is : (page rows : List (List ℕ)) → length (laid_behind page rows) ≡ count_behind (length (rows_bytes page)) rows
count_is page [] = count_last page
count_is page (row ∷ rows) =
    count_step page row rows (fits (page ++ row ∷ []))
    (count_is (page ++ row ∷ []) rows ∙ ap (λ (n : ℕ). count_behind n rows) (size_more page row))
    (count_is (row ∷ []) rows ∙ ap (λ (n : ℕ). count_behind n rows) (size_more [] row))
    ∙ ap (λ b. if b then count_behind (length (rows_bytes page) + 2 + length row) rows else 1 + count_behind (2 + length row) rows) (ap (λ (n : ℕ). nat_le (3 + n) 8192) (size_more page row))
