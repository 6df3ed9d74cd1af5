-- The bytes of a page, and the page that is read from them.
use Rattle.std.proofs.Common.{◌≡◌, ℕ, zero, suc, ◌+◌, ◌-◌, ◌≤◌, List, [], ◌∷◌, ◌++◌, length, replicate, Bool, true, false, Option, Some, None, refl, sym, ap, ◌∙◌, arith, length-append}
use Rattle.std.specs.Prelude.{◌==◌, ◌&&◌, if◌then◌else◌, option_map, IfSome}
use Rattle.std.specs.List.{list_all}
use Rattle.std.specs.Int.{w16, to_be_bytes, byte_at}
use Rattle.std.proofs.lemmas.Bool.{eqb-true, eq-eqb}
use Rattle.std.proofs.lemmas.Nat.{from_be_bytes-to_be_bytes_2}
use Rattle.std.proofs.lemmas.List.{length-replicate}
use Rattle.drda_words.specs.Number.{word}
use Rattle.drda_words.specs.Bytes.{AreBytes}
use Rattle.row_pages.specs.Page.{IsPage, Page, code_of, row_bytes, rows_bytes}
use Rattle.row_pages.specs.Parsing.{kind_at, page_at, page_behind}
use Rattle.row_pages.specs.Keeping.{HoldsRows, Judges, page_with}
use Rattle.row_pages.specs.Reading.{has_rows, rows_in, behind_rows}
use Rattle.row_pages.specs.declared.page.PageKind.{PageKind}
use Rattle.row_pages.specs.declared.page.PageKind.TheVariants.{Catalogue, Rows}
use Rattle.row_pages.proofs.RowBytes.{AreShort, WasWritten, has_written, rows_written, behind_written, rows_read, short_below, number_written}

-- ---- what is written is read

kind_back : (kind : PageKind) → kind_at (code_of kind) ≡ Some kind
kind_back Catalogue = refl
kind_back Rows = refl

zeros_pass : (n : ℕ) → list_all (λ b. b == 0) (replicate n 0) ≡ true
zeros_pass zero = refl
zeros_pass (suc n) = zeros_pass n

-- each row takes a byte at least
pub few : (rows : List (List ℕ)) → length rows ≤ length (rows_bytes rows)
few [] = omega arith
few (row ∷ rows) =
    let less = few rows in
    let one : length (row_bytes row) ≡ 2 + length row = omega arith in
    omega (arith, less, one, length-append (row_bytes row) (rows_bytes rows))

found_behind : (kind : PageKind) (count : ℕ) (rest : List ℕ) (rows : List (List ℕ)) → has_rows count rest ≡ true → rows_in count rest ≡ rows → length rest ≡ 8189 → list_all (λ b. b == 0) (behind_rows count rest) ≡ true
    → page_behind (Some kind) count rest ≡ Some (record { kind = kind; rows = rows })
found_behind kind count rest rows h e size z = rw h (rw (eq-eqb (length rest) 8189 size) (rw z (ap (λ r. Some (record { kind = kind; rows = r })) e)))

pub page_written : (page : Page) (bytes : List ℕ) → IsPage page bytes → page_at bytes ≡ Some page
unfolding page_at
page_written page bytes is =
    let rows = page.rows in
    let laid = rows_bytes rows in
    let tail : List ℕ = replicate (8189 - length laid) 0 in
    let short : AreShort rows = short_below rows 8189 (omega arith) (omega (arith, is.fits)) in
    let count : word (byte_at 1 (length rows)) (byte_at 0 (length rows)) ≡ length rows = from_be_bytes-to_be_bytes_2 (length rows) (omega (arith, few rows, is.fits)) in
    let size : length (laid ++ tail) ≡ 8189 = omega (arith, length-append laid tail, length-replicate {A = ℕ} (8189 - length laid) 0, is.fits) in
    ap page_at is.same
    ∙ ap (λ k. page_behind k (word (byte_at 1 (length rows)) (byte_at 0 (length rows))) (laid ++ tail)) (kind_back page.kind)
    ∙ ap (λ n. page_behind (Some page.kind) n (laid ++ tail)) count
    ∙ found_behind page.kind (length rows) (laid ++ tail) rows (has_written rows tail short) (rows_written rows tail short) size (ap (list_all (λ b. b == 0)) (behind_written rows tail short) ∙ zeros_pass (8189 - length laid))

-- ---- what is read was written

kind_is : (code : ℕ) (kind : PageKind) → kind_at code ≡ Some kind → code ≡ code_of kind
kind_is code kind e = by_one (code == 1) (code == 2) refl refl e
  where
    by_two : (b : Bool) → (code == 2) ≡ b → (if b then Some Rows else None) ≡ Some kind → code ≡ code_of kind
    by_two true is h = let same : Rows ≡ kind = cc in eqb-true code 2 is ∙ ap code_of same
    by_two false is h = absurd cc

    by_one : (a b : Bool) → (code == 1) ≡ a → (code == 2) ≡ b → (if a then Some Catalogue else (if b then Some Rows else None)) ≡ Some kind → code ≡ code_of kind
    by_one true b is also h = let same : Catalogue ≡ kind = cc in eqb-true code 1 is ∙ ap code_of same
    by_one false b is also h = by_two b also h

zeros_are : (xs : List ℕ) → list_all (λ b. b == 0) xs ≡ true → xs ≡ replicate (length xs) 0
zeros_are [] h = refl
zeros_are (x ∷ xs) h = ap (λ (y : ℕ). y ∷ xs) (eqb-true x 0 (first (x == 0) (list_all (λ b. b == 0) xs) h)) ∙ ap (λ (ys : List ℕ). 0 ∷ ys) (zeros_are xs (second (x == 0) (list_all (λ b. b == 0) xs) h))
  where
    first : (a b : Bool) → (a && b) ≡ true → a ≡ true
    first true b h = refl
    first false b h = absurd cc

    second : (a b : Bool) → (a && b) ≡ true → b ≡ true
    second true b h = h
    second false b h = absurd cc

-- what a page that is read is made of
record Parts (code high low : ℕ) (rest : List ℕ) (page : Page) : Type 0 where
  kind : code ≡ code_of page.kind
  has : has_rows (word high low) rest ≡ true
  rows : rows_in (word high low) rest ≡ page.rows
  size : length rest ≡ 8189
  zeros : list_all (λ b. b == 0) (behind_rows (word high low) rest) ≡ true

abbrev pub found_page : Bool → Bool → Bool → PageKind → List (List ℕ) → Option Page
found_page has size zeros kind rows = if has then (if size && zeros then Some (record { kind = kind; rows = rows }) else None) else None

abbrev page_rows : Option Page → List (List ℕ)
page_rows None = []
page_rows (Some p) = p.rows

abbrev page_kind : Option Page → PageKind
page_kind None = Rows
page_kind (Some p) = p.kind

parts_of : (code high low : ℕ) (rest : List ℕ) (page : Page) → page_behind (kind_at code) (word high low) rest ≡ Some page → Parts code high low rest page
parts_of code high low rest page e = by_kind (kind_at code) refl e
  where
    by_tests : (kind : PageKind) (has size zeros : Bool) → kind_at code ≡ Some kind → has_rows (word high low) rest ≡ has → (length rest == 8189) ≡ size → list_all (λ b. b == 0) (behind_rows (word high low) rest) ≡ zeros
        → found_page has size zeros kind (rows_in (word high low) rest) ≡ Some page → Parts code high low rest page
    by_tests kind false size zeros k h s z e = absurd cc
    by_tests kind true false zeros k h s z e = absurd cc
    by_tests kind true true false k h s z e = absurd cc
    by_tests kind true true true k h s z e = record { kind = kind_is code kind k ∙ ap code_of (ap page_kind e); has = h; rows = ap page_rows e; size = eqb-true (length rest) 8189 s; zeros = z }

    by_kind : (k : Option PageKind) → kind_at code ≡ k → page_behind k (word high low) rest ≡ Some page → Parts code high low rest page
    by_kind None k e = absurd cc
    by_kind (Some kind) k e = by_tests kind (has_rows (word high low) rest) (length rest == 8189) (list_all (λ b. b == 0) (behind_rows (word high low) rest)) k refl refl refl e

laid_out : (code high low : ℕ) (rest : List ℕ) (page : Page) → AreBytes (code ∷ high ∷ low ∷ rest) → Parts code high low rest page → IsPage page (code ∷ high ∷ low ∷ rest)
laid_out code high low rest page all parts =
    let n = word high low in
    let was : WasWritten n rest = rows_read n rest (λ i. all (suc (suc (suc i)))) parts.has in
    let count : length page.rows ≡ n = ap length (sym parts.rows) ∙ was.count in
    let laid = rows_bytes page.rows in
    let tail = behind_rows n rest in
    let whole : rest ≡ laid ++ tail = was.same ∙ ap (λ (r : List (List ℕ)). rows_bytes r ++ tail) parts.rows in
    let sizes : length laid + length tail ≡ 8189 = sym (length-append laid tail) ∙ ap length (sym whole) ∙ parts.size in
    let left : length tail ≡ 8189 - length laid = omega (arith, sizes) in
    let zeros : tail ≡ replicate (8189 - length laid) 0 = zeros_are tail parts.zeros ∙ ap (λ k. replicate k 0) left in
    let head : to_be_bytes w16 (length page.rows) ≡ high ∷ low ∷ [] = number_written high low (length page.rows) (all 1) (all 2) count in
    record {
      fits = omega (arith, sizes);
      same =
          ap (λ (x : List ℕ). code ∷ high ∷ low ∷ x) (whole ∙ ap (λ (z : List ℕ). laid ++ z) zeros)
          ∙ ap (λ (c : ℕ). c ∷ high ∷ low ∷ (laid ++ replicate (8189 - length laid) 0)) parts.kind
          ∙ ap (λ (h : List ℕ). code_of page.kind ∷ (h ++ (laid ++ replicate (8189 - length laid) 0))) (sym head);
    }

pub page_read : (page : Page) (bytes : List ℕ) → AreBytes bytes → page_at bytes ≡ Some page → IsPage page bytes
unfolding page_at
page_read page [] all e = absurd cc
page_read page (a ∷ []) all e = absurd cc
page_read page (a ∷ b ∷ []) all e = absurd cc
page_read page (code ∷ high ∷ low ∷ rest) all e = laid_out code high low rest page all (parts_of code high low rest page e)

-- bytes are one page at most
pub one_page : (p q : Page) (bytes : List ℕ) → IsPage p bytes → IsPage q bytes → p ≡ q
one_page p q bytes first second = some_same p q (sym (page_written p bytes first) ∙ page_written q bytes second)
  where
    some_same : (p q : Page) → Some p ≡ Some q → p ≡ q
    some_same p q e = cc

-- bytes in which no page is read are none
pub no_page_at : (bytes : List ℕ) → page_at bytes ≡ None → (page : Page) → IsPage page bytes → ⊥
no_page_at bytes none page is = apart (sym (page_written page bytes is) ∙ none)
  where
    apart : Some page ≡ None → ⊥
    apart e = absurd cc

-- what a reading of the head tells
pub judges : (bytes : List ℕ) (head : Option (PageKind × ℕ)) → AreBytes bytes → option_map (λ h. page_with h bytes) head ≡ page_at bytes → IfSome head (λ h. HoldsRows h.1 bytes) → Judges bytes head
judges bytes None all read holds = no_page_at bytes (sym read)
judges bytes (Some head) all read holds = (page_read (page_with head bytes) bytes all (sym read), holds)
