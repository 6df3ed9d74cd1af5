-- Rows with changes take no more pages than those that the rows have, and two for each change.
use Rattle.std.proofs.Common.{◌≡◌, ⊎_elim, ℕ, ◌+◌, ◌*◌, ◌<◌, ◌≤◌, List, [], ◌∷◌, ◌++◌, length, map, Less, Equal, Greater, refl, ap, subst, ◌∙◌, arith, append-nil, length-append}
use Rattle.std.specs.Prelude.{Option, Some, None, if◌then◌else◌}
use Rattle.std.specs.Ordering.{match_ordering}
use Rattle.std.specs.declared.cmp.Ordering.{Ordering}
use Rattle.std.proofs.lemmas.Bool.{le-leb, lt-leb, cases_lt}
use Rattle.row_pages.specs.Page.{row_bytes, rows_bytes}
use Rattle.row_pages.specs.Laying.{count_behind, laid, last_count, rows_over}
use Rattle.row_pages.proofs.LaidPages.{count_is}
use Rattle.key_map.specs.Merging.{Changes, Rows, changed, keyed, merged}
use Rattle.key_map.specs.Overlay.{change_of, said}
use Rattle.key_map.specs.Slots.{by_bytes}
use Rattle.table_map.specs.Keyed.{keyed_rows}
use Rattle.table_map.specs.Room.{bytes_of, most_by_bytes}
use Rattle.table_map.specs.Stored.{AreAt}
use Rattle.table_map.specs.Table.{without_keys}

-- ---- the last page, and a row more

last_some : (n : ℕ) → 1 ≤ n → last_count n ≡ 1
last_some n some = ap (λ b. if b then 1 else 0) (le-leb 1 n some)

last_none : (n : ℕ) → n < 1 → last_count n ≡ 0
last_none n none = ap (λ b. if b then 1 else 0) (lt-leb 1 n none)

-- a row goes on in the page, or begins the next one
module _ (n : ℕ) (row : List ℕ) (rows : List (List ℕ)) where
  goes_on : 3 + (n + 2 + length row) ≤ 8192 → count_behind n (row ∷ rows) ≡ count_behind (n + 2 + length row) rows
  goes_on fit = ap (λ b. if b then count_behind (n + 2 + length row) rows else 1 + count_behind (2 + length row) rows) (le-leb (3 + (n + 2 + length row)) 8192 fit)

  begins : 8192 < 3 + (n + 2 + length row) → count_behind n (row ∷ rows) ≡ 1 + count_behind (2 + length row) rows
  begins past = ap (λ b. if b then count_behind (n + 2 + length row) rows else 1 + count_behind (2 + length row) rows) (lt-leb (3 + (n + 2 + length row)) 8192 past)

-- Behind a page that has more already there are as many pages, or one more.
record Near (a b : ℕ) (rows : List (List ℕ)) : Type 0 where
  least : count_behind a rows ≤ count_behind b rows
  most : count_behind b rows ≤ 1 + count_behind a rows

near_last : (a b : ℕ) → a ≤ b → Near a b []
near_last a b below = ⊎_elim none some (cases_lt a 1)
  where
    none : a < 1 → Near a b []
    none without = ⊎_elim
        (λ small. record { least = omega (arith, last_none a without, last_none b small); most = omega (arith, last_none a without, last_none b small) })
        (λ large. record { least = omega (arith, last_none a without, last_some b large); most = omega (arith, last_none a without, last_some b large) })
        (cases_lt b 1)

    some : 1 ≤ a → Near a b []
    some with_rows =
        let large : 1 ≤ b = omega (arith, with_rows, below) in
        record { least = omega (arith, last_some a with_rows, last_some b large); most = omega (arith, last_some a with_rows, last_some b large) }

near_row : (a b : ℕ) (row : List ℕ) (rows : List (List ℕ)) → a ≤ b → ((m n : ℕ) → m ≤ n → Near m n rows) → Near a b (row ∷ rows)
near_row a b row rows below so = ⊎_elim both_begin first_goes_on (cases_lt 8192 (3 + (a + 2 + length row)))
  where
    both_begin : 8192 < 3 + (a + 2 + length row) → Near a b (row ∷ rows)
    both_begin past =
        let e = begins a row rows past in
        let f = begins b row rows (omega (arith, past, below)) in
        record { least = omega (arith, e, f); most = omega (arith, e, f) }

    first_goes_on : 3 + (a + 2 + length row) ≤ 8192 → Near a b (row ∷ rows)
    first_goes_on fit =
        let e = goes_on a row rows fit in
        ⊎_elim
        (λ past.
        let f = begins b row rows past in
        let here = so (2 + length row) (a + 2 + length row) (omega arith) in
        record { least = omega (arith, e, f, here.most); most = omega (arith, e, f, here.least) })
        (λ fit.
        let f = goes_on b row rows fit in
        let here = so (a + 2 + length row) (b + 2 + length row) (omega (arith, below)) in
        record { least = omega (arith, e, f, here.least); most = omega (arith, e, f, here.most) })
        (cases_lt 8192 (3 + (b + 2 + length row)))

near : (rows : List (List ℕ)) (a b : ℕ) → a ≤ b → Near a b rows
near [] a b below = near_last a b below
near (row ∷ rows) a b below = near_row a b row rows below (λ m n. near rows m n)

-- ---- rows among others

-- a row more is two pages more, at most
one_more : (c : ℕ) (row : List ℕ) (rows : List (List ℕ)) → count_behind c (row ∷ rows) ≤ 2 + count_behind c rows
one_more c row rows = ⊎_elim
    (λ past.
    let here = near rows 0 (2 + length row) (omega arith) in
    let there = near rows 0 c (omega arith) in
    omega (arith, begins c row rows past, here.most, there.least))
    (λ fit.
    let here = near rows c (c + 2 + length row) (omega arith) in
    omega (arith, goes_on c row rows fit, here.most))
    (cases_lt 8192 (3 + (c + 2 + length row)))

-- and no page fewer
one_fewer : (c : ℕ) (row : List ℕ) (rows : List (List ℕ)) → count_behind c rows ≤ count_behind c (row ∷ rows)
one_fewer c row rows = ⊎_elim
    (λ past.
    let here = near rows 0 (2 + length row) (omega arith) in
    let there = near rows 0 c (omega arith) in
    omega (arith, begins c row rows past, here.least, there.most))
    (λ fit.
    let here = near rows c (c + 2 + length row) (omega arith) in
    omega (arith, goes_on c row rows fit, here.least))
    (cases_lt 8192 (3 + (c + 2 + length row)))

-- what is so behind a row is so with it
behind : (c k : ℕ) (row : List ℕ) (a b : List (List ℕ)) → ((n : ℕ) → count_behind n a ≤ k + count_behind n b) → count_behind c (row ∷ a) ≤ k + count_behind c (row ∷ b)
behind c k row a b so = ⊎_elim
    (λ past. omega (arith, begins c row a past, begins c row b past, so (2 + length row)))
    (λ fit. omega (arith, goes_on c row a fit, goes_on c row b fit, so (c + 2 + length row)))
    (cases_lt 8192 (3 + (c + 2 + length row)))

-- ---- changes

put : (c : ℕ) (key : List ℕ) (r : Option (List ℕ)) (rows : Rows) → count_behind c (without_keys (keyed key r ++ rows)) ≤ 2 + count_behind c (without_keys rows)
put c key None rows = omega arith
put c key (Some row) rows = one_more c row (without_keys rows)

change_among : (e : List ℕ × List ℕ) (es more : Rows) (key : List ℕ) (r : Option (List ℕ)) (c : ℕ) → ((n : ℕ) → count_behind n (without_keys more) ≤ 2 + count_behind n (without_keys es)) → (o : Ordering)
    → count_behind c (without_keys (match_ordering o (keyed key r ++ (e ∷ es)) (keyed key r ++ es) (e ∷ more))) ≤ 2 + count_behind c (e.1 ∷ without_keys es)
change_among e es more key r c so Less = put c key r (e ∷ es)
change_among e es more key r c so Equal = omega (arith, put c key r es, one_fewer c e.1 (without_keys es))
change_among e es more key r c so Greater = behind c 2 e.1 (without_keys more) (without_keys es) so

one_change : (rows : Rows) (key : List ℕ) (r : Option (List ℕ)) (c : ℕ) → count_behind c (without_keys (changed rows key r)) ≤ 2 + count_behind c (without_keys rows)
one_change [] key r c = subst (λ (rows : Rows). count_behind c (without_keys rows) ≤ 2 + count_behind c []) (append-nil (keyed key r)) (put c key r [])
one_change (e ∷ es) key r c = change_among e es (changed es key r) key r c (λ n. one_change es key r n) (by_bytes key e.0)

all_changes : (rows : Rows) (cs : Changes) → count_behind 0 (without_keys (merged rows cs)) ≤ 2 * length cs + count_behind 0 (without_keys rows)
all_changes rows [] = omega arith
all_changes rows (c ∷ cs) = omega (arith, one_change (merged rows cs) c.0 c.1 0, all_changes rows cs)

-- ---- pages

row_size : (row : List ℕ) → length (row_bytes row) ≡ 2 + length row
row_size row = omega arith

-- the rows of a page fill it
fill : (page rest : List (List ℕ)) (c : ℕ) → 3 + (c + length (rows_bytes page)) ≤ 8192 → count_behind c (page ++ rest) ≡ count_behind (c + length (rows_bytes page)) rest
fill [] rest c fit = let same : c ≡ c + 0 = omega arith in ap (λ (n : ℕ). count_behind n rest) same
fill (row ∷ page) rest c fit =
    let size = length-append (row_bytes row) (rows_bytes page) in
    let one = row_size row in
    let same : c + 2 + length row + length (rows_bytes page) ≡ c + length (rows_bytes (row ∷ page)) = omega (arith, size, one) in
    goes_on c row (page ++ rest) (omega (arith, fit, size, one))
    ∙ fill page rest (c + 2 + length row) (omega (arith, fit, same))
    ∙ ap (λ (n : ℕ). count_behind n rest) same

many_pages : (file : List ℕ) (at : ℕ) (pages : List (List (List ℕ))) → AreAt file at pages → count_behind 0 (rows_over pages) ≤ length pages
many_pages file at [] stand = omega arith
many_pages file at (page ∷ pages) stand =
    let here = near (rows_over pages) 0 (0 + length (rows_bytes page)) (omega arith) in
    let fit : 3 + (0 + length (rows_bytes page)) ≤ 8192 = omega (arith, stand.0.fits) in
    omega (arith, fill page (rows_over pages) 0 fit, here.most, many_pages file (at + 8192) pages stand.1)

-- ---- by their bytes

filled_most : (rows : List (List ℕ)) (c : ℕ) → 8190 * count_behind c rows ≤ 8190 + 2 * length (rows_bytes rows) + c
filled_most [] c = ⊎_elim (λ none. omega (arith, last_none c none)) (λ some. omega (arith, last_some c some)) (cases_lt c 1)
filled_most (row ∷ rows) c =
    let size = length-append (row_bytes row) (rows_bytes rows) in
    let one = row_size row in
    ⊎_elim
    (λ past. omega (arith, past, size, one, begins c row rows past, filled_most rows (2 + length row)))
    (λ fit. omega (arith, size, one, goes_on c row rows fit, filled_most rows (c + 2 + length row)))
    (cases_lt 8192 (3 + (c + 2 + length row)))

abbrev said_bytes : Option (List ℕ) → ℕ
said_bytes None = 0
said_bytes (Some row) = 2 + length row

abbrev change_bytes : Changes → ℕ
change_bytes [] = 0
change_bytes (c ∷ cs) = said_bytes c.1 + change_bytes cs

bytes_with : (e : List ℕ × List ℕ) (rows : Rows) → length (rows_bytes (without_keys (e ∷ rows))) ≡ 2 + length e.1 + length (rows_bytes (without_keys rows))
bytes_with e rows = omega (arith, length-append (row_bytes e.1) (rows_bytes (without_keys rows)), row_size e.1)

put_bytes : (key : List ℕ) (r : Option (List ℕ)) (rows : Rows) → length (rows_bytes (without_keys (keyed key r ++ rows))) ≤ said_bytes r + length (rows_bytes (without_keys rows))
put_bytes key None rows = omega arith
put_bytes key (Some row) rows = omega (arith, bytes_with (key, row) rows)

bytes_among : (e : List ℕ × List ℕ) (es more : Rows) (key : List ℕ) (r : Option (List ℕ)) → length (rows_bytes (without_keys more)) ≤ said_bytes r + length (rows_bytes (without_keys es)) → (o : Ordering)
    → length (rows_bytes (without_keys (match_ordering o (keyed key r ++ (e ∷ es)) (keyed key r ++ es) (e ∷ more)))) ≤ said_bytes r + length (rows_bytes (without_keys (e ∷ es)))
bytes_among e es more key r so Less = put_bytes key r (e ∷ es)
bytes_among e es more key r so Equal = omega (arith, put_bytes key r es, bytes_with e es)
bytes_among e es more key r so Greater = omega (arith, so, bytes_with e es, bytes_with e more)

one_changed : (rows : Rows) (key : List ℕ) (r : Option (List ℕ)) → length (rows_bytes (without_keys (changed rows key r))) ≤ said_bytes r + length (rows_bytes (without_keys rows))
one_changed [] key r = subst (λ (rows : Rows). length (rows_bytes (without_keys rows)) ≤ said_bytes r + 0) (append-nil (keyed key r)) (put_bytes key r [])
one_changed (e ∷ es) key r = bytes_among e es (changed es key r) key r (one_changed es key r) (by_bytes key e.0)

all_changed : (rows : Rows) (cs : Changes) → length (rows_bytes (without_keys (merged rows cs))) ≤ change_bytes cs + length (rows_bytes (without_keys rows))
all_changed rows [] = omega arith
all_changed rows (c ∷ cs) = omega (arith, one_changed (merged rows cs) c.0 c.1, all_changed rows cs)

said_most : (row : List ℕ) → said_bytes (said row) ≤ 2 + length row
said_most [] = omega arith
said_most (b ∷ bytes) = omega arith

entries_most : (entries : Rows) → change_bytes (map change_of entries) ≤ bytes_of entries
entries_most [] = omega arith
entries_most (e ∷ es) = omega (arith, said_most e.1, entries_most es)

rows_append : (a b : List (List ℕ)) → length (rows_bytes (a ++ b)) ≡ length (rows_bytes a) + length (rows_bytes b)
rows_append [] b = omega arith
rows_append (row ∷ a) b = omega (arith, rows_append a b, length-append (row_bytes row) (rows_bytes (a ++ b)), length-append (row_bytes row) (rows_bytes a))

pages_most : (file : List ℕ) (at : ℕ) (pages : List (List (List ℕ))) → AreAt file at pages → length (rows_bytes (rows_over pages)) ≤ 8189 * length pages
pages_most file at [] stand = omega arith
pages_most file at (page ∷ pages) stand = omega (arith, rows_append page (rows_over pages), stand.0.fits, pages_most file (at + 8192) pages stand.1)

-- ---- as pages are counted

bare : (key_of : List ℕ → List ℕ) (rows : List (List ℕ)) → without_keys (keyed_rows key_of rows) ≡ rows
bare key_of [] = refl
bare key_of (row ∷ rows) = ap (λ (l : List (List ℕ)). row ∷ l) (bare key_of rows)

pub most : (key_of : List ℕ → List ℕ) (file : List ℕ) (at : ℕ) (pages : List (List (List ℕ))) (cs : Changes) → AreAt file at pages
    → length (laid (without_keys (merged (keyed_rows key_of (rows_over pages)) cs))) ≤ length pages + 2 * length cs
most key_of file at pages cs stand =
    let rows = keyed_rows key_of (rows_over pages) in
    let same = ap (λ (l : List (List ℕ)). count_behind 0 l) (bare key_of (rows_over pages)) in
    let count : length (laid (without_keys (merged rows cs))) ≡ count_behind 0 (without_keys (merged rows cs)) = count_is [] (without_keys (merged rows cs)) in
    omega (arith, count, all_changes rows cs, same, many_pages file at pages stand)

pub most_in_bytes : (key_of : List ℕ → List ℕ) (file : List ℕ) (at : ℕ) (pages : List (List (List ℕ))) (entries : Rows) → AreAt file at pages
    → length (laid (without_keys (merged (keyed_rows key_of (rows_over pages)) (map change_of entries)))) ≤ most_by_bytes (length pages) (bytes_of entries)
most_in_bytes key_of file at pages entries stand =
    let rows = keyed_rows key_of (rows_over pages) in
    let all = without_keys (merged rows (map change_of entries)) in
    let same = ap (λ (l : List (List ℕ)). length (rows_bytes l)) (bare key_of (rows_over pages)) in
    let count : length (laid all) ≡ count_behind 0 all = count_is [] all in
    let bound : 8190 * length (laid all) ≤ 8190 + 2 * (8189 * length pages + bytes_of entries) =
    omega (arith, count, filled_most all 0, all_changed rows (map change_of entries), entries_most entries, same, pages_most file at pages stand) in
    omega (arith, bound)
