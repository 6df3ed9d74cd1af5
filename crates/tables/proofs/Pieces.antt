-- Rows in one buffer.
use Rattle.std.proofs.Common.{◌≡◌, ℕ, ◌+◌, ◌-◌, ◌*◌, ◌<◌, ◌≤◌, ◌==◌, zero, suc, List, [], ◌∷◌, ◌++◌, true, refl, sym, ap, ◌∙◌, length, take, drop, nat_le, Some, arith, eqb-true, length-append, slice_index_or, subst}
use Rattle.std.specs.List.{slice_get}
use Rattle.std.proofs.lemmas.Bool.Decides.{nat_tests}
use Rattle.std.proofs.lemmas.List.{drop-append-le, length-drop, length-take, take-append-le, take_all}
use Rattle.std.proofs.lemmas.Option.{slice_get-get_or}
use Rattle.std.proofs.Math.Seq.{drop-append_seam}
use Rattle.drda_words.specs.Place.{part}
use Rattle.tables.specs.Rows.{are_ends, memory_of, pieces}
use Rattle.row_values.proofs.ValueLaws.{both_true, first_true, second_true}

first_end : (start e : ℕ) (es : List ℕ) (n : ℕ) → are_ends start (e ∷ es) n ≡ true → start ≤ e
first_end start e es n h = let here : nat_le start e ≡ true = first_true (nat_le start e) (are_ends e es n) h in grind (arith, nat_tests)

later_ends : (start e : ℕ) (es : List ℕ) (n : ℕ) → are_ends start (e ∷ es) n ≡ true → are_ends e es n ≡ true
later_ends start e es n h = second_true (nat_le start e) (are_ends e es n) h

-- all pieces end within the bytes
ends_within : (start : ℕ) (ends : List ℕ) (n : ℕ) → are_ends start ends n ≡ true → start ≤ n
ends_within start [] n h = let same : start ≡ n = eqb-true start n h in omega arith
ends_within start (e ∷ es) n h =
    let le = first_end start e es n h in
    let more = ends_within e es n (later_ends start e es n h) in
    omega arith

part_of_front : (bytes more : List ℕ) (at n : ℕ) → at + n ≤ length bytes → part (bytes ++ more) at n ≡ part bytes at n
part_of_front bytes more at n within =
    let count = length-drop at bytes in
    ap (take n) (drop-append-le at bytes more (omega arith)) ∙ take-append-le n (drop at bytes) more (omega arith)

part_behind : (bytes more : List ℕ) (at n : ℕ) → at ≡ length bytes → n ≡ length more → part (bytes ++ more) at n ≡ more
part_behind bytes more at n here size =
    ap (λ (i : ℕ). take n (drop i (bytes ++ more))) here ∙ ap (take n) (drop-append_seam bytes more) ∙ take_all n more (omega arith)

-- a row that is pushed is the last one
pub pieces_push : (start : ℕ) (ends bytes row : List ℕ) → are_ends start ends (length bytes) ≡ true → pieces start (ends ++ length (bytes ++ row) ∷ []) (bytes ++ row) ≡ pieces start ends bytes ++ row ∷ []
pieces_push start [] bytes row h =
    let same : start ≡ length bytes = eqb-true start (length bytes) h in
    let size = length-append bytes row in
    ap (λ (l : List ℕ). l ∷ []) (part_behind bytes row start (length (bytes ++ row) - start) same (omega arith))
pieces_push start (e ∷ es) bytes row h =
    let le = first_end start e es (length bytes) h in
    let within = ends_within e es (length bytes) (later_ends start e es (length bytes) h) in
    ap (λ (l : List ℕ). l ∷ pieces e (es ++ length (bytes ++ row) ∷ []) (bytes ++ row)) (part_of_front bytes row start (e - start) (omega arith))
    ∙ ap (λ (ls : List (List ℕ)). part bytes start (e - start) ∷ ls) (pieces_push e es bytes row (later_ends start e es (length bytes) h))

last_end : (start n : ℕ) → start ≤ n → are_ends start (n ∷ []) n ≡ true
last_end start n le =
    let here : nat_le start n ≡ true = grind (arith, nat_tests) in
    let end : (n == n) ≡ true = grind (arith, nat_tests) in
    both_true (nat_le start n) (n == n) here end

pub ends_push : (start : ℕ) (ends : List ℕ) (n m : ℕ) → are_ends start ends n ≡ true → n ≤ m → are_ends start (ends ++ m ∷ []) m ≡ true
ends_push start [] n m h le = let same : start ≡ n = eqb-true start n h in last_end start m (omega arith)
ends_push start (e ∷ es) n m h le = both_true (nat_le start e) (are_ends e (es ++ m ∷ []) m) (first_true (nat_le start e) (are_ends e es n) h) (ends_push e es n m (later_ends start e es n h) le)

-- bytes that end in one place are one piece
pub one_piece : (row : List ℕ) → pieces 0 (length row ∷ []) row ≡ row ∷ []
one_piece row = pieces_push 0 [] [] row refl

pub one_end : (row : List ℕ) → are_ends 0 (length row ∷ []) (length row) ≡ true
one_end row = last_end 0 (length row) (omega arith)

-- a row that is pushed ends where the bytes do
pub ends_pushed : (ends bytes row : List ℕ) → are_ends 0 ends (length bytes) ≡ true → are_ends 0 (ends ++ length (bytes ++ row) ∷ []) (length (bytes ++ row)) ≡ true
ends_pushed ends bytes row h = let sum = length-append bytes row in ends_push 0 ends (length bytes) (length (bytes ++ row)) h (omega arith)

pub pieces_count : (start : ℕ) (ends bytes : List ℕ) → length (pieces start ends bytes) ≡ length ends
pieces_count start [] bytes = refl
pieces_count start (e ∷ es) bytes = ap suc (pieces_count e es bytes)

-- what stands at a place: the piece up to its end, from the end before it on
pub record IsPiece (start : ℕ) (ends bytes : List ℕ) (i from end : ℕ) : Type 0 where
  pub rises : from ≤ end
  pub within : end ≤ length bytes
  pub piece : slice_get (pieces start ends bytes) i ≡ Some (part bytes from (end - from))

pub first_piece : (start : ℕ) (ends bytes : List ℕ) (end : ℕ) → are_ends start ends (length bytes) ≡ true → slice_get ends 0 ≡ Some end → IsPiece start ends bytes 0 start end
first_piece start [] bytes end h at = absurd cc
first_piece start (e ∷ es) bytes end h at =
    let same : e ≡ end = cc in
    let le = first_end start e es (length bytes) h in
    let most = ends_within e es (length bytes) (later_ends start e es (length bytes) h) in
    record { rises = omega arith; within = omega arith; piece = ap (λ (n : ℕ). Some (part bytes start (n - start))) same }

pub later_piece : (start : ℕ) (ends bytes : List ℕ) (i from end : ℕ) → are_ends start ends (length bytes) ≡ true → slice_get ends i ≡ Some from → slice_get ends (suc i) ≡ Some end → IsPiece start ends bytes (suc i) from end
later_piece start [] bytes i from end h at next = absurd cc
later_piece start (e ∷ es) bytes zero from end h at next =
    let same : e ≡ from = cc in
    let r = first_piece e es bytes end (later_ends start e es (length bytes) h) next in
    moved e from same r.rises r.within r.piece
  where
    moved : (e from : ℕ) → e ≡ from → e ≤ end → end ≤ length bytes → slice_get (pieces e es bytes) 0 ≡ Some (part bytes e (end - e)) → IsPiece start (e ∷ es) bytes 1 from end
    moved e from same le within piece = record { rises = omega arith; within = within; piece = piece ∙ ap (λ (n : ℕ). Some (part bytes n (end - n))) same }
later_piece start (e ∷ es) bytes (suc i) from end h at next =
    let r = later_piece e es bytes i from end (later_ends start e es (length bytes) h) at next in
    record { rises = r.rises; within = r.within; piece = r.piece }

-- ---- by the items themselves

first_by : (ends bytes : List ℕ) → are_ends 0 ends (length bytes) ≡ true → 0 < length ends → IsPiece 0 ends bytes 0 0 (slice_index_or ends 0 0)
first_by ends bytes h some = first_piece 0 ends bytes (slice_index_or ends 0 0) h (slice_get-get_or ends 0 0 some)

later_by : (ends bytes : List ℕ) (i before : ℕ) → i ≡ suc before → are_ends 0 ends (length bytes) ≡ true → i < length ends → IsPiece 0 ends bytes i (slice_index_or ends before 0) (slice_index_or ends i 0)
later_by ends bytes i before next h inside =
    subst (λ (n : ℕ). IsPiece 0 ends bytes n (slice_index_or ends before 0) (slice_index_or ends n 0)) (sym next)
    (later_piece 0 ends bytes before (slice_index_or ends before 0) (slice_index_or ends (suc before) 0) h (slice_get-get_or ends before 0 (omega arith)) (slice_get-get_or ends (suc before) 0 (omega arith)))

pub first_fits : (ends bytes : List ℕ) → are_ends 0 ends (length bytes) ≡ true → 0 < length ends → slice_index_or ends 0 0 ≤ length bytes
first_fits ends bytes h some = (first_by ends bytes h some).within

pub first_is : (ends bytes : List ℕ) → are_ends 0 ends (length bytes) ≡ true → 0 < length ends → slice_get (pieces 0 ends bytes) 0 ≡ Some (part bytes 0 (slice_index_or ends 0 0 - 0))
first_is ends bytes h some = (first_by ends bytes h some).piece

pub later_rises : (ends bytes : List ℕ) (i before : ℕ) → i ≡ suc before → are_ends 0 ends (length bytes) ≡ true → i < length ends → slice_index_or ends before 0 ≤ slice_index_or ends i 0
later_rises ends bytes i before next h inside = (later_by ends bytes i before next h inside).rises

pub later_fits : (ends bytes : List ℕ) (i before : ℕ) → i ≡ suc before → are_ends 0 ends (length bytes) ≡ true → i < length ends → slice_index_or ends i 0 ≤ length bytes
later_fits ends bytes i before next h inside = (later_by ends bytes i before next h inside).within

pub later_is : (ends bytes : List ℕ) (i before : ℕ) → i ≡ suc before → are_ends 0 ends (length bytes) ≡ true → i < length ends → slice_get (pieces 0 ends bytes) i ≡ Some (part bytes (slice_index_or ends before 0) (slice_index_or ends i 0 - slice_index_or ends before 0))
later_is ends bytes i before next h inside = (later_by ends bytes i before next h inside).piece

-- ---- and without naming the place before

next_of : (i : ℕ) → 0 < i → i ≡ suc (i - 1)
next_of i some = omega arith

pub rises_at : (ends bytes : List ℕ) (i : ℕ) → are_ends 0 ends (length bytes) ≡ true → 0 < i → i < length ends → slice_index_or ends (i - 1) 0 ≤ slice_index_or ends i 0
rises_at ends bytes i h some inside = later_rises ends bytes i (i - 1) (next_of i some) h inside

pub fits_at : (ends bytes : List ℕ) (i : ℕ) → are_ends 0 ends (length bytes) ≡ true → 0 < i → i < length ends → slice_index_or ends i 0 ≤ length bytes
fits_at ends bytes i h some inside = later_fits ends bytes i (i - 1) (next_of i some) h inside

pub piece_at : (ends bytes : List ℕ) (i : ℕ) → are_ends 0 ends (length bytes) ≡ true → 0 < i → i < length ends → slice_get (pieces 0 ends bytes) i ≡ Some (part bytes (slice_index_or ends (i - 1) 0) (slice_index_or ends i 0 - slice_index_or ends (i - 1) 0))
piece_at ends bytes i h some inside = later_is ends bytes i (i - 1) (next_of i some) h inside

-- ---- what they take in memory

memory_from : (start : ℕ) (ends bytes : List ℕ) → are_ends start ends (length bytes) ≡ true → memory_of (pieces start ends bytes) + start ≡ length bytes + 8 * length ends
memory_from start [] bytes h = let same : start ≡ length bytes = eqb-true start (length bytes) h in omega arith
memory_from start (e ∷ es) bytes h =
    let rises = first_end start e es (length bytes) h in
    let within = ends_within e es (length bytes) (later_ends start e es (length bytes) h) in
    let rest = memory_from e es bytes (later_ends start e es (length bytes) h) in
    let size : length (part bytes start (e - start)) ≡ e - start = omega (arith, length-take (e - start) (drop start bytes), length-drop start bytes) in
    omega arith

-- as the buffer tells it
pub memory_taken : (ends bytes : List ℕ) → are_ends 0 ends (length bytes) ≡ true → memory_of (pieces 0 ends bytes) ≡ length bytes + 8 * length ends
memory_taken ends bytes h = let all = memory_from 0 ends bytes h in omega arith
