-- What is written is a DSS of what was given.
use Rattle.std.proofs.Common.{◌≡◌, ℕ, zero, suc, ◌+◌, ◌-◌, ◌%◌, ◌≤◌, ◌<◌, min, Bool, true, false, cond, List, [], ◌∷◌, ◌++◌, length, take, drop, refl, sym, ap, subst, ◌∙◌, append_assoc, arith, length-append, length-drop, length-take, take-append-drop, mod-eq_of_lt, lit<}
use Rattle.std.specs.Prelude.{nat_lt, nat_le, slice_index}
use Rattle.std.specs.Int.{to_be_bytes, w16}
use Rattle.std.specs.List.{concat}
use Rattle.std.proofs.lemmas.Nat.{from_be_bytes-to_be_bytes_2}
use Rattle.std.proofs.lemmas.Bool.{ltb-true, ltb-false, lt-ltb, le-ltb, le-leb, lt-leb}
use Rattle.std.proofs.lemmas.List.{append-nil, drop_all, take_all, take_min}
use Rattle.std.proofs.Math.ListN.{drop_of_length-le}
use Rattle.drda_words.specs.Number.{word}
use Rattle.dss_frames.specs.Length.{is_continued, segment_length, dss_limit}
use Rattle.dss_frames.specs.Dss.{AreContinuations, IsDss}
use Rattle.dss_frames.specs.Writing.{first_size, next_size, length_bytes, continuations, written, continued_length, written_length}

-- a number in two bytes
record Two (n : ℕ) : Type 0 where
  high : ℕ
  low : ℕ
  bytes : to_be_bytes w16 n ≡ high ∷ low ∷ []
  read : n < 65536 → word high low ≡ n

two : (n : ℕ) → Two n
two n = record {
  high = slice_index (to_be_bytes w16 n) 0;
  low = slice_index (to_be_bytes w16 n) 1;
  bytes = refl;
  read = λ lt. from_be_bytes-to_be_bytes_2 n lt;
}

-- the length of a segment that holds the first bytes of some
pub record IsLength (header size count : ℕ) (bytes : List ℕ) (more : Bool) : Type 0 where
  pub high : ℕ
  pub low : ℕ
  pub are : bytes ≡ high ∷ low ∷ []
  pub counts : segment_length high low ≡ header + min size count
  pub continued : is_continued high low ≡ more

length_by : (more : Bool) (header size count : ℕ) → nat_lt size count ≡ more → header + size < 32768
    → IsLength header size count (cond more (to_be_bytes w16 (32768 + (header + size))) (to_be_bytes w16 (header + count))) more
length_by true header size count e fits =
    let n = 32768 + (header + size) in
    let t = two n in
    let read : word t.high t.low ≡ n = t.read (omega arith) in
    let over : size < count = ltb-true _ _ e in
    let rest : n % 32768 ≡ header + size = omega arith in
    let least : min size count ≡ size = omega arith in
    record {
      high = t.high;
      low = t.low;
      are = t.bytes;
      counts = ap (λ (m : ℕ). m % 32768) read ∙ rest ∙ ap (λ (m : ℕ). header + m) (sym least);
      continued = ap (λ (m : ℕ). nat_le 32768 m) read ∙ le-leb 32768 n (omega arith);
    }
length_by false header size count e fits =
    let n = header + count in
    let t = two n in
    let under : count ≤ size = ltb-false _ _ e in
    let read : word t.high t.low ≡ n = t.read (omega arith) in
    let rest : n % 32768 ≡ n = mod-eq_of_lt (omega arith) in
    let least : min size count ≡ count = omega arith in
    record {
      high = t.high;
      low = t.low;
      are = t.bytes;
      counts = ap (λ (m : ℕ). m % 32768) read ∙ rest ∙ ap (λ (m : ℕ). header + m) (sym least);
      continued = ap (λ (m : ℕ). nat_le 32768 m) read ∙ lt-leb 32768 n (omega arith);
    }

length_is : (header size count : ℕ) → header + size < 32768 → IsLength header size count (length_bytes header size count) (nat_lt size count)
length_is header size count fits = length_by (nat_lt size count) header size count refl fits

-- ---- continuations

pieces : ℕ → List ℕ → List (List ℕ)
pieces zero contents = []
pieces (suc most) [] = []
pieces (suc most) (byte ∷ bytes) = take next_size (byte ∷ bytes) ∷ pieces most (drop next_size (byte ∷ bytes))

pieces_joined : (most : ℕ) (contents : List ℕ) → length contents ≤ most → concat (pieces most contents) ≡ contents
unfolding pieces
pieces_joined zero [] le = refl
pieces_joined zero (byte ∷ bytes) le = absurd (omega arith)
pieces_joined (suc most) [] le = refl
pieces_joined (suc most) (byte ∷ bytes) le =
    ap (λ (b : List ℕ). take next_size (byte ∷ bytes) ++ b) (pieces_joined most (drop next_size (byte ∷ bytes)) (let k = length-drop next_size (byte ∷ bytes) in omega arith))
    ∙ take-append-drop next_size (byte ∷ bytes)

left_over : (size : ℕ) (contents : List ℕ) (b : Bool) → nat_lt size (length contents) ≡ b → nat_lt 0 (length (drop size contents)) ≡ b
left_over size contents true e = lt-ltb 0 (length (drop size contents)) (let k = length-drop size contents in let lt : size < length contents = ltb-true _ _ e in omega arith)
left_over size contents false e = le-ltb 0 (length (drop size contents)) (let k = length-drop size contents in let le : length contents ≤ size = ltb-false _ _ e in omega arith)

continuations_are : (most : ℕ) (contents : List ℕ) → length contents ≤ most → AreContinuations (nat_lt 0 (length contents)) (continuations most contents) (pieces most contents) false
unfolding pieces
continuations_are zero [] le = (refl, refl)
continuations_are zero (byte ∷ bytes) le = absurd (omega arith)
continuations_are (suc most) [] le = (refl, refl)
continuations_are (suc most) (byte ∷ bytes) le =
    let contents : List ℕ = byte ∷ bytes in
    let n = length contents in
    let l = length_is 2 next_size n (lit< tt) in
    let piece : List ℕ = take next_size contents in
    let rest : List ℕ = drop next_size contents in
    let behind = length-drop next_size contents in
    let size : length piece ≡ min next_size n = length-take next_size contents in
    let counts : segment_length l.high l.low ≡ 2 + min next_size n = l.counts in
    let others = continuations_are most rest (omega arith) in
    let more : is_continued l.high l.low ≡ nat_lt 0 (length rest) = l.continued ∙ sym (left_over next_size contents (nat_lt next_size n) refl) in (
      l.high,
      l.low,
      continuations most rest,
      lt-ltb 0 n (omega arith),
      ap (λ (b : List ℕ). b ++ piece ++ continuations most rest) l.are,
      omega arith,
      omega arith,
      subst (λ (b : Bool). AreContinuations b (continuations most rest) (pieces most rest) false) (sym more) others,
    )

-- ---- lengths

continued_by : (over : Bool) (n : ℕ) → nat_lt next_size n ≡ over → 1 ≤ n → 2 + min next_size n + continued_length (n - next_size) ≡ continued_length n
continued_by true n e le =
    let lt : next_size < n = ltb-true _ _ e in
    let least : min next_size n ≡ next_size = omega arith in
    omega arith
continued_by false n e le =
    let under : n ≤ next_size = ltb-false _ _ e in
    let least : min next_size n ≡ n = omega arith in
    omega arith

pub continued_step : (n : ℕ) → 1 ≤ n → 2 + min next_size n + continued_length (n - next_size) ≡ continued_length n
continued_step n le = continued_by (nat_lt next_size n) n refl le

pub continuations_length : (most : ℕ) (contents : List ℕ) → length contents ≤ most → length (continuations most contents) ≡ continued_length (length contents)
continuations_length zero [] le = refl
continuations_length zero (byte ∷ bytes) le = absurd (omega arith)
continuations_length (suc most) [] le = refl
continuations_length (suc most) (byte ∷ bytes) le =
    let contents : List ℕ = byte ∷ bytes in
    let n = length contents in
    let l = length_is 2 next_size n (lit< tt) in
    let piece : List ℕ = take next_size contents in
    let rest : List ℕ = drop next_size contents in
    let behind : length rest ≡ n - next_size = length-drop next_size contents in
    let size : length piece ≡ min next_size n = length-take next_size contents in
    let two_bytes : length (length_bytes 2 next_size n) ≡ 2 = ap length l.are in
    let others : length (continuations most rest) ≡ continued_length (length rest) = continuations_length most rest (omega arith) in
    let one = length-append (length_bytes 2 next_size n ++ piece) (continuations most rest) in
    let front = length-append (length_bytes 2 next_size n) piece in
    let step = continued_step n (omega arith) in
    let same : continued_length (length rest) ≡ continued_length (n - next_size) = ap continued_length behind in
    omega arith

-- ---- the whole

first_by : (over : Bool) (n : ℕ) → nat_lt first_size n ≡ over → 6 + min first_size n + continued_length (n - first_size) ≡ written_length n
first_by true n e = let lt : first_size < n = ltb-true _ _ e in let least : min first_size n ≡ first_size = omega arith in omega arith
first_by false n e = let le : n ≤ first_size = ltb-false _ _ e in let least : min first_size n ≡ n = omega arith in omega arith

first_length : (n : ℕ) → 6 + min first_size n + continued_length (n - first_size) ≡ written_length n
first_length n = first_by (nat_lt first_size n) n refl

pub written-length : (format correlator : ℕ) (contents : List ℕ) → length (written format correlator contents) ≡ written_length (length contents)
written-length format correlator contents =
    let n = length contents in
    let l = length_is 6 first_size n (lit< tt) in
    let c = two correlator in
    let piece : List ℕ = take first_size contents in
    let rest : List ℕ = drop first_size contents in
    let behind : length rest ≡ n - first_size = length-drop first_size contents in
    let size : length piece ≡ min first_size n = length-take first_size contents in
    let header : List ℕ = length_bytes 6 first_size n ++ (0xD0 ∷ format ∷ []) ++ to_be_bytes w16 correlator in
    let six : length header ≡ 6 = ap (λ (b : List ℕ). length (b ++ (0xD0 ∷ format ∷ []) ++ to_be_bytes w16 correlator)) l.are in
    let others : length (continuations n rest) ≡ continued_length (length rest) = continuations_length n rest (omega arith) in
    let one = length-append (header ++ piece) (continuations n rest) in
    let front = length-append header piece in
    let same : continued_length (length rest) ≡ continued_length (n - first_size) = ap continued_length behind in
    let all = first_length n in
    omega arith

pub written_is : (format correlator : ℕ) (contents : List ℕ) → correlator < 65536 → written_length (length contents) ≤ dss_limit
    → IsDss (written format correlator contents) (record { format = format; correlator = correlator; contents = contents })
written_is format correlator contents lt fits =
    let n = length contents in
    let l = length_is 6 first_size n (lit< tt) in
    let c = two correlator in
    let piece : List ℕ = take first_size contents in
    let rest : List ℕ = drop first_size contents in
    let behind : length rest ≡ n - first_size = length-drop first_size contents in
    let size : length piece ≡ min first_size n = length-take first_size contents in
    let counts : segment_length l.high l.low ≡ 6 + min first_size n = l.counts in
    let more : is_continued l.high l.low ≡ nat_lt 0 (length rest) = l.continued ∙ sym (left_over first_size contents (nat_lt first_size n) refl) in
    record {
      high = l.high;
      low = l.low;
      correlator_high = c.high;
      correlator_low = c.low;
      first = piece;
      rest = continuations n rest;
      pieces = pieces n rest;
      text = ap (λ (b : List ℕ). b ++ (0xD0 ∷ format ∷ []) ++ to_be_bytes w16 correlator ++ piece ++ continuations n rest) l.are
          ∙ ap (λ (b : List ℕ). (l.high ∷ l.low ∷ []) ++ (0xD0 ∷ format ∷ []) ++ b ++ piece ++ continuations n rest) c.bytes;
      correlator = sym (c.read lt);
      counts = omega arith;
      continued = subst (λ (b : Bool). AreContinuations b (continuations n rest) (pieces n rest) false) (sym more) (continuations_are n rest (omega arith));
      joined = sym (ap (λ (b : List ℕ). piece ++ b) (pieces_joined n rest (omega arith)) ∙ take-append-drop first_size contents);
      within = let k = written-length format correlator contents in omega arith;
    }

-- ---- one continuation after the other

continuations_enough : (m n : ℕ) (contents : List ℕ) → length contents ≤ m → length contents ≤ n → continuations m contents ≡ continuations n contents
continuations_enough zero zero contents p q = refl
continuations_enough zero (suc n) [] p q = refl
continuations_enough zero (suc n) (x ∷ contents) p q = absurd (omega arith)
continuations_enough (suc m) zero [] p q = refl
continuations_enough (suc m) zero (x ∷ contents) p q = absurd (omega arith)
continuations_enough (suc m) (suc n) [] p q = refl
continuations_enough (suc m) (suc n) (x ∷ contents) p q =
    let behind = length-drop next_size (x ∷ contents) in
    ap (λ (b : List ℕ). length_bytes 2 next_size (length (x ∷ contents)) ++ take next_size (x ∷ contents) ++ b) (continuations_enough m n (drop next_size (x ∷ contents)) (omega arith) (omega arith))

one_continuation : (contents : List ℕ) → 1 ≤ length contents
    → continuations (length contents) contents ≡ length_bytes 2 next_size (length contents) ++ take next_size contents ++ continuations (length (drop next_size contents)) (drop next_size contents)
one_continuation [] le = absurd (omega arith)
one_continuation (x ∷ contents) le =
    let behind = length-drop next_size (x ∷ contents) in
    ap (λ (b : List ℕ). length_bytes 2 next_size (length (x ∷ contents)) ++ take next_size (x ∷ contents) ++ b)
    (continuations_enough (length contents) (length (drop next_size (x ∷ contents))) (drop next_size (x ∷ contents)) (omega arith) (omega arith))

drop_by : (short : Bool) (n : ℕ) (xs : List ℕ) → nat_lt (length xs) n ≡ short → drop (min n (length xs)) xs ≡ drop n xs
drop_by true n xs e =
    let lt : length xs < n = ltb-true _ _ e in
    let least : min n (length xs) ≡ length xs = omega arith in
    ap (λ (m : ℕ). drop m xs) least ∙ drop_of_length-le xs {i = length xs} (omega arith) ∙ sym (drop_of_length-le xs {i = n} (omega arith))
drop_by false n xs e =
    let le : n ≤ length xs = ltb-false _ _ e in
    let least : min n (length xs) ≡ n = omega arith in
    ap (λ (m : ℕ). drop m xs) least

pub drop_min : (n : ℕ) (xs : List ℕ) → drop (min n (length xs)) xs ≡ drop n xs
drop_min n xs = drop_by (nat_lt (length xs) n) n xs refl

-- what is still to write, and then less
pub written_on : (out before contents two_bytes piece others : List ℕ) → 1 ≤ length contents → two_bytes ≡ length_bytes 2 next_size (length contents)
    → piece ≡ take (min next_size (length contents)) contents → others ≡ drop (min next_size (length contents)) contents
    → out ++ continuations (length contents) contents ≡ before
    → out ++ two_bytes ++ piece ++ continuations (length others) others ≡ before
written_on out before contents two_bytes piece others le a b c so_far =
    let lb : List ℕ = length_bytes 2 next_size (length contents) in
    let first : List ℕ = take next_size contents in
    let rest : List ℕ = drop next_size contents in
    let others_are : others ≡ rest = c ∙ drop_min next_size contents in
    ap (λ (x : List ℕ). out ++ x ++ piece ++ continuations (length others) others) a
    ∙ ap (λ (x : List ℕ). out ++ lb ++ x ++ continuations (length others) others) (b ∙ take_min next_size contents)
    ∙ ap (λ (x : List ℕ). out ++ lb ++ first ++ continuations (length x) x) others_are
    ∙ ap (λ (x : List ℕ). x ++ continuations (length rest) rest) (append_assoc out lb first)
    ∙ append_assoc out (lb ++ first) (continuations (length rest) rest)
    ∙ ap (λ (x : List ℕ). out ++ x) (sym (one_continuation contents le))
    ∙ so_far

-- what is written of a DSS, part by part
pub written_parts : (out header mark correlator_bytes front rest contents : List ℕ) (format correlator : ℕ)
    → header ≡ length_bytes 6 first_size (length contents) → mark ≡ 0xD0 ∷ format ∷ [] → correlator_bytes ≡ to_be_bytes w16 correlator
    → front ≡ take (min first_size (length contents)) contents → rest ≡ drop (min first_size (length contents)) contents
    → out ++ header ++ mark ++ correlator_bytes ++ front ++ continuations (length rest) rest ≡ out ++ written format correlator contents
written_parts out header mark correlator_bytes front rest contents format correlator a b c d e =
    let lb : List ℕ = length_bytes 6 first_size (length contents) in
    let m : List ℕ = 0xD0 ∷ format ∷ [] in
    let t : List ℕ = to_be_bytes w16 correlator in
    let first : List ℕ = take first_size contents in
    let left : List ℕ = drop first_size contents in
    let behind = length-drop first_size contents in
    ap (λ (x : List ℕ). out ++ x ++ mark ++ correlator_bytes ++ front ++ continuations (length rest) rest) a
    ∙ ap (λ (x : List ℕ). out ++ lb ++ x ++ correlator_bytes ++ front ++ continuations (length rest) rest) b
    ∙ ap (λ (x : List ℕ). out ++ lb ++ m ++ x ++ front ++ continuations (length rest) rest) c
    ∙ ap (λ (x : List ℕ). out ++ lb ++ m ++ t ++ x ++ continuations (length rest) rest) (d ∙ take_min first_size contents)
    ∙ ap (λ (x : List ℕ). out ++ lb ++ m ++ t ++ first ++ continuations (length x) x) (e ∙ drop_min first_size contents)
    ∙ ap (λ (x : List ℕ). out ++ lb ++ m ++ t ++ first ++ x) (continuations_enough (length left) (length contents) left (omega arith) (omega arith))
    ∙ ap (λ (x : List ℕ). x ++ t ++ first ++ continuations (length contents) left) (append_assoc out lb m)
    ∙ ap (λ (x : List ℕ). x ++ first ++ continuations (length contents) left) (append_assoc out (lb ++ m) t)
    ∙ ap (λ (x : List ℕ). x ++ continuations (length contents) left) (append_assoc out (lb ++ m ++ t) first)
    ∙ append_assoc out (lb ++ m ++ t ++ first) (continuations (length contents) left)

pub length_bytes_length : (count : ℕ) → length (length_bytes 2 next_size count) ≡ 2
length_bytes_length count = ap length (length_is 2 next_size count (lit< tt)).are

-- ---- a DSS of one segment

continues_nothing : (most : ℕ) → continuations most [] ≡ []
continues_nothing zero = refl
continues_nothing (suc most) = refl

-- contents that one segment holds stand behind the header as they are
pub written_short : (format correlator : ℕ) (contents : List ℕ) → length contents ≤ first_size
    → written format correlator contents ≡ (length_bytes 6 first_size (length contents) ++ (0xD0 ∷ format ∷ []) ++ to_be_bytes w16 correlator) ++ contents
written_short format correlator contents le =
    let header : List ℕ = length_bytes 6 first_size (length contents) ++ (0xD0 ∷ format ∷ []) ++ to_be_bytes w16 correlator in
    ap (λ (b : List ℕ). header ++ b ++ continuations (length contents) (drop first_size contents)) (take_all first_size contents le)
    ∙ ap (λ (b : List ℕ). header ++ contents ++ continuations (length contents) b) (drop_all first_size contents le)
    ∙ ap (λ (b : List ℕ). header ++ contents ++ b) (continues_nothing (length contents))
    ∙ append-nil (header ++ contents)
