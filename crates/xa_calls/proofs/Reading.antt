-- What a text begins with is an XID's bytes, exactly where the test says so.
use Rattle.std.proofs.Common.{◌≡◌, ℕ, ◌+◌, ◌-◌, ◌^◌, ◌<◌, ◌≤◌, Bool, true, false, cond, ltb, leb, ◌&&◌, List, ◌++◌, length, take, drop, Some, None, refl, sym, ap, ◌∙◌, arith, inl, inr, length-append, take-append-drop, length-take-le}
use Rattle.std.specs.Int.{w32, from_be_bytes, to_be_bytes}
use Rattle.std.proofs.lemmas.Bool.{cases_lt}
use Rattle.std.proofs.lemmas.Bool.Decides.{nat_tests}
use Rattle.std.proofs.lemmas.List.{take_at, length-take, length-drop, get_or-drop, get_or-take, get_or_past, drop-drop, drop-append-le, take-append-le}
use Rattle.std.proofs.lemmas.Nat.{be_bytes_4, from_be_bytes-to_be_bytes_4}
use Rattle.std.proofs.Math.Seq.{take-add}
use Rattle.drda_words.specs.Place.{part}
use Rattle.drda_words.specs.Bytes.{AreBytes}
use Rattle.xa_calls.specs.Xid.{Parts, AreParts, IsXid, BeginsWith, wire, number_at, parts_of, xid_length, begins_with_xid, xid_in}

AreBytes-part : (text : List ℕ) (at n : ℕ) → AreBytes text → AreBytes (part text at n)
AreBytes-part text at n h i =
    elim (cases_lt i n) [
      | inl lt ↦ rw (get_or-take n (drop at text) i 0 lt, get_or-drop) (h (at + i))
      | inr le ↦ rw (get_or_past (take n (drop at text)) i 0 (omega (arith, length-take n (drop at text)))) (omega arith)
    ]

-- what the test says
pub record Begins (text : List ℕ) : Type 0 where
  pub head : 12 ≤ length text
  pub not_null : number_at text 0 < 2 ^ 32 - 1
  pub some_global : 1 ≤ number_at text 4
  pub short_global : number_at text 4 ≤ 64
  pub short_branch : number_at text 8 ≤ 64
  pub whole : xid_length text ≤ length text

and_true : (a b : Bool) → (a && b) ≡ true → (a ≡ true) × (b ≡ true)
and_true true b e = (refl, e)
and_true false b e = absurd cc

tests_of : (size format global branch : ℕ) → (leb 12 size && (ltb format (2 ^ 32 - 1) && (leb 1 global && (leb global 64 && (leb branch 64 && leb (12 + global + branch) size))))) ≡ true
    → (12 ≤ size) × (format < 2 ^ 32 - 1) × (1 ≤ global) × (global ≤ 64) × (branch ≤ 64) × (12 + global + branch ≤ size)
tests_of size format global branch e =
    let short_branch = (leb branch 64 && leb (12 + global + branch) size) in
    let short_global = (leb global 64 && short_branch) in
    let some_global = (leb 1 global && short_global) in
    let not_null = (ltb format (2 ^ 32 - 1) && some_global) in
    let a = and_true (leb 12 size) not_null e in
    let b = and_true (ltb format (2 ^ 32 - 1)) some_global a.1 in
    let c = and_true (leb 1 global) short_global b.1 in
    let d = and_true (leb global 64) short_branch c.1 in
    let f = and_true (leb branch 64) (leb (12 + global + branch) size) d.1 in
    (grind (arith, nat_tests, a.0), grind (arith, nat_tests, b.0), grind (arith, nat_tests, c.0), grind (arith, nat_tests, d.0), grind (arith, nat_tests, f.0), grind (arith, nat_tests, f.1))

test_from : (size format global branch : ℕ) → 12 ≤ size → format < 2 ^ 32 - 1 → 1 ≤ global → global ≤ 64 → branch ≤ 64 → 12 + global + branch ≤ size
    → (leb 12 size && (ltb format (2 ^ 32 - 1) && (leb 1 global && (leb global 64 && (leb branch 64 && leb (12 + global + branch) size))))) ≡ true
test_from size format global branch a b c d f g = grind (arith, nat_tests)

pub begins : (text : List ℕ) → begins_with_xid text ≡ true → Begins text
begins text e =
    let t = tests_of (length text) (number_at text 0) (number_at text 4) (number_at text 8) e in
    record { head = t.0; not_null = t.1; some_global = t.2; short_global = t.3; short_branch = t.4; whole = t.5 }

-- the length of a part that lies in the text
length-part : (text : List ℕ) (at n : ℕ) → at + n ≤ length text → length (part text at n) ≡ n
length-part text at n h = length-take-le n (drop at text) (omega (arith, length-drop at text))

-- a part, and the part behind it
part-more : (text : List ℕ) (at n m : ℕ) → part text at (n + m) ≡ part text at n ++ part text (at + n) m
part-more text at n m = rw (take-add n m (drop at text), drop-drop n at text) refl

number_back : (text : List ℕ) (at : ℕ) → AreBytes text → at + 4 ≤ length text → to_be_bytes w32 (number_at text at) ≡ part text at 4
number_back text at bytes h = be_bytes_4 (part text at 4) (number_at text at) (length-part text at 4 h) (AreBytes-part text at 4 bytes) refl

-- the parts are an XID's
pub parts_are : (text : List ℕ) → Begins text → AreParts (parts_of text)
parts_are text b =
    let global = length-part text 12 (number_at text 4) (omega (arith, b.whole)) in
    let branch = length-part text (12 + number_at text 4) (number_at text 8) b.whole in
    record { not_null = b.not_null; some_global = rw global b.some_global; short_global = rw global b.short_global; short_branch = rw branch b.short_branch }

-- and write what stands there
pub wire-parts_of : (text : List ℕ) → AreBytes text → Begins text → wire (parts_of text) ≡ take (xid_length text) text
wire-parts_of text bytes b =
    let g = number_at text 4 in
    let n = number_at text 8 in
    let global = length-part text 12 g (omega (arith, b.whole)) in
    let branch = length-part text (12 + g) n b.whole in
    let first : to_be_bytes w32 (number_at text 0) ≡ part text 0 4 = number_back text 0 bytes (omega (arith, b.head)) in
    let second : to_be_bytes w32 g ≡ part text 4 4 = number_back text 4 bytes (omega (arith, b.head)) in
    let third : to_be_bytes w32 n ≡ part text 8 4 = number_back text 8 bytes (omega (arith, b.head)) in
    let e1 : part text 0 (4 + (4 + (4 + (g + n)))) ≡ part text 0 4 ++ part text 4 (4 + (4 + (g + n))) = part-more text 0 4 (4 + (4 + (g + n))) in
    let e2 : part text 4 (4 + (4 + (g + n))) ≡ part text 4 4 ++ part text 8 (4 + (g + n)) = part-more text 4 4 (4 + (g + n)) in
    let e3 : part text 8 (4 + (g + n)) ≡ part text 8 4 ++ part text 12 (g + n) = part-more text 8 4 (g + n) in
    let e4 : part text 12 (g + n) ≡ part text 12 g ++ part text (12 + g) n = part-more text 12 g n in
    let size : 12 + g + n ≡ 4 + (4 + (4 + (g + n))) = omega arith in
    let whole : part text 0 4 ++ (part text 4 4 ++ (part text 8 4 ++ (part text 12 g ++ part text (12 + g) n))) ≡ take (12 + g + n) text =
    rw (size, e1, e2, e3, e4) refl in
    let written : wire (parts_of text) ≡ to_be_bytes w32 (number_at text 0) ++ (to_be_bytes w32 g ++ (to_be_bytes w32 n ++ (part text 12 g ++ part text (12 + g) n))) =
    ap (λ (k : ℕ). to_be_bytes w32 (number_at text 0) ++ (to_be_bytes w32 k ++ (to_be_bytes w32 (length (part text (12 + g) n)) ++ (part text 12 g ++ part text (12 + g) n)))) global
    ∙ ap (λ (k : ℕ). to_be_bytes w32 (number_at text 0) ++ (to_be_bytes w32 g ++ (to_be_bytes w32 k ++ (part text 12 g ++ part text (12 + g) n)))) branch in
    written
    ∙ ap (λ (t : List ℕ). t ++ (to_be_bytes w32 g ++ (to_be_bytes w32 n ++ (part text 12 g ++ part text (12 + g) n)))) first
    ∙ ap (λ (t : List ℕ). part text 0 4 ++ (t ++ (to_be_bytes w32 n ++ (part text 12 g ++ part text (12 + g) n)))) second
    ∙ ap (λ (t : List ℕ). part text 0 4 ++ (part text 4 4 ++ (t ++ (part text 12 g ++ part text (12 + g) n)))) third
    ∙ whole

-- ---- what was written is read

pub record ReadsBack (p : Parts) (rest : List ℕ) : Type 0 where
  pub begins : begins_with_xid (wire p ++ rest) ≡ true
  pub length_is : xid_length (wire p ++ rest) ≡ length (wire p)

pub reads_back : (p : Parts) (rest : List ℕ) → AreParts p → ReadsBack p rest
reads_back p rest h =
    let format : number_at (wire p ++ rest) 0 ≡ p.format = from_be_bytes-to_be_bytes_4 p.format (omega (arith, h.not_null)) in
    let global : number_at (wire p ++ rest) 4 ≡ length p.global = from_be_bytes-to_be_bytes_4 (length p.global) (omega (arith, h.short_global)) in
    let branch : number_at (wire p ++ rest) 8 ≡ length p.branch = from_be_bytes-to_be_bytes_4 (length p.branch) (omega (arith, h.short_branch)) in
    let size : length (wire p) ≡ 12 + length p.global + length p.branch = omega (arith, length-append p.global p.branch) in
    let room : length (wire p ++ rest) ≡ length (wire p) + length rest = length-append (wire p) rest in
    record {
      begins = test_from (length (wire p ++ rest)) (number_at (wire p ++ rest) 0) (number_at (wire p ++ rest) 4) (number_at (wire p ++ rest) 8)
          (omega arith) (rw format h.not_null) (rw global h.some_global) (rw global h.short_global) (rw branch h.short_branch) (rw (global, branch) (omega arith));
      length_is = rw (global, branch) (omega arith);
    }

-- ---- as the code tells it

-- an XID is found at the front
pub record Found (text : List ℕ) (bytes : List ℕ) : Type 0 where
  pub parts : Parts
  pub are : AreParts parts
  pub written : bytes ≡ wire parts
  pub rest : List ℕ
  pub split : text ≡ bytes ++ rest

pub found : (text : List ℕ) → AreBytes text → begins_with_xid text ≡ true → Found text (take (xid_length text) text)
found text bytes e =
    let b = begins text e in
    record { parts = parts_of text; are = parts_are text b; written = sym (wire-parts_of text bytes b); rest = drop (xid_length text) text; split = sym (take-append-drop (xid_length text) text) }

-- the test, from the length that was found
pub tested : (b : Bool) (n m : ℕ) → cond b (Some n) None ≡ Some m → (b ≡ true) × (n ≡ m)
tested true n m e = (refl, cc)
tested false n m e = absurd cc

pub some_if : (b : Bool) (l m : List ℕ) → cond b (Some l) None ≡ Some m → (b ≡ true) × (l ≡ m)
some_if true l m e = (refl, cc)
some_if false l m e = absurd cc

pub untested : (b : Bool) (n : ℕ) → cond b (Some n) None ≡ None → b ≡ false
untested true n e = absurd cc
untested false n e = refl

-- none is found where the test fails
pub none_there : (text : List ℕ) → begins_with_xid text ≡ false → (p : Parts) (rest : List ℕ) → AreParts p → text ≡ wire p ++ rest → ⊥
none_there text e p rest are split =
    let r = reads_back p rest are in
    let t : begins_with_xid text ≡ true = rw split r.begins in
    absurd cc

-- ---- the laws of the reading

pub found_in : (text bytes : List ℕ) → AreBytes text → xid_in text ≡ Some bytes → IsXid bytes × BeginsWith text bytes
found_in text bytes are e =
    let t = some_if (begins_with_xid text) (take (xid_length text) text) bytes e in
    let f = found text are t.0 in
    rw (← t.1) ((f.parts, f.are, f.written), (f.rest, f.split))

pub read_again : (p : Parts) (rest : List ℕ) → AreParts p → xid_in (wire p ++ rest) ≡ Some (wire p)
read_again p rest are =
    let r = reads_back p rest are in
    rw (r.begins, r.length_is, take_at (wire p) rest (length (wire p)) refl) refl

-- a number of the head stays where a text goes on
number-append : (bytes rest : List ℕ) (at : ℕ) → at + 4 ≤ length bytes → number_at (bytes ++ rest) at ≡ number_at bytes at
number-append bytes rest at h =
    let behind : drop at (bytes ++ rest) ≡ drop at bytes ++ rest = drop-append-le at bytes rest (omega arith) in
    let front : take 4 (drop at bytes ++ rest) ≡ take 4 (drop at bytes) = take-append-le 4 (drop at bytes) rest (omega (arith, length-drop at bytes)) in
    ap (λ (t : List ℕ). from_be_bytes w32 t) (ap (λ (t : List ℕ). take 4 t) behind ∙ front)

-- whole bytes are as long as they say
pub whole_length : (bytes : List ℕ) → xid_in bytes ≡ Some bytes → (begins_with_xid bytes ≡ true) × (xid_length bytes ≡ length bytes)
whole_length bytes e =
    let t = some_if (begins_with_xid bytes) (take (xid_length bytes) bytes) bytes e in
    let b = begins bytes t.0 in
    let size : length (take (xid_length bytes) bytes) ≡ xid_length bytes = length-take-le (xid_length bytes) bytes b.whole in
    (t.0, sym size ∙ ap (λ (l : List ℕ). length l) t.1)

pub read_on : (bytes rest : List ℕ) → xid_in bytes ≡ Some bytes → xid_in (bytes ++ rest) ≡ Some bytes
read_on bytes rest e =
    let w = whole_length bytes e in
    let b = begins bytes w.0 in
    let format = number-append bytes rest 0 (omega (arith, b.head)) in
    let global = number-append bytes rest 4 (omega (arith, b.head)) in
    let branch = number-append bytes rest 8 (omega (arith, b.head)) in
    let size : length (bytes ++ rest) ≡ length bytes + length rest = length-append bytes rest in
    let test : begins_with_xid (bytes ++ rest) ≡ true =
    test_from (length (bytes ++ rest)) (number_at (bytes ++ rest) 0) (number_at (bytes ++ rest) 4) (number_at (bytes ++ rest) 8)
    (omega (arith, b.head)) (rw format b.not_null) (rw global b.some_global) (rw global b.short_global) (rw branch b.short_branch)
    (rw (global, branch, size) (omega (arith, b.whole))) in
    let long : xid_length (bytes ++ rest) ≡ length bytes = rw (global, branch) w.1 in
    rw (test, long, take_at bytes rest (length bytes) refl) refl
