-- Words that spell an XID are read as it, and as no other.
use Rattle.std.proofs.Common.{◌≡◌, ◌∙◌, ℕ, ◌+◌, ◌-◌, ◌^◌, ◌<◌, ◌≤◌, Bool, true, false, ltb, leb, ◌&&◌, ◌==◌, subst, List, [], ◌∷◌, length, take, drop, get_or, Option, Some, None, unwrap_or, Result, Ok, Err, refl, sym, ap, arith, inl, inr, append-nil, length-take, get_or-drop, get_or-take, if◌then◌else◌}
use Rattle.std.specs.Prelude.{nat_lt, bytes_eq, option_and_then}
use Rattle.std.specs.Fmt.{decimal}
use Rattle.std.specs.Result.{result_unwrap_or}
use Rattle.std.specs.Char.{digit_value}
use Rattle.std.specs.Str.Parse.{AllDigits, digits_value, without_leading_plus}
use Rattle.std.proofs.lemmas.Bool.{cases_lt}
use Rattle.std.proofs.lemmas.Bool.Decides.{nat_tests}
use Rattle.std.proofs.lemmas.Fmt.{decimal_is_IsNumeral}
use Rattle.std.proofs.lemmas.List.{get_or_past}
use Rattle.std.proofs.lemmas.Nat.{from_be_bytes-to_be_bytes_4}
use Rattle.std.proofs.lemmas.Slice.Eq.{bytes_eq-Decides}
use Rattle.std.proofs.lemmas.Str.Parse.{without_leading_plus_none}
use Rattle.hex.specs.Hex.{decode_of, encode_lower}
use Rattle.hex.specs.declared.error.FromHexError.{FromHexError}
use Rattle.hex.proofs.HexLemmas.{decode_of-encode_lower, decode_of-odd, decode_of-ok}
use Rattle.drda_words.specs.Bytes.{AreBytes}
use Rattle.drda_words.specs.Place.{part}
use Rattle.xa_calls.specs.Xid.{AreParts, Parts, begins_with_xid, number_at, parts_of, wire, xid_in, xid_length}
use Rattle.xa_calls.proofs.Reading.{begins, parts_are, read_again, some_if, whole_length, wire-parts_of}
use Rattle.command_line.specs.Number.{number_in}
use Rattle.command_line.proofs.Decimal.{read as number_read}
use Rattle.command_line.specs.Spelling.{ItsWordsAreRead, OnlyItsWordsAreRead, PrintedReadsBack, SaysPart, are_parts, bytes_in, bytes_said, format_in, part_in, part_word, split_at_colon, xid_in_one, xid_of, xid_said, xid_with}

-- ---- tests

pub equal : (xs ys : List ℕ) → bytes_eq xs ys ≡ true → xs ≡ ys
equal xs ys h = grind (arith, bytes_eq-Decides)

pub is_equal : (xs ys : List ℕ) → xs ≡ ys → bytes_eq xs ys ≡ true
is_equal xs ys h = grind (arith, bytes_eq-Decides)

pub not_both : (b : Bool) → false ≡ b → b ≡ true → ⊥
not_both true h is = absurd cc
not_both false h is = absurd cc

both : (a b : Bool) → (a && b) ≡ true → (a ≡ true) × (b ≡ true)
both true b h = (refl, h)
both false b h = absurd cc

no_some : {A : Type 0} (x : A) → None ≡ Some x → ⊥
no_some x h = cc h

-- what a test lets through
given : {A : Type 0} (b : Bool) (x y : A) → (if b then Some x else None) ≡ Some y → (b ≡ true) × (x ≡ y)
given true x y h = (refl, cc)
given false x y h = absurd cc

pub taken : {A : Type 0} (b : Bool) (x : A) → b ≡ true → (if b then Some x else None) ≡ Some x
taken true x h = refl
taken false x h = absurd cc

below : (n limit : ℕ) → n < limit → nat_lt n limit ≡ true
below n limit less = grind (arith, nat_tests)

is_below : (n limit : ℕ) → nat_lt n limit ≡ true → n < limit
is_below n limit h = grind (arith, nat_tests)

-- ---- the format number

pub format_printed : (n : ℕ) → n < 2 ^ 32 → format_in (decimal n) ≡ Some n
format_printed n less =
    let value = (decimal_is_IsNumeral n (omega arith)).1 in
    let text = decimal n in
    let test : (nat_lt (digits_value 10 text) (2 ^ 32) && bytes_eq text (decimal (digits_value 10 text))) ≡ true =
    rw value (ap (λ (b : Bool). b && bytes_eq text text) (below n (2 ^ 32) less) ∙ is_equal text text refl) in
    taken _ (digits_value 10 text) test ∙ ap (λ (k : ℕ). Some k) value

pub format_read : (text : List ℕ) (n : ℕ) → format_in text ≡ Some n → (n < 2 ^ 32) × (text ≡ decimal n)
format_read text n is =
    let found = given _ (digits_value 10 text) n is in
    let tests = both (nat_lt (digits_value 10 text) (2 ^ 32)) _ found.0 in
    (rw (← found.1) (is_below (digits_value 10 text) (2 ^ 32) tests.0), equal text (decimal (digits_value 10 text)) tests.1 ∙ ap decimal found.1)

-- ---- the format number, by the number that a text is

no_plus : (ds : List ℕ) → AllDigits 10 ds → get_or ds 0 0 ≡ 43 → ⊥
no_plus [] all is = absurd cc
no_plus (d ∷ ds) all is = let less : digit_value 43 < 10 = rw is at all.0 in absurd (omega (arith, less))

number_printed : (n : ℕ) → n < 2 ^ 64 → Some n ≡ number_in (decimal n)
number_printed n less =
    let numeral = decimal_is_IsNumeral n less in
    let bare : without_leading_plus (decimal n) ≡ decimal n = without_leading_plus_none (decimal n) (no_plus (decimal n) numeral.0.1) in
    let value : digits_value 10 (without_leading_plus (decimal n)) ≡ n = ap (digits_value 10) bare ∙ numeral.1 in
    number_read (decimal n) n (λ rest is. no_plus (decimal n) numeral.0.1 (ap (λ (l : List ℕ). get_or l 0 0) is)) ((rw bare numeral.0, rw value less), sym value)

none_of : (o : Option ℕ) → ((n : ℕ) → o ≡ Some n → ⊥) → None ≡ o
none_of None never = refl
none_of (Some n) never = absurd (never n refl)

pub is_format : (text : List ℕ) (n : ℕ) → n < 2 ^ 32 → text ≡ decimal n → Some n ≡ format_in text
is_format text n less is = sym (ap format_in is ∙ format_printed n less)

-- a number that is printed otherwise, or has more bits
pub no_format : (text : List ℕ) (n : ℕ) → Some n ≡ number_in text → (n < 2 ^ 32 → text ≡ decimal n → ⊥) → None ≡ format_in text
no_format text n is never =
    none_of (format_in text) (λ m found.
    let f = format_read text m found in
    let same : n ≡ m = ap (λ (o : Option ℕ). unwrap_or o 0) (is ∙ ap number_in f.1 ∙ sym (number_printed m (omega (arith, f.0)))) in
    never (rw same f.0) (rw same f.1))

pub no_number : (text : List ℕ) → None ≡ number_in text → None ≡ format_in text
no_number text is = none_of (format_in text) (λ m found. let f = format_read text m found in absurd (no_some m (is ∙ ap number_in f.1 ∙ sym (number_printed m (omega (arith, f.0))))))

-- ---- a part

-- the digits of some bytes are no hyphen
digits_word : (b : ℕ) (bs : List ℕ) → part_word (b ∷ bs) ≡ encode_lower (b ∷ bs)
digits_word b bs = grind (arith, nat_tests)

none_are : AreBytes []
none_are i = omega arith

says_part : (bytes : List ℕ) → AreBytes bytes → SaysPart (part_word bytes) bytes
says_part [] are = refl
says_part (b ∷ bs) are = ap decode_of (digits_word b bs) ∙ decode_of-encode_lower (b ∷ bs) are

no_digits : (bytes : List ℕ) → decode_of (45 ∷ []) ≡ Ok bytes → ⊥
no_digits bytes h = cc (sym (decode_of-odd (45 ∷ []) refl) ∙ h)

-- digits are no hyphen
digits_apart : (word bytes : List ℕ) (t : Bool) → bytes_eq word (45 ∷ []) ≡ t → decode_of word ≡ Ok bytes → t ≡ false
digits_apart word bytes false test are = refl
digits_apart word bytes true test are = absurd (no_digits bytes (sym (ap decode_of (equal word (45 ∷ []) test)) ∙ are))

other : {A : Type 0} (t : Bool) (x y : A) → t ≡ false → (if t then x else y) ≡ y
other true x y h = absurd cc
other false x y h = refl

some_bytes : (b : ℕ) (bs : List ℕ) → (if length (b ∷ bs) == 0 then None else Some (b ∷ bs)) ≡ Some (b ∷ bs)
some_bytes b bs = other (length (b ∷ bs) == 0) None (Some (b ∷ bs)) (grind (arith, nat_tests))

part_said : (word bytes : List ℕ) → SaysPart word bytes → part_in word ≡ Some bytes
part_said word [] is = ap part_in is
part_said word (b ∷ bs) are =
    other (bytes_eq word (45 ∷ [])) (Some []) (bytes_in word) (digits_apart word (b ∷ bs) _ refl are)
    ∙ ap (λ (r : Result (List ℕ) FromHexError). if length (result_unwrap_or r []) == 0 then None else Some (result_unwrap_or r [])) are ∙ some_bytes b bs

pub part_printed : (bytes : List ℕ) → AreBytes bytes → part_in (part_word bytes) ≡ Some bytes
part_printed bytes are = part_said (part_word bytes) bytes (says_part bytes are)

left : (t : Bool) (x y : List ℕ) → (if t then None else Some x) ≡ Some y → x ≡ y
left true x y h = absurd cc
left false x y h = cc

digits_read : (word bytes : List ℕ) (r : Result (List ℕ) FromHexError) → decode_of word ≡ r → (if length (result_unwrap_or r []) == 0 then None else Some (result_unwrap_or r [])) ≡ Some bytes → AreBytes bytes × SaysPart word bytes
digits_read word bytes (Err error) said is = absurd cc
digits_read word bytes (Ok []) said is = absurd cc
digits_read word bytes (Ok (b ∷ bs)) said is =
    subst (λ (x : List ℕ). AreBytes x × SaysPart word x) (left (length (b ∷ bs) == 0) (b ∷ bs) bytes is) ((decode_of-ok word (b ∷ bs) said).3, said)

by_test : (word bytes : List ℕ) (t : Bool) → bytes_eq word (45 ∷ []) ≡ t → (if t then Some [] else bytes_in word) ≡ Some bytes → AreBytes bytes × SaysPart word bytes
by_test word bytes true test is = subst (λ (x : List ℕ). AreBytes x × SaysPart word x) (left false [] bytes is) (none_are, equal word (45 ∷ []) test)
by_test word bytes false test is = digits_read word bytes (decode_of word) refl is

pub part_read : (word bytes : List ℕ) → part_in word ≡ Some bytes → AreBytes bytes × SaysPart word bytes
part_read word bytes is = by_test word bytes (bytes_eq word (45 ∷ [])) refl is

-- ---- the parts of an XID

test_from : (format global branch : ℕ) → format < 2 ^ 32 - 1 → 1 ≤ global → global ≤ 64 → branch ≤ 64
    → (ltb format (2 ^ 32 - 1) && (leb 1 global && (leb global 64 && leb branch 64))) ≡ true
test_from format global branch a b c d = grind (arith, nat_tests)

tests_of : (format global branch : ℕ) → (ltb format (2 ^ 32 - 1) && (leb 1 global && (leb global 64 && leb branch 64))) ≡ true
    → (format < 2 ^ 32 - 1) × (1 ≤ global) × (global ≤ 64) × (branch ≤ 64)
tests_of format global branch h =
    let a = both (ltb format (2 ^ 32 - 1)) _ h in
    let b = both (leb 1 global) _ a.1 in
    let c = both (leb global 64) (leb branch 64) b.1 in
    (grind (arith, nat_tests, a.0), grind (arith, nat_tests, b.0), grind (arith, nat_tests, c.0), grind (arith, nat_tests, c.1))

pub are_some : (p : Parts) → AreParts p → are_parts p ≡ true
are_some p h = test_from p.format (length p.global) (length p.branch) h.not_null h.some_global h.short_global h.short_branch

pub some_are : (p : Parts) → are_parts p ≡ true → AreParts p
some_are p h =
    let t = tests_of p.format (length p.global) (length p.branch) h in
    record { not_null = t.0; some_global = t.1; short_global = t.2; short_branch = t.3 }

-- ---- what is read of the bytes that write parts

-- where a test fails, so does one that asks more
fails : (a b c d e f : Bool) → (b && (c && (d && e))) ≡ false → (a && (b && (c && (d && (e && f))))) ≡ false
fails true true true true true f h = absurd cc
fails true true true true false f h = refl
fails true true true false e f h = refl
fails true true false d e f h = refl
fails true false c d e f h = refl
fails false b c d e f h = refl

read_by : (p : Parts) (b : Bool) → are_parts p ≡ b → p.format < 2 ^ 32 → length p.global < 2 ^ 32 → length p.branch < 2 ^ 32 → xid_in (wire p) ≡ (if b then Some (wire p) else None)
read_by p true test format_fits global_fits branch_fits = ap xid_in (sym (append-nil (wire p))) ∙ read_again p [] (some_are p test)
read_by p false test format_fits global_fits branch_fits =
    let format : number_at (wire p) 0 ≡ p.format = from_be_bytes-to_be_bytes_4 p.format format_fits in
    let global : number_at (wire p) 4 ≡ length p.global = from_be_bytes-to_be_bytes_4 (length p.global) global_fits in
    let branch : number_at (wire p) 8 ≡ length p.branch = from_be_bytes-to_be_bytes_4 (length p.branch) branch_fits in
    let none : begins_with_xid (wire p) ≡ false =
    fails (leb 12 (length (wire p))) (ltb (number_at (wire p) 0) (2 ^ 32 - 1)) (leb 1 (number_at (wire p) 4)) (leb (number_at (wire p) 4) 64) (leb (number_at (wire p) 8) 64) (leb (xid_length (wire p)) (length (wire p)))
    (rw (format, global, branch) test) in
    rw none refl

pub read_as : (p : Parts) → p.format < 2 ^ 32 → length p.global < 2 ^ 32 → length p.branch < 2 ^ 32 → xid_in (wire p) ≡ xid_of p
read_as p format_fits global_fits branch_fits = read_by p (are_parts p) refl format_fits global_fits branch_fits

-- ---- the laws

with_all : (format : Option ℕ) (global branch : Option (List ℕ)) (xid : List ℕ) → xid_with format global branch ≡ Some xid
    → (p : Parts) × (format ≡ Some p.format) × (global ≡ Some p.global) × (branch ≡ Some p.branch) × (xid_of p ≡ Some xid)
with_all (Some f) (Some g) (Some b) xid is = (record { format = f; global = g; branch = b }, refl, refl, refl, is)
with_all None g b xid is = absurd cc
with_all (Some f) None b xid is = absurd cc
with_all (Some f) (Some g) None xid is = absurd cc

pub only : OnlyItsWordsAreRead
only format global branch xid is =
    let all = with_all (format_in format) (part_in global) (part_in branch) xid is in
    let p = all.0 in
    let found = given (are_parts p) (wire p) xid all.4 in
    let f = format_read format p.format all.1 in
    let g = part_read global p.global all.2 in
    let b = part_read branch p.branch all.3 in
    record { parts = p; are = some_are p found.0; is_bytes = (g.0, b.0); xid_is = sym found.1; format_is = f.1; global_is = g.1; branch_is = b.1 }

said_of : (p : Parts) → AreParts p → AreBytes p.global → AreBytes p.branch → xid_said (decimal p.format) (part_word p.global) (part_word p.branch) ≡ Some (wire p)
said_of p are global branch =
    let f = format_printed p.format (omega (arith, are.not_null)) in
    let g = part_printed p.global global in
    let b = part_printed p.branch branch in
    ap (λ (o : Option ℕ). xid_with o (part_in (part_word p.global)) (part_in (part_word p.branch))) f
    ∙ ap (λ (o : Option (List ℕ)). xid_with (Some p.format) o (part_in (part_word p.branch))) g
    ∙ ap (λ (o : Option (List ℕ)). xid_with (Some p.format) (Some p.global) o) b
    ∙ taken (are_parts p) (wire p) (are_some p are)

pub read : ItsWordsAreRead
read format global branch xid s =
    let p = s.parts in
    ap (λ (t : List ℕ). xid_said t global branch) s.format_is
    ∙ ap (λ (o : Option ℕ). xid_with o (part_in global) (part_in branch)) (format_printed p.format (omega (arith, s.are.not_null)))
    ∙ ap (λ (o : Option (List ℕ)). xid_with (Some p.format) o (part_in branch)) (part_said global p.global s.global_is)
    ∙ ap (λ (o : Option (List ℕ)). xid_with (Some p.format) (Some p.global) o) (part_said branch p.branch s.branch_is)
    ∙ taken (are_parts p) (wire p) (are_some p s.are) ∙ ap (λ (x : List ℕ). Some x) (sym s.xid_is)

part_of_bytes : (text : List ℕ) (at n : ℕ) → AreBytes text → AreBytes (part text at n)
part_of_bytes text at n h i =
    elim (cases_lt i n) [
      | inl lt ↦ rw (get_or-take n (drop at text) i 0 lt, get_or-drop) (h (at + i))
      | inr le ↦ rw (get_or_past (take n (drop at text)) i 0 (omega (arith, length-take n (drop at text)))) (omega arith)
    ]

pub printed : PrintedReadsBack
printed xid bytes whole =
    let p = parts_of xid in
    let size = whole_length xid whole in
    let b = begins xid size.0 in
    let written : wire p ≡ xid = wire-parts_of xid bytes b ∙ (some_if (begins_with_xid xid) (take (xid_length xid) xid) xid whole).1 in
    said_of p (parts_are xid b) (part_of_bytes xid 12 (number_at xid 4) bytes) (part_of_bytes xid (12 + number_at xid 4) (number_at xid 8) bytes) ∙ ap (λ (x : List ℕ). Some x) written

-- ---- in one word

pub one_word : (text format rest global branch : List ℕ) → Some (format, rest) ≡ split_at_colon text → Some (global, branch) ≡ split_at_colon rest → xid_said format global branch ≡ xid_in_one text
one_word text format rest global branch first second =
    ap (λ (o : Option (List ℕ × List ℕ)). option_and_then (λ (b : List ℕ × List ℕ). xid_said format b.0 b.1) o) second
    ∙ ap (λ (o : Option (List ℕ × List ℕ)). option_and_then (λ (f : List ℕ × List ℕ). option_and_then (λ (b : List ℕ × List ℕ). xid_said f.0 b.0 b.1) (split_at_colon f.1)) o) first
