-- The bytes of values are read back, and what is read was written so.
use Rattle.std.proofs.Common.{◌≡◌, ℕ, ◌^◌, ◌<◌, ℤ, pos, negsuc, List, [], ◌++◌, true, ◌&&◌, refl, sym, ap, ◌∙◌, length, take, drop, nat_le, arith, Some, option_map, append-nil, length-append, append_assoc, FitsSigned}
use Rattle.std.specs.Prelude.{int_le}
use Rattle.std.proofs.Math.Seq.{drop-append_seam, take-append_seam}
use Rattle.std.proofs.lemmas.Bool.Decides.{nat_tests}
use Rattle.std.proofs.lemmas.Int.{to_z-of_z, ints}
use Rattle.std.specs.Int.{Width, w16, w32, w64, cast_signed, cast_unsigned}
use Rattle.byteorder.specs.Endian.{big_bytes, big_number}
use Rattle.byteorder.specs.Numbers.{big_number-reads_back, length-bytes_high_first}
use Rattle.row_values.specs.Value.{number}
use Rattle.row_values.specs.Row.{counted, counted_at, front_of, number_at}
use Rattle.std.specs.Option.{option_and_then}

-- a number in the range of its type fits the type's width
pub fits_two : (n : ℤ) → (int_le (negsuc 32767) n && int_le n (pos 32767)) ≡ true → FitsSigned w16 n
fits_two n h = grind (arith, ints, nat_tests)

pub fits_four : (n : ℤ) → (int_le (negsuc 2147483647) n && int_le n (pos 2147483647)) ≡ true → FitsSigned w32 n
fits_four n h = grind (arith, ints, nat_tests)

pub fits_eight : (n : ℤ) → (int_le (negsuc 9223372036854775807) n && int_le n (pos 9223372036854775807)) ≡ true → FitsSigned w64 n
fits_eight n h = grind (arith, ints, nat_tests)

pub is_eight : (n : ℤ) → FitsSigned w64 n → (int_le (negsuc 9223372036854775807) n && int_le n (pos 9223372036854775807)) ≡ true
is_eight n h = grind (arith, ints, nat_tests)

drop_front : (xs ys : List ℕ) (n : ℕ) → length xs ≡ n → drop n (xs ++ ys) ≡ ys
drop_front xs ys n is = ap (λ (m : ℕ). drop m (xs ++ ys)) (sym is) ∙ drop-append_seam xs ys

take_front : (xs ys : List ℕ) (n : ℕ) → length xs ≡ n → take n (xs ++ ys) ≡ xs
take_front xs ys n is = ap (λ (m : ℕ). take m (xs ++ ys)) (sym is) ∙ take-append_seam xs ys

-- there are n bytes where n bytes stand in front
enough : (n : ℕ) (xs ys : List ℕ) → length xs ≡ n → nat_le n (length (xs ++ ys)) ≡ true
enough n xs ys is = let sum = length-append xs ys in grind (arith, nat_tests)

-- the first n bytes are found in front of any others
pub front_back : (n : ℕ) (xs ys : List ℕ) → length xs ≡ n → front_of n (xs ++ ys) ≡ Some (xs, ys)
unfolding front_of
front_back n xs ys is =
    let all = enough n xs ys is in
    let one = take_front xs ys n is in
    let two = drop_front xs ys n is in
    rw (all, one, two) refl

pub bytes_back : (n x : ℕ) → x < 256 ^ n → big_number n (big_bytes n x) ≡ x
bytes_back n x below = ap (big_number n) (sym (append-nil (big_bytes n x))) ∙ big_number-reads_back n x [] below

-- a number that its width has is read back
pub number_back : (n : ℕ) (w : Width) (z : ℤ) (rest : List ℕ) → cast_unsigned w z < 256 ^ n → FitsSigned w z → number_at n w (big_bytes n (cast_unsigned w z) ++ rest) ≡ Some (number z, rest)
number_back n w z rest below fit =
    ap (option_map (λ (x : List ℕ × List ℕ). (number (cast_signed w (big_number n x.0)), x.1))) (front_back n (big_bytes n (cast_unsigned w z)) rest (length-bytes_high_first n (cast_unsigned w z)))
    ∙ ap (λ (m : ℕ). Some (number (cast_signed w m), rest)) (bytes_back n (cast_unsigned w z) below)
    ∙ ap (λ (k : ℤ). Some (number k, rest)) (to_z-of_z w z fit)

-- a counted text is read back
pub counted_back : (bytes rest : List ℕ) → length bytes < 65536 → counted_at (counted bytes ++ rest) ≡ Some (bytes, rest)
counted_back bytes rest below =
    ap counted_at (append_assoc (big_bytes 2 (length bytes)) bytes rest)
    ∙ ap (option_and_then (λ (x : List ℕ × List ℕ). front_of (big_number 2 x.0) x.1)) (front_back 2 (big_bytes 2 (length bytes)) (bytes ++ rest) (length-bytes_high_first 2 (length bytes)))
    ∙ ap (λ (m : ℕ). front_of m (bytes ++ rest)) (bytes_back 2 (length bytes) below)
    ∙ front_back (length bytes) bytes rest refl
