-- Numbers in 4 and 6 bytes, read among 8.
use Rattle.std.proofs.Common.{◌≡◌, ℕ, ◌/◌, ◌%◌, ◌^◌, ◌<◌, ◌∷◌, sym, ap, ◌∙◌, arith}
use Rattle.std.specs.Int.{w16, w64, to_be_bytes, from_be_bytes, byte_at, bytes_high_first}
use Rattle.std.proofs.lemmas.Nat.{from_be_bytes-to_be_bytes_2, from_be_bytes-to_be_bytes_8}
use Rattle.std.proofs.Math.Nat.{div-eq_of_lt}

-- a byte above those that a number needs
high_byte : (n p : ℕ) → n < p → n / p % 256 ≡ 0
high_byte n p small = ap (λ q. q % 256) (div-eq_of_lt small)

pub four_of_eight : (n : ℕ) → n < 2 ^ 32 → to_be_bytes w64 n ≡ 0 ∷ 0 ∷ 0 ∷ 0 ∷ bytes_high_first 4 n
four_of_eight n small =
    let e7 : byte_at 7 n ≡ 0 = high_byte n (256 ^ 7) (omega arith) in
    let e6 : byte_at 6 n ≡ 0 = high_byte n (256 ^ 6) (omega arith) in
    let e5 : byte_at 5 n ≡ 0 = high_byte n (256 ^ 5) (omega arith) in
    let e4 : byte_at 4 n ≡ 0 = high_byte n (256 ^ 4) (omega arith) in
    cc

pub six_of_eight : (n : ℕ) → n < 2 ^ 48 → to_be_bytes w64 n ≡ 0 ∷ 0 ∷ bytes_high_first 6 n
six_of_eight n small =
    let e7 : byte_at 7 n ≡ 0 = high_byte n (256 ^ 7) (omega arith) in
    let e6 : byte_at 6 n ≡ 0 = high_byte n (256 ^ 6) (omega arith) in
    cc

pub two_again : (n : ℕ) → n < 2 ^ 16 → from_be_bytes w16 (bytes_high_first 2 n) ≡ n
two_again n small = from_be_bytes-to_be_bytes_2 n small

pub four_again : (n : ℕ) → n < 2 ^ 32 → from_be_bytes w64 (0 ∷ 0 ∷ 0 ∷ 0 ∷ bytes_high_first 4 n) ≡ n
four_again n small = ap (from_be_bytes w64) (sym (four_of_eight n small)) ∙ from_be_bytes-to_be_bytes_8 n (omega arith)

pub six_again : (n : ℕ) → n < 2 ^ 48 → from_be_bytes w64 (0 ∷ 0 ∷ bytes_high_first 6 n) ≡ n
six_again n small = ap (from_be_bytes w64) (sym (six_of_eight n small)) ∙ from_be_bytes-to_be_bytes_8 n (omega arith)

pub eight_again : (n : ℕ) → n < 2 ^ 64 → from_be_bytes w64 (bytes_high_first 8 n) ≡ n
eight_again n small = from_be_bytes-to_be_bytes_8 n small
