-- The order of numbers is that of their bytes, the highest first.
use Rattle.std.proofs.Common.{List, ◌++◌, ◌≡◌, ℕ, zero, suc, ◌+◌, ◌*◌, ◌<◌, ◌≤◌, refl, sym, ap, ◌∙◌, Ordering, Less, Equal, Greater, arith}
use Rattle.std.specs.Prelude.{◌^◌, ◌/◌, ◌%◌}
use Rattle.std.specs.Ordering.{nat_cmp, ordering_then}
use Rattle.std.specs.Cmp.{nat_cmp_is}
use Rattle.std.specs.Cmp.Lexicographic.{slice_cmp}
use Rattle.std.specs.Int.{byte_at, bytes_high_first}
use Rattle.std.proofs.lemmas.Cmp.{ranked}
use Rattle.std.proofs.Math.Arith.{mod-mul}
use Rattle.std.proofs.Math.Nat.{mul-le-mul_right, add-mul, pow-succ', div-one, mod-lt}
use Rattle.key_map.proofs.Texts.{more}

digit_step : (o : Ordering) (p x y u v : ℕ) → u < p → v < p → o ≡ nat_cmp x y → nat_cmp (x * p + u) (y * p + v) ≡ ordering_then o (nat_cmp u v)
digit_step Less p x y u v fits also is =
    let lt : x < y = ranked x y Less is in
    let le : x + 1 ≤ y = omega arith in
    let far : (x + 1) * p ≤ y * p = mul-le-mul_right p le in
    let one : (x + 1) * p ≡ x * p + 1 * p = add-mul x 1 p in
    let below : x * p + u < y * p + v = omega arith in
    sym (nat_cmp_is (x * p + u) (y * p + v) Less below)
digit_step Greater p x y u v fits also is =
    let lt : y < x = ranked x y Greater is in
    let le : y + 1 ≤ x = omega arith in
    let far : (y + 1) * p ≤ x * p = mul-le-mul_right p le in
    let one : (y + 1) * p ≡ y * p + 1 * p = add-mul y 1 p in
    let above : y * p + v < x * p + u = omega arith in
    sym (nat_cmp_is (x * p + u) (y * p + v) Greater above)
digit_step Equal p x y u v fits also is =
    let same : x ≡ y = ranked x y Equal is in
    ap (λ z. nat_cmp (z * p + u) (y * p + v)) same ∙ shifted (nat_cmp u v) (y * p) u v refl
  where
    shifted : (o : Ordering) (q u v : ℕ) → o ≡ nat_cmp u v → nat_cmp (q + u) (q + v) ≡ nat_cmp u v
    shifted Less q u v is = let lt : u < v = ranked u v Less is in let more : q + u < q + v = omega arith in sym (nat_cmp_is (q + u) (q + v) Less more) ∙ is
    shifted Equal q u v is = let same : u ≡ v = ranked u v Equal is in let more : q + u ≡ q + v = omega arith in sym (nat_cmp_is (q + u) (q + v) Equal more) ∙ is
    shifted Greater q u v is = let lt : v < u = ranked u v Greater is in let more : q + v < q + u = omega arith in sym (nat_cmp_is (q + u) (q + v) Greater more) ∙ is

power : (k : ℕ) → 0 < 256 ^ k
power zero = omega arith
power (suc k) = let below = power k in let next : 256 ^ suc k ≡ 256 * 256 ^ k = pow-succ' 256 k in omega arith

byte_is : (k n : ℕ) → byte_at k n ≡ n / 256 ^ k % 256
byte_is zero n = ap (λ m. m % 256) (sym (div-one n))
byte_is (suc k) n = refl

split_low : (k n : ℕ) → n % 256 ^ suc k ≡ byte_at k n * 256 ^ k + n % 256 ^ k
split_low k n =
    let some : 0 < 256 = omega arith in
    ap (λ m. n % m) (pow-succ' 256 k) ∙ mod-mul n some (power k) ∙ ap (λ d. d * 256 ^ k + n % 256 ^ k) (sym (byte_is k n))

-- the order of the lowest k bytes of two numbers is that of the numbers, and where they are the same
-- that of what follows
pub numbers_keep_order : (k a b : ℕ) (r s : List ℕ) → slice_cmp nat_cmp (bytes_high_first k a ++ r) (bytes_high_first k b ++ s) ≡ ordering_then (nat_cmp (a % 256 ^ k) (b % 256 ^ k)) (slice_cmp nat_cmp r s)
numbers_keep_order zero a b r s =
    let first : a % 256 ^ 0 < 256 ^ 0 = mod-lt a (power 0) in
    let second : b % 256 ^ 0 < 256 ^ 0 = mod-lt b (power 0) in
    let same : a % 256 ^ 0 ≡ b % 256 ^ 0 = omega arith in
    ap (λ o. ordering_then o (slice_cmp nat_cmp r s)) (nat_cmp_is (a % 256 ^ 0) (b % 256 ^ 0) Equal same)
numbers_keep_order (suc k) a b r s =
    let low = numbers_keep_order k a b r s in
    let digits = digit_step (nat_cmp (byte_at k a) (byte_at k b)) (256 ^ k) (byte_at k a) (byte_at k b) (a % 256 ^ k) (b % 256 ^ k) (mod-lt a (power k)) (mod-lt b (power k)) refl in
    ap (ordering_then (nat_cmp (byte_at k a) (byte_at k b))) low
    ∙ more (nat_cmp (byte_at k a) (byte_at k b)) (nat_cmp (a % 256 ^ k) (b % 256 ^ k)) (slice_cmp nat_cmp r s)
    ∙ ap (λ o. ordering_then o (slice_cmp nat_cmp r s)) (sym digits ∙ ap (λ m. nat_cmp m (byte_at k b * 256 ^ k + b % 256 ^ k)) (sym (split_low k a)) ∙ ap (nat_cmp (a % 256 ^ suc k)) (sym (split_low k b)))
