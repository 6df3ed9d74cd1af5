-- Values that tie are equal.
use Rattle.std.proofs.Common.{◌≡◌, refl, ap, true}
use Rattle.std.proofs.Common.{Ordering, Less, Equal, Greater}
use Rattle.std.specs.Ordering.{int_cmp, ordering_then, is_eq}
use Rattle.std.proofs.lemmas.Map.Lookups.{exact_bytes, exact_signed}
use Rattle.row_values.specs.Value.{Value, null, number, text, binary, value_cmp}

then_first : (a b : Ordering) → ordering_then a b ≡ Equal → a ≡ Equal
then_first Less b h = absurd cc
then_first Equal b h = refl
then_first Greater b h = absurd cc

pub datum_exact : (a b : Value) → value_cmp a b ≡ Equal → a ≡ b
datum_exact null null h = refl
datum_exact (number m) (number n) h = ap number (exact_signed m n (then_first (int_cmp m n) Equal h))
datum_exact (text s) (text t) h = ap text (exact_bytes s t h)
datum_exact (binary s) (binary t) h = ap binary (exact_bytes s t h)
datum_exact null (number n) h = absurd cc
datum_exact null (text t) h = absurd cc
datum_exact null (binary t) h = absurd cc
datum_exact (number n) null h = absurd cc
datum_exact (number n) (text t) h = absurd cc
datum_exact (number n) (binary t) h = absurd cc
datum_exact (text t) null h = absurd cc
datum_exact (text t) (number n) h = absurd cc
datum_exact (text t) (binary s) h = absurd cc
datum_exact (binary t) null h = absurd cc
datum_exact (binary t) (number n) h = absurd cc
datum_exact (binary t) (text s) h = absurd cc

pub is_equal : (o : Ordering) → is_eq o ≡ true → o ≡ Equal
is_equal Less h = absurd cc
is_equal Equal h = refl
is_equal Greater h = absurd cc
