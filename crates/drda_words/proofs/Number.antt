-- A number of two bytes.
use Rattle.std.proofs.Common.{◌≡◌, ◌+◌, ◌*◌, ℕ, arith}
use Rattle.drda_words.specs.Number.{word}

pub word_is : (high low : ℕ) → word high low ≡ 256 * high + low
word_is high low = omega arith
