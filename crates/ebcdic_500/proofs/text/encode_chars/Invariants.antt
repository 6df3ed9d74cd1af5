use Rattle.std.proofs.Common.{◌≡◌, ℕ, ◌<◌, map, take, get_or}
use Rattle.std.specs.Prelude.{Some, IsSome}
use Rattle.ebcdic_500.specs.CodePage.{byte_for}
use Rattle.ebcdic_500.proofs.text.encode_chars.Given as goal

abbrev pub invariant-loop-i : goal.invariant-loop-i
invariant-loop-i l = record {
  same : map byte_for (take l.i l.characters) ≡ map Some l.bytes.items;
  before : (k : ℕ) → k < l.i → IsSome (byte_for (get_or l.characters k 0));
}
