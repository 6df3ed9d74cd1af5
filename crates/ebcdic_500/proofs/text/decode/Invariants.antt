use Rattle.std.proofs.Common.{◌≡◌, take}
use Rattle.std.specs.Prelude.{string_bytes}
use Rattle.std.specs.List.{flat_map}
use Rattle.ebcdic_500.specs.CodePage.{utf8_for, InTableBelow}
use Rattle.ebcdic_500.proofs.text.decode.Given as goal

abbrev pub invariant-loop-i : goal.invariant-loop-i
invariant-loop-i l = record {
  text : string_bytes l.text ≡ flat_map utf8_for (take l.i l.bytes);
  before : InTableBelow l.bytes l.i;
}
