use Rattle.std.proofs.Common.{◌≡◌, ◌++◌}
use Rattle.drda_names.proofs.Behind.{IsBehind}
use Rattle.std.specs.Prelude.{replicate}
use Rattle.drda_names.specs.Names.{byte_in}
use Rattle.drda_names.proofs.names.push_blanks.Given as goal

abbrev pub invariant-loop : goal.invariant-loop
invariant-loop l = (l.out.items ≡ l.initial.out.items ++ replicate l.counter (byte_in l.unicode 0x20))
    × IsBehind l.initial.out.items l.out.items
