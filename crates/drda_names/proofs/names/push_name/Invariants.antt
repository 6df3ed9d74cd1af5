use Rattle.std.proofs.Common.{◌≡◌, ◌++◌, drop}
use Rattle.drda_names.proofs.Behind.{IsBehind}
use Rattle.drda_names.specs.Names.{in_encoding}
use Rattle.drda_names.proofs.names.push_name.Given as goal

abbrev pub invariant-loop-character : goal.invariant-loop-character
invariant-loop-character l = (l.out.items ++ in_encoding l.unicode (drop l.character-index l.text) ≡ l.initial.out.items ++ in_encoding l.unicode l.text)
    × IsBehind l.initial.out.items l.out.items
