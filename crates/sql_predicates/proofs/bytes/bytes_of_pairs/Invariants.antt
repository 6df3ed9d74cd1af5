use Rattle.std.proofs.Common.{◌≡◌, ◌++◌, ◌%◌, length, map}
use Rattle.sql_text.specs.Spelled.{bytes_of_pairs}
use Rattle.sql_predicates.proofs.bytes.bytes_of_pairs.Given as goal

abbrev pub invariant-parts : goal.invariant-parts
invariant-parts l = l.bytes.items ++ map (λ b. b % 256) (bytes_of_pairs l.rest) ≡ map (λ b. b % 256) (bytes_of_pairs l.pairs)

abbrev pub decreases-parts : goal.decreases-parts
decreases-parts l = length l.rest
