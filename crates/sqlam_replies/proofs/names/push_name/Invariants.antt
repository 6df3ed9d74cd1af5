-- What was there stands in front, and what is there, with the characters still to come, is the whole.
use Rattle.std.proofs.Common.{◌≤◌, [], ◌∷◌}
use Rattle.std.specs.Prelude.{vec_capacity}
use Rattle.sqlam_replies.specs.Names.{byte_in}
use Rattle.sqlam_replies.proofs.Appending.{SoFar}
use Rattle.sqlam_replies.proofs.names.push_name.Given as goal

abbrev pub invariant-loop-character : goal.invariant-loop-character
invariant-loop-character l =
    SoFar (λ c. byte_in l.unicode c ∷ []) l.text l.character-index l.fn.out.items l.out.items
    × (vec_capacity l.fn.out ≤ vec_capacity l.out)
