use Rattle.std.proofs.Common.{◌≡◌, ◌-◌, List, ℕ, length, take, drop, ap, ◌∙◌}
use Rattle.drda_words.specs.Number.{word}
use Rattle.session_commands.specs.declared.session.Agreed.{Agreed}
use Rattle.session_commands.specs.Levels.{level_for, agreed_on, agreed_after}
use Rattle.session_commands.proofs.Entries.{at, agreed_four}
use Rattle.session_commands.proofs.levels.agreed_with.Goals as goal

pub returns-clause-agreed : goal.returns-clause-agreed
returns-clause-agreed c =
    let xs : List ℕ = c.args.asked.now in
    let same : agreed_on c.args.agreed (word (at xs 0) (at xs 1)) (level_for (word (at xs 0) (at xs 1)) (word (at xs 2) (at xs 3))) ≡ c.agree.result = cc in
    agreed_four c.args.agreed xs c.in-len4-up.len_at_least ∙ ap (λ (a : Agreed). agreed_after a (take (length xs - 4) (drop 4 xs))) same
