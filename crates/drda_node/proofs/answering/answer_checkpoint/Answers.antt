use Rattle.std.proofs.Common.{◌++◌, ◌∙◌, ◌∷◌, [], List, ℕ, ap}
use Rattle.drda_node.specs.Records.{record_text}
use Rattle.drda_node.specs.Register.{machine}
use Rattle.drda_node.proofs.Refusing.{checkpointed_anyway, err_so, ok_so}
use Rattle.drda_node.proofs.answering.answer_checkpoint.Goals as goal

pub returns-clause-breaks_off : goal.returns-clause-breaks_off
returns-clause-breaks_off g c =
    err_so c.push_record.result
    (checkpointed_anyway (machine c.args.node.now) (machine c.checkpoint-told.new.self) c.args.number c.checkpoint-told.result c.checkpoint-told.ensures.checkpointed c.checkpoint-told.ensures.rest)

pub returns-clause-checkpoint : goal.returns-clause-checkpoint
returns-clause-checkpoint g c =
    ok_so c.push_record.result
    (λ said. (
      c.checkpoint-told.result,
      said ∙ ap (λ (z : List ℕ). z ++ record_text 4 c.args.number (c.code_of.result ∷ [])) c.requires ∙ ap (λ (n : ℕ). record_text 4 c.args.number (n ∷ [])) c.code_of.ensures,
      c.checkpoint-told.ensures.told,
    ))
    c.push_record.ensures
