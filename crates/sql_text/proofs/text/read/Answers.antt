use Rattle.std.proofs.Common.{sym, ◌∙◌, ap, subst, length, Err, Result}
use Rattle.drda_words.specs.Excuse.{Answers}
use Rattle.sql_text.specs.Checks.{refusal_of}
use Rattle.sql_text.specs.Text.{answer, answer_by, but_memory, reading}
use Rattle.sql_text.specs.declared.error.SqlError.{SqlError}
use Rattle.sql_text.specs.declared.tree.Statement.{Statement}
use Rattle.sql_text.proofs.Answered.{read_so, faulted, all_counted}
use Rattle.sql_text.proofs.text.read.Goals as goal

pub returns-in-Ok : goal.returns-in-Ok
unfolding answer
returns-in-Ok c =
    let text = c.args.text.now in
    let marked = ap (λ m. answer_by (length text) m c.in-Ok.draft (refusal_of m c.in-Ok.draft)) (c.markers.ensures ∙ all_counted text c.new.result c.in-Ok.rest c.in-Ok.draft c.new.ensures c.in-Ok.ensures.value c.in-Ok.ensures.markers) in
    let P : Result Statement SqlError → Type 0 = λ given. Answers (λ s. s) but_memory c.judged.result given in
    subst P (marked ∙ sym (read_so text c.new.result c.in-Ok.draft _ c.new.ensures c.in-Ok.ensures.value)) c.judged.ensures

pub returns-in-Err : goal.returns-in-Err
returns-in-Err c =
    let text = c.args.text.now in
    let P : SqlError → Type 0 = λ e. Answers (λ s. s) but_memory (Err e) (reading text) in
    subst P (sym c.fault_error.ensures) (faulted text c.new.result c.in-Err.fault c.new.ensures c.in-Err.ensures.value)
