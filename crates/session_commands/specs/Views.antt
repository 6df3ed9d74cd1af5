-- What the types of the code show.
use Rattle.std.specs.Prelude.{◌≡◌, List, ℕ, ◌++◌}
use Rattle.sqlam_replies.specs.Kind.{dss_type_of}
use Rattle.session_commands.specs.declared.answer.Answer as rust_answer
use Rattle.session_commands.specs.Access.{Answer}

-- an answer with its text
abbrev pub answer_of : rust_answer.Answer → List ℕ → Answer
answer_of answer text = record { session = answer.session; reply = record { dss_type = dss_type_of answer.kind; severity = answer.severity; text = text } }

-- this is the answer that is due, and its text was appended
abbrev pub IsAppended : rust_answer.Answer → List ℕ → List ℕ → Answer → Type 0
IsAppended answer out out' due = (answer_of answer due.reply.text ≡ due) × (out' ≡ out ++ due.reply.text)
