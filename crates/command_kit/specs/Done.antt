-- What has become of a command that does this: it was answered at once, and nobody was asked, or that call was
-- asked, and what it was answered decides.
use Rattle.std.specs.Prelude.{◌≡◌, ◌++◌, List}
use Rattle.core_calls.specs.Call.{Call}
use Rattle.core_calls.specs.Answer.{Answer}
use Rattle.sqlam_replies.specs.Reply.{Reply}
use Rattle.command_kit.specs.Statements.{Statements}
use Rattle.command_kit.specs.Doing.{Doing, Done, asking, finished}

pub record IsAnswered (d : Done) (statements : Statements) (before after : List Reply) : Type 0 where
  pub kept : statements ≡ d.statements
  pub replied : after ≡ before ++ d.replies

pub record WasAsked {A : Type 0} (asks : A → Call → Answer → A → Type 0) (call : Call) (then : Answer → Done) (old new : A) (statements : Statements) (before after : List Reply) : Type 0 where
  pub answer : Answer
  pub asked : asks old call answer new
  pub answered : IsAnswered (then answer) statements before after

abbrev pub WasDone : {A : Type 0} → (A → Call → Answer → A → Type 0) → Doing → A → A → Statements → List Reply → List Reply → Type 0
WasDone asks (finished d) old new statements before after = (new ≡ old) × IsAnswered d statements before after
WasDone asks (asking call then) old new statements before after = WasAsked asks call then old new statements before after
