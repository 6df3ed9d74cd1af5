-- Nothing is asked before the database is opened.
use Rattle.std.proofs.Common.{◌≡◌, ◌⊎◌, ℕ, Bool, List, [], ◌∷◌, Option, Some, Result, Ok, Err, refl, sym, ap, subst, ◌∙◌, inl, inr}
use Rattle.core_calls.specs.Call.{Call}
use Rattle.core_calls.specs.Answer as core
use Rattle.dss_frames.specs.Dss.{Dss}
use Rattle.drda_commands.specs.declared.refusal.Refusal.{Refusal}
use Rattle.drda_commands.specs.declared.refusal.Refusal.TheVariants.{RdbNotAccessed}
use Rattle.drda_commands.specs.declared.stage.Mechanism.{Mechanism}
use Rattle.drda_commands.specs.declared.stage.Stage.{Stage}
use Rattle.drda_commands.specs.declared.stage.Stage.TheVariants.{Fresh, Known, MechanismChosen, Checked, Opened}
use Rattle.drda_commands.specs.declared.table.Command.{Command}
use Rattle.drda_commands.specs.declared.table.Command.TheVariants.{Excsat, Accsec, Secchk, Accrdb, Excsqlimm, Prpsqlstt, Dscsqlstt, Excsqlstt, Opnqry, Cntqry, Clsqry, Rdbcmm, Rdbrllbck, Syncctl}
use Rattle.drda_commands.specs.Given.{Given, contents_of}
use Rattle.drda_commands.specs.Judge.{Accepted, ◌>>=◌, command_object, known_or_refused, due_or_refused, whole_or_refused, none_twice, none_missing, none_bad, judged}
use Rattle.drda_commands.specs.Tables.{command_for, items_for}
use Rattle.command_kit.specs.Done.{WasDone}
use Rattle.session_commands.specs.declared.session.Session.{Session}
use Rattle.conversation.specs.declared.chain.Link.{Link}
use Rattle.conversation.specs.Done.{Exchanges, IsExcused, IsFollowed}
use Rattle.session_commands.specs.Access.{Answer, access_done, refused}
use Rattle.conversation.specs.Exchange.{Plan, at_once, at_once_or, plan, plan_for, database_plan}
use Rattle.conversation.specs.Laws.{AsksOnlyWhenOpened, verdict}
use Rattle.session_commands.specs.Settings.{Settings}
use Rattle.conversation.specs.Standing.{Standing}

-- ---- what is accepted was due

bind_ok : {A B : Type 0} (r : Result A Refusal) (f : A → Result B Refusal) (y : B) → (r >>= f) ≡ Ok y → (x : A) × (f x ≡ Ok y) × (r ≡ Ok x)
bind_ok (Ok x) f y e = (x, e, refl)
bind_ok (Err refusal) f y e = absurd (cc e)

abbrev command_in : Result Accepted Refusal → Command
command_in (Ok accepted) = accepted.command
command_in (Err refusal) = Excsat

pub accepted_due : (stage : Stage) (unicode : Bool) (contents : List ℕ) (objects : List (List ℕ)) (accepted : Accepted)
    → judged stage unicode contents objects ≡ Ok accepted → due_or_refused accepted.command stage ≡ Ok tt
accepted_due stage unicode contents objects accepted e =
    let (o, e1, i1) = bind_ok (command_object contents) _ accepted e in
    let (command, e2, i2) = bind_ok (known_or_refused o.code (command_for o.code)) _ accepted e1 in
    let (due, e3, i3) = bind_ok (due_or_refused command stage) _ accepted e2 in
    let given : Given = record { parameters = o.value; objects = objects } in
    let (whole, e5, i5) = bind_ok (whole_or_refused command given) _ accepted e3 in
    let (single, e6, i6) = bind_ok (none_twice (items_for command) given) _ accepted e5 in
    let (present, e7, i7) = bind_ok (none_missing (items_for command) given) _ accepted e6 in
    let (fit, e8, i8) = bind_ok (none_bad unicode (items_for command) given) _ accepted e7 in
    let same : command ≡ accepted.command = ap command_in e8 in
    subst (λ (c : Command). due_or_refused c stage ≡ Ok tt) same i3

-- ---- an SQL command is due only where the database is opened

by_stage : (command : Command) → due_or_refused command Fresh ≡ Err RdbNotAccessed → due_or_refused command Known ≡ Err RdbNotAccessed → ((m : Mechanism) → due_or_refused command (MechanismChosen m) ≡ Err RdbNotAccessed)
    → due_or_refused command Checked ≡ Err RdbNotAccessed → (stage : Stage) → due_or_refused command stage ≡ Ok tt → stage ≡ Opened
by_stage command a b c d Fresh e = let clash : Err RdbNotAccessed ≡ Ok tt = sym a ∙ e in absurd (cc clash)
by_stage command a b c d Known e = let clash : Err RdbNotAccessed ≡ Ok tt = sym b ∙ e in absurd (cc clash)
by_stage command a b c d (MechanismChosen m) e = let clash : Err RdbNotAccessed ≡ Ok tt = sym (c m) ∙ e in absurd (cc clash)
by_stage command a b c d Checked e = let clash : Err RdbNotAccessed ≡ Ok tt = sym d ∙ e in absurd (cc clash)
by_stage command a b c d Opened e = refl

-- by whether the command is answered at once
abbrev AtOnceOr : Settings → Session → Command → Given → Type 0
AtOnceOr settings session command given = ((a : Answer) × (access_done settings session command given ≡ Some a)) ⊎ (session.stage ≡ Opened)

at_once_or_opened : (settings : Settings) (session : Session) (command : Command) (given : Given) → due_or_refused command session.stage ≡ Ok tt → AtOnceOr settings session command given
at_once_or_opened settings session Excsat given e = inl (_, refl)
at_once_or_opened settings session Accsec given e = inl (_, refl)
at_once_or_opened settings session Secchk given e = inl (_, refl)
at_once_or_opened settings session Accrdb given e = inl (_, refl)
at_once_or_opened settings session Excsqlimm given e = inr (by_stage Excsqlimm refl refl (λ m. refl) refl session.stage e)
at_once_or_opened settings session Prpsqlstt given e = inr (by_stage Prpsqlstt refl refl (λ m. refl) refl session.stage e)
at_once_or_opened settings session Dscsqlstt given e = inr (by_stage Dscsqlstt refl refl (λ m. refl) refl session.stage e)
at_once_or_opened settings session Excsqlstt given e = inr (by_stage Excsqlstt refl refl (λ m. refl) refl session.stage e)
at_once_or_opened settings session Opnqry given e = inr (by_stage Opnqry refl refl (λ m. refl) refl session.stage e)
at_once_or_opened settings session Cntqry given e = inr (by_stage Cntqry refl refl (λ m. refl) refl session.stage e)
at_once_or_opened settings session Clsqry given e = inr (by_stage Clsqry refl refl (λ m. refl) refl session.stage e)
at_once_or_opened settings session Rdbcmm given e = inr (by_stage Rdbcmm refl refl (λ m. refl) refl session.stage e)
at_once_or_opened settings session Rdbrllbck given e = inr (by_stage Rdbrllbck refl refl (λ m. refl) refl session.stage e)
at_once_or_opened settings session Syncctl given e = inr (by_stage Syncctl refl refl (λ m. refl) refl session.stage e)

module _ {A : Type 0} (asks : A → Call → core.Answer → A → Type 0) where
  abbrev Unasked : Standing A → Standing A → Type 0
  Unasked s next = (next.asked ≡ s.asked) × (next.statements ≡ s.statements)

  followed_at_once : (p : Plan) (a : Answer) (link : Link) (s next : Standing A) (bytes : List ℕ) → p ≡ at_once s.statements a → IsFollowed asks p link s bytes next → Unasked s next
  followed_at_once p a link s next bytes is f =
      let W : Plan → Type 0 = λ q. WasDone asks q.doing s.asked next.asked next.statements [] f.replies in
      let done : WasDone asks (at_once s.statements a).doing s.asked next.asked next.statements [] f.replies = subst W is f.done in
      (done.0, done.1.kept)

  accepted_asks : (settings : Settings) (s next : Standing A) (accepted : Accepted) (p : Plan) (link : Link) (bytes : List ℕ)
      → p ≡ plan settings s.session s.statements (Ok accepted) → AtOnceOr settings s.session accepted.command accepted.given → IsFollowed asks p link s bytes next
      → (s.session.stage ≡ Opened) ⊎ Unasked s next
  accepted_asks settings s next accepted p link bytes is (inl found) f =
      let otherwise : Plan = database_plan settings s.session s.statements accepted.command accepted.given in
      let at : p ≡ at_once s.statements found.0 = is ∙ ap (λ (x : Option Answer). at_once_or s.statements x otherwise) found.1 in
      inr (followed_at_once p found.0 link s next bytes at f)
  accepted_asks settings s next accepted p link bytes is (inr there) f = inl there

  by_verdict : (settings : Settings) (s next : Standing A) (request : Dss) (objects : List Dss) (link : Link) (bytes : List ℕ) (v : Result Accepted Refusal) → verdict s.session request objects ≡ v
      → IsFollowed asks (plan_for settings s.session s.statements request objects) link s bytes next → (s.session.stage ≡ Opened) ⊎ Unasked s next
  by_verdict settings s next request objects link bytes (Ok accepted) is f =
      accepted_asks settings s next accepted (plan_for settings s.session s.statements request objects) link bytes (ap (plan settings s.session s.statements) is)
      (at_once_or_opened settings s.session accepted.command accepted.given (accepted_due s.session.stage s.session.agreed.unicode request.contents (contents_of objects) accepted is)) f
  by_verdict settings s next request objects link bytes (Err refusal) is f =
      inr (followed_at_once (plan_for settings s.session s.statements request objects) (refused settings s.session refusal) link s next bytes (ap (plan settings s.session s.statements) is) f)

  by_outcome : (settings : Settings) (s next : Standing A) (command : List Dss) (bytes : List ℕ) → Exchanges asks settings s command bytes next ⊎ IsExcused s command bytes next
      → (s.session.stage ≡ Opened) ⊎ Unasked s next
  by_outcome settings s next [] bytes (inl e) = inr (ap (λ (t : Standing A). t.asked) e.1, ap (λ (t : Standing A). t.statements) e.1)
  by_outcome settings s next (request ∷ objects) bytes (inl (inl p)) = inr (ap (λ (t : Standing A). t.asked) p.same, ap (λ (t : Standing A). t.statements) p.same)
  by_outcome settings s next (request ∷ objects) bytes (inl (inr d)) = by_verdict settings s next request objects _ bytes (verdict s.session request objects) refl d.followed
  by_outcome settings s next command bytes (inr e) = inr (ap (λ (t : Standing A). t.asked) e.same, ap (λ (t : Standing A). t.statements) e.same)

  pub asks_opened : AsksOnlyWhenOpened asks
  asks_opened settings s next command bytes d = by_outcome settings s next command bytes d.does
