-- Commands that are answered at once, and the judge's word.
use Rattle.std.proofs.Common.{◌≡◌, ◌++◌, ℕ, ◌+◌, List, [], ◌∷◌, length, take, drop, Option, Some, None, Result, Ok, Err, OnOk, refl, sym, ap, ◌∙◌, subst, append_assoc, arith, length-append}
use Rattle.std.specs.Prelude.{vec_len}
use Rattle.std.specs.Global.{Vec}
use Rattle.std.proofs.lemmas.List.{drop_at, take-take, take_at}
use Rattle.core_calls.specs.Call.{Call}
use Rattle.core_calls.specs.Answer as core
use Rattle.dss_frames.specs.Writing.{unset}
use Rattle.drda_commands.specs.declared.refusal.Refusal.{Refusal}
use Rattle.drda_commands.specs.Judge.{Accepted}
use Rattle.command_kit.specs.declared.statements.Statements.{Statements}
use Rattle.conversation.specs.declared.chain.Link.{Link}
use Rattle.session_commands.specs.declared.session.Session.{Session}
use Rattle.session_commands.specs.Access.{Answer, access_done, refused}
use Rattle.session_commands.specs.declared.answer.Answer as rust_answer
use Rattle.session_commands.specs.Views.{IsAppended, answer_of}
use Rattle.conversation.specs.Exchange.{Plan, at_once, at_once_or, plan, sent, database_plan}
use Rattle.session_commands.specs.Settings.{Settings}
use Rattle.conversation.specs.Standing.{Standing}
use Rattle.conversation.specs.Views.{Appends}

-- ---- a text that was appended in a DSS that was opened for it

text_behind : (old mid text : List ℕ) (at : ℕ) → at ≡ length old → mid ≡ (old ++ unset) ++ text → drop (at + 6) mid ≡ text
text_behind old mid text at place is = ap (drop (at + 6)) is ∙ drop_at (old ++ unset) text (at + 6) (omega (arith, length-append old unset, place))

front_before : (old mid more : List ℕ) (at : ℕ) → at ≡ length old → mid ≡ old ++ more → take at mid ≡ old
front_before old mid more at place is = ap (take at) is ∙ take_at old more at (sym place)

pub record IsSent {T E : Type 0} (r : Result T E) (link : Link) (due : Answer) (session : Session) (old new : List ℕ) : Type 0 where
  pub session_is : OnOk r (session ≡ (sent link due.session (due.reply ∷ [])).session)
  pub bytes_are : OnOk r (new ≡ old ++ (sent link due.session (due.reply ∷ [])).bytes)

-- the DSS was closed behind an answer that is due
sent_in_place : {T E : Type 0} (r : Result T E) (link : Link) (answer : rust_answer.Answer) (due : Answer) (at : ℕ) (session : Session) (old mid new : List ℕ)
    → at ≡ length old → IsAppended answer (old ++ unset) mid due
    → OnOk r (session ≡ (sent link answer.session ((answer_of answer (drop (at + 6) mid)).reply ∷ [])).session)
    → OnOk r (new ≡ take at mid ++ (sent link answer.session ((answer_of answer (drop (at + 6) mid)).reply ∷ [])).bytes)
    → IsSent r link due session old new
sent_in_place r link answer due at session old mid new place (is, made) goes bytes =
    let text : drop (at + 6) mid ≡ due.reply.text = text_behind old mid due.reply.text at place made in
    let front : take at mid ≡ old = front_before old mid (unset ++ due.reply.text) at place (made ∙ append_assoc old unset due.reply.text) in
    let same : answer_of answer (drop (at + 6) mid) ≡ due = ap (answer_of answer) text ∙ is in
    let S : Answer → Type 0 = λ a. OnOk r (session ≡ (sent link a.session (a.reply ∷ [])).session) in
    let B : Answer → Type 0 = λ a. OnOk r (new ≡ take at mid ++ (sent link a.session (a.reply ∷ [])).bytes) in
    record {
      session_is = subst S same goes;
      bytes_are = subst (λ (f : List ℕ). OnOk r (new ≡ f ++ (sent link due.session (due.reply ∷ [])).bytes)) front (subst B same bytes);
    }

-- the same of a DSS that was opened behind what stood there
pub sent_behind : {T E : Type 0} (r : Result T E) (link : Link) (answer : rust_answer.Answer) (due : Answer) (v w : Vec ℕ) (at : ℕ) (session : Session) (mid new : List ℕ)
    → at ≡ vec_len v → w.items ≡ v.items ++ unset → IsAppended answer w.items mid due
    → OnOk r (session ≡ (sent link answer.session ((answer_of answer (drop (at + 6) mid)).reply ∷ [])).session)
    → OnOk r (new ≡ take at mid ++ (sent link answer.session ((answer_of answer (drop (at + 6) mid)).reply ∷ [])).bytes)
    → IsSent r link due session v.items new
sent_behind r link answer due v w at session mid new place opened made goes bytes =
    sent_in_place r link answer due at session v.items mid new (omega (arith, place, v.ok.0)) (subst (λ (f : List ℕ). IsAppended answer f mid due) opened made) goes bytes

-- and it is taken away where there is no memory
pub taken_back : (v w : Vec ℕ) (at : ℕ) (next : List ℕ) → at ≡ vec_len v → w.items ≡ v.items ++ unset → take (vec_len w) next ≡ w.items → take at next ≡ v.items
taken_back v w at next place opened kept =
    let long = ap length opened ∙ length-append v.items unset in
    let here : at ≡ length v.items = omega (arith, place, v.ok.0) in
    sym (take-take at (vec_len w) next (omega (arith, long, here, w.ok.0))) ∙ ap (take at) kept ∙ front_before v.items w.items unset at here opened

module _ {A : Type 0} (asks : A → Call → core.Answer → A → Type 0) where
  -- one reply was sent, and nothing was asked
  once : {T E : Type 0} (r : Result T E) (s : Standing A) (link : Link) (a : Answer) (p : Plan) (session : Session) (statements : Statements) (out out' : List ℕ)
      → at_once s.statements a ≡ p
      → OnOk r (session ≡ (sent link a.session (a.reply ∷ [])).session) → OnOk r (out' ≡ out ++ (sent link a.session (a.reply ∷ [])).bytes) → statements ≡ s.statements
      → OnOk r (Appends asks p link s out (record { session = session; statements = statements; asked = s.asked }) out')
  once (Err e) s link a p session statements out out' is goes bytes kept = bytes
  once (Ok x) s link a p session statements out out' is goes bytes kept =
      let P : Plan → Type 0 = λ q. Appends asks q link s out (record { session = session; statements = statements; asked = s.asked }) out' in
      subst P is (
        (sent link a.session (a.reply ∷ [])).bytes,
        record { replies = a.reply ∷ []; done = (refl, record { kept = kept; replied = refl }); session = goes; bytes_are = refl },
        bytes,
      )

  -- of a command that comes before those of SQL
  pub access_once : {T E : Type 0} (r : Result T E) (settings : Settings) (s : Standing A) (link : Link) (accepted : Accepted) (v : Result Accepted Refusal) (a : Answer) (session : Session) (statements : Statements) (out out' : List ℕ)
      → v ≡ Ok accepted → access_done settings s.session accepted.command accepted.given ≡ Some a
      → OnOk r (session ≡ (sent link a.session (a.reply ∷ [])).session) → OnOk r (out' ≡ out ++ (sent link a.session (a.reply ∷ [])).bytes) → statements ≡ s.statements
      → OnOk r (Appends asks (plan settings s.session s.statements v) link s out (record { session = session; statements = statements; asked = s.asked }) out')
  access_once r settings s link accepted v a session statements out out' is found goes bytes kept =
      let here : plan settings s.session s.statements v ≡ at_once s.statements a =
      ap (plan settings s.session s.statements) is ∙ ap (λ (f : Option Answer). at_once_or s.statements f (database_plan settings s.session s.statements accepted.command accepted.given)) found in
      once r s link a (plan settings s.session s.statements v) session statements out out' (sym here) goes bytes kept

  -- and of a refused command
  pub refused_once : {T E : Type 0} (r : Result T E) (settings : Settings) (s : Standing A) (link : Link) (refusal : Refusal) (v : Result Accepted Refusal) (session : Session) (statements : Statements) (out out' : List ℕ)
      → v ≡ Err refusal
      → OnOk r (session ≡ (sent link s.session ((refused settings s.session refusal).reply ∷ [])).session)
      → OnOk r (out' ≡ out ++ (sent link s.session ((refused settings s.session refusal).reply ∷ [])).bytes) → statements ≡ s.statements
      → OnOk r (Appends asks (plan settings s.session s.statements v) link s out (record { session = session; statements = statements; asked = s.asked }) out')
  refused_once r settings s link refusal v session statements out out' is goes bytes kept =
      once r s link (refused settings s.session refusal) (plan settings s.session s.statements v) session statements out out' (sym (ap (plan settings s.session s.statements) is)) goes bytes kept

  -- a command on the database
  pub on_database : {T E : Type 0} (r : Result T E) (settings : Settings) (s s' : Standing A) (link : Link) (accepted : Accepted) (v : Result Accepted Refusal) (out out' : List ℕ)
      → v ≡ Ok accepted → access_done settings s.session accepted.command accepted.given ≡ None
      → OnOk r (Appends asks (database_plan settings s.session s.statements accepted.command accepted.given) link s out s' out')
      → OnOk r (Appends asks (plan settings s.session s.statements v) link s out s' out')
  on_database (Err e) settings s s' link accepted v out out' is none done = tt
  on_database (Ok x) settings s s' link accepted v out out' is none done =
      let otherwise : Plan = database_plan settings s.session s.statements accepted.command accepted.given in
      let here : plan settings s.session s.statements v ≡ otherwise =
      ap (plan settings s.session s.statements) is ∙ ap (λ (f : Option Answer). at_once_or s.statements f otherwise) none in
      subst (λ (p : Plan). Appends asks p link s out s' out') (sym here) done
