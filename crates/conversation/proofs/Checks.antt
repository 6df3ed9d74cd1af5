-- The database is opened only behind a check of the user.
use Rattle.std.proofs.Common.{◌≡◌, ◌⊎◌, ◌==◌, ℕ, Bool, true, false, List, [], ◌∷◌, ◌++◌, Option, Some, None, option_map, Ok, Err, Result, refl, sym, ap, subst, ◌∙◌, inl, inr, if◌then◌else◌}
use Rattle.std.proofs.Common.{append_assoc, arith}
use Rattle.core_calls.specs.Call.{Call}
use Rattle.core_calls.specs.Answer as core
use Rattle.dss_frames.specs.Dss.{Dss}
use Rattle.dss_frames.specs.Writing.{written}
use Rattle.drda_commands.specs.declared.refusal.Refusal.{Refusal}
use Rattle.drda_commands.specs.declared.stage.Mechanism.{Mechanism}
use Rattle.drda_commands.specs.declared.stage.Stage.{Stage}
use Rattle.drda_commands.specs.declared.stage.Stage.TheVariants.{Fresh, Known, MechanismChosen, Checked, Opened}
use Rattle.drda_commands.specs.declared.table.Command.{Command}
use Rattle.drda_commands.specs.declared.table.Command.TheVariants.{Excsat, Accsec, Secchk, Accrdb, Syncctl}
use Rattle.drda_commands.specs.declared.table.ItemKind.TheVariants.{Parameter}
use Rattle.drda_commands.specs.Given.{Given, contents_of, found_at}
use Rattle.drda_commands.specs.Judge.{Accepted, due_or_refused}
use Rattle.session_commands.specs.declared.session.Session.{Session}
use Rattle.conversation.specs.Done.{Does, DoesAll, Exchanges, IsExcused, IsFollowed}
use Rattle.session_commands.specs.declared.answer.AtOnce.TheVariants.{ManagerMissing}
use Rattle.session_commands.specs.Access.{Answer, access_done, answered_at_once, asked_for, bytes_of, check_code, is_ours, known_from, mechanism_for, refused}
use Rattle.conversation.specs.Exchange.{Plan, at_once, at_once_or, link_of, plan, plan_for, database_plan}
use Rattle.conversation.specs.Laws.{OpenedBehindACheck, ChecksTheUser, HasCheckedTheUser, verdict}
use Rattle.session_commands.specs.Replies.{secchkrm, rdb_not_found}
use Rattle.session_commands.specs.Settings.{Settings}
use Rattle.conversation.specs.Standing.{Standing, beginning}
use Rattle.conversation.proofs.Asking.{accepted_due}
use Rattle.conversation.proofs.Single.{at_once_sent, at_once_session, one_format}

-- the user was checked
abbrev is_checked : Stage → Bool
is_checked Fresh = false
is_checked Known = false
is_checked (MechanismChosen mechanism) = false
is_checked Checked = true
is_checked Opened = true

both : {P : Type 0} (b : Bool) → b ≡ true → b ≡ false → P
both b so not = let clash : true ≡ false = sym so ∙ not in absurd (cc clash)

-- ACCRDB comes only where the user was checked
accrdb_due : (stage : Stage) → due_or_refused Accrdb stage ≡ Ok tt → is_checked stage ≡ true
accrdb_due Fresh e = absurd (cc e)
accrdb_due Known e = absurd (cc e)
accrdb_due (MechanismChosen mechanism) e = absurd (cc e)
accrdb_due Checked e = refl
accrdb_due Opened e = absurd (cc e)

-- ---- which commands check the user

either : (session : Session) (b : Bool) (x y : Answer) → is_checked x.session.stage ≡ false → is_checked y.session.stage ≡ false → is_checked (if b then x else y).session.stage ≡ false
either session true x y p q = p
either session false x y p q = q

known_unchecked : (stage : Stage) → is_checked stage ≡ false → is_checked (known_from stage) ≡ false
known_unchecked Fresh e = refl
known_unchecked Known e = e
known_unchecked (MechanismChosen mechanism) e = e
known_unchecked Checked e = e
known_unchecked Opened e = e

asked_unchecked : (session : Session) (mechanism : Option Mechanism) → is_checked session.stage ≡ false → is_checked (asked_for session mechanism).session.stage ≡ false
asked_unchecked session (Some mechanism) e = refl
asked_unchecked session None e = e

-- a code other than 00 leaves the stage
code_is : (session : Session) (code : ℕ) (b : Bool) → (code == 0) ≡ b → is_checked session.stage ≡ false → is_checked (if b then Checked else session.stage) ≡ true → code ≡ 0
code_is session code true is off on = grind (arith, is)
code_is session code false is off on = let both : true ≡ false = sym on ∙ off in absurd (cc both)

-- an answer that checks the user is that of SECCHK
abbrev ChecksBy : Command → Option Answer → Type 0
ChecksBy command None = Unit {0}
ChecksBy command (Some a) = is_checked a.session.stage ≡ true → (command ≡ Secchk) × (a.reply ≡ secchkrm 0)

missing_unchecked : (settings : Settings) (session : Session) (given : Given) → is_checked session.stage ≡ false → (b : Bool) → ChecksBy Syncctl (option_map (λ what. answered_at_once settings session what given) (if b then Some ManagerMissing else None))
missing_unchecked settings session given off true = λ on. both _ on off
missing_unchecked settings session given off false = tt

done_unchecked : (settings : Settings) (session : Session) (command : Command) (given : Given) → due_or_refused command session.stage ≡ Ok tt → is_checked session.stage ≡ false
    → ChecksBy command (access_done settings session command given)
done_unchecked settings session Excsat given due off = λ on. both _ on (known_unchecked session.stage off)
done_unchecked settings session Accsec given due off = λ on.
    both _ on (either session (is_ours settings session.agreed.unicode (found_at Parameter 0x2110 given)) (asked_for session (mechanism_for (bytes_of (found_at Parameter 0x11A2 given))))
    (record { session = session; reply = rdb_not_found (bytes_of (found_at Parameter 0x2110 given)) }) (asked_unchecked session (mechanism_for (bytes_of (found_at Parameter 0x11A2 given))) off) off)
done_unchecked settings session Secchk given due off = λ on.
    let code : ℕ = check_code settings session (found_at Parameter 0x11A2 given) (found_at Parameter 0x11A0 given) (found_at Parameter 0x11A1 given) in
    (refl, ap secchkrm (code_is session code (code == 0) refl off on))
done_unchecked settings session Accrdb given due off = λ on. both (is_checked session.stage) (accrdb_due session.stage due) off
done_unchecked settings session Syncctl given due off = missing_unchecked settings session given off (session.agreed.xa == 0)
done_unchecked settings session command given due off = tt

-- ---- one command

module _ {A : Type 0} (asks : A → Call → core.Answer → A → Type 0) where
  module _ (settings : Settings) (s next : Standing A) (request : Dss) (objects : List Dss) (bytes : List ℕ) (off : is_checked s.session.stage ≡ false) (on : is_checked next.session.stage ≡ true) where
    abbrev p : Plan
    p = plan_for settings s.session s.statements request objects

    -- a plan that leaves the stage
    stays : {P : Type 0} → IsFollowed asks p (link_of request objects) s bytes next → p.session.stage ≡ s.session.stage → P
    stays f same = both (is_checked next.session.stage) on (ap is_checked (ap (λ (t : Session). t.stage) f.session ∙ same) ∙ off)

    by_found : (accepted : Accepted) → verdict s.session request objects ≡ Ok accepted → (o : Option Answer) → access_done settings s.session accepted.command accepted.given ≡ o
        → ChecksBy accepted.command o → IsFollowed asks p (link_of request objects) s bytes next → ChecksTheUser s.session (request ∷ objects) bytes
    by_found accepted is (Some a) found checks f =
        let otherwise : Plan = database_plan settings s.session s.statements accepted.command accepted.given in
        let at : p ≡ at_once s.statements a = ap (plan settings s.session s.statements) is ∙ ap (λ (x : Option Answer). at_once_or s.statements x otherwise) found in
        let stage : next.session.stage ≡ a.session.stage = ap (λ (t : Session). t.stage) (at_once_session asks p a (link_of request objects) s next bytes at f) in
        let (secchk, reply) = checks (ap is_checked (sym stage) ∙ on) in
        let format : ℕ = one_format (link_of request objects) a.session a.reply in
        record {
          request = request;
          objects = objects;
          command_is = refl;
          accepted = accepted;
          judged_is = is;
          is_secchk = secchk;
          format = format;
          answer = at_once_sent asks p a (link_of request objects) s next bytes at f ∙ ap (λ r. written format request.correlator r.text) reply;
        }
    by_found accepted is None found checks f =
        let otherwise : Plan = database_plan settings s.session s.statements accepted.command accepted.given in
        let at : p ≡ otherwise = ap (plan settings s.session s.statements) is ∙ ap (λ (x : Option Answer). at_once_or s.statements x otherwise) found in
        stays f (ap (λ (q : Plan). q.session.stage) at)

    by_verdict : (v : Result Accepted Refusal) → verdict s.session request objects ≡ v → IsFollowed asks p (link_of request objects) s bytes next → ChecksTheUser s.session (request ∷ objects) bytes
    by_verdict (Ok accepted) is f =
        by_found accepted is (access_done settings s.session accepted.command accepted.given) refl
        (done_unchecked settings s.session accepted.command accepted.given (accepted_due s.session.stage s.session.agreed.unicode request.contents (contents_of objects) accepted is) off) f
    by_verdict (Err refusal) is f =
        let at : p ≡ at_once s.statements (refused settings s.session refusal) = ap (plan settings s.session s.statements) is in
        stays f (ap (λ (q : Plan). q.session.stage) at)

  by_outcome : (settings : Settings) (s next : Standing A) (command : List Dss) (bytes : List ℕ) → is_checked s.session.stage ≡ false → is_checked next.session.stage ≡ true
      → Exchanges asks settings s command bytes next ⊎ IsExcused s command bytes next → ChecksTheUser s.session command bytes
  by_outcome settings s next [] bytes off on (inl e) = both _ on (ap (λ (t : Standing A). is_checked t.session.stage) e.1 ∙ off)
  by_outcome settings s next [] bytes off on (inr e) = both _ on (ap (λ (t : Standing A). is_checked t.session.stage) e.same ∙ off)
  by_outcome settings s next (request ∷ objects) bytes off on (inl (inl p)) = both _ on (ap (λ (t : Standing A). is_checked t.session.stage) p.same ∙ off)
  by_outcome settings s next (request ∷ objects) bytes off on (inl (inr d)) = by_verdict settings s next request objects bytes off on (verdict s.session request objects) refl d.followed
  by_outcome settings s next (request ∷ objects) bytes off on (inr e) = both _ on (ap (λ (t : Standing A). is_checked t.session.stage) e.same ∙ off)

  -- ---- commands one after the other

  -- by whether the user is checked behind the first of them
  first_checks : (settings : Settings) (command : List Dss) (commands : List (List Dss)) (s next last : Standing A) (first others : List ℕ) (b : Bool) → is_checked next.session.stage ≡ b
      → is_checked s.session.stage ≡ false → Does asks settings s command first next → (b ≡ false → HasCheckedTheUser asks settings next commands others) → DoesAll asks settings next commands others last
      → HasCheckedTheUser asks settings s (command ∷ commands) (first ++ others)
  first_checks settings command commands s next last first others true is off does later rest = record {
    before = [];
    check = command;
    after = commands;
    commands_are = refl;
    at = s;
    replies = [];
    answer = first;
    others = others;
    done = (refl, refl);
    checks = by_outcome settings s next command first off is does.does;
    bytes_are = refl;
  }
  first_checks settings command commands s next last first others false is off does later rest =
      let h = later refl in
      record {
        before = command ∷ h.before;
        check = h.check;
        after = h.after;
        commands_are = ap (λ (z : List (List Dss)). command ∷ z) h.commands_are;
        at = h.at;
        replies = first ++ h.replies;
        answer = h.answer;
        others = h.others;
        done = (first, h.replies, next, does, refl, h.done);
        checks = h.checks;
        bytes_are = ap (λ (z : List ℕ). first ++ z) h.bytes_are ∙ sym (append_assoc first h.replies (h.answer ++ h.others));
      }

  all_check : (settings : Settings) (commands : List (List Dss)) (s last : Standing A) (bytes : List ℕ) → is_checked s.session.stage ≡ false → DoesAll asks settings s commands bytes last
      → is_checked last.session.stage ≡ true → HasCheckedTheUser asks settings s commands bytes
  all_check settings [] s last bytes off d on = both _ on (ap (λ (t : Standing A). is_checked t.session.stage) d.1 ∙ off)
  all_check settings (command ∷ commands) s last bytes off d on =
      subst (λ (z : List ℕ). HasCheckedTheUser asks settings s (command ∷ commands) z) (sym d.4)
      (first_checks settings command commands s d.2 last d.0 d.1 (is_checked d.2.session.stage) refl off d.3 (λ none. all_check settings commands d.2 last d.1 none d.5 on) d.5)

  pub opened_behind : OpenedBehindACheck asks
  opened_behind settings asked last commands bytes d opened = all_check settings commands (beginning asked) last bytes refl d (ap is_checked opened)
