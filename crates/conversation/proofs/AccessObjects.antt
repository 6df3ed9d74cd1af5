-- What the commands before those of SQL are answered, and refused ones, are containers.
use Rattle.std.proofs.Common.{◌==◌, ◌≡◌, ℕ, Bool, true, false, List, [], ◌∷◌, ◌++◌, Option, Some, None, option_map, refl, sym, ap, ◌∙◌, if◌then◌else◌, append_assoc, append-nil}
use Rattle.std.specs.Prelude.{codes}
use Rattle.std.specs.Int.{w16, to_be_bytes}
use Rattle.ddm_objects.specs.declared.code_point.TheConstants.{EXTNAM, SRVCLSNM, SRVNAM, SRVRLSLV, MGRLVLLS, RDBNAM, SECMEC, SECCHKCD, CCSIDSBC, CCSIDMBC, PRDID, TYPDEFNAM, TYPDEFOVR, EXCSATRD, ACCSECRD, SECCHKRM, ACCRDBRM, RDBACCRM, RDBNACRM, RDBNFNRM}
use Rattle.ddm_objects.specs.Writing.{spelled, Trees, NoTrees, Scalar, Container}
use Rattle.drda_commands.specs.declared.refusal.Refusal.{Refusal}
use Rattle.drda_commands.specs.declared.refusal.Refusal.TheVariants.{Syntax, OutOfTurn, RdbAccessed, RdbNotAccessed, CommandNotSupported, ValueNotSupported}
use Rattle.drda_commands.specs.declared.stage.Mechanism.{Mechanism}
use Rattle.drda_commands.specs.declared.stage.Stage.TheVariants.{Opened}
use Rattle.drda_commands.specs.declared.table.Command.{Command}
use Rattle.drda_commands.specs.declared.table.Command.TheVariants.{Excsat, Accsec, Secchk, Accrdb, Syncctl}
use Rattle.drda_commands.specs.declared.table.ItemKind.TheVariants.{Parameter}
use Rattle.drda_commands.specs.Given.{Given, Occurs, value_of, found_at}
use Rattle.drda_commands.specs.Refusals.{synerrcd_for}
use Rattle.drda_names.specs.Names.{in_encoding, padded_in}
use Rattle.sqlam_replies.specs.declared.message.ReplyMessage.TheVariants as says
use Rattle.sqlam_replies.specs.Message.{error, info, message_of, scalar}
use Rattle.session_commands.specs.declared.reply.TheConstants.{SERVER_NAME, SERVER_CLASS, RELEASE_LEVEL}
use Rattle.session_commands.specs.declared.session.Session.{Session}
use Rattle.session_commands.specs.declared.answer.AtOnce.TheVariants.{ManagerMissing}
use Rattle.session_commands.specs.Access.{Answer, access_done, answered_at_once, asked_for, bytes_of, check_code, is_ours, mechanism_for}
use Rattle.session_commands.specs.Levels.{levels_for}
use Rattle.session_commands.specs.Replies.{refusal_reply, rdb_error, rdb_not_found, excsatrd, accsecrd, accsecrd_refused, mechanism_code, check_severity, accrdbrm, ccsids}
use Rattle.session_commands.specs.Settings.{Settings}
use Rattle.conversation.specs.Laws.{is_access}
use Rattle.conversation.proofs.SentObjects.{IsTree, container_tree, message_of_trees, message_tree}

abbrev one : ℕ → List ℕ → Trees
one code value = Scalar code value NoTrees

-- ---- lists of parts

two : (a b : List ℕ) → a ++ b ≡ a ++ (b ++ [])
two a b = ap (λ (z : List ℕ). a ++ z) (sym (append-nil b))

three : (a b c : List ℕ) → (a ++ b) ++ c ≡ a ++ (b ++ (c ++ []))
three a b c = two (a ++ b) c ∙ append_assoc a b (c ++ [])

five : (a b c d e : List ℕ) → (((a ++ b) ++ c) ++ d) ++ e ≡ a ++ (b ++ (c ++ (d ++ (e ++ []))))
five a b c d e = three ((a ++ b) ++ c) d e ∙ append_assoc (a ++ b) c (d ++ (e ++ [])) ∙ append_assoc a b (c ++ (d ++ (e ++ [])))

-- ---- the replies

rdb_error_tree : (code : ℕ) (name : List ℕ) → IsTree (rdb_error code name)
rdb_error_tree code name = message_tree (record { code = code; severity = error; parameters = scalar RDBNAM name ∷ [] })

pub refusal_tree : (settings : Settings) (unicode : Bool) (refusal : Refusal) → IsTree (refusal_reply settings unicode refusal)
refusal_tree settings unicode (Syntax fault) = message_tree (message_of (says.Syntax (synerrcd_for fault)))
refusal_tree settings unicode OutOfTurn = message_tree (message_of says.OutOfTurn)
refusal_tree settings unicode RdbAccessed = rdb_error_tree RDBACCRM (padded_in unicode settings.rdb)
refusal_tree settings unicode RdbNotAccessed = rdb_error_tree RDBNACRM (padded_in unicode settings.rdb)
refusal_tree settings unicode (CommandNotSupported code) = message_tree (message_of (says.CommandNotSupported code))
refusal_tree settings unicode (ValueNotSupported code) = message_tree (message_of (says.ValueNotSupported code))

excsatrd_tree : (asked : Option (List ℕ)) → IsTree (excsatrd asked)
excsatrd_tree None =
    container_tree EXCSATRD _ (Scalar EXTNAM SERVER_NAME (Scalar SRVCLSNM SERVER_CLASS (Scalar SRVNAM SERVER_NAME (one SRVRLSLV RELEASE_LEVEL))))
    (five (spelled EXTNAM SERVER_NAME) [] (spelled SRVCLSNM SERVER_CLASS) (spelled SRVNAM SERVER_NAME) (spelled SRVRLSLV RELEASE_LEVEL))
excsatrd_tree (Some asked) =
    container_tree EXCSATRD _ (Scalar EXTNAM SERVER_NAME (Scalar MGRLVLLS (levels_for asked) (Scalar SRVCLSNM SERVER_CLASS (Scalar SRVNAM SERVER_NAME (one SRVRLSLV RELEASE_LEVEL)))))
    (five (spelled EXTNAM SERVER_NAME) (spelled MGRLVLLS (levels_for asked)) (spelled SRVCLSNM SERVER_CLASS) (spelled SRVNAM SERVER_NAME) (spelled SRVRLSLV RELEASE_LEVEL))

accsecrd_tree : (mechanism : Mechanism) → IsTree (accsecrd mechanism)
accsecrd_tree mechanism =
    let code : List ℕ = to_be_bytes w16 (mechanism_code mechanism) in
    container_tree ACCSECRD (spelled SECMEC code) (one SECMEC code) (sym (append-nil (spelled SECMEC code)))

accsecrd_refused_tree : IsTree accsecrd_refused
accsecrd_refused_tree =
    container_tree ACCSECRD _ (Scalar SECMEC (to_be_bytes w16 3 ++ to_be_bytes w16 4) (one SECCHKCD (0x01 ∷ [])))
    (two (spelled SECMEC (to_be_bytes w16 3 ++ to_be_bytes w16 4)) (spelled SECCHKCD (0x01 ∷ [])))

accrdbrm_tree : (unicode : Bool) → IsTree (accrdbrm unicode)
accrdbrm_tree unicode =
    let product : List ℕ = in_encoding unicode (codes "RDA01000") in
    let types : List ℕ = in_encoding unicode (codes "QTDSQLASC") in
    message_of_trees (record { code = ACCRDBRM; severity = info; parameters = scalar PRDID product ∷ scalar TYPDEFNAM types ∷ scalar TYPDEFOVR ccsids ∷ [] })
    (Scalar PRDID product (Scalar TYPDEFNAM types (Container TYPDEFOVR (Scalar CCSIDSBC (to_be_bytes w16 1208) (one CCSIDMBC (to_be_bytes w16 1208))) NoTrees))) refl

-- ---- the answers to commands

either_tree : (b : Bool) (x y : Answer) → IsTree x.reply → IsTree y.reply → IsTree (if b then x else y).reply
either_tree true x y p q = p
either_tree false x y p q = q

asked_tree : (session : Session) (mechanism : Option Mechanism) → IsTree (asked_for session mechanism).reply
asked_tree session (Some mechanism) = accsecrd_tree mechanism
asked_tree session None = accsecrd_refused_tree

-- of a command that comes before those of SQL there is an answer, a container
abbrev pub HasTree : Command → Option Answer → Type 0
HasTree command None = is_access command ≡ false
HasTree command (Some a) = IsTree a.reply

missing_tree : (settings : Settings) (session : Session) (given : Given) (b : Bool) → HasTree Syncctl (option_map (λ what. answered_at_once settings session what given) (if b then Some ManagerMissing else None))
missing_tree settings session given true = message_tree (message_of says.ManagerDependency)
missing_tree settings session given false = refl

pub done_tree : (settings : Settings) (session : Session) (command : Command) (given : Given) → HasTree command (access_done settings session command given)
done_tree settings session Excsat given = excsatrd_tree (value_of (found_at Parameter MGRLVLLS given))
done_tree settings session Accsec given =
    let rdbnam : Occurs = found_at Parameter RDBNAM given in
    let asked : Option Mechanism = mechanism_for (bytes_of (found_at Parameter SECMEC given)) in
    either_tree (is_ours settings session.agreed.unicode rdbnam) (asked_for session asked) (record { session = session; reply = rdb_not_found (bytes_of rdbnam) })
    (asked_tree session asked) (rdb_error_tree RDBNFNRM (bytes_of rdbnam))
done_tree settings session Secchk given =
    let code : ℕ = check_code settings session (found_at Parameter SECMEC given) (found_at Parameter 0x11A0 given) (found_at Parameter 0x11A1 given) in
    message_tree (record { code = SECCHKRM; severity = check_severity code; parameters = scalar SECCHKCD (code ∷ []) ∷ [] })
done_tree settings session Accrdb given =
    let rdbnam : Occurs = found_at Parameter RDBNAM given in
    either_tree (is_ours settings session.agreed.unicode rdbnam) (record { session = record session { stage = Opened }; reply = accrdbrm session.agreed.unicode })
    (record { session = session; reply = rdb_not_found (bytes_of rdbnam) }) (accrdbrm_tree session.agreed.unicode) (rdb_error_tree RDBNFNRM (bytes_of rdbnam))
done_tree settings session Syncctl given = missing_tree settings session given (session.agreed.xa == 0)
done_tree settings session command given = refl
