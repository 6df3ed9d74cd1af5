-- Replies to the commands that open the database, and to refused ones (DRDA V5 volume 3, the reply messages,
-- EXCSATRD and ACCSECRD): each is one object in a DSS of its own.
use Rattle.std.specs.Prelude.{ℕ, Bool, ◌==◌, if◌then◌else◌, codes, List, [], ◌∷◌, ◌++◌, Option, Some, None}
use Rattle.std.specs.Int.{w16, to_be_bytes}
use Rattle.ddm_objects.specs.declared.code_point.TheConstants.{EXTNAM, SRVCLSNM, SRVNAM, SRVRLSLV, MGRLVLLS, RDBNAM, SECMEC, SECCHKCD, CCSIDSBC, CCSIDMBC, PRDID, TYPDEFNAM, TYPDEFOVR, EXCSATRD, ACCSECRD, SECCHKRM, ACCRDBRM, RDBACCRM, RDBNACRM, RDBNFNRM}
use Rattle.ddm_objects.specs.Writing.{spelled}
use Rattle.drda_commands.specs.declared.refusal.Refusal.{Refusal}
use Rattle.drda_commands.specs.declared.refusal.Refusal.TheVariants.{Syntax, OutOfTurn, RdbAccessed, RdbNotAccessed, CommandNotSupported, ValueNotSupported}
use Rattle.drda_commands.specs.declared.stage.Mechanism.{Mechanism}
use Rattle.drda_commands.specs.declared.stage.Mechanism.TheVariants.{UserAndPassword, UserOnly}
use Rattle.drda_commands.specs.Refusals.{synerrcd_for}
use Rattle.drda_names.specs.Names.{in_encoding, padded_in}
use Rattle.sqlam_replies.specs.declared.message.ReplyMessage.TheVariants as is
use Rattle.sqlam_replies.specs.Message.{error, info, message_of, objects, scalar}
use Rattle.sqlam_replies.specs.Reply.{Reply, message, object}
use Rattle.session_commands.specs.declared.reply.TheConstants.{SERVER_NAME, SERVER_CLASS, RELEASE_LEVEL}
use Rattle.session_commands.specs.Levels.{levels_for}
use Rattle.session_commands.specs.Settings.{Settings}

-- ---- refusals, of severity ERROR

-- a message about the database of this name
abbrev pub rdb_error : ℕ → List ℕ → Reply
rdb_error code name = message (record { code = code; severity = error; parameters = scalar RDBNAM name ∷ [] })

abbrev pub refusal_reply : Settings → Bool → Refusal → Reply
refusal_reply settings unicode (Syntax fault) = message (message_of (is.Syntax (synerrcd_for fault)))
refusal_reply settings unicode OutOfTurn = message (message_of is.OutOfTurn)
refusal_reply settings unicode RdbAccessed = rdb_error RDBACCRM (padded_in unicode settings.rdb)
refusal_reply settings unicode RdbNotAccessed = rdb_error RDBNACRM (padded_in unicode settings.rdb)
refusal_reply settings unicode (CommandNotSupported code) = message (message_of (is.CommandNotSupported code))
refusal_reply settings unicode (ValueNotSupported code) = message (message_of (is.ValueNotSupported code))

-- no database has this name, which is answered as it came
abbrev pub rdb_not_found : List ℕ → Reply
rdb_not_found name = rdb_error RDBNFNRM name

-- a call of XA, where no level of XAMGR is agreed on
abbrev pub manager_missing : Reply
manager_missing = message (message_of is.ManagerDependency)

-- ---- EXCSAT

-- the levels that are answered, where some were asked
abbrev pub levels_part : Option (List ℕ) → List ℕ
levels_part None = []
levels_part (Some asked) = spelled MGRLVLLS (levels_for asked)

-- who the server is, always in code page 500
abbrev pub excsatrd : Option (List ℕ) → Reply
excsatrd asked =
    object (spelled EXCSATRD (spelled EXTNAM SERVER_NAME ++ levels_part asked ++ spelled SRVCLSNM SERVER_CLASS
    ++ spelled SRVNAM SERVER_NAME ++ spelled SRVRLSLV RELEASE_LEVEL))

-- ---- ACCSEC

abbrev pub mechanism_code : Mechanism → ℕ
mechanism_code UserAndPassword = 3
mechanism_code UserOnly = 4

-- the mechanism that is agreed on
abbrev pub accsecrd : Mechanism → Reply
accsecrd mechanism = object (spelled ACCSECRD (spelled SECMEC (to_be_bytes w16 (mechanism_code mechanism))))

-- the mechanisms that there are, since the one that was asked is none of them: no error that breaks a chain
abbrev pub accsecrd_refused : Reply
accsecrd_refused = object (spelled ACCSECRD (spelled SECMEC (to_be_bytes w16 3 ++ to_be_bytes w16 4) ++ spelled SECCHKCD (0x01 ∷ [])))

-- ---- SECCHK

abbrev pub check_severity : ℕ → ℕ
check_severity code = if code == 0 then info else error

abbrev pub secchkrm : ℕ → Reply
secchkrm code = message (record { code = SECCHKRM; severity = check_severity code; parameters = scalar SECCHKCD (code ∷ []) ∷ [] })

-- ---- ACCRDB

-- texts from then on are in CCSID 1208
abbrev pub ccsids : List ℕ
ccsids = objects (scalar CCSIDSBC (to_be_bytes w16 1208) ∷ scalar CCSIDMBC (to_be_bytes w16 1208) ∷ [])

abbrev pub accrdbrm : Bool → Reply
accrdbrm unicode = message (record {
  code = ACCRDBRM;
  severity = info;
  parameters = scalar PRDID (in_encoding unicode (codes "RDA01000")) ∷ scalar TYPDEFNAM (in_encoding unicode (codes "QTDSQLASC")) ∷ scalar TYPDEFOVR ccsids ∷ [];
})
