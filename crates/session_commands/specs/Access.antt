-- What the commands that open the database reply and keep (DRDA V5 volume 1, "Connection Flows"; volume 3,
-- EXCSAT, ACCSEC, SECCHK, ACCRDB), and what a refused command is answered.
use Rattle.std.specs.Prelude.{ℕ, ◌==◌, Bool, true, false, ◌&&◌, List, [], ◌∷◌, Option, Some, None, option_map, if◌then◌else◌}
use Rattle.ddm_objects.specs.declared.code_point.TheConstants.{MGRLVLLS, SECMEC, RDBNAM, USRID, PASSWORD}
use Rattle.drda_commands.specs.declared.refusal.Refusal.{Refusal}
use Rattle.drda_commands.specs.declared.table.Command.{Command}
use Rattle.drda_commands.specs.declared.table.Command.TheVariants.{Excsat, Accsec, Secchk, Accrdb, Syncctl}
use Rattle.drda_commands.specs.declared.table.ItemKind.TheVariants.{Parameter}
use Rattle.drda_commands.specs.declared.stage.Stage.{Stage}
use Rattle.drda_commands.specs.declared.stage.Stage.TheVariants.{Fresh, Known, MechanismChosen, Checked, Opened}
use Rattle.drda_commands.specs.declared.stage.Mechanism.{Mechanism}
use Rattle.drda_commands.specs.declared.stage.Mechanism.TheVariants.{UserAndPassword, UserOnly}
use Rattle.drda_commands.specs.Given.{Given, Occurs, never, once, twice, value_of, found_at}
use Rattle.drda_names.specs.Names.{is_name, is_padded_name}
use Rattle.sqlam_replies.specs.Reply.{Reply}
use Rattle.session_commands.specs.declared.answer.AtOnce.{AtOnce}
use Rattle.session_commands.specs.declared.answer.AtOnce.TheVariants as once
use Rattle.session_commands.specs.declared.session.Agreed.{Agreed}
use Rattle.session_commands.specs.declared.session.Session.{Session}
use Rattle.session_commands.specs.Levels.{agreed_after, nothing_agreed}
use Rattle.session_commands.specs.Replies.{refusal_reply, rdb_not_found, manager_missing, excsatrd, accsecrd, accsecrd_refused, secchkrm, accrdbrm}
use Rattle.session_commands.specs.Settings.{Settings}

-- a reply, and what is remembered then
pub record Answer : Type 0 where
  pub session : Session
  pub reply : Reply

-- ---- commands that are not refused

abbrev pub known_from : Stage → Stage
known_from Fresh = Known
known_from stage = stage

-- with MGRLVLLS all is agreed anew
abbrev pub agreed_anew : Agreed → Option (List ℕ) → Agreed
agreed_anew agreed None = agreed
agreed_anew agreed (Some asked) = agreed_after nothing_agreed asked

abbrev pub excsat_done : Session → Option (List ℕ) → Answer
excsat_done session asked = record {
  session = record session { stage = known_from session.stage; agreed = agreed_anew session.agreed asked };
  reply = excsatrd asked;
}

-- ---- ACCSEC

-- a name of a database that came, where one came, is this one's
abbrev pub is_ours : Settings → Bool → Occurs → Bool
is_ours settings unicode never = true
is_ours settings unicode (once name) = is_padded_name unicode name settings.rdb
is_ours settings unicode twice = false

abbrev pub mechanism_for : List ℕ → Option Mechanism
mechanism_for (high ∷ low ∷ []) =
    if (high == 0) && (low == 3) then Some UserAndPassword else if (high == 0) && (low == 4) then Some UserOnly else None
mechanism_for value = None

abbrev pub asked_for : Session → Option Mechanism → Answer
asked_for session (Some mechanism) = record { session = record session { stage = MechanismChosen mechanism }; reply = accsecrd mechanism }
asked_for session None = record { session = session; reply = accsecrd_refused }

-- the bytes of a value that is there, and none of one that is not
abbrev pub bytes_of : Occurs → List ℕ
bytes_of never = []
bytes_of (once value) = value
bytes_of twice = []

abbrev pub accsec_done : Settings → Session → Occurs → Occurs → Answer
accsec_done settings session secmec rdbnam =
    if is_ours settings session.agreed.unicode rdbnam then asked_for session (mechanism_for (bytes_of secmec))
    else record { session = session; reply = rdb_not_found (bytes_of rdbnam) }

-- ---- SECCHK

abbrev pub is_mechanism : Mechanism → Option Mechanism → Bool
is_mechanism UserAndPassword (Some UserAndPassword) = true
is_mechanism UserOnly (Some UserOnly) = true
is_mechanism mechanism other = false

abbrev pub is_agreed : Stage → List ℕ → Bool
is_agreed (MechanismChosen mechanism) value = is_mechanism mechanism (mechanism_for value)
is_agreed stage value = false

abbrev pub wants_password : Stage → Bool
wants_password (MechanismChosen UserAndPassword) = true
wants_password stage = false

-- SECCHKCD: a parameter is missing, is wrong, or is right
abbrev pub code_of_user : Settings → Bool → Occurs → ℕ → ℕ
code_of_user settings unicode never right = 0x12
code_of_user settings unicode (once name) right = if is_name unicode name settings.user then right else 0x13
code_of_user settings unicode twice right = 0x12

abbrev pub code_of_password : Settings → Bool → Occurs → ℕ
code_of_password settings unicode never = 0x10
code_of_password settings unicode (once word) = if is_name unicode word settings.password then 0 else 0x0F
code_of_password settings unicode twice = 0x10

-- the first that holds: another mechanism than the agreed one, the user, the password where it is wanted
abbrev pub check_code : Settings → Session → Occurs → Occurs → Occurs → ℕ
check_code settings session secmec usrid password =
    if is_agreed session.stage (bytes_of secmec) then
    code_of_user settings session.agreed.unicode usrid
    (if wants_password session.stage then code_of_password settings session.agreed.unicode password else 0)
    else 0x01

abbrev pub checked_with : Session → ℕ → Answer
checked_with session code = record { session = record session { stage = (if code == 0 then Checked else session.stage) }; reply = secchkrm code }

-- ---- ACCRDB

abbrev pub accrdb_done : Settings → Session → Occurs → Answer
accrdb_done settings session rdbnam =
    if is_ours settings session.agreed.unicode rdbnam then record { session = record session { stage = Opened }; reply = accrdbrm session.agreed.unicode }
    else record { session = session; reply = rdb_not_found (bytes_of rdbnam) }

-- ---- SYNCCTL

-- it needs the agreement on a level of XAMGR
abbrev pub manager_is_missing : Session → Answer
manager_is_missing session = record { session = session; reply = manager_missing }

-- ---- what is answered without the database

-- the commands that open it, and what it can't be asked
abbrev pub at_once : Session → Command → Option AtOnce
at_once session Excsat = Some once.Excsat
at_once session Accsec = Some once.Accsec
at_once session Secchk = Some once.Secchk
at_once session Accrdb = Some once.Accrdb
at_once session Syncctl = if session.agreed.xa == 0 then Some once.ManagerMissing else None
at_once session command = None

abbrev pub answered_at_once : Settings → Session → AtOnce → Given → Answer
answered_at_once settings session once.Excsat given = excsat_done session (value_of (found_at Parameter MGRLVLLS given))
answered_at_once settings session once.Accsec given = accsec_done settings session (found_at Parameter SECMEC given) (found_at Parameter RDBNAM given)
answered_at_once settings session once.Secchk given =
    checked_with session (check_code settings session (found_at Parameter SECMEC given) (found_at Parameter USRID given) (found_at Parameter PASSWORD given))
answered_at_once settings session once.Accrdb given = accrdb_done settings session (found_at Parameter RDBNAM given)
answered_at_once settings session once.ManagerMissing given = manager_is_missing session

abbrev pub access_done : Settings → Session → Command → Given → Option Answer
access_done settings session command given = option_map (λ what. answered_at_once settings session what given) (at_once session command)

-- ---- a refused command

-- it leaves what is remembered
abbrev pub refused : Settings → Session → Refusal → Answer
refused settings session refusal = record { session = session; reply = refusal_reply settings session.agreed.unicode refusal }
