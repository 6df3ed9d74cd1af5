-- Replies are objects (DRDA V5 volume 3, DDM; the reply messages and the reply data objects).
use Rattle.std.specs.Prelude.{ℕ, Bool, nat_le, if◌then◌else◌, List, [], ◌∷◌, length, map}
use Rattle.std.specs.List.{flat_map, list_all}
use Rattle.std.specs.Int.{w16, w32, w64, to_be_bytes, cast_unsigned}
use Rattle.std.specs.Prelude.{ℤ}
use Rattle.ddm_objects.specs.Objects.{Obj}
use Rattle.ddm_objects.specs.Writing.{spelled}
use Rattle.ddm_objects.specs.declared.code_point.TheConstants.{SVRCOD, SYNERRCD, CODPNT, RDBNAM, UOWDSP, QRYPRCTYP, LMTBLKPRC, SQLCSRHLD, QRYINSID, PKGNAMCSN, SYNTAXRM, PRCCNVRM, RDBNFNRM, CMDNSPRM, VALNSPRM, RSCLMTRM, MGRDEPRM, AGNPRMRM, CMDVLTRM, ENDUOWRM, RDBUPDRM, OPNQRYRM, ENDQRYRM, OPNQFLRM, QRYNOPRM, QRYPOPRM, SYNCCRD, XARETVAL, PRPHRCLST, XIDCNT, XID}
use Rattle.sqlam_replies.specs.declared.message.ReplyMessage.{ReplyMessage}
use Rattle.sqlam_replies.specs.declared.message.ReplyMessage.TheVariants as is
use Rattle.sqlam_replies.specs.declared.message.UnitEnd.{UnitEnd}
use Rattle.sqlam_replies.specs.declared.message.UnitEnd.TheVariants.{Committed, RolledBack}

-- objects side by side, as a writer spells them
abbrev pub objects : List Obj → List ℕ
objects os = flat_map (λ (o : Obj). spelled o.code o.value) os

-- an object with these data
abbrev pub scalar : ℕ → List ℕ → Obj
scalar code value = record { code = code; value = value }

-- a reply message: what it is, its severity, and its other parameters in their order
pub record Message : Type 0 where
  pub code : ℕ
  pub severity : ℕ
  pub parameters : List Obj

-- its bytes: the severity is the first parameter
abbrev pub message_text : Message → List ℕ
message_text m = spelled m.code (objects (scalar SVRCOD (to_be_bytes w16 m.severity) ∷ m.parameters))

-- severities
abbrev pub info : ℕ
info = 0

abbrev pub warning : ℕ
warning = 4

abbrev pub error : ℕ
error = 8

abbrev pub permanent_damage : ℕ
permanent_damage = 64

-- how a unit ended: 01 committed, 02 rolled back
abbrev pub disposition : UnitEnd → ℕ
disposition Committed = 0x01
disposition RolledBack = 0x02

-- whether a cursor is held over a commit: F1, else F0
abbrev pub held_mark : Bool → ℕ
held_mark is_held = if is_held then 0xF1 else 0xF0

-- the message that each reply message is
abbrev pub message_of : ReplyMessage → Message
message_of (is.Syntax code) = record { code = SYNTAXRM; severity = error; parameters = scalar SYNERRCD (code ∷ []) ∷ [] }
message_of is.OutOfTurn = record { code = PRCCNVRM; severity = error; parameters = [] }
message_of (is.CommandNotSupported code) = record { code = CMDNSPRM; severity = error; parameters = scalar CODPNT (to_be_bytes w16 code) ∷ [] }
message_of (is.ValueNotSupported code) = record { code = VALNSPRM; severity = error; parameters = scalar CODPNT (to_be_bytes w16 code) ∷ [] }
message_of (is.RdbNotFound rdb) = record { code = RDBNFNRM; severity = error; parameters = scalar RDBNAM rdb.now ∷ [] }
message_of (is.CommandViolation rdb) = record { code = CMDVLTRM; severity = error; parameters = scalar RDBNAM rdb.now ∷ [] }
message_of (is.OpenFailed rdb) = record { code = OPNQFLRM; severity = error; parameters = scalar RDBNAM rdb.now ∷ [] }
message_of (is.QueryNotOpen rdb section) = record { code = QRYNOPRM; severity = error; parameters = scalar RDBNAM rdb.now ∷ scalar PKGNAMCSN section.now ∷ [] }
message_of (is.QueryOpen rdb section) = record { code = QRYPOPRM; severity = error; parameters = scalar RDBNAM rdb.now ∷ scalar PKGNAMCSN section.now ∷ [] }
message_of is.ManagerDependency = record { code = MGRDEPRM; severity = error; parameters = [] }
message_of is.ResourceLimit = record { code = RSCLMTRM; severity = error; parameters = [] }
message_of is.AgentFailed = record { code = AGNPRMRM; severity = permanent_damage; parameters = [] }
message_of (is.UnitEnded end) = record { code = ENDUOWRM; severity = warning; parameters = scalar UOWDSP (disposition end ∷ []) ∷ [] }
message_of (is.RdbUpdated rdb) = record { code = RDBUPDRM; severity = info; parameters = scalar RDBNAM rdb.now ∷ [] }
message_of (is.QueryOpened is_held instance) = record {
  code = OPNQRYRM;
  severity = info;
  parameters = scalar QRYPRCTYP (to_be_bytes w16 LMTBLKPRC) ∷ scalar SQLCSRHLD (held_mark is_held ∷ []) ∷ scalar QRYINSID (to_be_bytes w64 instance) ∷ [];
}
message_of is.EndOfQuery = record { code = ENDQRYRM; severity = warning; parameters = [] }

-- ---- SYNCCRD: what a call of the transaction manager is answered

-- the code that the call returned
abbrev pub synccrd : ℤ → List ℕ
synccrd code = spelled SYNCCRD (objects (scalar XARETVAL (to_be_bytes w32 (cast_unsigned w32 code)) ∷ []))

-- with the branches in doubt, behind their number
abbrev pub xid_list : List (List ℕ) → List ℕ
xid_list xids = objects (scalar XIDCNT (to_be_bytes w16 (length xids)) ∷ map (scalar XID) xids)

abbrev pub synccrd_with : ℤ → List (List ℕ) → List ℕ
synccrd_with code xids = spelled SYNCCRD (objects (scalar XARETVAL (to_be_bytes w32 (cast_unsigned w32 code)) ∷ scalar PRPHRCLST (xid_list xids) ∷ []))

-- ---- how long a message is

-- the values of its parameters are not longer than the name of a section can be
abbrev pub has_short_values : ReplyMessage → Bool
has_short_values m = list_all (λ (o : Obj). nat_le (length o.value) 791) (message_of m).parameters
