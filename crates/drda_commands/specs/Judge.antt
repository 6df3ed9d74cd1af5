-- The judge: what a command is refused for, in the order in which refusals come (DRDA V5 volume 3,
-- "Data Stream Syntax Error", CMDNSPRM, VALNSPRM).
use Rattle.std.specs.Prelude.{ℕ, ◌==◌, ◌%◌, Bool, true, false, not, ◌&&◌, ◌||◌, nat_lt, nat_le, is_some, List, [], ◌∷◌, length, codes, Option, Some, None, Result, Ok, Err, if◌then◌else◌}
use Rattle.std.specs.List.{list_any}
use Rattle.ddm_objects.specs.declared.code_point.TheConstants.{CCSIDSBC, CCSIDMBC, FDODSC, FDODTA}
use Rattle.ddm_objects.specs.declared.fault.ObjFault.{ObjFault}
use Rattle.ddm_objects.specs.Objects.{Obj}
use Rattle.ddm_objects.specs.Reading.{object_at}
use Rattle.drda_commands.specs.declared.refusal.Refusal.{Refusal}
use Rattle.drda_commands.specs.declared.refusal.Refusal.TheVariants.{Syntax, OutOfTurn, RdbAccessed, RdbNotAccessed, CommandNotSupported, ValueNotSupported}
use Rattle.drda_commands.specs.declared.refusal.SyntaxError.{SyntaxError}
use Rattle.drda_commands.specs.declared.refusal.SyntaxError.TheVariants.{InObject, BytesLeft, Missing, TooManyObjects, Twice}
use Rattle.drda_commands.specs.declared.table.Command.{Command}
use Rattle.drda_commands.specs.declared.table.Command.TheVariants.{Excsat, Accsec, Secchk, Accrdb}
use Rattle.drda_commands.specs.declared.stage.Stage.{Stage}
use Rattle.drda_commands.specs.declared.stage.Stage.TheVariants.{Known, MechanismChosen, Checked, Opened}
use Rattle.drda_commands.specs.declared.table.Item.{Item}
use Rattle.drda_commands.specs.declared.table.Form.{Form}
use Rattle.drda_commands.specs.declared.table.Form.TheVariants.{ManagerLevels, AnyBytes, Bytes, BlockSize, Boolean, SqldaType, SyncType, DefinitionName, DefinitionOverrides, StatementTexts, DescribedData}
use Rattle.drda_names.specs.Names.{is_name}
use Rattle.drda_commands.specs.Tables.{command_for, items_for}
use Rattle.drda_commands.specs.Texts.{text_in}
use Rattle.drda_commands.specs.Values.{number4}
use Rattle.xa_calls.specs.Numbers.{sync_type_of}
use Rattle.drda_commands.specs.Given.{Given, Occurs, never, once, twice, found_at, found_inside, count_in, first_fault}

infixl 10 ◌>>=◌
abbrev pub ◌>>=◌ : {A B : Type 0} → Result A Refusal → (A → Result B Refusal) → Result B Refusal
(Ok x) >>= f = f x
(Err refusal) >>= f = Err refusal

-- the object and nothing behind it
abbrev pub alone : Result (Obj × List ℕ) ObjFault → Result Obj Refusal
alone (Ok (o, [])) = Ok o
alone (Ok (o, b ∷ rest)) = Err (Syntax BytesLeft)
alone (Err fault) = Err (Syntax (InObject fault))

-- a request DSS holds one object, the command
abbrev pub command_object : List ℕ → Result Obj Refusal
command_object [] = Err (Syntax Missing)
command_object (b ∷ bytes) = alone (object_at (b ∷ bytes))

abbrev pub known_or_refused : ℕ → Option Command → Result Command Refusal
known_or_refused code (Some command) = Ok command
known_or_refused code None = Err (CommandNotSupported code)

-- ---- the stage at which a command may come (DRDA V5 volume 1, "Connection Flows")

abbrev pub due_or_refused : Command → Stage → Result (Unit {0}) Refusal
due_or_refused Excsat stage = Ok tt
due_or_refused Accsec Known = Ok tt
due_or_refused Accsec (MechanismChosen mechanism) = Ok tt
due_or_refused Accsec Checked = Ok tt
due_or_refused Accsec stage = Err OutOfTurn
due_or_refused Secchk (MechanismChosen mechanism) = Ok tt
due_or_refused Secchk stage = Err OutOfTurn
due_or_refused Accrdb Checked = Ok tt
due_or_refused Accrdb Opened = Err RdbAccessed
due_or_refused Accrdb stage = Err OutOfTurn
due_or_refused command Opened = Ok tt
due_or_refused command stage = Err RdbNotAccessed

-- ---- faults of objects, and too many of them

abbrev pub whole_unless : Option SyntaxError → ℕ → Result (Unit {0}) Refusal
whole_unless (Some error) count = Err (Syntax error)
whole_unless None count = if nat_lt 8 count then Err (Syntax TooManyObjects) else Ok tt

abbrev pub whole_or_refused : Command → Given → Result (Unit {0}) Refusal
whole_or_refused command given = whole_unless (first_fault command given) (count_in given.objects)

-- ---- items: none twice, none missing, each with a value that is supported

abbrev pub is_twice : Occurs → Bool
is_twice never = false
is_twice (once value) = false
is_twice twice = true

-- CCSIDs and parts of parameters are judged as parameters are; CCSIDDBC is not read
abbrev pub is_twice_inside : Form → List ℕ → Bool
is_twice_inside ManagerLevels value = false
is_twice_inside AnyBytes value = false
is_twice_inside (Bytes least greatest) value = false
is_twice_inside BlockSize value = false
is_twice_inside Boolean value = false
is_twice_inside SqldaType value = false
is_twice_inside SyncType value = false
is_twice_inside DefinitionName value = false
is_twice_inside DefinitionOverrides value = is_twice (found_inside CCSIDSBC value) || is_twice (found_inside CCSIDMBC value)
is_twice_inside StatementTexts value = false
is_twice_inside DescribedData value = is_twice (found_inside FDODSC value) || is_twice (found_inside FDODTA value)

abbrev pub has_twice : Form → Occurs → Bool
has_twice form never = false
has_twice form (once value) = is_twice_inside form value
has_twice form twice = true

abbrev pub item_twice : Given → Item → Bool
item_twice given item = has_twice item.form (found_at item.kind item.code given)

-- a statement of which neither text is present is no statement
abbrev pub has_no_text : Form → List ℕ → Bool
has_no_text ManagerLevels value = false
has_no_text AnyBytes value = false
has_no_text (Bytes least greatest) value = false
has_no_text BlockSize value = false
has_no_text Boolean value = false
has_no_text SqldaType value = false
has_no_text SyncType value = false
has_no_text DefinitionName value = false
has_no_text DefinitionOverrides value = false
has_no_text StatementTexts value = not (is_some (text_in value))
has_no_text DescribedData value = false

abbrev pub is_absent : Form → Occurs → Bool
is_absent form never = true
is_absent form (once value) = has_no_text form value
is_absent form twice = false

abbrev pub item_missing : Given → Item → Bool
item_missing given item = item.is_required && is_absent item.form (found_at item.kind item.code given)

-- a CCSID of TYPDEFOVR (DRDA V5 volume 3), where it stands, is 1208
abbrev pub is_1208 : Occurs → Bool
is_1208 never = true
is_1208 (once (high ∷ low ∷ [])) = (high == 0x04) && (low == 0xB8)
is_1208 occurs = false

-- a BOOLEAN, as RTNSQLDA is (DRDA V5 volume 3, BOOLEAN): one byte, F0 (false) or F1 (true)
abbrev pub is_boolean : List ℕ → Bool
is_boolean (b ∷ []) = (b == 0xF0) || (b == 0xF1)
is_boolean value = false

-- QRYBLKSZ (DRDA V5 volume 3): a number of four bytes; ours are 512 to 10,485,760
abbrev pub is_block_size : Option ℕ → Bool
is_block_size None = false
is_block_size (Some size) = nat_le 512 size && nat_le size 10485760

-- TYPSQLDA (DRDA V5 volume 3): one byte, 00 to 05
abbrev pub is_sqlda_type : List ℕ → Bool
is_sqlda_type (b ∷ []) = nat_le b 5
is_sqlda_type value = false

-- SYNCTYPE (DRDA V5 volume 3): one byte, the number of a call of XA
abbrev pub is_sync_type : List ℕ → Bool
is_sync_type (b ∷ []) = is_some (sync_type_of b)
is_sync_type value = false

-- A value that is supported, by its form: MGRLVLLS is a list of entries of four bytes; names other than
-- TYPDEFNAM, which is QTDSQLASC, are judged where they are used; the texts of a statement and the parts of
-- SQLDTA are judged where they stand.
abbrev pub is_supported : Bool → Form → List ℕ → Bool
is_supported unicode ManagerLevels value = length value % 4 == 0
is_supported unicode AnyBytes value = true
is_supported unicode (Bytes least greatest) value = nat_le least (length value) && nat_le (length value) greatest
is_supported unicode BlockSize value = is_block_size (number4 value)
is_supported unicode Boolean value = is_boolean value
is_supported unicode SqldaType value = is_sqlda_type value
is_supported unicode SyncType value = is_sync_type value
is_supported unicode DefinitionName value = is_name unicode value (codes "QTDSQLASC")
is_supported unicode DefinitionOverrides value = is_1208 (found_inside CCSIDSBC value) && is_1208 (found_inside CCSIDMBC value)
is_supported unicode StatementTexts value = true
is_supported unicode DescribedData value = true

abbrev pub has_bad_value : Bool → Form → Occurs → Bool
has_bad_value unicode form never = false
has_bad_value unicode form (once value) = not (is_supported unicode form value)
has_bad_value unicode form twice = false

abbrev pub item_bad : Bool → Given → Item → Bool
item_bad unicode given item = has_bad_value unicode item.form (found_at item.kind item.code given)

abbrev pub none_twice : List Item → Given → Result (Unit {0}) Refusal
none_twice items given = if list_any (item_twice given) items then Err (Syntax Twice) else Ok tt

abbrev pub none_missing : List Item → Given → Result (Unit {0}) Refusal
none_missing items given = if list_any (item_missing given) items then Err (Syntax Missing) else Ok tt

-- the first item with a value that is not supported names the refusal
abbrev pub none_bad : Bool → List Item → Given → Result (Unit {0}) Refusal
none_bad unicode [] given = Ok tt
none_bad unicode (item ∷ items) given = if item_bad unicode given item then Err (ValueNotSupported item.code) else none_bad unicode items given

-- ---- all of it

-- a command that is not refused, and what it brought
pub record Accepted : Type 0 where
  pub command : Command
  pub given : Given

-- the command in a request DSS with these contents, and object DSSs with those; at a stage, and whether names may
-- come in UTF-8
abbrev pub judged : Stage → Bool → List ℕ → List (List ℕ) → Result Accepted Refusal
judged stage unicode contents objects = do
  o ← command_object contents
  command ← known_or_refused o.code (command_for o.code)
  due ← due_or_refused command stage
  whole ← whole_or_refused command (record { parameters = o.value; objects = objects })
  single ← none_twice (items_for command) (record { parameters = o.value; objects = objects })
  present ← none_missing (items_for command) (record { parameters = o.value; objects = objects })
  fit ← none_bad unicode (items_for command) (record { parameters = o.value; objects = objects })
  Ok (record { command = command; given = record { parameters = o.value; objects = objects } })
