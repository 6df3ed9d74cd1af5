-- What each command reads (DRDA V5 volume 3, the commands' instance variables and command data): its
-- parameters, then its data objects, and behind them TYPDEFNAM and TYPDEFOVR, which any command may bring as
-- data objects. The order is the one in which values are judged.
use Rattle.std.specs.Prelude.{ℕ, ◌==◌, true, false, List, [], ◌∷◌, ◌++◌, Option, Some, None, if◌then◌else◌}
use Rattle.ddm_objects.specs.declared.code_point.TheConstants.{MGRLVLLS, SECMEC, RDBNAM, USRID, PASSWORD, TYPDEFNAM, TYPDEFOVR, PKGNAMCSN, RTNSQLDA, TYPSQLDA, QRYBLKSZ, QRYINSID, SYNCTYPE, XID, XAFLAGS, SQLSTT, SQLATTR, SQLDTA}
use Rattle.drda_commands.specs.declared.table.Command.{Command}
use Rattle.drda_commands.specs.declared.table.Command.TheVariants.{Excsat, Accsec, Secchk, Accrdb, Excsqlimm, Prpsqlstt, Dscsqlstt, Excsqlstt, Opnqry, Cntqry, Clsqry, Rdbcmm, Rdbrllbck, Syncctl}
use Rattle.drda_commands.specs.declared.table.Item.{Item}
use Rattle.drda_commands.specs.declared.table.ItemKind.TheVariants.{Parameter, DataObject}
use Rattle.drda_commands.specs.declared.table.Form.{Form}
use Rattle.drda_commands.specs.declared.table.Form.TheVariants.{ManagerLevels, AnyBytes, BlockSize, Bytes, BlockSize, Boolean, SqldaType, SyncType, DefinitionName, DefinitionOverrides, StatementTexts, DescribedData}

-- a command's code point
abbrev pub code_for : Command → ℕ
code_for Excsat = 0x1041
code_for Accsec = 0x106D
code_for Secchk = 0x106E
code_for Accrdb = 0x2001
code_for Excsqlimm = 0x200A
code_for Prpsqlstt = 0x200D
code_for Dscsqlstt = 0x2008
code_for Excsqlstt = 0x200B
code_for Opnqry = 0x200C
code_for Cntqry = 0x2006
code_for Clsqry = 0x2005
code_for Rdbcmm = 0x200E
code_for Rdbrllbck = 0x200F
code_for Syncctl = 0x1055

-- a command by its code point
abbrev pub command_for : ℕ → Option Command
command_for code =
    if code == 0x1041 then Some Excsat
    else if code == 0x106D then Some Accsec
    else if code == 0x106E then Some Secchk
    else if code == 0x2001 then Some Accrdb
    else if code == 0x200A then Some Excsqlimm
    else if code == 0x200D then Some Prpsqlstt
    else if code == 0x2008 then Some Dscsqlstt
    else if code == 0x200B then Some Excsqlstt
    else if code == 0x200C then Some Opnqry
    else if code == 0x2006 then Some Cntqry
    else if code == 0x2005 then Some Clsqry
    else if code == 0x200E then Some Rdbcmm
    else if code == 0x200F then Some Rdbrllbck
    else if code == 0x1055 then Some Syncctl
    else None

-- ---- items

-- a parameter that may come, and one that has to; a data object that may come, and one that has to
abbrev pub parameter : ℕ → Form → Item
parameter code form = record { kind = Parameter; code = code; is_required = false; form = form }

abbrev pub required : ℕ → Form → Item
required code form = record { kind = Parameter; code = code; is_required = true; form = form }

abbrev pub data_object : ℕ → Form → Item
data_object code form = record { kind = DataObject; code = code; is_required = false; form = form }

abbrev pub required_object : ℕ → Form → Item
required_object code form = record { kind = DataObject; code = code; is_required = true; form = form }

-- the name of a section, PKGNAMCSN: 64 to 791 bytes
abbrev pub section : Item
section = required PKGNAMCSN (Bytes 64 791)

-- the opening of a query, QRYINSID: a number of eight bytes
abbrev pub query_instance : Item
query_instance = parameter QRYINSID (Bytes 8 8)

-- what a command of its own reads
abbrev pub own_items : Command → List Item
own_items Excsat = parameter MGRLVLLS ManagerLevels ∷ []
own_items Accsec = required SECMEC (Bytes 2 2) ∷ parameter RDBNAM AnyBytes ∷ []
own_items Secchk = required SECMEC (Bytes 2 2) ∷ parameter USRID AnyBytes ∷ parameter PASSWORD AnyBytes ∷ []
own_items Accrdb = required RDBNAM AnyBytes ∷ required TYPDEFNAM DefinitionName ∷ parameter TYPDEFOVR DefinitionOverrides ∷ []
own_items Excsqlimm = required_object SQLSTT StatementTexts ∷ []
own_items Prpsqlstt =
    section ∷ parameter RTNSQLDA Boolean ∷ parameter TYPSQLDA SqldaType ∷ required_object SQLSTT StatementTexts ∷ data_object SQLATTR StatementTexts ∷ []
own_items Dscsqlstt = section ∷ parameter TYPSQLDA SqldaType ∷ []
own_items Excsqlstt = section ∷ data_object SQLDTA DescribedData ∷ []
own_items Opnqry = section ∷ required QRYBLKSZ BlockSize ∷ data_object SQLDTA DescribedData ∷ []
own_items Cntqry = section ∷ parameter QRYBLKSZ BlockSize ∷ query_instance ∷ []
own_items Clsqry = section ∷ query_instance ∷ []
own_items Rdbcmm = []
own_items Rdbrllbck = []
own_items Syncctl = required SYNCTYPE SyncType ∷ parameter XID AnyBytes ∷ parameter XAFLAGS AnyBytes ∷ []

abbrev pub any_items : List Item
any_items = data_object TYPDEFNAM DefinitionName ∷ data_object TYPDEFOVR DefinitionOverrides ∷ []

abbrev pub items_for : Command → List Item
items_for command = own_items command ++ any_items
