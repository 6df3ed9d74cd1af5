-- How code points are shown: by the names that the standard gives them (DRDA V5 volume 3, DDM), and
-- in hexadecimal digits.
use Rattle.std.specs.Prelude.{ℕ, ◌+◌, ◌-◌, ◌/◌, ◌%◌, nat_lt, if◌then◌else◌, List, [], ◌∷◌, ◌++◌, map, Option, Some, None, nat_eq, codes}
use Rattle.std.specs.Map.{lookup}
use Rattle.std.specs.Option.{option_or}

-- the commands and the replies
abbrev pub messages : List (ℕ × List ℕ)
messages =
    (0x1041, codes "EXCSAT") ∷
    (0x106D, codes "ACCSEC") ∷
    (0x106E, codes "SECCHK") ∷
    (0x1055, codes "SYNCCTL") ∷
    (0x2001, codes "ACCRDB") ∷
    (0x2005, codes "CLSQRY") ∷
    (0x2006, codes "CNTQRY") ∷
    (0x2008, codes "DSCSQLSTT") ∷
    (0x200A, codes "EXCSQLIMM") ∷
    (0x200B, codes "EXCSQLSTT") ∷
    (0x200C, codes "OPNQRY") ∷
    (0x200D, codes "PRPSQLSTT") ∷
    (0x200E, codes "RDBCMM") ∷
    (0x200F, codes "RDBRLLBCK") ∷
    (0x1218, codes "MGRDEPRM") ∷
    (0x1219, codes "SECCHKRM") ∷
    (0x1232, codes "AGNPRMRM") ∷
    (0x1233, codes "RSCLMTRM") ∷
    (0x1245, codes "PRCCNVRM") ∷
    (0x1248, codes "SYNCCRD") ∷
    (0x124C, codes "SYNTAXRM") ∷
    (0x1250, codes "CMDNSPRM") ∷
    (0x1252, codes "VALNSPRM") ∷
    (0x1443, codes "EXCSATRD") ∷
    (0x14AC, codes "ACCSECRD") ∷
    (0x2201, codes "ACCRDBRM") ∷
    (0x2202, codes "QRYNOPRM") ∷
    (0x2204, codes "RDBNACRM") ∷
    (0x2205, codes "OPNQRYRM") ∷
    (0x2207, codes "RDBACCRM") ∷
    (0x220B, codes "ENDQRYRM") ∷
    (0x220C, codes "ENDUOWRM") ∷
    (0x220F, codes "QRYPOPRM") ∷
    (0x2211, codes "RDBNFNRM") ∷
    (0x2212, codes "OPNQFLRM") ∷
    (0x2218, codes "RDBUPDRM") ∷
    (0x221D, codes "CMDVLTRM") ∷
    []

-- the parameters, the data objects and the managers
abbrev pub objects : List (ℕ × List ℕ)
objects =
    (0x000C, codes "CODPNT") ∷
    (0x002F, codes "TYPDEFNAM") ∷
    (0x0035, codes "TYPDEFOVR") ∷
    (0x112E, codes "PRDID") ∷
    (0x1147, codes "SRVCLSNM") ∷
    (0x1149, codes "SVRCOD") ∷
    (0x114A, codes "SYNERRCD") ∷
    (0x115A, codes "SRVRLSLV") ∷
    (0x115E, codes "EXTNAM") ∷
    (0x116D, codes "SRVNAM") ∷
    (0x1187, codes "SYNCTYPE") ∷
    (0x119C, codes "CCSIDSBC") ∷
    (0x119D, codes "CCSIDDBC") ∷
    (0x119E, codes "CCSIDMBC") ∷
    (0x11A0, codes "USRID") ∷
    (0x11A1, codes "PASSWORD") ∷
    (0x11A2, codes "SECMEC") ∷
    (0x11A4, codes "SECCHKCD") ∷
    (0x1404, codes "MGRLVLLS") ∷
    (0x1801, codes "XID") ∷
    (0x1903, codes "XAFLAGS") ∷
    (0x1904, codes "XARETVAL") ∷
    (0x1905, codes "PRPHRCLST") ∷
    (0x1906, codes "XIDCNT") ∷
    (0x1907, codes "TIMEOUT") ∷
    (0x2102, codes "QRYPRCTYP") ∷
    (0x210F, codes "RDBACCCL") ∷
    (0x2110, codes "RDBNAM") ∷
    (0x2113, codes "PKGNAMCSN") ∷
    (0x2114, codes "QRYBLKSZ") ∷
    (0x2115, codes "UOWDSP") ∷
    (0x2116, codes "RTNSQLDA") ∷
    (0x211F, codes "SQLCSRHLD") ∷
    (0x2146, codes "TYPSQLDA") ∷
    (0x215B, codes "QRYINSID") ∷
    (0x2417, codes "LMTBLKPRC") ∷
    (0x0010, codes "FDODSC") ∷
    (0x147A, codes "FDODTA") ∷
    (0x2408, codes "SQLCARD") ∷
    (0x2411, codes "SQLDARD") ∷
    (0x2412, codes "SQLDTA") ∷
    (0x2414, codes "SQLSTT") ∷
    (0x241A, codes "QRYDSC") ∷
    (0x241B, codes "QRYDTA") ∷
    (0x2450, codes "SQLATTR") ∷
    (0x1403, codes "AGENT") ∷
    (0x2407, codes "SQLAM") ∷
    (0x240F, codes "RDB") ∷
    (0x1440, codes "SECMGR") ∷
    (0x1474, codes "CMNTCPIP") ∷
    (0x14C0, codes "SYNCPTMGR") ∷
    (0x14C1, codes "RSYNCMGR") ∷
    (0x1C01, codes "XAMGR") ∷
    (0x1C08, codes "UNICODEMGR") ∷
    []

unfoldable pub message_of : ℕ → Option (List ℕ)
message_of code = lookup (nat_eq code) messages

unfoldable pub object_of : ℕ → Option (List ℕ)
object_of code = lookup (nat_eq code) objects

-- the standard's name of a code point, where it is of the lists
abbrev pub name_of : ℕ → Option (List ℕ)
name_of code = option_or (message_of code) (object_of code)

-- the hexadecimal digit of a number below 16, in ASCII: from `0` on, and past 9 from `A` on
abbrev pub digit : ℕ → ℕ
digit n = if nat_lt n 10 then 0x30 + n else 0x41 + (n - 10)

-- the four hexadecimal digits of a number of two bytes
unfoldable pub four_digits : ℕ → List ℕ
four_digits n = map digit (n / 4096 ∷ n / 256 % 16 ∷ n / 16 % 16 ∷ n % 16 ∷ [])

-- a name and digits, or the digits alone
abbrev pub shown_by : Option (List ℕ) → List ℕ → List ℕ
shown_by (Some name) digits = name ++ codes " " ++ digits
shown_by None digits = digits

-- what is shown of a code point
abbrev pub shown : ℕ → List ℕ
shown code = shown_by (name_of code) (four_digits code)
