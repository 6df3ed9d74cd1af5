-- What each call on sections and cursors does (DRDA V5 volume 3: PRPSQLSTT, OPNQRY, CLSQRY, QRYNOPRM, QRYPOPRM).
use Rattle.std.specs.Prelude.{◌≡◌, ℕ, ◌+◌, Bool, true, ◌==◌, if◌then◌else◌, List, [], ◌∷◌, ◌++◌, Option, None, Some, Result, Ok, Err, IsSome, is_some, bytes_eq}
use Rattle.std.specs.Option.{option_and_then, option_map_or}
use Rattle.std.specs.Map.{lookup}
use Rattle.tables.specs.RowList.{RowList}
use Rattle.sections.specs.declared.fault.OpenFault.{OpenFault}
use Rattle.sections.specs.declared.fault.OpenFault.TheVariants as fault
use Rattle.sections.specs.declared.fault.QueryNotOpen.{QueryNotOpen}
use Rattle.sections.specs.Kept.{Cursor, Section, Preparation, Sections}

-- the section of this name, by all of its bytes
abbrev pub section_of : List ℕ → Sections → Option Section
section_of name s = lookup (bytes_eq name) s.sections

-- the open cursor of the section of this name
abbrev pub cursor_of : List ℕ → Sections → Option Cursor
cursor_of name s = option_and_then (λ section. section.cursor) (section_of name s)

-- the sections, that of this name changed
abbrev pub changed_at : List ℕ → (Section → Section) → List (List ℕ × Section) → List (List ℕ × Section)
changed_at name change [] = []
changed_at name change (s ∷ rest) = if bytes_eq name s.0 then (s.0, change s.1) ∷ rest else s ∷ changed_at name change rest

-- PRPSQLSTT: a section of this name takes the statement and keeps its cursor as it is; else a section comes last
abbrev pub with_statement : Preparation → List (List ℕ × Section) → List (List ℕ × Section)
with_statement p sections =
    if is_some (lookup (bytes_eq p.name) sections)
    then changed_at p.name (λ section. record section { statement = p.statement; is_held = p.is_held }) sections
    else sections ++ (p.name, record { statement = p.statement; is_held = p.is_held; cursor = None }) ∷ []

abbrev pub after_prepare : Preparation → Sections → Sections
after_prepare p s = record s { sections = with_statement p s.sections; reserved = None }

-- the statement prepared for which room was made, if there is one
abbrev pub after_reserved : Sections → Sections
after_reserved s = option_map_or (λ p. after_prepare p s) s.reserved s

-- OPNQRY: why no cursor is opened in the section of this name; an instance number has eight bytes
abbrev pub fault_in : Option Section → ℕ → Option OpenFault
fault_in None openings = Some fault.NotPrepared
fault_in (Some section) openings =
    if is_some section.cursor then Some fault.QueryOpen
    else if openings == 0xFFFF_FFFF_FFFF_FFFF then Some fault.NoInstance
    else None

abbrev pub opening_fault : List ℕ → Sections → Option OpenFault
opening_fault name s = fault_in (section_of name s) s.openings

-- a cursor before the first of these rows, held as what is prepared in the section says now
abbrev pub with_cursor : RowList → ℕ → ℕ → Section → Section
with_cursor rows instance size section =
    record section { cursor = Some (record { rows = rows; place = 0; instance = instance; is_held = section.is_held; block_size = size }) }

-- OPNQRY: the section of this name has a cursor over these rows, with the next instance number
abbrev pub after_open : List ℕ → RowList → ℕ → Sections → Sections
after_open name rows size s =
    record s { sections = changed_at name (with_cursor rows (s.openings + 1) size) s.sections; openings = s.openings + 1 }

abbrev pub Opens : Sections → List ℕ → RowList → ℕ → Result ℕ OpenFault → Sections → Type 0
Opens old name rows size (Ok instance) new =
    (opening_fault name old ≡ None) × (instance ≡ old.openings + 1) × (new ≡ after_open name rows size old)
Opens old name rows size (Err fault) new = (opening_fault name old ≡ Some fault) × (new ≡ old)

-- a command that gives an instance number (QRYINSID) means the cursor of that number alone
abbrev pub is_meant : Option ℕ → Cursor → Bool
is_meant None cursor = true
is_meant (Some instance) cursor = instance == cursor.instance

abbrev pub meant_cursor : List ℕ → Option ℕ → Sections → Option Cursor
meant_cursor name instance s =
    option_and_then (λ cursor. if is_meant instance cursor then Some cursor else None) (cursor_of name s)

-- CLSQRY: the section of this name has no cursor
abbrev pub closed : Section → Section
closed section = record section { cursor = None }

abbrev pub after_close : List ℕ → Sections → Sections
after_close name s = record s { sections = changed_at name closed s.sections }

abbrev pub Closes : Sections → List ℕ → Option ℕ → Result Unit QueryNotOpen → Sections → Type 0
Closes old name instance (Ok _) new = IsSome (meant_cursor name instance old) × (new ≡ after_close name old)
Closes old name instance (Err _) new = (meant_cursor name instance old ≡ None) × (new ≡ old)
