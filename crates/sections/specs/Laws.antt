-- What the calls leave as it was.
use Rattle.std.specs.Prelude.{◌≡◌, ◌≢◌, ℕ, Bool, List, None}
use Rattle.std.specs.Option.{option_and_then, option_map}
use Rattle.tables.specs.RowList.{RowList}
use Rattle.sections.specs.Blocks.{after_advance}
use Rattle.sections.specs.Cursors.{after_close, after_open, after_prepare, cursor_of, section_of}
use Rattle.sections.specs.Kept.{Preparation, Sections}
use Rattle.sections.specs.Units.{after_unit, cursor_ended}

-- a statement that is prepared leaves every cursor as it was, that of its own section too
abbrev pub PreparingKeepsCursors : Type 0
PreparingKeepsCursors = (p : Preparation) (s : Sections) (name : List ℕ) → cursor_of name (after_prepare p s) ≡ cursor_of name s

-- the end of a unit ends each cursor by itself, and keeps every statement
abbrev pub UnitsEndCursors : Type 0
UnitsEndCursors = (keeps_held : Bool) (s : Sections) (name : List ℕ) → cursor_of name (after_unit keeps_held s) ≡ option_and_then (cursor_ended keeps_held) (cursor_of name s)

abbrev pub UnitsKeepStatements : Type 0
UnitsKeepStatements = (keeps_held : Bool) (s : Sections) (name : List ℕ)
    → option_map (λ section. section.statement) (section_of name (after_unit keeps_held s)) ≡ option_map (λ section. section.statement) (section_of name s)

-- a cursor that is closed is none
abbrev pub ClosingCloses : Type 0
ClosingCloses = (s : Sections) (name : List ℕ) → cursor_of name (after_close name s) ≡ None

-- what is done to a cursor leaves the sections of other names as they were
abbrev pub OpeningIsLocal : Type 0
OpeningIsLocal = (s : Sections) (name other : List ℕ) (rows : RowList) (size : ℕ) → name ≢ other → section_of other (after_open name rows size s) ≡ section_of other s

abbrev pub AdvancingIsLocal : Type 0
AdvancingIsLocal = (s : Sections) (name other : List ℕ) (count size : ℕ) → name ≢ other → section_of other (after_advance name count size s) ≡ section_of other s

abbrev pub ClosingIsLocal : Type 0
ClosingIsLocal = (s : Sections) (name other : List ℕ) → name ≢ other → section_of other (after_close name s) ≡ section_of other s
