-- What a conversation keeps for its statements: its sections, and whether RDBUPDRM has told a change since the
-- conversation's opening or the end of its last unit (DRDA V5 volume 3, RDBUPDRM).
use Rattle.std.specs.Prelude.{Bool, false, [], None}
use Rattle.sections.specs.Units.{after_unit}
pub use Rattle.command_kit.specs.declared.statements.Statements.{Statements}

-- of a conversation that begins
abbrev pub fresh : Statements
fresh = record { sections = record { sections = []; reserved = None; openings = 0 }; is_change_told = false }

-- a unit has ended, with the cursors that are held kept or not
abbrev pub unit_behind : Bool → Statements → Statements
unit_behind keeps_held k = record { sections = after_unit keeps_held k.sections; is_change_told = false }
