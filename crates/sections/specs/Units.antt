-- What the end of a unit of work does to cursors (DRDA V5 volume 3: RDBCMM, RDBRLLBCK, SYNCCTL, SQLCSRHLD).
use Rattle.std.specs.Prelude.{Bool, ◌&&◌, if◌then◌else◌, map, Option, None, Some}
use Rattle.std.specs.Option.{option_and_then}
use Rattle.sections.specs.Kept.{Cursor, Section, Sections}

-- a held cursor stays open where the end keeps those that are held; every other one is closed
abbrev pub cursor_ended : Bool → Cursor → Option Cursor
cursor_ended keeps_held cursor = if keeps_held && cursor.is_held then Some cursor else None

abbrev pub section_ended : Bool → Section → Section
section_ended keeps_held section = record section { cursor = option_and_then (cursor_ended keeps_held) section.cursor }

-- prepared statements stay
abbrev pub after_unit : Bool → Sections → Sections
after_unit keeps_held s = record s { sections = map (λ named. (named.0, section_ended keeps_held named.1)) s.sections }
