-- The records that are handed to a journal.
use Rattle.std.specs.Prelude.{◌≡◌, ℕ, ◌+◌, ◌-◌, ◌^◌, ◌<◌, ◌≤◌, List, map, min}
use Rattle.std.specs.List.{AllByRecursion}
use Rattle.half_store.specs.declared.header.Layout.{Layout}
use Rattle.unit_journal.specs.Record.{Entry}
use Rattle.unit_records.specs.Records.{IsGood, UnitRecord, entry_of}
use Rattle.unit_records.specs.Room.{held, held_by, released, released_by, taken}
use Rattle.unit_records.specs.declared.record_error.RecordError.{RecordError}
use Rattle.unit_records.specs.declared.record_error.RecordError.TheVariants.{DeviceFailed, Full, NoMemory}

-- this entry is the record's, and there is room for it
pub record IsLaid (layout : Layout) (said : UnitRecord) (room : ℕ) (e : Entry) : Type 0 where
  pub entry : e ≡ entry_of said
  pub good : IsGood said
  pub fits : taken said + held layout said ≤ room + released layout said

-- this entry and these numbers of bytes held and released are the record's
pub record Says (layout : Layout) (said : UnitRecord) (e : Entry) (hold release : ℕ) : Type 0 where
  pub good : IsGood said
  pub entry : e ≡ entry_of said
  pub holds : hold ≡ held layout said
  pub releases : release ≡ released layout said

-- the record and what it holds back are longer than the room and what it releases; what is needed stops at 2^64 - 1
pub record LacksRoom (layout : Layout) (said : UnitRecord) (left need room : ℕ) : Type 0 where
  pub need_is : need ≡ min (taken said + held layout said - released layout said) (2 ^ 64 - 1)
  pub room_is : room ≡ left
  pub less : left + released layout said < taken said + held layout said

-- why no record was laid
abbrev pub Refuses : Layout → UnitRecord → ℕ → RecordError → Type 0
Refuses layout said left NoMemory = Unit {0}
Refuses layout said left (Full need room) = LacksRoom layout said left need room
Refuses layout said left DeviceFailed = ⊥

-- ---- records that are made together

-- these entries and these numbers of bytes held and released are those of the records
pub record AreLaid (layout : Layout) (records : List UnitRecord) (es : List Entry) (hold release : ℕ) : Type 0 where
  pub good : AllByRecursion IsGood records
  pub entries : es ≡ map entry_of records
  pub holds : hold ≡ held_by layout records
  pub releases : release ≡ released_by layout records
