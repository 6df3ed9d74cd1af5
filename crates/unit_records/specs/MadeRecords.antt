-- The records of calls, in their order: those of calls that have been answered, and those of calls that have not.
use Rattle.std.specs.Prelude.{List, [], ◌++◌, map}
use Rattle.unit_journal.specs.Record.{Entry}
use Rattle.unit_records.specs.Records.{UnitRecord, entry_of}

-- Records that are made at once are a group, of which a crash leaves all or none.
pub record MadeRecords : Type 0 where
  -- the groups of calls that have been answered: they are there to stay
  pub done : List (List Entry)
  -- those of calls that have not: a crash may show each, all of it or none. They are the group of the call in which the device
  -- failed, if one was due of it
  pub begun : List (List Entry)

abbrev pub none_made : MadeRecords
none_made = record { done = []; begun = [] }

-- as the journal has them
abbrev pub groups_of : List (List UnitRecord) → List (List Entry)
groups_of groups = map (map entry_of) groups

-- these groups were made too
abbrev pub with_done : MadeRecords → List (List Entry) → MadeRecords
with_done made groups = record made { done = made.done ++ groups }

-- or begun
abbrev pub with_begun : MadeRecords → List (List Entry) → MadeRecords
with_begun made groups = record made { begun = made.begun ++ groups }
