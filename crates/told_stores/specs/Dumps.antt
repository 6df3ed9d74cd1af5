-- The tables of a store as SQL, which is written piece by piece.
use Rattle.std.specs.Prelude.{◌≡◌, ◌⊎◌, ℕ, Bool, IsTrue, List, [], ◌∷◌, ◌++◌, map, codes, IfErr, Option, Some, Result, Err}
use Rattle.std.specs.List.{flat_map}
use Rattle.command_line.specs.Spelling.{xid_word}
use Rattle.drda_disk.specs.Disk.{Life}
use Rattle.recovery.specs.Durable.{Durable}
use Rattle.recovery.specs.Opens.{OpensTo}
use Rattle.tables.specs.Tables.{Store}
use Rattle.store_dump.specs.Dump.{IsWritten, dump_text, list_text}
use Rattle.store_files.specs.Files.{FileCalls}
use Rattle.store_files.specs.Opening.{OpensStore}
use Rattle.store_files.specs.Stores.{IsOfDevice}
use Rattle.store_files.specs.declared.fault.Fault.{Fault}
use Rattle.told_stores.specs.Doubts.{Listed, listed_as, outcome_word}

-- ---- texts

-- a unit in doubt, with how it was decided heuristically, where it was
abbrev pub named_line : Listed → List ℕ
named_line doubt = xid_word doubt.0 ++ (outcome_word doubt.1 ++ 10 ∷ [])

abbrev pub comment_line : Listed → List ℕ
comment_line doubt = codes "-- in doubt, not dumped: " ++ named_line doubt

abbrev pub comment_text : List Listed → List ℕ
comment_text doubts = flat_map comment_line doubts

-- the comments of the units in doubt, and the tables
abbrev pub dumped : List Listed → Store → List ℕ
dumped doubts store = comment_text doubts ++ dump_text store

-- ---- of the state that an image opens to

pub record IsDump (image text : List ℕ) : Type 0 where
  pub name : List ℕ
  pub state : Durable
  pub opens : OpensTo name state image
  pub is : text ≡ dumped (map listed_as state.doubts) state.store

pub record IsTableList (image text : List ℕ) : Type 0 where
  pub name : List ℕ
  pub state : Durable
  pub opens : OpensTo name state image
  pub is : text ≡ list_text state.store

-- ---- of the store of a path

module _ {F D : Type 0} (modelled : Bool) (life : D → Life) (calls : FileCalls F D) where
  -- The store is not opened, and nothing is written; or a text of it is, or a front of that where memory is refused or the
  -- device or the output fails.
  abbrev pub Writes : (List ℕ → List ℕ → Type 0) → List ℕ → F → Option (List ℕ) → Result (Unit {0}) Fault → F → Option (List ℕ) → Type 0
  Writes IsOf path files before outcome files' now =
      ((fault : Fault) × (outcome ≡ Err fault) × OpensStore modelled life calls files path (Err fault) files' × (now ≡ before))
      ⊎ ((disk : D) × calls.opens files path (Some disk) files' × IfErr outcome IsOfDevice
      × (IsTrue modelled → (text : List ℕ) × IsOf (life disk).seen text × IsWritten text outcome before now))

  -- the tables of the store of a path are dumped
  abbrev pub Dumps : List ℕ → F → Option (List ℕ) → Result (Unit {0}) Fault → F → Option (List ℕ) → Type 0
  Dumps path files before outcome files' now = Writes IsDump path files before outcome files' now

  -- they are listed
  abbrev pub ListsTables : List ℕ → F → Option (List ℕ) → Result (Unit {0}) Fault → F → Option (List ℕ) → Type 0
  ListsTables path files before outcome files' now = Writes IsTableList path files before outcome files' now
