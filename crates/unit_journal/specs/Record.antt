-- The bytes of records.
use Rattle.std.specs.Prelude.{ℕ, ◌-◌, ◌^◌, ◌<◌, List, [], ◌∷◌, ◌++◌, length, map, take, drop}
use Rattle.std.specs.List.{AllByRecursion}
use Rattle.std.specs.Int.{w32, to_be_bytes}
use Rattle.drda_disk.specs.Layout.{open_gate}
use Rattle.unit_journal.specs.Kind.{code_of}
use Rattle.unit_journal.specs.declared.kind.Kind.{Kind}
use Rattle.unit_journal.specs.declared.record.Record.{Record}

-- a record without its place
pub record Entry : Type 0 where
  pub kind : Kind
  pub body : List ℕ

abbrev pub entry_of : Record → Entry
entry_of r = record { kind = r.kind; body = r.body.items }

abbrev pub entries_of : List Record → List Entry
entries_of rs = map entry_of rs

-- all of a record but its gate: its kind, the length of its body in four bytes, its body
abbrev pub behind : Entry → List ℕ
behind e = code_of e.kind ∷ (to_be_bytes w32 (length e.body) ++ e.body)

-- the body in such bytes with the gate of the next record behind them
abbrev pub body_in : List ℕ → List ℕ
body_in bytes = take (length bytes - 6) (drop 5 bytes)

-- records with open gates, one behind another
abbrev pub laid : List Entry → List ℕ
laid [] = []
laid (e ∷ es) = open_gate ∷ (behind e ++ laid es)

-- bodies whose length has four bytes
abbrev pub AreShort : List Entry → Type 0
AreShort es = AllByRecursion (λ e. length e.body < 2 ^ 32) es
