-- Records one behind another, and what they take, hold back and release.
use Rattle.std.proofs.Common.{◌≡◌, ℕ, ◌+◌, ◌-◌, ◌≤◌, List, [], ◌∷◌, ◌++◌, length, get_or, take, drop, map, refl, ◌∙◌, ap, subst, arith, append_assoc, length-append}
use Rattle.std.specs.List.{AllByRecursion}
use Rattle.half_store.specs.declared.header.Layout.{Layout}
use Rattle.unit_journal.specs.Record.{Entry, laid}
use Rattle.unit_records.specs.RecordContents.{said_by}
use Rattle.unit_records.specs.Records.{IsGood, UnitRecord, entry_of, record_bytes}
use Rattle.unit_records.specs.Room.{held, held_by, released, released_by, taken_by}
use Rattle.unit_records.specs.declared.record_contents.RecordContents.{RecordContents}
use Rattle.unit_records.proofs.Lengths.{first_left}
use Rattle.journal_recorder.specs.Laying.{IsLaid}

-- these entries and numbers, with those of the records that are left, are those of all
pub record IsSoFar (layout : Layout) (all left : List UnitRecord) (es : List Entry) (hold release : ℕ) : Type 0 where
  pub good : AllByRecursion IsGood left → AllByRecursion IsGood all
  pub entries : es ++ map entry_of left ≡ map entry_of all
  pub holds : hold + held_by layout left ≡ held_by layout all
  pub releases : release + released_by layout left ≡ released_by layout all

-- none so far
pub all_left : (layout : Layout) (all : List UnitRecord) → IsSoFar layout all all [] 0 0
all_left layout all = record { good = λ good. good; entries = refl; holds = omega arith; releases = omega arith }

-- one record more
one_more : (layout : Layout) (all left : List UnitRecord) (said : UnitRecord) (es : List Entry) (hold release room : ℕ) (e : Entry)
    → IsSoFar layout all (said ∷ left) es hold release → IsLaid layout said room e → IsSoFar layout all left (es ++ e ∷ []) (hold + held layout said) (release + released layout said)
one_more layout all left said es hold release room e far is = record {
  good = λ rest. far.good (is.good, rest);
  entries = append_assoc es (e ∷ []) (map entry_of left) ∙ ap (λ (x : Entry). es ++ x ∷ map entry_of left) is.entry ∙ far.entries;
  holds = omega (arith, far.holds);
  releases = omega (arith, far.releases);
}

-- the first of those that are asked for
pub next_laid : (layout : Layout) (all : List UnitRecord) (left : List RecordContents) (next : RecordContents) (es new_es : List Entry) (hold new_hold release new_release room : ℕ) (e : Entry)
    → 1 ≤ length left → next ≡ get_or left 0 next → IsSoFar layout all (map said_by left) es hold release → IsLaid layout (said_by next) room e
    → new_es ≡ es ++ e ∷ [] → new_hold ≡ hold + held layout (said_by next) → new_release ≡ release + released layout (said_by next)
    → IsSoFar layout all (map said_by (take (length left - 1) (drop 1 left))) new_es new_hold new_release
next_laid layout all left next es new_es hold new_hold release new_release room e some is far laid pushed holds releases =
    let rest = take (length left - 1) (drop 1 left) in
    let more = one_more layout all (map said_by rest) (said_by next) es hold release room e (subst (λ (l : List RecordContents). IsSoFar layout all (map said_by l) es hold release) (first_left left next some is) far) laid in
    record {
      good = more.good;
      entries = ap (λ (l : List Entry). l ++ map entry_of (map said_by rest)) pushed ∙ more.entries;
      holds = omega (arith, more.holds, holds);
      releases = omega (arith, more.releases, releases);
    }

-- how many bytes they take
pub length-laid : (records : List UnitRecord) → length (laid (map entry_of records)) ≡ taken_by records
length-laid [] = refl
length-laid (r ∷ records) = omega (arith, length-append (record_bytes r) (laid (map entry_of records)), length-laid records)
