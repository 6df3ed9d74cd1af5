-- The records of the branches in doubt, as entries of a journal, and what these branches hold back.
use Rattle.std.proofs.Common.{◌≡◌, ℕ, List, [], ◌∷◌, ◌++◌, map, refl, sym, ap, ◌∙◌, append_assoc}
use Rattle.std.proofs.lemmas.List.{map-append}
use Rattle.xa_manager.specs.Branch.{in_doubt_xids}
use Rattle.core_model.specs.Step.{CoreState}
use Rattle.unit_journal.specs.Record.{Entry, entries_of, entry_of as entry_in}
use Rattle.unit_journal.specs.declared.record.Record.{Record}
use Rattle.unit_records.specs.Records.{entry_of}
use Rattle.recovery.specs.Durable.{Doubts}
use Rattle.recovery.specs.Laying.{laid_of, records_of}
use Rattle.recovery.specs.Part.{doubt_at, durable_part}

-- what is kept of the branches of these XIDs
abbrev pub doubts_by : CoreState → List (List ℕ) → Doubts
doubts_by s xids = map (λ (xid : List ℕ). (xid, doubt_at s.branches s.base.units xid)) xids

abbrev pub record_by : CoreState → List ℕ → Entry
record_by s xid = entry_of (laid_of (xid, doubt_at s.branches s.base.units xid))

abbrev pub records_by : CoreState → List (List ℕ) → List Entry
records_by s xids = map (record_by s) xids

same : (s : CoreState) (xids : List (List ℕ)) → records_by s xids ≡ map entry_of (records_of (doubts_by s xids))
same s [] = refl
same s (x ∷ xs) = ap (λ (l : List Entry). record_by s x ∷ l) (same s xs)

pub all_records : (s : CoreState) → records_by s (in_doubt_xids s.branches) ≡ map entry_of (records_of (durable_part s).doubts)
all_records s = same s (in_doubt_xids s.branches)

-- one record more
pub one_more : (s : CoreState) (records next : List Record) (record_is : Record) (xid : List ℕ) (left rest : List (List ℕ)) → next ≡ records ++ record_is ∷ [] → entry_in record_is ≡ record_by s xid → left ≡ xid ∷ rest
    → entries_of next ++ records_by s rest ≡ entries_of records ++ records_by s left
one_more s records next r xid left rest pushed is first =
    ap (λ (l : List Record). entries_of l ++ records_by s rest) pushed
    ∙ ap (λ (l : List Entry). l ++ records_by s rest) (map-append entry_in records (r ∷ []))
    ∙ append_assoc (entries_of records) (entry_in r ∷ []) (records_by s rest)
    ∙ ap (λ (e : Entry). entries_of records ++ e ∷ records_by s rest) is
    ∙ ap (λ (l : List (List ℕ)). entries_of records ++ records_by s l) (sym first)
