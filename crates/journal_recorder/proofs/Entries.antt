-- The entry of a record whose body was written behind five bytes.
use Rattle.std.proofs.Common.{◌≡◌, ℕ, List, ◌++◌, length, drop, ◌∙◌, ap}
use Rattle.std.proofs.lemmas.List.{drop_at}
use Rattle.unit_journal.specs.declared.kind.Kind.{Kind}
use Rattle.unit_journal.specs.Record.{Entry}
use Rattle.unit_records.specs.Records.{UnitRecord, entry_of, kind_of, record_bytes}

pub entry_of_kind : (kind : Kind) (e : Entry) (front bytes body : List ℕ) → e ≡ record { kind = kind; body = drop 5 bytes } → bytes ≡ front ++ body → length front ≡ 5 → e ≡ record { kind = kind; body = body }
entry_of_kind kind e front bytes body is are five = is ∙ ap (λ (l : List ℕ). record { kind = kind; body = l }) (ap (λ (l : List ℕ). drop 5 l) are ∙ drop_at front body 5 five)

pub entry_is : (said : UnitRecord) (e : Entry) (front bytes : List ℕ) → e ≡ record { kind = kind_of said; body = drop 5 bytes } → bytes ≡ front ++ record_bytes said → length front ≡ 5 → e ≡ entry_of said
entry_is said e front bytes is are five = entry_of_kind (kind_of said) e front bytes (record_bytes said) is are five
