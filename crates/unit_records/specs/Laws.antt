-- What holds of the bytes of records.
use Rattle.std.specs.Prelude.{◌≡◌, ℕ, List}
use Rattle.unit_journal.specs.declared.kind.Kind.{Kind}
use Rattle.tables.specs.Change.{change_bytes}
use Rattle.unit_locks.specs.Claim.{IsClaim, claim_bytes}
use Rattle.xa_calls.specs.Xid.{IsXid}
use Rattle.unit_records.specs.Fronts.{AreListed, OneFront, listed}
use Rattle.unit_records.specs.Records.{IsChange, IsGood, IsRecord, UnitRecord, kind_of, record_bytes}

-- a text begins with one part of each sort at most
pub record PartsStandOnce : Type 0 where
  pub changes : OneFront (listed change_bytes) (AreListed IsChange)
  pub claims : OneFront (listed claim_bytes) (AreListed IsClaim)
  pub xids : OneFront (λ (xid : List ℕ). xid) IsXid

-- a kind and a body say one thing at most
abbrev pub OneReading : Type 0
OneReading = (kind : Kind) (body : List ℕ) (r s : UnitRecord) → IsRecord kind body r → IsRecord kind body s → r ≡ s

-- what can be written is read from its bytes
abbrev pub WrittenIsRead : Type 0
WrittenIsRead = (r : UnitRecord) → IsGood r → IsRecord (kind_of r) (record_bytes r) r
