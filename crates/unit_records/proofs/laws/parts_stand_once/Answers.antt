use Rattle.tables.specs.Change.{change_bytes}
use Rattle.unit_locks.specs.Claim.{IsClaim, claim_bytes}
use Rattle.unit_records.specs.Records.{IsChange}
use Rattle.unit_records.proofs.Listing.{listed_once}
use Rattle.unit_records.proofs.Parts.{changes_once, xids_once}
use Rattle.unit_records.proofs.laws.parts_stand_once.Goals as goal

pub returns : goal.returns
returns c = record {
  changes = listed_once change_bytes IsChange (changes_once c.changes_have_their_bytes.ensures.written);
  claims = listed_once claim_bytes IsClaim c.one_reading.ensures;
  xids = xids_once c.one_reading-2.ensures.again;
}
