-- Records more.
use Rattle.std.proofs.Common.{◌≡◌, ◌⊎◌, inl, inr, ℕ, ◌+◌, ◌≤◌, List, [], ◌∷◌, ◌++◌, length, map, refl, sym, ◌∙◌, subst, arith}
use Rattle.drda_disk.specs.Region.{SameOutside}
use Rattle.drda_disk.specs.declared.region.Region.{Region}
use Rattle.unit_journal.specs.Record.{Entry, laid}
use Rattle.unit_journal.specs.Stands.{Stands}
use Rattle.unit_journal.proofs.Appending.{length-laid-append}
use Rattle.unit_journal.proofs.Spelling.{length-laid-cons}
use Rattle.unit_records.specs.Records.{UnitRecord, entry_of}
use Rattle.unit_records.specs.Room.{taken_by}
use Rattle.recovery.specs.Durable.{Durable, at_checkpoint}
use Rattle.recovery.specs.Journal.{Leads, WrittenLead}
use Rattle.store_check.specs.Checkpoint.{CheckpointsAreFramed}
use Rattle.std.specs.List.{AllByRecursion}
use Rattle.half_store.specs.declared.header.Layout.{Layout}
use Rattle.recovery.specs.Known.{AreKnown, IsKnown}
use Rattle.recovery.specs.Laws.{held_for}
use Rattle.recovery.specs.ImageLaws.{GroupsOpen, GroupsStay, RecordsOpen, RecordsStay}
use Rattle.recovery.specs.Opens.{Holds, IsJournal}
use Rattle.recovery.proofs.Following.{one_step}
use Rattle.recovery.proofs.Outside.{active_outside, checkpoint_outside}

-- entries lead on by others
leads_all : (d e f : Durable) (es gs : List Entry) → Leads d es e → Leads e gs f → Leads d (es ++ gs) f
leads_all d e f [] gs leads on = subst (λ (g : Durable). Leads g gs f) (sym leads) on
leads_all d e f (x ∷ es) gs leads on = (leads.0, leads.1, leads_all leads.0 e f es gs leads.2 on)

-- records of the layout's kinds behind others
pub known_both : (layout : Layout) (es : List Entry) (rs : List UnitRecord) → AreKnown layout es → AllByRecursion (IsKnown layout) rs → AreKnown layout (es ++ map entry_of rs)
known_both layout [] [] first second = tt
known_both layout [] (r ∷ rs) first second = (second.0, known_both layout [] rs tt second.1)
known_both layout (e ∷ es) rs first second = (first.0, known_both layout es rs first.1 second)

-- the bytes of records
all_laid : (rs : List UnitRecord) → length (laid (map entry_of rs)) ≡ taken_by rs
all_laid [] = refl
all_laid (r ∷ rs) = let rest = all_laid rs in omega (arith, rest, length-laid-cons (entry_of r) (map entry_of rs))

module _ (framed : CheckpointsAreFramed) (name : List ℕ) (layout : Layout) (region : Region) (es fs : List Entry) (d e : Durable) (seen image : List ℕ) (was : Holds name layout region es d seen) (others : SameOutside region seen image) where
  -- the store is the same, with these records
  held_on : Stands region fs image → AreKnown layout fs → Leads (at_checkpoint was.checkpoint) fs e → length (laid fs) + 1 + held_for layout e.doubts ≤ region.length → Holds name layout region fs e image
  held_on stands known leads room = record {
    store = was.store;
    active = active_outside seen image was.store region was.journal others ∙ was.active;
    named = was.named;
    layout_is = was.layout_is;
    journal = subst (λ n. IsJournal n was.store region) (sym others.size) was.journal;
    checkpoint = was.checkpoint;
    pages = checkpoint_outside framed seen image was.store region was.checkpoint was.journal others was.pages;
    stands = stands;
    known = known;
    leads = leads;
    room = room;
  }

module _ (written : WrittenLead) (framed : CheckpointsAreFramed) where
  pub groups_stay : GroupsStay
  groups_stay name layout region es d e rs seen image was good known steps room others stands =
      held_on framed name layout region es (es ++ map entry_of rs) d e seen image was others stands (known_both layout es rs was.known known)
      (leads_all (at_checkpoint was.checkpoint) d e es (map entry_of rs) was.leads (written d e rs good steps)) (omega (arith, room, length-laid-append es (map entry_of rs), all_laid rs))

  pub groups_open : GroupsOpen
  groups_open name layout region es d e rs seen image was good known steps room found = by_records found.stands
    where
      by_records : Stands region es image ⊎ Stands region (es ++ map entry_of rs) image → Holds name layout region es d image ⊎ Holds name layout region (es ++ map entry_of rs) e image
      by_records (inl before) = inl (held_on framed name layout region es es d d seen image was found.others before was.known was.leads was.room)
      by_records (inr after) = inr (groups_stay name layout region es d e rs seen image was good known steps room found.others after)

-- one record is a list of one
pub records_stay : GroupsStay → RecordsStay
records_stay stay name layout region es d e r seen image was good known step room = stay name layout region es d e (r ∷ []) seen image was (good, tt) (known, tt) (one_step d e r step) (omega (arith, room))

pub records_open : GroupsOpen → RecordsOpen
records_open opened name layout region es d e r seen image was good known step room = opened name layout region es d e (r ∷ []) seen image was (good, tt) (known, tt) (one_step d e r step) (omega (arith, room))
