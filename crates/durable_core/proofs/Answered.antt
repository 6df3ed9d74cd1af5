-- What opening answers, once the parts of the store are read.
use Rattle.std.proofs.Common.{◌≡◌, inl, ℕ, ◌+◌, ◌-◌, ◌≤◌, Bool, true, IsTrue, IfErr, IfOk, List, length, Result, Ok, Err, refl, sym, ◌∙◌, ap, subst, arith}
use Rattle.drda_disk.specs.Disk.{Life, Only, Stays}
use Rattle.drda_disk.specs.Region.{end_of}
use Rattle.half_store.specs.declared.header.Layout.{Layout}
use Rattle.unit_journal.specs.Journal.{held_of, region_of, room_of}
use Rattle.unit_journal.specs.Record.{laid}
use Rattle.recovery.specs.Durable.{Durable}
use Rattle.recovery.specs.Laws.{held_for}
use Rattle.recovery.specs.Part.{opened}
use Rattle.recovery.specs.Journaled.{OnDisk}
use Rattle.recovery.specs.ImageLaws.{OpensToOne}
use Rattle.recovery.specs.Opens.{Holds, OpensTo}
use Rattle.durable_core.specs.Found.{IsFound, StandsThere, durable_in, name_in}
use Rattle.durable_core.specs.Opening.{Finds, IsOpenedTo, SettlesFirst, StoodThere, SyncsFirst, disk_in}
use Rattle.durable_core.specs.Reads.{IsExcused}
use Rattle.durable_core.specs.declared.errors.OpenError.{OpenError}
use Rattle.durable_core.specs.declared.errors.OpenError.TheVariants.{NoMemory}
use Rattle.durable_core.specs.declared.errors.Refused.{Refused}
use Rattle.durable_core.specs.declared.reading.Found.{Found}
use Rattle.durable_core.proofs.Parts.{finds_one}

-- ---- behind a sync

module _ {D : Type 0} (life : D → Life) (syncs : D → Bool → D → Type 0) (old synced : D) (call : syncs old true synced) (stays : Stays (life old) (life synced)) (only : Only (life synced)) where
  settles_first : (new : D) → Stays (life synced) (life new) → SettlesFirst life syncs old new
  settles_first new reads_on = record { synced = synced; call = call; unwritten = stays; only = only; reads_on = reads_on }

  pub syncs_first : (r : Result (OnDisk D) (Refused D)) → Stays (life synced) (life (disk_in r)) → SyncsFirst life syncs old r
  syncs_first (Ok core) reads_on = settles_first core.disk reads_on
  syncs_first (Err refused) reads_on = inl (settles_first refused.disk reads_on)

-- ---- what was read

-- what records leave of a journal, less what is held
left : (at len l held room : ℕ) → room ≡ at + len - (at + l) - 1 - held → l + 1 + held ≤ len → room + (l + 1 + held) ≡ len
left at len l held room is inside = omega (arith, is, inside)

room_left : (modelled : Bool) (last : Life) (f : Found) → IsFound modelled last f → (there : StandsThere modelled last f)
    → room_of f.journal + (length (laid there.entries) + 1 + held_for f.layout (durable_in f).doubts) ≡ (region_of f.journal).length
room_left modelled last f found there =
    let region = region_of f.journal in
    left region.at region.length (length (laid there.entries)) (held_for f.layout (durable_in f).doubts) (room_of f.journal)
    (ap (λ (n : ℕ). end_of region - n - 1 - held_of f.journal) there.settled.next ∙ ap (λ (n : ℕ). end_of region - (region.at + length (laid there.entries)) - 1 - n) found.held)
    there.holds.room

module _ {D : Type 0} (modelled : Bool) (last : Life) (image : List ℕ) (seen : last.seen ≡ image) (f : Found) (found : IsFound modelled last f) where
  finds_in : (name : List ℕ) (d : Durable) → (name_in f ≡ name) × (durable_in f ≡ d) → (r : Result (OnDisk D) (Refused D)) → IfOk r (IsOpenedTo (name_in f) (durable_in f)) → IfErr r (λ refused. refused.error ≡ NoMemory) → Finds name d r
  finds_in name d same (Ok core) ok err = record { named = ok.named ∙ same.0; state = ok.state ∙ ap (λ (x : Durable). opened x) same.1; going = ok.going; made = ok.made }
  finds_in name d same (Err refused) ok err = subst (λ (e : OpenError). IsExcused e) (sym err) tt

  pub finds : OpensToOne → (name : List ℕ) (d : Durable) → IsTrue modelled → OpensTo name d image → (r : Result (OnDisk D) (Refused D)) → IfOk r (IsOpenedTo (name_in f) (durable_in f)) → IfErr r (λ refused. refused.error ≡ NoMemory) → Finds name d r
  finds one name d is opens r ok err = finds_in name d (finds_one modelled last image f one seen name d opens (found.stands is)) r ok err

  pub stood : IsTrue modelled → (r : Result (OnDisk D) (Refused D)) → IfOk r (IsOpenedTo (name_in f) (durable_in f)) → IfOk r (λ core. core.room ≡ room_of f.journal) → IfOk r (λ core. core.layout ≡ f.layout) → IfOk r (StoodThere image)
  stood is (Ok core) ok room layout =
      let there = found.stands is in
      record {
        durable = durable_in f;
        region = region_of f.journal;
        entries = there.entries;
        stood = subst (λ (l : Layout). Holds core.name l (region_of f.journal) there.entries (durable_in f) image) (sym layout)
            (subst (λ (n : List ℕ). Holds n f.layout (region_of f.journal) there.entries (durable_in f) image) (sym ok.named)
            (subst (λ (i : List ℕ). Holds (name_in f) f.layout (region_of f.journal) there.entries (durable_in f) i) seen there.holds));
        is = record { named = refl; state = ok.state; going = ok.going; made = ok.made };
        room = ap (λ (l : Layout). core.room + (length (laid there.entries) + 1 + held_for l (durable_in f).doubts)) layout
            ∙ ap (λ (n : ℕ). n + (length (laid there.entries) + 1 + held_for f.layout (durable_in f).doubts)) room ∙ room_left modelled last f found there;
      }
  stood is (Err refused) ok room layout = tt
