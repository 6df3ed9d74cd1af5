-- What a crash leaves while records are laid behind an image and the halves are switched.
use Rattle.std.proofs.Common.{◌≡◌, inl, inr, ⊎_elim, ℕ, ◌+◌, ◌-◌, ◌*◌, ◌<◌, ◌≤◌, Bool, List, length, Ok, Err, sym, ◌∙◌, ap, subst, arith}
use Rattle.std.specs.Prelude.{Result}
use Rattle.drda_disk.specs.Disk.{Life, Only, LeavesOnly, Torn, Within}
use Rattle.drda_disk.specs.Region.{end_of, SameOutside}
use Rattle.drda_disk.specs.declared.region.Region.{Region}
use Rattle.drda_disk.proofs.Moments.{and_then, weaker}
use Rattle.drda_disk.proofs.Parts.{Torn-wider, part_outside}
use Rattle.unit_journal.specs.Record.{Entry, laid}
use Rattle.unit_journal.specs.Stands.{Stands, StandsFrom}
use Rattle.unit_journal.specs.Journal.{region_of, next_of as journal_next}
use Rattle.unit_journal.proofs.Settled.{Stands-outside}
use Rattle.half_store.specs.Active.{Store, active_of}
use Rattle.half_store.specs.Switching.{IsOldOrNew, switched}
use Rattle.half_store.specs.Writing.{IsKept, IsWriting, from_of, half_bytes_of, next_of, pages_of}
use Rattle.half_store.specs.declared.image.ImageWriter.{ImageWriter}
use Rattle.half_store.proofs.Kept.{still_writing, writing_kept}
use Rattle.drda_disk.specs.Errors.{OnNoMemory}
use Rattle.drda_disk.specs.declared.errors.DiskError.{DiskError}
use Rattle.drda_disk.specs.declared.errors.DiskError.TheVariants as disk
use Rattle.checkpoint_writer.specs.Errors.{undone}
use Rattle.checkpoint_writer.specs.Moment.{FitBehind, IsNew, IsSwitched, Moment, OnRefused, pages_in}
use Rattle.checkpoint_writer.specs.declared.errors.ImageError.{ImageError}
use Rattle.checkpoint_writer.specs.declared.ending.Switched.{Switched}

-- the records and what is held back fit where they were laid
pub fit_there : (w : ImageWriter) (region : Region) (n : ℕ) → region.at ≡ next_of w → end_of region ≡ from_of w + half_bytes_of w → 0 < region.length → n ≤ region.length - 1 → FitBehind w n
fit_there w region n begins ends some fit = omega (arith, begins, ends, some, fit)

-- a switch that was refused has written nothing
pub no_switch : {T S : Type 0} (P Q : Type 0) (e : DiskError) (from : Result T DiskError) (result : Result S ImageError) → from ≡ Err e → result ≡ Err (undone e) → (P → Q) → OnNoMemory from P → OnRefused result Q
no_switch {T = T} {S = S} P Q disk.NoMemory from result was is f held =
    subst (λ (r : Result S ImageError). OnRefused r Q) (sym is) (f (subst (λ (r : Result T DiskError). OnNoMemory r P) was held))
no_switch {S = S} P Q disk.DeviceFailed from result was is f held = subst (λ (r : Result S ImageError). OnRefused r Q) (sym is) tt

module _ (base : List ℕ) (store : Store) (w : ImageWriter) where
  large : 8192 < half_bytes_of w
  large = omega (arith, w.fits)

  -- bytes of the other half alone have changed
  pub kept_wider : (image : List ℕ) → IsKept base store (from_of w + 1) (half_bytes_of w - 1) image → IsKept base store (from_of w) (half_bytes_of w) image
  kept_wider image k = record {
    active = k.active;
    others = Torn-wider (from_of w + 1) (half_bytes_of w - 1) (from_of w) (half_bytes_of w) base image (omega arith) (omega (arith, large)) k.others;
  }

  module _ (modelled : Bool) (old : Life) (is : IsWriting modelled old base store w) (region : Region) (begins : region.at ≡ next_of w) (ends : end_of region ≡ from_of w + half_bytes_of w) where
    abbrev pub Lays : Life → Type 0
    Lays new = (from m : ℕ) (base : List ℕ) → from ≤ region.at → end_of region ≤ from + m → Within from m base old → LeavesOnly old new (Torn from m base)

    pub lays : (new : Life) → Lays new → LeavesOnly old new (Torn (from_of w + 1) (half_bytes_of w - 1) base)
    lays new within = within (from_of w + 1) (half_bytes_of w - 1) base (omega (arith, begins)) (omega (arith, ends, large)) is.within

    -- while records are laid the old half is the active one
    pub laying : (new : Life) (first catalogue : ℕ) (es : List Entry) (held : ℕ) → Lays new → LeavesOnly old new (Moment base old.seen store w first catalogue es held)
    laying new first catalogue es held within =
        weaker old new _ _ (writing_kept modelled old base store w is large new (lays new within)) (λ c k. inl (kept_wider c k))

    pub laid_writing : (new : Life) → Lays new → IsWriting modelled new base store w
    laid_writing new within = still_writing modelled old new base store w is (λ c now. (lays new within).now c now)

    module _ (mid : List ℕ) (others : SameOutside region old.seen mid) (new : Store) (es : List Entry) (held : ℕ) (room : FitBehind w (length (laid es) + held)) (stands : Stands region es mid) where
      laid_pages : pages_in mid w ≡ pages_in old.seen w
      laid_pages = part_outside region.at region.length (from_of w + 8192) (8192 * pages_of w) old.seen mid others (inl (omega (arith, begins)))

      at_numbers : (image : List ℕ) → Stands region es image → StandsFrom (next_of w) (from_of w + half_bytes_of w) es image
      at_numbers image s = subst (λ n. StandsFrom (next_of w) n es image) ends (subst (λ n. StandsFrom n (end_of region) es image) begins s)

      -- the new half, with a header page that is written or being written
      pub is_new : (image : List ℕ) → IsKept mid new (from_of w) 8192 image → IsNew old.seen new w es held image
      is_new image k = record {
        size = k.others.size ∙ others.size;
        active = k.active;
        pages = part_outside (from_of w) 8192 (from_of w + 8192) (8192 * pages_of w) mid image k.others (inr (omega arith)) ∙ laid_pages;
        stands = at_numbers image (Stands-outside (from_of w) 8192 region es mid image k.others (inr (omega (arith, begins))) stands);
        room = room;
      }

    -- the new half is there to stay
    pub ended : (mid new : Life) (first catalogue : ℕ) (es : List Entry) (held : ℕ) (s : Switched) → SameOutside region old.seen mid.seen → FitBehind w (length (laid es) + held) → Stands region es mid.seen
        → region_of s.journal ≡ region → journal_next s.journal ≡ region.at + length (laid es)
        → active_of new.seen ≡ Ok (switched store w first catalogue) → Only new → Torn (from_of w) 8192 mid.seen new.seen
        → IsSwitched modelled new old.seen (switched store w first catalogue) w s es held
    ended mid new first catalogue es held s others room stands same next active durable torn = record {
      settled = record {
        modelled_disk = is.modelled_disk;
        durable = durable;
        stands = subst (λ (r : Region). Stands r es new.seen) (sym same) (Stands-outside (from_of w) 8192 region es mid.seen new.seen torn (inr (omega (arith, begins))) stands);
        next = subst (λ (r : Region). journal_next s.journal ≡ r.at + length (laid es)) (sym same) next;
      };
      is = is_new mid.seen others (switched store w first catalogue) es held room stands new.seen (record { active = active; others = torn });
      begins = ap (λ (r : Region). r.at) same ∙ begins;
      ends = ap (λ (r : Region). end_of r) same ∙ ends;
    }

    -- then the halves are switched
    pub switching : (mid new : Life) (first catalogue : ℕ) (es : List Entry) (held : ℕ) → Lays mid → SameOutside region old.seen mid.seen → FitBehind w (length (laid es) + held) → Stands region es mid.seen
        → LeavesOnly mid new (IsOldOrNew base mid.seen store (switched store w first catalogue) (from_of w) (half_bytes_of w))
        → LeavesOnly old new (Moment base old.seen store w first catalogue es held)
    switching mid new first catalogue es held within others room stands run =
        and_then old mid new _ _ _ (laying mid first catalogue es held within) run (λ c m. m)
        (λ c m. ⊎_elim (λ kept. inl kept) (λ kept. inr (is_new mid.seen others (switched store w first catalogue) es held room stands c kept)) m)
