-- From the image that is written to the store.
use Rattle.std.proofs.Common.{◌≡◌, inl, inr, ⊎_elim, ℕ, ◌+◌, ◌*◌, ◌-◌, ◌<◌, ◌≤◌, Bool, List, length, Ok, Err, refl, sym, ◌∙◌, ap, subst, arith}
use Rattle.std.specs.Prelude.{Result, IsTrue}
use Rattle.drda_disk.specs.Disk.{LeavesOnly, Life, Now, Torn}
use Rattle.drda_disk.proofs.Moments.{and_then, weaker}
use Rattle.drda_disk.specs.Region.{end_of}
use Rattle.drda_disk.proofs.Parts.{Torn-trans, Torn-wider}
use Rattle.std.proofs.lemmas.Bool.Decides.{nat_tests}
use Rattle.half_store.specs.Active.{Store}
use Rattle.half_store.specs.Layout.{half_len, is_store_size, offset_of, other_than}
use Rattle.half_store.specs.Opened.{IsBehindPages, store_of}
use Rattle.half_store.specs.Switching.{switched}
use Rattle.half_store.specs.Writing.{IsKept, IsWriting, from_of, generation_of, half_bytes_of, half_of, next_of, pages_of}
use Rattle.half_store.proofs.Kept.{kept_now}
use Rattle.half_store.specs.declared.image.ImageWriter.{ImageWriter}
use Rattle.half_store.specs.declared.active.Active.{Active}
use Rattle.unit_journal.specs.Journal.{held_of}
use Rattle.unit_journal.specs.Record.{Entry, laid}
use Rattle.unit_journal.specs.Stands.{StandsFrom}
use Rattle.tables.specs.Tables.{Store as Tables}
use Rattle.checkpoint_writer.specs.Adding.{AddsPages}
use Rattle.checkpoint_writer.specs.Moment.{IsSwitched, OnRefused}
use Rattle.checkpoint_writer.specs.Moment.{IsNew as HasSwitched, Moment as SwitchMoment}
use Rattle.checkpoint_writer.specs.declared.ending.Switched.{Switched}
use Rattle.checkpoint_writer.specs.declared.errors.ImageError.{ImageError}
use Rattle.checkpoint_writer.specs.declared.errors.ImageError.TheVariants.{NoMemory, DeviceFailed, Damaged, Full}
use Rattle.store_check.specs.Checkpoint.{CheckpointsAreFramed, HasCheckpoint}
use Rattle.store_check.specs.Half.{pages_of as pages_of_active}
use Rattle.store_check.specs.Laying.{pages_with}
use Rattle.store_check.specs.Moment.{IsAnew, IsNew, IsOld, Moment}
use Rattle.store_check.specs.Room.{pages_of_catalogue, pages_of_tables}

-- ---- a gate that is closed

pub begun_old : (old : List ℕ) (store : Store) → 1 ≤ half_len (length old) → (image : List ℕ) → IsKept old store (offset_of (half_len (length old)) (other_than store.half)) 1 image → IsOld old store image
begun_old old store some image kept = record {
  active = kept.active;
  others = Torn-wider (offset_of (half_len (length old)) (other_than store.half)) 1 (offset_of (half_len (length old)) (other_than store.half)) (half_len (length old)) old image (omega arith) (omega (arith, some)) kept.others;
}

-- a half of a store has a byte
pub some_half : (size : ℕ) → IsTrue (is_store_size size) → 1 ≤ half_len size
unfolding half_len
some_half size is = grind (arith, nat_tests)

-- ---- the half that is written

module _ (base : List ℕ) (store : Store) (w : ImageWriter) (half : half_of w ≡ other_than store.half) (bytes : half_bytes_of w ≡ half_len (length base)) where
  -- it is the other one
  from_there : from_of w ≡ offset_of (half_len (length base)) (other_than store.half)
  from_there = ap (λ n. offset_of n (half_of w)) bytes ∙ ap (λ k. offset_of (half_len (length base)) k) half

  pub is_old : (n m : ℕ) (image : List ℕ) → from_of w ≤ n → n + m ≤ from_of w + half_bytes_of w → IsKept base store n m image → IsOld base store image
  is_old n m image low high kept = record {
    active = kept.active;
    others = Torn-wider n m (offset_of (half_len (length base)) (other_than store.half)) (half_len (length base)) base image (omega (arith, low, from_there)) (omega (arith, high, from_there, bytes)) kept.others;
  }

  module _ (framed : CheckpointsAreFramed) (file : List ℕ) (first catalogue : ℕ) (tables : Tables) (es : List Entry) (held : ℕ) (size : length file ≡ length base) (generation : generation_of w ≡ store.header.generation + 1)
      (pages : HasCheckpoint file (record { at = from_of w + 8192; count = pages_of w; first_catalogue = first; catalogue_pages = catalogue }) tables) where
    pub is_new : (image : List ℕ) → HasSwitched file (switched store w first catalogue) w es held image → IsNew base store tables es held image
    is_new image is =
        let new : Store = switched store w first catalogue in
        let same : half_bytes_of w ≡ half_len (length image) = bytes ∙ ap half_len (sym (is.size ∙ size)) in
        record {
          size = is.size ∙ size;
          new = new;
          name = refl;
          half = half;
          generation = generation;
          layout = refl;
          holds = record {
            active = is.active;
            pages = subst (λ n. HasCheckpoint image (record { at = offset_of n (half_of w) + 8192; count = pages_of w; first_catalogue = first; catalogue_pages = catalogue }) tables) same
                (framed file image (record { at = from_of w + 8192; count = pages_of w; first_catalogue = first; catalogue_pages = catalogue }) tables is.pages pages);
            stands = subst (λ n. StandsFrom (offset_of n (half_of w) + 8192 * (1 + pages_of w)) (offset_of n (half_of w) + n) es image) same is.stands;
            room = subst (λ n. offset_of n (half_of w) + 8192 * (1 + pages_of w) + (length (laid es) + held + 1) ≤ offset_of n (half_of w) + n) same (omega (arith, is.room));
          };
        }

    pub there : (image : List ℕ) → SwitchMoment base file store w first catalogue es held image → Moment base store tables es held image
    there image moment = ⊎_elim (λ kept. inl (is_old (from_of w) (half_bytes_of w) image (omega arith) (omega arith) kept)) (λ is. inr (is_new image is)) moment

    -- the pages of the half that became active
    pages_now : (image : List ℕ) (a : Active) → IsBehindPages (half_bytes_of w) a → switched store w first catalogue ≡ store_of a
        → HasCheckpoint image (record { at = from_of w + 8192; count = pages_of w; first_catalogue = first; catalogue_pages = catalogue }) tables → HasCheckpoint image (pages_of_active a) tables
    pages_now image a behind same has =
        let half_same : half_of w ≡ a.half = ap (λ (s : Store). s.half) same in
        let count : pages_of w ≡ a.pages = ap (λ (s : Store). s.header.pages) same in
        let at : from_of w + 8192 ≡ a.region.at - 8192 * a.pages = omega (arith, behind.begins, ap (λ k. offset_of (half_bytes_of w) k) half_same) in
        subst (λ (n : ℕ). HasCheckpoint image (record { at = n; count = a.pages; first_catalogue = a.first_catalogue; catalogue_pages = a.catalogue_pages }) tables) at
        (subst (λ (n : ℕ). HasCheckpoint image (record { at = from_of w + 8192; count = a.pages; first_catalogue = a.first_catalogue; catalogue_pages = n }) tables) (ap (λ (s : Store). s.header.catalogue_pages) same)
        (subst (λ (n : ℕ). HasCheckpoint image (record { at = from_of w + 8192; count = a.pages; first_catalogue = n; catalogue_pages = catalogue }) tables) (ap (λ (s : Store). s.header.first_catalogue) same)
        (subst (λ (n : ℕ). HasCheckpoint image (record { at = from_of w + 8192; count = n; first_catalogue = first; catalogue_pages = catalogue }) tables) count has)))

    at_active : (a : Active) → IsBehindPages (half_bytes_of w) a → store_of a ≡ switched store w first catalogue → a.region.at ≡ next_of w
    at_active a behind same = omega (arith, behind.begins, ap (λ (s : Store). offset_of (half_bytes_of w) s.half) same, ap (λ (s : Store). s.header.pages) same)

    end_active : (a : Active) → IsBehindPages (half_bytes_of w) a → store_of a ≡ switched store w first catalogue → end_of a.region ≡ from_of w + half_bytes_of w
    end_active a behind same = omega (arith, behind.ends, ap (λ (s : Store). offset_of (half_bytes_of w) s.half) same)

    pub anew : (modelled : Bool) (disk : Life) (s : Switched) → IsSwitched modelled disk file (switched store w first catalogue) w s es held → store_of s.active ≡ switched store w first catalogue → IsBehindPages (half_bytes_of w) s.active
        → held_of s.journal ≡ held → pages_of w ≡ pages_of_tables tables + pages_of_catalogue tables → IsAnew modelled disk base store tables es held s
    unfolding is_new
    anew modelled disk s is same behind room many = record {
      is = is_new disk.seen is.is;
      same = sym same;
      behind = subst (λ n. IsBehindPages n s.active) bytes behind;
      pages = pages_now disk.seen s.active behind (sym same)
          (framed file disk.seen (record { at = from_of w + 8192; count = pages_of w; first_catalogue = first; catalogue_pages = catalogue }) tables is.is.pages pages);
      settled = is.settled;
      begins = is.begins ∙ sym (at_active s.active behind same);
      ends = is.ends ∙ sym (end_active s.active behind same);
      room = room;
      leaves = omega (arith, is.settled.next, is.begins, is.ends, is.is.room, room, many, bytes);
    }

-- ---- the whole run

large : (w : ImageWriter) → 8192 < half_bytes_of w
large w = omega (arith, w.fits)

-- while pages are written, all that a crash leaves is old
pub still_old : (modelled : Bool) (disk : Life) (base : List ℕ) (store : Store) (w : ImageWriter) → IsWriting modelled disk base store w → (c : List ℕ) → Now disk c → IsOld base store c
still_old modelled disk base store w is c now =
    is_old base store w is.other is.halves (from_of w + 1) (half_bytes_of w - 1) c (omega arith) (omega (arith, large w)) (kept_now modelled disk base store w is (large w) c now)

pub pages_leave : (modelled : Bool) (old mid : Life) (base : List ℕ) (store : Store) (w after : ImageWriter) (tables : Tables) (es : List Entry) (held : ℕ) → IsWriting modelled old base store w → AddsPages modelled old mid w after
    → LeavesOnly old mid (Moment base store tables es held)
pages_leave modelled old mid base store w after tables es held is adds =
    weaker old mid _ _ (adds.any_moment base store is) (λ c kept. inl (is_old base store w is.other is.halves (from_of w + 1) (half_bytes_of w - 1) c (omega arith) (omega (arith, large w)) kept))

module _ (framed : CheckpointsAreFramed) (modelled : Bool) (old mid : Life) (base : List ℕ) (store : Store) (w after : ImageWriter) (first catalogue : ℕ) (tables : Tables) (es : List Entry) (held : ℕ)
    (is : IsWriting modelled old base store w) (adds : AddsPages modelled old mid w after) (image : Now mid mid.seen) (count : catalogue ≡ pages_of after - first) (has : HasCheckpoint mid.seen (pages_with after first) tables) where
  now_writing : IsWriting modelled mid base store after
  now_writing = adds.writing base store is

  same_size : length mid.seen ≡ length base
  same_size = (now_writing.within mid.seen image).size

  pages_there : HasCheckpoint mid.seen (record { at = from_of after + 8192; count = pages_of after; first_catalogue = first; catalogue_pages = catalogue }) tables
  pages_there = subst (λ (n : ℕ). HasCheckpoint mid.seen (record { at = from_of after + 8192; count = pages_of after; first_catalogue = first; catalogue_pages = n }) tables) (sym count) has

  pub image_leaves : (new : Life) → LeavesOnly mid new (SwitchMoment base mid.seen store after first catalogue es held) → LeavesOnly old new (Moment base store tables es held)
  image_leaves new run =
      and_then old mid new _ _ _ (pages_leave modelled old mid base store w after tables es held is adds) run (λ c m. m)
      (λ c m. there base store after now_writing.other now_writing.halves framed mid.seen first catalogue tables es held same_size now_writing.generation pages_there c m)

  pub image_anew : (new : Life) (s : Switched) → IsSwitched modelled new mid.seen (switched store after first catalogue) after s es held → store_of s.active ≡ switched store after first catalogue → IsBehindPages (half_bytes_of after) s.active
      → held_of s.journal ≡ held → pages_of after ≡ pages_of_tables tables + pages_of_catalogue tables → IsAnew modelled new base store tables es held s
  image_anew new s done same behind room many =
      anew base store after now_writing.other now_writing.halves framed mid.seen first catalogue tables es held same_size now_writing.generation pages_there modelled new s done same behind room many

-- ---- a refusal

pub refused_so : {T : Type 0} (P : Type 0) (result : Result T ImageError) → P → OnRefused result P
refused_so P (Ok x) p = tt
refused_so P (Err NoMemory) p = p
refused_so P (Err DeviceFailed) p = tt
refused_so P (Err Damaged) p = p
refused_so P (Err (Full full)) p = p

refused_on : (T S : Type 0) (P Q : Type 0) (e : ImageError) → (P → Q) → OnRefused {T = T} (Err e) P → OnRefused {T = S} (Err e) Q
refused_on T S P Q NoMemory f held = f held
refused_on T S P Q DeviceFailed f held = tt
refused_on T S P Q Damaged f held = f held
refused_on T S P Q (Full full) f held = f held

pub refused_still : {T : Type 0} (S : Type 0) (P Q : Type 0) (e : ImageError) (from : Result T ImageError) → from ≡ Err e → (P → Q) → OnRefused from P → OnRefused {T = S} (Err e) Q
refused_still {T = T} S P Q e from was f held = refused_on T S P Q e f (subst (λ (r : Result T ImageError). OnRefused r P) was held)

-- ---- from the beginning

module _ (old mid : List ℕ) (store : Store) (some : 1 ≤ half_len (length old)) (torn : Torn (offset_of (half_len (length old)) (other_than store.half)) 1 old mid) where
  pub old_before : (image : List ℕ) → IsOld mid store image → IsOld old store image
  old_before image is =
      let here : Torn (offset_of (half_len (length old)) (other_than store.half)) (half_len (length old)) mid image =
      subst (λ n. Torn (offset_of (half_len n) (other_than store.half)) (half_len n) mid image) torn.size is.others in
      record {
        active = is.active;
        others = Torn-trans (offset_of (half_len (length old)) (other_than store.half)) (half_len (length old)) old mid image
            (Torn-wider (offset_of (half_len (length old)) (other_than store.half)) 1 (offset_of (half_len (length old)) (other_than store.half)) (half_len (length old)) old mid (omega arith) (omega (arith, some)) torn) here;
      }

  new_before : (tables : Tables) (es : List Entry) (held : ℕ) (image : List ℕ) → IsNew mid store tables es held image → IsNew old store tables es held image
  new_before tables es held image is = record { size = is.size ∙ torn.size; new = is.new; name = is.name; half = is.half; generation = is.generation; layout = is.layout; holds = is.holds }

  pub before : (tables : Tables) (es : List Entry) (held : ℕ) (image : List ℕ) → Moment mid store tables es held image → Moment old store tables es held image
  before tables es held image moment = ⊎_elim (λ is. inl (old_before image is)) (λ is. inr (new_before tables es held image is)) moment

  pub anew_before : (modelled : Bool) (disk : Life) (tables : Tables) (es : List Entry) (held : ℕ) (s : Switched) → IsAnew modelled disk mid store tables es held s → IsAnew modelled disk old store tables es held s
  unfolding new_before
  anew_before modelled disk tables es held s is = record {
    is = new_before tables es held disk.seen is.is;
    same = is.same;
    behind = subst (λ n. IsBehindPages (half_len n) s.active) torn.size is.behind;
    pages = is.pages;
    settled = is.settled;
    begins = is.begins;
    ends = is.ends;
    room = is.room;
    leaves = is.leaves ∙ ap half_len torn.size;
  }

  -- the run from the beginning of an image on
  pub begun_leaves : (first second third : Life) (tables : Tables) (es : List Entry) (held : ℕ) → LeavesOnly first second (IsKept old store (offset_of (half_len (length old)) (other_than store.half)) 1) → LeavesOnly second third (Moment mid store tables es held)
      → LeavesOnly first third (Moment old store tables es held)
  begun_leaves first second third tables es held begun run = and_then first second third _ _ _ begun run (λ c kept. inl (begun_old old store some c kept)) (λ c m. before tables es held c m)
