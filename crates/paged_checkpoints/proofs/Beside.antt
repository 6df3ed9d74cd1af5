-- Tables that stay where they are while another half is written.
use Rattle.std.proofs.Common.{◌≡◌, ◌⊎◌, inl, inr, ⊎_elim, ℕ, ◌+◌, ◌-◌, ◌*◌, ◌≤◌, Bool, List, [], ◌∷◌, length, sym, ap, subst, ◌∙◌, arith}
use Rattle.drda_disk.specs.Disk.{Torn}
use Rattle.key_map.specs.RowForm.{row_form}
use Rattle.half_store.specs.Active.{Store as Opened}
use Rattle.half_store.specs.Layout.{half_len, offset_of, other_than}
use Rattle.half_store.specs.Writing.{from_of, half_bytes_of, half_of, next_of}
use Rattle.half_store.specs.declared.active.Active.{Active}
use Rattle.half_store.specs.declared.layout.Half.{Half}
use Rattle.half_store.specs.declared.image.ImageWriter.{ImageWriter}
use Rattle.checkpoint_writer.specs.Adding.{end_of_half}
use Rattle.checkpoint_writer.proofs.MergedRows.{at_moves, many_keys}
use Rattle.store_check.specs.Half.{pages_of}
use Rattle.paged_tables.specs.Stored.{IsOnPages, LiesInside, LiesOutside, Stored}
use Rattle.paged_tables.specs.TablesByName.{AreOnPages, LieInside, LieOutside, Tables, created_of}
use Rattle.paged_tables.proofs.Pages.{all_kept}
use Rattle.paged_checkpoints.specs.Apart.{AreReadable, IsReadable, LiesAmong, StandApart, other_half}

-- ---- outside of what is written

-- pages of a half lie outside of what ends in front of its pages or begins behind them
pub half_outside : (a : Active) (from end : ℕ) (t : Stored) → 8192 * a.pages ≤ a.region.at → (a.region.at ≤ from) ⊎ (end + 8192 * a.pages ≤ a.region.at) → LiesAmong (pages_of a) t.places → LiesOutside from end t
half_outside a from end t fits away among = ⊎_elim (λ before. inl (omega (arith, fits, before, among.last))) (λ behind. inr (omega (arith, behind, among.first))) away

pub still_outside : (from end low high : ℕ) (tables : Tables) → from ≤ low → high ≤ end → LieOutside from end tables → LieOutside low high tables
still_outside from end low high [] le ge all = tt
still_outside from end low high (e ∷ es) le ge all =
    (⊎_elim (λ before. inl (omega (arith, le, before))) (λ behind. inr (omega (arith, ge, behind))) all.0, still_outside from end low high es le ge all.1)

one_moves : (old new : List ℕ) (from n : ℕ) (t : Stored) → Torn from n old new → LiesOutside from (from + n) t → IsOnPages old t → IsOnPages new t
one_moves old new from n t torn away is =
    let many : length t.places.keys ≡ length is.pages = ap length is.stand.first ∙ many_keys (row_form t.schema) is.pages in
    record {
      pages = is.pages;
      stand = record {
        stand = at_moves old new from n t.places.at is.pages torn (⊎_elim (λ before. inl (omega (arith, before, many))) (λ behind. inr behind) away) is.stand.stand;
        some = is.stand.some;
        first = is.stand.first;
        order = is.stand.order;
      };
      rows = is.rows;
    }

-- the pages stand in what is written elsewhere, too
pub all_move : (old new : List ℕ) (from n : ℕ) (tables : Tables) → Torn from n old new → LieOutside from (from + n) tables → AreOnPages old tables → AreOnPages new tables
all_move old new from n [] torn away all = tt
all_move old new from n (e ∷ es) torn away all = (one_moves old new from n e.1 torn away.0 all.0, all_move old new from n es torn away.1 all.1)

-- ---- while pages are written

behind_pages : (w : ImageWriter) → next_of w + (end_of_half w - next_of w) ≡ end_of_half w
behind_pages w = omega (arith, w.fits)

pub one_readable : (modelled : Bool) (file : List ℕ) (w : ImageWriter) (left : Tables) (e : List ℕ × Stored) (rest : Tables) → left ≡ e ∷ rest → AreReadable modelled file w left → IsReadable modelled file w e.1
one_readable modelled file w left e rest is all =
    let here : AreReadable modelled file w (e ∷ rest) = subst (λ (l : Tables). AreReadable modelled file w l) is all in
    record { modelled_disk = here.modelled_disk; stand = here.stand.0; apart = here.apart.0 }

pub rest_readable : (modelled : Bool) (old new : List ℕ) (w after : ImageWriter) (left : Tables) (e : List ℕ × Stored) (rest : Tables) → left ≡ e ∷ rest
    → from_of after ≡ from_of w → half_bytes_of after ≡ half_bytes_of w → Torn (next_of w) (end_of_half w - next_of w) old new → AreReadable modelled old w left → AreReadable modelled new after rest
rest_readable modelled old new w after left e rest is from bytes torn all =
    let here : AreReadable modelled old w (e ∷ rest) = subst (λ (l : Tables). AreReadable modelled old w l) is all in
    record {
      modelled_disk = here.modelled_disk;
      stand = all_move old new (next_of w) (end_of_half w - next_of w) rest torn (still_outside (from_of w) (end_of_half w) (next_of w) (next_of w + (end_of_half w - next_of w)) rest (omega arith) (omega (arith, behind_pages w)) here.apart.1) here.stand.1;
      apart = still_outside (from_of w) (end_of_half w) (from_of after) (end_of_half after) rest (omega (arith, from)) (omega (arith, from, bytes)) here.apart.1;
    }

pub rest_inside : (size : ℕ) (left : Tables) (e : List ℕ × Stored) (rest : Tables) → left ≡ e ∷ rest → LieInside size left → LiesInside size e.1 × LieInside size rest
rest_inside size left e rest is all = subst (λ (l : Tables). LieInside size l) is all

-- ---- from the beginning of an image on

pub begun_readable : (modelled : Bool) (old mid : List ℕ) (store : Opened) (w : ImageWriter) (tables lent : Tables) → lent ≡ created_of tables → half_of w ≡ other_than store.half → half_bytes_of w ≡ half_len (length old) → 1 ≤ half_len (length old)
    → Torn (other_half (length old) store) 1 old mid → StandApart modelled old store tables → AreReadable modelled mid w lent
begun_readable modelled old mid store w tables lent is half bytes some torn so =
    let from : ℕ = other_half (length old) store in
    let end : ℕ = from + half_len (length old) in
    let here : from_of w ≡ from = ap (λ (n : ℕ). offset_of n (half_of w)) bytes ∙ ap (λ (h : Half). offset_of (half_len (length old)) h) half in
    let stand : AreOnPages old (created_of tables) = all_kept (IsOnPages old) tables so.stand in
    let apart : LieOutside from end (created_of tables) = all_kept (LiesOutside from end) tables so.apart in
    subst (λ (l : Tables). AreReadable modelled mid w l) (sym is) (record {
      modelled_disk = so.modelled_disk;
      stand = all_move old mid from 1 (created_of tables) torn (still_outside from end from (from + 1) (created_of tables) (omega arith) (omega (arith, some)) apart) stand;
      apart = still_outside from end (from_of w) (end_of_half w) (created_of tables) (omega (arith, here)) (omega (arith, here, bytes)) apart;
    })
