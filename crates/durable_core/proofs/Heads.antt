-- What is read of a store's head and of its journal.
use Rattle.std.proofs.Common.{◌≡◌, ℕ, ◌+◌, ◌≤◌, IsTrue, Result, Err, ◌∙◌, ap, subst, arith}
use Rattle.half_store.specs.Layout.{half_len, is_store_size, offset_of}
use Rattle.half_store.specs.Opened.{IsBehindPages}
use Rattle.half_store.specs.declared.active.Active.{Active}
use Rattle.half_store.specs.declared.layout.Half.{Half}
use Rattle.half_store.specs.declared.layout.Half.TheVariants.{First, Second}
use Rattle.unit_journal.specs.Open.{IsWhole}
use Rattle.unit_journal.specs.declared.errors.OpenError.{OpenError as JournalError}
use Rattle.unit_journal.specs.declared.errors.OpenError.TheVariants.{Damaged}
use Rattle.recovery.proofs.Reading.{half_large}
use Rattle.unit_journal.specs.Adding.{IsPlace}
use Rattle.durable_core.specs.Reads.{ArePagesInside}

-- a half's end lies in the disk
pub ends_in : (h size : ℕ) (half : Half) → 8192 + (h + h) ≤ size → offset_of h half + h ≤ size
ends_in h size First fits = omega (arith, fits)
ends_in h size Second fits = omega (arith, fits)

-- what is read of a head says where its pages and its journal lie
pub inside_ok : (size : ℕ) (a : Active) → IsTrue (is_store_size size) → IsBehindPages (half_len size) a → IsPlace size a.region
inside_ok size a is behind =
    let large = half_large size is in
    let ends : offset_of (half_len size) a.half + half_len size ≤ size = ends_in (half_len size) size a.half large.1 in
    record {
      some = omega (arith, behind.begins, behind.ends, behind.some);
      small = omega (arith, behind.ends, large.2, ends);
      inside = omega (arith, behind.ends, ends);
    }

pub pages_ok : (size : ℕ) (a : Active) → IsTrue (is_store_size size) → IsBehindPages (half_len size) a → ArePagesInside size a
pages_ok size a is behind =
    let large = half_large size is in
    let ends : offset_of (half_len size) a.half + half_len size ≤ size = ends_in (half_len size) size a.half large.1 in
    record {
      behind = omega (arith, behind.begins);
      small = omega (arith, behind.ends, large.2, ends);
      inside = omega (arith, behind.ends, ends);
      apart = omega (arith, behind.begins, behind.ends);
    }

-- damage is told
pub no_damage : {T : Type 0} (r : Result T JournalError) (e : JournalError) (at : ℕ) → r ≡ Err e → e ≡ Damaged at → IsWhole r → ⊥
no_damage {T} r e at is told whole = subst (λ (x : Result T JournalError). IsWhole x) (is ∙ ap (λ (f : JournalError). Err f) told) whole
