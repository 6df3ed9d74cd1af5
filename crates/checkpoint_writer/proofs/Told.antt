-- Where damage is told.
use Rattle.std.proofs.Common.{◌≡◌, ◌⊎◌, inl, inr, ⊎_elim, ℕ, ◌+◌, ◌*◌, ◌≤◌, List, [], ◌∷◌, ◌++◌, subst, arith}
use Rattle.std.specs.Prelude.{Result, Ok, Err}
use Rattle.std.specs.List.{AllByRecursion}
use Rattle.drda_disk.specs.Disk.{Torn}
use Rattle.drda_disk.proofs.Parts.{part_outside}
use Rattle.row_pages.specs.declared.kept.PageFault.{PageFault}
use Rattle.row_pages.specs.declared.kept.PageFault.TheVariants as fault
use Rattle.table_map.specs.Damage.{HasNoRows, SomePage}
use Rattle.table_map.specs.Damage.{DamagedWhere as ReadWhere}
use Rattle.checkpoint_writer.specs.Errors.{DamagedWhere, error_of}
use Rattle.checkpoint_writer.specs.declared.errors.ImageError.{ImageError}
use Rattle.checkpoint_writer.specs.declared.errors.ImageError.TheVariants.{NoMemory, DeviceFailed, Damaged, Full}

by_error : {S : Type 0} (Q : Type 0) (e : ImageError) (result : Result S ImageError) → result ≡ Err e → (e ≡ Damaged → Q) → DamagedWhere Q result
by_error Q e (Ok x) is f = tt
by_error Q e (Err NoMemory) is f = tt
by_error Q e (Err DeviceFailed) is f = tt
by_error Q e (Err Damaged) is f = f cc
by_error Q e (Err (Full full)) is f = tt

was_told : {T : Type 0} (P : Type 0) (e : ImageError) (from : Result T ImageError) → from ≡ Err e → DamagedWhere P from → e ≡ Damaged → P
was_told P e (Ok x) is told damaged = absurd cc
was_told P e (Err NoMemory) is told damaged = absurd cc
was_told P e (Err DeviceFailed) is told damaged = absurd cc
was_told P e (Err Damaged) is told damaged = told
was_told P e (Err (Full full)) is told damaged = absurd cc

-- an error that is handed on
pub handed_on : {T S : Type 0} (P Q : Type 0) (e : ImageError) (from : Result T ImageError) (result : Result S ImageError) → from ≡ Err e → result ≡ Err e → (P → Q) → DamagedWhere P from → DamagedWhere Q result
handed_on P Q e from result was is f told = by_error Q e result is (λ damaged. f (was_told P e from was told damaged))

was_read : {T : Type 0} (P : Type 0) (e : PageFault) (from : Result T PageFault) → from ≡ Err e → ReadWhere P from → error_of e ≡ Damaged → P
was_read P fault.NoMemory from is told damaged = absurd cc
was_read P fault.DeviceFailed from is told damaged = absurd cc
was_read P fault.Damaged (Ok x) is told damaged = absurd cc
was_read P fault.Damaged (Err fault.NoMemory) is told damaged = absurd cc
was_read P fault.Damaged (Err fault.DeviceFailed) is told damaged = absurd cc
was_read P fault.Damaged (Err fault.Damaged) is told damaged = told

-- the fault of a page that was read
pub read_on : {T S : Type 0} (P Q : Type 0) (e : PageFault) (from : Result T PageFault) (result : Result S ImageError) → from ≡ Err e → result ≡ Err (error_of e) → (P → Q) → ReadWhere P from → DamagedWhere Q result
read_on P Q e from result was is f told = by_error Q (error_of e) result is (λ damaged. f (was_read P e from was told damaged))

-- pages outside of what is written stay what they are
pub page_stays : (old new : List ℕ) (from n at count : ℕ) → Torn from n old new → (at + 8192 * count ≤ from) ⊎ (from + n ≤ at) → SomePage HasNoRows new at count → SomePage HasNoRows old at count
page_stays old new from n at count torn away some = record {
  number = some.number;
  within = some.within;
  is = subst (λ (l : List ℕ). HasNoRows l) (part_outside from n (at + 8192 * some.number) 8192 old new torn (⊎_elim (λ low. inl (omega (arith, low, some.within))) (λ high. inr (omega (arith, high))) away)) some.is;
}

pub all_behind : (P : List ℕ → Type 0) (a b : List (List ℕ)) → AllByRecursion P (a ++ b) → AllByRecursion P b
all_behind P [] b all = all
all_behind P (x ∷ xs) b all = all_behind P xs b all.1
