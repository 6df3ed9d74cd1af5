-- The form of a page: what it is by itself, before any catalogue is read.
use Rattle.std.specs.Prelude.{ℕ, Bool, true, false, List, Result, Ok, Err}
use Rattle.row_pages.specs.Laying.{HasSome}
use Rattle.row_pages.specs.Page.{IsPage}
use Rattle.row_pages.specs.declared.page.PageKind.{PageKind}
use Rattle.store_check.specs.declared.errors.CheckError.{CheckError}
use Rattle.store_check.specs.declared.errors.CheckError.TheVariants.{NoMemory, DeviceFailed, Damaged}

-- bytes are a page of this kind, and it has rows
pub record IsFormed (kind : PageKind) (bytes : List ℕ) : Type 0 where
  pub rows : List (List ℕ)
  pub page : IsPage (record { kind = kind; rows = rows }) bytes
  pub some : HasSome rows

-- whether something is so, or why that is not known; damage is no such cause
abbrev pub TellsWhether : Type 0 → Result Bool CheckError → Type 0
TellsWhether P (Ok true) = P
TellsWhether P (Ok false) = P → ⊥
TellsWhether P (Err NoMemory) = Unit {0}
TellsWhether P (Err DeviceFailed) = Unit {0}
TellsWhether P (Err (Damaged here)) = ⊥
