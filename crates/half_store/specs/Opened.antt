-- What opening answers.
use Rattle.std.specs.Prelude.{◌≡◌, ℕ, ◌+◌, ◌*◌, ◌<◌, List, Result, Ok, Err, string_bytes, String}
use Rattle.std.specs.declared.alloc.Global.{Global}
use Rattle.drda_disk.specs.Region.{end_of}
use Rattle.drda_disk.specs.declared.errors.DiskError.{DiskError}
use Rattle.drda_disk.specs.declared.errors.DiskError.TheVariants as read
use Rattle.drda_disk.specs.Layout.{page_bytes}
use Rattle.half_store.specs.Layout.{offset_of}
use Rattle.half_store.specs.Active.{Store, Refusal, not_a_store, damaged}
use Rattle.half_store.specs.declared.active.Active.{Active}
use Rattle.half_store.specs.declared.errors.OpenError.{OpenError}
use Rattle.half_store.specs.declared.errors.OpenError.TheVariants.{NotAStore, Damaged, DeviceFailed, NoMemory}

abbrev pub open_error_of : DiskError → OpenError
open_error_of read.NoMemory = NoMemory
open_error_of read.DeviceFailed = DeviceFailed

abbrev pub store_of : Active → Store
store_of a = record {
  name = string_bytes a.name;
  half = a.half;
  header = record { generation = a.generation; pages = a.pages; first_catalogue = a.first_catalogue; catalogue_pages = a.catalogue_pages; layout = a.layout };
}

-- its journal's region is what is left of its half behind the header and the pages: a byte at least
pub record IsBehindPages (h : ℕ) (a : Active) : Type 0 where
  pub some : page_bytes * (1 + a.pages) < h
  pub begins : a.region.at ≡ offset_of h a.half + page_bytes * (1 + a.pages)
  pub ends : end_of a.region ≡ offset_of h a.half + h

-- it is told as this store, and its journal's region with it
pub record IsToldAs (store : Store) (h : ℕ) (a : Active) : Type 0 where
  pub is : store_of a ≡ store
  pub behind : IsBehindPages h a

-- these bytes are seen as that, in any refusal but those of memory and of the device
abbrev pub Refuses : {T : Type 0} → Result T Refusal → OpenError → Type 0
Refuses found NotAStore = found ≡ Err not_a_store
Refuses found (Damaged at) = found ≡ Err (damaged at)
Refuses found DeviceFailed = Unit {0}
Refuses found NoMemory = Unit {0}

-- the name in the head, or why there is none
abbrev pub TellsName : Result (List ℕ) Refusal → Result (String Global) OpenError → Type 0
TellsName found (Ok name) = found ≡ Ok (string_bytes name)
TellsName found (Err e) = Refuses found e

-- the store, or why there is none
abbrev pub Tells : Result Store Refusal → Result Active OpenError → Type 0
Tells found (Ok a) = found ≡ Ok (store_of a)
Tells found (Err e) = Refuses found e

-- the device has failed once more exactly where that is told
abbrev pub CountsOpen : {T : Type 0} → Result T OpenError → ℕ → ℕ → Type 0
CountsOpen (Ok x) old new = new ≡ old
CountsOpen (Err NotAStore) old new = new ≡ old
CountsOpen (Err (Damaged at)) old new = new ≡ old
CountsOpen (Err NoMemory) old new = new ≡ old
CountsOpen (Err DeviceFailed) old new = new ≡ old + 1
