-- A fresh store, and what formatting answers.
use Rattle.std.specs.Prelude.{◌≡◌, ◌⊎◌, ℕ, ◌+◌, ◌-◌, Bool, true, false, ◌&&◌, List, ◌∷◌, ◌++◌, length, replicate, slice_index, Result, Ok, Err}
use Rattle.std.specs.Int.{w32, w64, to_be_bytes}
use Rattle.drda_disk.specs.Disk.{Life, Now}
use Rattle.drda_disk.specs.Layout.{open_gate}
use Rattle.half_store.specs.Layout.{is_store_size, is_name_len, are_printable}
use Rattle.half_store.specs.Active.{Store, is_marked, not_a_store, active_of}
use Rattle.half_store.specs.declared.layout.Half.TheVariants.{First}
use Rattle.half_store.specs.declared.header.Header.{Header}
use Rattle.half_store.specs.declared.header.Layout.TheVariants.{Two}
use Rattle.half_store.specs.Header.{layout_word}
use Rattle.half_store.specs.declared.errors.FormatError.{FormatError}
use Rattle.half_store.specs.declared.errors.FormatError.TheVariants.{BadSize, BadName, DeviceFailed, NoMemory}

-- zeros, so many of them
unfoldable pub zeros : ℕ → List ℕ
zeros n = replicate n 0

-- a database's name has 1 to 18 printable characters
abbrev pub is_name : List ℕ → Bool
is_name name = is_name_len (length name) && are_printable name

-- a store of so many bytes and of this name can be made
abbrev pub is_store_of : ℕ → List ℕ → Bool
is_store_of size name = is_store_size size && is_name name

-- a head behind its mark
abbrev pub head_bytes : ℕ → List ℕ → List ℕ
head_bytes size name = to_be_bytes w32 1 ++ (to_be_bytes w64 size ++ length name ∷ name)

-- a header behind its gate
abbrev pub header_bytes : Header → List ℕ
header_bytes header = to_be_bytes w64 header.generation ++ (to_be_bytes w32 header.pages ++ (to_be_bytes w32 header.first_catalogue ++ (to_be_bytes w32 header.catalogue_pages ++ to_be_bytes w32 (layout_word header.layout))))

-- the first image of a store: no pages, and layout 2
abbrev pub first_header : Header
first_header = record { generation = 1; pages = 0; first_catalogue = 0; catalogue_pages = 0; layout = Two }

abbrev pub fresh : List ℕ → Store
fresh name = record { name = name; half = First; header = first_header }

-- an image is a fresh store of that name: no pages, and no record, since the first gate of its journal is closed
pub record IsFresh (name image : List ℕ) : Type 0 where
  pub active : active_of image ≡ Ok (fresh name)
  pub gate : slice_index image 16384 ≡ 0

abbrev pub IsNoneOrFresh : List ℕ → List ℕ → Type 0
IsNoneOrFresh name image = (active_of image ≡ Err not_a_store) ⊎ IsFresh name image

-- no image of a crash now begins as a store does
abbrev pub IsUnmarked : Life → Type 0
IsUnmarked disk = (c : List ℕ) → Now disk c → is_marked c ≡ false

-- which refusal comes when
abbrev pub AnswersFormat : {T : Type 0} → Result T FormatError → ℕ → List ℕ → Type 0
AnswersFormat (Ok x) size name = (is_store_size size ≡ true) × (is_name name ≡ true)
AnswersFormat (Err BadSize) size name = is_store_size size ≡ false
AnswersFormat (Err BadName) size name = (is_store_size size ≡ true) × (is_name name ≡ false)
AnswersFormat (Err NoMemory) size name = (is_store_size size ≡ true) × (is_name name ≡ true)
AnswersFormat (Err DeviceFailed) size name = (is_store_size size ≡ true) × (is_name name ≡ true)

-- what holds where nothing was written
abbrev pub OnRefusedToFormat : {T : Type 0} → Result T FormatError → Type 0 → Type 0
OnRefusedToFormat (Ok x) P = Unit {0}
OnRefusedToFormat (Err DeviceFailed) P = Unit {0}
OnRefusedToFormat (Err BadSize) P = P
OnRefusedToFormat (Err BadName) P = P
OnRefusedToFormat (Err NoMemory) P = P

-- the device has failed once more exactly where that is told
abbrev pub CountsFormat : {T : Type 0} → Result T FormatError → ℕ → ℕ → Type 0
CountsFormat (Ok x) old new = new ≡ old
CountsFormat (Err BadSize) old new = new ≡ old
CountsFormat (Err BadName) old new = new ≡ old
CountsFormat (Err NoMemory) old new = new ≡ old
CountsFormat (Err DeviceFailed) old new = new ≡ old + 1

-- A fresh store behind its mark, up to the first gate of its journal: the rest of the head's page, the first half's
-- header page, and the closed gate.
abbrev pub head_page : ℕ → List ℕ → List ℕ
head_page size name = head_bytes size name ++ zeros (8184 - length (head_bytes size name))

abbrev pub front_bytes : ℕ → List ℕ → List ℕ
front_bytes size name = head_page size name ++ ((open_gate ∷ header_bytes first_header) ++ zeros 8168)
