-- What an image is: no store, a damaged one, or a store with an active half.
use Rattle.std.specs.Prelude.{ℕ, ◌+◌, ◌==◌, Bool, nat_lt, List, length, take, drop, slice_index, codes, bytes_eq, Result, Ok, Err, if◌then◌else◌}
use Rattle.std.specs.Int.{w32, w64, from_be_bytes}
use Rattle.drda_words.specs.Place.{part}
use Rattle.drda_disk.specs.Layout.{page_bytes}
use Rattle.half_store.specs.Layout.{is_store_size, half_len, is_name_len, are_printable}
use Rattle.half_store.specs.Header.{half_in}
use Rattle.half_store.specs.declared.layout.Half.{Half}
use Rattle.half_store.specs.declared.layout.Half.TheVariants.{First, Second}
use Rattle.half_store.specs.declared.header.Header.{Header}
use Rattle.half_store.specs.declared.header.HalfState.{HalfState}
use Rattle.half_store.specs.declared.header.HalfState.TheVariants.{Closed, Unsound, Open}

-- the name of the database, the active half and what its header says
pub record Store : Type 0 where
  pub name : List ℕ
  pub half : Half
  pub header : Header

-- why an image has none; the damage is at an offset
pub data Refusal : Type 0 where
  not_a_store : Refusal
  damaged : ℕ → Refusal

-- bytes begin as a store does
abbrev pub is_marked : List ℕ → Bool
is_marked bytes = bytes_eq (take 8 bytes) (codes "DRDASTO1")

-- the name of this length in front of bytes
abbrev pub name_behind : ℕ → List ℕ → Result (List ℕ) Refusal
name_behind n bytes = if is_name_len n then (if are_printable (take n bytes) then Ok (take n bytes) else Err (damaged 21)) else Err (damaged 20)

-- The name in the head of an image of this size, its first 39 bytes: DRDASTO1, the layout in 4 bytes, the size in
-- 8, the length of the name in 1, and the name.
unfoldable pub name_in : ℕ → List ℕ → Result (List ℕ) Refusal
name_in size head = if is_marked head
    then (if from_be_bytes w32 (part head 8 4) == 1
    then (if from_be_bytes w64 (part head 12 8) == size then name_behind (slice_index head 20) (drop 21 head) else Err (damaged 12))
    else Err (damaged 8))
    else Err not_a_store

-- The half that counts, of two of h bytes: the open one with the greater generation. Else where the damage is: at a
-- half that is not sound, the first before the second; at the first where none is open; at the second where both
-- have one generation.
unfoldable pub picked : ℕ → HalfState → HalfState → Result (Half × Header) ℕ
picked h Unsound second = Err page_bytes
picked h Closed Unsound = Err (page_bytes + h)
picked h (Open a) Unsound = Err (page_bytes + h)
picked h Closed Closed = Err page_bytes
picked h (Open a) Closed = Ok (First, a)
picked h Closed (Open b) = Ok (Second, b)
picked h (Open a) (Open b) = if a.generation == b.generation then Err (page_bytes + h) else (if nat_lt a.generation b.generation then Ok (Second, b) else Ok (First, a))

abbrev pub with_half : List ℕ → Result (Half × Header) ℕ → Result Store Refusal
with_half name (Ok found) = Ok (record { name = name; half = found.0; header = found.1 })
with_half name (Err at) = Err (damaged at)

abbrev pub with_name : Result (List ℕ) Refusal → Result (Half × Header) ℕ → Result Store Refusal
with_name (Ok name) half = with_half name half
with_name (Err refusal) half = Err refusal

-- an image of a store's size, by its head and the header page of each half
abbrev pub judged : List ℕ → Result Store Refusal
judged image =
    let h = half_len (length image) in
    with_name (name_in (length image) (take 39 image)) (picked h (half_in h (part image page_bytes page_bytes)) (half_in h (part image (page_bytes + h) page_bytes)))

-- the store that an image is, or the first refusal
unfoldable pub active_of : List ℕ → Result Store Refusal
active_of image = if is_store_size (length image) then judged image else Err not_a_store
