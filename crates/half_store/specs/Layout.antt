-- Where the parts of a store lie.
use Rattle.std.specs.Prelude.{ℕ, ◌+◌, ◌-◌, ◌*◌, ◌/◌, Bool, ◌&&◌, nat_le, List}
use Rattle.std.specs.List.{list_all}
use Rattle.drda_disk.specs.Layout.{page_bytes}
use Rattle.half_store.specs.declared.layout.Half.{Half}
use Rattle.half_store.specs.declared.layout.Half.TheVariants.{First, Second}

-- a store has 2 MiB to 1 GiB
abbrev pub is_store_size : ℕ → Bool
is_store_size size = nat_le 2097152 size && nat_le size 1073741824

-- the bytes of a half: whole pages, as many as there are twice behind the first page
unfoldable pub half_len : ℕ → ℕ
half_len size = page_bytes * ((size - page_bytes) / 16384)

-- the offset of a half
abbrev pub offset_of : ℕ → Half → ℕ
offset_of h First = page_bytes
offset_of h Second = page_bytes + h

-- the other one
abbrev pub other_than : Half → Half
other_than First = Second
other_than Second = First

-- printable ASCII other than the blank
abbrev pub is_printable : ℕ → Bool
is_printable b = nat_le 0x21 b && nat_le b 0x7E

abbrev pub are_printable : List ℕ → Bool
are_printable bytes = list_all is_printable bytes

abbrev pub is_name_len : ℕ → Bool
is_name_len n = nat_le 1 n && nat_le n 18
