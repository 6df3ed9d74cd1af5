-- XID data (DRDA V5 volume 3, XID; C193 chapter 4, "Transaction Identification"): a format
-- number, the lengths of the two parts, four bytes each, then the global transaction identifier and
-- the branch qualifier. Format -1 (FFFFFFFF) is the null XID, which names no branch.
use Rattle.std.specs.Prelude.{◌≡◌, ◌<◌, ◌≤◌, ℕ, ◌+◌, ◌-◌, ◌^◌, Bool, ◌&&◌, nat_le, nat_lt, List, ◌++◌, length, take, replicate, Option, Some, None, if◌then◌else◌}
use Rattle.std.specs.Int.{w32, to_be_bytes, from_be_bytes}
use Rattle.std.proofs.Common.{drop, arith, take-append-drop, length-take-le}
use Rattle.drda_words.specs.Place.{part}

-- what an XID says
pub record Parts : Type 0 where
  pub format : ℕ
  pub global : List ℕ
  pub branch : List ℕ

-- the bytes that write it
abbrev pub wire : Parts → List ℕ
wire p =
    to_be_bytes w32 p.format ++ (to_be_bytes w32 (length p.global) ++ (to_be_bytes w32 (length p.branch) ++ (p.global ++ p.branch)))

-- not the null XID; a global part of 1 to 64 bytes, a branch part of at most 64
pub record AreParts (p : Parts) : Type 0 where
  pub not_null : p.format < 2 ^ 32 - 1
  pub some_global : 1 ≤ length p.global
  pub short_global : length p.global ≤ 64
  pub short_branch : length p.branch ≤ 64

-- the bytes of an XID, and no more
abbrev pub IsXid : List ℕ → Type 0
IsXid bytes = (p : Parts) × AreParts p × (bytes ≡ wire p)

-- a text goes on after an XID's bytes
abbrev pub BeginsWith : List ℕ → List ℕ → Type 0
BeginsWith text bytes = (rest : List ℕ) × (text ≡ bytes ++ rest)

-- ---- reading

-- the number in the four bytes at a place
abbrev pub number_at : List ℕ → ℕ → ℕ
number_at text at = from_be_bytes w32 (part text at 4)

-- what the bytes of an XID say
abbrev pub parts_of : List ℕ → Parts
parts_of text = record {
  format = number_at text 0;
  global = part text 12 (number_at text 4);
  branch = part text (12 + number_at text 4) (number_at text 8);
}

-- how many bytes the XID has that a text begins with
abbrev pub xid_length : List ℕ → ℕ
xid_length text = 12 + number_at text 4 + number_at text 8

-- a text begins with an XID
abbrev pub begins_with_xid : List ℕ → Bool
begins_with_xid text =
    nat_le 12 (length text) && (nat_lt (number_at text 0) (2 ^ 32 - 1) && (nat_le 1 (number_at text 4)
    && (nat_le (number_at text 4) 64 && (nat_le (number_at text 8) 64 && nat_le (xid_length text) (length text)))))

-- the bytes of the XID that a text begins with; what follows them is skipped
abbrev pub xid_in : List ℕ → Option (List ℕ)
xid_in text = if begins_with_xid text then Some (take (xid_length text) text) else None

-- ---- in memory

-- the n bytes of an XID, and zeros after them up to 140
pub record IsPadded (cells : List ℕ) (n : ℕ) : Type 0 where
  pub whole : xid_in (take n cells) ≡ Some (take n cells)
  pub used : n ≤ 140
  pub size : length cells ≡ 140
  pub zeros : drop n cells ≡ replicate (140 - n) 0

-- as many bytes as are used
pub length-take_padded : (cells : List ℕ) (n : ℕ) → IsPadded cells n → length (take n cells) ≡ n
length-take_padded cells n h = length-take-le n cells (omega (arith, h.used, h.size))

-- the bytes that are used give the cells back
pub padded-take : (cells : List ℕ) (n : ℕ) → IsPadded cells n → take n cells ++ replicate (140 - length (take n cells)) 0 ≡ cells
padded-take cells n h =
    rw (length-take_padded cells n h, ← h.zeros) (take-append-drop n cells)
