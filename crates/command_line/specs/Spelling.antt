-- How an XID is spelled in words: its format number in decimal, and each of its two parts in hexadecimal digits, or as a hyphen where
-- it is empty. Digits are printed in lower case, and read in either.
use Rattle.std.specs.Prelude.{◌≡◌, ℕ, ◌-◌, ◌^◌, ◌&&◌, Bool, ◌==◌, nat_le, nat_lt, List, [], ◌∷◌, ◌++◌, length, Option, Some, None, Ok, bytes_eq, if◌then◌else◌, option_and_then}
use Rattle.std.specs.List.{position_or_len, before_first, after_first}
use Rattle.std.specs.Fmt.{decimal}
use Rattle.std.specs.Result.{result_unwrap_or}
use Rattle.std.specs.Str.Parse.{digits_value}
use Rattle.clap.specs.Words.{Text}
use Rattle.hex.specs.Hex.{decode_of, encode_lower}
use Rattle.drda_words.specs.Bytes.{AreBytes}
use Rattle.xa_calls.specs.Xid.{AreParts, Parts, parts_of, wire, xid_in}

-- ---- printing

-- a part: two digits a byte, in lower case
abbrev pub part_word : List ℕ → Text
part_word bytes = if length bytes == 0 then 45 ∷ [] else encode_lower bytes

-- the three words, with blanks between them
abbrev pub xid_text : List ℕ → Text
xid_text xid = decimal (parts_of xid).format ++ ((32 ∷ part_word (parts_of xid).global) ++ (32 ∷ part_word (parts_of xid).branch))

-- one word, with colons between its parts
abbrev pub xid_word : List ℕ → Text
xid_word xid = decimal (parts_of xid).format ++ ((58 ∷ part_word (parts_of xid).global) ++ (58 ∷ part_word (parts_of xid).branch))

-- ---- reading

-- the number of 32 bits that is printed so
abbrev pub format_in : Text → Option ℕ
format_in text = if nat_lt (digits_value 10 text) (2 ^ 32) && bytes_eq text (decimal (digits_value 10 text)) then Some (digits_value 10 text) else None

-- what pairs of digits say, and nothing of another text
abbrev pub bytes_said : Text → List ℕ
bytes_said text = result_unwrap_or (decode_of text) []

-- one byte at least
abbrev pub bytes_in : Text → Option (List ℕ)
bytes_in text = if length (bytes_said text) == 0 then None else Some (bytes_said text)

-- the bytes of a part: none by a hyphen
abbrev pub part_in : Text → Option (List ℕ)
part_in text = if bytes_eq text (45 ∷ []) then Some [] else bytes_in text

-- an XID has such parts
abbrev pub are_parts : Parts → Bool
are_parts p = nat_lt p.format (2 ^ 32 - 1) && (nat_le 1 (length p.global) && (nat_le (length p.global) 64 && nat_le (length p.branch) 64))

abbrev pub xid_of : Parts → Option (List ℕ)
xid_of p = if are_parts p then Some (wire p) else None

abbrev pub xid_with : Option ℕ → Option (List ℕ) → Option (List ℕ) → Option (List ℕ)
xid_with (Some format) (Some global) (Some branch) = xid_of (record { format = format; global = global; branch = branch })
xid_with format global branch = None

-- the XID that three words spell
abbrev pub xid_said : Text → Text → Text → Option (List ℕ)
xid_said format global branch = xid_with (format_in format) (part_in global) (part_in branch)

abbrev pub is_colon : ℕ → Bool
is_colon b = b == 58

-- what stands in front of the first colon of a text, and what stands behind it
abbrev pub split_at_colon : Text → Option (Text × Text)
split_at_colon text = if nat_lt (position_or_len is_colon text) (length text) then Some (before_first is_colon text, after_first is_colon text) else None

-- the XID that one word spells, with colons between its parts
abbrev pub xid_in_one : Text → Option (List ℕ)
xid_in_one text = option_and_then (λ (front : Text × Text). option_and_then (λ (rest : Text × Text). xid_said front.0 rest.0 rest.1) (split_at_colon front.1)) (split_at_colon text)

-- ---- laws

-- a word says these bytes of a part: a hyphen none, and else two digits in either case one byte
abbrev pub SaysPart : Text → List ℕ → Type 0
SaysPart word [] = word ≡ 45 ∷ []
SaysPart word (b ∷ bs) = decode_of word ≡ Ok (b ∷ bs)

-- the words are those of this XID
pub record Spells (format global branch : Text) (xid : List ℕ) : Type 0 where
  pub parts : Parts
  pub are : AreParts parts
  pub is_bytes : AreBytes parts.global × AreBytes parts.branch
  pub xid_is : xid ≡ wire parts
  pub format_is : format ≡ decimal parts.format
  pub global_is : SaysPart global parts.global
  pub branch_is : SaysPart branch parts.branch

-- what is read is spelled so
abbrev pub OnlyItsWordsAreRead : Type 0
OnlyItsWordsAreRead = (format global branch : Text) (xid : List ℕ) → xid_said format global branch ≡ Some xid → Spells format global branch xid

-- and what is spelled so is read: so words spell one XID at most
abbrev pub ItsWordsAreRead : Type 0
ItsWordsAreRead = (format global branch : Text) (xid : List ℕ) → Spells format global branch xid → xid_said format global branch ≡ Some xid

-- what is printed of an XID reads back to it
abbrev pub PrintedReadsBack : Type 0
PrintedReadsBack =
    (xid : List ℕ) → AreBytes xid → xid_in xid ≡ Some xid → xid_said (decimal (parts_of xid).format) (part_word (parts_of xid).global) (part_word (parts_of xid).branch) ≡ Some xid
