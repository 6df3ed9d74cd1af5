-- The length in front of a segment (DRDA V5 volume 3, DSS): two bytes, the high one first.
use Rattle.std.specs.Prelude.{ℕ, ◌%◌, Bool, nat_le}
use Rattle.drda_words.specs.Number.{word}

-- the high bit says that a continuation follows
abbrev pub is_continued : ℕ → ℕ → Bool
is_continued high low = nat_le 32768 (word high low)

-- the other fifteen count the bytes of the segment, those of its header among them
abbrev pub segment_length : ℕ → ℕ → ℕ
segment_length high low = word high low % 32768

-- no DSS may declare more bytes than these, in all its segments and with their headers
abbrev pub dss_limit : ℕ
dss_limit = 1048576
