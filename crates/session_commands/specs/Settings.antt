-- What a server is started with.
use Rattle.std.specs.Prelude.{ℕ, Bool, ◌&&◌, nat_le, List, length}
use Rattle.std.specs.List.{list_all}

-- the one user that may connect, that user's password, and the name of the database; all as text
pub record Settings : Type 0 where
  pub user : List ℕ
  pub password : List ℕ
  pub rdb : List ℕ

-- a printable character of ASCII other than the blank
abbrev pub is_printable : ℕ → Bool
is_printable b = nat_le 0x21 b && nat_le b 0x7E

-- a database's name: 1 to 18 printable ASCII characters without blanks
abbrev pub is_rdb_name : List ℕ → Bool
is_rdb_name name = nat_le 1 (length name) && (nat_le (length name) 18 && list_all is_printable name)
