-- The bytes of a part of a text, wherever they lie.
use Rattle.std.specs.Prelude.{ℕ, List}
use Rattle.sql_lex.specs.declared.part.Bytes.{Bytes}
use Rattle.sql_lex.specs.declared.part.Bytes.TheVariants as lie

abbrev pub bytes_in : Bytes → List ℕ
bytes_in (lie.Lent bytes) = bytes.now
bytes_in (lie.Kept bytes) = bytes.items
