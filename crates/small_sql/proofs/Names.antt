-- Names of tables are short enough for a claim.
use Rattle.std.proofs.Common.{◌≡◌, ◌<◌, ◌^◌, ℕ, Bool, true, false, List, [], Option, Some, None, refl, arith}
use Rattle.std.specs.Prelude.{length, nat_le, unwrap_or, if◌then◌else◌}
use Rattle.std.specs.Option.{option_and_then}
use Rattle.std.proofs.lemmas.Bool.{leb-true}
use Rattle.row_values.specs.Row.{utf8_in}
use Rattle.sql_text.specs.Spelled.{capitals}
use Rattle.sql_semantics.specs.Values.{name_of, short_name}

by_length : (bytes : List ℕ) (b : Bool) → nat_le (length bytes) 255 ≡ b → length (unwrap_or (if b then Some bytes else None) []) < 2 ^ 8
by_length bytes true is = let few = leb-true (length bytes) 255 is in omega arith
by_length bytes false is = omega arith

short_by : (o : Option (List ℕ)) → length (unwrap_or (option_and_then short_name o) []) < 2 ^ 8
short_by None = omega arith
short_by (Some bytes) = by_length bytes (nat_le (length bytes) 255) refl

pub name_short : (spelled : List ℕ) → length (name_of spelled) < 2 ^ 8
unfolding name_of
name_short spelled = short_by (utf8_in (capitals spelled))
