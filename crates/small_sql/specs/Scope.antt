-- What of its table a bound statement works on.
use Rattle.std.specs.Prelude.{ℕ, List, Option, Some, None}
use Rattle.sql_semantics.specs.Scope.{Scope, Names, All, One}
use Rattle.small_sql.specs.declared.scope.Scope.{Scope as CodeScope}
use Rattle.small_sql.specs.declared.scope.Scope.TheVariants as code

abbrev pub scope_of : CodeScope → Scope
scope_of code.Names = Names
scope_of code.All = All
scope_of (code.One key) = One key.bytes.items

-- the key, where it is one row
abbrev pub key_in : Scope → Option (List ℕ)
key_in Names = None
key_in All = None
key_in (One key) = Some key
