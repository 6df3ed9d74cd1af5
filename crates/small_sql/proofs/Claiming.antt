-- What a bound statement claims.
use Rattle.std.proofs.Common.{◌≡◌, ℕ, List, Option, ap, ◌∙◌}
use Rattle.std.specs.String.{string_bytes}
use Rattle.sql_text.specs.declared.tree.Command.{Command}
use Rattle.row_values.specs.Value.{Value}
use Rattle.row_values.specs.Schema.{Schema}
use Rattle.tables.specs.Tables.{Store, schema_of}
use Rattle.unit_locks.specs.declared.access.Access.{Access}
use Rattle.sql_semantics.specs.Frame.{claims_in}
use Rattle.sql_semantics.specs.Scope.{Scope, claims, scope_claims, statement_access, table_name}
use Rattle.small_sql.specs.Scope.{scope_of}
use Rattle.small_sql.specs.Bound.{IsBound, IsOver, bound_schema}
use Rattle.small_sql.specs.declared.bound.Bound.{Bound}

-- what its own access, table and scope claim is what the statement claims
pub claimed : (b : Bound) (params : List Value) (c : Command) (s : Store) → IsBound params c b → IsOver b s → scope_claims b.access (string_bytes b.table) (scope_of b.scope) ≡ claims_in params c s
unfolding claims
claimed b params c s is over =
    ap (λ (a : Access). scope_claims a (string_bytes b.table) (scope_of b.scope)) is.access
    ∙ ap (λ (n : List ℕ). scope_claims (statement_access c (bound_schema b)) n (scope_of b.scope)) is.table
    ∙ ap (λ (w : Scope). scope_claims (statement_access c (bound_schema b)) (table_name c) w) is.works_on
    ∙ ap (λ (o : Option Schema). claims params c o) (over ∙ ap (schema_of s) is.table)
