use Rattle.std.proofs.Common.{◌≡◌, ℕ, List, ap, rules, ◌∙◌}
use Rattle.std.proofs.lemmas.Result.{IfOk-weaker}
use Rattle.std.specs.String.{string_bytes}
use Rattle.sql_semantics.specs.Scope.{scope_claims}
use Rattle.small_sql.specs.Scope.{scope_of}
use Rattle.small_sql.proofs.Claiming.{claimed}
use Rattle.small_sql.proofs.claim.claims.Goals as goal

pub returns : goal.returns
returns c =
    let named : c.as_str.result.now ≡ string_bytes c.args.bound.now.table = search rules in
    IfOk-weaker c.scope_claimed.result _ _
    (λ claims is params cmd s bound over. is ∙ ap (λ (n : List ℕ). scope_claims c.args.bound.now.access n (scope_of c.args.bound.now.scope)) named ∙ claimed c.args.bound.now params cmd s bound over)
    c.scope_claimed.ensures
