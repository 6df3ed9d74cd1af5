use Rattle.std.proofs.Common.{Bool, List, Some, None, ap, arith, refl, subst, sym, ◌∙◌, ℕ}
use Rattle.std.specs.Str.{IsUtf8}
use Rattle.unit_statements.specs.Sight.{within_claim}
use Rattle.unit_statements.proofs.Wanting.{asked_when, not_asked, one_only}
use Rattle.unit_statements.proofs.Claimed.{first_claimed}
use Rattle.unit_statements.proofs.wanted.wanted.Goals as goal

pub returns-in-Some-clause-claimed : goal.returns-in-Some-clause-claimed
returns-in-Some-clause-claimed c = first_claimed c.args.claims.now c.claim-item.result c.in-Ok.table.now (Some c.in-Some.key.now) c.in-len1.len_at_least c.claim-item.is (c.in-Ok.ensures.cases.0 ∙ c.table.ensures) c.in-Some.ensures

pub returns-in-None-clause-claimed : goal.returns-in-None-clause-claimed
returns-in-None-clause-claimed c = first_claimed c.args.claims.now c.claim-item.result c.in-Ok.table.now None c.in-len1.len_at_least c.claim-item.is (c.in-Ok.ensures.cases.0 ∙ c.table.ensures) c.in-None.ensures

pub returns-in_default-from_utf8-clause-exact : goal.returns-in_default-from_utf8-clause-exact
returns-in_default-from_utf8-clause-exact c =
    let one = one_only c.args.claims.now c.claim-item.result c.in-len1.len_at_least (omega (arith, c.in-len1.len_below)) c.claim-item.is in
    not_asked c.args.command.now c.args.claims.now c.claim-item.result one (λ utf8. c.in_default-from_utf8.ensures.cases.0 (subst (λ (t : List ℕ). IsUtf8 t) (sym c.table.ensures) utf8))

pub returns-in-Some-clause-exact : goal.returns-in-Some-clause-exact
returns-in-Some-clause-exact c =
    let one = one_only c.args.claims.now c.claim-item.result c.in-len1.len_at_least (omega (arith, c.in-len1.len_below)) c.claim-item.is in
    asked_when c.args.command.now c.args.claims.now c.claim-item.result c.in-Ok.table.now (Some c.in-Some.key.now) _ one
    (subst (λ (t : List ℕ). IsUtf8 t) c.table.ensures c.in-Ok.ensures.cases.1) (c.in-Ok.ensures.cases.0 ∙ c.table.ensures) c.in-Some.ensures refl

pub returns-in-None-clause-exact : goal.returns-in-None-clause-exact
returns-in-None-clause-exact c =
    let one = one_only c.args.claims.now c.claim-item.result c.in-len1.len_at_least (omega (arith, c.in-len1.len_below)) c.claim-item.is in
    asked_when c.args.command.now c.args.claims.now c.claim-item.result c.in-Ok.table.now None _ one
    (subst (λ (t : List ℕ). IsUtf8 t) c.table.ensures c.in-Ok.ensures.cases.1) (c.in-Ok.ensures.cases.0 ∙ c.table.ensures) c.in-None.ensures
    (ap (λ (b : Bool). within_claim b c.in-Ok.table.now None) (sym c.looks_through.ensures ∙ c.if-looks_through.true))
