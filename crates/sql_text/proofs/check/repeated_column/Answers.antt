use Rattle.std.proofs.Common.{◌<◌, ◌∙◌, List, ℕ, ap, sym, arith, length, take}
use Rattle.std.specs.List.{list_any}
use Rattle.sql_text.specs.Checks.{same_name}
use Rattle.sql_text.proofs.Repeats.{repeats, goes_on}
use Rattle.sql_text.proofs.check.repeated_column.Goals as goal

pub returns-then-is_column : goal.returns-then-is_column
returns-then-is_column c =
    let z = c.args.columns.now in
    let at = c.loop-at.at in
    let x = c.index-columns-at.result in
    let below : at < length z = omega arith in
    let named = ap (λ (n : List ℕ). list_any (λ y. same_name y.name n) (take at z)) c.bytes.ensures in
    let e = sym named ∙ sym c.is_column.ensures ∙ c.if-is_column.true in
    repeats (λ y. y.name) (λ y. y.left) z at x below c.index-columns-at.is e ∙ c.loop-at.invariant.same

pub loop-at-preserved : goal.loop-at-preserved
loop-at-preserved c =
    let z = c.args.columns.now in
    let at = c.loop-at.at in
    let x = c.index-columns-at.result in
    let below : at < length z = omega arith in
    let named = ap (λ (n : List ℕ). list_any (λ y. same_name y.name n) (take at z)) c.bytes.ensures in
    let e = sym named ∙ sym c.is_column.ensures ∙ c.if-is_column.false in
    record { same = goes_on (λ y. y.name) (λ y. y.left) z at x below c.index-columns-at.is e ∙ c.loop-at.invariant.same }
