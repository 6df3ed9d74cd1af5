use Rattle.std.proofs.Common.{◌≡◌, ◌≤◌, ◌<◌, length, min, ◌+◌, ◌-◌, ◌*◌, ◌^◌, get_or, arith, rules, refl, ◌∙◌, sym}
use Rattle.sql_text.specs.Number.{number_of}
use Rattle.sql_text.proofs.Limits.{goes_on, ended}
use Rattle.sql_predicates.proofs.number.magnitude.Goals as goal

pub loop-digit-init : goal.loop-digit-init
unfolding number_of
loop-digit-init c = record { same = refl; small = omega arith }

pub loop-digit-preserved : goal.loop-digit-preserved
loop-digit-preserved c =
    let i = c.loop-digit.digit-index in
    let below : i < length c.args.digits.now = omega arith in
    let next : min c.min-number.result (2 ^ 63 + 1) ≡ min (c.loop-digit.number * 10 + (get_or c.args.digits.now i 0 - 48)) (2 ^ 63 + 1) = first_of (omega arith, search rules) in
    record {
      same = goes_on (2 ^ 63 + 1) c.loop-digit.number c.min-number.result i c.args.digits.now below next ∙ c.loop-digit.invariant.same;
      small = omega arith;
    }

pub returns : goal.returns
returns c =
    let past : length c.args.digits.now ≤ c.loop-digit.digit-index = omega arith in
    let same = ended (2 ^ 63 + 1) c.loop-digit.number c.loop-digit.digit-index c.args.digits.now past c.loop-digit.invariant.small in
    sym same ∙ c.loop-digit.invariant.same
