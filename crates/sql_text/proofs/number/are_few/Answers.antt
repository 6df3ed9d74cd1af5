use Rattle.std.proofs.Common.{◌≤◌, length, arith, rules}
use Rattle.std.proofs.lemmas.Bool.Decides.{nat_tests}
use Rattle.drda_words.specs.Bytes.{AreBytes}
use Rattle.sql_text.proofs.Limits.{few}
use Rattle.sql_text.proofs.number.are_few.Goals as goal

pub returns : goal.returns
returns c h =
    let bytes : AreBytes c.args.digits.now = search rules in
    let short : length c.args.digits.now ≤ 17 = grind (arith, nat_tests) in
    few c.args.digits.now bytes short
