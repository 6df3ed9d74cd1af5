use Rattle.std.proofs.Common.{◌≡◌, ◌<◌, true, length, slice_index, ◌∙◌, arith, rules}
use Rattle.std.proofs.lemmas.List.{take_rest}
use Rattle.std.proofs.lemmas.Grind.{common_steps}
use Rattle.sql_lex.specs.Tokens.{is_blank}
use Rattle.sql_lex.proofs.Ahead.{ahead-goes}
use Rattle.sql_lex.proofs.cursor.skip_blanks.Goals as goal

pub loop-text-preserved : goal.loop-text-preserved
loop-text-preserved c =
    let z = c.loop-text.text.now in
    let some : 0 < length z = omega arith in
    let blank : is_blank (slice_index z 0) ≡ true = first_of (cc, search rules, grind (arith, common_steps)) in
    (rw (take_rest z 1) (ahead-goes c.args.markers z some blank ∙ c.loop-text.invariant.0), search rules)
