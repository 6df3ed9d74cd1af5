use Rattle.std.proofs.Common.{◌≡◌, ◌≤◌, length, ap, ◌∙◌, arith}
use Rattle.std.proofs.lemmas.Bool.{false≢true}
use Rattle.std.specs.String.{string_bytes}
use Rattle.sql_lex.specs.Spelling.{capitals}
use Rattle.sql_predicates.proofs.Texts.{is_table, no_table, told}
use Rattle.sql_predicates.proofs.name.table_name.Goals as goal

pub returns-in-Ok : goal.returns-in-Ok
returns-in-Ok c =
    let same : string_bytes c.in-Ok.table ≡ c.in_ok-capitals.capitals.items = ap (λ v. v.items) c.in-Ok.ensures.ok in
    let e : string_bytes c.in-Ok.table ≡ capitals c.args.name.now = same ∙ c.in_ok-capitals.ensures.ok in
    let short : length (string_bytes c.in-Ok.table) ≤ 255 = omega (arith, ap length same) in
    is_table c.args.name.now (string_bytes c.in-Ok.table) e (told _ c.in-Ok.table.ok) short

pub returns-in-Err : goal.returns-in-Err
returns-in-Err c =
    c.new-in-Err.ensures.bytes ∙ no_table c.args.name.now c.in_ok-capitals.capitals.items c.in_ok-capitals.ensures.ok (λ u. absurd (false≢true (c.in-Err.ensures.succeeds u)))
