use Rattle.std.proofs.Common.{◌≡◌, ◌<◌, ◌≤◌, length, sym, ◌∙◌, ap, arith, rules}
use Rattle.std.proofs.lemmas.List.{take_rest}
use Rattle.sql_lex.specs.Tokens.{token, tokens_ahead, counted}
use Rattle.sql_lex.proofs.Ahead.{ahead-none, ahead-next}
use Rattle.sql_lex.proofs.Numbered.{counts_on}
use Rattle.sql_lex.proofs.cursor.Cursor.next.Goals as goal

pub returns-clause-token : goal.returns-clause-token
returns-clause-token c =
    let m = c.self.inside.markers in
    let z = c.skip_blanks-text.result.now in
    let view : c.args.self.now ≡ (m, c.self.inside.text.now) = first_of (cc, search rules) in
    let some : 0 < length z = first_of (omega arith, search rules) in
    let moves : 1 ≤ (token m z).1 = rw (← c.token-token.ensures.value) c.token-token.ensures.within.0 in
    ap tokens_ahead view ∙ sym c.skip_blanks-text.ensures.rest
    ∙ rw (take_rest z c.token-token.result.1, c.counted-markers.ensures, c.token-token.ensures.value) (ahead-next m z c.skip_blanks-text.ensures.stops some moves)

pub returns-then-is_empty-clause-token : goal.returns-then-is_empty-clause-token
returns-then-is_empty-clause-token c =
    let view : c.args.self.now ≡ (c.self.inside.markers, c.self.inside.text.now) = first_of (cc, search rules) in
    let none : length c.skip_blanks-text.result.now ≡ 0 = first_of (omega arith, search rules) in
    ap tokens_ahead view ∙ sym c.skip_blanks-text.ensures.rest ∙ ahead-none _ _ none

pub returns-clause-markers : goal.returns-clause-markers
returns-clause-markers c =
    let view : c.args.self.now ≡ (c.self.inside.markers, c.self.inside.text.now) = first_of (cc, search rules) in
    counts_on _ _ c.token-token.result.0 _ (returns-clause-token c) (c.counted-markers.ensures ∙ ap (λ x. counted c.token-token.result.0 x.0) (sym view))
