use Rattle.std.proofs.Common.{find, ap, ◌∙◌}
use Rattle.sql_lex.specs.Terminal.{words}
use Rattle.sql_lex.specs.Tokens.{is_spelled}
use Rattle.sql_lex.proofs.Words.{found_by_length}
use Rattle.sql_lex.proofs.cut.word.Goals as goal

pub returns : goal.returns
returns c =
    let y = c.args.text.now in
    c.spelled_among.ensures ∙ ap (find (is_spelled y)) c.words_of.ensures ∙ found_by_length y words
