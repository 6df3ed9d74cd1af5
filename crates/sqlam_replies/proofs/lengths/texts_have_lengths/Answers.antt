use Rattle.sqlam_replies.proofs.TextLengths.{card_length, description_length, message_length, null_length}
use Rattle.sqlam_replies.proofs.lengths.texts_have_lengths.Goals as goal

pub returns-clause-sqlcard : goal.returns-clause-sqlcard
returns-clause-sqlcard c = λ code state count five. card_length code state count five

pub returns-clause-null : goal.returns-clause-null
returns-clause-null c = null_length

pub returns-clause-sqldard : goal.returns-clause-sqldard
returns-clause-sqldard c = λ unicode columns all. description_length unicode columns all

pub returns-clause-message : goal.returns-clause-message
returns-clause-message c = λ message all. message_length message all
