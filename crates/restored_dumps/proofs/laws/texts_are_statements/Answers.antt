use Rattle.restored_dumps.proofs.Texts.{text_same}
use Rattle.restored_dumps.proofs.laws.texts_are_statements.Goals as goal

pub returns : goal.returns
returns c = text_same
