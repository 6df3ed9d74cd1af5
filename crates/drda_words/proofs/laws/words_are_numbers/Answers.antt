use Rattle.drda_words.proofs.Number.{word_is}
use Rattle.drda_words.proofs.laws.words_are_numbers.Goals as goal

pub returns : goal.returns
returns c = word_is
