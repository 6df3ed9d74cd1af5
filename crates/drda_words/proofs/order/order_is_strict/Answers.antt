use Rattle.drda_words.proofs.Strict.{never, onward, compared}
use Rattle.drda_words.proofs.order.order_is_strict.Goals as goal

pub returns : goal.returns
returns c = record { never_itself = never; goes_on = onward; one_way = compared }
