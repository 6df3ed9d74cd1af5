use Rattle.std.proofs.Common.{refl}
use Rattle.store_check.proofs.laws.whole_is_stored.Goals as goal

pub returns : goal.returns
returns c schema key_of file at count pages is = record { stand = is.whole.stand; some = is.whole.some; first = refl; order = is.whole.order }
