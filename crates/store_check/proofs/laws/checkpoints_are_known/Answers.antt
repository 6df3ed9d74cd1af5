use Rattle.store_check.proofs.Checkpoints.{is_store_there, none_there, one_store, store_framed}
use Rattle.store_check.specs.Checkpoint.{forms}
use Rattle.store_check.proofs.laws.checkpoints_are_known.Goals as goal

pub returns-clause-one : goal.returns-clause-one
returns-clause-one c = one_store c.one_whole_half.ensures

pub returns-clause-sound : goal.returns-clause-sound
returns-clause-sound c = λ image half store here has bad. c.whole_half_is_not_bad.ensures forms image half here has.tables has.whole bad

pub returns-clause-stores : goal.returns-clause-stores
returns-clause-stores c = is_store_there c.forms_keep_order.ensures.values c.rows_have_their_forms.ensures

pub returns-clause-framed : goal.returns-clause-framed
returns-clause-framed c = store_framed

pub returns-clause-none : goal.returns-clause-none
returns-clause-none c = none_there
