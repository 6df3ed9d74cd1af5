use Rattle.key_map.proofs.Values.{keys_keep_order, values_keep_order}
use Rattle.key_map.proofs.key_order.forms_keep_order.Goals as goal

pub returns-clause-values : goal.returns-clause-values
returns-clause-values c = values_keep_order

pub returns-clause-keys : goal.returns-clause-keys
returns-clause-keys c = keys_keep_order c.values_have_their_bytes.ensures.read c.keys_are_ordered.ensures.values
