use Rattle.row_values.proofs.KeyOrder.{key_by_values, key_cmp_total, key_exact, keys_are_short}
use Rattle.row_values.proofs.laws.keys_are_ordered.Goals as goal

pub returns : goal.returns
returns c = record { total = λ schema. (key_cmp_total schema, key_exact schema); values = key_by_values; short = keys_are_short }
