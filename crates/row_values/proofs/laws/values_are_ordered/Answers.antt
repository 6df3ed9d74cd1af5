use Rattle.row_values.proofs.KeyOrder.{value_cmp_total, value_exact}
use Rattle.row_values.proofs.laws.values_are_ordered.Goals as goal

pub returns : goal.returns
returns c = (value_cmp_total, value_exact)
