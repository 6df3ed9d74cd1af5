use Rattle.paged_tables.proofs.KeyBytes.{rows_formed}
use Rattle.paged_tables.proofs.laws.rows_stand_at_their_forms.Goals as goal

pub returns : goal.returns
returns c = rows_formed c.rows_have_values_and_keys.ensures.values c.rows_have_values_and_keys.ensures.keys c.rows_have_their_forms.ensures
