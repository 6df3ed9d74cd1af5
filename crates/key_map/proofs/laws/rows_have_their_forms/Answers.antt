use Rattle.key_map.proofs.RowForms as forms
use Rattle.key_map.proofs.laws.rows_have_their_forms.Goals as goal

pub returns : goal.returns
returns c = forms.rows_have_their_forms
