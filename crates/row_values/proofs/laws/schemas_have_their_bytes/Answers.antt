use Rattle.row_values.proofs.ByteLaws.{schema_back, schema_is}
use Rattle.row_values.proofs.laws.schemas_have_their_bytes.Goals as goal

pub returns : goal.returns
returns c = record {
  written = schema_back;
  read = λ bytes x all h. let r = schema_is bytes x all h in (r.0, r.1);
}
