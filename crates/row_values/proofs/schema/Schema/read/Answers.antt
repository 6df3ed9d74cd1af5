-- The parts are a schema exactly where `new` takes them.
use Rattle.std.proofs.Common.{ap, refl, sym, Some, ◌∙◌, true≢false}
use Rattle.row_values.specs.Schema.{Schema}
use Rattle.row_values.proofs.ByteSteps.{no_schema, schema_error, schema_found}
use Rattle.row_values.proofs.schema.Schema.read.Goals as goal

pub returns-in-Err : goal.returns-in-Err
returns-in-Err c = schema_error c.args.bytes.now c.in-Err.error c.in-Err.ensures

pub returns-in-Ok-new : goal.returns-in-Ok-new
returns-in-Ok-new c =
    schema_found c.args.bytes.now _ c.in-Ok.ensures (c.in-Ok-new.ensures.only.0 refl) ∙ ap (λ (s : Schema). Some (s, c.in-Ok.parts.2.now)) (sym c.in-Ok-new.ensures.made)

pub returns-in-Err-new : goal.returns-in-Err-new
returns-in-Err-new c = no_schema c.args.bytes.now _ c.in-Ok.ensures (λ good. true≢false (sym (c.in-Err-new.ensures.only.1 good)))
