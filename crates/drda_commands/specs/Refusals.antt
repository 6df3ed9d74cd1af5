-- What a SYNTAXRM tells by its SYNERRCD (DRDA V5 volume 3).
use Rattle.std.specs.Prelude.{ℕ}
use Rattle.ddm_objects.specs.Fault.{syntax_error_code}
use Rattle.drda_commands.specs.declared.refusal.SyntaxError.{SyntaxError}
use Rattle.drda_commands.specs.declared.refusal.SyntaxError.TheVariants.{InObject, BytesLeft, Missing, TooManyObjects, Twice, MalformedText}

abbrev pub synerrcd_for : SyntaxError → ℕ
synerrcd_for (InObject fault) = syntax_error_code fault
synerrcd_for BytesLeft = 0x0B
synerrcd_for Missing = 0x0E
synerrcd_for TooManyObjects = 0x0F
synerrcd_for Twice = 0x12
synerrcd_for MalformedText = 0x0B
