-- The values of SYNERRCD. DRDA V5 volume 3 (DDM), SYNERRCD.
use Rattle.std.specs.Prelude.{ℕ}
use Rattle.ddm_objects.specs.declared.fault.ObjFault.{ObjFault}
use Rattle.ddm_objects.specs.declared.fault.ObjFault.TheVariants.{LengthBelowFour, PastContainer, ExtendedLength}

abbrev pub syntax_error_code : ObjFault → ℕ
syntax_error_code LengthBelowFour = 0x07
syntax_error_code PastContainer = 0x08
syntax_error_code ExtendedLength = 0x0C
