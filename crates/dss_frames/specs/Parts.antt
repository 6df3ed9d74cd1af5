-- The types of DSSs, by the low four bits of the format byte.
use Rattle.std.specs.Prelude.{ℕ, ◌==◌, Option, Some, None, if◌then◌else◌}
use Rattle.dss_frames.specs.declared.format.DssType.{DssType}
use Rattle.dss_frames.specs.declared.format.DssType.TheVariants.{Request, Reply, Object}
use Rattle.dss_frames.specs.Format.{type_of}

abbrev pub dss_type_of : ℕ → Option DssType
dss_type_of format =
    if type_of format == 1 then Some Request else (if type_of format == 2 then Some Reply else (if type_of format == 3 then Some Object else None))
