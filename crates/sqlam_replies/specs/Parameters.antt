-- What a parameter in the code shows.
use Rattle.sqlam_replies.specs.declared.message.Parameter.{Parameter}
use Rattle.ddm_objects.specs.Objects.{Obj}

abbrev pub parameter_of : Parameter → Obj
parameter_of p = record { code = p.code; value = p.value.now }
