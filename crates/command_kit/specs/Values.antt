-- What reading a row by its descriptor answers.
use Rattle.std.specs.Prelude.{◌≡◌, List, Option, None, Some, Result, Ok, Err}
use Rattle.row_values.specs.Value.{Value}
use Rattle.fdoca.specs.declared.fault.DescriptorFault.{DescriptorFault}
use Rattle.fdoca.specs.declared.fault.DescriptorFault.TheVariants.{Malformed, TooManyFields, NoMemory}

-- the values that a descriptor and a row give, or that they give none
abbrev pub GivesValues : Option (List Value) → Result (List Value) DescriptorFault → Type 0
GivesValues found (Ok values) = found ≡ Some values
GivesValues found (Err Malformed) = found ≡ None
GivesValues found (Err TooManyFields) = found ≡ None
GivesValues found (Err NoMemory) = Unit {0}
