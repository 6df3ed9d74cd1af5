-- How far a conversation has come towards the database.
use Rattle.std.specs.Prelude.{Bool, false, true}
use Rattle.drda_commands.specs.declared.stage.Stage.{Stage}
use Rattle.drda_commands.specs.declared.stage.Stage.TheVariants.{Fresh, Known, MechanismChosen, Checked, Opened}

-- the user was checked
abbrev pub is_checked : Stage → Bool
is_checked Fresh = false
is_checked Known = false
is_checked (MechanismChosen mechanism) = false
is_checked Checked = true
is_checked Opened = true

-- the database is open
abbrev pub is_opened : Stage → Bool
is_opened Fresh = false
is_opened Known = false
is_opened (MechanismChosen mechanism) = false
is_opened Checked = false
is_opened Opened = true
