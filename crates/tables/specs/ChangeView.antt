-- What a change is.
use Rattle.tables.specs.declared.change.Change.{Change as CodeChange}
use Rattle.tables.specs.Change.{Change, action_of}

abbrev pub change_of : CodeChange → Change
change_of change = action_of change.action
