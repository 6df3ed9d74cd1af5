-- All places of a node serve alike.
use Rattle.std.specs.Prelude.{◌≡◌, List}
use Rattle.std.specs.List.{All}
use Rattle.session_commands.specs.Settings.{Settings}
use Rattle.drda_node.specs.declared.slot.Slot.{Slot}

abbrev pub ServesWith : Settings → Slot → Type 0
ServesWith settings place = place.front.settings ≡ settings

abbrev pub AllServe : Settings → List Slot → Type 0
AllServe settings places = All (ServesWith settings) places
