-- Which conversation is meant: a place, and the number that was given to the one that stands there.
use Rattle.std.specs.Prelude.{◌≡◌, ℕ, ◌+◌, ◌<◌, ◌^◌, List, map, Option, Some, None, slice_get, slice_set, if◌then◌else◌}
use Rattle.recovery.specs.Journaled.{OnDisk}
use Rattle.drda_node.specs.declared.node.Node.{Node}
use Rattle.drda_node.specs.declared.slot.Slot.{Slot}
use Rattle.drda_node.specs.declared.node.ConversationId.{ConversationId}
use Rattle.drda_node.specs.Asking.{asked_after}
use Rattle.drda_node.specs.Machine.{Conversation, Machine, IsOpen, opened}
use Rattle.drda_node.specs.Feeding.{shown_held}

abbrev pub shown : Slot → Option Conversation
shown place = if place.is_open then Some (shown_held place.front) else None

-- the core that its conversations ask
abbrev pub core_in : {D : Type 0} {d : _} → Node D d → OnDisk D
core_in node = node.core

-- the machine that a node is
abbrev pub machine : {D : Type 0} {d : _} → Node D d → Machine
machine {D} {d} node = record {
  settings = node.settings;
  row = map shown node.places.items;
  given = node.next_number;
  core = asked_after d.is_modelled node.calls.listed (core_in node);
}

abbrev pub number_of : Slot → ℕ
number_of place = place.number

-- the number that was last given at each place
abbrev pub numbers : {D : Type 0} {d : _} → Node D d → List ℕ
numbers node = map number_of node.places.items

abbrev pub place_of : ConversationId → ℕ
place_of id = id.place

-- the conversation that this was given for is open
pub record Names (machine : Machine) (numbers : List ℕ) (id : ConversationId) : Type 0 where
  pub is_there : IsOpen machine id.place
  pub number : slice_get numbers id.place ≡ Some id.number

-- A free place was opened, under the next number. Numbers rise, so none is ever given twice.
pub record Opens (old : Machine) (before : List ℕ) (id : ConversationId) (new : Machine) (after : List ℕ) : Type 0 where
  pub free : slice_get old.row id.place ≡ Some None
  pub left : old.given + 1 < 2 ^ 64
  pub row : new ≡ opened old id.place
  pub number : id.number ≡ old.given
  pub numbers : after ≡ slice_set before id.place id.number
