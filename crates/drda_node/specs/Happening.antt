-- What an event does to the machine, and the records that answer it.
use Rattle.std.specs.Prelude.{◌≡◌, ◌⊎◌, ℕ, ◌+◌, ◌<◌, ◌^◌, Bool, true, false, List, [], ◌∷◌, ◌++◌, Option, Some, None, slice_get, if◌then◌else◌}
use Rattle.half_store.specs.declared.header.Layout.TheVariants.{Two}
use Rattle.durable_core.specs.declared.checkpointing.Checkpointed.{Checkpointed}
use Rattle.durable_core.specs.declared.checkpointing.Checkpointed.TheVariants.{Closed, DeviceFailed, Done, Full, NoMemory}
use Rattle.drda_node.specs.Asking.{AskedCore}
use Rattle.drda_node.specs.Machine.{Conversation, Machine, opened, lost}
use Rattle.drda_node.specs.Hearing.{Attended, attended, attended_at, Hears, HearsAt}
use Rattle.drda_node.specs.Records.{record_text, Event, opens, sends, loses, checkpoints}

-- ---- the records that go out

-- 06: the event was refused: 01 its number can't be opened, 02 it is not open, 03 2^64 - 1 conversations were opened before
abbrev pub refusal : ℕ → ℕ → List ℕ
refusal number reason = record_text 6 number (reason ∷ [])

-- 05: the conversation is closed
abbrev pub closing : ℕ → Bool → List ℕ
closing number is_closed = if is_closed then record_text 5 number [] else []

-- ---- events

-- by what stands at the place of that number: nothing past the last place; or it is free, or taken
abbrev pub OpensAt : Option (Option Conversation) → Machine → ℕ → List ℕ → Machine → Type 0
OpensAt None machine number written new = (written ≡ refusal number 1) × (new ≡ machine)
OpensAt (Some (Some conversation)) machine number written new = (written ≡ refusal number 1) × (new ≡ machine)
OpensAt (Some None) machine number written new =
    ((machine.given + 1 < 2 ^ 64) × (written ≡ record_text 1 number []) × (new ≡ opened machine number))
    ⊎ ((machine.given + 1 ≡ 2 ^ 64) × (written ≡ refusal number 3) × (new ≡ machine))

-- the replies of a conversation to bytes that came, and whether it is closed then
pub record Replies (before : Conversation) (machine : Machine) (number : ℕ) (bytes written : List ℕ) (new : Machine) : Type 0 where
  pub replies : List ℕ
  pub after : Attended
  pub hears : Hears machine.settings number (attended machine before) bytes replies after
  pub written_is : written ≡ record_text 2 number replies ++ closing number after.standing.session.is_closed
  pub row : new ≡ attended_at machine number after

abbrev pub SendsAt : Option (Option Conversation) → Machine → ℕ → List ℕ → List ℕ → Machine → Type 0
SendsAt None machine number bytes written new = (written ≡ refusal number 2) × (new ≡ machine)
SendsAt (Some None) machine number bytes written new = (written ≡ refusal number 2) × (new ≡ machine)
SendsAt (Some (Some before)) machine number bytes written new = Replies before machine number bytes written new

abbrev pub LosesAt : Option (Option Conversation) → Machine → ℕ → List ℕ → Machine → Type 0
LosesAt None machine number written new = (written ≡ refusal number 2) × (new ≡ machine)
LosesAt (Some None) machine number written new = (written ≡ refusal number 2) × (new ≡ machine)
LosesAt (Some (Some conversation)) machine number written new = (written ≡ record_text 3 number []) × (new ≡ lost machine number)

-- 00: it is written; 01: a half is too short for it; 02: no memory; 03: the device failed, now or before
abbrev pub code_of : Checkpointed → ℕ
code_of Done = 0
code_of (Full need room) = 1
code_of NoMemory = 2
code_of DeviceFailed = 3
code_of Closed = 3

-- what a checkpoint makes of a core: once it is written, layout 2 and the room that it leaves; where the device fails in it, it has failed
abbrev pub IsCheckpointed : Checkpointed → AskedCore → AskedCore → Type 0
IsCheckpointed Done old new = (old.has_failed ≡ false) × ((room : ℕ) × (new ≡ record old { layout = Two; room = room }))
IsCheckpointed (Full need room) old new = (old.has_failed ≡ false) × (new ≡ old)
IsCheckpointed NoMemory old new = (old.has_failed ≡ false) × (new ≡ old)
IsCheckpointed DeviceFailed old new = (old.has_failed ≡ false) × (new ≡ record old { has_failed = true })
IsCheckpointed Closed old new = (old.has_failed ≡ true) × (new ≡ old)

-- a checkpoint of the machine, whose number is given back
pub record CheckpointsAs (machine : Machine) (number : ℕ) (written : List ℕ) (new : Machine) : Type 0 where
  pub told : Checkpointed
  pub core : AskedCore
  pub is_checkpointed : IsCheckpointed told machine.core core
  pub written_is : written ≡ record_text 4 number (code_of told ∷ [])
  pub rest : new ≡ record machine { core = core }

-- From this machine the event makes this machine, and is answered by these records. A conversation's
-- number is its place in the row. By a checkpoint only the core changes: its layout and room, or that the device has failed.
abbrev pub Happens : Machine → Event → List ℕ → Machine → Type 0
Happens machine (opens number) written new = OpensAt (slice_get machine.row number) machine number written new
Happens machine (sends number bytes) written new = SendsAt (slice_get machine.row number) machine number bytes written new
Happens machine (loses number) written new = LosesAt (slice_get machine.row number) machine number written new
Happens machine (checkpoints number) written new = CheckpointsAs machine number written new

-- events in order, and their answers one after the other
abbrev pub HappenAll : Machine → List Event → List ℕ → Machine → Type 0
HappenAll machine [] written last = (written ≡ []) × (last ≡ machine)
HappenAll machine (event ∷ events) written last =
    (first others : List ℕ) × (next : Machine) × Happens machine event first next × (written ≡ first ++ others) × HappenAll next events others last

-- ---- where memory is refused

-- a prefix of the bytes that an event sends is heard
abbrev pub SendsPart : Machine → Event → Machine → Type 0
SendsPart machine (opens number) new = ⊥
SendsPart machine (sends number bytes) new = (heard rest replies : List ℕ) × (after : Attended) × (bytes ≡ heard ++ rest) × HearsAt machine number heard replies after new
SendsPart machine (loses number) new = ⊥
SendsPart machine (checkpoints number) new = ⊥

-- an event that is not answered, as memory was refused: it does nothing, or all that it does, or a prefix of its bytes is heard
abbrev pub BreaksOff : Machine → Event → Machine → Type 0
BreaksOff machine event new = (new ≡ machine) ⊎ (((written : List ℕ) × Happens machine event written new) ⊎ SendsPart machine event new)
