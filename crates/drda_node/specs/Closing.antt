-- What closes a conversation of the machine.
use Rattle.std.specs.Prelude.{◌≡◌, ◌⊎◌, ℕ, true, false, List, ◌++◌}
use Rattle.dss_frames.specs.Dss.{Dss}
use Rattle.dss_frames.specs.Reading.{ReadsAs, faulty}
use Rattle.dss_frames.specs.declared.fault.FrameFault.{FrameFault}
use Rattle.session_commands.specs.Settings.{Settings}
use Rattle.conversation.specs.Standing.{Standing}
use Rattle.conversation.specs.Done.{Does}
use Rattle.drda_node.specs.Asking.{AskedCore, asks}
use Rattle.drda_node.specs.Hearing.{Attended, Hears}

-- A command closes its conversation, by AGNPRMRM, only where the device has failed, in this call or before it: an answer that
-- belongs to another call is no way to it.
abbrev pub OnlyFailedDevicesClose : Type 0
OnlyFailedDevicesClose =
    (settings : Settings) (place : ℕ) (s next : Standing AskedCore) (command : List Dss) (bytes : List ℕ)
    → Does (asks place) settings s command bytes next → next.session.is_closed ≡ true → next.asked.has_failed ≡ true

-- the text that a conversation has heard ends at a fault of the framing
pub record IsFaulty (text : List ℕ) : Type 0 where
  pub commands : List (List Dss)
  pub fault : FrameFault
  pub reads : ReadsAs text commands (faulty fault)

-- so of all bytes that a conversation hears those close it that end at such a fault, or the device has failed
abbrev pub OnlyFaultsClose : Type 0
OnlyFaultsClose =
    (settings : Settings) (place : ℕ) (before after : Attended) (bytes replies : List ℕ)
    → Hears settings place before bytes replies after → before.standing.session.is_closed ≡ false → after.standing.session.is_closed ≡ true
    → IsFaulty (before.rest ++ bytes) ⊎ (after.standing.asked.has_failed ≡ true)
