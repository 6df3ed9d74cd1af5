-- What closes a conversation that is served at a desk.
use Rattle.std.specs.Prelude.{◌≡◌, ◌⊎◌, ℕ, Bool, true, List}
use Rattle.drda_disk.specs.Disk.{Life}
use Rattle.dss_frames.specs.Dss.{Dss}
use Rattle.session_commands.specs.Settings.{Settings}
use Rattle.conversation.specs.Standing.{Standing}
use Rattle.conversation.specs.Done.{Does}
use Rattle.recovery.specs.Journaled.{OnDisk}
use Rattle.core_history.specs.declared.pass.Pass.{Pass}
use Rattle.core_history.specs.Books.{Told}
use Rattle.core_history.specs.Passes.{Knows}
use Rattle.shared_node.specs.Desks.{DeskAsks}
use Rattle.shared_node.specs.Locked.{UnderLock}

-- the pass is none that this book knows, or its core has failed
abbrev pub IsInVain : {D : Type 0} → Pass → Told D → Told D → Type 0
IsInVain pass found left = (Knows found pass → ⊥) ⊎ (left.core.is_failed ≡ true)

-- A command closes its conversation, by AGNPRMRM, only where the book that was found under the lock has failed by then, or does not
-- know the pass.
abbrev pub OnlyFailedCoresClose : {D : Type 0} → Bool → (D → Life) → (OnDisk D → Type 0) → Type 0
OnlyFailedCoresClose modelled life origin =
    (settings : Settings) (s next : Standing Pass) (command : List Dss) (bytes : List ℕ)
    → Does (DeskAsks modelled life origin) settings s command bytes next → next.session.is_closed ≡ true → UnderLock modelled life origin (IsInVain s.asked)
