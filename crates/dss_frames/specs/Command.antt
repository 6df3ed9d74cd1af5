-- Commands (DRDA V5 volume 3, DSS): a request DSS, then object DSSs as long as the DSS before is
-- chained and says that the next one has its correlator.
use Rattle.std.specs.Prelude.{◌≡◌, ℕ, Bool, false, ◌&&◌, ◌==◌, List, [], ◌∷◌, IsTrue, if◌then◌else◌}
use Rattle.dss_frames.specs.declared.turn.Turn.{Turn}
use Rattle.dss_frames.specs.declared.turn.Turn.TheVariants.{Request, Object, Nothing}
use Rattle.dss_frames.specs.Format.{is_request, is_object, is_supported, is_paired, has_objects}
use Rattle.dss_frames.specs.Dss.{Dss, AreDsss}

-- a DSS of this format and correlator may come in this turn
abbrev pub is_due : Turn → ℕ → ℕ → Bool
is_due Request format correlator = is_request format
is_due (Object expected) format correlator = is_object format && (correlator == expected)
is_due Nothing format correlator = false

-- whose turn it is then
abbrev pub turn_after : ℕ → ℕ → Turn
turn_after format correlator = if has_objects format then Object correlator else Nothing

-- a DSS that may come in this turn, and that a requester may send
pub record Admits (turn : Turn) (dss : Dss) : Type 0 where
  pub supported : IsTrue (is_supported dss.format)
  pub paired : IsTrue (is_paired dss.format)
  pub due : IsTrue (is_due turn dss.format dss.correlator)

-- each of the DSSs comes in its turn, and it is the turn of `last` then
abbrev pub InTurn : Turn → List Dss → Turn → Type 0
InTurn turn [] last = turn ≡ last
InTurn turn (dss ∷ dsss) last = Admits turn dss × InTurn (turn_after dss.format dss.correlator) dsss last

-- the bytes are one whole command, of these DSSs
abbrev pub IsCommand : List ℕ → List Dss → Type 0
IsCommand bytes dsss = AreDsss bytes dsss × InTurn Request dsss Nothing
