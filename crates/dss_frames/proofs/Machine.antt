-- The reading of a text byte by byte. It decides what stands in front of a text, so that a text has
-- one reading at the most.
use Rattle.std.proofs.Common.{◌≡◌, ℕ, zero, suc, ◌+◌, ◌-◌, ◌<◌, Bool, true, false, List, [], ◌∷◌, ◌++◌, length, Option, Some, None, refl, sym, ap, ◌∙◌, append_assoc, arith}
use Rattle.std.proofs.lemmas.List.{append-nil}
use Rattle.dss_frames.specs.declared.turn.Turn.{Turn}
use Rattle.dss_frames.specs.declared.turn.Turn.TheVariants.{Request, Nothing}
use Rattle.dss_frames.specs.declared.fault.SyntaxCode.{SyntaxCode}
use Rattle.dss_frames.specs.declared.fault.FrameFault.{FrameFault}
use Rattle.drda_words.specs.Number.{word}
use Rattle.dss_frames.specs.Length.{is_continued, segment_length}
use Rattle.dss_frames.specs.Dss.{Dss}
use Rattle.dss_frames.specs.Command.{turn_after}
use Rattle.dss_frames.specs.Fault.{Next, dss_in_turn, continuation_of, header_fault, continuation_fault}

-- A header that has come in part; the contents of a segment that has come in part, but for one byte
-- and so many more; a whole command and what follows it; or a fault.
pub data State : Type 0 where
  gathering : List Dss → Next → List ℕ → State
  filling : List Dss → Bool → Dss → ℕ → ℕ → State
  whole : List Dss → List ℕ → State
  faulty : FrameFault → State

-- between two segments
abbrev pub arrive : List Dss → Next → State
arrive dsss (dss_in_turn Nothing) = whole dsss []
arrive dsss next = gathering dsss next []

-- behind a segment, which says whether a continuation follows
abbrev pub filled : List Dss → Bool → Dss → ℕ → State
filled dsss true dss declared = gathering dsss (continuation_of dss declared) []
filled dsss false dss declared = arrive (dsss ++ dss ∷ []) (dss_in_turn (turn_after dss.format dss.correlator))

-- in a segment of which so many bytes are missing
abbrev pub fill : List Dss → Bool → Dss → ℕ → ℕ → State
fill dsss more dss declared zero = filled dsss more dss declared
fill dsss more dss declared (suc n) = filling dsss more dss declared n

abbrev pub stop_or : Option SyntaxCode → ℕ → State → State
stop_or (Some found) of_dss state = faulty (record { code = found; correlator = of_dss })
stop_or None of_dss state = state

abbrev pub begun : ℕ → ℕ → Dss
begun format of_dss = record { format = format; correlator = of_dss; contents = [] }

abbrev pub joined : Dss → List ℕ → Dss
joined dss bytes = record { format = dss.format; correlator = dss.correlator; contents = dss.contents ++ bytes }

-- behind the six bytes of a header
abbrev pub header_read : List Dss → Turn → ℕ → ℕ → ℕ → ℕ → ℕ → State
header_read dsss turn high low mark format of_dss =
    stop_or (header_fault turn high low mark format of_dss) of_dss
    (fill dsss (is_continued high low) (begun format of_dss) (segment_length high low) (segment_length high low - 6))

-- behind the two of a continuation
abbrev pub continuation_read : List Dss → Dss → ℕ → ℕ → ℕ → State
continuation_read dsss dss declared high low =
    stop_or (continuation_fault declared high low) dss.correlator
    (fill dsss (is_continued high low) dss (declared + segment_length high low) (segment_length high low - 2))

abbrev pub gathered : List Dss → Next → List ℕ → State
gathered dsss (dss_in_turn Nothing) bytes = gathering dsss (dss_in_turn Nothing) bytes
gathered dsss (dss_in_turn turn) (high ∷ low ∷ mark ∷ format ∷ c ∷ d ∷ []) = header_read dsss turn high low mark format (word c d)
gathered dsss (continuation_of dss declared) (high ∷ low ∷ []) = continuation_read dsss dss declared high low
gathered dsss next bytes = gathering dsss next bytes

abbrev pub step : State → ℕ → State
step (gathering dsss next bytes) byte = gathered dsss next (bytes ++ byte ∷ [])
step (filling dsss more dss declared n) byte = fill dsss more (joined dss (byte ∷ [])) declared n
step (whole dsss rest) byte = whole dsss (rest ++ byte ∷ [])
step (faulty fault) byte = faulty fault

abbrev pub run : State → List ℕ → State
run state [] = state
run state (byte ∷ bytes) = run (step state byte) bytes

abbrev pub start : State
start = gathering [] (dss_in_turn Request) []

-- neither a command nor a fault yet
abbrev pub IsUnderWay : State → Type 0
IsUnderWay (gathering dsss next bytes) = Unit {0}
IsUnderWay (filling dsss more dss declared n) = Unit {0}
IsUnderWay (whole dsss rest) = ⊥
IsUnderWay (faulty fault) = ⊥

pub run-append : (state : State) (a b : List ℕ) → run state (a ++ b) ≡ run (run state a) b
run-append state [] b = refl
run-append state (x ∷ a) b = run-append (step state x) a b

pub run-whole : (dsss : List Dss) (rest bytes : List ℕ) → run (whole dsss rest) bytes ≡ whole dsss (rest ++ bytes)
run-whole dsss rest [] = ap (whole dsss) (sym (append-nil rest))
run-whole dsss rest (x ∷ bytes) = run-whole dsss (rest ++ x ∷ []) bytes ∙ ap (whole dsss) (append_assoc rest (x ∷ []) bytes)

pub run-faulty : (fault : FrameFault) (bytes : List ℕ) → run (faulty fault) bytes ≡ faulty fault
run-faulty fault [] = refl
run-faulty fault (x ∷ bytes) = run-faulty fault bytes

-- the contents of a segment
pub run-fill : (bytes : List ℕ) (dsss : List Dss) (more : Bool) (dss : Dss) (declared : ℕ) → run (fill dsss more dss declared (length bytes)) bytes ≡ filled dsss more (joined dss bytes) declared
run-fill [] dsss more dss declared = ap (λ (c : List ℕ). filled dsss more (record { format = dss.format; correlator = dss.correlator; contents = c }) declared) (sym (append-nil dss.contents))
run-fill (x ∷ bytes) dsss more dss declared =
    run-fill bytes dsss more (joined dss (x ∷ [])) declared
    ∙ ap (λ (c : List ℕ). filled dsss more (record { format = dss.format; correlator = dss.correlator; contents = c }) declared) (append_assoc dss.contents (x ∷ []) bytes)

-- less than those
pub run-fill-short : (bytes : List ℕ) (n : ℕ) (dsss : List Dss) (more : Bool) (dss : Dss) (declared : ℕ) → length bytes < n → IsUnderWay (run (fill dsss more dss declared n) bytes)
run-fill-short bytes zero dsss more dss declared lt = absurd (omega arith)
run-fill-short [] (suc n) dsss more dss declared lt = tt
run-fill-short (x ∷ bytes) (suc n) dsss more dss declared lt = run-fill-short bytes n dsss more (joined dss (x ∷ [])) declared (omega arith)
