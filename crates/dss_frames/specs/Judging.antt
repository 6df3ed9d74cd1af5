-- What a header that has come says, and nothing of the bytes behind it.
use Rattle.std.specs.Prelude.{ℕ, ◌+◌, Bool, List, ◌∷◌, ◌≤◌, Option, Some, None, Result, Ok, Err, if◌then◌else◌}
use Rattle.dss_frames.specs.declared.turn.Turn.TheVariants.{Nothing}
use Rattle.dss_frames.specs.declared.progress.Expected.{Expected}
use Rattle.dss_frames.specs.declared.progress.Expected.TheVariants.{Header, Continuation}
use Rattle.dss_frames.specs.declared.fault.SyntaxCode.{SyntaxCode}
use Rattle.dss_frames.specs.declared.fault.FrameFault.{FrameFault}
use Rattle.drda_words.specs.Number.{word}
use Rattle.dss_frames.specs.Length.{is_continued, segment_length, dss_limit}
use Rattle.dss_frames.specs.Command.{turn_after}
use Rattle.dss_frames.specs.Fault.{header_fault, continuation_fault}

-- what is expected behind a segment
abbrev pub after_segment : Bool → ℕ → ℕ → ℕ → Expected
after_segment more format correlator declared =
    if more then Continuation format correlator declared else Header (turn_after format correlator)

-- the fault, if there is one, and else the answer
abbrev pub unless_wrong : {A : Type 0} → Option SyntaxCode → ℕ → A → Result A FrameFault
unless_wrong (Some found) of_dss answer = Err (record { code = found; correlator = of_dss })
unless_wrong None of_dss answer = Ok answer

-- the fault of the header in front; or what is expected behind its segment, and how long the segment
-- is; or nothing, where the header has not come or none is to come
abbrev pub judged : Expected → List ℕ → Result (Option (Expected × ℕ)) FrameFault
judged (Header Nothing) bytes = Ok None
judged (Header turn) (high ∷ low ∷ mark ∷ format ∷ c ∷ d ∷ bytes) =
    unless_wrong (header_fault turn high low mark format (word c d)) (word c d)
    (Some (after_segment (is_continued high low) format (word c d) (segment_length high low), segment_length high low))
judged (Continuation format of_dss declared) (high ∷ low ∷ bytes) =
    unless_wrong (continuation_fault declared high low) of_dss
    (Some (after_segment (is_continued high low) format of_dss (declared + segment_length high low), segment_length high low))
judged expected bytes = Ok None

-- what was declared so far is within the limit
abbrev pub IsWithinLimit : Expected → Type 0
IsWithinLimit (Header turn) = Unit {0}
IsWithinLimit (Continuation format of_dss declared) = declared ≤ dss_limit
