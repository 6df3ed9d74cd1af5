-- What a reader asks for is never more than the command under way.
use Rattle.std.proofs.Common.{◌≡◌, ℕ, ◌+◌, ◌-◌, ◌≤◌, ◌<◌, max, Bool, true, false, List, ◌∷◌, ◌++◌, length, take, drop, None, Ok, refl, sym, arith, length-append, length-drop, take-append-drop}
use Rattle.std.proofs.Math.Dec.{ltb}
use Rattle.std.proofs.lemmas.Bool.{ltb-true, ltb-false}
use Rattle.dss_frames.specs.declared.turn.Turn.TheVariants.{Request, Object, Nothing}
use Rattle.dss_frames.specs.declared.progress.Expected.{Expected}
use Rattle.dss_frames.specs.declared.progress.Expected.TheVariants.{Header, Continuation}
use Rattle.dss_frames.specs.declared.progress.Progress.{Progress}
use Rattle.dss_frames.specs.Fault.{IsUnfinished}
use Rattle.dss_frames.specs.Judging.{judged}
use Rattle.dss_frames.specs.Progress.{IsAt, HasCommand, header_length}
use Rattle.dss_frames.specs.Lending.{IsWanted}
use Rattle.dss_frames.proofs.Steps.{GoesOn, place_part, place_early, place_more, place_judged}

-- less than the header
short_header : (expected : Expected) (bytes : List ℕ) → length bytes < header_length expected → GoesOn expected × (judged expected bytes ≡ Ok None)
short_header (Header Nothing) bytes lt = absurd (omega arith)
short_header (Header Request) (a ∷ b ∷ c ∷ d ∷ e ∷ f ∷ bytes) lt = absurd (omega arith)
short_header (Header Request) bytes lt = (tt, refl)
short_header (Header (Object of_dss)) (a ∷ b ∷ c ∷ d ∷ e ∷ f ∷ bytes) lt = absurd (omega arith)
short_header (Header (Object of_dss)) bytes lt = (tt, refl)
short_header (Continuation format of_dss declared) (a ∷ b ∷ bytes) lt = absurd (omega arith)
short_header (Continuation format of_dss declared) bytes lt = (tt, refl)

-- what stands before the end of the next header is unfinished
unfinished_by : (early : Bool) (bytes : List ℕ) (place : Progress) → ltb (length bytes) place.at ≡ early → IsAt bytes place → length bytes < place.at + header_length place.expected → IsUnfinished bytes
unfinished_by true bytes place e h lt = place_early bytes place h (ltb-true _ _ e)
unfinished_by false bytes place e h lt =
    let le : place.at ≤ length bytes = ltb-false _ _ e in
    let tail : length (drop place.at bytes) < header_length place.expected = let k = length-drop place.at bytes in omega arith in
    let short = short_header place.expected (drop place.at bytes) tail in
    place_part bytes place h le short.0 short.1

pub unfinished : (bytes : List ℕ) (place : Progress) → IsAt bytes place → length bytes < place.at + header_length place.expected → IsUnfinished bytes
unfinished bytes place h lt = unfinished_by (ltb (length bytes) place.at) bytes place refl h lt

pub is_wanted : (bytes : List ℕ) (place : Progress) (n : ℕ) → IsAt bytes place → length bytes < place.at + header_length place.expected → n ≡ max 1 (place.at + header_length place.expected - length bytes) → IsWanted bytes n
is_wanted bytes place n h lt e = record {
  less = λ more fewer. let k = length-append bytes more in unfinished (bytes ++ more) place (place_more bytes more place h) (omega arith);
  just = λ more so_many. let k = length-append bytes more in place_judged bytes more place h (omega arith);
}

-- where a command stands, or a fault, nothing is wanted
pub not_with_command : (bytes : List ℕ) (size : ℕ) → HasCommand bytes size → IsUnfinished bytes → ⊥
not_with_command bytes size has un = un.no_command has.1.0 (drop size bytes) (take size bytes, sym (take-append-drop size bytes), has.1.1)
