-- Every text has exactly one reading.
use Rattle.std.proofs.Common.{◌≡◌, ◌⊎◌, inl, inr, ℕ, zero, suc, ◌≤◌, ◌<◌, Bool, false, List, [], ◌∷◌, length, refl, sym, ap, subst, ◌∙◌, arith, length-append}
use Rattle.dss_frames.specs.declared.turn.Turn.TheVariants.{Request, Nothing}
use Rattle.dss_frames.specs.declared.fault.FrameFault.{FrameFault}
use Rattle.dss_frames.specs.Dss.{Dss, AreSegments}
use Rattle.dss_frames.specs.Command.{IsCommand}
use Rattle.dss_frames.specs.Fault.{FaultAt, BeginsWith, IsUnfinished}
use Rattle.dss_frames.specs.Reading.{End, unfinished, faulty as faulty_end, EndsAt, ReadsAs, HasOneReading, StandsOnce}
use Rattle.dss_frames.proofs.Machine.{State, gathering, filling, whole, faulty, run, start, IsUnderWay}
use Rattle.dss_frames.proofs.Ways.{run-begins, run-fault}
use Rattle.dss_frames.proofs.Holds.{Holds, start_holds}

pub is_unfinished : (bytes : List ℕ) → IsUnderWay (run start bytes) → IsUnfinished bytes
is_unfinished bytes h = record {
  no_command = λ dsss rest c. let P : State → Type 0 = λ s. IsUnderWay s in subst P (run-begins bytes rest dsss c) h;
  no_fault = λ fault f. let P : State → Type 0 = λ s. IsUnderWay s in subst P (run-fault bytes fault f) h;
}

pub nothing_is_unfinished : IsUnfinished []
nothing_is_unfinished = is_unfinished [] tt

abbrev pub Stands : List ℕ → Type 0
Stands bytes = ((command : List Dss) × (rest : List ℕ) × BeginsWith bytes command rest) ⊎ (((fault : FrameFault) × FaultAt bytes fault) ⊎ IsUnfinished bytes)

stands_by : (state : State) (bytes : List ℕ) → run start bytes ≡ state → Holds state bytes → Stands bytes
stands_by (whole dsss rest) bytes e h = inl (dsss, rest, h)
stands_by (faulty fault) bytes e h = inr (inl (fault, h))
stands_by (gathering dsss next header) bytes e h = inr (inr (is_unfinished bytes (let P : State → Type 0 = λ s. IsUnderWay s in subst P (sym e) tt)))
stands_by (filling dsss more dss declared n) bytes e h = inr (inr (is_unfinished bytes (let P : State → Type 0 = λ s. IsUnderWay s in subst P (sym e) tt)))

stands : (bytes : List ℕ) → Stands bytes
stands bytes = stands_by (run start bytes) bytes refl (start_holds bytes)

one_command : (bytes : List ℕ) (command other : List Dss) (rest remains : List ℕ) → BeginsWith bytes command rest → BeginsWith bytes other remains → (command ≡ other) × (rest ≡ remains)
one_command bytes command other rest remains h k =
    let same : whole command rest ≡ whole other remains = sym (run-begins bytes rest command h) ∙ run-begins bytes remains other k in
    (cc, cc)

one_fault : (bytes : List ℕ) (fault other : FrameFault) → FaultAt bytes fault → FaultAt bytes other → fault ≡ other
one_fault bytes fault other h k =
    let same : faulty fault ≡ faulty other = sym (run-fault bytes fault h) ∙ run-fault bytes other k in cc

not_both : (bytes : List ℕ) (command : List Dss) (rest : List ℕ) (fault : FrameFault) → BeginsWith bytes command rest → FaultAt bytes fault → ⊥
not_both bytes command rest fault h k =
    let same : whole command rest ≡ faulty fault = sym (run-begins bytes rest command h) ∙ run-fault bytes fault k in cc

pub stands_once : (bytes : List ℕ) → StandsOnce bytes
stands_once bytes = record { something = stands bytes; one_command = one_command bytes; one_fault = one_fault bytes; not_both = not_both bytes }

-- a command takes bytes
pub segments_length : (bytes : List ℕ) (dss : Dss) (more : Bool) → AreSegments bytes dss more → 6 ≤ length bytes
segments_length bytes dss more h = let k = ap length h.text in omega arith

pub command_length : (bytes : List ℕ) (dsss : List Dss) → IsCommand bytes dsss → 6 ≤ length bytes
command_length bytes [] h = absurd (let e : Request ≡ Nothing = h.1 in cc)
command_length bytes (dss ∷ dsss) h =
    let k = segments_length h.0.0 dss false h.0.3 in
    let all = ap length h.0.2 in
    let parts = length-append h.0.0 h.0.1 in
    omega arith

begins_length : (bytes rest : List ℕ) (dsss : List Dss) → BeginsWith bytes dsss rest → length rest < length bytes
begins_length bytes rest dsss h =
    let k = command_length h.0 dsss h.2 in
    let all = ap length h.1 in
    let parts = length-append h.0 rest in
    omega arith

abbrev HasReading : List ℕ → Type 0
HasReading text = (commands : List (List Dss)) × (end : End) × ReadsAs text commands end

has_reading : (most : ℕ) (text : List ℕ) → length text ≤ most → Stands text → HasReading text
has_reading most text le (inr (inl (fault, h))) = ([], faulty_end fault, h)
has_reading most text le (inr (inr h)) = ([], unfinished text, (refl, h))
has_reading zero text le (inl (command, rest, h)) = absurd (let k = begins_length text rest command h in omega arith)
has_reading (suc most) text le (inl (command, rest, h)) =
    let others = has_reading most rest (let k = begins_length text rest command h in omega arith) (stands rest) in
    (command ∷ others.0, others.1, (rest, h, others.2))

end_same : (text : List ℕ) (end other : End) → EndsAt text end → EndsAt text other → other ≡ end
end_same text (unfinished rest) (unfinished remains) h k = ap unfinished (sym k.0 ∙ h.0)
end_same text (unfinished rest) (faulty_end fault) h k = absurd (h.1.no_fault fault (subst (λ (b : List ℕ). FaultAt b fault) h.0 k))
end_same text (faulty_end fault) (unfinished rest) h k = absurd (k.1.no_fault fault (subst (λ (b : List ℕ). FaultAt b fault) k.0 h))
end_same text (faulty_end fault) (faulty_end found) h k = ap faulty_end (one_fault text found fault k h)

ended : (text rest : List ℕ) (end : End) (command : List Dss) → EndsAt text end → BeginsWith text command rest → ⊥
ended text rest (unfinished remains) command h k = h.1.no_command command rest (subst (λ (b : List ℕ). BeginsWith b command rest) h.0 k)
ended text rest (faulty_end fault) command h k = not_both text command rest fault k h

one_reading : (commands others : List (List Dss)) (text : List ℕ) (end other : End) → ReadsAs text commands end → ReadsAs text others other → (others ≡ commands) × (other ≡ end)
one_reading [] [] text end other h k = (refl, end_same text end other h k)
one_reading [] (o ∷ others) text end other h k = absurd (ended text k.0 end o h k.1)
one_reading (c ∷ commands) [] text end other h k = absurd (ended text h.0 other c k h.1)
one_reading (c ∷ commands) (o ∷ others) text end other h k =
    let first = one_command text c o h.0 k.0 h.1 k.1 in
    let rest = one_reading commands others h.0 end other h.2 (subst (λ (b : List ℕ). ReadsAs b others other) (sym first.1) k.2) in
    let same : o ∷ others ≡ c ∷ commands = cc in
    (same, rest.1)

pub has_one_reading : (text : List ℕ) → HasOneReading text
has_one_reading text =
    let r = has_reading (length text) text (omega arith) (stands text) in
    record {
      commands = r.0;
      end = r.1;
      reads = r.2;
      only_commands = λ others other h. (one_reading r.0 others text r.1 other r.2 h).0;
      only_end = λ others other h. (one_reading r.0 others text r.1 other r.2 h).1;
    }
