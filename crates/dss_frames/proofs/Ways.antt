-- What a text is spelled as is what its bytes lead to.
use Rattle.std.proofs.Common.{◌≡◌, ℕ, ◌+◌, ◌-◌, ◌≤◌, Bool, true, false, List, [], ◌∷◌, ◌++◌, length, Option, Some, None, refl, sym, ap, subst, ◌∙◌, append_assoc, arith, length-append, add-zero}
use Rattle.std.proofs.lemmas.List.{append-nil}
use Rattle.std.specs.Prelude.{IsTrue}
use Rattle.std.specs.List.{concat}
use Rattle.dss_frames.specs.declared.turn.Turn.{Turn}
use Rattle.dss_frames.specs.declared.turn.Turn.TheVariants.{Request, Object, Nothing}
use Rattle.dss_frames.specs.declared.fault.SyntaxCode.{SyntaxCode}
use Rattle.dss_frames.specs.declared.fault.FrameFault.{FrameFault}
use Rattle.drda_words.specs.Number.{word}
use Rattle.dss_frames.specs.Length.{is_continued, segment_length, dss_limit}
use Rattle.dss_frames.specs.Dss.{Dss, AreContinuations, AreSegments, AreDsss}
use Rattle.dss_frames.specs.Command.{turn_after, is_due, Admits, InTurn}
use Rattle.dss_frames.specs.Fault.{Next, dss_in_turn, continuation_of, UpTo, IsWrong, FaultAt, BeginsWith, header_fault, continuation_fault}
use Rattle.dss_frames.proofs.Headers.{right_header, right_continuation}
use Rattle.dss_frames.proofs.Machine.{State, gathering, whole, faulty, arrive, filled, fill, stop_or, begun, joined, header_read, continuation_read, run, start, run-append, run-whole, run-faulty, run-fill}

goes_on : (found : Option SyntaxCode) (of_dss : ℕ) (state : State) → found ≡ None → stop_or found of_dss state ≡ state
goes_on found of_dss state e = ap (λ (o : Option SyntaxCode). stop_or o of_dss state) e

abbrev with_contents : ℕ → ℕ → List ℕ → Dss
with_contents format of_dss bytes = record { format = format; correlator = of_dss; contents = bytes }

-- the length of a text that is taken apart
tail_length : (high low : ℕ) (piece rest bytes : List ℕ) → bytes ≡ high ∷ low ∷ piece ++ rest → length bytes ≡ 2 + length piece + length rest
tail_length high low piece rest bytes e = ap length e ∙ (let k = length-append piece rest in omega arith)

-- the continuations of a DSS
pub run-continuations : (pieces : List (List ℕ)) (before after : Bool) (bytes : List ℕ) (dsss : List Dss) (dss : Dss) (declared : ℕ)
    → AreContinuations before bytes pieces after → declared + length bytes ≤ dss_limit
    → run (filled dsss before dss declared) bytes ≡ filled dsss after (joined dss (concat pieces)) (declared + length bytes)
run-continuations [] before after bytes dsss dss declared h within =
    rw (h.0, ← h.1, append-nil, add-zero) refl
run-continuations (piece ∷ pieces) false after bytes dsss dss declared h within = absurd (let before : false ≡ true = h.3 in cc)
run-continuations (piece ∷ pieces) true after bytes dsss dss declared h within =
    let high = h.0 in
    let low = h.1 in
    let rest = h.2 in
    let n = segment_length high low in
    let long = tail_length high low piece rest bytes h.4 in
    let counts : n ≡ 2 + length piece = h.5 in
    let right : continuation_fault declared high low ≡ None = right_continuation declared high low (omega arith) (let some : 1 ≤ length piece = h.6 in omega arith) in
    let size : n - 2 ≡ length piece = omega arith in
    let more = is_continued high low in
    let filling_it : continuation_read dsss dss declared high low ≡ fill dsss more dss (declared + n) (length piece) = goes_on (continuation_fault declared high low) dss.correlator (fill dsss more dss (declared + n) (n - 2)) right ∙ ap (λ (m : ℕ). fill dsss more dss (declared + n) m) size in
    let within_rest : declared + n + length rest ≤ dss_limit = omega arith in
    let all : declared + n + length rest ≡ declared + length bytes = omega arith in
    ap (λ (b : List ℕ). run (filled dsss true dss declared) b) h.4
    ∙ run-append (continuation_read dsss dss declared high low) piece rest
    ∙ ap (λ (s : State). run (run s piece) rest) filling_it
    ∙ ap (λ (s : State). run s rest) (run-fill piece dsss more dss (declared + n))
    ∙ run-continuations pieces more after rest dsss (joined dss piece) (declared + n) h.7 within_rest
    ∙ ap (λ (c : List ℕ). filled dsss after (with_contents dss.format dss.correlator c) (declared + n + length rest)) (append_assoc dss.contents piece (concat pieces))
    ∙ ap (λ (m : ℕ). filled dsss after (joined dss (concat (piece ∷ pieces))) m) all

-- the turn of a DSS that may come
abbrev pub IsOpen : Turn → Type 0
IsOpen Nothing = ⊥
IsOpen turn = Unit {0}

is_open : (turn : Turn) (dss : Dss) → Admits turn dss → IsOpen turn
is_open Request dss h = tt
is_open (Object expected) dss h = tt
is_open Nothing dss h = absurd (let due : false ≡ true = h.due in cc)

arrive_open : (turn : Turn) (dsss : List Dss) → IsOpen turn → arrive dsss (dss_in_turn turn) ≡ gathering dsss (dss_in_turn turn) []
arrive_open Request dsss h = refl
arrive_open (Object expected) dsss h = refl
arrive_open Nothing dsss h = absurd h

run-header : (turn : Turn) (dsss : List Dss) (high low mark format c d : ℕ) (bytes : List ℕ) → IsOpen turn
    → run (gathering dsss (dss_in_turn turn) []) (high ∷ low ∷ mark ∷ format ∷ c ∷ d ∷ bytes) ≡ run (header_read dsss turn high low mark format (word c d)) bytes
run-header Request dsss high low mark format c d bytes h = refl
run-header (Object expected) dsss high low mark format c d bytes h = refl
run-header Nothing dsss high low mark format c d bytes h = absurd h

header_length : (high low mark format c d : ℕ) (first rest bytes : List ℕ) → bytes ≡ high ∷ low ∷ mark ∷ format ∷ c ∷ d ∷ first ++ rest → length bytes ≡ 6 + length first + length rest
header_length high low mark format c d first rest bytes e = ap length e ∙ (let k = length-append first rest in omega arith)

-- the segments of a DSS in its turn
pub run-segments : (turn : Turn) (dsss : List Dss) (bytes : List ℕ) (dss : Dss) (more : Bool) → Admits turn dss → AreSegments bytes dss more
    → run (arrive dsss (dss_in_turn turn)) bytes ≡ filled dsss more dss (length bytes)
run-segments turn dsss bytes dss more admits h =
    let turn_open = is_open turn dss admits in
    let high = h.high in
    let low = h.low in
    let n = segment_length high low in
    let c = h.correlator_high in
    let d = h.correlator_low in
    let counts : n ≡ 6 + length h.first = h.counts in
    let long = header_length high low 0xD0 dss.format c d h.first h.rest bytes h.text in
    let within : length bytes ≤ dss_limit = h.within in
    let more_first = is_continued high low in
    let due : IsTrue (is_due turn dss.format (word c d)) = subst (λ (m : ℕ). IsTrue (is_due turn dss.format m)) h.correlator admits.due in
    let right : header_fault turn high low 0xD0 dss.format (word c d) ≡ None = right_header turn high low 0xD0 dss.format (word c d)
    (record { counts = omega arith; marked = refl; supported = admits.supported; paired = admits.paired; due = due }) in
    let size : n - 6 ≡ length h.first = omega arith in
    let new = begun dss.format (word c d) in
    let filling_it : header_read dsss turn high low 0xD0 dss.format (word c d) ≡ fill dsss more_first new n (length h.first) =
    goes_on (header_fault turn high low 0xD0 dss.format (word c d)) (word c d) (fill dsss more_first new n (n - 6)) right ∙ ap (λ (m : ℕ). fill dsss more_first new n m) size in
    let within_rest : n + length h.rest ≤ dss_limit = omega arith in
    let all : n + length h.rest ≡ length bytes = omega arith in
    ap (λ (s : State). run s bytes) (arrive_open turn dsss turn_open)
    ∙ ap (λ (b : List ℕ). run (gathering dsss (dss_in_turn turn) []) b) h.text
    ∙ run-header turn dsss high low 0xD0 dss.format c d (h.first ++ h.rest) turn_open
    ∙ run-append (header_read dsss turn high low 0xD0 dss.format (word c d)) h.first h.rest
    ∙ ap (λ (s : State). run (run s h.first) h.rest) filling_it
    ∙ ap (λ (s : State). run s h.rest) (run-fill h.first dsss more_first new n)
    ∙ run-continuations h.pieces more_first more h.rest dsss (joined new h.first) n h.continued within_rest
    ∙ ap (λ (m : ℕ). filled dsss more (with_contents dss.format m (h.first ++ concat h.pieces)) (n + length h.rest)) (sym h.correlator)
    ∙ ap (λ (b : List ℕ). filled dsss more (with_contents dss.format dss.correlator b) (n + length h.rest)) (sym h.joined)
    ∙ ap (λ (m : ℕ). filled dsss more dss m) all

-- whole DSSs in their turns
pub run-dsss : (dsss done : List Dss) (turn last : Turn) (bytes : List ℕ) → AreDsss bytes dsss → InTurn turn dsss last
    → run (arrive done (dss_in_turn turn)) bytes ≡ arrive (done ++ dsss) (dss_in_turn last)
run-dsss [] done turn last bytes h t = rw (h, ← t) (ap (λ (all : List Dss). arrive all (dss_in_turn turn)) (sym (append-nil done)))
run-dsss (dss ∷ dsss) done turn last bytes h t =
    let front = h.0 in
    let rest = h.1 in
    ap (λ (b : List ℕ). run (arrive done (dss_in_turn turn)) b) h.2
    ∙ run-append (arrive done (dss_in_turn turn)) front rest
    ∙ ap (λ (s : State). run s rest) (run-segments turn done front dss false t.0 h.3)
    ∙ run-dsss dsss (done ++ dss ∷ []) (turn_after dss.format dss.correlator) last rest h.4 t.1
    ∙ ap (λ (all : List Dss). arrive all (dss_in_turn last)) (append_assoc done (dss ∷ []) dsss)

-- up to what comes next
pub run-up_to : (bytes : List ℕ) (dsss : List Dss) (next : Next) → UpTo bytes dsss next → run start bytes ≡ arrive dsss next
run-up_to bytes dsss (dss_in_turn turn) h = run-dsss dsss [] Request turn bytes h.0 h.1
run-up_to bytes dsss (continuation_of dss declared) h =
    let front = h.0 in
    let part = h.1 in
    let turn = h.2 in
    ap (λ (b : List ℕ). run start b) h.3
    ∙ run-append start front part
    ∙ ap (λ (s : State). run s part) (run-dsss dsss [] Request turn front h.4 h.5)
    ∙ run-segments turn dsss part dss true h.6 h.7
    ∙ ap (λ (m : ℕ). gathering dsss (continuation_of dss m) []) (sym h.8)

-- a command in front
pub run-begins : (bytes rest : List ℕ) (dsss : List Dss) → BeginsWith bytes dsss rest → run start bytes ≡ whole dsss rest
run-begins bytes rest dsss h =
    let front = h.0 in
    ap (λ (b : List ℕ). run start b) h.1
    ∙ run-append start front rest
    ∙ ap (λ (s : State). run s rest) (run-up_to front dsss (dss_in_turn Nothing) h.2)
    ∙ run-whole dsss [] rest

stops : (found : Option SyntaxCode) (of_dss : ℕ) (state : State) (fault : FrameFault) → found ≡ Some fault.code → fault.correlator ≡ of_dss → stop_or found of_dss state ≡ faulty fault
stops found of_dss state fault e f = rw (e, ← f) refl

-- a header that is wrong
pub run-wrong : (dsss : List Dss) (next : Next) (bytes : List ℕ) (fault : FrameFault) → IsWrong next bytes fault → run (arrive dsss next) bytes ≡ faulty fault
run-wrong dsss (dss_in_turn Nothing) bytes fault h = absurd h
run-wrong dsss (dss_in_turn Request) (high ∷ low ∷ mark ∷ format ∷ c ∷ d ∷ bytes) fault h =
    ap (λ (s : State). run s bytes) (stops (header_fault Request high low mark format (word c d)) (word c d) _ fault h.0 h.1) ∙ run-faulty fault bytes
run-wrong dsss (dss_in_turn (Object expected)) (high ∷ low ∷ mark ∷ format ∷ c ∷ d ∷ bytes) fault h =
    ap (λ (s : State). run s bytes) (stops (header_fault (Object expected) high low mark format (word c d)) (word c d) _ fault h.0 h.1) ∙ run-faulty fault bytes
run-wrong dsss (continuation_of dss declared) (high ∷ low ∷ bytes) fault h =
    ap (λ (s : State). run s bytes) (stops (continuation_fault declared high low) dss.correlator _ fault h.0 h.1) ∙ run-faulty fault bytes
run-wrong dsss next bytes fault h = absurd h

pub run-fault : (bytes : List ℕ) (fault : FrameFault) → FaultAt bytes fault → run start bytes ≡ faulty fault
run-fault bytes fault h =
    let front = h.0 in
    let rest = h.1 in
    ap (λ (b : List ℕ). run start b) h.4
    ∙ run-append start front rest
    ∙ ap (λ (s : State). run s rest) (run-up_to front h.2 h.3 h.5)
    ∙ run-wrong h.2 h.3 rest fault h.6
