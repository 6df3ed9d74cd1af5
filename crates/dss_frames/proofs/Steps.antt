-- From one header to the next.
use Rattle.std.proofs.Common.{◌≡◌, ℕ, ◌+◌, ◌-◌, ◌≤◌, ◌<◌, Bool, true, false, List, [], ◌∷◌, ◌++◌, length, take, drop, Option, Some, None, Result, Ok, Err, refl, sym, ap, subst, ◌∙◌, append_assoc, arith, length-append, length-drop, take-append-drop, mod-lt, lit<}
use Rattle.std.proofs.lemmas.List.{append-nil, drop-append-le, length-take-le}
use Rattle.std.proofs.Math.Seq.{take-add, take-append-add}
use Rattle.dss_frames.specs.declared.turn.Turn.{Turn}
use Rattle.dss_frames.specs.declared.turn.Turn.TheVariants.{Request, Object, Nothing}
use Rattle.dss_frames.specs.declared.fault.SyntaxCode.{SyntaxCode}
use Rattle.dss_frames.specs.declared.fault.FrameFault.{FrameFault}
use Rattle.dss_frames.specs.declared.progress.Expected.{Expected}
use Rattle.dss_frames.specs.declared.progress.Expected.TheVariants.{Header, Continuation}
use Rattle.dss_frames.specs.declared.progress.Progress.{Progress}
use Rattle.dss_frames.specs.declared.progress.Found.TheVariants.{Nothing as Nothing_yet}
use Rattle.drda_words.specs.Number.{word}
use Rattle.dss_frames.specs.Length.{is_continued, segment_length, dss_limit}
use Rattle.dss_frames.specs.Dss.{Dss}
use Rattle.dss_frames.specs.Command.{turn_after, IsCommand}
use Rattle.dss_frames.specs.Fault.{Next, dss_in_turn, continuation_of, UpTo, IsWrong, FaultAt, IsUnfinished, CanBeJudged, header_size, header_fault, continuation_fault}
use Rattle.dss_frames.specs.Judging.{judged, unless_wrong, after_segment, IsWithinLimit}
use Rattle.dss_frames.specs.Progress.{IsExpected, Reaches, IsAt, HasCommand, Finds, found_when, found_at, header_length}
use Rattle.dss_frames.proofs.Headers.{header_right, continuation_right}
use Rattle.dss_frames.proofs.Machine.{State, arrive, filled, fill, stop_or, begun, joined, run, start, run-append, run-fill, run-fill-short, IsUnderWay}
use Rattle.dss_frames.proofs.Ways.{IsOpen, run-up_to}
use Rattle.dss_frames.proofs.Holds.{Holds, start_holds}
use Rattle.dss_frames.proofs.Readings.{is_unfinished}

abbrev outcome : Expected → ℕ → Expected × ℕ
outcome after size = (after, size)

abbrev Judgement : Type 0
Judgement = Result (Option (Expected × ℕ)) FrameFault

-- the three outcomes of a judgement
judged_right : (found : Option SyntaxCode) (of_dss : ℕ) (x y : Expected × ℕ) (j : Judgement) → j ≡ Ok (Some y) → unless_wrong found of_dss (Some x) ≡ j → (found ≡ None) × (x ≡ y)
judged_right None of_dss x y j e f = let g : j ≡ Ok (Some x) = sym f in (refl, cc)
judged_right (Some code) of_dss x y j e f = absurd (let g : j ≡ Err (record { code = code; correlator = of_dss }) = sym f in cc)

judged_wrong : (found : Option SyntaxCode) (of_dss : ℕ) (x : Expected × ℕ) (fault : FrameFault) (j : Judgement) → j ≡ Err fault → unless_wrong found of_dss (Some x) ≡ j → (found ≡ Some fault.code) × (fault.correlator ≡ of_dss)
judged_wrong None of_dss x fault j e f = absurd (let g : j ≡ Ok (Some x) = sym f in cc)
judged_wrong (Some code) of_dss x fault j e f =
    let made : FrameFault = record { code = code; correlator = of_dss } in
    let g : j ≡ Err made = sym f in
    let same : made ≡ fault = cc in
    (ap (λ (m : FrameFault). Some m.code) same, ap (λ (m : FrameFault). m.correlator) (sym same))

judged_nothing : (found : Option SyntaxCode) (of_dss : ℕ) (x : Expected × ℕ) (j : Judgement) → j ≡ Ok None → unless_wrong found of_dss (Some x) ≡ j → ⊥
judged_nothing None of_dss x j e f = let g : j ≡ Ok (Some x) = sym f in cc
judged_nothing (Some code) of_dss x j e f = let g : j ≡ Err (record { code = code; correlator = of_dss }) = sym f in cc

-- a segment whose header in front of `bytes` is right
record Entered (dsss : List Dss) (next : Next) (bytes : List ℕ) (after : Expected) (size : ℕ) : Type 0 where
  header : List ℕ
  behind : List ℕ
  more : Bool
  dss : Dss
  declared : ℕ
  missing : ℕ
  text : bytes ≡ header ++ behind
  sized : size ≡ length header + missing
  short : size < 32768
  some : 1 ≤ size
  runs : (contents : List ℕ) → run (arrive dsss next) (header ++ contents) ≡ run (fill dsss more dss declared missing) contents
  expects : after_segment more dss.format dss.correlator declared ≡ after
  within : IsWithinLimit (after_segment more dss.format dss.correlator declared)

segment_short : (high low : ℕ) → segment_length high low < 32768
segment_short high low = mod-lt (word high low) (lit< tt)

within_limit : (more : Bool) (format of_dss declared : ℕ) → declared ≤ dss_limit → IsWithinLimit (after_segment more format of_dss declared)
within_limit true format of_dss declared h = h
within_limit false format of_dss declared h = tt

going_on : (found : Option SyntaxCode) (of_dss : ℕ) (state : State) (contents : List ℕ) → found ≡ None → run (stop_or found of_dss state) contents ≡ run state contents
going_on found of_dss state contents e = ap (λ (o : Option SyntaxCode). run (stop_or o of_dss state) contents) e

header_runs : (turn : Turn) (dsss : List Dss) (high low mark format c d : ℕ) (contents : List ℕ) → IsOpen turn → header_fault turn high low mark format (word c d) ≡ None
    → run (arrive dsss (dss_in_turn turn)) ((high ∷ low ∷ mark ∷ format ∷ c ∷ d ∷ []) ++ contents)
    ≡ run (fill dsss (is_continued high low) (begun format (word c d)) (segment_length high low) (segment_length high low - 6)) contents
header_runs Request dsss high low mark format c d contents h e = going_on (header_fault Request high low mark format (word c d)) (word c d) _ contents e
header_runs (Object expected) dsss high low mark format c d contents h e = going_on (header_fault (Object expected) high low mark format (word c d)) (word c d) _ contents e
header_runs Nothing dsss high low mark format c d contents h e = absurd h

header_entered : (turn : Turn) (dsss : List Dss) (high low mark format c d : ℕ) (bytes : List ℕ) (after : Expected) (size : ℕ) → IsOpen turn
    → header_fault turn high low mark format (word c d) ≡ None
    → outcome (after_segment (is_continued high low) format (word c d) (segment_length high low)) (segment_length high low) ≡ outcome after size
    → Entered dsss (dss_in_turn turn) (high ∷ low ∷ mark ∷ format ∷ c ∷ d ∷ bytes) after size
header_entered turn dsss high low mark format c d bytes after size turn_open right same =
    let n = segment_length high low in
    let short = segment_short high low in
    let counts : 6 ≤ n = (header_right turn high low mark format (word c d) right).counts in
    let sized : n ≡ size = ap (λ (p : Expected × ℕ). p.1) same in
    record {
      header = high ∷ low ∷ mark ∷ format ∷ c ∷ d ∷ [];
      behind = bytes;
      more = is_continued high low;
      dss = begun format (word c d);
      declared = n;
      missing = n - 6;
      text = refl;
      sized = omega arith;
      short = omega arith;
      some = omega arith;
      runs = λ contents. header_runs turn dsss high low mark format c d contents turn_open right;
      expects = ap (λ (p : Expected × ℕ). p.0) same;
      within = within_limit (is_continued high low) format (word c d) n (omega arith);
    }

continuation_entered : (dsss : List Dss) (dss : Dss) (declared high low : ℕ) (bytes : List ℕ) (after : Expected) (size : ℕ)
    → continuation_fault declared high low ≡ None
    → outcome (after_segment (is_continued high low) dss.format dss.correlator (declared + segment_length high low)) (segment_length high low) ≡ outcome after size
    → Entered dsss (continuation_of dss declared) (high ∷ low ∷ bytes) after size
continuation_entered dsss dss declared high low bytes after size right same =
    let n = segment_length high low in
    let short = segment_short high low in
    let limits = continuation_right declared high low right in
    let sized : n ≡ size = ap (λ (p : Expected × ℕ). p.1) same in
    record {
      header = high ∷ low ∷ [];
      behind = bytes;
      more = is_continued high low;
      dss = dss;
      declared = declared + n;
      missing = n - 2;
      text = refl;
      sized = omega arith;
      short = omega arith;
      some = omega arith;
      runs = λ contents. going_on (continuation_fault declared high low) dss.correlator (fill dsss (is_continued high low) dss (declared + n) (n - 2)) contents right;
      expects = ap (λ (p : Expected × ℕ). p.0) same;
      within = within_limit (is_continued high low) dss.format dss.correlator (declared + n) limits.0;
    }

entered_turn : (turn : Turn) (dsss : List Dss) (bytes : List ℕ) (after : Expected) (size : ℕ) → judged (Header turn) bytes ≡ Ok (Some (after, size)) → Entered dsss (dss_in_turn turn) bytes after size
entered_turn Request dsss (high ∷ low ∷ mark ∷ format ∷ c ∷ d ∷ bytes) after size e =
    let r = judged_right (header_fault Request high low mark format (word c d)) (word c d) _ (after, size) _ e refl in
    header_entered Request dsss high low mark format c d bytes after size tt r.0 r.1
entered_turn (Object expected) dsss (high ∷ low ∷ mark ∷ format ∷ c ∷ d ∷ bytes) after size e =
    let r = judged_right (header_fault (Object expected) high low mark format (word c d)) (word c d) _ (after, size) _ e refl in
    header_entered (Object expected) dsss high low mark format c d bytes after size tt r.0 r.1
entered_turn turn dsss bytes after size e = absurd cc

entered : (next : Next) (expected : Expected) (dsss : List Dss) (bytes : List ℕ) (after : Expected) (size : ℕ) → IsExpected next expected → judged expected bytes ≡ Ok (Some (after, size)) → Entered dsss next bytes after size
entered (dss_in_turn turn) (Header expected) dsss bytes after size h e =
    subst (λ (t : Turn). Entered dsss (dss_in_turn t) bytes after size) (sym h) (entered_turn expected dsss bytes after size e)
entered (continuation_of dss declared) (Continuation format of_dss so_far) dsss (high ∷ low ∷ bytes) after size h e =
    let r = judged_right (continuation_fault so_far high low) of_dss (outcome (after_segment (is_continued high low) format of_dss (so_far + segment_length high low)) (segment_length high low)) (after, size) _ e refl in
    let right : continuation_fault declared high low ≡ None = ap (λ (m : ℕ). continuation_fault m high low) h.2 ∙ r.0 in
    continuation_entered dsss dss declared high low bytes after size right
    (ap (λ (m : ℕ). outcome (after_segment (is_continued high low) m dss.correlator (declared + segment_length high low)) (segment_length high low)) h.0
    ∙ ap (λ (m : ℕ). outcome (after_segment (is_continued high low) format m (declared + segment_length high low)) (segment_length high low)) h.1
    ∙ ap (λ (m : ℕ). outcome (after_segment (is_continued high low) format of_dss (m + segment_length high low)) (segment_length high low)) h.2
    ∙ r.1)
entered (continuation_of dss declared) (Continuation format of_dss so_far) dsss bytes after size h e = absurd cc
entered next expected dsss bytes after size h e = absurd h

-- a header that is wrong
wrong_turn : (turn : Turn) (bytes : List ℕ) (fault : FrameFault) → judged (Header turn) bytes ≡ Err fault → IsWrong (dss_in_turn turn) bytes fault
wrong_turn Request (high ∷ low ∷ mark ∷ format ∷ c ∷ d ∷ bytes) fault e = judged_wrong (header_fault Request high low mark format (word c d)) (word c d) _ fault _ e refl
wrong_turn (Object expected) (high ∷ low ∷ mark ∷ format ∷ c ∷ d ∷ bytes) fault e = judged_wrong (header_fault (Object expected) high low mark format (word c d)) (word c d) _ fault _ e refl
wrong_turn turn bytes fault e = absurd cc

wrong : (next : Next) (expected : Expected) (bytes : List ℕ) (fault : FrameFault) → IsExpected next expected → judged expected bytes ≡ Err fault → IsWrong next bytes fault
wrong (dss_in_turn turn) (Header expected) bytes fault h e = subst (λ (t : Turn). IsWrong (dss_in_turn t) bytes fault) (sym h) (wrong_turn expected bytes fault e)
wrong (continuation_of dss declared) (Continuation format of_dss so_far) (high ∷ low ∷ bytes) fault h e =
    let r = judged_wrong (continuation_fault so_far high low) of_dss (outcome (after_segment (is_continued high low) format of_dss (so_far + segment_length high low)) (segment_length high low)) fault _ e refl in
    (ap (λ (m : ℕ). continuation_fault m high low) h.2 ∙ r.0, r.1 ∙ sym h.1)
wrong (continuation_of dss declared) (Continuation format of_dss so_far) bytes fault h e = absurd cc
wrong next expected bytes fault h e = absurd h

-- a header that has come in part
part_turn : (turn : Turn) (dsss : List Dss) (bytes : List ℕ) → IsOpen turn → judged (Header turn) bytes ≡ Ok None → IsUnderWay (run (arrive dsss (dss_in_turn turn)) bytes)
part_turn Request dsss (high ∷ low ∷ mark ∷ format ∷ c ∷ d ∷ bytes) h e = absurd (judged_nothing (header_fault Request high low mark format (word c d)) (word c d) _ _ e refl)
part_turn (Object expected) dsss (high ∷ low ∷ mark ∷ format ∷ c ∷ d ∷ bytes) h e = absurd (judged_nothing (header_fault (Object expected) high low mark format (word c d)) (word c d) _ _ e refl)
part_turn Nothing dsss bytes h e = absurd h
part_turn turn dsss bytes h e = tt

-- no more than the whole command is expected
abbrev pub GoesOn : Expected → Type 0
GoesOn (Header turn) = IsOpen turn
GoesOn (Continuation format of_dss declared) = Unit {0}

part : (next : Next) (expected : Expected) (dsss : List Dss) (bytes : List ℕ) → IsExpected next expected → GoesOn expected → judged expected bytes ≡ Ok None → IsUnderWay (run (arrive dsss next) bytes)
part (dss_in_turn turn) (Header expected) dsss bytes h goes e =
    subst (λ (t : Turn). IsUnderWay (run (arrive dsss (dss_in_turn t)) bytes)) (sym h) (part_turn expected dsss bytes goes e)
part (continuation_of dss declared) (Continuation format of_dss so_far) dsss (high ∷ low ∷ bytes) h goes e =
    absurd (judged_nothing (continuation_fault so_far high low) of_dss (outcome (after_segment (is_continued high low) format of_dss (so_far + segment_length high low)) (segment_length high low)) _ e refl)
part (continuation_of dss declared) (Continuation format of_dss so_far) dsss bytes h goes e = tt
part next expected dsss bytes h goes e = absurd h

-- what is expected behind a segment
border_reaches : (dsss : List Dss) (turn : Turn) (bytes : List ℕ) → Holds (arrive dsss (dss_in_turn turn)) bytes → Reaches bytes (Header turn)
border_reaches dsss Nothing bytes h = (dsss, dss_in_turn Nothing, (let e : bytes ≡ h.0 = h.1 ∙ append-nil h.0 in subst (λ (b : List ℕ). IsCommand b dsss) (sym e) h.2), refl)
border_reaches dsss Request bytes h = (dsss, dss_in_turn Request, (let e : bytes ≡ h.0 = h.1 ∙ append-nil h.0 in subst (λ (b : List ℕ). UpTo b dsss (dss_in_turn Request)) (sym e) h.2), refl)
border_reaches dsss (Object expected) bytes h = (dsss, dss_in_turn (Object expected), (let e : bytes ≡ h.0 = h.1 ∙ append-nil h.0 in subst (λ (b : List ℕ). UpTo b dsss (dss_in_turn (Object expected))) (sym e) h.2), refl)

filled_reaches : (more : Bool) (dsss : List Dss) (dss : Dss) (declared : ℕ) (bytes : List ℕ) → Holds (filled dsss more dss declared) bytes → Reaches bytes (after_segment more dss.format dss.correlator declared)
filled_reaches true dsss dss declared bytes h =
    (dsss, continuation_of dss declared, (let e : bytes ≡ h.0 = h.1 ∙ append-nil h.0 in subst (λ (b : List ℕ). UpTo b dsss (continuation_of dss declared)) (sym e) h.2), (refl, refl, refl))
filled_reaches false dsss dss declared bytes h = border_reaches (dsss ++ dss ∷ []) (turn_after dss.format dss.correlator) bytes h

-- ---- places

reached : (bytes : List ℕ) (place : Progress) → IsAt bytes place → place.at ≤ length bytes → Reaches (take place.at bytes) place.expected
reached bytes place h le =
    subst (λ (b : List ℕ). Reaches (take place.at b) place.expected) (append-nil bytes) (h.there [] (let k = ap length (append-nil bytes) in omega arith))

pub place_fault : (bytes : List ℕ) (place : Progress) (fault : FrameFault) → IsAt bytes place → place.at ≤ length bytes → judged place.expected (drop place.at bytes) ≡ Err fault → FaultAt bytes fault
place_fault bytes place fault h le e =
    let r = reached bytes place h le in
    (take place.at bytes, drop place.at bytes, r.0, r.1, sym (take-append-drop place.at bytes), r.2, wrong r.1 place.expected (drop place.at bytes) fault r.3 e)

pub place_early : (bytes : List ℕ) (place : Progress) → IsAt bytes place → length bytes < place.at → IsUnfinished bytes
place_early bytes place h lt = subst (λ (b : List ℕ). IsUnfinished b) (append-nil bytes) (h.early [] (let k = ap length (append-nil bytes) in omega arith))

run-behind : (bytes rest : List ℕ) (dsss : List Dss) (next : Next) → UpTo bytes dsss next → run start (bytes ++ rest) ≡ run (arrive dsss next) rest
run-behind bytes rest dsss next h = run-append start bytes rest ∙ ap (λ (s : State). run s rest) (run-up_to bytes dsss next h)

pub place_part : (bytes : List ℕ) (place : Progress) → IsAt bytes place → place.at ≤ length bytes → GoesOn place.expected → judged place.expected (drop place.at bytes) ≡ Ok None → IsUnfinished bytes
place_part bytes place h le goes e =
    let r = reached bytes place h le in
    let under = part r.1 place.expected r.0 (drop place.at bytes) r.3 goes e in
    let runs : run start bytes ≡ run (arrive r.0 r.1) (drop place.at bytes) = ap (λ (b : List ℕ). run start b) (sym (take-append-drop place.at bytes)) ∙ run-behind (take place.at bytes) (drop place.at bytes) r.0 r.1 r.2 in
    is_unfinished bytes (let P : State → Type 0 = λ s. IsUnderWay s in subst P (sym runs) under)

whole_command : (dsss : List Dss) (next : Next) (bytes : List ℕ) → UpTo bytes dsss next → IsExpected next (Header Nothing) → IsCommand bytes dsss
whole_command dsss (dss_in_turn turn) bytes h e = subst (λ (t : Turn). UpTo bytes dsss (dss_in_turn t)) e h
whole_command dsss (continuation_of dss declared) bytes h e = absurd e

pub place_command : (bytes : List ℕ) (place : Progress) → IsAt bytes place → place.at ≤ length bytes → place.expected ≡ Header Nothing → HasCommand bytes place.at
place_command bytes place h le e =
    let r = reached bytes place h le in
    (le, (r.0, whole_command r.0 r.1 (take place.at bytes) r.2 (subst (λ (x : Expected). IsExpected r.1 x) e r.3)))

-- the bytes behind a place when more have come
behind_more : (bytes more : List ℕ) (at : ℕ) → at ≤ length bytes → drop at (bytes ++ more) ≡ drop at bytes ++ more
behind_more bytes more at le = drop-append-le at bytes more le

next_there : (bytes more : List ℕ) (place : Progress) (after : Expected) (size : ℕ) → IsAt bytes place → place.at ≤ length bytes
    → judged place.expected (drop place.at bytes) ≡ Ok (Some (after, size))
    → place.at + size ≤ length (bytes ++ more) → Reaches (take (place.at + size) (bytes ++ more)) after
next_there bytes more place after size h le e fits =
    let all : List ℕ = bytes ++ more in
    let at = place.at in
    let grown = length-append bytes more in
    let r = h.there more (omega arith) in
    let x = entered r.1 place.expected r.0 (drop at bytes) after size r.3 e in
    let left : List ℕ = x.behind ++ more in
    let tail : drop at all ≡ x.header ++ left = behind_more bytes more at le ∙ ap (λ (b : List ℕ). b ++ more) x.text ∙ append_assoc x.header x.behind more in
    let contents : List ℕ = take x.missing left in
    let sized : size ≡ length x.header + x.missing = x.sized in
    let tail_length : length all - at ≡ length x.header + length left = sym (length-drop at all) ∙ ap length tail ∙ length-append x.header left in
    let long : length contents ≡ x.missing = length-take-le x.missing left (omega arith) in
    let taken : take (at + size) all ≡ take at all ++ (x.header ++ contents) =
    take-add at size all
    ∙ ap (λ (b : List ℕ). take at all ++ take size b) tail
    ∙ ap (λ (m : ℕ). take at all ++ take m (x.header ++ left)) sized
    ∙ ap (λ (b : List ℕ). take at all ++ b) (take-append-add x.header left x.missing) in
    let runs : run start (take (at + size) all) ≡ filled r.0 x.more (joined x.dss contents) x.declared =
    ap (λ (b : List ℕ). run start b) taken
    ∙ run-behind (take at all) (x.header ++ contents) r.0 r.1 r.2
    ∙ x.runs contents
    ∙ ap (λ (m : ℕ). run (fill r.0 x.more x.dss x.declared m) contents) (sym long)
    ∙ run-fill contents r.0 x.more x.dss x.declared in
    let holds : Holds (filled r.0 x.more (joined x.dss contents) x.declared) (take (at + size) all) =
    subst (λ (s : State). Holds s (take (at + size) all)) runs (start_holds (take (at + size) all)) in
    subst (λ (a : Expected). Reaches (take (at + size) all) a) x.expects (filled_reaches x.more r.0 (joined x.dss contents) x.declared (take (at + size) all) holds)

next_early : (bytes more : List ℕ) (place : Progress) (after : Expected) (size : ℕ) → IsAt bytes place → place.at ≤ length bytes
    → judged place.expected (drop place.at bytes) ≡ Ok (Some (after, size))
    → length (bytes ++ more) < place.at + size → IsUnfinished (bytes ++ more)
next_early bytes more place after size h le e short =
    let all : List ℕ = bytes ++ more in
    let at = place.at in
    let grown = length-append bytes more in
    let r = h.there more (omega arith) in
    let x = entered r.1 place.expected r.0 (drop at bytes) after size r.3 e in
    let left : List ℕ = x.behind ++ more in
    let tail : drop at all ≡ x.header ++ left = behind_more bytes more at le ∙ ap (λ (b : List ℕ). b ++ more) x.text ∙ append_assoc x.header x.behind more in
    let sized : size ≡ length x.header + x.missing = x.sized in
    let tail_length : length all - at ≡ length x.header + length left = sym (length-drop at all) ∙ ap length tail ∙ length-append x.header left in
    let runs : run start all ≡ run (fill r.0 x.more x.dss x.declared x.missing) left =
    ap (λ (b : List ℕ). run start b) (sym (take-append-drop at all))
    ∙ run-behind (take at all) (drop at all) r.0 r.1 r.2
    ∙ ap (λ (b : List ℕ). run (arrive r.0 r.1) b) tail
    ∙ x.runs left in
    is_unfinished all (let P : State → Type 0 = λ s. IsUnderWay s in subst P (sym runs) (run-fill-short left x.missing r.0 x.more x.dss x.declared (omega arith)))

-- one header further on
pub place_next : (bytes : List ℕ) (place : Progress) (after : Expected) (size : ℕ) → IsAt bytes place → place.at ≤ length bytes
    → judged place.expected (drop place.at bytes) ≡ Ok (Some (after, size)) → (1 ≤ size) × (size < 32768) × IsAt bytes (record { at = place.at + size; expected = after })
place_next bytes place after size h le e =
    let r = reached bytes place h le in
    let x = entered r.1 place.expected r.0 (drop place.at bytes) after size r.3 e in
    let short : size < 32768 = x.short in (
      x.some,
      short,
      record {
        early = λ more lt. next_early bytes more place after size h le e lt;
        there = λ more fits. next_there bytes more place after size h le e fits;
        near = omega arith;
        within = subst (λ (a : Expected). IsWithinLimit a) x.expects x.within;
      },
    )

-- more bytes change no place
pub place_more : (bytes more : List ℕ) (place : Progress) → IsAt bytes place → IsAt (bytes ++ more) place
place_more bytes more place h = record {
  early = λ others lt. subst (λ (b : List ℕ). IsUnfinished b) (sym (append_assoc bytes more others)) (h.early (more ++ others) (let k = ap length (append_assoc bytes more others) in omega arith));
  there = λ others le. subst (λ (b : List ℕ). Reaches (take place.at b) place.expected) (sym (append_assoc bytes more others)) (h.there (more ++ others) (let k = ap length (append_assoc bytes more others) in omega arith));
  near = let k = length-append bytes more in let n : place.at ≤ length bytes + 32767 = h.near in omega arith;
  within = h.within;
}

-- before the first command
pub place_first : (bytes : List ℕ) → IsAt bytes (record { at = 0; expected = Header Request })
place_first bytes = record {
  early = λ more lt. absurd (omega arith);
  there = λ more le. ([], dss_in_turn Request, (refl, refl), refl);
  near = omega arith;
  within = tt;
}

-- a header that has not come is shorter than it
short_turn : (turn : Turn) (bytes : List ℕ) → IsOpen turn → judged (Header turn) bytes ≡ Ok None → length bytes < header_length (Header turn)
short_turn Request (high ∷ low ∷ mark ∷ format ∷ c ∷ d ∷ bytes) h e = absurd (judged_nothing (header_fault Request high low mark format (word c d)) (word c d) _ _ e refl)
short_turn (Object expected) (high ∷ low ∷ mark ∷ format ∷ c ∷ d ∷ bytes) h e = absurd (judged_nothing (header_fault (Object expected) high low mark format (word c d)) (word c d) _ _ e refl)
short_turn Nothing bytes h e = absurd h
short_turn Request bytes h e = omega arith
short_turn (Object expected) bytes h e = omega arith

short_header : (expected : Expected) (bytes : List ℕ) → GoesOn expected → judged expected bytes ≡ Ok None → length bytes < header_length expected
short_header (Header turn) bytes goes e = short_turn turn bytes goes e
short_header (Continuation format of_dss so_far) (high ∷ low ∷ bytes) goes e =
    absurd (judged_nothing (continuation_fault so_far high low) of_dss (outcome (after_segment (is_continued high low) format of_dss (so_far + segment_length high low)) (segment_length high low)) _ e refl)
short_header (Continuation format of_dss so_far) bytes goes e = omega arith

place_short : (bytes : List ℕ) (place : Progress) → place.at ≤ length bytes → GoesOn place.expected → judged place.expected (drop place.at bytes) ≡ Ok None
    → length bytes < place.at + header_length place.expected
place_short bytes place le goes e = let k = length-drop place.at bytes in let short = short_header place.expected (drop place.at bytes) goes e in omega arith

waiting : (bytes : List ℕ) (place : Progress) → IsAt bytes place → place.at ≤ length bytes → GoesOn place.expected → judged place.expected (drop place.at bytes) ≡ Ok None → Finds bytes (Ok (Nothing_yet place))
waiting bytes place h le goes e = (place_part bytes place h le goes e, h, place_short bytes place le goes e)

-- what is found where no header has come at a place
found_when_is : (expected : Expected) (bytes : List ℕ) (place : Progress) → place.expected ≡ expected → IsAt bytes place → place.at ≤ length bytes → judged expected (drop place.at bytes) ≡ Ok None
    → Finds bytes (Ok (found_when expected place))
found_when_is (Header Nothing) bytes place same h le e = place_command bytes place h le same
found_when_is (Header Request) bytes place same h le e = waiting bytes place h le (rw same tt) (rw same e)
found_when_is (Header (Object of_dss)) bytes place same h le e = waiting bytes place h le (rw same tt) (rw same e)
found_when_is (Continuation format of_dss declared) bytes place same h le e = waiting bytes place h le (rw same tt) (rw same e)

pub place_found : (bytes : List ℕ) (place : Progress) → IsAt bytes place → place.at ≤ length bytes → judged place.expected (drop place.at bytes) ≡ Ok None → Finds bytes (Ok (found_at place))
place_found bytes place h le e = found_when_is place.expected bytes place refl h le e

-- beyond the bytes that are held
pub place_beyond : (bytes : List ℕ) (place : Progress) → IsAt bytes place → length bytes < place.at → Finds bytes (Ok (Nothing_yet place))
place_beyond bytes place h lt = (place_early bytes place h lt, h, omega arith)

-- ---- the next header, once it has come

turn_size : (turn : Turn) → header_size (dss_in_turn turn) ≡ header_length (Header turn)
turn_size Request = refl
turn_size (Object expected) = refl
turn_size Nothing = refl

expected_size : (next : Next) (expected : Expected) → IsExpected next expected → header_size next ≡ header_length expected
expected_size (dss_in_turn turn) (Header expected) e = ap (λ (t : Turn). header_size (dss_in_turn t)) e ∙ turn_size expected
expected_size (continuation_of dss declared) (Continuation format of_dss so_far) e = refl
expected_size next expected e = absurd e

pub place_judged : (bytes more : List ℕ) (place : Progress) → IsAt bytes place → length (bytes ++ more) ≡ place.at + header_length place.expected → CanBeJudged (bytes ++ more)
place_judged bytes more place h size =
    let all : List ℕ = bytes ++ more in
    let r = h.there more (omega arith) in
    let k = length-drop place.at all in
    let header = expected_size r.1 place.expected r.3 in
    (take place.at all, drop place.at all, r.0, r.1, sym (take-append-drop place.at all), r.2, omega arith)
