-- What the bytes of a text lead to is what it is spelled as.
use Rattle.std.proofs.Common.{◌≡◌, ℕ, zero, suc, ◌+◌, ◌-◌, ◌≤◌, ◌<◌, Bool, true, false, List, [], ◌∷◌, ◌++◌, length, Option, Some, None, refl, sym, ap, subst, ◌∙◌, append_assoc, arith, length-append, mod-lt, lit<}
use Rattle.std.proofs.lemmas.List.{append-nil}
use Rattle.std.proofs.lemmas.List.Folds.{concat-append}
use Rattle.std.specs.List.{concat}
use Rattle.dss_frames.specs.declared.turn.Turn.{Turn}
use Rattle.dss_frames.specs.declared.turn.Turn.TheVariants.{Request, Object, Nothing}
use Rattle.dss_frames.specs.declared.fault.SyntaxCode.{SyntaxCode}
use Rattle.dss_frames.specs.declared.fault.FrameFault.{FrameFault}
use Rattle.drda_words.specs.Number.{word}
use Rattle.dss_frames.specs.Length.{is_continued, segment_length, dss_limit}
use Rattle.dss_frames.specs.Dss.{Dss, AreContinuations, AreSegments, IsDss, AreDsss}
use Rattle.dss_frames.specs.Command.{turn_after, Admits, InTurn}
use Rattle.dss_frames.specs.Fault.{Next, dss_in_turn, continuation_of, UpTo, IsWrong, FaultAt, BeginsWith, header_fault, continuation_fault}
use Rattle.dss_frames.proofs.Headers.{IsRightHeader, header_right, continuation_right}
use Rattle.dss_frames.proofs.Machine.{State, gathering, filling, whole, faulty, arrive, filled, fill, stop_or, begun, joined, gathered, step, run, start}
use Rattle.dss_frames.proofs.Ways.{IsOpen}

-- the segments of a DSS stand at the end of the bytes, behind whole DSSs
pub record Filled (bytes : List ℕ) (dsss : List Dss) (more : Bool) (dss : Dss) (declared : ℕ) : Type 0 where
  pub front : List ℕ
  pub part : List ℕ
  pub turn : Turn
  pub text : bytes ≡ front ++ part
  pub before : AreDsss front dsss
  pub turns : InTurn Request dsss turn
  pub admits : Admits turn dss
  pub segments : AreSegments part dss more
  pub so_far : declared ≡ length part

-- what a state says of the bytes that led to it
abbrev pub Holds : State → List ℕ → Type 0
Holds (gathering dsss next header) bytes = (front : List ℕ) × (bytes ≡ front ++ header) × UpTo front dsss next
Holds (filling dsss more dss declared n) bytes = (missing : List ℕ) → length missing ≡ suc n → Filled (bytes ++ missing) dsss more (joined dss missing) declared
Holds (whole dsss rest) bytes = BeginsWith bytes dsss rest
Holds (faulty fault) bytes = FaultAt bytes fault

arrive_holds : (dsss : List Dss) (next : Next) (bytes : List ℕ) → UpTo bytes dsss next → Holds (arrive dsss next) bytes
arrive_holds dsss (dss_in_turn Nothing) bytes h = (bytes, sym (append-nil bytes), h)
arrive_holds dsss (dss_in_turn Request) bytes h = (bytes, sym (append-nil bytes), h)
arrive_holds dsss (dss_in_turn (Object expected)) bytes h = (bytes, sym (append-nil bytes), h)
arrive_holds dsss (continuation_of dss declared) bytes h = (bytes, sym (append-nil bytes), h)

-- one more DSS
dsss_more : (dsss : List Dss) (front part : List ℕ) (dss : Dss) → AreDsss front dsss → IsDss part dss → AreDsss (front ++ part) (dsss ++ dss ∷ [])
dsss_more [] front part dss h one = rw h (part, [], sym (append-nil part), one, refl)
dsss_more (x ∷ dsss) front part dss h one = (h.0, h.1 ++ part, ap (λ (b : List ℕ). b ++ part) h.2 ∙ append_assoc h.0 h.1 part, h.3, dsss_more dsss h.1 part dss h.4 one)

in_turn_more : (dsss : List Dss) (turn last : Turn) (dss : Dss) → InTurn turn dsss last → Admits last dss → InTurn turn (dsss ++ dss ∷ []) (turn_after dss.format dss.correlator)
in_turn_more [] turn last dss h one = rw h (one, refl)
in_turn_more (x ∷ dsss) turn last dss h one = (h.0, in_turn_more dsss (turn_after x.format x.correlator) last dss h.1 one)

filled_holds : (more : Bool) (bytes : List ℕ) (dsss : List Dss) (dss : Dss) (declared : ℕ) → Filled bytes dsss more dss declared → Holds (filled dsss more dss declared) bytes
filled_holds true bytes dsss dss declared h = (bytes, sym (append-nil bytes), (h.front, h.part, h.turn, h.text, h.before, h.turns, h.admits, h.segments, h.so_far))
filled_holds false bytes dsss dss declared h =
    arrive_holds (dsss ++ dss ∷ []) (dss_in_turn (turn_after dss.format dss.correlator)) bytes
    (rw h.text (dsss_more dsss h.front h.part dss h.before h.segments), in_turn_more dsss Request h.turn dss h.turns h.admits)

joined_nothing : (dss : Dss) → joined dss [] ≡ dss
joined_nothing dss = ap (λ (b : List ℕ). let d : Dss = record { format = dss.format; correlator = dss.correlator; contents = b } in d) (append-nil dss.contents)

pub fill_holds : (n : ℕ) (bytes : List ℕ) (dsss : List Dss) (more : Bool) (dss : Dss) (declared : ℕ)
    → ((missing : List ℕ) → length missing ≡ n → Filled (bytes ++ missing) dsss more (joined dss missing) declared)
    → Holds (fill dsss more dss declared n) bytes
fill_holds zero bytes dsss more dss declared h =
    let none = h [] refl in
    filled_holds more bytes dsss dss declared
    (subst (λ (b : List ℕ). Filled b dsss more dss declared) (append-nil bytes) (subst (λ (d : Dss). Filled (bytes ++ []) dsss more d declared) (joined_nothing dss) none))
fill_holds (suc n) bytes dsss more dss declared h = h

-- a wrong header stays wrong when more bytes come
pub wrong_more : (next : Next) (bytes more : List ℕ) (fault : FrameFault) → IsWrong next bytes fault → IsWrong next (bytes ++ more) fault
wrong_more (dss_in_turn Nothing) bytes more fault h = absurd h
wrong_more (dss_in_turn Request) (high ∷ low ∷ mark ∷ format ∷ c ∷ d ∷ bytes) more fault h = h
wrong_more (dss_in_turn (Object expected)) (high ∷ low ∷ mark ∷ format ∷ c ∷ d ∷ bytes) more fault h = h
wrong_more (continuation_of dss declared) (high ∷ low ∷ bytes) more fault h = h
wrong_more next bytes more fault h = absurd h

pub fault_more : (bytes more : List ℕ) (fault : FrameFault) → FaultAt bytes fault → FaultAt (bytes ++ more) fault
fault_more bytes more fault h =
    (h.0, h.1 ++ more, h.2, h.3, ap (λ (b : List ℕ). b ++ more) h.4 ∙ append_assoc h.0 h.1 more, h.5, wrong_more h.3 h.1 more fault h.6)

pub begins_more : (bytes more rest : List ℕ) (dsss : List Dss) → BeginsWith bytes dsss rest → BeginsWith (bytes ++ more) dsss (rest ++ more)
begins_more bytes more rest dsss h = (h.0, ap (λ (b : List ℕ). b ++ more) h.1 ∙ append_assoc h.0 rest more, h.2)

-- ---- a header of six bytes

wrong_header : (turn : Turn) (high low mark format c d : ℕ) (found : SyntaxCode) → IsOpen turn → header_fault turn high low mark format (word c d) ≡ Some found
    → IsWrong (dss_in_turn turn) (high ∷ low ∷ mark ∷ format ∷ c ∷ d ∷ []) (record { code = found; correlator = word c d })
wrong_header Request high low mark format c d found h e = (e, refl)
wrong_header (Object expected) high low mark format c d found h e = (e, refl)
wrong_header Nothing high low mark format c d found h e = absurd h

segment_short : (high low : ℕ) → segment_length high low < 32768
segment_short high low = mod-lt (word high low) (lit< tt)

header_filled : (turn : Turn) (dsss : List Dss) (front bytes missing : List ℕ) (high low mark format c d : ℕ)
    → UpTo front dsss (dss_in_turn turn) → bytes ≡ front ++ (high ∷ low ∷ mark ∷ format ∷ c ∷ d ∷ []) → IsRightHeader turn high low mark format (word c d)
    → length missing ≡ segment_length high low - 6
    → Filled (bytes ++ missing) dsss (is_continued high low) (joined (begun format (word c d)) missing) (segment_length high low)
header_filled turn dsss front bytes missing high low mark format c d up_to text right size =
    let short = segment_short high low in
    let counts : 6 ≤ segment_length high low = right.counts in
    let part : List ℕ = high ∷ low ∷ mark ∷ format ∷ c ∷ d ∷ missing in
    record {
      front = front;
      part = part;
      turn = turn;
      text = ap (λ (b : List ℕ). b ++ missing) text ∙ append_assoc front (high ∷ low ∷ mark ∷ format ∷ c ∷ d ∷ []) missing;
      before = up_to.0;
      turns = up_to.1;
      admits = record { supported = right.supported; paired = right.paired; due = right.due };
      segments = record {
        high = high;
        low = low;
        correlator_high = c;
        correlator_low = d;
        first = missing;
        rest = [];
        pieces = [];
        text = ap (λ (m : ℕ). high ∷ low ∷ m ∷ format ∷ c ∷ d ∷ missing) right.marked ∙ sym (append-nil (high ∷ low ∷ 0xD0 ∷ format ∷ c ∷ d ∷ missing));
        correlator = refl;
        counts = omega arith;
        continued = (refl, refl);
        joined = sym (append-nil missing);
        within = omega arith;
      };
      so_far = omega arith;
    }

header_holds : (found : Option SyntaxCode) (turn : Turn) (dsss : List Dss) (front bytes : List ℕ) (high low mark format c d : ℕ) → IsOpen turn
    → UpTo front dsss (dss_in_turn turn) → bytes ≡ front ++ (high ∷ low ∷ mark ∷ format ∷ c ∷ d ∷ []) → header_fault turn high low mark format (word c d) ≡ found
    → Holds (stop_or found (word c d) (fill dsss (is_continued high low) (begun format (word c d)) (segment_length high low) (segment_length high low - 6))) bytes
header_holds (Some found) turn dsss front bytes high low mark format c d turn_open up_to text e =
    (front, high ∷ low ∷ mark ∷ format ∷ c ∷ d ∷ [], dsss, dss_in_turn turn, text, up_to, wrong_header turn high low mark format c d found turn_open e)
header_holds None turn dsss front bytes high low mark format c d turn_open up_to text e =
    fill_holds (segment_length high low - 6) bytes dsss (is_continued high low) (begun format (word c d)) (segment_length high low)
    (λ missing size. header_filled turn dsss front bytes missing high low mark format c d up_to text (header_right turn high low mark format (word c d) e) size)

-- ---- a continuation's header of two bytes

continuations_more : (pieces : List (List ℕ)) (before : Bool) (bytes piece : List ℕ) (high low : ℕ) → AreContinuations before bytes pieces true
    → segment_length high low ≡ 2 + length piece → 1 ≤ length piece
    → AreContinuations before (bytes ++ (high ∷ low ∷ piece)) (pieces ++ piece ∷ []) (is_continued high low)
continuations_more [] before bytes piece high low h counts some =
    rw h.0 (high, low, [], h.1, sym (append-nil (high ∷ low ∷ piece)), counts, some, (refl, refl))
continuations_more (x ∷ pieces) before bytes piece high low h counts some = (
  h.0,
  h.1,
  h.2 ++ (high ∷ low ∷ piece),
  h.3,
  ap (λ (b : List ℕ). b ++ (high ∷ low ∷ piece)) h.4 ∙ append_assoc (h.0 ∷ h.1 ∷ x) h.2 (high ∷ low ∷ piece),
  h.5,
  h.6,
  continuations_more pieces (is_continued h.0 h.1) h.2 piece high low h.7 counts some,
)

concat-more : (pieces : List (List ℕ)) (piece : List ℕ) → concat (pieces ++ piece ∷ []) ≡ concat pieces ++ piece
concat-more pieces piece = concat-append pieces (piece ∷ []) ∙ ap (λ (b : List ℕ). concat pieces ++ b) (append-nil piece)

segments_more : (part piece : List ℕ) (dss : Dss) (high low : ℕ) → AreSegments part dss true → segment_length high low ≡ 2 + length piece → 1 ≤ length piece
    → length part + segment_length high low ≤ dss_limit → AreSegments (part ++ (high ∷ low ∷ piece)) (joined dss piece) (is_continued high low)
segments_more part piece dss high low h counts some within = record {
  high = h.high;
  low = h.low;
  correlator_high = h.correlator_high;
  correlator_low = h.correlator_low;
  first = h.first;
  rest = h.rest ++ (high ∷ low ∷ piece);
  pieces = h.pieces ++ piece ∷ [];
  text = ap (λ (b : List ℕ). b ++ (high ∷ low ∷ piece)) h.text ∙ append_assoc (h.high ∷ h.low ∷ 0xD0 ∷ dss.format ∷ h.correlator_high ∷ h.correlator_low ∷ h.first) h.rest (high ∷ low ∷ piece);
  correlator = h.correlator;
  counts = h.counts;
  continued = continuations_more h.pieces (is_continued h.high h.low) h.rest piece high low h.continued counts some;
  joined = ap (λ (b : List ℕ). b ++ piece) h.joined ∙ append_assoc h.first (concat h.pieces) piece ∙ ap (λ (b : List ℕ). h.first ++ b) (sym (concat-more h.pieces piece));
  within = let k = length-append part (high ∷ low ∷ piece) in omega arith;
}

continuation_filled : (dsss : List Dss) (dss : Dss) (declared : ℕ) (front bytes missing : List ℕ) (high low : ℕ)
    → UpTo front dsss (continuation_of dss declared) → bytes ≡ front ++ (high ∷ low ∷ []) → declared + segment_length high low ≤ dss_limit → 3 ≤ segment_length high low
    → length missing ≡ segment_length high low - 2
    → Filled (bytes ++ missing) dsss (is_continued high low) (joined dss missing) (declared + segment_length high low)
continuation_filled dsss dss declared front bytes missing high low up_to text within counts size =
    let part : List ℕ = up_to.1 in
    let so_far : declared ≡ length part = up_to.8 in
    let grown = length-append part (high ∷ low ∷ missing) in
    record {
      front = up_to.0;
      part = part ++ (high ∷ low ∷ missing);
      turn = up_to.2;
      text = ap (λ (b : List ℕ). b ++ missing) text ∙ append_assoc front (high ∷ low ∷ []) missing ∙ ap (λ (b : List ℕ). b ++ (high ∷ low ∷ missing)) up_to.3 ∙ append_assoc up_to.0 part (high ∷ low ∷ missing);
      before = up_to.4;
      turns = up_to.5;
      admits = record { supported = up_to.6.supported; paired = up_to.6.paired; due = up_to.6.due };
      segments = segments_more part missing dss high low up_to.7 (omega arith) (omega arith) (omega arith);
      so_far = omega arith;
    }

continuation_holds : (found : Option SyntaxCode) (dsss : List Dss) (dss : Dss) (declared : ℕ) (front bytes : List ℕ) (high low : ℕ)
    → UpTo front dsss (continuation_of dss declared) → bytes ≡ front ++ (high ∷ low ∷ []) → continuation_fault declared high low ≡ found
    → Holds (stop_or found dss.correlator (fill dsss (is_continued high low) dss (declared + segment_length high low) (segment_length high low - 2))) bytes
continuation_holds (Some found) dsss dss declared front bytes high low up_to text e =
    (front, high ∷ low ∷ [], dsss, continuation_of dss declared, text, up_to, (e, refl))
continuation_holds None dsss dss declared front bytes high low up_to text e =
    let right = continuation_right declared high low e in
    fill_holds (segment_length high low - 2) bytes dsss (is_continued high low) dss (declared + segment_length high low)
    (λ missing size. continuation_filled dsss dss declared front bytes missing high low up_to text right.0 right.1 size)

-- ---- byte by byte

gathered_holds : (dsss : List Dss) (next : Next) (header front bytes : List ℕ) → bytes ≡ front ++ header → UpTo front dsss next → Holds (gathered dsss next header) bytes
gathered_holds dsss (dss_in_turn Nothing) header front bytes text up_to = (front, text, up_to)
gathered_holds dsss (dss_in_turn Request) (high ∷ low ∷ mark ∷ format ∷ c ∷ d ∷ []) front bytes text up_to =
    header_holds (header_fault Request high low mark format (word c d)) Request dsss front bytes high low mark format c d tt up_to text refl
gathered_holds dsss (dss_in_turn (Object expected)) (high ∷ low ∷ mark ∷ format ∷ c ∷ d ∷ []) front bytes text up_to =
    header_holds (header_fault (Object expected) high low mark format (word c d)) (Object expected) dsss front bytes high low mark format c d tt up_to text refl
gathered_holds dsss (continuation_of dss declared) (high ∷ low ∷ []) front bytes text up_to =
    continuation_holds (continuation_fault declared high low) dsss dss declared front bytes high low up_to text refl
gathered_holds dsss next header front bytes text up_to = (front, text, up_to)

step_holds : (state : State) (bytes : List ℕ) (byte : ℕ) → Holds state bytes → Holds (step state byte) (bytes ++ byte ∷ [])
step_holds (gathering dsss next header) bytes byte h =
    gathered_holds dsss next (header ++ byte ∷ []) h.0 (bytes ++ byte ∷ []) (ap (λ (b : List ℕ). b ++ byte ∷ []) h.1 ∙ append_assoc h.0 header (byte ∷ [])) h.2
step_holds (filling dsss more dss declared n) bytes byte h =
    fill_holds n (bytes ++ byte ∷ []) dsss more (joined dss (byte ∷ [])) declared
    (λ missing size.
    let all = h (byte ∷ missing) (ap suc size) in
    let same : joined dss (byte ∷ missing) ≡ joined (joined dss (byte ∷ [])) missing =
    ap (λ (b : List ℕ). let d : Dss = record { format = dss.format; correlator = dss.correlator; contents = b } in d) (sym (append_assoc dss.contents (byte ∷ []) missing)) in
    subst (λ (b : List ℕ). Filled b dsss more (joined (joined dss (byte ∷ [])) missing) declared) (sym (append_assoc bytes (byte ∷ []) missing))
    (subst (λ (d : Dss). Filled (bytes ++ (byte ∷ missing)) dsss more d declared) same all))
step_holds (whole dsss rest) bytes byte h = begins_more bytes (byte ∷ []) rest dsss h
step_holds (faulty fault) bytes byte h = fault_more bytes (byte ∷ []) fault h

run_holds : (bytes front : List ℕ) (state : State) → Holds state front → Holds (run state bytes) (front ++ bytes)
run_holds [] front state h = subst (λ (b : List ℕ). Holds state b) (sym (append-nil front)) h
run_holds (byte ∷ bytes) front state h = subst (λ (b : List ℕ). Holds (run (step state byte) bytes) b) (append_assoc front (byte ∷ []) bytes) (run_holds bytes (front ++ byte ∷ []) (step state byte) (step_holds state front byte h))

pub start_holds : (bytes : List ℕ) → Holds (run start bytes) bytes
start_holds bytes = run_holds bytes [] start ([], refl, (refl, refl))
