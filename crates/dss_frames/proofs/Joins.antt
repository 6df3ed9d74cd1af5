-- Joining a DSS in place, one segment after the other.
use Rattle.std.proofs.Common.{◌≡◌, ℕ, zero, suc, ◌+◌, ◌-◌, ◌≤◌, Bool, true, false, cond, ◌&&◌, List, [], ◌∷◌, ◌++◌, length, take, drop, Some, None, refl, sym, ap, subst, ◌∙◌, append_assoc, arith, length-append, take-append-drop}
use Rattle.std.specs.Prelude.{nat_le, slice_set}
use Rattle.std.specs.List.{concat}
use Rattle.std.proofs.lemmas.List.{append-nil, drop-drop, length-take-le}
use Rattle.std.proofs.lemmas.Bool.{le-leb, leb-true}
use Rattle.std.proofs.Math.Seq.{take-append_seam, drop-append_seam, drop-append-add}
use Rattle.drda_words.specs.Number.{word}
use Rattle.dss_frames.specs.Length.{is_continued, segment_length, dss_limit}
use Rattle.dss_frames.specs.Dss.{Dss, AreContinuations, IsDss}
use Rattle.dss_frames.specs.Joining.{count_bytes, IsJoined, segment_in}

-- ---- lists

pub drop_further : (a b : ℕ) (xs ys : List ℕ) → a ≤ b → drop a xs ≡ drop a ys → drop b xs ≡ drop b ys
drop_further a b xs ys le e =
    let k : a + (b - a) ≡ b = omega arith in
    ap (λ (n : ℕ). drop n xs) (sym k) ∙ sym (drop-drop (b - a) a xs) ∙ ap (λ (l : List ℕ). drop (b - a) l) e ∙ drop-drop (b - a) a ys ∙ ap (λ (n : ℕ). drop n ys) k

pub set_three : (at : ℕ) (xs : List ℕ) (a b c : ℕ) → at + 3 ≤ length xs
    → slice_set (slice_set (slice_set xs at a) (at + 1) b) (at + 2) c ≡ take at xs ++ (a ∷ b ∷ c ∷ []) ++ drop (at + 3) xs
set_three zero (x ∷ y ∷ z ∷ xs) a b c le = refl
set_three zero (x ∷ y ∷ []) a b c le = absurd (omega arith)
set_three zero (x ∷ []) a b c le = absurd (omega arith)
set_three zero [] a b c le = absurd (omega arith)
set_three (suc at) [] a b c le = absurd (omega arith)
set_three (suc at) (x ∷ xs) a b c le =
    let one : suc at + 1 ≡ suc (at + 1) = omega arith in
    let two : suc at + 2 ≡ suc (at + 2) = omega arith in
    let three : suc at + 3 ≡ suc (at + 3) = omega arith in
    rw (one, two, three) (ap (λ (l : List ℕ). x ∷ l) (set_three at xs a b c (omega arith)))

-- three bytes written over
pub over_three : (front old tail : List ℕ) (at : ℕ) (x y z : ℕ) (three : List ℕ) → at ≡ length front → old ≡ front ++ (x ∷ y ∷ z ∷ tail)
    → take at old ++ three ++ drop (at + 3) old ≡ front ++ (three ++ tail)
over_three front old tail at x y z three e f =
    let first : take at old ≡ front = rw (e, f) (take-append_seam front (x ∷ y ∷ z ∷ tail)) in
    let last : drop (at + 3) old ≡ tail = rw (e, f) (drop-append-add front (x ∷ y ∷ z ∷ tail) 3) in
    rw (first, last) (append_assoc front three tail)

pub behind_three : (old : List ℕ) (at b : ℕ) (x y z : ℕ) → at + 3 ≤ length old → at + 3 ≤ b → drop b (take at old ++ (x ∷ y ∷ z ∷ []) ++ drop (at + 3) old) ≡ drop b old
behind_three old at b x y z le further =
    let three : List ℕ = x ∷ y ∷ z ∷ [] in
    let size : length (take at old ++ three) ≡ at + 3 = length-append (take at old) three ∙ (let k = length-take-le at old (omega arith) in omega arith) in
    drop_further (at + 3) b (take at old ++ three ++ drop (at + 3) old) old further
    (ap (λ (n : ℕ). drop n (take at old ++ three ++ drop (at + 3) old)) (sym size) ∙ drop-append_seam (take at old ++ three) (drop (at + 3) old))

-- ---- the segment in front

abbrev pair : ℕ → Bool → ℕ × Bool
pair size continued = (size, continued)

there : (a b : Bool) (n : ℕ) (more : Bool) (size : ℕ) (continued : Bool) → a ≡ true → b ≡ true → cond (a && b) (Some (pair n more)) None ≡ Some (pair size continued) → (n ≡ size) × (more ≡ continued)
there true true n more size continued p q e =
    let same : pair n more ≡ pair size continued = cc in
    (ap (λ (p : ℕ × Bool). p.0) same, ap (λ (p : ℕ × Bool). p.1) same)
there true false n more size continued p q e = absurd cc
there false b n more size continued p q e = absurd cc

not_there : (a b : Bool) (x : ℕ × Bool) → a ≡ true → b ≡ true → cond (a && b) (Some x) None ≡ None → ⊥
not_there true true x p q e = cc
not_there true false x p q e = cc
not_there false b x p q e = cc

segment_there : (least room high low : ℕ) (bytes text : List ℕ) (size : ℕ) (continued : Bool) → text ≡ high ∷ low ∷ bytes → least ≤ segment_length high low → segment_length high low ≤ room
    → segment_in least room text ≡ Some (size, continued) → (segment_length high low ≡ size) × (is_continued high low ≡ continued)
segment_there least room high low bytes text size continued same more fits e =
    there (nat_le least (segment_length high low)) (nat_le (segment_length high low) room) (segment_length high low) (is_continued high low) size continued
    (le-leb least (segment_length high low) more) (le-leb (segment_length high low) room fits) (ap (segment_in least room) (sym same) ∙ e)

segment_not_there : (least room high low : ℕ) (bytes text : List ℕ) → text ≡ high ∷ low ∷ bytes → least ≤ segment_length high low → segment_length high low ≤ room
    → segment_in least room text ≡ None → ⊥
segment_not_there least room high low bytes text same more fits e =
    not_there (nat_le least (segment_length high low)) (nat_le (segment_length high low) room) (segment_length high low, is_continued high low)
    (le-leb least (segment_length high low) more) (le-leb (segment_length high low) room fits) (ap (segment_in least room) (sym same) ∙ e)

passed : (a b : Bool) (n : ℕ) (more : Bool) (size : ℕ) (continued : Bool) → cond (a && b) (Some (pair n more)) None ≡ Some (pair size continued) → (a ≡ true) × (b ≡ true) × (n ≡ size)
passed true true n more size continued e =
    let same : pair n more ≡ pair size continued = cc in
    (refl, refl, ap (λ (p : ℕ × Bool). p.0) same)
passed true false n more size continued e = absurd cc
passed false b n more size continued e = absurd cc

pub segment_bounds : (least room : ℕ) (text : List ℕ) (size : ℕ) (continued : Bool) → segment_in least room text ≡ Some (size, continued) → (least ≤ size) × (size ≤ room)
segment_bounds least room [] size continued e = absurd cc
segment_bounds least room (high ∷ []) size continued e = absurd cc
segment_bounds least room (high ∷ low ∷ bytes) size continued e =
    let n = segment_length high low in
    let p = passed (nat_le least n) (nat_le n room) n (is_continued high low) size continued e in
    let more : least ≤ n = leb-true least n p.0 in
    let fits : n ≤ room = leb-true n room p.1 in
    let same : n ≡ size = p.2 in
    (omega arith, omega arith)

-- ---- a DSS of which some segments are joined

pub record JoinsSoFar (old new : List ℕ) (from to next behind : ℕ) (more : Bool) (dss : Dss) (part after : List ℕ) : Type 0 where
  pub high : ℕ
  pub low : ℕ
  pub c : ℕ
  pub d : ℕ
  pub contents : List ℕ
  pub rest : List ℕ
  pub pieces : List (List ℕ)
  pub left : drop next new ≡ rest ++ after
  pub place : next + length rest ≡ from + length part
  pub continued : AreContinuations more rest pieces false
  pub joined : dss.contents ≡ contents ++ concat pieces
  pub moved : take behind new ≡ take to old ++ (high ∷ low ∷ 0xD0 ∷ dss.format ∷ c ∷ d ∷ contents)
  pub counts : behind ≡ to + 6 + length contents
  pub correlator : dss.correlator ≡ word c d
  pub room : length contents + length rest + 6 ≤ length part

header_parts : (high low mark format c d : ℕ) (first rest after part : List ℕ) → part ≡ high ∷ low ∷ mark ∷ format ∷ c ∷ d ∷ first ++ rest
    → (part ++ after ≡ (high ∷ low ∷ mark ∷ format ∷ c ∷ d ∷ first) ++ (rest ++ after)) × (length part ≡ 6 + length first + length rest)
header_parts high low mark format c d first rest after part e = (
  ap (λ (b : List ℕ). b ++ after) e ∙ append_assoc (high ∷ low ∷ mark ∷ format ∷ c ∷ d ∷ first) rest after,
  ap length e ∙ (let k = length-append first rest in omega arith),
)

pub first_joined : (old new : List ℕ) (from to end size : ℕ) (continued : Bool) (dss : Dss) (part after : List ℕ) → drop from old ≡ part ++ after → from + length part ≤ end → IsDss part dss
    → segment_in 6 (end - from) (drop from old) ≡ Some (size, continued)
    → take (to + size) new ≡ take to old ++ take size (drop from old) → drop (from + size) new ≡ drop (from + size) old
    → JoinsSoFar old new from to (from + size) (to + size) continued dss part after
first_joined old new from to end size continued dss part after e fits h some front behind =
    let header : List ℕ = h.high ∷ h.low ∷ 0xD0 ∷ dss.format ∷ h.correlator_high ∷ h.correlator_low ∷ h.first in
    let p = header_parts h.high h.low 0xD0 dss.format h.correlator_high h.correlator_low h.first h.rest after part h.text in
    let counts : segment_length h.high h.low ≡ 6 + length h.first = h.counts in
    let long : length part ≡ 6 + length h.first + length h.rest = p.1 in
    let s = segment_there 6 (end - from) h.high h.low (0xD0 ∷ dss.format ∷ h.correlator_high ∷ h.correlator_low ∷ h.first ++ (h.rest ++ after)) (drop from old) size continued (e ∙ p.0) (omega arith) (omega arith) some in
    let sized : size ≡ length header = omega arith in
    let all : drop from old ≡ header ++ (h.rest ++ after) = e ∙ p.0 in
    record {
      high = h.high;
      low = h.low;
      c = h.correlator_high;
      d = h.correlator_low;
      contents = h.first;
      rest = h.rest;
      pieces = h.pieces;
      left = behind ∙ sym (drop-drop size from old) ∙ ap (λ (b : List ℕ). drop size b) all ∙ ap (λ (n : ℕ). drop n (header ++ (h.rest ++ after))) sized ∙ drop-append_seam header (h.rest ++ after);
      place = omega arith;
      continued = subst (λ (b : Bool). AreContinuations b h.rest h.pieces false) s.1 h.continued;
      joined = h.joined;
      moved = front ∙ ap (λ (b : List ℕ). take to old ++ take size b) all ∙ ap (λ (n : ℕ). take to old ++ take n (header ++ (h.rest ++ after))) sized ∙ ap (λ (b : List ℕ). take to old ++ b) (take-append_seam header (h.rest ++ after));
      counts = omega arith;
      correlator = h.correlator;
      room = omega arith;
    }

-- a further segment: it is there
record Piece (rest : List ℕ) (pieces : List (List ℕ)) : Type 0 where
  high : ℕ
  low : ℕ
  piece : List ℕ
  others : List (List ℕ)
  remains : List ℕ
  pieces_are : pieces ≡ piece ∷ others
  text : rest ≡ high ∷ low ∷ piece ++ remains
  counts : segment_length high low ≡ 2 + length piece
  some : 1 ≤ length piece
  continued : AreContinuations (is_continued high low) remains others false

piece_of : (pieces : List (List ℕ)) (rest : List ℕ) (more : Bool) → more ≡ true → AreContinuations more rest pieces false → Piece rest pieces
piece_of [] rest more e h = absurd (let wrong : true ≡ false = sym e ∙ h.1 in cc)
piece_of (piece ∷ others) rest more e h = record {
  high = h.0;
  low = h.1;
  piece = piece;
  others = others;
  remains = h.2;
  pieces_are = refl;
  text = h.4;
  counts = h.5;
  some = h.6;
  continued = h.7;
}

piece_parts : (high low : ℕ) (piece remains after rest : List ℕ) → rest ≡ high ∷ low ∷ piece ++ remains
    → (rest ++ after ≡ (high ∷ low ∷ piece) ++ (remains ++ after)) × (length rest ≡ 2 + length piece + length remains)
piece_parts high low piece remains after rest e =
    (ap (λ (b : List ℕ). b ++ after) e ∙ append_assoc (high ∷ low ∷ piece) remains after, ap length e ∙ (let k = length-append piece remains in omega arith))

pub next_missing : (old new : List ℕ) (from to next behind end : ℕ) (more : Bool) (dss : Dss) (part after : List ℕ) → more ≡ true → from + length part ≤ end
    → JoinsSoFar old new from to next behind more dss part after → segment_in 3 (end - next) (drop next new) ≡ None → ⊥
next_missing old new from to next behind end more dss part after e fits h none =
    let p = piece_of h.pieces h.rest more e h.continued in
    let t = piece_parts p.high p.low p.piece p.remains after h.rest p.text in
    let counts : segment_length p.high p.low ≡ 2 + length p.piece = p.counts in
    let some : 1 ≤ length p.piece = p.some in
    let long : length h.rest ≡ 2 + length p.piece + length p.remains = t.1 in
    let place : next + length h.rest ≡ from + length part = h.place in
    segment_not_there 3 (end - next) p.high p.low (p.piece ++ (p.remains ++ after)) (drop next new) (h.left ∙ t.0) (omega arith) (omega arith) none

pub next_joined : (old new newer : List ℕ) (from to next behind end size : ℕ) (more continued : Bool) (dss : Dss) (part after : List ℕ) → more ≡ true → from + length part ≤ end
    → JoinsSoFar old new from to next behind more dss part after → segment_in 3 (end - next) (drop next new) ≡ Some (size, continued)
    → take (behind + (size - 2)) newer ≡ take behind new ++ take (size - 2) (drop (next + 2) new) → drop (next + 2 + (size - 2)) newer ≡ drop (next + 2 + (size - 2)) new
    → JoinsSoFar old newer from to (next + size) (behind + (size - 2)) continued dss part after
next_joined old new newer from to next behind end size more continued dss part after e fits h some front tail =
    let p = piece_of h.pieces h.rest more e h.continued in
    let t = piece_parts p.high p.low p.piece p.remains after h.rest p.text in
    let counts : segment_length p.high p.low ≡ 2 + length p.piece = p.counts in
    let not_empty : 1 ≤ length p.piece = p.some in
    let long : length h.rest ≡ 2 + length p.piece + length p.remains = t.1 in
    let place : next + length h.rest ≡ from + length part = h.place in
    let s = segment_there 3 (end - next) p.high p.low (p.piece ++ (p.remains ++ after)) (drop next new) size continued (h.left ∙ t.0) (omega arith) (omega arith) some in
    let sized : size ≡ 2 + length p.piece = sym s.0 ∙ counts in
    let count : size - 2 ≡ length p.piece = omega arith in
    let all : next + 2 + (size - 2) ≡ next + size = omega arith in
    let segment : List ℕ = p.high ∷ p.low ∷ p.piece in
    let segment_size : size ≡ length segment = omega arith in
    let at_next : drop next new ≡ segment ++ (p.remains ++ after) = h.left ∙ t.0 in
    let at_piece : drop (next + 2) new ≡ p.piece ++ (p.remains ++ after) = sym (drop-drop 2 next new) ∙ ap (λ (b : List ℕ). drop 2 b) at_next in
    let size_room : length h.contents + length h.rest + 6 ≤ length part = h.room in
    let grown = length-append h.contents p.piece in
    let so_far : behind ≡ to + 6 + length h.contents = h.counts in
    record {
      high = h.high;
      low = h.low;
      c = h.c;
      d = h.d;
      contents = h.contents ++ p.piece;
      rest = p.remains;
      pieces = p.others;
      left = ap (λ (n : ℕ). drop n newer) (sym all) ∙ tail ∙ ap (λ (n : ℕ). drop n new) all ∙ sym (drop-drop size next new) ∙ ap (λ (b : List ℕ). drop size b) at_next ∙ ap (λ (n : ℕ). drop n (segment ++ (p.remains ++ after))) segment_size ∙ drop-append_seam segment (p.remains ++ after);
      place = omega arith;
      continued = subst (λ (b : Bool). AreContinuations b p.remains p.others false) s.1 p.continued;
      joined = h.joined ∙ ap (λ (ps : List (List ℕ)). h.contents ++ concat ps) p.pieces_are ∙ sym (append_assoc h.contents p.piece (concat p.others));
      moved = front ∙ ap (λ (b : List ℕ). take behind new ++ take (size - 2) b) at_piece ∙ ap (λ (n : ℕ). take behind new ++ take n (p.piece ++ (p.remains ++ after))) count
          ∙ ap (λ (b : List ℕ). take behind new ++ b) (take-append_seam p.piece (p.remains ++ after)) ∙ ap (λ (b : List ℕ). b ++ p.piece) h.moved
          ∙ append_assoc (take to old) (h.high ∷ h.low ∷ 0xD0 ∷ dss.format ∷ h.c ∷ h.d ∷ h.contents) p.piece;
      counts = omega arith;
      correlator = h.correlator;
      room = omega arith;
    }

no_more : (pieces : List (List ℕ)) (rest : List ℕ) (more : Bool) → more ≡ false → AreContinuations more rest pieces false → (rest ≡ []) × (pieces ≡ [])
no_more [] rest more e h = (h.0, refl)
no_more (piece ∷ pieces) rest more e h = absurd (let wrong : false ≡ true = sym e ∙ h.3 in cc)

-- the last segment is joined
pub all_joined : (old new newer : List ℕ) (from to next behind end : ℕ) (more : Bool) (dss : Dss) (part after : List ℕ) → more ≡ false → to ≤ length old → behind ≤ length new → behind ≤ next
    → IsDss part dss
    → JoinsSoFar old new from to next behind more dss part after → newer ≡ take to new ++ count_bytes (behind - to - 6) ++ drop (to + 3) new
    → (next ≡ from + length part) × (drop next newer ≡ after) × ((text : List ℕ) × (take behind newer ≡ take to old ++ text) × IsJoined text dss)
all_joined old new newer from to next behind end more dss part after e le fits down is h written =
    let none = no_more h.pieces h.rest more e h.continued in
    let nothing_left : length h.rest ≡ 0 = ap length none.0 in
    let place : next + length h.rest ≡ from + length part = h.place in
    let contents : dss.contents ≡ h.contents = h.joined ∙ ap (λ (ps : List (List ℕ)). h.contents ++ concat ps) none.1 ∙ append-nil h.contents in
    let so_far : behind ≡ to + 6 + length h.contents = h.counts in
    let count : behind - to - 6 ≡ length h.contents = omega arith in
    let tail : List ℕ = dss.format ∷ h.c ∷ h.d ∷ h.contents in
    let three : List ℕ = count_bytes (behind - to - 6) in
    let at : to ≡ length (take to old) = sym (length-take-le to old le) in
    let new_is : new ≡ take to old ++ (h.high ∷ h.low ∷ 0xD0 ∷ (tail ++ drop behind new)) =
    sym (take-append-drop behind new) ∙ ap (λ (b : List ℕ). b ++ drop behind new) h.moved ∙ append_assoc (take to old) (h.high ∷ h.low ∷ 0xD0 ∷ tail) (drop behind new) in
    let newer_is : newer ≡ take to old ++ (three ++ (tail ++ drop behind new)) = written ∙ over_three (take to old) new (tail ++ drop behind new) to h.high h.low 0xD0 three at new_is in
    let text : List ℕ = three ++ tail in
    let whole : newer ≡ (take to old ++ text) ++ drop behind new =
    newer_is ∙ ap (λ (b : List ℕ). take to old ++ b) (sym (append_assoc three tail (drop behind new))) ∙ sym (append_assoc (take to old) text (drop behind new)) in
    let size : length (take to old ++ text) ≡ behind = length-append (take to old) text ∙ omega arith in
    let is_within : length part ≤ dss_limit = is.within in
    let room : length h.contents + length h.rest + 6 ≤ length part = h.room in
    let same_length : length dss.contents ≡ length h.contents = ap length contents in (
      omega arith,
      ap (λ (b : List ℕ). drop next b) written ∙ behind_three new to next _ _ _ (omega arith) (omega arith) ∙ h.left ∙ ap (λ (b : List ℕ). b ++ after) none.0,
      (
        text,
        ap (λ (b : List ℕ). take behind b) whole ∙ ap (λ (n : ℕ). take n ((take to old ++ text) ++ drop behind new)) (sym size) ∙ take-append_seam (take to old ++ text) (drop behind new),
        record {
          correlator_high = h.c;
          correlator_low = h.d;
          text = ap (λ (n : ℕ). count_bytes n ++ tail) (count ∙ sym same_length) ∙ ap (λ (b : List ℕ). count_bytes (length dss.contents) ++ (dss.format ∷ h.c ∷ h.d ∷ b)) (sym contents);
          correlator = h.correlator;
          within = omega arith;
        },
      ),
    )
