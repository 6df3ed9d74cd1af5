-- A header is right where none of its tests fails.
use Rattle.std.proofs.Common.{◌≡◌, ℕ, ◌+◌, ◌≤◌, Bool, true, false, cond, Option, Some, None, refl}
use Rattle.std.specs.Prelude.{nat_le, ◌==◌, IsTrue}
use Rattle.std.proofs.lemmas.Bool.{leb-true, le-leb, eqb-true, eq-eqb}
use Rattle.dss_frames.specs.declared.turn.Turn.{Turn}
use Rattle.dss_frames.specs.declared.fault.SyntaxCode.{SyntaxCode}
use Rattle.dss_frames.specs.declared.fault.SyntaxCode.TheVariants.{HeaderTooShort, MarkNotD0, FormatNotSupported, SameCorrelatorUnchained, WrongTurn, TooLong, ContinuationTooShort}
use Rattle.dss_frames.specs.Length.{segment_length, dss_limit}
use Rattle.dss_frames.specs.Format.{is_supported, is_paired}
use Rattle.dss_frames.specs.Command.{is_due}
use Rattle.dss_frames.specs.Fault.{header_fault, continuation_fault}

-- the tests of a header, in their order
abbrev first_failing : Bool → Bool → Bool → Bool → Bool → Option SyntaxCode
first_failing counts mark supported paired due =
    cond counts (cond mark (cond supported (cond paired (cond due None (Some WrongTurn)) (Some SameCorrelatorUnchained)) (Some FormatNotSupported)) (Some MarkNotD0)) (Some HeaderTooShort)

all_pass : (a b c d e : Bool) → a ≡ true → b ≡ true → c ≡ true → d ≡ true → e ≡ true → first_failing a b c d e ≡ None
all_pass a b c d e p q r s t = cc

pub record AllPass (a b c d e : Bool) : Type 0 where
  pub counts : a ≡ true
  pub mark : b ≡ true
  pub supported : c ≡ true
  pub paired : d ≡ true
  pub due : e ≡ true

none_fails : (a b c d e : Bool) → first_failing a b c d e ≡ None → AllPass a b c d e
none_fails true true true true true h = record { counts = refl; mark = refl; supported = refl; paired = refl; due = refl }
none_fails true true true true false h = absurd cc
none_fails true true true false e h = absurd cc
none_fails true true false d e h = absurd cc
none_fails true false c d e h = absurd cc
none_fails false b c d e h = absurd cc

pub record IsRightHeader (turn : Turn) (high low mark format of_dss : ℕ) : Type 0 where
  pub counts : 6 ≤ segment_length high low
  pub marked : mark ≡ 0xD0
  pub supported : IsTrue (is_supported format)
  pub paired : IsTrue (is_paired format)
  pub due : IsTrue (is_due turn format of_dss)

pub right_header : (turn : Turn) (high low mark format of_dss : ℕ) → IsRightHeader turn high low mark format of_dss → header_fault turn high low mark format of_dss ≡ None
right_header turn high low mark format of_dss h =
    all_pass (nat_le 6 (segment_length high low)) (mark == 0xD0) (is_supported format) (is_paired format) (is_due turn format of_dss)
    (le-leb 6 (segment_length high low) h.counts) (eq-eqb mark 0xD0 h.marked) h.supported h.paired h.due

pub header_right : (turn : Turn) (high low mark format of_dss : ℕ) → header_fault turn high low mark format of_dss ≡ None → IsRightHeader turn high low mark format of_dss
header_right turn high low mark format of_dss e =
    let p = none_fails (nat_le 6 (segment_length high low)) (mark == 0xD0) (is_supported format) (is_paired format) (is_due turn format of_dss) e in
    record { counts = leb-true 6 (segment_length high low) p.counts; marked = eqb-true mark 0xD0 p.mark; supported = p.supported; paired = p.paired; due = p.due }

two_pass : (a b : Bool) → a ≡ true → b ≡ true → cond a (cond b None (Some ContinuationTooShort)) (Some TooLong) ≡ None
two_pass a b p q = cc

neither_fails : (a b : Bool) → cond a (cond b None (Some ContinuationTooShort)) (Some TooLong) ≡ None → (a ≡ true) × (b ≡ true)
neither_fails true true h = (refl, refl)
neither_fails true false h = absurd cc
neither_fails false b h = absurd cc

pub right_continuation : (declared high low : ℕ) → declared + segment_length high low ≤ dss_limit → 3 ≤ segment_length high low → continuation_fault declared high low ≡ None
right_continuation declared high low within counts =
    two_pass (nat_le (declared + segment_length high low) dss_limit) (nat_le 3 (segment_length high low))
    (le-leb (declared + segment_length high low) dss_limit within) (le-leb 3 (segment_length high low) counts)

pub continuation_right : (declared high low : ℕ) → continuation_fault declared high low ≡ None → (declared + segment_length high low ≤ dss_limit) × (3 ≤ segment_length high low)
continuation_right declared high low e =
    let p = neither_fails (nat_le (declared + segment_length high low) dss_limit) (nat_le 3 (segment_length high low)) e in
    (leb-true (declared + segment_length high low) dss_limit p.0, leb-true 3 (segment_length high low) p.1)
