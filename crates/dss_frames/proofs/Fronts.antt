-- What belongs to the command under way of a piece that comes next.
use Rattle.std.proofs.Common.{◌≡◌, ℕ, ◌+◌, ◌-◌, ◌≤◌, ◌<◌, ◌==◌, Bool, true, false, List, [], ◌∷◌, ◌++◌, length, take, drop, min, inl, inr, refl, sym, subst, ap, ◌∙◌, arith, length-append, take-append-drop}
use Rattle.std.proofs.lemmas.List.{append-nil, nil_from_length, take-append-le, take-take, length-take}
use Rattle.std.proofs.Math.Seq.{take-add, take-append_seam, take-append-add}
use Rattle.std.proofs.Math.Dec.{ltb}
use Rattle.std.proofs.lemmas.Bool.{ltb-true, ltb-false}
use Rattle.dss_frames.specs.declared.turn.Turn.TheVariants.{Nothing}
use Rattle.dss_frames.specs.Dss.{Dss}
use Rattle.dss_frames.specs.Command.{IsCommand}
use Rattle.dss_frames.specs.declared.progress.Expected.TheVariants.{Header}
use Rattle.dss_frames.specs.Fault.{BeginsWith, IsUnfinished, UpTo, dss_in_turn}
use Rattle.dss_frames.specs.Progress.{HasCommand, IsAt}
use Rattle.dss_frames.specs.Lending.{GoesFar, IsWanted, KeepsToFirst}
use Rattle.dss_frames.proofs.Holds.{begins_more, fault_more}
use Rattle.dss_frames.proofs.Readings.{nothing_is_unfinished, stands_once}

-- what stands in front of unfinished bytes is unfinished
unfinished_front : (bytes more : List ℕ) → IsUnfinished (bytes ++ more) → IsUnfinished bytes
unfinished_front bytes more un = record {
  no_command = λ dsss rest begins. un.no_command dsss (rest ++ more) (begins_more bytes more rest dsss begins);
  no_fault = λ fault there. un.no_fault fault (fault_more bytes more fault there);
}

-- and so is what stands in front of a command's last byte
command_front : (bytes more : List ℕ) (dsss : List Dss) → IsCommand (bytes ++ more) dsss → 1 ≤ length more → IsUnfinished bytes
command_front bytes more dsss is some =
    let whole : BeginsWith (bytes ++ more) dsss [] = (bytes ++ more, sym (append-nil (bytes ++ more)), is) in
    let once = stands_once (bytes ++ more) in
    record {
      no_command = λ other rest begins.
          let same : [] ≡ rest ++ more = (once.one_command dsss other [] (rest ++ more) whole (begins_more bytes more rest other begins)).1 in
          let lengths : 0 ≡ length rest + length more = ap length same ∙ length-append rest more in
          absurd (omega (arith, lengths, some));
      no_fault = λ fault there. once.not_both dsss [] fault whole (fault_more bytes more fault there);
    }

-- a front of a front, and what is behind it there
parts : (piece : List ℕ) (fewer count : ℕ) → fewer ≤ count → take count piece ≡ take fewer piece ++ take (count - fewer) (drop fewer piece)
parts piece fewer count few =
    let sum : fewer + (count - fewer) ≡ count = omega (arith, few) in
    ap (λ (n : ℕ). take n piece) (sym sum) ∙ take-add fewer (count - fewer) piece

-- a command that ends before the last of so many bytes
ends_before : (within : Bool) (bytes piece front rest : List ℕ) (command : List Dss) (count many : ℕ) → ltb (length bytes) (length front) ≡ within
    → IsUnfinished bytes → ((fewer : ℕ) → fewer < count → IsUnfinished (bytes ++ take fewer piece)) → many ≤ count
    → bytes ++ take many piece ≡ front ++ rest → 1 ≤ length rest → IsCommand front command → ⊥
ends_before false bytes piece front rest command count many w un less few same some is =
    let short : length front ≤ length bytes = ltb-false _ _ w in
    let first : take (length front) bytes ≡ front = sym (take-append-le (length front) bytes (take many piece) short) ∙ ap (λ (b : List ℕ). take (length front) b) same ∙ take-append_seam front rest in
    let whole : bytes ≡ front ++ drop (length front) bytes = sym (take-append-drop (length front) bytes) ∙ ap (λ (b : List ℕ). b ++ drop (length front) bytes) first in
    un.no_command command (drop (length front) bytes) (front, whole, is)
ends_before true bytes piece front rest command count many w un less few same some is =
    let long : length bytes < length front = ltb-true _ _ w in
    let fewer = length front - length bytes in
    let sum : length bytes + fewer ≡ length front = omega arith in
    let lengths : length bytes + length (take many piece) ≡ length front + length rest = sym (length-append bytes (take many piece)) ∙ ap length same ∙ length-append front rest in
    let taken : length (take many piece) ≡ min many (length piece) = length-take many piece in
    let below : fewer < many = omega (arith, sum, lengths, taken, some) in
    let front_is : bytes ++ take fewer (take many piece) ≡ front = sym (take-append-add bytes (take many piece) fewer) ∙ ap (λ (m : ℕ). take m (bytes ++ take many piece)) sum ∙ ap (λ (b : List ℕ). take (length front) b) same ∙ take-append_seam front rest in
    let is_front : bytes ++ take fewer piece ≡ front = ap (λ (b : List ℕ). bytes ++ b) (sym (take-take fewer many piece (omega (arith, below)))) ∙ front_is in
    (less fewer (omega (arith, below, few))).no_command command [] (front, is_front ∙ sym (append-nil front), is)

alone : (bytes piece : List ℕ) (count : ℕ) → IsUnfinished bytes → ((fewer : ℕ) → fewer < count → IsUnfinished (bytes ++ take fewer piece))
    → (many : ℕ) (command : List Dss) (rest : List ℕ) → many ≤ count → BeginsWith (bytes ++ take many piece) command rest → rest ≡ []
alone bytes piece count un less many command [] few begins = refl
alone bytes piece count un less many command (x ∷ rest) few begins =
    absurd (ends_before (ltb (length bytes) (length begins.0)) bytes piece begins.0 (x ∷ rest) command count many refl un less few begins.1 (omega arith) begins.2)

pub none : (bytes : List ℕ) → (length bytes == 0) ≡ true → bytes ≡ []
none bytes e = nil_from_length bytes (grind (arith, e))

-- a whole command of the piece, behind nothing
pub with_command : (piece : List ℕ) (size : ℕ) → HasCommand piece size → KeepsToFirst [] piece size × GoesFar [] piece size
with_command piece size has =
    let less : (fewer : ℕ) → fewer < size → IsUnfinished (take fewer piece) = λ fewer below.
    let cut : take size piece ≡ take fewer piece ++ take (size - fewer) (drop fewer piece) = parts piece fewer size (omega (arith, below)) in
    let whole : length (take size piece) ≡ min size (length piece) = length-take size piece in
    let front : length (take fewer piece) ≡ min fewer (length piece) = length-take fewer piece in
    let lengths : length (take size piece) ≡ length (take fewer piece) + length (take (size - fewer) (drop fewer piece)) = ap length cut ∙ length-append (take fewer piece) (take (size - fewer) (drop fewer piece)) in
    command_front (take fewer piece) (take (size - fewer) (drop fewer piece)) has.1.0 (subst (λ (b : List ℕ). IsCommand b has.1.0) cut has.1.1) (omega (arith, below, has.0, whole, front, lengths)) in (
      record { less = less; alone = alone [] piece size nothing_is_unfinished less },
      inr (take size piece, [], has.1.0, dss_in_turn Nothing, sym (append-nil (take size piece)), has.1.1, refl),
    )

-- and the place behind it
pub behind_command : (piece : List ℕ) (size : ℕ) → HasCommand piece size → IsAt (take size piece) (record { at = size; expected = Header Nothing })
behind_command piece size has =
    let whole : length (take size piece) ≡ min size (length piece) = length-take size piece in
    record {
      early = λ more short. let lengths = length-append (take size piece) more in absurd (omega (arith, short, lengths, whole, has.0));
      there = λ more long.
          let same : take size (take size piece ++ more) ≡ take size piece = take-append-le size (take size piece) more (omega (arith, whole, has.0)) ∙ take-take size size piece (omega arith) in
          (has.1.0, dss_in_turn Nothing, subst (λ (b : List ℕ). UpTo b has.1.0 (dss_in_turn Nothing)) (sym same) has.1.1, refl);
      near = omega (arith, whole, has.0);
      within = tt;
    }

-- a piece that is no whole command, behind nothing
pub without_command : (piece : List ℕ) → IsUnfinished piece → KeepsToFirst [] piece (length piece)
without_command piece unfinished =
    let less : (fewer : ℕ) → fewer < length piece → IsUnfinished (take fewer piece) = λ fewer below.
    unfinished_front (take fewer piece) (drop fewer piece) (subst IsUnfinished (sym (take-append-drop fewer piece)) unfinished) in
    record { less = less; alone = alone [] piece (length piece) nothing_is_unfinished less }

-- no more bytes than unfinished ones want
pub as_wanted : (bytes piece : List ℕ) (wanted count : ℕ) → count ≡ min wanted (length piece) → IsWanted bytes wanted → IsUnfinished bytes → KeepsToFirst bytes piece count
as_wanted bytes piece wanted count is wants un =
    let less : (fewer : ℕ) → fewer < count → IsUnfinished (bytes ++ take fewer piece) = λ fewer below.
    let taken : length (take fewer piece) ≡ min fewer (length piece) = length-take fewer piece in
    wants.less (take fewer piece) (omega (arith, below, is, taken)) in
    record { less = less; alone = alone bytes piece count un less }

as_far : (short : Bool) (bytes piece : List ℕ) (wanted count : ℕ) → ltb (length piece) wanted ≡ short → count ≡ min wanted (length piece) → IsWanted bytes wanted → GoesFar bytes piece count
as_far true bytes piece wanted count w is wants = let short : length piece < wanted = ltb-true _ _ w in inl (omega (arith, short, is))
as_far false bytes piece wanted count w is wants =
    let whole : wanted ≤ length piece = ltb-false _ _ w in
    let taken : length (take count piece) ≡ min count (length piece) = length-take count piece in
    inr (wants.just (take count piece) (omega (arith, whole, is, taken)))

-- nor less of them than the piece has
pub as_far_as_wanted : (bytes piece : List ℕ) (wanted count : ℕ) → count ≡ min wanted (length piece) → IsWanted bytes wanted → GoesFar bytes piece count
as_far_as_wanted bytes piece wanted count is wants = as_far (ltb (length piece) wanted) bytes piece wanted count refl is wants

-- nothing of a piece
pub keeps_to_nothing : (bytes piece : List ℕ) → IsUnfinished bytes → KeepsToFirst bytes piece 0
keeps_to_nothing bytes piece un =
    let less : (fewer : ℕ) → fewer < 0 → IsUnfinished (bytes ++ take fewer piece) = λ fewer below. absurd (omega (arith, below)) in
    record { less = less; alone = alone bytes piece 0 un less }
