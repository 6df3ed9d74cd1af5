-- What a reader keeps stays of one piece.
use Rattle.std.proofs.Common.{◌≡◌, ℕ, ◌+◌, ◌-◌, ◌≤◌, Bool, true, false, List, ◌++◌, length, take, drop, refl, sym, ap, subst, ◌∙◌, arith, length-append, length-drop, take-append-drop, zero-add}
use Rattle.std.proofs.lemmas.List.{drop-append-le, drop-drop}
use Rattle.std.proofs.lemmas.List.Edits.{take-paste}
use Rattle.std.proofs.Math.Seq.{paste, take-length}
use Rattle.std.specs.List.{copy_within}
use Rattle.drda_words.specs.Place.{part}
use Rattle.dss_frames.specs.declared.progress.Progress.{Progress}
use Rattle.dss_frames.specs.declared.fault.FrameFault.{FrameFault}
use Rattle.dss_frames.specs.Dss.{Dss, AreDsss}
use Rattle.dss_frames.specs.Command.{IsCommand}
use Rattle.dss_frames.specs.Fault.{FaultAt, BeginsWith, IsUnfinished}
use Rattle.dss_frames.specs.Group.{joined_dsss}
use Rattle.dss_frames.specs.Progress.{IsAt, IsKnownFault, IsConsistent, HasCommand}
use Rattle.dss_frames.proofs.Holds.{fault_more}
use Rattle.dss_frames.proofs.Readings.{stands_once}
use Rattle.dss_frames.proofs.Steps.{place_more}

-- the bytes that follow lie elsewhere
pub settled_elsewhere : (items others : List ℕ) (lent lent_size start at : ℕ) (place : Progress) (at_fault : Bool) → IsConsistent items lent lent_size start place at_fault
    → drop at others ≡ drop start items → at ≤ length others → IsConsistent others at 0 at place at_fault
settled_elsewhere items others lent lent_size start at place at_fault h e le = record {
  lent_before = omega arith;
  start_within = le;
  stands = subst (λ (b : List ℕ). IsAt b place) (sym e) h.stands;
  known_fault = subst (λ (b : List ℕ). IsKnownFault at_fault b) (sym e) h.known_fault;
}

-- more bytes follow
pub settled_more : (items more : List ℕ) (lent lent_size start : ℕ) (place : Progress) (at_fault : Bool) → IsConsistent items lent lent_size start place at_fault
    → IsConsistent (items ++ more) lent lent_size start place at_fault
settled_more items more lent lent_size start place at_fault h =
    let within : start ≤ length items = h.start_within in
    let e : drop start (items ++ more) ≡ drop start items ++ more = drop-append-le start items more within in
    record {
      lent_before = h.lent_before;
      start_within = let k = length-append items more in omega arith;
      stands = subst (λ (b : List ℕ). IsAt b place) (sym e) (place_more (drop start items) more place h.stands);
      known_fault = λ true. let f = h.known_fault true in (f.0, subst (λ (b : List ℕ). FaultAt b f.0) (sym e) (fault_more (drop start items) more f.0 f.1));
    }

no_fault : (at_fault : Bool) (bytes : List ℕ) → IsKnownFault at_fault bytes → ((fault : FrameFault) → FaultAt bytes fault → ⊥) → at_fault ≡ false
no_fault true bytes h none = absurd (let f = h refl in none f.0 f.1)
no_fault false bytes h none = refl

pub no_fault_unfinished : (at_fault : Bool) (bytes : List ℕ) → IsKnownFault at_fault bytes → IsUnfinished bytes → at_fault ≡ false
no_fault_unfinished at_fault bytes h un = no_fault at_fault bytes h un.no_fault

-- the command in front
pub begins : (bytes : List ℕ) (size : ℕ) (dsss : List Dss) → IsCommand (take size bytes) dsss → BeginsWith bytes dsss (drop size bytes)
begins bytes size dsss is = (take size bytes, sym (take-append-drop size bytes), is)

pub no_fault_command : (at_fault : Bool) (bytes : List ℕ) (size : ℕ) → IsKnownFault at_fault bytes → HasCommand bytes size → at_fault ≡ false
no_fault_command at_fault bytes size h has =
    no_fault at_fault bytes h (λ fault f. (stands_once bytes).not_both has.1.0 (drop size bytes) fault (begins bytes size has.1.0 has.1.1) f)

-- a command that is joined and taken
pub lent_command : (items others : List ℕ) (start size joined : ℕ) → HasCommand (drop start items) size → drop (start + size) others ≡ drop (start + size) items
    → ((dsss : List Dss) → AreDsss (part items start size) dsss → joined_dsss (part others start joined) ≡ dsss)
    → BeginsWith (drop start items) (joined_dsss (part others start joined)) (drop (start + size) others)
lent_command items others start size joined has rest shows =
    let dsss = has.1.0 in
    let same : joined_dsss (part others start joined) ≡ dsss = shows dsss has.1.1.0 in
    let after : drop size (drop start items) ≡ drop (start + size) others = drop-drop size start items ∙ sym rest in
    subst (λ (ds : List Dss). BeginsWith (drop start items) ds (drop (start + size) others)) (sym same)
    (subst (λ (b : List ℕ). BeginsWith (drop start items) dsss b) after (begins (drop start items) size dsss has.1.1))

-- what follows, moved to the front
pub moved : (items : List ℕ) (start len kept : ℕ) → len ≡ length items → kept ≡ len - start → take kept (copy_within items start len 0) ≡ drop start items
moved items start len kept e k =
    let n : kept ≡ length (drop start items) = let m = length-drop start items in omega arith in
    let m : len - start ≡ length (drop start items) = sym k ∙ n in
    ap (λ (x : ℕ). take kept (paste items 0 (drop start items) x)) m
    ∙ ap (λ (x : ℕ). take x (paste items 0 (drop start items) (length (drop start items)))) (n ∙ sym (zero-add (length (drop start items))))
    ∙ take-paste items 0 (drop start items) (length (drop start items)) (omega arith) (omega arith)
    ∙ take-length (drop start items)
