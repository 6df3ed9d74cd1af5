-- The parts of bodies: XIDs, claims, changes.
use Rattle.std.proofs.Common.{◌+◌, ◌≡◌, ℕ, ◌≤◌, List, [], ◌∷◌, ◌++◌, length, drop, sym, ap, subst, ◌∙◌, arith, length-append, Result, Ok, Err, Option, Some, None}
use Rattle.std.proofs.Math.Seq.{drop-append_seam}
use Rattle.drda_words.specs.Bytes.{AreBytes}
use Rattle.row_values.specs.Bytes.{Reads as ReadsValue}
use Rattle.row_values.specs.declared.row.ReadError.{ReadError}
use Rattle.row_values.specs.declared.row.ReadError.TheVariants.{Damaged, NoMemory}
use Rattle.tables.specs.Change.{Change, change_at, change_bytes}
use Rattle.tables.specs.Laws.{ChangeReadWasWritten, ChangeWrittenIsRead}
use Rattle.xa_calls.specs.Xid.{AreParts, IsXid, Parts, wire, xid_in}
use Rattle.unit_records.specs.Fronts.{OneFront, TakesFront}
use Rattle.unit_records.specs.Records.{IsChange, decision_byte}
use Rattle.unit_records.specs.Room.{DecisionsAreShort, DecisionsFit, DecisionsNeedNoRoom, HeuristicsFit}
use Rattle.half_store.specs.declared.header.Layout.TheVariants.{One, Two}

-- ---- changes

some_pair : (a b : Change) (rest more : List ℕ) (o : Option (Change × List ℕ)) → o ≡ Some (a, rest) → o ≡ Some (b, more) → (a ≡ b) × (rest ≡ more)
some_pair a b rest more o one other =
    let same : Some (a, rest) ≡ Some (b, more) = sym one ∙ other in
    let pair : (a, rest) ≡ (b, more) = cc in
    (ap (λ (x : Change × List ℕ). x.0) pair, ap (λ (x : Change × List ℕ). x.1) pair)

pub changes_once : ChangeWrittenIsRead → OneFront change_bytes IsChange
changes_once written a b rest more good fine text =
    some_pair a b rest more (change_at (change_bytes a ++ rest)) (written a rest good) (ap change_at text ∙ written b more fine)

-- what is read of a change, as the text that begins with it
pub change_taken : ChangeWrittenIsRead → ChangeReadWasWritten → {X : Type 0} (view : X → Change × List ℕ) (text : List ℕ) (r : Result X ReadError) → AreBytes text
    → ReadsValue view r (change_at text) → TakesFront view change_bytes IsChange text r
change_taken written read view text (Ok x) all is = read text (view x) all is
change_taken written read view text (Err Damaged) all is = λ a rest good whole.
    let found : change_at text ≡ Some (a, rest) = ap change_at whole ∙ written a rest good in
    let none : change_at text ≡ None = is in
    absurd cc
change_taken written read view text (Err NoMemory) all is = tt

-- ---- XIDs

some_same : (a b : List ℕ) → Some a ≡ Some b → a ≡ b
some_same a b same = cc

abbrev pub XidsAreFound : Type 0
XidsAreFound = (p : Parts) (rest : List ℕ) → AreParts p → xid_in (wire p ++ rest) ≡ Some (wire p)

xid_found : XidsAreFound → (a rest : List ℕ) → IsXid a → xid_in (a ++ rest) ≡ Some a
xid_found found a rest is = subst (λ (l : List ℕ). xid_in (l ++ rest) ≡ Some l) (sym is.2) (found is.0 rest is.1)

pub xids_once : XidsAreFound → OneFront (λ (xid : List ℕ). xid) IsXid
xids_once found a b rest more good fine text =
    let same : a ≡ b = some_same a b (sym (xid_found found a rest good) ∙ ap xid_in text ∙ xid_found found b more fine) in
    (same, sym (drop-append_seam a rest) ∙ ap (drop (length a)) text ∙ ap (λ (l : List ℕ). drop (length l) (b ++ more)) same ∙ drop-append_seam b more)

-- ---- lengths

length-wire : (p : Parts) → length (wire p) ≡ 12 + length p.global + length p.branch
length-wire p = omega (arith, length-append p.global p.branch)

pub short_xid : (xid : List ℕ) → IsXid xid → length xid ≤ 140
short_xid xid is = omega (arith, ap length is.2, length-wire is.0, is.1.short_global, is.1.short_branch)

pub decision_fits : DecisionsFit
decision_fits One xid changes claims o = omega (arith, length-append xid (decision_byte o ∷ []))
decision_fits Two xid changes claims o = omega (arith, length-append xid (decision_byte o ∷ []))

pub heuristics_fit : HeuristicsFit
heuristics_fit xid changes claims o = omega arith

pub decision_needs_no_more : DecisionsNeedNoRoom
decision_needs_no_more One xid o = (omega (arith, length-append xid (decision_byte o ∷ [])), omega (arith, length-append xid (decision_byte o ∷ [])), omega arith)
decision_needs_no_more Two xid o = (omega (arith, length-append xid (decision_byte o ∷ [])), omega (arith, length-append xid (decision_byte o ∷ [])), omega arith)

pub decision_short : DecisionsAreShort
decision_short p = (omega (arith, length-wire p), omega (arith, length-wire p))
