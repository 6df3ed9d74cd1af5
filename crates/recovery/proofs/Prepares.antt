-- Records of branches in doubt: whether the changes of each have their places, one after another.
use Rattle.std.proofs.Common.{◌≡◌, ℕ, ◌<◌, List, [], ◌∷◌, length, map, Bool, true, Option, Some, None, refl, sym, ap, ◌∙◌, arith, subst}
use Rattle.std.specs.Prelude.{◌&&◌}
use Rattle.row_values.specs.declared.row.ReadError.{ReadError}
use Rattle.row_values.specs.declared.row.ReadError.TheVariants.{Damaged, NoMemory}
use Rattle.tables.specs.Tables.{Store}
use Rattle.unit_journal.specs.Record.{Entry, entries_of}
use Rattle.unit_journal.specs.declared.record.Record.{Record}
use Rattle.core_model.specs.Units.{Work}
use Rattle.xa_manager.specs.declared.due.Decision.{Decision}
use Rattle.unit_records.specs.Records.{IsGood, IsRecord, UnitRecord, entry_of as written}
use Rattle.recovery.specs.Durable.{Doubts}
use Rattle.recovery.specs.Journal.{AreGood}
use Rattle.recovery.specs.Laying.{are_placed, is_placed, is_placed_by, laid_in, laid_of, records_of}
use Rattle.recovery.specs.Replay.{Fails}

module _ (store : Store) where
  -- the branches whose records these entries are, of which all have their places exactly where all of them have
  pub record AreLeft (left : List Entry) (all : Bool) : Type 0 where
    pub rest : Doubts
    pub good : AreGood (records_of rest)
    pub same : left ≡ map written (records_of rest)
    pub placed : are_placed rest store ≡ all

  -- what holds of the places of whatever an entry says
  abbrev Says : Entry → (Bool → Type 0) → Type 0
  Says e P = (said : UnitRecord) → IsRecord e.kind e.body said → P (is_placed_by store said)

  placed_so : (xid : List ℕ) (work : Work) (outcome : Option Decision) → is_placed_by store (laid_in xid work outcome) ≡ is_placed store work outcome
  placed_so xid work None = refl
  placed_so xid work (Some o) = refl

  first_says : (P : Bool → Type 0) (e : Entry) → Says e P → (xid : List ℕ) (work : Work) (outcome : Option Decision) → IsGood (laid_in xid work outcome) → e ≡ written (laid_in xid work outcome) → P (is_placed store work outcome)
  first_says P e one xid work outcome good first =
      subst P (placed_so xid work outcome) (one (laid_in xid work outcome) (record { same_kind = ap (λ (x : Entry). x.kind) first; bytes = ap (λ (x : Entry). x.body) first; good = good }))

  more_placed : (e : Entry) (es : List Entry) (all : Bool) → Says e (λ b. b ≡ true) → (doubts : Doubts) → AreGood (records_of doubts) → e ∷ es ≡ map written (records_of doubts) → are_placed doubts store ≡ all → AreLeft es all
  more_placed e es all one [] good same placed = absurd cc
  more_placed e es all one (d ∷ ds) good same placed =
      let first : e ≡ written (laid_of d) = cc in
      let here : is_placed store d.1.work d.1.outcome ≡ true = first_says (λ b. b ≡ true) e one d.0 d.1.work d.1.outcome good.0 first in
      record { rest = ds; good = good.1; same = cc; placed = sym (ap (λ (b : Bool). b && are_placed ds store) here) ∙ placed }

  -- where the next one has its places, it counts no more
  pub one_more_placed : (e : Entry) (es : List Entry) (all : Bool) → Says e (λ b. b ≡ true) → AreLeft (e ∷ es) all → AreLeft es all
  one_more_placed e es all one left = more_placed e es all one left.rest left.good left.same left.placed

  no_more : (doubts : Doubts) → [] ≡ map written (records_of doubts) → are_placed doubts store ≡ true
  no_more [] same = refl
  no_more (d ∷ ds) same = absurd cc

  -- where none is left, all have theirs
  pub all_placed : (left : List Record) (all : Bool) → length left < 1 → AreLeft (entries_of left) all → all ≡ true
  all_placed [] all few left = sym left.placed ∙ no_more left.rest left.same
  all_placed (x ∷ more) all few left = absurd (omega arith)

  fails_behind : (error : ReadError) (a b : Bool) → Fails error a → Fails error (a && b)
  fails_behind Damaged a b none = ap (λ (t : Bool). t && b) none
  fails_behind NoMemory a b none = tt

  first_not : (e : Entry) (es : List Entry) (all : Bool) (error : ReadError) → Says e (Fails error) → (doubts : Doubts) → AreGood (records_of doubts) → e ∷ es ≡ map written (records_of doubts) → are_placed doubts store ≡ all → Fails error all
  first_not e es all error one [] good same placed = absurd cc
  first_not e es all error one (d ∷ ds) good same placed =
      let first : e ≡ written (laid_of d) = cc in
      subst (Fails error) placed (fails_behind error (is_placed store d.1.work d.1.outcome) (are_placed ds store) (first_says (Fails error) e one d.0 d.1.work d.1.outcome good.0 first))

  -- where the next one has none, not all have theirs
  pub one_not_placed : (e : Entry) (es : List Entry) (all : Bool) (error : ReadError) → Says e (Fails error) → AreLeft (e ∷ es) all → Fails error all
  one_not_placed e es all error one left = first_not e es all error one left.rest left.good left.same left.placed
