-- Bodies are one record at most.
use Rattle.std.proofs.Common.{◌==◌, true, false, eqb-true, ◌≡◌, ◌≢◌, ℕ, List, [], ◌∷◌, ◌++◌, length, refl, sym, ap, subst, ◌∙◌, arith, append-nil, Result, Ok, Err}
use Rattle.std.proofs.lemmas.Bool.Decides.{nat_tests}
use Rattle.row_values.specs.declared.row.ReadError.{ReadError}
use Rattle.row_values.specs.declared.row.ReadError.TheVariants.{Damaged, NoMemory}
use Rattle.tables.specs.Change.{Change, change_bytes}
use Rattle.unit_locks.specs.Claim.{Claim, IsClaim, claim_bytes}
use Rattle.xa_calls.specs.Xid.{IsXid}
use Rattle.xa_manager.specs.declared.due.Decision.{Decision}
use Rattle.xa_manager.specs.declared.due.Decision.TheVariants as decision
use Rattle.unit_journal.specs.declared.kind.Kind.{Kind}
use Rattle.unit_journal.specs.declared.kind.Kind.TheVariants.{Commit, Prepare, Decide, Heuristic, Forget}
use Rattle.unit_records.specs.Fronts.{AreListed, Misses, listed}
use Rattle.unit_records.specs.Records.{IsChange, IsRecord, UnitRecord, committed, decided, decision_byte, forgotten, heuristic, prepared}
use Rattle.unit_records.specs.Laws.{OneReading, PartsStandOnce}
use Rattle.unit_records.specs.Read.{Gives, IsNone, ReadsRecord, record_of}
use Rattle.unit_records.specs.declared.record.UnitRecord.{UnitRecord as CodeRecord}

-- a list that is a whole text
whole_text : (a b : List ℕ) → a ≡ b → a ++ [] ≡ b ++ []
whole_text a b same = ap (λ (l : List ℕ). l ++ []) same

not_both : (m n : ℕ) → m ≡ n → (m == n) ≡ false → ⊥
not_both m n same test = let h : (n == n) ≡ false = subst (λ (k : ℕ). (k == n) ≡ false) same test in grind (arith, nat_tests)

-- a test of length
pub left_over : (rest : List ℕ) (n : ℕ) → (length rest == n) ≡ false → n ≡ 0 → rest ≢ []
left_over rest n test zero same = not_both (length rest) n (ap length same ∙ sym zero) test

pub nothing_left : (rest : List ℕ) → (length rest == 0) ≡ true → rest ≡ []
nothing_left rest test = none rest (eqb-true (length rest) 0 test)
  where
    none : (xs : List ℕ) → length xs ≡ 0 → xs ≡ []
    none [] h = refl
    none (x ∷ xs) h = absurd (omega arith)

outcomes_once : (a b : Decision) → decision_byte a ∷ [] ≡ decision_byte b ∷ [] → a ≡ b
outcomes_once decision.Commit decision.Commit same = refl
outcomes_once decision.Commit decision.RollBack same = absurd cc
outcomes_once decision.RollBack decision.Commit same = absurd cc
outcomes_once decision.RollBack decision.RollBack same = refl

module _ (o : PartsStandOnce) where
  pub one_reading : OneReading
  one_reading kind body (committed a) (committed b) r s =
      let one = o.changes a b [] [] r.good s.good (whole_text (listed change_bytes a) (listed change_bytes b) (sym r.bytes ∙ s.bytes)) in
      ap committed one.0
  one_reading kind body (committed a) (prepared y bs es) r s = absurd (cc (r.same_kind, s.same_kind))
  one_reading kind body (committed a) (decided y e) r s = absurd (cc (r.same_kind, s.same_kind))
  one_reading kind body (committed a) (heuristic y e) r s = absurd (cc (r.same_kind, s.same_kind))
  one_reading kind body (committed a) (forgotten y) r s = absurd (cc (r.same_kind, s.same_kind))
  one_reading kind body (prepared x cs ds) (committed b) r s = absurd (cc (r.same_kind, s.same_kind))
  one_reading kind body (prepared x cs ds) (prepared y bs es) r s =
      let first = o.xids x y (listed claim_bytes ds ++ listed change_bytes cs) (listed claim_bytes es ++ listed change_bytes bs) r.good.0 s.good.0 (sym r.bytes ∙ s.bytes) in
      let second = o.claims ds es (listed change_bytes cs) (listed change_bytes bs) r.good.1 s.good.1 first.1 in
      let third = o.changes cs bs [] [] r.good.2 s.good.2 (whole_text (listed change_bytes cs) (listed change_bytes bs) second.1) in
      ap (λ (z : List ℕ). prepared z cs ds) first.0 ∙ ap (λ (zs : List Change). prepared y zs ds) third.0 ∙ ap (prepared y bs) second.0
  one_reading kind body (prepared x cs ds) (decided y e) r s = absurd (cc (r.same_kind, s.same_kind))
  one_reading kind body (prepared x cs ds) (heuristic y e) r s = absurd (cc (r.same_kind, s.same_kind))
  one_reading kind body (prepared x cs ds) (forgotten y) r s = absurd (cc (r.same_kind, s.same_kind))
  one_reading kind body (decided x d) (committed b) r s = absurd (cc (r.same_kind, s.same_kind))
  one_reading kind body (decided x d) (prepared y bs es) r s = absurd (cc (r.same_kind, s.same_kind))
  one_reading kind body (decided x d) (decided y e) r s =
      let first = o.xids x y (decision_byte d ∷ []) (decision_byte e ∷ []) r.good s.good (sym r.bytes ∙ s.bytes) in
      ap (λ (z : List ℕ). decided z d) first.0 ∙ ap (decided y) (outcomes_once d e first.1)
  one_reading kind body (decided x d) (heuristic y e) r s = absurd (cc (r.same_kind, s.same_kind))
  one_reading kind body (decided x d) (forgotten y) r s = absurd (cc (r.same_kind, s.same_kind))
  one_reading kind body (heuristic x d) (committed b) r s = absurd (cc (r.same_kind, s.same_kind))
  one_reading kind body (heuristic x d) (prepared y bs es) r s = absurd (cc (r.same_kind, s.same_kind))
  one_reading kind body (heuristic x d) (decided y e) r s = absurd (cc (r.same_kind, s.same_kind))
  one_reading kind body (heuristic x d) (heuristic y e) r s =
      let first = o.xids x y (decision_byte d ∷ []) (decision_byte e ∷ []) r.good s.good (sym r.bytes ∙ s.bytes) in
      ap (λ (z : List ℕ). heuristic z d) first.0 ∙ ap (heuristic y) (outcomes_once d e first.1)
  one_reading kind body (heuristic x d) (forgotten y) r s = absurd (cc (r.same_kind, s.same_kind))
  one_reading kind body (forgotten x) (committed b) r s = absurd (cc (r.same_kind, s.same_kind))
  one_reading kind body (forgotten x) (prepared y bs es) r s = absurd (cc (r.same_kind, s.same_kind))
  one_reading kind body (forgotten x) (decided y e) r s = absurd (cc (r.same_kind, s.same_kind))
  one_reading kind body (forgotten x) (heuristic y e) r s = absurd (cc (r.same_kind, s.same_kind))
  one_reading kind body (forgotten x) (forgotten y) r s = ap forgotten (sym r.bytes ∙ s.bytes)

  -- ---- what is wrong with a body

  -- what is found of a part says it of the body
  pub fails : {A : Type 0} (bytes_of : A → List ℕ) (Is : A → Type 0) (text : List ℕ) (kind : Kind) (body : List ℕ)
      → (((a : A) (rest : List ℕ) → Is a → text ≢ bytes_of a ++ rest) → (r : UnitRecord) → IsRecord kind body r → ⊥) → (error : ReadError) → Misses bytes_of Is text error → IsNone kind body error
  fails bytes_of Is text kind body go Damaged none = go none
  fails bytes_of Is text kind body go NoMemory none = tt

  pub commit_damaged : (body : List ℕ) → ((changes : List Change) (rest : List ℕ) → AreListed IsChange changes → body ≢ listed change_bytes changes ++ rest)
      → (r : UnitRecord) → IsRecord Commit body r → ⊥
  commit_damaged body none (committed a) r = none a [] r.good (r.bytes ∙ sym (append-nil (listed change_bytes a)))
  commit_damaged body none (prepared x cs ds) r = absurd (cc r.same_kind)
  commit_damaged body none (decided x d) r = absurd (cc r.same_kind)
  commit_damaged body none (heuristic x d) r = absurd (cc r.same_kind)
  commit_damaged body none (forgotten x) r = absurd (cc r.same_kind)

  pub commit_too_long : (body rest : List ℕ) (changes : List Change) → AreListed IsChange changes → body ≡ listed change_bytes changes ++ rest → rest ≢ [] → (r : UnitRecord) → IsRecord Commit body r → ⊥
  commit_too_long body rest changes good text more (committed a) r =
      more (o.changes changes a rest [] good r.good (sym text ∙ r.bytes ∙ sym (append-nil (listed change_bytes a)))).1
  commit_too_long body rest changes good text more (prepared x cs ds) r = absurd (cc r.same_kind)
  commit_too_long body rest changes good text more (decided x d) r = absurd (cc r.same_kind)
  commit_too_long body rest changes good text more (heuristic x d) r = absurd (cc r.same_kind)
  commit_too_long body rest changes good text more (forgotten x) r = absurd (cc r.same_kind)

  -- no XID stands in front
  pub unnamed_prepare : (body : List ℕ) → ((xid rest : List ℕ) → IsXid xid → body ≢ xid ++ rest) → (r : UnitRecord) → IsRecord Prepare body r → ⊥
  unnamed_prepare body none (committed a) r = absurd (cc r.same_kind)
  unnamed_prepare body none (prepared x cs ds) r = none x (listed claim_bytes ds ++ listed change_bytes cs) r.good.0 r.bytes
  unnamed_prepare body none (decided x d) r = absurd (cc r.same_kind)
  unnamed_prepare body none (heuristic x d) r = absurd (cc r.same_kind)
  unnamed_prepare body none (forgotten x) r = absurd (cc r.same_kind)

  pub unnamed_decide : (body : List ℕ) → ((xid rest : List ℕ) → IsXid xid → body ≢ xid ++ rest) → (r : UnitRecord) → IsRecord Decide body r → ⊥
  unnamed_decide body none (committed a) r = absurd (cc r.same_kind)
  unnamed_decide body none (prepared x cs ds) r = absurd (cc r.same_kind)
  unnamed_decide body none (decided x d) r = none x (decision_byte d ∷ []) r.good r.bytes
  unnamed_decide body none (heuristic x d) r = absurd (cc r.same_kind)
  unnamed_decide body none (forgotten x) r = absurd (cc r.same_kind)

  pub unnamed_heuristic : (body : List ℕ) → ((xid rest : List ℕ) → IsXid xid → body ≢ xid ++ rest) → (r : UnitRecord) → IsRecord Heuristic body r → ⊥
  unnamed_heuristic body none (committed a) r = absurd (cc r.same_kind)
  unnamed_heuristic body none (prepared x cs ds) r = absurd (cc r.same_kind)
  unnamed_heuristic body none (decided x d) r = absurd (cc r.same_kind)
  unnamed_heuristic body none (heuristic x d) r = none x (decision_byte d ∷ []) r.good r.bytes
  unnamed_heuristic body none (forgotten x) r = absurd (cc r.same_kind)

  pub unnamed_forget : (body : List ℕ) → ((xid rest : List ℕ) → IsXid xid → body ≢ xid ++ rest) → (r : UnitRecord) → IsRecord Forget body r → ⊥
  unnamed_forget body none (committed a) r = absurd (cc r.same_kind)
  unnamed_forget body none (prepared x cs ds) r = absurd (cc r.same_kind)
  unnamed_forget body none (decided x d) r = absurd (cc r.same_kind)
  unnamed_forget body none (heuristic x d) r = absurd (cc r.same_kind)
  unnamed_forget body none (forgotten x) r = none x [] r.good (r.bytes ∙ sym (append-nil x))

  module _ (body xid behind : List ℕ) (named : IsXid xid) (text : body ≡ xid ++ behind) where
    pub no_outcome : ((d : Decision) → behind ≢ decision_byte d ∷ []) → (r : UnitRecord) → IsRecord Heuristic body r → ⊥
    no_outcome none (committed a) r = absurd (cc r.same_kind)
    no_outcome none (prepared x cs ds) r = absurd (cc r.same_kind)
    no_outcome none (decided x d) r = absurd (cc r.same_kind)
    no_outcome none (heuristic x d) r = none d (o.xids xid x behind (decision_byte d ∷ []) named r.good (sym text ∙ r.bytes)).1
    no_outcome none (forgotten x) r = absurd (cc r.same_kind)

    pub forget_too_long : behind ≢ [] → (r : UnitRecord) → IsRecord Forget body r → ⊥
    forget_too_long more (committed a) r = absurd (cc r.same_kind)
    forget_too_long more (prepared x cs ds) r = absurd (cc r.same_kind)
    forget_too_long more (decided x d) r = absurd (cc r.same_kind)
    forget_too_long more (heuristic x d) r = absurd (cc r.same_kind)
    forget_too_long more (forgotten x) r = more (o.xids xid x behind [] named r.good (sym text ∙ r.bytes ∙ sym (append-nil x))).1

    pub is_forget : behind ≡ [] → IsRecord Forget body (forgotten xid)
    is_forget none = record { same_kind = refl; bytes = text ∙ ap (λ (l : List ℕ). xid ++ l) none ∙ append-nil xid; good = named }

    pub undecided : ((d : Decision) → behind ≢ decision_byte d ∷ []) → (r : UnitRecord) → IsRecord Decide body r → ⊥
    undecided none (committed a) r = absurd (cc r.same_kind)
    undecided none (prepared x cs ds) r = absurd (cc r.same_kind)
    undecided none (decided x d) r = none d (o.xids xid x behind (decision_byte d ∷ []) named r.good (sym text ∙ r.bytes)).1
    undecided none (heuristic x d) r = absurd (cc r.same_kind)
    undecided none (forgotten x) r = absurd (cc r.same_kind)

    -- what a prepare has behind its XID
    after_xid : (x : List ℕ) (cs : List Change) (ds : List Claim) → IsRecord Prepare body (prepared x cs ds) → behind ≡ listed claim_bytes ds ++ listed change_bytes cs
    after_xid x cs ds r = (o.xids xid x behind (listed claim_bytes ds ++ listed change_bytes cs) named r.good.0 (sym text ∙ r.bytes)).1

    pub unclaimed : ((claims : List Claim) (rest : List ℕ) → AreListed IsClaim claims → behind ≢ listed claim_bytes claims ++ rest) → (r : UnitRecord) → IsRecord Prepare body r → ⊥
    unclaimed none (committed a) r = absurd (cc r.same_kind)
    unclaimed none (prepared x cs ds) r = none ds (listed change_bytes cs) r.good.1 (after_xid x cs ds r)
    unclaimed none (decided x d) r = absurd (cc r.same_kind)
    unclaimed none (heuristic x d) r = absurd (cc r.same_kind)
    unclaimed none (forgotten x) r = absurd (cc r.same_kind)

    module _ (claims : List Claim) (last : List ℕ) (claimed : AreListed IsClaim claims) (more : behind ≡ listed claim_bytes claims ++ last) where
      after_claims : (x : List ℕ) (cs : List Change) (ds : List Claim) → IsRecord Prepare body (prepared x cs ds) → last ≡ listed change_bytes cs
      after_claims x cs ds r = (o.claims claims ds last (listed change_bytes cs) claimed r.good.1 (sym more ∙ after_xid x cs ds r)).1

      pub unchanged : ((changes : List Change) (rest : List ℕ) → AreListed IsChange changes → last ≢ listed change_bytes changes ++ rest) → (r : UnitRecord) → IsRecord Prepare body r → ⊥
      unchanged none (committed a) r = absurd (cc r.same_kind)
      unchanged none (prepared x cs ds) r = none cs [] r.good.2 (after_claims x cs ds r ∙ sym (append-nil (listed change_bytes cs)))
      unchanged none (decided x d) r = absurd (cc r.same_kind)
      unchanged none (heuristic x d) r = absurd (cc r.same_kind)
      unchanged none (forgotten x) r = absurd (cc r.same_kind)

      module _ (changes : List Change) (rest : List ℕ) (good : AreListed IsChange changes) (end : last ≡ listed change_bytes changes ++ rest) where
        pub prepare_too_long : rest ≢ [] → (r : UnitRecord) → IsRecord Prepare body r → ⊥
        prepare_too_long left (committed a) r = absurd (cc r.same_kind)
        prepare_too_long left (prepared x cs ds) r =
            left (o.changes changes cs rest [] good r.good.2 (sym end ∙ after_claims x cs ds r ∙ sym (append-nil (listed change_bytes cs)))).1
        prepare_too_long left (decided x d) r = absurd (cc r.same_kind)
        prepare_too_long left (heuristic x d) r = absurd (cc r.same_kind)
        prepare_too_long left (forgotten x) r = absurd (cc r.same_kind)

        pub is_prepare : rest ≡ [] → IsRecord Prepare body (prepared xid changes claims)
        is_prepare none = record {
          same_kind = refl;
          bytes = text ∙ ap (λ (l : List ℕ). xid ++ l) (more ∙ ap (λ (l : List ℕ). listed claim_bytes claims ++ l) (end ∙ ap (λ (l : List ℕ). listed change_bytes changes ++ l) none ∙ append-nil (listed change_bytes changes)));
          good = (named, claimed, good);
        }

-- ---- what is read is the record that stands there

pub gives : OneReading → (kind : Kind) (body : List ℕ) (r : UnitRecord) (result : Result CodeRecord ReadError) → ReadsRecord kind body result → IsRecord kind body r → Gives r result
gives once kind body r (Ok read) is there = once kind body (record_of read) r is there
gives once kind body r (Err Damaged) is there = is r there
gives once kind body r (Err NoMemory) is there = tt
