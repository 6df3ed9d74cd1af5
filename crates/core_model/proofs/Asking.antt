-- What becomes of a unit that asks.
use Rattle.std.proofs.Common.{◌≡◌, inl, inr, ⊎_elim, ℕ, Bool, true, false, List, [], ◌∷◌, ◌++◌, Option, Some, None, refl, sym, ◌∙◌, ap, subst}
use Rattle.std.specs.Prelude.{if◌then◌else◌, ◌||◌, Ok, Err, length, nat_le, option_map, unwrap_or}
use Rattle.std.specs.List.{list_any}
use Rattle.sql_text.specs.declared.tree.Statement.{Statement}
use Rattle.sql_text.specs.declared.tree.Command.{Command}
use Rattle.row_values.specs.Value.{Value}
use Rattle.row_values.specs.Column.{Column}
use Rattle.row_values.specs.Schema.{Schema}
use Rattle.tables.specs.Change.{Change}
use Rattle.tables.specs.Tables.{Store, schema_of}
use Rattle.tables.specs.View.{is_store}
use Rattle.unit_locks.specs.Claim.{Claim}
use Rattle.unit_locks.specs.Claims.{AddsClaims, In, all_added}
use Rattle.unit_locks.specs.Clash.{clash}
use Rattle.core_calls.specs.declared.call.Side.{Side}
use Rattle.core_calls.specs.declared.call.Side.TheVariants as side
use Rattle.core_calls.specs.declared.described.ParameterType.{ParameterType}
use Rattle.core_calls.specs.declared.refusal.Refusal.{Refusal}
use Rattle.core_calls.specs.declared.refusal.Refusal.TheVariants as refusal
use Rattle.core_calls.specs.declared.sql_fault.SqlFault.{SqlFault}
use Rattle.core_calls.specs.declared.sql_fault.SqlFault.TheVariants as fault
use Rattle.core_calls.specs.Call as call
use Rattle.core_calls.specs.Call.{Call}
use Rattle.core_calls.specs.Answer as told
use Rattle.core_calls.specs.Answer.{Answer}
use Rattle.sql_semantics.specs.Checked.{Checked, and_then, unless}
use Rattle.sql_semantics.specs.Meaning.{Answer as Meant, Changes, Refused, Rows}
use Rattle.sql_semantics.specs.Frame.{CoveredIsEnough, changes_of, claims_in, covered_answer}
use Rattle.sql_semantics.specs.Scope.{table_name}
use Rattle.sql_semantics.specs.Describe.{described, described_columns, parameter_types, side_of}
use Rattle.core_model.specs.Units.{Owner, Work, clashes, global, is_full, left_of, local, others, unit_of, view}
use Rattle.core_model.specs.Asked as asking
use Rattle.core_model.specs.Asked.{Clashes, Done, Outcome, Question, TooMany, Unfit, answer_in, answer_to, asked, changes_by, claims_of, describing, fit_or, is_select, kept, meant, number_fault, outcome, querying, running, unfit}
use Rattle.core_model.specs.Events.{Base, asked_of, happens_asked}
use Rattle.core_model.specs.Step.{CoreState, owner_of}
use Rattle.core_model.specs.Laws.{AnswersAreMeanings, Claimed, ClaimsAreKept, Means, RefusalsChangeNothing, RefusalsMakeNoChange, StatementsStay, UnfitIsRefused, WorkIsWhereJoined, is_meant, question_of}
use Rattle.core_model.proofs.Owners.{both, others_has, unit_of_set, which}
use Rattle.core_model.proofs.Happening.{others_stay, store_stays}

none_is_some : {Y : Type 0} (q : Question) → question_of call.commit ≡ Some q → Y
none_is_some q e = absurd cc

pub statements_stay : StatementsStay
statements_stay s c (call.run st params) q is =
    let o = owner_of s.branches c in let x = asked_of s.base o (running st params) in
    record { store = store_stays s.base o x; branches = refl; others = others_stay s.base o x }
statements_stay s c (call.query st params) q is =
    let o = owner_of s.branches c in let x = asked_of s.base o (querying st params) in
    record { store = store_stays s.base o x; branches = refl; others = others_stay s.base o x }
statements_stay s c (call.describe st d) q is =
    let o = owner_of s.branches c in let x = asked_of s.base o (describing st d) in
    record { store = store_stays s.base o x; branches = refl; others = others_stay s.base o x }
statements_stay s c call.commit q is = none_is_some q is
statements_stay s c call.roll_back q is = none_is_some q is
statements_stay s c (call.xa r) q is = none_is_some q is
statements_stay s c call.lost q is = none_is_some q is

-- ---- an answer by what the statement means

meant_is : (m : Meant) → is_meant (meant m) ≡ true
meant_is (Refused f) = refl
meant_is (Changes xs n) = refl
meant_is (Rows l) = refl

input_is : (b : Bool) (types : List ParameterType) → is_meant (asking.told (unless b fault.LimitReached (Ok (told.input types)))) ≡ true
input_is true types = refl
input_is false types = refl

side_is : (d : Side) (schema : Schema) (c : Command) (cs : List Column) → is_meant (asking.told (side_of d schema c cs)) ≡ true
side_is side.Output schema c cs = refl
side_is side.Input schema c cs = input_is (nat_le (length (parameter_types schema.columns c)) 128) (parameter_types schema.columns c)

columns_are : (d : Side) (schema : Schema) (c : Command) (r : Checked (List Column)) → is_meant (asking.told (and_then r (side_of d schema c))) ≡ true
columns_are d schema c (Ok cs) = side_is d schema c cs
columns_are d schema c (Err f) = refl

described_is : (d : Side) (c : Command) (q : Option Schema) → is_meant (asking.told (described d c q)) ≡ true
described_is d c None = refl
described_is d c (Some schema) = columns_are d schema c (described_columns schema c)

answer_is : (q : Question) (left : ℕ) (v : Store) → is_meant (answer_to q left v) ≡ true
answer_is (running st params) left v = meant_is (covered_answer params left st.command v)
answer_is (querying st params) left v = meant_is (covered_answer params left st.command v)
answer_is (describing st d) left v = described_is d st.command (schema_of v (table_name st.command))

-- ---- a refusal before claims

module _ (ds : List Claim) (u : Work) (cs : List Claim) (a : Answer) (xs : List Change) where
  abbrev pub Fit : Bool → Outcome
  Fit b = if b then TooMany else Done a (kept u cs xs)

  abbrev pub Free : Bool → Outcome
  Free b = if b then Clashes else Fit (is_full (all_added u.claims cs))

  nothing : (b : Base) (o : Owner) (e : Option SqlFault) → is_meant a ≡ true → is_meant (answer_in (fit_or e (outcome ds u cs a xs))) ≡ false → happens_asked b o (fit_or e (outcome ds u cs a xs)) ≡ b
  nothing b o (Some f) good h = refl
  nothing b o None good h =
      ⊎_elim
      (λ so. ap (λ t. happens_asked b o (Free t)) so)
      (λ n. ⊎_elim
      (λ so. ap (λ t. happens_asked b o (Free t)) n ∙ ap (λ t. happens_asked b o (Fit t)) so)
      (λ m. both (is_meant a) good (sym (ap (λ t. is_meant (answer_in (Fit t))) m) ∙ sym (ap (λ t. is_meant (answer_in (Free t))) n) ∙ h))
      (which (is_full (all_added u.claims cs))))
      (which (clashes cs ds))

  -- what holds before holds behind, whatever the outcome
  pub through : (P : Base → Type 0) (b : Base) (o : Owner) (e : Option SqlFault) → P b
      → (clashes cs ds ≡ false → is_full (all_added u.claims cs) ≡ false → P (happens_asked b o (Done a (kept u cs xs))))
      → P (happens_asked b o (fit_or e (outcome ds u cs a xs)))
  through P b o (Some f) before done = before
  through P b o None before done =
      ⊎_elim
      (λ so. subst (λ t. P (happens_asked b o (Free t))) (sym so) before)
      (λ n. subst (λ t. P (happens_asked b o (Free t))) (sym n) (⊎_elim
      (λ so. subst (λ t. P (happens_asked b o (Fit t))) (sym so) before)
      (λ m. subst (λ t. P (happens_asked b o (Fit t))) (sym m) (done n m))
      (which (is_full (all_added u.claims cs)))))
      (which (clashes cs ds))

  -- and where it is answered by what it means
  done : (e : Option SqlFault) → is_meant (answer_in (fit_or e (outcome ds u cs a xs))) ≡ true → (fit_or e (outcome ds u cs a xs) ≡ Done a (kept u cs xs)) × (clashes cs ds ≡ false)
  done (Some f) h = both false h refl
  done None h =
      ⊎_elim
      (λ so. both false (sym (ap (λ t. is_meant (answer_in (Free t))) so) ∙ h) refl)
      (λ n. ⊎_elim
      (λ so. both false (sym (ap (λ t. is_meant (answer_in (Fit t))) so) ∙ sym (ap (λ t. is_meant (answer_in (Free t))) n) ∙ h) refl)
      (λ m. (ap Free n ∙ ap Fit m, n))
      (which (is_full (all_added u.claims cs))))
      (which (clashes cs ds))

refused_asked : (b : Base) (o : Owner) (q : Question) → is_meant (answer_in (asked_of b o q)) ≡ false → happens_asked b o (asked_of b o q) ≡ b
refused_asked b o q h =
    let u = unit_of o b.units in let v = view b.store u in
    nothing (others o b.units) u (claims_of q v) (answer_to q (left_of u) v) (changes_by q (left_of u) v) b o (unfit q) (answer_is q (left_of u) v) h

pub refusals_change_nothing : RefusalsChangeNothing
refusals_change_nothing s c (call.run st params) q is h = ap (λ b. record { base = b; branches = s.branches }) (refused_asked s.base (owner_of s.branches c) (running st params) h)
refusals_change_nothing s c (call.query st params) q is h = ap (λ b. record { base = b; branches = s.branches }) (refused_asked s.base (owner_of s.branches c) (querying st params) h)
refusals_change_nothing s c (call.describe st d) q is h = ap (λ b. record { base = b; branches = s.branches }) (refused_asked s.base (owner_of s.branches c) (describing st d) h)
refusals_change_nothing s c call.commit q is h = none_is_some q is
refusals_change_nothing s c call.roll_back q is h = none_is_some q is
refusals_change_nothing s c (call.xa r) q is h = none_is_some q is
refusals_change_nothing s c call.lost q is h = none_is_some q is

-- ---- a refusal makes no change

pub nil_right : (xs : List Change) → xs ++ [] ≡ xs
nil_right [] = refl
nil_right (x ∷ xs) = ap (λ ys. x ∷ ys) (nil_right xs)

meant_none : (m : Meant) (r : Refusal) → meant m ≡ told.refused r → changes_of m ≡ []
meant_none (Refused f) r e = refl
meant_none (Changes xs n) r e = absurd cc
meant_none (Rows l) r e = absurd cc

changes_none : (q : Question) (left : ℕ) (v : Store) (r : Refusal) → answer_to q left v ≡ told.refused r → changes_by q left v ≡ []
changes_none (running st params) left v r e = meant_none (covered_answer params left st.command v) r e
changes_none (querying st params) left v r e = meant_none (covered_answer params left st.command v) r e
changes_none (describing st d) left v r e = refl

-- the changes of the owner's unit behind an outcome
abbrev Unchanged : Base → Owner → Outcome → Type 0
Unchanged b o x = (unit_of o (happens_asked b o x).units).changes ≡ (unit_of o b.units).changes

done_unchanged : (b : Base) (o : Owner) (cs : List Claim) (a : Answer) (xs : List Change) → xs ≡ [] → Unchanged b o (Done a (kept (unit_of o b.units) cs xs))
done_unchanged b o cs a xs none =
    let u = unit_of o b.units in
    ap (λ (w : Work). w.changes) (unit_of_set o (kept u cs xs) b.units) ∙ ap (λ ys. u.changes ++ ys) none ∙ nil_right u.changes

unchanged : (b : Base) (o : Owner) (q : Question) (r : Refusal) (e : Option SqlFault) →
    let u = unit_of o b.units in let v = view b.store u in
    let x = fit_or e (outcome (others o b.units) u (claims_of q v) (answer_to q (left_of u) v) (changes_by q (left_of u) v)) in
    answer_in x ≡ told.refused r → Unchanged b o x
unchanged b o q r (Some f) h = refl
unchanged b o q r None h =
    let u = unit_of o b.units in let v = view b.store u in
    let cs = claims_of q v in let a = answer_to q (left_of u) v in let xs = changes_by q (left_of u) v in
    let ds = others o b.units in
    let free : Bool → Outcome = Free ds u cs a xs in
    let fit : Bool → Outcome = Fit ds u cs a xs in
    ⊎_elim
    (λ so. subst (λ t. Unchanged b o (free t)) (sym so) refl)
    (λ n. subst (λ t. Unchanged b o (free t)) (sym n) (⊎_elim
    (λ so. subst (λ t. Unchanged b o (fit t)) (sym so) refl)
    (λ m. subst (λ t. Unchanged b o (fit t)) (sym m) (done_unchanged b o cs a xs (changes_none q (left_of u) v r (sym (ap (λ t. answer_in (fit t)) m) ∙ sym (ap (λ t. answer_in (free t)) n) ∙ h))))
    (which (is_full (all_added u.claims cs)))))
    (which (clashes cs ds))

pub refusals_make_no_change : RefusalsMakeNoChange
refusals_make_no_change s c (call.run st params) q r is h = unchanged s.base (owner_of s.branches c) (running st params) r (unfit (running st params)) h
refusals_make_no_change s c (call.query st params) q r is h = unchanged s.base (owner_of s.branches c) (querying st params) r (unfit (querying st params)) h
refusals_make_no_change s c (call.describe st d) q r is h = unchanged s.base (owner_of s.branches c) (describing st d) r (unfit (describing st d)) h
refusals_make_no_change s c call.commit q r is h = none_is_some q is
refusals_make_no_change s c call.roll_back q r is h = none_is_some q is
refusals_make_no_change s c (call.xa x) q r is h = none_is_some q is
refusals_make_no_change s c call.lost q r is h = none_is_some q is

-- ---- claims

or_false : (a b : Bool) → (a || b) ≡ false → (a ≡ false) × (b ≡ false)
or_false true b e = both true refl e
or_false false b e = (refl, e)

one_apart : (c : Claim) (ds : List Claim) → list_any (clash c) ds ≡ false → (d : Claim) → In d ds → clash c d ≡ false
one_apart c [] free d i = absurd i
one_apart c (e ∷ ds) free d (inl same) = ap (clash c) same ∙ (or_false (clash c e) (list_any (clash c) ds) free).0
one_apart c (e ∷ ds) free d (inr i) = one_apart c ds (or_false (clash c e) (list_any (clash c) ds) free).1 d i

pub all_apart : (cs ds : List Claim) → clashes cs ds ≡ false → (c d : Claim) → In c cs → In d ds → clash c d ≡ false
all_apart [] ds free c d i j = absurd i
all_apart (e ∷ cs) ds free c d (inl same) j = ap (λ x. clash x d) same ∙ one_apart e ds (or_false (list_any (clash e) ds) (clashes cs ds) free).0 d j
all_apart (e ∷ cs) ds free c d (inr i) j = all_apart cs ds (or_false (list_any (clash e) ds) (clashes cs ds) free).1 c d i j

module _ (adds : AddsClaims) where
  -- a question that is answered by what it means
  pub asked_done : (b : Base) (o : Owner) (q : Question) →
      let u = unit_of o b.units in let v = view b.store u in
      is_meant (answer_in (asked_of b o q)) ≡ true → (asked_of b o q ≡ Done (answer_to q (left_of u) v) (kept u (claims_of q v) (changes_by q (left_of u) v))) × (clashes (claims_of q v) (others o b.units) ≡ false)
  asked_done b o q h =
      let u = unit_of o b.units in let v = view b.store u in
      done (others o b.units) u (claims_of q v) (answer_to q (left_of u) v) (changes_by q (left_of u) v) (unfit q) h

  pub claims_behind : (b : Base) (o : Owner) (q : Question) → is_meant (answer_in (asked_of b o q)) ≡ true →
      let u = unit_of o b.units in
      (unit_of o (happens_asked b o (asked_of b o q)).units).claims ≡ all_added u.claims (claims_of q (view b.store u))
  claims_behind b o q h =
      let u = unit_of o b.units in let v = view b.store u in
      let w = kept u (claims_of q v) (changes_by q (left_of u) v) in
      ap (λ x. (unit_of o (happens_asked b o x).units).claims) (asked_done b o q h).0 ∙ ap (λ (x : Work). x.claims) (unit_of_set o w b.units)

  claimed : (s : CoreState) (o : Owner) (q : Question) (st : Statement) (params : List Value) →
      claims_of q (view s.base.store (unit_of o s.base.units)) ≡ claims_in params st.command (view s.base.store (unit_of o s.base.units))
      → is_meant (answer_in (asked_of s.base o q)) ≡ true → Claimed s o st params (happens_asked s.base o (asked_of s.base o q))
  claimed s o q st params same h =
      let u = unit_of o s.base.units in let v = view s.base.store u in
      let behind = claims_behind s.base o q h in
      record {
        kept = λ c i. subst (λ (cs : List Claim). In c cs) (sym behind) (adds.old c u.claims (claims_of q v) i);
        new = λ c i. subst (λ (cs : List Claim). In c cs) (sym behind) (adds.new c u.claims (claims_of q v) (subst (λ (cs : List Claim). In c cs) (sym same) i));
        apart = λ p ne c d i j. all_apart (claims_of q v) (others o s.base.units) (asked_done s.base o q h).1 c d (subst (λ (cs : List Claim). In c cs) (sym same) i) (others_has p o s.base.units d ne j);
      }

  pub claims_are_kept : ClaimsAreKept
  claims_are_kept s c st params =
      let o = owner_of s.branches c in
      (λ h. claimed s o (running st params) st params refl h, λ h. claimed s o (querying st params) st params refl h)

  -- ---- the answer

  module _ (enough : CoveredIsEnough) where
    means : (s : CoreState) (o : Owner) (q : Question) (st : Statement) (params : List Value) → is_store (view s.base.store (unit_of o s.base.units)) ≡ true
        → ((left : ℕ) (v : Store) → answer_to q left v ≡ meant (covered_answer params left st.command v)) → ((left : ℕ) (v : Store) → changes_by q left v ≡ changes_of (covered_answer params left st.command v))
        → is_meant (answer_in (asked_of s.base o q)) ≡ true → Means s o st params (answer_in (asked_of s.base o q)) (happens_asked s.base o (asked_of s.base o q))
    means s o q st params good same changed h =
        let u = unit_of o s.base.units in let v = view s.base.store u in
        let whole = enough params (left_of u) st.command v good in
        let is = (asked_done s.base o q h).0 in
        let w = kept u (claims_of q v) (changes_by q (left_of u) v) in
        record {
          answer = ap answer_in is ∙ same (left_of u) v ∙ ap meant (sym whole);
          changes = ap (λ x. (unit_of o (happens_asked s.base o x).units).changes) is ∙ ap (λ (x : Work). x.changes) (unit_of_set o w s.base.units)
              ∙ ap (λ xs. u.changes ++ xs) (changed (left_of u) v ∙ ap changes_of (sym whole));
        }

    pub answers_are_meanings : AnswersAreMeanings
    answers_are_meanings s c st params good =
        let o = owner_of s.branches c in
        (λ h. means s o (running st params) st params good (λ left v. refl) (λ left v. refl) h, λ h. means s o (querying st params) st params good (λ left v. refl) (λ left v. refl) h)

-- ---- who works where, and what is unfit

pub work_is_where_joined : WorkIsWhereJoined
work_is_where_joined branches c =
    let at : Option (List ℕ) → Owner = λ j. unwrap_or (option_map (λ x. global x) j) (local c) in
    record { alone = λ e. ap at e; joined = λ xid e. ap at e }

unfit_answer : (b : Base) (o : Owner) (q : Question) (f : SqlFault) → unfit q ≡ Some f → answer_in (asked_of b o q) ≡ told.refused (refusal.Unfit f)
unfit_answer b o q f is =
    let u = unit_of o b.units in let v = view b.store u in
    ap (λ e. answer_in (fit_or e (outcome (others o b.units) u (claims_of q v) (answer_to q (left_of u) v) (changes_by q (left_of u) v)))) is

pub unfit_is_refused : UnfitIsRefused
unfit_is_refused s c st params =
    let o = owner_of s.branches c in
    let run_by : Bool → Option SqlFault = λ b. if b then Some fault.NotPrepared else number_fault st params in
    let query_by : Bool → Option SqlFault = λ b. if b then number_fault st params else Some fault.NotPrepared in
    let number_by : Bool → Option SqlFault = λ b. if b then None else Some fault.ParameterMismatch in (
      λ e. unfit_answer s.base o (running st params) fault.NotPrepared (ap run_by e),
      λ e. unfit_answer s.base o (querying st params) fault.NotPrepared (ap query_by e),
      λ e. ⊎_elim (λ so. inr so) (λ n. inl (unfit_answer s.base o (running st params) fault.ParameterMismatch (ap run_by n ∙ ap number_by e))) (which (is_select st.command)),
      λ e. ⊎_elim (λ so. inl (unfit_answer s.base o (querying st params) fault.ParameterMismatch (ap query_by so ∙ ap number_by e))) (λ n. inr n) (which (is_select st.command)),
    )
