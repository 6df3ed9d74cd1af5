-- What is answered, and from where on a unit is refused.
use Rattle.std.proofs.Common.{◌≡◌, ◌≤◌, ◌<◌, ◌+◌, ◌-◌, ℕ, Bool, List, [], Option, Some, None, length, refl, ◌∙◌, ap, arith}
use Rattle.std.proofs.lemmas.Bool.{le-leb, le-ltb, lt-leb, lt-ltb}
use Rattle.std.specs.Prelude.{if◌then◌else◌, is_some, Ok}
use Rattle.row_values.specs.Schema.{Schema}
use Rattle.tables.specs.Change.{Change}
use Rattle.tables.specs.Tables.{schema_of}
use Rattle.unit_locks.specs.Claims.{all_added}
use Rattle.xa_calls.specs.declared.code.XaCode.TheVariants as code
use Rattle.xa_calls.specs.declared.request.Verb.{Verb}
use Rattle.xa_calls.specs.declared.request.Verb.TheVariants as verb
use Rattle.xa_manager.specs.declared.branch.BranchState.{BranchState}
use Rattle.xa_manager.specs.declared.branch.BranchState.TheVariants.{Idle}
use Rattle.xa_manager.specs.declared.due.Action.TheVariants as action
use Rattle.xa_manager.specs.Branch.{in_doubt_count, joined_xid, state_of}
use Rattle.xa_manager.specs.Due.{done, due_at, refused}
use Rattle.core_calls.specs.declared.sql_fault.SqlFault.TheVariants as fault
use Rattle.core_calls.specs.Answer as told
use Rattle.core_calls.specs.Answer.{Answer}
use Rattle.sql_semantics.specs.Checked.{Checked, unless}
use Rattle.sql_semantics.specs.Describe.{described}
use Rattle.sql_semantics.specs.Meaning.{Answer as Meant, Changes}
use Rattle.sql_semantics.specs.Scope.{table_name}
use Rattle.core_model.specs.Units.{Work, global, has_any, has_work, left_of, local, others, unit_of, view}
use Rattle.core_model.specs.Asked as asked
use Rattle.core_model.specs.Asked.{Outcome, answer_in, described_claims, fit_or, kept, outcome}
use Rattle.core_model.specs.Events.{Base}
use Rattle.core_model.specs.Step.{owner_of, unless_joined}
use Rattle.core_model.specs.Laws.{AllButCreationsAreDescribed, ChangesHaveALimit, ClaimsHaveALimit, DescriptionsClaimNothing, EndsAreAnswered, StartsWantNoWork, bytes_of}
use Rattle.core_model.proofs.Owners.{unit_of_set}
use Rattle.core_model.proofs.Asking.{Fit, Free, nil_right, through}

pub ends_are_answered : EndsAreAnswered
ends_are_answered s c =
    let at : Option (List ℕ) → Answer = λ j. unless_joined j told.done told.in_global in
    (λ alone. (ap at alone, ap at alone), λ xid joined. (ap at joined, ap at joined))

-- ---- limits

pub claims_have_a_limit : ClaimsHaveALimit
claims_have_a_limit ds u cs a xs free =
    let after = all_added u.claims cs in (
      λ few. ap (Free ds u cs a xs) free ∙ ap (Fit ds u cs a xs) (le-ltb 65535 (length after) few),
      λ many. ap (Free ds u cs a xs) free ∙ ap (Fit ds u cs a xs) (lt-ltb 65535 (length after) many),
    )

room : (had more : ℕ) → had + more ≤ 1048576 → more ≤ 1048576 - had
room had more few = omega (arith, few)

no_room : (had more : ℕ) → had ≤ 1048576 → 1048576 < had + more → 1048576 - had < more
no_room had more so many = omega (arith, so, many)

pub changes_have_a_limit : ChangesHaveALimit
changes_have_a_limit u xs n =
    let by : Bool → Checked Meant = λ b. unless b fault.LimitReached (Ok (Changes xs n)) in (
      λ few. ap by (le-leb (bytes_of xs) (left_of u) (room (bytes_of u.changes) (bytes_of xs) few)),
      λ so many. ap by (lt-leb (bytes_of xs) (left_of u) (no_room (bytes_of u.changes) (bytes_of xs) so many)),
    )

-- ---- descriptions

kept_alike : (u : Work) (table : List ℕ) (seen : Option Schema) (schema : Schema) → seen ≡ Some schema → kept u (described_claims table seen) [] ≡ u
kept_alike u table seen schema there =
    ap (λ q. kept u (described_claims table q) []) there ∙ ap (λ (xs : List Change). record { changes = xs; claims = u.claims }) (nil_right u.changes)

pub descriptions_claim_nothing : DescriptionsClaimNothing
descriptions_claim_nothing s c st d schema there =
    let o = owner_of s.branches c in
    let u = unit_of o s.base.units in
    let table = table_name st.command in
    let seen = schema_of (view s.base.store u) table in
    let cs = described_claims table seen in
    let a = asked.told (described d st.command seen) in
    through (others o s.base.units) u cs a [] (λ (b : Base). unit_of o b.units ≡ u) s.base o (asked.unfit (asked.describing st d)) refl
    (λ free few. unit_of_set o (kept u cs []) s.base.units ∙ kept_alike u table seen schema there)

pub all_but_creations_are_described : AllButCreationsAreDescribed
all_but_creations_are_described s c st d =
    let o = owner_of s.branches c in
    let u = unit_of o s.base.units in
    let ds = others o s.base.units in
    let table = table_name st.command in
    let seen = schema_of (view s.base.store u) table in
    let over : Option Schema → Outcome = λ q. outcome ds u (described_claims table q) (asked.told (described d st.command q)) [] in
    let by : Bool → Answer = λ b. answer_in (fit_or (if b then Some fault.NotPrepared else None) (over seen)) in (
      λ creates. ap by creates,
      λ other schema there few.
          let a = asked.told (described d st.command (Some schema)) in
          ap by other ∙ ap (λ q. answer_in (over q)) there ∙ ap (λ b. answer_in (Fit ds u [] a [] b)) (le-ltb 65535 (length u.claims) few),
    )

-- ---- starts

pub starts_want_no_work : StartsWantNoWork
starts_want_no_work s c xid alone =
    let joined = joined_xid s.branches c in
    let state = state_of s.branches xid in
    let own = has_work (unit_of (local c) s.base.units) in
    let by : Verb → Option BranchState → Option (List ℕ) → Bool → Answer = λ v b j w.
    told.xa (due_at v b (record {
      conversation = c;
      is_joined = is_some j;
      work = record { is_local = w; has_changes = has_any (unit_of (global xid) s.base.units).changes };
      known = length s.branches;
      in_doubt = in_doubt_count s.branches;
    })).code
    in
    let started : Bool → Answer = λ full. told.xa (if full then refused code.Limit else done action.Start).code in (
      λ new works. ap (λ b. by verb.Start b joined own) new ∙ ap (λ j. by verb.Start None j own) alone ∙ ap (by verb.Start None None) works,
      λ b known works. ap (λ q. by verb.Join q joined own) known ∙ ap (λ j. by verb.Join (Some b) j own) alone ∙ ap (by verb.Join (Some b) None) works,
      λ new rests few. ap (λ b. by verb.Start b joined own) new ∙ ap (λ j. by verb.Start None j own) alone ∙ ap (by verb.Start None None) rests ∙ ap started (lt-leb 1024 (length s.branches) few),
      λ last known rests. ap (λ q. by verb.Join q joined own) known ∙ ap (λ j. by verb.Join (Some (Idle last)) j own) alone ∙ ap (by verb.Join (Some (Idle last)) None) rests,
    )
