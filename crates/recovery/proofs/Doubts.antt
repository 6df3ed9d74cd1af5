-- The units of branches in doubt, and what edits of the branches leave of them.
use Rattle.std.proofs.Common.{◌≡◌, ⊎_elim, ℕ, suc, Bool, true, false, not, List, [], ◌∷◌, length, Option, Some, None, refl, sym, ◌∙◌, ap, subst, map, arith}
use Rattle.std.specs.Prelude.{bytes_eq, filter, if◌then◌else◌, is_some}
use Rattle.drda_words.specs.Order.{precedes}
use Rattle.drda_words.proofs.Precedes.{bytes_eq-refl, same_bytes}
use Rattle.xa_manager.specs.declared.branch.Branch.{Branch}
use Rattle.xa_manager.specs.declared.branch.BranchState.{BranchState}
use Rattle.xa_manager.specs.declared.branch.BranchState.TheVariants.{Active, Heuristic, Idle, Prepared, RollbackOnly}
use Rattle.xa_manager.specs.Branch.{in_doubt_count, in_doubt_xids, is_in_doubt, is_lost_with, state_of, with_branch, with_state, without, without_those_of}
use Rattle.xa_manager.specs.Counts.{weight}
use Rattle.xa_manager.proofs.Rising.{Above, Rises, counted, state_of_above, with_state_above}
use Rattle.core_model.specs.Units.{Held, Work, global, unit_of}
use Rattle.core_model.proofs.Owners.{both, which}
use Rattle.recovery.specs.Durable.{Doubt, Doubts}
use Rattle.recovery.specs.Part.{doubt_at, doubts_in, outcome_at}

-- ---- one branch

-- no branch behind has the first one's XID
pub other_first : (b : Branch) (bs : List Branch) (x : List ℕ) (s : BranchState) → Above b.xid bs → state_of bs x ≡ Some s → bytes_eq b.xid x ≡ false
other_first b bs x s above known =
    ⊎_elim
    (λ so. both (is_some (state_of bs x)) (ap is_some known) (ap is_some (state_of_above bs x (subst (λ (y : List ℕ). Above y bs) (same_bytes b.xid x so) above))))
    (λ n. n)
    (which (bytes_eq b.xid x))

pub state_behind : (b : Branch) (bs : List Branch) (x : List ℕ) (s : BranchState) → Above b.xid bs → state_of bs x ≡ Some s → state_of (b ∷ bs) x ≡ Some s
state_behind b bs x s above known = ap (λ t. if t then Some b.state else state_of bs x) (other_first b bs x s above known) ∙ known

pub state_here : (b : Branch) (bs : List Branch) → state_of (b ∷ bs) b.xid ≡ Some b.state
state_here b bs = ap (λ t. if t then Some b.state else state_of bs b.xid) (bytes_eq-refl b.xid)

-- where the branch of an XID stands that is not the first one's
pub state_rest : (b : Branch) (bs : List Branch) (x : List ℕ) → bytes_eq b.xid x ≡ false → state_of (b ∷ bs) x ≡ state_of bs x
state_rest b bs x n = ap (λ t. if t then Some b.state else state_of bs x) n

-- the branch of an XID is in doubt
abbrev pub IsDoubted : List Branch → List ℕ → Type 0
IsDoubted bs x = (s : BranchState) × (state_of bs x ≡ Some s) × (is_in_doubt s ≡ true)

doubted_behind : (b : Branch) (bs : List Branch) (x : List ℕ) → Above b.xid bs → IsDoubted bs x → IsDoubted (b ∷ bs) x
doubted_behind b bs x above d = (d.0, state_behind b bs x d.0 above d.1, d.2)

-- a branch in doubt outlives each conversation
pub stays_doubted : (c : ℕ) (s : BranchState) → is_in_doubt s ≡ true → is_lost_with c s ≡ false
stays_doubted c (Active d) h = both false h refl
stays_doubted c (Idle d) h = both false h refl
stays_doubted c (RollbackOnly d) h = both false h refl
stays_doubted c Prepared h = refl
stays_doubted c (Heuristic o) h = refl

-- the branch that is found is the first one, where that has the XID
pub first_state : (b : Branch) (bs : List Branch) (x : List ℕ) (s : BranchState) → bytes_eq b.xid x ≡ true → state_of (b ∷ bs) x ≡ Some s → is_in_doubt b.state ≡ is_in_doubt s
first_state b bs x s so known =
    let it : Some b.state ≡ Some s = sym (ap (λ t. if t then Some b.state else state_of bs x) so) ∙ known in
    ap doubtful it
  where
    doubtful : Option BranchState → Bool
    doubtful None = false
    doubtful (Some t) = is_in_doubt t

-- ---- the XIDs in doubt

abbrev xids_by : Bool → Branch → List Branch → List (List ℕ)
xids_by t b bs = map (λ (c : Branch). c.xid) (if t then b ∷ filter (λ (c : Branch). is_in_doubt c.state) bs else filter (λ (c : Branch). is_in_doubt c.state) bs)

pub xids_in : (b : Branch) (bs : List Branch) → is_in_doubt b.state ≡ true → in_doubt_xids (b ∷ bs) ≡ b.xid ∷ in_doubt_xids bs
xids_in b bs so = ap (λ t. xids_by t b bs) so

pub xids_out : (b : Branch) (bs : List Branch) → is_in_doubt b.state ≡ false → in_doubt_xids (b ∷ bs) ≡ in_doubt_xids bs
xids_out b bs n = ap (λ t. xids_by t b bs) n

-- the same first branch before lists with the same XIDs in doubt
xids_both : (b : Branch) (bs cs : List Branch) → in_doubt_xids bs ≡ in_doubt_xids cs → in_doubt_xids (b ∷ bs) ≡ in_doubt_xids (b ∷ cs)
xids_both b bs cs same =
    ⊎_elim
    (λ so. xids_in b bs so ∙ ap (λ (l : List (List ℕ)). b.xid ∷ l) same ∙ sym (xids_in b cs so))
    (λ n. xids_out b bs n ∙ same ∙ sym (xids_out b cs n))
    (which (is_in_doubt b.state))

-- some branches are taken out, of which none is in doubt
xids_kept : (q : Branch → Bool) (bs : List Branch) → Rises bs → ((b : Branch) → is_in_doubt b.state ≡ true → state_of bs b.xid ≡ Some b.state → q b ≡ true) → in_doubt_xids (filter q bs) ≡ in_doubt_xids bs
xids_kept q [] rise passes = refl
xids_kept q (b ∷ bs) rise passes =
    let rest = xids_kept q bs rise.1 (λ c doubt known. passes c doubt (state_behind b bs c.xid c.state rise.0 known)) in
    let picked : Bool → List (List ℕ) = λ t. in_doubt_xids (if t then b ∷ filter q bs else filter q bs) in
    ⊎_elim
    (λ so. ap picked (passes b so (state_here b bs)) ∙ xids_both b (filter q bs) bs rest)
    (λ n. ⊎_elim
    (λ stays. ap picked stays ∙ xids_both b (filter q bs) bs rest)
    (λ goes. ap picked goes ∙ rest ∙ sym (xids_out b bs n))
    (which (q b)))
    (which (is_in_doubt b.state))

-- the branch of an XID goes that is not in doubt
pub xids_without : (bs : List Branch) (x : List ℕ) (old : BranchState) → Rises bs → state_of bs x ≡ Some old → is_in_doubt old ≡ false → in_doubt_xids (without bs x) ≡ in_doubt_xids bs
xids_without bs x old rise known out =
    xids_kept (λ (b : Branch). not (bytes_eq b.xid x)) bs rise
    (λ b doubt there.
    ⊎_elim
    (λ so. both (is_in_doubt old) (sym (ap doubtful (sym there ∙ ap (state_of bs) (same_bytes b.xid x so) ∙ known)) ∙ doubt) out)
    (λ n. ap not n)
    (which (bytes_eq b.xid x)))
  where
    doubtful : Option BranchState → Bool
    doubtful None = false
    doubtful (Some t) = is_in_doubt t

-- those that a lost conversation takes with it
pub xids_lost : (bs : List Branch) (c : ℕ) → Rises bs → in_doubt_xids (without_those_of bs c) ≡ in_doubt_xids bs
xids_lost bs c rise = xids_kept (λ (b : Branch). not (is_lost_with c b.state)) bs rise (λ b doubt there. ap not (stays_doubted c b.state doubt))

-- one begins
pub xids_begun : (bs : List Branch) (new : Branch) → is_in_doubt new.state ≡ false → in_doubt_xids (with_branch bs new) ≡ in_doubt_xids bs
xids_begun [] new out = xids_out new [] out
xids_begun (b ∷ bs) new out =
    let placed : Bool → List (List ℕ) = λ t. in_doubt_xids (if t then new ∷ b ∷ bs else b ∷ with_branch bs new) in
    ⊎_elim
    (λ so. ap placed so ∙ xids_out new (b ∷ bs) out)
    (λ n. ap placed n ∙ xids_both b (with_branch bs new) bs (xids_begun bs new out))
    (which (precedes new.xid b.xid))

-- one moves from a state that is not in doubt to another
pub xids_moved : (bs : List Branch) (x : List ℕ) (s : BranchState) → Rises bs → is_in_doubt s ≡ false → ((old : BranchState) → state_of bs x ≡ Some old → is_in_doubt old ≡ false) → in_doubt_xids (with_state bs x s) ≡ in_doubt_xids bs
xids_moved [] x s rise new old = refl
xids_moved (b ∷ bs) x s rise new old =
    let set_to : Branch = record { xid = b.xid; state = s } in
    let turned : Bool → List (List ℕ) = λ t. in_doubt_xids ((if t then set_to else b) ∷ with_state bs x s) in
    let rest = xids_moved bs x s rise.1 new (λ o known. old o (state_behind b bs x o rise.0 known)) in
    ⊎_elim
    (λ so. ap turned so ∙ xids_out set_to (with_state bs x s) new ∙ rest ∙ sym (xids_out b bs (old b.state (ap (λ t. if t then Some b.state else state_of bs x) so))))
    (λ n. ap turned n ∙ xids_both b (with_state bs x s) bs rest)
    (which (bytes_eq b.xid x))

-- one in doubt moves to another state in doubt
pub xids_turned : (bs : List Branch) (x : List ℕ) (s old : BranchState) → Rises bs → is_in_doubt s ≡ true → state_of bs x ≡ Some old → is_in_doubt old ≡ true → in_doubt_xids (with_state bs x s) ≡ in_doubt_xids bs
xids_turned [] x s old rise new known was = refl
xids_turned (b ∷ bs) x s old rise new known was =
    let set_to : Branch = record { xid = b.xid; state = s } in
    let turned : Bool → List (List ℕ) = λ t. in_doubt_xids ((if t then set_to else b) ∷ with_state bs x s) in
    ⊎_elim
    (λ so.
    let above : Above x bs = subst (λ (y : List ℕ). Above y bs) (same_bytes b.xid x so) rise.0 in
    ap turned so ∙ xids_in set_to (with_state bs x s) new ∙ ap (λ (l : List Branch). b.xid ∷ in_doubt_xids l) (with_state_above bs x s above) ∙ sym (xids_in b bs (first_state b bs x old so known ∙ was)))
    (λ n. ap turned n ∙ xids_both b (with_state bs x s) bs (xids_turned bs x s old rise.1 new (sym (state_rest b bs x n) ∙ known) was))
    (which (bytes_eq b.xid x))

-- how many they are
pub xids_count : (bs : List Branch) → length (in_doubt_xids bs) ≡ in_doubt_count bs
xids_count [] = refl
xids_count (b ∷ bs) =
    let rest = xids_count bs in
    let one = counted is_in_doubt b bs in
    ⊎_elim
    (λ so. let w : weight is_in_doubt b.state ≡ 1 = ap (λ t. if t then 1 else 0) so in
    let more : length (in_doubt_xids (b ∷ bs)) ≡ suc (length (in_doubt_xids bs)) = ap (λ (l : List (List ℕ)). length l) (xids_in b bs so) in
    omega (arith, rest, one, w, more))
    (λ n. let w : weight is_in_doubt b.state ≡ 0 = ap (λ t. if t then 1 else 0) n in
    let more : length (in_doubt_xids (b ∷ bs)) ≡ length (in_doubt_xids bs) = ap (λ (l : List (List ℕ)). length l) (xids_out b bs n) in
    omega (arith, rest, one, w, more))
    (which (is_in_doubt b.state))

-- ---- their units

abbrev pub pairs : (List ℕ → Doubt) → List Branch → Doubts
pairs f bs = map (λ (x : List ℕ). (x, f x)) (in_doubt_xids bs)

pub pairs_in : (f : List ℕ → Doubt) (b : Branch) (bs : List Branch) → is_in_doubt b.state ≡ true → pairs f (b ∷ bs) ≡ (b.xid, f b.xid) ∷ pairs f bs
pairs_in f b bs so = ap (map (λ (x : List ℕ). (x, f x))) (xids_in b bs so)

pub pairs_out : (f : List ℕ → Doubt) (b : Branch) (bs : List Branch) → is_in_doubt b.state ≡ false → pairs f (b ∷ bs) ≡ pairs f bs
pairs_out f b bs n = ap (map (λ (x : List ℕ). (x, f x))) (xids_out b bs n)

-- what is the same of each branch in doubt
pub pairs_agree : (f g : List ℕ → Doubt) (bs : List Branch) → Rises bs → ((x : List ℕ) → IsDoubted bs x → f x ≡ g x) → pairs f bs ≡ pairs g bs
pairs_agree f g [] rise same = refl
pairs_agree f g (b ∷ bs) rise same =
    let rest = pairs_agree f g bs rise.1 (λ x d. same x (doubted_behind b bs x rise.0 d)) in
    ⊎_elim
    (λ so. pairs_in f b bs so ∙ ap (λ (w : Doubt). (b.xid, w) ∷ pairs f bs) (same b.xid (b.state, state_here b bs, so)) ∙ ap (λ (l : Doubts). (b.xid, g b.xid) ∷ l) rest ∙ sym (pairs_in g b bs so))
    (λ n. pairs_out f b bs n ∙ rest ∙ sym (pairs_out g b bs n))
    (which (is_in_doubt b.state))

-- units that are the same
pub doubts_agree : (bs : List Branch) (hs ks : List Held) → Rises bs → ((x : List ℕ) → IsDoubted bs x → unit_of (global x) hs ≡ unit_of (global x) ks) → doubts_in bs hs ≡ doubts_in bs ks
doubts_agree bs hs ks rise same =
    pairs_agree (doubt_at bs hs) (doubt_at bs ks) bs rise (λ x d. ap (λ (w : Work). let e : Doubt = record { work = w; outcome = outcome_at (state_of bs x) } in e) (same x d))

-- branches that stand the same
pub states_agree : (bs cs ds : List Branch) (hs : List Held) → Rises ds → ((x : List ℕ) → IsDoubted ds x → state_of bs x ≡ state_of cs x) → pairs (doubt_at bs hs) ds ≡ pairs (doubt_at cs hs) ds
states_agree bs cs ds hs rise same =
    pairs_agree (doubt_at bs hs) (doubt_at cs hs) ds rise (λ x d. ap (λ (o : Option BranchState). let e : Doubt = record { work = unit_of (global x) hs; outcome = outcome_at o } in e) (same x d))

pub doubts_of : (bs cs : List Branch) (hs : List Held) → Rises cs → in_doubt_xids bs ≡ in_doubt_xids cs → ((x : List ℕ) → IsDoubted cs x → state_of bs x ≡ state_of cs x) → doubts_in bs hs ≡ doubts_in cs hs
doubts_of bs cs hs rise same states = ap (map (λ (x : List ℕ). (x, doubt_at bs hs x))) same ∙ states_agree bs cs cs hs rise states
