-- The records that left the branches in doubt: each branch has one, and the last of them all is found.
use Rattle.std.proofs.Common.{◌≡◌, ℕ, ◌<◌, Bool, true, false, cond, List, [], ◌∷◌, length, map, Option, Some, None, Result, Ok, Err, refl, sym, ◌∙◌, ap, subst, arith}
use Rattle.std.specs.Prelude.{◌↔◌, IfOk, IsTrue, bytes_eq, is_some, nat_lt, ◌&&◌}
use Rattle.std.specs.List.{All, AllByRecursion}
use Rattle.std.specs.Map.{keys_of, lookup}
use Rattle.std.specs.Ordering.{nat_cmp}
use Rattle.std.specs.Cmp.Lexicographic.{slice_cmp}
use Rattle.std.proofs.lemmas.List.Elements.{All-nil, recursion_from_All}
use Rattle.std.proofs.lemmas.Map.Views.{All-keys-insert_entry, All-map-remove_entry}
use Rattle.row_values.proofs.ValueLaws.{chained}
use Rattle.tables.proofs.Finding.{itself}
use Rattle.row_values.specs.declared.row.ReadError.{ReadError}
use Rattle.row_values.specs.declared.row.ReadError.TheVariants.{Damaged, NoMemory}
use Rattle.tables.specs.Tables.{Store as Tables}
use Rattle.tables.specs.ChangeView.{change_of}
use Rattle.half_store.specs.declared.header.Layout.{Layout}
use Rattle.xa_manager.specs.declared.due.Decision.{Decision}
use Rattle.unit_locks.specs.Claims.{all_added}
use Rattle.core_model.specs.Units.{Work}
use Rattle.unit_journal.specs.Record.{Entry, entry_of}
use Rattle.unit_journal.specs.declared.record.Record.{Record}
use Rattle.unit_records.specs.Laws.{OneReading}
use Rattle.unit_records.specs.Read.{ReadsRecord}
use Rattle.unit_records.specs.Records.{IsRecord, UnitRecord, committed, decided, forgotten, heuristic, prepared}
use Rattle.unit_records.specs.declared.record.UnitRecord.{UnitRecord as CodeRecord}
use Rattle.unit_records.specs.declared.record.UnitRecord.TheVariants.{Commit, Decide, Forget, Heuristic, Prepare}
use Rattle.recovery.specs.Durable.{Doubt, Doubts, Durable, at_checkpoint, completed, decided_so, doubt_of, ended, have_places, is_claimed, is_free, let_go, next, waiting}
use Rattle.recovery.specs.Journal.{Leads}
use Rattle.recovery.specs.Laws.{held_for}
use Rattle.recovery.proofs.Holding.{completed_is, ended_is, if_some, let_go_is}
use Rattle.recovery.proofs.Sounding.{same_keys}
use Rattle.durable_core.specs.Damage.{HoldsForOne, holder}
use Rattle.durable_core.specs.Holders.{IsHolder, IsLastHolder, NoneHolds}

-- ---- each branch in doubt was left so by a record

-- what holds of the XIDs that were in doubt, and of those that entries leave so, holds of those in doubt behind the entries
module _ (P : List ℕ → Type 0) where
  abbrev Allows : Entry → Type 0
  Allows e = (said : UnitRecord) (xid : List ℕ) → IsRecord e.kind e.body said → holder said ≡ Some xid → P xid

  more_keys : (c g : Durable) (xid : List ℕ) (o : Decision) → P xid → (found : Option Doubt) → decided_so c xid o found ≡ Some g → All P (keys_of c.doubts) → All P (keys_of g.doubts)
  more_keys c g xid o here None step all =
      let is = if_some (nat_lt (length c.doubts) 256) _ g step in
      subst (λ (x : Durable). All P (keys_of x.doubts)) is.1 (All-keys-insert_entry (slice_cmp nat_cmp) xid (completed o) P c.doubts all here)
  more_keys c g xid o here (Some doubt) step all =
      let is = completed_is c xid o doubt.work doubt.outcome g step in
      subst (λ (x : Durable). All P (keys_of x.doubts)) is.1 (subst (λ (keys : List (List ℕ)). All P keys) (sym (same_keys c.doubts xid (completed o))) all)

  next_keys : (c g : Durable) (r : UnitRecord) → ((xid : List ℕ) → holder r ≡ Some xid → P xid) → next c r ≡ Some g → All P (keys_of c.doubts) → All P (keys_of g.doubts)
  next_keys c g (committed changes) more step all =
      let is = if_some (have_places changes c.store) _ g step in
      subst (λ (x : Durable). All P (keys_of x.doubts)) is.1 all
  next_keys c g (prepared xid changes claims) more step all =
      let is = if_some (have_places changes c.store && (is_claimed changes claims && is_free c.doubts xid)) _ g step in
      let work : Work = record { changes = changes; claims = all_added [] claims } in
      subst (λ (x : Durable). All P (keys_of x.doubts)) is.1 (All-keys-insert_entry (slice_cmp nat_cmp) xid (waiting work) P c.doubts all (more xid refl))
  next_keys c g (decided xid o) more step all =
      let found = chained (ended c xid o) (doubt_of c.doubts xid) g step in
      let is = ended_is c xid o found.0.work found.0.outcome g found.2 in
      subst (λ (x : Durable). All P (keys_of x.doubts)) is.1 (All-map-remove_entry (bytes_eq xid) (λ (e : List ℕ × Doubt). e.0) P c.doubts all)
  next_keys c g (heuristic xid o) more step all = more_keys c g xid o (more xid refl) (doubt_of c.doubts xid) step all
  next_keys c g (forgotten xid) more step all =
      let found = chained (let_go c xid) (doubt_of c.doubts xid) g step in
      let is = let_go_is c xid found.0.outcome g found.2 in
      subst (λ (x : Durable). All P (keys_of x.doubts)) is.1 (All-map-remove_entry (bytes_eq xid) (λ (e : List ℕ × Doubt). e.0) P c.doubts all)

  leads_keys : (c d : Durable) (es : List Entry) → AllByRecursion Allows es → Leads c es d → All P (keys_of c.doubts) → All P (keys_of d.doubts)
  leads_keys c d [] more leads all = subst (λ (x : Durable). All P (keys_of x.doubts)) leads all
  leads_keys c d (x ∷ es) more leads all =
      leads_keys leads.0 d es more.1 leads.2 (next_keys c leads.0 leads.1.said (λ xid of. more.0 leads.1.said xid leads.1.is of) leads.1.step all)

abbrev IsUnknown : Doubts → List ℕ → Type 0
IsUnknown doubts xid = is_some (doubt_of doubts xid) ≡ true → ⊥

allow_all : (doubts : Doubts) (es : List Entry) → AllByRecursion (λ e. HoldsForOne doubts e → ⊥) es → AllByRecursion (Allows (IsUnknown doubts)) es
allow_all doubts [] none = tt
allow_all doubts (x ∷ es) none = (λ said xid is of known. none.0 (record { said = said; is = is; xid = xid; of = of; in_doubt = known }), allow_all doubts es none.1)

first_known : (e : List ℕ × Doubt) (doubts : Doubts) → is_some (doubt_of (e ∷ doubts) e.0) ≡ true
first_known e doubts = ap (λ (b : Bool). is_some (cond b (Some e.1) (lookup (bytes_eq e.0) doubts))) (itself e.0)

holds_none : (layout : Layout) (doubts : Doubts) → All (IsUnknown doubts) (keys_of doubts) → held_for layout doubts ≡ 0
holds_none layout [] all = refl
holds_none layout (e ∷ doubts) all = absurd ((recursion_from_All (IsUnknown (e ∷ doubts)) (keys_of (e ∷ doubts)) all).0 (first_known e doubts))

-- where no entry left one of the branches in doubt there are none
pub none_held : (layout : Layout) (checkpoint : Tables) (d : Durable) (es : List Entry) → Leads (at_checkpoint checkpoint) es d → AllByRecursion (λ e. HoldsForOne d.doubts e → ⊥) es → held_for layout d.doubts ≡ 0
none_held layout checkpoint d es leads none =
    holds_none layout d.doubts (leads_keys (IsUnknown d.doubts) (at_checkpoint checkpoint) d es (allow_all d.doubts es none) leads (All-nil (IsUnknown d.doubts)))

-- ---- what a record says

the_xid : (x y : List ℕ) (o : Option (List ℕ)) → o ≡ Some x → o ≡ Some y → x ≡ y
the_xid x y o a b = let same : Some x ≡ Some y = sym a ∙ b in cc

module _ (once : OneReading) (e : Entry) (doubts : Doubts) where
  says_holder : (q : UnitRecord) (xid : List ℕ) → IsRecord e.kind e.body q → holder q ≡ Some xid → (known : Bool) → known ≡ is_some (doubt_of doubts xid) → IsTrue known ↔ HoldsForOne doubts e
  says_holder q xid is of known told = (
    λ yes. record { said = q; is = is; xid = xid; of = of; in_doubt = sym told ∙ yes },
    λ p. told ∙ ap (λ (x : List ℕ). is_some (doubt_of doubts x)) (the_xid xid p.xid (holder q) of (ap (λ (r : UnitRecord). holder r) (once e.kind e.body q p.said is p.is) ∙ p.of)) ∙ p.in_doubt,
  )

  says_none : (q : UnitRecord) → IsRecord e.kind e.body q → holder q ≡ None → (told : Bool) → told ≡ false → IsTrue told ↔ HoldsForOne doubts e
  says_none q is of told is_no = (
    λ yes. let clash : true ≡ false = sym yes ∙ is_no in absurd cc,
    λ p. let clash : None ≡ Some p.xid = sym of ∙ ap (λ (r : UnitRecord). holder r) (once e.kind e.body q p.said is p.is) ∙ p.of in absurd cc,
  )

  says_nothing : ((r : UnitRecord) → IsRecord e.kind e.body r → ⊥) → (told : Bool) → told ≡ false → IsTrue told ↔ HoldsForOne doubts e
  says_nothing none told is_no = (λ yes. let clash : true ≡ false = sym yes ∙ is_no in absurd cc, λ p. absurd (none p.said p.is))

  told_of : (said : Result CodeRecord ReadError) (told : Bool) → ReadsRecord e.kind e.body said → IsHolder doubts said told → IsTrue told ↔ HoldsForOne doubts e
  told_of (Ok (Prepare xid changes claims)) told is known = says_holder (prepared xid (map change_of changes.items) claims.items) xid is refl told known
  told_of (Ok (Heuristic xid decision)) told is known = says_holder (heuristic xid decision) xid is refl told known
  told_of (Ok (Commit changes)) told is known = says_none (committed (map change_of changes.items)) is refl told known
  told_of (Ok (Decide xid decision)) told is known = says_none (decided xid decision) is refl told known
  told_of (Ok (Forget xid)) told is known = says_none (forgotten xid) is refl told known
  told_of (Err Damaged) told is known = says_nothing is told known
  told_of (Err NoMemory) told is known = absurd known

  pub holds : {E : Type 0} (said : Result CodeRecord ReadError) (r : Result Bool E) → ReadsRecord e.kind e.body said → IfOk r (IsHolder doubts said) → IfOk r (λ told. IsTrue told ↔ HoldsForOne doubts e)
  holds said (Ok told) is known = told_of said told is known
  holds said (Err error) is known = tt

-- ---- a loop over what is left

module _ (doubts : Doubts) where
  pub last_behind : (x : Record) (left : List Record) (at : ℕ) → IsLastHolder doubts left at → IsLastHolder doubts (x ∷ left) at
  last_behind x left at p = record {
    before = x ∷ p.before;
    here = p.here;
    behind = p.behind;
    whole = ap (λ (l : List Record). x ∷ l) p.whole;
    holds = p.holds;
    none_behind = p.none_behind;
    place = p.place;
  }

  pub last_here : (x : Record) (left : List Record) → HoldsForOne doubts (entry_of x) → NoneHolds doubts left → IsLastHolder doubts (x ∷ left) x.at
  last_here x left is none = record { before = []; here = x; behind = left; whole = refl; holds = is; none_behind = none; place = refl }

  pub none_left : (left : List Record) → length left < 1 → NoneHolds doubts left
  none_left [] few = tt
  none_left (x ∷ left) few = absurd (omega arith)
