-- Entries lead to one state, or stop at one place.
use Rattle.std.proofs.Common.{◌≡◌, inl, inr, true, ℕ, ◌<◌, List, [], ◌∷◌, ◌++◌, length, map, refl, sym, ap, subst, ◌∙◌, arith, Option, Some, None, Result, Ok, Err}
use Rattle.std.specs.Option.{option_and_then}
use Rattle.unit_journal.specs.Record.{Entry, entries_of, entry_of}
use Rattle.unit_journal.specs.declared.kind.Kind.{Kind}
use Rattle.unit_journal.specs.declared.record.Record.{Record}
use Rattle.tables.specs.Tables.{Store}
use Rattle.unit_records.specs.Laws.{OneReading}
use Rattle.unit_records.specs.Records.{IsGood, IsRecord, UnitRecord, entry_of as written, kind_of}
use Rattle.core_model.proofs.Owners.{both}
use Rattle.half_store.specs.declared.header.Layout.{Layout}
use Rattle.recovery.specs.Durable.{Durable, at_checkpoint, next, replayed_from}
use Rattle.recovery.specs.Known.{AreKnown, is_of}
use Rattle.recovery.specs.Journal.{Finds, HasNoPlace, Leads, LeadingWereWritten, LeadsOn, NoStop, OneState, Replays, StopsAt, WrittenLead}
use Rattle.recovery.specs.Replay.{durable_of}
use Rattle.recovery.specs.declared.steps.Replay.{Replay}
use Rattle.recovery.specs.declared.journal.ReplayError.{ReplayError}
use Rattle.recovery.specs.declared.journal.ReplayError.TheVariants.{Damaged, NoMemory}

same_state : (a b : Durable) → Some a ≡ Some b → a ≡ b
same_state a b same = cc

module _ (once : OneReading) where
  one_step : (d g h : Durable) (e : Entry) → LeadsOn d e g → LeadsOn d e h → g ≡ h
  one_step d g h e a b = same_state g h (sym a.step ∙ ap (next d) (once e.kind e.body a.said b.said a.is b.is) ∙ b.step)

  pub one_state : OneState
  one_state d e f [] a b = sym a ∙ b
  one_state d e f (x ∷ xs) a b =
      let same = one_step d b.0 a.0 x b.1 a.1 in
      one_state a.0 e f xs a.2 (subst (λ (g : Durable). Leads g xs f) same b.2)

  -- an entry that leads on has a place
  placed : (layout : Layout) (d g : Durable) (x : Entry) → is_of layout x.kind ≡ true → LeadsOn d x g → HasNoPlace layout d x → ⊥
  placed layout d g x known on (inl other) = both (is_of layout x.kind) known other
  placed layout d g x known on (inr none) =
      let no : next d on.said ≡ None = none on.said on.is in
      let clash : None ≡ Some g = sym no ∙ on.step in
      absurd cc

  stops : (layout : Layout) (d e state : Durable) (before behind : List Record) (here : Record) → AreKnown layout (entries_of (before ++ (here ∷ behind))) → Leads d (entries_of (before ++ (here ∷ behind))) e → Leads d (entries_of before) state
      → HasNoPlace layout state (entry_of here) → ⊥
  stops layout d e state [] behind here known whole front none = placed layout state whole.0 (entry_of here) known.0 (subst (λ (g : Durable). LeadsOn g (entry_of here) whole.0) front whole.1) none
  stops layout d e state (x ∷ before) behind here known whole front none =
      let same = one_step d front.0 whole.0 (entry_of x) front.1 whole.1 in
      stops layout whole.0 e state before behind here known.1 whole.2 (subst (λ (g : Durable). Leads g (entries_of before) state) same front.2) none

  pub no_stop : NoStop
  no_stop layout d e records at known whole s =
      stops layout d e s.state s.before s.behind s.here (subst (λ (l : List Record). AreKnown layout (entries_of l)) s.whole known) (subst (λ (l : List Record). Leads d (entries_of l) e) s.whole whole) s.leads s.no_place

pub finds : OneState → NoStop → (layout : Layout) (store : Store) (records : List Record) (result : Result Replay ReplayError) → Replays layout store records result → (d : Durable) → AreKnown layout (entries_of records)
    → Leads (at_checkpoint store) (entries_of records) d → Finds d result
finds one damage layout store records (Ok r) told d known leads = one (at_checkpoint store) (durable_of r) d (entries_of records) told.1 leads
finds one damage layout store records (Err (Damaged at)) told d known leads = damage layout (at_checkpoint store) d records at known leads told
finds one damage layout store records (Err NoMemory) told d known leads = tt

-- ---- records and their bytes

lead_on : (d e : Durable) (r : UnitRecord) (rs : List UnitRecord) (o : Option Durable) → next d r ≡ o → IsGood r → option_and_then (λ (g : Durable). replayed_from g rs) o ≡ Some e
    → ((g : Durable) → replayed_from g rs ≡ Some e → Leads g (map written rs) e) → Leads d (written r ∷ map written rs) e
lead_on d e r rs None step good whole on = absurd cc
lead_on d e r rs (Some g) step good whole on = (g, record { said = r; is = record { same_kind = refl; bytes = refl; good = good }; step = step }, on g whole)

pub written_lead : WrittenLead
written_lead d e [] good whole = same_state d e whole
written_lead d e (r ∷ rs) good whole = lead_on d e r rs (next d r) refl good.0 whole (λ g. written_lead g e rs good.1)

same_entry : (e : Entry) (r : UnitRecord) → IsRecord e.kind e.body r → e ≡ written r
same_entry e r is =
    ap (λ (k : Kind). let x : Entry = record { kind = k; body = e.body } in x) is.same_kind ∙ ap (λ (b : List ℕ). let x : Entry = record { kind = kind_of r; body = b } in x) is.bytes

pub leading_were_written : LeadingWereWritten
leading_were_written d e [] leads = ([], tt, refl, ap Some leads)
leading_were_written d e (x ∷ xs) leads =
    let rest = leading_were_written leads.0 e xs leads.2 in
    let r = leads.1.said in (
      r ∷ rest.0,
      (leads.1.is.good, rest.1),
      ap (λ (y : Entry). y ∷ xs) (same_entry x r leads.1.is) ∙ ap (λ (l : List Entry). written r ∷ l) rest.2,
      ap (option_and_then (λ (g : Durable). replayed_from g rest.0)) leads.1.step ∙ rest.3,
    )

-- ---- a loop over what is left

pub leads_nowhere : (d : Durable) (left : List Record) → length left < 1 → Leads d (entries_of left) d
leads_nowhere d [] few = refl
leads_nowhere d (x ∷ left) few = absurd (omega arith)

pub known_nowhere : (layout : Layout) (left : List Record) → length left < 1 → AreKnown layout (entries_of left)
known_nowhere layout [] few = tt
known_nowhere layout (x ∷ left) few = absurd (omega arith)

pub stops_behind : (layout : Layout) (d g : Durable) (x : Record) (left : List Record) (at : ℕ) → is_of layout (entry_of x).kind ≡ true → LeadsOn d (entry_of x) g → StopsAt layout g left at → StopsAt layout d (x ∷ left) at
stops_behind layout d g x left at known on s = record {
  before = x ∷ s.before;
  here = s.here;
  behind = s.behind;
  whole = ap (λ (l : List Record). x ∷ l) s.whole;
  state = s.state;
  known = (known, s.known);
  leads = (g, on, s.leads);
  no_place = s.no_place;
  place = s.place;
}

pub stops_here : (layout : Layout) (d : Durable) (x : Record) (left : List Record) → HasNoPlace layout d (entry_of x) → StopsAt layout d (x ∷ left) x.at
stops_here layout d x left none = record { before = []; here = x; behind = left; whole = refl; state = d; known = tt; leads = refl; no_place = none; place = refl }
