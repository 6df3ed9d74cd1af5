-- What the table is where a unit ends, goes on or begins.
use Rattle.std.proofs.Common.{◌≡◌, ◌≢◌, ◌⊎◌, inl, inr, ◌<◌, ⊎_elim, ℕ, zero, suc, Bool, true, false, ◌==◌, ◌||◌, List, [], ◌∷◌, ◌++◌, get_or, set, refl, sym, ◌∙◌, ap, subst, arith}
use Rattle.std.specs.Prelude.{if◌then◌else◌, IfErr, IfOk, Result, Ok, Err, is_ok}
use Rattle.std.specs.List.{insert, remove}
use Rattle.tables.specs.Change.{Change}
use Rattle.unit_locks.specs.Claim.{Claim}
use Rattle.unit_locks.specs.Claims.{all_added, claims_of}
use Rattle.core_model.specs.Units.{Held, Owner, Work, has_any, has_work, idle, is_full, set_unit, unit_of, with_unit, without}
use Rattle.core_model.specs.Asked.{kept}
use Rattle.core_model.specs.Laws.{AreListed}
use Rattle.core_model.proofs.Owners.{both, which}
use Rattle.core_model.proofs.Listing.{listed_set, listed_without}
use Rattle.unit_table.specs.declared.entry.Entry.{Entry}
use Rattle.unit_table.specs.declared.keep_error.KeepError.{KeepError}
use Rattle.unit_table.specs.declared.keep_error.KeepError.TheVariants as error
use Rattle.unit_table.specs.Owner.{plain_owner}
use Rattle.unit_table.specs.Table.{AreKept, IsAt, IsGapFor, held, held_by, is_given}
use Rattle.unit_table.specs.Keeping.{Adds, Keeps, KeepsAll}
use Rattle.unit_table.proofs.Rows.{gap_idle, gap_lacks, inserted, owner_at, removed, unit_at}
use Rattle.unit_table.proofs.Numbers.{SameBut, free_before, free_inserted, freed, given_at, given_set, held_as, held_same, neither, not_behind, not_equal, not_here, numbered_inserted, numbered_removed, numbered_set, other_number, other_than, same_number, still_free, units_set}
use Rattle.unit_table.proofs.Adding.{all_behind}

-- ---- claims that stay

pub same_kept : (n : ℕ) (old now : List (List Claim)) (es : List Entry) → AreKept es old → SameBut n old now → claims_of now n ≡ claims_of old n → AreKept es now
same_kept n old now es kept same here = record {
  listed = subst AreListed (sym (held_as n old now es same here)) kept.listed;
  numbered = kept.numbered;
  nobody = kept.nobody;
  free = λ m h. ⊎_elim
      (λ so. let e = same_number m n so in subst (λ (k : ℕ). claims_of now k ≡ claims_of old k) (sym e) here ∙ kept.free m h)
      (λ ne. same m (other_number m n ne) ∙ kept.free m h)
      (which (m == n));
}

-- ---- a unit's end

module _ (old now : List (List Claim)) (o : Owner) (es : List Entry) (i : ℕ) (e : Entry) (kept : AreKept es old) (at : IsAt o es i) (read : e ≡ get_or es i e)
    (same : SameBut e.number old now) where
  pub ended_units : held now (remove es i) ≡ without o (held old es)
  ended_units =
      let free : is_given e.number (remove es i) ≡ false = subst (λ (x : Entry). is_given x.number (remove es i) ≡ false) (sym read) (freed o es i e kept.numbered at) in
      held_same e.number old now (remove es i) same free ∙ removed old o es i kept.listed at

  pub ended_kept : claims_of now e.number ≡ [] → AreKept (remove es i) now
  ended_kept gone = record {
    listed = subst AreListed (sym ended_units) (listed_without o (held old es) kept.listed);
    numbered = numbered_removed o es i kept.numbered at;
    nobody = still_free o 65535 es i at kept.nobody;
    free = λ n h. ⊎_elim
        (λ so. subst (λ (k : ℕ). claims_of now k ≡ []) (sym (same_number n e.number so)) gone)
        (λ ne.
        let apart : n ≢ e.number = other_number n e.number ne in
        same n apart ∙ kept.free n (free_before o n es i e at (λ q. apart (q ∙ ap (λ (x : Entry). x.number) (sym read))) h))
        (which (n == e.number));
  }

-- its work
pub work_at : (claims : List (List Claim)) (o : Owner) (es : List Entry) (i : ℕ) (e : Entry) → IsAt o es i → e ≡ get_or es i e → unit_of o (held claims es) ≡ (held_by claims e).work
work_at claims o es i e at read = unit_at claims o es i e at ∙ ap (λ (x : Entry). (held_by claims x).work) (sym read)

pub works_at : (claims : List (List Claim)) (o : Owner) (es : List Entry) (i : ℕ) → AreListed (held claims es) → IsAt o es i → has_work (unit_of o (held claims es)) ≡ true
works_at claims o [] i listed at = absurd at
works_at claims o (e ∷ es) zero listed at = ap (λ b. has_work (if b then (held_by claims e).work else unit_of o (held claims es))) at ∙ listed.0
works_at claims o (e ∷ es) (suc i) listed at = ap (λ b. has_work (if b then (held_by claims e).work else unit_of o (held claims es))) at.0 ∙ works_at claims o es i listed.2 at.2

-- ---- work that is kept

any_front : {A : Type 0} (xs ys : List A) → has_any xs ≡ true → has_any (xs ++ ys) ≡ true
any_front [] ys h = both false h refl
any_front (x ∷ xs) ys h = refl

any_added : (cs ds : List Claim) → has_any cs ≡ true → has_any (all_added cs ds) ≡ true
any_added cs ds h = let behind = all_behind cs ds in ap has_any behind.is ∙ any_front cs behind.more h

or_right : (a b : Bool) → b ≡ true → (a || b) ≡ true
or_right true b h = refl
or_right false b h = h

works_on : (xs : List Change) (cs : List Claim) (ys : List Change) (ds : List Claim) → (has_any xs || has_any cs) ≡ true → (has_any (xs ++ ys) || has_any (all_added cs ds)) ≡ true
works_on [] cs ys ds h = or_right (has_any ys) (has_any (all_added cs ds)) (any_added cs ds h)
works_on (x ∷ xs) cs ys ds h = refl

some_added : (ds : List Claim) → has_any ds ≡ true → has_any (all_added [] ds) ≡ true
some_added [] h = both false h refl
some_added (d ∷ ds) h = any_added (d ∷ []) ds refl

begins_work : (ys : List Change) (ds : List Claim) → (has_any ys ≡ true) ⊎ (has_any ds ≡ true) → (has_any ys || has_any (all_added [] ds)) ≡ true
begins_work ys ds (inl h) = ap (λ b. b || has_any (all_added [] ds)) h
begins_work ys ds (inr h) = or_right (has_any ys) (has_any (all_added [] ds)) (some_added ds h)

set_working : (o : Owner) (u : Work) (hs : List Held) → has_work u ≡ true → set_unit o u hs ≡ with_unit (record { owner = o; work = u }) (without o hs)
set_working o u hs works =
    let new : Held = record { owner = o; work = u } in
    ap (λ b. if b then with_unit new (without o hs) else without o hs) works

-- ---- a unit goes on

module _ (old now : List (List Claim)) (o : Owner) (es : List Entry) (i : ℕ) (e : Entry) (kept_old : AreKept es old) (at : IsAt o es i) (read : e ≡ get_or es i e)
    (same : SameBut e.number old now) (cs : List Claim) (xs : List Change) (last : List Change) where
  abbrev after : Entry
  after = record { owner = e.owner; number = e.number; changes = last }

  module _ (claims : claims_of now e.number ≡ all_added (claims_of old e.number) cs) (changes : last ≡ e.changes ++ xs) where
    work_is : (held_by now after).work ≡ kept (unit_of o (held old es)) cs xs
    work_is =
        let u = work_at old o es i e at read in
        let first : (held_by now after).work ≡ kept (held_by old e).work cs xs = λ j. record { changes = changes j; claims = claims j } in
        first ∙ ap (λ (w : Work). kept w cs xs) (sym u)

    new_is : held_by now after ≡ record { owner = o; work = kept (unit_of o (held old es)) cs xs }
    new_is =
        let owner : plain_owner e.owner ≡ o = ap (λ (x : Entry). plain_owner x.owner) read ∙ sym (owner_at old o es i e at) in
        λ j. record { owner = owner j; work = work_is j }

    works : has_work (kept (unit_of o (held old es)) cs xs) ≡ true
    works = let u = unit_of o (held old es) in works_on u.changes u.claims xs cs (works_at old o es i kept_old.listed at)

    pub went_on : held now (set es i after) ≡ set_unit o (kept (unit_of o (held old es)) cs xs) (held old es)
    went_on =
        let owner : plain_owner e.owner ≡ o = ap (λ (x : Entry). plain_owner x.owner) read ∙ sym (owner_at old o es i e at) in
        let number : e.number ≡ (get_or es i e).number = ap (λ (x : Entry). x.number) read in
        units_set after o es i e old now number owner same kept_old.listed kept_old.numbered at
        ∙ ap (λ (h : Held). with_unit h (without o (held old es))) new_is
        ∙ sym (set_working o (kept (unit_of o (held old es)) cs xs) (held old es) works)

    pub went_on_kept : AreKept (set es i after) now
    went_on_kept =
        let number : e.number ≡ (get_or es i e).number = ap (λ (x : Entry). x.number) read in
        record {
          listed = subst AreListed (sym went_on) (listed_set o (kept (unit_of o (held old es)) cs xs) (held old es) kept_old.listed);
          numbered = numbered_set after o es i e number kept_old.numbered at;
          nobody = given_set 65535 after o es i e number at ∙ kept_old.nobody;
          free = λ n h.
              let free : is_given n es ≡ false = sym (given_set n after o es i e number at) ∙ h in
              let given : is_given e.number es ≡ true = subst (λ (m : ℕ). is_given m es ≡ true) (sym number) (given_at o es i e at) in
              same n (other_than n e.number es free given) ∙ kept_old.free n free;
        }

    pub kept_on : is_full (all_added (claims_of old e.number) cs) ≡ false → KeepsAll o cs xs (held old es) (held now (set es i after))
    kept_on room = record { room = ap (λ (w : Work). is_full (all_added w.claims cs)) (work_at old o es i e at read) ∙ room; units = went_on }

-- ---- the place is written again as it was

set_same : (es : List Entry) (i : ℕ) (e : Entry) → e ≡ get_or es i e → set es i e ≡ es
set_same [] i e is = refl
set_same (x ∷ es) zero e is = ap (λ (y : Entry). y ∷ es) is
set_same (x ∷ es) (suc i) e is = ap (λ (l : List Entry). x ∷ l) (set_same es i e is)

module _ (old now : List (List Claim)) (es : List Entry) (i : ℕ) (e : Entry) (last : List Change) (kept_old : AreKept es old) (read : e ≡ get_or es i e) (changes : last ≡ e.changes)
    (same : SameBut e.number old now) (here : claims_of now e.number ≡ claims_of old e.number) where
  unchanged : set es i (record { owner = e.owner; number = e.number; changes = last }) ≡ es
  unchanged =
      let is : record { owner = e.owner; number = e.number; changes = last } ≡ e = ap (λ (l : List Change). let x : Entry = record { owner = e.owner; number = e.number; changes = l } in x) changes in
      ap (λ (x : Entry). set es i x) is ∙ set_same es i e read

  pub stayed : held now (set es i (record { owner = e.owner; number = e.number; changes = last })) ≡ held old es
  stayed = ap (held now) unchanged ∙ held_as e.number old now es same here

  pub stayed_kept : AreKept (set es i (record { owner = e.owner; number = e.number; changes = last })) now
  stayed_kept = subst (λ (l : List Entry). AreKept l now) (sym unchanged) (same_kept e.number old now es kept_old same here)

-- ---- refusals

-- where claims are refused they are as before
pub same_claims : (f : KeepError) (cs old now : List Claim) → Adds {T = Unit {0}} (Err f) cs old now → now ≡ old
same_claims error.TooMany cs old now h = h.same
same_claims error.NoMemory cs old now h = h

pub refused_units : (f : KeepError) (o : Owner) (cs before now : List Claim) (xs : List Change) (hs ks : List Held) → Adds {T = Unit {0}} (Err f) cs before now → (unit_of o hs).claims ≡ before → ks ≡ hs → Keeps {T = Unit {0}} (Err f) o cs xs hs ks
refused_units error.TooMany o cs before now xs hs ks h is same = record { full = ap (λ (l : List Claim). is_full (all_added l cs)) is ∙ h.full; units = same }
refused_units error.NoMemory o cs before now xs hs ks h is same = same

-- ---- a unit begins

module _ (old now : List (List Claim)) (o : Owner) (es : List Entry) (i : ℕ) (new : Entry) (kept_old : AreKept es old) (gap : IsGapFor o es i) (owner : plain_owner new.owner ≡ o)
    (free : is_given new.number es ≡ false) (somebody : new.number < 65535) (same : SameBut new.number old now) (cs : List Claim)
    (claims : claims_of now new.number ≡ all_added (claims_of old new.number) cs) (work : (has_any new.changes ≡ true) ⊎ (has_any cs ≡ true)) where
  none_yet : unit_of o (held old es) ≡ idle
  none_yet = gap_idle old o es i kept_old.listed gap

  begins_is : held_by now new ≡ record { owner = o; work = kept (unit_of o (held old es)) cs new.changes }
  begins_is =
      let mine : claims_of now new.number ≡ all_added [] cs = claims ∙ ap (λ (l : List Claim). all_added l cs) (kept_old.free new.number free) in
      let first : (held_by now new).work ≡ kept idle cs new.changes = λ j. record { changes = new.changes; claims = mine j } in
      let is : (held_by now new).work ≡ kept (unit_of o (held old es)) cs new.changes = first ∙ ap (λ (w : Work). kept w cs new.changes) (sym none_yet) in
      λ j. record { owner = owner j; work = is j }

  pub begun : held now (insert es i new) ≡ set_unit o (kept (unit_of o (held old es)) cs new.changes) (held old es)
  begun =
      let others : held now es ≡ held old es = held_same new.number old now es same free in
      let works : has_work (kept (unit_of o (held old es)) cs new.changes) ≡ true = ap (λ (w : Work). has_work (kept w cs new.changes)) none_yet ∙ begins_work new.changes cs work in
      inserted now o new es i owner (subst AreListed (sym others) kept_old.listed) gap
      ∙ ap (λ (l : List Held). with_unit (held_by now new) l) (others ∙ sym (gap_lacks old o es i kept_old.listed gap))
      ∙ ap (λ (h : Held). with_unit h (without o (held old es))) begins_is
      ∙ sym (set_working o (kept (unit_of o (held old es)) cs new.changes) (held old es) works)

  pub begun_kept : AreKept (insert es i new) now
  begun_kept = record {
    listed = subst AreListed (sym begun) (listed_set o (kept (unit_of o (held old es)) cs new.changes) (held old es) kept_old.listed);
    numbered = numbered_inserted new o es i free kept_old.numbered gap;
    nobody = free_inserted 65535 new o es i gap ∙ neither (new.number == 65535) (is_given 65535 es) (not_equal new.number 65535 (λ q. absurd (omega (arith, q, somebody)))) kept_old.nobody;
    free = λ n h.
        let not_new = sym (free_inserted n new o es i gap) ∙ h in
        same n (λ q. other_number new.number n (not_here (new.number == n) (is_given n es) not_new) (sym q)) ∙ kept_old.free n (not_behind (new.number == n) (is_given n es) not_new);
  }

  pub kept_new : is_full (all_added (claims_of old new.number) cs) ≡ false → KeepsAll o cs new.changes (held old es) (held now (insert es i new))
  kept_new room = record {
    room = ap (λ (w : Work). is_full (all_added w.claims cs)) none_yet ∙ (ap (λ (l : List Claim). is_full (all_added l cs)) (sym (kept_old.free new.number free)) ∙ room);
    units = begun;
  }

-- ---- an owner that is not listed

pub has_place : (claims : List (List Claim)) (o : Owner) (es : List Entry) → AreListed (held claims es) → (r : Result ℕ ℕ) → IfOk r (IsAt o es) → IfErr r (IsGapFor o es) → is_ok r ≡ has_work (unit_of o (held claims es))
has_place claims o es listed (Ok i) at gap = sym (works_at claims o es i listed at)
has_place claims o es listed (Err i) at gap = sym (ap has_work (gap_idle claims o es i listed gap))

-- nothing is kept of nothing
pub nothing_kept : (claims : List (List Claim)) (o : Owner) (es : List Entry) (i : ℕ) → AreListed (held claims es) → IsGapFor o es i → KeepsAll o [] [] (held claims es) (held claims es)
nothing_kept claims o es i listed gap =
    let none = gap_idle claims o es i listed gap in
    let hs = held claims es in
    record {
      room = ap (λ (w : Work). is_full w.claims) none;
      units = sym (ap (λ (w : Work). set_unit o (kept w [] []) hs) none ∙ gap_lacks claims o es i listed gap);
    }
