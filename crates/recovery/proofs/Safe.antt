-- What is kept of the committed store and the units, whichever of them are in doubt; and that commits and
-- ends of units keep it.
use Rattle.std.proofs.Common.{◌≡◌, ◌⊎◌, ⊎_elim, Bool, true, false, List, [], ◌∷◌, refl, sym, ◌∙◌, ap, subst}
use Rattle.std.specs.List.{AllByRecursion}
use Rattle.tables.specs.Change.{Change, create, is_change, put, remove}
use Rattle.tables.specs.Laws.{StoresAreKept}
use Rattle.tables.specs.Tables.{Store, apply}
use Rattle.tables.specs.View.{is_sound, is_store}
use Rattle.core_model.specs.Units.{Held, Owner, Work, apply_all, idle, same_owner, unit_of, view, without}
use Rattle.core_model.specs.Events.{Base, Commit, Leave, bare}
use Rattle.core_model.proofs.Owners.{both, owners_same, unit_of_gone, unit_of_without, which}
use Rattle.unit_records.specs.Records.{IsChange}
use Rattle.recovery.specs.Durable.{creates_none, have_places, is_claimed}
use Rattle.recovery.specs.Places.{ChangesKeepTables, KeepsSchemas, RowsKeepPlaces, SameTables, TablesGivePlaces}
use Rattle.recovery.proofs.UnitClaims.{IsOnce}

-- what holds of each unit by itself
pub record IsUnit (u : Work) : Type 0 where
  pub good : AllByRecursion IsChange u.changes
  pub once : IsOnce u.claims
  pub claimed : is_claimed u.changes u.claims ≡ true

pub record IsSafe (found : Owner → Bool) (b : Base) : Type 0 where
  pub store : is_store b.store ≡ true
  pub each : (o : Owner) → IsUnit (unit_of o b.units)
  pub places : (o : Owner) → found o ≡ false → have_places (unit_of o b.units).changes b.store ≡ true
  pub alone : (o p : Owner) → same_owner o p ≡ false → found o ≡ false → creates_none (unit_of o b.units).changes ≡ false → creates_none (unit_of p b.units).changes ≡ true

pub idle_is : IsUnit idle
idle_is = record { good = tt; once = refl; claimed = refl }

-- ---- stores

sound_of : (change : Change) → is_change change ≡ true → is_sound change ≡ true
sound_of (create name schema) h = h
sound_of (put name row) h = refl
sound_of (remove name key) h = refl

pub stores_kept : StoresAreKept → (changes : List Change) (s : Store) → AllByRecursion IsChange changes → is_store s ≡ true → is_store (apply_all changes s) ≡ true
stores_kept kept [] s all good = good
stores_kept kept (x ∷ changes) s all good = stores_kept kept changes (apply x s) all.1 (kept x s (sound_of x all.0) good)

pub grows : ChangesKeepTables → (changes : List Change) (s : Store) → KeepsSchemas s (apply_all changes s)
grows kept [] s q schema is = is
grows kept (x ∷ changes) s q schema is = grows kept changes (apply x s) q schema (kept.schemas x s q schema is)

same_through : (s t u : Store) → SameTables s t → SameTables t u → SameTables s u
same_through s t u h k = record { schemas = λ q. h.schemas q ∙ k.schemas q; names = h.names ∙ k.names }

pub same_tables : ChangesKeepTables → (changes : List Change) (s : Store) → creates_none changes ≡ true → SameTables s (apply_all changes s)
same_tables kept [] s none = record { schemas = λ q. refl; names = refl }
same_tables kept (create name schema ∷ changes) s none = both false none refl
same_tables kept (put name row ∷ changes) s none =
    same_through s (apply (put name row) s) (apply_all changes (apply (put name row) s)) (kept.rows (put name row) s refl) (same_tables kept changes (apply (put name row) s) none)
same_tables kept (remove name key ∷ changes) s none =
    same_through s (apply (remove name key) s) (apply_all changes (apply (remove name key) s)) (kept.rows (remove name key) s refl) (same_tables kept changes (apply (remove name key) s) none)

-- ---- a unit that has ended

module _ (o : Owner) (hs : List Held) where
  -- what holds of the idle unit and of the one before holds of each unit then
  pub gone : (P : Work → Type 0) (p : Owner) → P idle → (same_owner p o ≡ false → P (unit_of p hs)) → P (unit_of p (without o hs))
  gone P p none before =
      ⊎_elim
      (λ so. subst (λ (n : Owner). P (unit_of n (without o hs))) (sym (owners_same p o so)) (subst P (sym (unit_of_gone o hs)) none))
      (λ n. subst P (sym (unit_of_without p o hs n)) (before n))
      (which (same_owner p o))

  pub gone_alone : (found : Owner → Bool) → ((q p : Owner) → same_owner q p ≡ false → found q ≡ false → creates_none (unit_of q hs).changes ≡ false → creates_none (unit_of p hs).changes ≡ true)
      → (q p : Owner) → same_owner q p ≡ false → found q ≡ false → creates_none (unit_of q (without o hs)).changes ≡ false → creates_none (unit_of p (without o hs)).changes ≡ true
  gone_alone found alone q p ne out =
      gone (λ (u : Work). creates_none u.changes ≡ false → creates_none (unit_of p (without o hs)).changes ≡ true) q (λ h. both true refl h)
      (λ n h. gone (λ (u : Work). creates_none u.changes ≡ true) p refl (λ m. alone q p ne out h))

pub leave_safe : (found : Owner → Bool) (b : Base) (o : Owner) → IsSafe found b → IsSafe found (bare b (Leave o))
leave_safe found b o safe = record {
  store = safe.store;
  each = λ p. gone o b.units IsUnit p idle_is (λ n. safe.each p);
  places = λ p out. gone o b.units (λ (u : Work). have_places u.changes b.store ≡ true) p refl (λ n. safe.places p out);
  alone = gone_alone o b.units found safe.alone;
}

module _ (kept : StoresAreKept) (rows : RowsKeepPlaces) (tables : TablesGivePlaces) (keep : ChangesKeepTables) where
  -- where one of two units creates no table, the places of the other's changes stay
  stay : (xs ys : List Change) (s : Store) → (creates_none ys ≡ false → creates_none xs ≡ true) → have_places ys s ≡ true → have_places ys (apply_all xs s) ≡ true
  stay xs ys s alone h =
      ⊎_elim
      (λ none. rows ys s (apply_all xs s) none (grows keep xs s) h)
      (λ some. sym (tables ys s (apply_all xs s) (same_tables keep xs s (alone some))) ∙ h)
      (which (creates_none ys))

  pub commit_safe : (found : Owner → Bool) (b : Base) (o : Owner) → IsSafe found b → IsSafe found (bare b (Commit o))
  commit_safe found b o safe = record {
    store = stores_kept kept (unit_of o b.units).changes b.store (safe.each o).good safe.store;
    each = λ p. gone o b.units IsUnit p idle_is (λ n. safe.each p);
    places = λ p out. gone o b.units (λ (u : Work). have_places u.changes (view b.store (unit_of o b.units)) ≡ true) p refl
        (λ n. stay (unit_of o b.units).changes (unit_of p b.units).changes b.store (λ some. safe.alone p o n out some) (safe.places p out));
    alone = gone_alone o b.units found safe.alone;
  }

-- where fewer units are found in doubt than before, those that are no longer have ended
pub found_less : (found less : Owner → Bool) (b : Base) → ((o : Owner) → less o ≡ false → (found o ≡ false) ⊎ (unit_of o b.units ≡ idle)) → IsSafe found b → IsSafe less b
found_less found less b out safe = record {
  store = safe.store;
  each = safe.each;
  places = λ o h. ⊎_elim (λ k. safe.places o k) (λ e. ap (λ (u : Work). have_places u.changes b.store) e) (out o h);
  alone = λ o p ne h some. ⊎_elim (λ k. safe.alone o p ne k some) (λ e. both (creates_none (unit_of o b.units).changes) (ap (λ (u : Work). creates_none u.changes) e) some) (out o h);
}
