-- The committed store is a store, and so is what each unit sees.
use Rattle.std.proofs.Common.{◌≡◌, inl, inr, ⊎_elim, ℕ, Bool, true, false, List, [], ◌∷◌, ◌++◌, Option, Some, None, refl, sym, subst}
use Rattle.std.specs.Prelude.{Ok, Err, ◌&&◌, map, filter, nat_le, nat_lt, ◌==◌, length}
use Rattle.std.specs.List.{flat_map}
use Rattle.sql_text.specs.declared.tree.Sum.{Sum}
use Rattle.sql_text.specs.declared.tree.Command.{Command}
use Rattle.sql_text.specs.declared.tree.Command.TheVariants as command
use Rattle.row_values.specs.Value.{Value}
use Rattle.row_values.specs.Schema.{Schema, is_name, is_schema}
use Rattle.row_values.specs.Key.{row_key}
use Rattle.tables.specs.Change.{Change, change_bytes, create, put, remove}
use Rattle.tables.specs.Laws as tables
use Rattle.tables.specs.Tables.{Store, apply}
use Rattle.tables.specs.View.{is_sound, is_store}
use Rattle.core_calls.specs.declared.sql_fault.SqlFault.{SqlFault}
use Rattle.core_calls.specs.declared.sql_fault.SqlFault.TheVariants as fault
use Rattle.core_calls.specs.Answer.{Answer as Told}
use Rattle.sql_semantics.specs.Checked.{Checked, and_then, if_none, unless}
use Rattle.sql_semantics.specs.Classes.{filter_fault, selected_places}
use Rattle.sql_semantics.specs.Create.{defined_schema}
use Rattle.sql_semantics.specs.Frame.{In, changes_of}
use Rattle.sql_semantics.specs.Insert.{first_misfit, given_row, new_row}
use Rattle.sql_semantics.specs.Meaning.{Answer, Changes, Refused, Rows, absent_answer, answer, answered, concerns, create_answer, found_answer, put_answer, within_room}
use Rattle.sql_semantics.specs.Update.{targets, updated_row, updated_rows}
use Rattle.sql_semantics.specs.Values.{literal_value, name_of}
use Rattle.core_model.specs.Units.{Held, Owner, Work, apply_all, left_of, others, same_owner, unit_of, view, without}
use Rattle.core_model.specs.Asked.{Done, Question, answer_to, changes_by, claims_of, describing, kept, querying, running, unfit}
use Rattle.core_model.specs.Events.{Ask, Base, Commit, Leave, bare, happens_asked}
use Rattle.core_model.specs.Step.{owner_of}
use Rattle.core_model.specs.Laws.{AreSound, StoresStay, UnitsSeeStores}
use Rattle.core_model.proofs.Owners.{owners_same, unit_of_gone, unit_of_other, unit_of_set, unit_of_without, which}
use Rattle.core_model.proofs.Asking.{through}
use Rattle.core_model.proofs.Keeping.{step_keeps}

abbrev AllSound : List Change → Type 0
AllSound xs = (x : Change) → In x xs → is_sound x ≡ true

none_sound : AllSound []
none_sound x i = absurd i

cons_sound : (x : Change) (xs : List Change) → is_sound x ≡ true → AllSound xs → AllSound (x ∷ xs)
cons_sound x xs h rest y (inl e) = subst (λ (z : Change). is_sound z ≡ true) (sym e) h
cons_sound x xs h rest y (inr i) = rest y i

one_sound : (x : Change) → is_sound x ≡ true → AllSound (x ∷ [])
one_sound x h = cons_sound x [] h none_sound

both_sound : (xs ys : List Change) → AllSound xs → AllSound ys → AllSound (xs ++ ys)
both_sound [] ys h k = k
both_sound (x ∷ xs) ys h k = cons_sound x (xs ++ ys) (h x (inl refl)) (both_sound xs ys (λ y i. h y (inr i)) k)

-- ---- through the checks

abbrev SoundIn : Checked Answer → Type 0
SoundIn (Ok (Refused f)) = Unit {0}
SoundIn (Ok (Changes xs n)) = AllSound xs
SoundIn (Ok (Rows l)) = Unit {0}
SoundIn (Err f) = Unit {0}

sound_in : (r : Checked Answer) → SoundIn r → AllSound (changes_of (answered r))
sound_in (Ok (Refused f)) h = none_sound
sound_in (Ok (Changes xs n)) h = h
sound_in (Ok (Rows l)) h = none_sound
sound_in (Err f) h = none_sound

then_sound : {A : Type 0} (r : Checked A) (f : A → Checked Answer) → ((a : A) → SoundIn (f a)) → SoundIn (and_then r f)
then_sound (Ok a) f h = h a
then_sound (Err e) f h = tt

if_sound : (b : Bool) (e : SqlFault) (go : Checked Answer) → (b ≡ true → SoundIn go) → SoundIn (unless b e go)
if_sound true e go h = h refl
if_sound false e go h = tt

past_sound : (o : Option SqlFault) (go : Checked Answer) → SoundIn go → SoundIn (if_none o go)
past_sound None go h = h
past_sound (Some e) go h = tt

room_sound : (left : ℕ) (xs : List Change) (n : ℕ) → AllSound xs → SoundIn (within_room left xs n)
room_sound left xs n h = if_sound (nat_le (length (flat_map change_bytes xs)) left) fault.LimitReached (Ok (Changes xs n)) (λ e. h)

-- ---- each kind of statement

create_sound : (left : ℕ) (table : List ℕ) (schema : Schema) (n : ℕ) → SoundIn (create_answer left table schema n)
create_sound left table schema n =
    if_sound (is_name table && is_schema schema) fault.Syntax _ (λ good.
    if_sound (nat_lt n 1000) fault.LimitReached _ (λ few.
    room_sound left (create table schema ∷ []) 0 (one_sound (create table schema) good)))

put_sound : (left : ℕ) (table : List ℕ) (schema : Schema) (others : List (List ℕ)) (values : List Value) → SoundIn (put_answer left table schema others values)
put_sound left table schema others values =
    past_sound (first_misfit schema.columns values) _
    (then_sound (new_row schema values) _ (λ row.
    if_sound (length others == 0) fault.KeyExists _ (λ free. room_sound left (put table row ∷ []) 1 (one_sound (put table row) refl))))

removes_sound : (table : List ℕ) (schema : Schema) (rows : List (List ℕ)) → AllSound (map (λ row. remove table (row_key schema row)) rows)
removes_sound table schema [] = none_sound
removes_sound table schema (row ∷ rows) = cons_sound (remove table (row_key schema row)) _ refl (removes_sound table schema rows)

abbrev SoundRows : Checked (List Change) → Type 0
SoundRows (Ok ds) = AllSound ds
SoundRows (Err f) = Unit {0}

put_then : (table new : List ℕ) (r : Checked (List Change)) → SoundRows r → SoundRows (and_then r (λ ds. Ok (put table new ∷ ds)))
put_then table new (Ok ds) h = cons_sound (put table new) ds refl h
put_then table new (Err f) h = tt

row_then : (table : List ℕ) (r : Checked (List ℕ)) (more : Checked (List Change)) → SoundRows more → SoundRows (and_then r (λ new. and_then more (λ ds. Ok (put table new ∷ ds))))
row_then table (Ok new) more h = put_then table new more h
row_then table (Err f) more h = tt

rows_sound : (params : List Value) (table : List ℕ) (schema : Schema) (ts : List (ℕ × Sum)) (rows : List (List ℕ)) → SoundRows (updated_rows params table schema ts rows)
rows_sound params table schema ts [] = none_sound
rows_sound params table schema ts (row ∷ rows) = row_then table (updated_row params schema ts row) (updated_rows params table schema ts rows) (rows_sound params table schema ts rows)

then_room : (left n : ℕ) (r : Checked (List Change)) → SoundRows r → SoundIn (and_then r (λ ds. within_room left ds n))
then_room left n (Ok ds) h = room_sound left ds n h
then_room left n (Err f) h = tt

absent_sound : (left : ℕ) (c : Command) (n : ℕ) → SoundIn (absent_answer left c n)
absent_sound left (command.Create table ds key) n = create_sound left (name_of table) (defined_schema ds key) n
absent_sound left (command.Insert table names values) n = tt
absent_sound left (command.Update table assignments f) n = tt
absent_sound left (command.Delete table f) n = tt
absent_sound left (command.Select names table f) n = tt

found_sound : (params : List Value) (left : ℕ) (c : Command) (schema : Schema) (rows : List (List ℕ)) → SoundIn (found_answer params left c schema rows)
found_sound params left (command.Create table ds key) schema rows = tt
found_sound params left (command.Insert table names values) schema rows =
    then_sound (given_row schema names (map (literal_value params) values)) _ (λ vs. put_sound left (name_of table) schema rows vs)
found_sound params left (command.Update table assignments f) schema rows =
    then_sound (targets params schema.columns schema.key [] assignments) _ (λ ts.
    past_sound (filter_fault params schema.columns f) _ (then_room left (length rows) (updated_rows params (name_of table) schema ts rows) (rows_sound params (name_of table) schema ts rows)))
found_sound params left (command.Delete table f) schema rows =
    past_sound (filter_fault params schema.columns f) _ (room_sound left _ (length rows) (removes_sound (name_of table) schema rows))
found_sound params left (command.Select names table f) schema rows =
    then_sound (selected_places schema.columns names) _ (λ places. past_sound (filter_fault params schema.columns f) _ tt)

answer_sound : (params : List Value) (left : ℕ) (c : Command) (q : Option Schema) (rows : List (List ℕ)) (n : ℕ) → AllSound (changes_of (answer params left c q rows n))
unfolding answer
answer_sound params left c None rows n = sound_in (absent_answer left c n) (absent_sound left c n)
answer_sound params left c (Some schema) rows n =
    let mine = filter (concerns params c schema) rows in sound_in (found_answer params left c schema mine) (found_sound params left c schema mine)

made_sound : (q : Question) (left : ℕ) (v : Store) → AllSound (changes_by q left v)
made_sound (running st params) left v = answer_sound params left st.command _ _ _
made_sound (querying st params) left v = answer_sound params left st.command _ _ _
made_sound (describing st d) left v = none_sound

-- ---- along a step

module _ (keeps : tables.StoresAreKept) where
  all_kept : (xs : List Change) (s : Store) → is_store s ≡ true → AllSound xs → is_store (apply_all xs s) ≡ true
  all_kept [] s good h = good
  all_kept (x ∷ xs) s good h = all_kept xs (apply x s) (keeps x s (h x (inl refl)) good) (λ y i. h y (inr i))

  pub units_see_stores : UnitsSeeStores
  units_see_stores b sound o = all_kept (unit_of o b.units).changes b.store sound.0 (sound.1 o)

  gone_sound : (o : Owner) (hs : List Held) → ((p : Owner) → AllSound (unit_of p hs).changes) → (p : Owner) → AllSound (unit_of p (without o hs)).changes
  gone_sound o hs all p =
      ⊎_elim
      (λ so. subst (λ (n : Owner). AllSound (unit_of n (without o hs)).changes) (sym (owners_same p o so)) (subst (λ (u : Work). AllSound u.changes) (sym (unit_of_gone o hs)) none_sound))
      (λ n. subst (λ (u : Work). AllSound u.changes) (sym (unit_of_without p o hs n)) (all p))
      (which (same_owner p o))

  commit_sound : (b : Base) (o : Owner) → AreSound b → AreSound (bare b (Commit o))
  commit_sound b o sound = (units_see_stores b sound o, gone_sound o b.units sound.1)

  leave_sound : (b : Base) (o : Owner) → AreSound b → AreSound (bare b (Leave o))
  leave_sound b o sound = (sound.0, gone_sound o b.units sound.1)

  set_sound : (b : Base) (o : Owner) (a : Told) (w : Work) → AllSound w.changes → AreSound b → AreSound (happens_asked b o (Done a w))
  set_sound b o a w h sound = (
    sound.0,
    λ p.
        ⊎_elim
        (λ so. subst (λ (n : Owner). AllSound (unit_of n (happens_asked b o (Done a w)).units).changes) (sym (owners_same p o so)) (subst (λ (u : Work). AllSound u.changes) (sym (unit_of_set o w b.units)) h))
        (λ n. subst (λ (u : Work). AllSound u.changes) (sym (unit_of_other p o w b.units n)) (sound.1 p))
        (which (same_owner p o)),
  )

  ask_sound : (b : Base) (o : Owner) (q : Question) → AreSound b → AreSound (bare b (Ask o q))
  ask_sound b o q sound =
      let u = unit_of o b.units in let v = view b.store u in
      let cs = claims_of q v in let a = answer_to q (left_of u) v in let xs = changes_by q (left_of u) v in
      through (others o b.units) u cs a xs AreSound b o (unfit q) sound
      (λ n m. set_sound b o a (kept u cs xs) (both_sound u.changes xs (sound.1 o) (made_sound q (left_of u) v)) sound)

  pub stores_stay : StoresStay
  stores_stay s c k sound = step_keeps AreSound commit_sound leave_sound s c k (λ q. ask_sound s.base (owner_of s.branches c) q sound) sound
