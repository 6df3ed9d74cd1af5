-- Tables that are given for others: what changes make of them.
use Rattle.std.proofs.Common.{◌≡◌, ◌⊎◌, inl, inr, ℕ, List, [], ◌∷◌, Bool, true, false, cond, if◌then◌else◌, refl, sym, ap, ◌∙◌, Option, Some, None, option_map}
use Rattle.std.specs.Prelude.{bytes_eq, is_some, unwrap_or}
use Rattle.std.specs.List.{list_all}
use Rattle.std.specs.String.{string_bytes}
use Rattle.std.specs.Map.{keys_of}
use Rattle.std.specs.BTreeMap.{insert_entry}
use Rattle.std.specs.Ordering.{nat_cmp}
use Rattle.std.specs.Cmp.Lexicographic.{slice_cmp}
use Rattle.drda_words.specs.Order.{rises}
use Rattle.row_values.specs.Schema.{Schema, is_name, is_schema}
use Rattle.row_values.proofs.ValueLaws.{both_true, first_true, second_true}
use Rattle.tables.specs.Applied.{apply_all}
use Rattle.tables.specs.Change.{Change, create, put, remove}
use Rattle.tables.specs.Tables.{Store, Table, apply, schema_of, table_of}
use Rattle.tables.specs.View.{is_sound, is_store, is_table}
use Rattle.tables.proofs.Changes.{create_creates, put_puts, remove_removes}
use Rattle.tables.proofs.Finding.{itself, same_bytes}
use Rattle.tables.proofs.Keeping.{apply_keeps, named_table, parts}
use Rattle.tables.proofs.Showing.{inside}
use Rattle.small_sql.specs.Bound.{IsOver}
use Rattle.small_sql.specs.declared.bound.Bound.{Bound}
use Rattle.ahead_view.specs.Given.{StandsFor, given_by}
use Rattle.ahead_view.specs.Source.{IsReadBy}
use Rattle.ahead_view.specs.declared.reading.ReadAhead.{ReadAhead}
use Rattle.ahead_view.specs.declared.reading.ReadAhead.TheVariants.{Nothing, Row, Rows}
use Rattle.unit_statements.specs.Given.{IsGiven}

abbrev SameSchemas : Store → Store → Type 0
SameSchemas s t = (q : List ℕ) → schema_of s q ≡ schema_of t q

-- ---- schemas are the same behind changes

same_after : (change : Change) (s t : Store) → SameSchemas s t → SameSchemas (apply change s) (apply change t)
same_after (create name schema) s t same = λ q.
    (create_creates name schema s).schemas q
    ∙ ap (λ (o : Option Schema). if bytes_eq q name then Some (unwrap_or o schema) else schema_of s q) (same name)
    ∙ ap (λ (o : Option Schema). if bytes_eq q name then Some (unwrap_or (schema_of t name) schema) else o) (same q)
    ∙ sym ((create_creates name schema t).schemas q)
same_after (put name row) s t same = λ q. (put_puts name row s).schemas q ∙ same q ∙ sym ((put_puts name row t).schemas q)
same_after (remove name key) s t same = λ q. (remove_removes name key s).schemas q ∙ same q ∙ sym ((remove_removes name key t).schemas q)

same_behind : (changes : List Change) (s t : Store) → SameSchemas s t → SameSchemas (apply_all changes s) (apply_all changes t)
same_behind [] s t same = same
same_behind (x ∷ xs) s t same = same_behind xs (apply x s) (apply x t) (same_after x s t same)

-- ---- a table stays, with its schema

kept_by : (b : Bool) (o named : Option Schema) (new schema : Schema) → (b ≡ true → named ≡ o) → o ≡ Some schema → (if b then Some (unwrap_or named new) else o) ≡ Some schema
kept_by true o named new schema same h = ap (λ (p : Option Schema). Some (unwrap_or p new)) (same refl ∙ h)
kept_by false o named new schema same h = h

kept_after : (change : Change) (s : Store) (q : List ℕ) (schema : Schema) → schema_of s q ≡ Some schema → schema_of (apply change s) q ≡ Some schema
kept_after (create name new) s q schema is =
    (create_creates name new s).schemas q ∙ kept_by (bytes_eq q name) (schema_of s q) (schema_of s name) new schema (λ same. ap (schema_of s) (sym (same_bytes q name same))) is
kept_after (put name row) s q schema is = (put_puts name row s).schemas q ∙ is
kept_after (remove name key) s q schema is = (remove_removes name key s).schemas q ∙ is

kept_behind : (changes : List Change) (s : Store) (q : List ℕ) (schema : Schema) → schema_of s q ≡ Some schema → schema_of (apply_all changes s) q ≡ Some schema
kept_behind [] s q schema is = is
kept_behind (x ∷ xs) s q schema is = kept_behind xs (apply x s) q schema (kept_after x s q schema is)

-- ---- a table of a store can be created

sound_by : (name : List ℕ) (schema : Schema) (e : List ℕ × Table) (rest : Option Table) (b : Bool) → bytes_eq name e.0 ≡ b → named_table e ≡ true → (option_map (λ (t : Table). t.schema) rest ≡ Some schema → is_sound (create name schema) ≡ true)
    → option_map (λ (t : Table). t.schema) (cond b (Some e.1) rest) ≡ Some schema → is_sound (create name schema) ≡ true
sound_by name schema e rest true here good more is =
    let its : e.1.schema ≡ schema = inside e.1.schema schema is in
    both_true (is_name name) (is_schema schema)
    (ap is_name (same_bytes name e.0 here) ∙ first_true (is_name e.0) (is_table e.1) good)
    (ap is_schema (sym its) ∙ (parts e.1 (second_true (is_name e.0) (is_table e.1) good)).0)
sound_by name schema e rest false here good more is = more is

sound : (name : List ℕ) (schema : Schema) (s : Store) → list_all named_table s ≡ true → schema_of s name ≡ Some schema → is_sound (create name schema) ≡ true
sound name schema [] good is = absurd cc
sound name schema (e ∷ es) good is =
    sound_by name schema e (table_of es name) (bytes_eq name e.0) refl (first_true (named_table e) (list_all named_table es) good) (sound name schema es (second_true (named_table e) (list_all named_table es) good)) is

-- ---- the tables are a store behind changes, if others with the same schemas are

there : (o : Option Table) (schema : Schema) → option_map (λ (t : Table). t.schema) o ≡ Some schema → is_some o ≡ true
there None schema is = absurd cc
there (Some t) schema is = refl

created : (name : List ℕ) (schema : Schema) (xs : List Change) (s t : Store) (o : Option Schema) → schema_of s name ≡ o → schema_of t name ≡ o → is_store (apply_all xs (apply (create name schema) s)) ≡ true → is_store t ≡ true
    → is_store (apply (create name schema) t) ≡ true
created name schema xs s t (Some old) in_s in_t whole good =
    ap (λ (b : Bool). is_store (if b then t else insert_entry (slice_cmp nat_cmp) t name (record { schema = schema; rows = [] }))) (there (table_of t name) old in_t) ∙ good
created name schema xs s t None in_s in_t whole good =
    let made : schema_of (apply (create name schema) s) name ≡ Some schema =
    (create_creates name schema s).schemas name
    ∙ ap (λ (b : Bool). if b then Some (unwrap_or (schema_of s name) schema) else schema_of s name) (itself name)
    ∙ ap (λ (o : Option Schema). Some (unwrap_or o schema)) in_s in
    let last : Store = apply_all xs (apply (create name schema) s) in
    apply_keeps (create name schema) t (sound name schema last (first_true (list_all named_table last) (rises (slice_cmp nat_cmp) (keys_of last)) whole) (kept_behind xs (apply (create name schema) s) name schema made)) good

good_after : (x : Change) (xs : List Change) (s t : Store) → SameSchemas s t → is_store (apply_all xs (apply x s)) ≡ true → is_store t ≡ true → is_store (apply x t) ≡ true
good_after (create name schema) xs s t same whole good = created name schema xs s t (schema_of s name) refl (sym (same name)) whole good
good_after (put name row) xs s t same whole good = apply_keeps (put name row) t refl good
good_after (remove name key) xs s t same whole good = apply_keeps (remove name key) t refl good

good_behind : (changes : List Change) (s t : Store) → SameSchemas s t → is_store (apply_all changes s) ≡ true → is_store t ≡ true → is_store (apply_all changes t) ≡ true
good_behind [] s t same whole good = good
good_behind (x ∷ xs) s t same whole good = good_behind xs (apply x s) (apply x t) (same_after x s t same) whole (good_after x xs s t same whole good)

-- ---- tables that stand for others

module _ {is_told : Bool} (changes : List Change) (given store : Store) (stands : StandsFor is_told given store) where
  -- a statement that is bound to the schemas of the one is bound to those of the other
  pub still_over : (b : Bound) → IsOver b (apply_all changes store) → IsOver b (apply_all changes given)
  still_over b over = over ∙ same_behind changes store given stands.schemas (string_bytes b.table)

  pub still_good : is_store (apply_all changes store) ≡ true → is_store (apply_all changes given) ≡ true
  still_good good = good_behind changes store given stands.schemas good stands.good

module _ {R : Type 0} (is_told : Bool) (reads : R → R → Type 0) (store : Store) (before after : R) where
  -- where nothing was read, the tables are those that stand
  pub read_or_not : (read : ReadAhead) → StandsFor is_told (given_by store read) store → IsReadBy reads read before after
      → ((given_by store read ≡ store) × (after ≡ before)) ⊎ (StandsFor is_told (given_by store read) store × reads before after)
  read_or_not Nothing stands is = inl (refl, is)
  read_or_not (Row table key row) stands is = inr (stands, is)
  read_or_not (Rows table rows) stands is = inr (stands, is)

  over_by : (changes : List Change) (given : Store) (b : Bound) → IsOver b (apply_all changes store) → ((given ≡ store) × (after ≡ before)) ⊎ (StandsFor is_told given store × reads before after) → IsOver b (apply_all changes given)
  over_by changes given b over (inl none) = over ∙ ap (λ (s : Store). schema_of (apply_all changes s) (string_bytes b.table)) (sym none.0)
  over_by changes given b over (inr read) = still_over changes given store read.0 b over

  -- a statement is still bound over the tables that it is given
  pub over_given : {Told : Store → Type 0} (changes : List Change) (g : IsGiven is_told reads store before after Told) (b : Bound) → IsOver b (apply_all changes store) → IsOver b (apply_all changes g.given)
  over_given changes g b over = over_by changes g.given b over g.read
