-- What is told of a table goes on with each change.
use Rattle.std.proofs.Common.{◌≡◌, ℕ, List, [], ◌∷◌, ◌++◌, Bool, true, false, true≢false, cond, refl, sym, ap, subst, ◌∙◌, Option, Some, None}
use Rattle.std.specs.Prelude.{bytes_eq, ◌&&◌}
use Rattle.std.specs.List.{AllByRecursion, flat_map}
use Rattle.std.specs.Cmp.{eq_by_cmp_equiv}
use Rattle.std.specs.Cmp.Lexicographic.{nat_list_cmp_total}
use Rattle.std.specs.List.Sorted.{IsStrictlySortedBy}
use Rattle.drda_words.specs.Bytes.{AreBytes}
use Rattle.row_values.specs.Schema.{Schema}
use Rattle.row_values.specs.Row.{is_row}
use Rattle.row_values.specs.Key.{is_key, row_key}
use Rattle.key_map.specs.SortForm.{sort_form}
use Rattle.key_map.specs.Merging.{InOrder, Rows, keyed, merged, over, row_at}
use Rattle.tables.specs.Change.{Change, create, put, remove}
use Rattle.tables.specs.Tables.{Store, apply, is_row_at, row_of, schema_of, table_of}
use Rattle.tables.specs.View.{is_sound, is_store}
use Rattle.tables.specs.Applied.{apply_all}
use Rattle.unit_changes.specs.UnitTable.{Fits, IsKey, IsTold, Lists, SaysKeys, Tells, UnitTable, all_changed, formed, name_of, rows_in, said_by}
use Rattle.unit_changes.specs.TableChanges.{Records}
use Rattle.unit_changes.specs.Index.{AreOf, IsToldOf, fresh}
use Rattle.unit_changes.proofs.Storing.{all_then, schema_stays, schemas_stay}
use Rattle.unit_changes.proofs.Listing.{itself, same_bytes}
use Rattle.unit_changes.proofs.Forms.{Laws, changed_order, changed_then, form_test, no_key_is}
use Rattle.unit_changes.proofs.Forming.{rows_step}

-- ---- one change

skip : {A : Type 0} (b : Bool) (x y : A) → b ≡ false → cond b x y ≡ y
skip b x y h = rw h refl

over_put : (b : Bool) (row : List ℕ) (o : Option (List ℕ)) → over (cond b (Some (Some row)) None) o ≡ cond b (Some row) o
over_put true row o = refl
over_put false row o = refl

over_taken : (b : Bool) (o : Option (List ℕ)) → over (cond b (Some None) None) o ≡ cond b None o
over_taken true o = refl
over_taken false o = refl

no_row : (b : Bool) → cond {A = Option (List ℕ)} b None None ≡ None
no_row true = refl
no_row false = refl

-- whether a row is put at the key
put_test : (name row key n : List ℕ) (s : Store) (schema : Schema) → name ≡ n → schema_of s n ≡ Some schema
    → (bytes_eq n name && is_row_at (schema_of s name) row key) ≡ (is_row schema row && bytes_eq key (row_key schema row))
put_test name row key n s schema named known =
    ap (λ (m : List ℕ). bytes_eq n m && is_row_at (schema_of s m) row key) named
    ∙ ap (λ b. b && is_row_at (schema_of s n) row key) (itself n)
    ∙ ap (λ o. is_row_at o row key) known

step_put : Laws → (name row n key : List ℕ) (s : Store) (schema : Schema) (rows : Rows) (b : Bool) → is_row schema row ≡ b → name ≡ n → schema_of s n ≡ Some schema → SaysKeys schema (put name row) → IsKey schema key
    → InOrder rows → row_at (sort_form schema key) rows ≡ row_of s n key
    → row_at (sort_form schema key) (all_changed rows (cond b ((sort_form schema (row_key schema row), Some row) ∷ []) [])) ≡ row_of (apply (put name row) s) n key
step_put laws name row n key s schema rows true is named known says isKey up here =
    let f = sort_form schema key in
    let k = row_key schema row in
    let test : (bytes_eq n name && is_row_at (schema_of s name) row key) ≡ bytes_eq key k = put_test name row key n s schema named known ∙ ap (λ b. b && bytes_eq key k) is in
    laws.at f rows ((sort_form schema k, Some row) ∷ []) up
    ∙ ap (λ b. over (cond b (Some (Some row)) None) (row_at f rows)) (form_test laws schema key k isKey (says is))
    ∙ over_put (bytes_eq key k) row (row_at f rows)
    ∙ ap (λ o. cond (bytes_eq key k) (Some row) o) here
    ∙ ap (λ b. cond b (Some row) (row_of s n key)) (sym test)
    ∙ sym ((laws.local.put name row s).found n key)
step_put laws name row n key s schema rows false is named known says isKey up here =
    here ∙ sym ((laws.local.put name row s).found n key
    ∙ skip (bytes_eq n name && is_row_at (schema_of s name) row key) (Some row) (row_of s n key)
    (put_test name row key n s schema named known ∙ ap (λ b. b && bytes_eq key (row_key schema row)) is))

remove_test : (name k key n : List ℕ) → name ≡ n → (bytes_eq n name && bytes_eq key k) ≡ bytes_eq key k
remove_test name k key n named = ap (λ (m : List ℕ). bytes_eq n m && bytes_eq key k) named ∙ ap (λ b. b && bytes_eq key k) (itself n)

step_remove : Laws → (name k n key : List ℕ) (s : Store) (schema : Schema) (rows : Rows) (b : Bool) → is_key schema k ≡ b → name ≡ n → AreBytes k → IsKey schema key
    → InOrder rows → row_at (sort_form schema key) rows ≡ row_of s n key
    → row_at (sort_form schema key) (all_changed rows (cond b ((sort_form schema k, None) ∷ []) [])) ≡ row_of (apply (remove name k) s) n key
step_remove laws name k n key s schema rows true is named bytes isKey up here =
    let f = sort_form schema key in
    laws.at f rows ((sort_form schema k, None) ∷ []) up
    ∙ ap (λ b. over (cond b (Some None) None) (row_at f rows)) (form_test laws schema key k isKey (bytes, is))
    ∙ over_taken (bytes_eq key k) (row_at f rows)
    ∙ ap (λ o. cond (bytes_eq key k) None o) here
    ∙ ap (λ b. cond b None (row_of s n key)) (sym (remove_test name k key n named))
    ∙ sym ((laws.local.removed name k s).found n key)
step_remove laws name k n key s schema rows false is named bytes isKey up here =
    here ∙ sym ((laws.local.removed name k s).found n key
    ∙ skip (bytes_eq n name && bytes_eq key k) None (row_of s n key) (remove_test name k key n named ∙ other (bytes_eq key k) refl))
  where
    other : (t : Bool) → bytes_eq key k ≡ t → t ≡ false
    other true at = absurd (true≢false (sym isKey.1 ∙ ap (is_key schema) (same_bytes key k at) ∙ is))
    other false at = refl

step_row : Laws → (c : Change) (n key : List ℕ) (s : Store) (schema : Schema) (rows : Rows) → name_of c ≡ n → schema_of s n ≡ Some schema → SaysKeys schema c → IsKey schema key
    → InOrder rows → row_at (sort_form schema key) rows ≡ row_of s n key
    → row_at (sort_form schema key) (all_changed rows (said_by schema c)) ≡ row_of (apply c s) n key
step_row laws (create name fresh) n key s schema rows named known says isKey up here = here ∙ sym ((laws.local.created name fresh s).found n key)
step_row laws (put name row) n key s schema rows named known says isKey up here = step_put laws name row n key s schema rows (is_row schema row) refl named known says isKey up here
step_row laws (remove name k) n key s schema rows named known says isKey up here = step_remove laws name k n key s schema rows (is_key schema k) refl named says isKey up here

none_put : Laws → (name row n key : List ℕ) (s : Store) (schema : Schema) (b : Bool) → is_row schema row ≡ b → name ≡ n → schema_of s n ≡ Some schema → SaysKeys schema (put name row) → is_key schema key ≡ false
    → (b && bytes_eq key (row_key schema row)) ≡ false
none_put laws name row n key s schema true is named known says none = no_key_is schema key (row_key schema row) none (says is).1 (bytes_eq key (row_key schema row)) refl
none_put laws name row n key s schema false is named known says none = refl

step_none : Laws → (c : Change) (n key : List ℕ) (s : Store) (schema : Schema) → name_of c ≡ n → schema_of s n ≡ Some schema → SaysKeys schema c → is_key schema key ≡ false → row_of s n key ≡ None → row_of (apply c s) n key ≡ None
step_none laws (create name fresh) n key s schema named known says none here = (laws.local.created name fresh s).found n key ∙ here
step_none laws (put name row) n key s schema named known says none here =
    (laws.local.put name row s).found n key
    ∙ skip (bytes_eq n name && is_row_at (schema_of s name) row key) (Some row) (row_of s n key)
    (put_test name row key n s schema named known ∙ none_put laws name row n key s schema (is_row schema row) refl named known says none)
    ∙ here
step_none laws (remove name k) n key s schema named known says none here =
    (laws.local.removed name k s).found n key ∙ ap (λ o. cond (bytes_eq n name && bytes_eq key k) None o) here ∙ no_row (bytes_eq n name && bytes_eq key k)

-- ---- many changes

rows_go : Laws → (cs : List Change) (n key : List ℕ) (s : Store) (schema : Schema) (rows : Rows) → AreOf n cs → schema_of s n ≡ Some schema → AllByRecursion (SaysKeys schema) cs → IsKey schema key
    → InOrder rows → row_at (sort_form schema key) rows ≡ row_of s n key
    → row_at (sort_form schema key) (all_changed rows (flat_map (said_by schema) cs)) ≡ row_of (apply_all cs s) n key
rows_go laws [] n key s schema rows named known says isKey up here = here
rows_go laws (c ∷ cs) n key s schema rows named known says isKey up here =
    ap (row_at (sort_form schema key)) (changed_then rows (said_by schema c) (flat_map (said_by schema) cs))
    ∙ rows_go laws cs n key (apply c s) schema (all_changed rows (said_by schema c)) named.1 (schema_stays laws.local same_bytes c s n schema known) says.1 isKey
    (changed_order laws rows (said_by schema c) up) (step_row laws c n key s schema rows named.0 known says.0 isKey up here)

none_goes : Laws → (cs : List Change) (n key : List ℕ) (s : Store) (schema : Schema) → AreOf n cs → schema_of s n ≡ Some schema → AllByRecursion (SaysKeys schema) cs → is_key schema key ≡ false → row_of s n key ≡ None → row_of (apply_all cs s) n key ≡ None
none_goes laws [] n key s schema named known says none here = here
none_goes laws (c ∷ cs) n key s schema named known says none here =
    none_goes laws cs n key (apply c s) schema named.1 (schema_stays laws.local same_bytes c s n schema known) says.1 none (step_none laws c n key s schema named.0 known says.0 none here)

-- what was told, and what is recorded, is told
pub told_on : Laws → (before new : List Change) (t u : UnitTable) → AreOf t.name new → Records new t u → IsTold t before → IsTold u (before ++ new)
told_on laws before new t u named r h = record {
  sound = λ isNew. subst (λ (n : List ℕ). is_sound (create n u.schema) ≡ true) (sym r.name) (subst (λ (x : Schema). is_sound (create t.name x) ≡ true) (sym r.schema) (h.sound (sym r.is_new ∙ isNew)));
  tells = λ s good fits.
      let was : Tells t (table_of s t.name) (table_of (apply_all before s) t.name) =
      h.tells s good (subst (λ (x : Schema). Fits t.is_new x (schema_of s t.name)) r.schema (subst (λ (b : Bool). Fits b u.schema (schema_of s t.name)) r.is_new (subst (λ (n : List ℕ). Fits u.is_new u.schema (schema_of s n)) r.name fits))) in
      subst (λ (n : List ℕ). Tells u (table_of s n) (table_of (apply_all (before ++ new) s) n)) (sym r.name)
      (subst (λ (x : Store). Tells u (table_of s t.name) (table_of x t.name)) (sym (all_then before new s)) (record {
        schema = schemas_stay laws.local same_bytes new (apply_all before s) t.name t.schema was.schema ∙ ap (λ (x : Schema). Some x) (sym r.schema);
        row = λ key rows isKey up here.
            subst (λ (x : Schema). row_at (sort_form x key) rows ≡ row_of s t.name key → IsKey x key → row_at (sort_form x key) (merged rows u.said) ≡ row_of (apply_all new (apply_all before s)) t.name key) (sym r.schema)
            (λ here isKey. ap (row_at (sort_form t.schema key)) (r.said rows up)
            ∙ rows_go laws new t.name key (apply_all before s) t.schema (merged rows t.said) named was.schema r.bytes isKey (laws.order rows t.said up) (was.row key rows isKey up here)) here isKey;
        rows = subst (λ (x : Schema). Lists x u.said (table_of s t.name) (table_of (apply_all new (apply_all before s)) t.name)) (sym r.schema) (λ keys up.
            let rows : Rows = formed t.schema (rows_in (table_of s t.name)) in
            let old = was.rows keys up in
            let more = rows_step laws new t.name (apply_all before s) t.schema named was.schema r.bytes old.1 (subst (λ (x : Rows). InOrder x) (sym old.0) (laws.order rows t.said up)) in
            (more.0 ∙ ap (λ (x : Rows). all_changed x (flat_map (said_by t.schema) new)) old.0 ∙ sym (r.said rows up), more.1));
        none = λ key noKey here. none_goes laws new t.name key (apply_all before s) t.schema named was.schema r.bytes (ap (λ (x : Schema). is_key x key) (sym r.schema) ∙ noKey) (was.none key (ap (λ (x : Schema). is_key x key) (sym r.schema) ∙ noKey) here);
      }));
}

-- ---- one row

keyed_order : (f : List ℕ) (o : Option (List ℕ)) → InOrder (keyed f o)
unfolding IsStrictlySortedBy
keyed_order f None = tt
keyed_order f (Some row) = (tt, tt)

keyed_found : (f : List ℕ) (o : Option (List ℕ)) → row_at f (keyed f o) ≡ o
keyed_found f None = refl
keyed_found f (Some row) = ap (λ b. cond b (Some row) None) ((eq_by_cmp_equiv nat_list_cmp_total).refl f)

-- what is said of a key over the row below is the row behind the changes
pub row_found : (t : UnitTable) (cs : List Change) (s : Store) (name key : List ℕ) (below row : Option (List ℕ)) → IsToldOf (Some t) name cs → is_store s ≡ true → Fits t.is_new t.schema (schema_of s name)
    → IsKey t.schema key → below ≡ row_of s name key
    → ((rows : Rows) → InOrder rows → row_at (sort_form t.schema key) rows ≡ below → row ≡ row_at (sort_form t.schema key) (merged rows t.said))
    → row ≡ row_of (apply_all cs s) name key
row_found t cs s name key below row told good fits isKey at is =
    let f = sort_form t.schema key in
    let tells = told.1.tells s good (subst (λ (n : List ℕ). Fits t.is_new t.schema (schema_of s n)) (sym told.0) fits) in
    is (keyed f below) (keyed_order f below) (keyed_found f below)
    ∙ tells.row key (keyed f below) isKey (keyed_order f below) (keyed_found f below ∙ at ∙ ap (λ (n : List ℕ). row_of s n key) (sym told.0))
    ∙ ap (λ (n : List ℕ). row_of (apply_all cs s) n key) told.0
