-- The index goes on with the changes of one table.
use Rattle.std.proofs.Common.{◌≡◌, ℕ, List, [], ◌∷◌, ◌++◌, Bool, true, false, true≢false, cond, refl, sym, ap, subst, ◌∙◌, Option, Some, None, map, set, get_or, append_assoc}
use Rattle.std.specs.Prelude.{bytes_eq, option_map, position, unwrap_or}
use Rattle.row_values.specs.Schema.{Schema}
use Rattle.key_map.specs.SortForm.{sort_form}
use Rattle.key_map.specs.Merging.{merged, row_at}
use Rattle.tables.specs.Change.{Change, create, put, remove, is_change}
use Rattle.tables.specs.Tables.{Store, Table, schema_of, table_of}
use Rattle.tables.specs.Applied.{apply_all}
use Rattle.unit_changes.specs.declared.table_changes.TableChanges.{TableChanges}
use Rattle.unit_changes.specs.UnitTable.{Fits, IsTold, Tells, UnitTable, formed, name_of, rows_in}
use Rattle.unit_changes.specs.TableChanges.{Records, table_of as told_by}
use Rattle.unit_changes.specs.Index.{AreOf, IsIndex, IsLeft, IsToldOf, fresh, is_named, told_of}
use Rattle.unit_changes.proofs.Storing.{Tabled, all_then, left_alone}
use Rattle.unit_changes.proofs.Forms.{Laws}
use Rattle.unit_changes.proofs.Telling.{told_on}
use Rattle.unit_changes.proofs.Listing.{apart_more, apart_set, itself, same_bytes, told_more, told_nowhere, told_set, told_there}

-- ---- other tables

goes_on : (o : Option UnitTable) (q : List ℕ) (before new : List Change) → IsLeft q new → IsToldOf o q before → IsToldOf o q (before ++ new)
goes_on None q before new left told = λ s. ap (λ (x : Store). table_of x q) (all_then before new s) ∙ left (apply_all before s) ∙ told s
goes_on (Some t) q before new left told = (
  told.0,
  record {
    sound = told.1.sound;
    tells = λ s good fits.
        let stays : table_of (apply_all before s) t.name ≡ table_of (apply_all (before ++ new) s) t.name =
        ap (table_of (apply_all before s)) told.0 ∙ sym (left (apply_all before s)) ∙ ap (λ (x : Store). table_of x q) (sym (all_then before new s)) ∙ ap (table_of (apply_all (before ++ new) s)) (sym told.0) in
        subst (λ (o : Option Table). Tells t (table_of s t.name) o) stays (told.1.tells s good fits);
  },
)

chosen : Tabled → (q name : List ℕ) (u : UnitTable) (o : Option UnitTable) (before new : List Change) (b : Bool) → bytes_eq q name ≡ b → AreOf name new → u.name ≡ name → IsTold u (before ++ new) → IsToldOf o q before
    → IsToldOf (cond b (Some u) o) q (before ++ new)
chosen laws q name u o before new true is named at told old = (at ∙ sym (same_bytes q name is), told)
chosen laws q name u o before new false is named at told old = goes_on o q before new (left_alone laws name new q named is) old

-- ---- a table that is told of

pub index_more : Laws → (before new : List Change) (name : List ℕ) (ts : List TableChanges) (i : ℕ) (t u : TableChanges) → position (is_named name) ts ≡ Some i → t ≡ get_or ts i t → AreOf name new
    → Records new (told_by t) (told_by u) → IsIndex before (map told_by ts) → IsIndex (before ++ new) (map told_by (set ts i u))
index_more laws before new name ts i t u is at named r h =
    let there : IsToldOf (Some (told_by t)) name before = subst (λ (o : Option UnitTable). IsToldOf o name before) (told_there name ts i t is at) (h.told name) in
    let told : IsTold (told_by u) (before ++ new) = told_on laws before new (told_by t) (told_by u) (subst (λ (n : List ℕ). AreOf n new) (sym there.0) named) r there.1 in
    let at_name : (told_by u).name ≡ name = r.name ∙ there.0 in
    record {
      told = λ q. subst (λ (o : Option UnitTable). IsToldOf o q (before ++ new)) (sym (told_set q name ts i t u is at at_name))
          (chosen laws.tabled q name (told_by u) (told_of q (map told_by ts)) before new (bytes_eq q name) refl named at_name told (h.told q));
      apart = apart_set name ts i t u is at r.name h.apart;
    }

-- ---- a new table

same_tells : (t : UnitTable) (o : Option Table) → t.said ≡ [] → option_map (λ (x : Table). x.schema) o ≡ Some t.schema → Tells t o o
same_tells t o none known = record {
  schema = known;
  row = λ key rows isKey up here. ap (λ cs. row_at (sort_form t.schema key) (merged rows cs)) none ∙ here;
  none = λ key noKey here. here;
  rows = λ keys up. (sym (ap (merged (formed t.schema (rows_in o))) none), keys);
}

inside : (x y : Schema) → x ≡ y → Some x ≡ Some y
inside x y h = ap (λ (z : Schema). Some z) h

seen_fits : (o : Option Schema) (schema : Schema) → Fits false schema o → o ≡ Some schema
seen_fits None schema h = absurd h
seen_fits (Some x) schema h = inside x schema h

made_tells : (name : List ℕ) (schema : Schema) (o : Option Table) → Fits true schema (option_map (λ (x : Table). x.schema) o) → Tells (fresh schema (create name schema)) o (Some (unwrap_or o (record { schema = schema; rows = [] })))
made_tells name schema None fits = record { schema = refl; row = λ key rows isKey up here. here; none = λ key noKey here. refl; rows = λ keys up. (refl, tt) }
made_tells name schema (Some t) fits = same_tells (fresh schema (create name schema)) (Some t) refl (inside t.schema schema fits)

seen_told : (before : List Change) (c : Change) (schema : Schema) (t : UnitTable) → IsLeft t.name before → t.is_new ≡ false → t.schema ≡ schema → t.said ≡ [] → IsTold t before
seen_told before c schema t left old same none = record {
  sound = λ isNew. absurd (true≢false (sym isNew ∙ old));
  tells = λ s good fits.
      subst (λ (o : Option Table). Tells t (table_of s t.name) o) (sym (left s))
      (same_tells t (table_of s t.name) none (seen_fits (schema_of s t.name) t.schema (subst (λ (b : Bool). Fits b t.schema (schema_of s t.name)) old fits)));
}

made_told : Tabled → (before : List Change) (name : List ℕ) (schema : Schema) → IsLeft name before → is_change (create name schema) ≡ true → IsTold (fresh schema (create name schema)) (before ++ create name schema ∷ [])
made_told laws before name schema left good = record {
  sound = λ isNew. good;
  tells = λ s isStore fits.
      let empty : Table = record { schema = schema; rows = [] } in
      let after : table_of (apply_all (before ++ create name schema ∷ []) s) name ≡ Some (unwrap_or (table_of s name) empty) =
      ap (λ (x : Store). table_of x name) (all_then before (create name schema ∷ []) s)
      ∙ laws.created name schema (apply_all before s) name
      ∙ ap (λ b. cond b (Some (unwrap_or (table_of (apply_all before s) name) empty)) (table_of (apply_all before s) name)) (itself name)
      ∙ ap (λ o. Some (unwrap_or o empty)) (left s) in
      subst (λ (o : Option Table). Tells (fresh schema (create name schema)) (table_of s name) o) (sym after) (made_tells name schema (table_of s name) fits);
}

told_new : Laws → (before rest : List Change) (c : Change) (schema : Schema) (u : UnitTable) → IsLeft (name_of c) before → is_change c ≡ true → AreOf (name_of c) (c ∷ rest) → Records (c ∷ rest) (fresh schema c) u → IsTold u (before ++ c ∷ rest)
told_new laws before rest (put name row) schema u left good named r = told_on laws before (put name row ∷ rest) (fresh schema (put name row)) u named r (seen_told before (put name row) schema (fresh schema (put name row)) left refl refl refl)
told_new laws before rest (remove name key) schema u left good named r = told_on laws before (remove name key ∷ rest) (fresh schema (remove name key)) u named r (seen_told before (remove name key) schema (fresh schema (remove name key)) left refl refl refl)
told_new laws before rest (create name own) schema u left good named r =
    subst (λ (cs : List Change). IsTold u cs) (append_assoc before (create name own ∷ []) rest)
    (told_on laws (before ++ create name own ∷ []) rest (fresh schema (create name own)) u named.1
    (record { name = r.name; schema = r.schema; is_new = r.is_new; said = r.said; bytes = r.bytes.1 })
    (made_told laws.tabled before name own left good))

fresh_name : (schema : Schema) (c : Change) → (fresh schema c).name ≡ name_of c
fresh_name schema (create name s) = refl
fresh_name schema (put name row) = refl
fresh_name schema (remove name key) = refl

pub index_new : Laws → (before new rest : List Change) (c : Change) (schema : Schema) (name : List ℕ) (ts us : List TableChanges) (u : TableChanges) → position (is_named name) ts ≡ None → name ≡ name_of c → new ≡ c ∷ rest → map told_by us ≡ map told_by ts ++ told_by u ∷ []
    → is_change c ≡ true → AreOf name new → Records new (fresh schema c) (told_by u) → IsIndex before (map told_by ts) → IsIndex (before ++ new) (map told_by us)
index_new laws before new rest c schema name ts us u is at list more good named r h =
    let nowhere : told_of name (map told_by ts) ≡ None = told_nowhere name ts is in
    let left : IsLeft name before = subst (λ (o : Option UnitTable). IsToldOf o name before) nowhere (h.told name) in
    let at_name : (told_by u).name ≡ name = r.name ∙ fresh_name schema c ∙ sym at in
    let told : IsTold (told_by u) (before ++ new) =
    subst (λ (cs : List Change). IsTold (told_by u) (before ++ cs)) (sym list)
    (told_new laws before rest c schema (told_by u) (subst (λ (n : List ℕ). IsLeft n before) at left) good (subst (λ (n : List ℕ). AreOf n (c ∷ rest)) at (subst (λ (cs : List Change). AreOf name cs) list named)) (subst (λ (cs : List Change). Records cs (fresh schema c) (told_by u)) list r)) in
    let unknown : told_of (told_by u).name (map told_by ts) ≡ None = ap (λ (n : List ℕ). told_of n (map told_by ts)) at_name ∙ nowhere in
    subst (λ (l : List UnitTable). IsIndex (before ++ new) l) (sym more) (record {
      told = λ q. subst (λ (o : Option UnitTable). IsToldOf o q (before ++ new)) (sym (told_more q (map told_by ts) (told_by u) unknown))
          (chosen laws.tabled q (told_by u).name (told_by u) (told_of q (map told_by ts)) before new (bytes_eq q (told_by u).name) refl (subst (λ (n : List ℕ). AreOf n new) (sym at_name) named) refl told (h.told q));
      apart = apart_more (map told_by ts) (told_by u) unknown h.apart;
    })
