-- How many tables the changes make.
use Rattle.std.proofs.Common.{◌≡◌, ◌<◌, ◌≤◌, ◌+◌, ℕ, zero, suc, List, [], ◌∷◌, Bool, true, false, true≢false, cond, refl, sym, ap, subst, ◌∙◌, get_or, length, map, Option, Some, None, Result, Ok, Err, IfOk, OnOk, Ordering, Less, Equal, Greater, arith, add-one, drop, drop-cons}
use Rattle.std.specs.Prelude.{bytes_eq, is_some, option_map, unwrap_or, ◌||◌}
use Rattle.std.specs.List.{list_all}
use Rattle.std.specs.Map.{lookup}
use Rattle.std.specs.Ordering.{match_ordering, nat_cmp}
use Rattle.std.specs.Cmp.Lexicographic.{slice_cmp}
use Rattle.std.specs.BTreeMap.{insert_entry}
use Rattle.std.proofs.lemmas.Map.Lookups.{exact_bytes}
use Rattle.row_values.specs.Schema.{Schema}
use Rattle.tables.specs.Change.{Change, create, is_change}
use Rattle.tables.specs.Laws.{NamesAreWhatIsKnown, StoresAreKept}
use Rattle.tables.specs.Tables.{Store, Table, apply, schema_of, table_of}
use Rattle.tables.specs.View.{is_sound, is_store}
use Rattle.tables.specs.Applied.{apply_all}
use Rattle.unit_changes.specs.declared.table_changes.TableChanges.{TableChanges}
use Rattle.unit_changes.specs.UnitTable.{Fits, UnitTable}
use Rattle.unit_changes.specs.TableChanges.{table_of as told_by}
use Rattle.unit_changes.specs.Index.{AreApart, AreNew, IsIndex, IsNewIn, IsToldOf, lacking, told_of}
use Rattle.unit_changes.proofs.Storing.{Local, schemas_stay, stores_kept}
use Rattle.unit_changes.proofs.Listing.{itself, same_bytes}

-- ---- one table after another

next : (ts : List TableChanges) (i : ℕ) (t : TableChanges) → t ≡ get_or ts i t → i < length ts → drop i ts ≡ t ∷ drop (i + 1) ts
next ts i t is lt = drop-cons ts i t lt ∙ ap (λ (y : TableChanges). y ∷ drop (suc i) ts) (sym is) ∙ ap (λ n. t ∷ drop n ts) (sym (add-one i))

abbrev one_of : Store → UnitTable → ℕ
one_of s t = cond (is_some (schema_of s t.name)) 0 1

pub at_end : (ts : List TableChanges) (i : ℕ) (s : Store) → length ts ≤ i → (lacking (map told_by (drop i ts)) s ≡ 0) × AreNew (map told_by (drop i ts)) s
at_end [] zero s h = (refl, tt)
at_end [] (suc i) s h = (refl, tt)
at_end (t ∷ ts) zero s h = absurd (omega (arith, h))
at_end (t ∷ ts) (suc i) s h = at_end ts i s (omega (arith, h))

-- ---- one creation

absent_in : (b : Bool) (x : Table) (o : Option Table) → cond b (Some x) o ≡ None → b ≡ false
absent_in true x o h = absurd cc
absent_in false x o h = refl

rest_absent : (b : Bool) (x : Table) (o : Option Table) → cond b (Some x) o ≡ None → o ≡ None
rest_absent true x o h = absurd cc
rest_absent false x o h = h

longer_step : (name : List ℕ) (fresh : Table) (e : List ℕ × Table) (es rest : Store) (o : Ordering) → slice_cmp nat_cmp name e.0 ≡ o → bytes_eq name e.0 ≡ false → length rest ≡ length es + 1
    → length (match_ordering o ((name, fresh) ∷ e ∷ es) ((e.0, fresh) ∷ es) (e ∷ rest)) ≡ length (e ∷ es) + 1
longer_step name fresh e es rest Less is apart more = omega arith
longer_step name fresh e es rest Equal is apart more = absurd (true≢false (sym (itself name) ∙ ap (bytes_eq name) (exact_bytes name e.0 is) ∙ apart))
longer_step name fresh e es rest Greater is apart more = omega (arith, more)

longer : (name : List ℕ) (fresh : Table) (s : Store) → table_of s name ≡ None → length (insert_entry (slice_cmp nat_cmp) s name fresh) ≡ length s + 1
longer name fresh [] h = omega arith
longer name fresh (e ∷ es) h =
    longer_step name fresh e es (insert_entry (slice_cmp nat_cmp) es name fresh) (slice_cmp nat_cmp name e.0) refl (absent_in (bytes_eq name e.0) e.1 (lookup (bytes_eq name) es) h)
    (longer name fresh es (rest_absent (bytes_eq name e.0) e.1 (lookup (bytes_eq name) es) h))

created_length : (name : List ℕ) (schema : Schema) (s : Store) (o : Option Table) → table_of s name ≡ o → length (apply (create name schema) s) ≡ cond (is_some (option_map (λ (t : Table). t.schema) o)) 0 1 + length s
created_length name schema s None is =
    ap (λ (o : Option Table). length (cond (is_some o) s (insert_entry (slice_cmp nat_cmp) s name (record { schema = schema; rows = [] })))) is
    ∙ longer name (record { schema = schema; rows = [] }) s is ∙ omega arith
created_length name schema s (Some t) is =
    ap (λ (o : Option Table). length (cond (is_some o) s (insert_entry (slice_cmp nat_cmp) s name (record { schema = schema; rows = [] })))) is ∙ omega arith

created_store : StoresAreKept → (name : List ℕ) (schema : Schema) (s : Store) (o : Option Table) → table_of s name ≡ o → (is_some (option_map (λ (t : Table). t.schema) o) ≡ false → is_sound (create name schema) ≡ true) → is_store s ≡ true → is_store (apply (create name schema) s) ≡ true
created_store kept name schema s None is sound good = kept (create name schema) s (sound refl) good
created_store kept name schema s (Some t) is sound good =
    ap (λ (o : Option Table). is_store (cond (is_some o) s (insert_entry (slice_cmp nat_cmp) s name (record { schema = schema; rows = [] })))) is ∙ good

skip : {A : Type 0} (b : Bool) (x y : A) → b ≡ false → cond b x y ≡ y
skip b x y h = rw h refl

other_schema : Local → (name q : List ℕ) (schema : Schema) (s : Store) → bytes_eq q name ≡ false → schema_of (apply (create name schema) s) q ≡ schema_of s q
other_schema laws name q schema s apart = (laws.created name schema s).schemas q ∙ skip (bytes_eq q name) (Some (unwrap_or (schema_of s name) schema)) (schema_of s q) apart

-- ---- all of them

with_new : List UnitTable → Store → Store
with_new [] s = s
with_new (t ∷ ts) s = with_new ts (apply (create t.name t.schema) s)

told_apart : (b : Bool) (x : UnitTable) (o : Option UnitTable) → cond b (Some x) o ≡ None → b ≡ false
told_apart true x o h = absurd cc
told_apart false x o h = refl

told_rest : (b : Bool) (x : UnitTable) (o : Option UnitTable) → cond b (Some x) o ≡ None → o ≡ None
told_rest true x o h = absurd cc
told_rest false x o h = h

turned : (a b : List ℕ) (t : Bool) → bytes_eq b a ≡ t → bytes_eq a b ≡ false → t ≡ false
turned a b true is apart = absurd (true≢false (sym (itself b) ∙ ap (λ (n : List ℕ). bytes_eq n b) (same_bytes b a is) ∙ apart))
turned a b false is apart = refl

lacking_same : Local → (name : List ℕ) (schema : Schema) (ts : List UnitTable) (s : Store) → told_of name ts ≡ None → lacking ts (apply (create name schema) s) ≡ lacking ts s
lacking_same laws name schema [] s h = refl
lacking_same laws name schema (t ∷ ts) s h =
    let apart : bytes_eq t.name name ≡ false = turned name t.name (bytes_eq t.name name) refl (told_apart (bytes_eq name t.name) t (told_of name ts) h) in
    ap (λ (o : Option Schema). cond (is_some o) 0 1 + lacking ts (apply (create name schema) s)) (other_schema laws name t.name schema s apart)
    ∙ ap (λ n. one_of s t + n) (lacking_same laws name schema ts s (told_rest (bytes_eq name t.name) t (told_of name ts) h))

new_same : Local → (name : List ℕ) (schema : Schema) (ts : List UnitTable) (s : Store) → told_of name ts ≡ None → AreNew ts s → AreNew ts (apply (create name schema) s)
new_same laws name schema [] s h all = tt
new_same laws name schema (t ∷ ts) s h all =
    let apart : bytes_eq t.name name ≡ false = turned name t.name (bytes_eq t.name name) refl (told_apart (bytes_eq name t.name) t (told_of name ts) h) in (
      λ none. all.0 (sym (ap (λ (o : Option Schema). is_some o) (other_schema laws name t.name schema s apart)) ∙ none),
      new_same laws name schema ts s (told_rest (bytes_eq name t.name) t (told_of name ts) h) all.1,
    )

new_length : Local → (ts : List UnitTable) (s : Store) → AreApart ts → length (with_new ts s) ≡ lacking ts s + length s
unfolding with_new
new_length laws [] s apart = omega arith
new_length laws (t ∷ ts) s apart =
    let one = created_length t.name t.schema s (table_of s t.name) refl in
    let same = lacking_same laws t.name t.schema ts s apart.0 in
    let rest = new_length laws ts (apply (create t.name t.schema) s) apart.1 in
    omega (arith, one, same, rest)

new_store : Local → (ts : List UnitTable) (s : Store) → AreApart ts → AreNew ts s → is_store s ≡ true → is_store (with_new ts s) ≡ true
unfolding with_new
new_store laws [] s apart all good = good
new_store laws (t ∷ ts) s apart all good =
    new_store laws ts (apply (create t.name t.schema) s) apart.1 (new_same laws t.name t.schema ts s apart.0 all.1)
    (created_store laws.kept t.name t.schema s (table_of s t.name) refl (λ none. (all.0 none).1) good)

known_step : (b a : Bool) (o : Option Schema) (x : Schema) (t : UnitTable) (r : Option UnitTable) → (is_some (cond b (Some x) o) || is_some r) ≡ (is_some o || is_some (cond b (Some t) r))
known_step true a None x t r = refl
known_step true a (Some y) x t r = refl
known_step false a o x t r = refl

no_more : (b : Bool) → b ≡ (b || false)
no_more true = refl
no_more false = refl

new_known : Local → (ts : List UnitTable) (s : Store) (q : List ℕ) → is_some (schema_of (with_new ts s) q) ≡ (is_some (schema_of s q) || is_some (told_of q ts))
unfolding with_new
new_known laws [] s q = no_more (is_some (schema_of s q))
new_known laws (t ∷ ts) s q =
    new_known laws ts (apply (create t.name t.schema) s) q
    ∙ ap (λ (o : Option Schema). is_some o || is_some (told_of q ts)) ((laws.created t.name t.schema s).schemas q)
    ∙ known_step (bytes_eq q t.name) true (schema_of s q) (unwrap_or (schema_of s t.name) t.schema) t (told_of q ts)

pick_new : (s : Store) (x t : UnitTable) (o : Option UnitTable) (b : Bool) → cond b (Some x) o ≡ Some t → IsNewIn s x → (o ≡ Some t → IsNewIn s t) → IsNewIn s t
pick_new s x t o true h here more = let same : x ≡ t = cc in subst (λ (u : UnitTable). IsNewIn s u) same here
pick_new s x t o false h here more = more h

new_at : (s : Store) (ts : List UnitTable) (q : List ℕ) (t : UnitTable) → told_of q ts ≡ Some t → AreNew ts s → IsNewIn s t
new_at s [] q t is all = absurd cc
new_at s (x ∷ xs) q t is all = pick_new s x t (told_of q xs) (bytes_eq q x.name) is all.0 (λ h. new_at s xs q t h all.1)

by_told : Local → (cs : List Change) (s : Store) (q : List ℕ) (o : Option Schema) (r : Option UnitTable) → schema_of s q ≡ o → is_store s ≡ true → IsToldOf r q cs → ((t : UnitTable) → r ≡ Some t → IsNewIn s t)
    → (is_some o || is_some r) ≡ is_some (schema_of (apply_all cs s) q)
by_told laws cs s q (Some x) r is good told new = sym (ap (λ (p : Option Schema). is_some p) (schemas_stay laws same_bytes cs s q x is))
by_told laws cs s q None None is good told new = sym (ap (λ (o : Option Table). is_some (option_map (λ (t : Table). t.schema) o)) (told s) ∙ ap (λ (p : Option Schema). is_some p) is)
by_told laws cs s q None (Some t) is good told new =
    let none : schema_of s t.name ≡ None = ap (schema_of s) told.0 ∙ is in
    let isNew = (new t refl (ap (λ (p : Option Schema). is_some p) none)).0 in
    let tells = told.1.tells s good (subst (λ (b : Bool). Fits b t.schema (schema_of s t.name)) (sym isNew) (subst (λ (p : Option Schema). Fits true t.schema p) (sym none) tt)) in
    sym (ap (λ (n : List ℕ). is_some (schema_of (apply_all cs s) n)) (sym told.0) ∙ ap (λ (p : Option Schema). is_some p) tells.schema)

-- the tables that are lacking, and those that are there, are those behind the changes
pub counted : Local → NamesAreWhatIsKnown → (cs : List Change) (ts : List UnitTable) (s : Store) → list_all is_change cs ≡ true → IsIndex cs ts → AreNew ts s → is_store s ≡ true → lacking ts s + length s ≡ length (apply_all cs s)
counted laws names cs ts s sound h new good =
    sym (new_length laws ts s h.apart)
    ∙ (names (with_new ts s) (apply_all cs s) (new_store laws ts s h.apart new good) (stores_kept laws.kept cs s sound good)
    (λ q. new_known laws ts s q ∙ by_told laws cs s q (schema_of s q) (told_of q ts) refl good (h.told q) (λ t is. new_at s ts q t is new))).1

pub counted_result : {E : Type 0} (T A G : Type 0) (r : Result ℕ E) (n count total : ℕ) → IfOk r (λ k. T → k ≡ n) → OnOk r (T → A) → (A → G → n + count ≡ total) → IfOk r (λ k. T → G → k + count ≡ total)
counted_result T A G (Ok k) n count total is new then = λ told good. ap (λ m. m + count) (is told) ∙ then (new told) good
counted_result T A G (Err e) n count total is new then = tt
