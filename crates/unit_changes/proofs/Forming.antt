-- The rows of a table by their sort forms, with each change.
use Rattle.std.proofs.Common.{◌≡◌, ℕ, List, [], ◌∷◌, Bool, true, false, true≢false, cond, refl, sym, ap, subst, ◌∙◌, Option, Some, None, Ordering, Less, Equal, Greater, filter}
use Rattle.std.specs.Prelude.{bytes_eq, not, option_map, unwrap_or}
use Rattle.std.specs.Ordering.{is_eq, match_ordering}
use Rattle.std.specs.List.{AllByRecursion, flat_map}
use Rattle.std.specs.Map.{keys_of}
use Rattle.std.specs.BTreeMap.{insert_entry}
use Rattle.std.specs.Cmp.Lexicographic.{nat_list_cmp_total}
use Rattle.std.proofs.lemmas.Map.Keys.{sorted_head, sorted_tail}
use Rattle.drda_words.specs.Bytes.{AreBytes}
use Rattle.row_values.specs.Schema.{Schema}
use Rattle.row_values.specs.Row.{is_row}
use Rattle.row_values.specs.Key.{is_key, key_cmp, row_key}
use Rattle.key_map.specs.SortForm.{sort_form}
use Rattle.key_map.specs.Slots.{by_bytes}
use Rattle.key_map.specs.Merging.{Above, Changes, InOrder, Rows, changed}
use Rattle.tables.specs.Change.{Change, create, put, remove}
use Rattle.tables.specs.Tables.{Store, Table, apply, put_row, remove_row, schema_of, table_of}
use Rattle.tables.specs.Applied.{apply_all}
use Rattle.unit_changes.specs.UnitTable.{HaveKeys, IsKey, SaysKeys, all_changed, formed, name_of, rows_in, said_by}
use Rattle.unit_changes.specs.Index.{AreOf}
use Rattle.unit_changes.proofs.Storing.{schema_stays}
use Rattle.unit_changes.proofs.Listing.{itself, same_bytes}
use Rattle.unit_changes.proofs.Forms.{Laws, changed_order, changed_then, form_test, no_key_is, tie_test}

abbrev pub Entries : Type 0
Entries = List (List ℕ × List ℕ)

-- ---- a row that is put

put_step : Laws → (schema : Schema) (k v : List ℕ) (e : List ℕ × List ℕ) (es rest : Entries) (more : Rows) (o : Ordering) → key_cmp schema k e.0 ≡ o → formed schema rest ≡ more
    → formed schema (match_ordering o ((k, v) ∷ e ∷ es) ((e.0, v) ∷ es) (e ∷ rest))
    ≡ match_ordering o ((sort_form schema k, v) ∷ formed schema (e ∷ es)) ((sort_form schema k, v) ∷ formed schema es) ((sort_form schema e.0, e.1) ∷ more)
put_step laws schema k v e es rest more Less is same = refl
put_step laws schema k v e es rest more Equal is same = ap (λ (x : List ℕ). (sort_form schema x, v) ∷ formed schema es) (sym ((laws.keys schema).1 k e.0 is))
put_step laws schema k v e es rest more Greater is same = ap (λ (l : Rows). (sort_form schema e.0, e.1) ∷ l) same

formed_put : Laws → (schema : Schema) (es : Entries) (k v : List ℕ) → HaveKeys schema es → IsKey schema k → formed schema (insert_entry (key_cmp schema) es k v) ≡ changed (formed schema es) (sort_form schema k) (Some v)
formed_put laws schema [] k v keys is = refl
formed_put laws schema (e ∷ es) k v keys is =
    let more : Rows = changed (formed schema es) (sort_form schema k) (Some v) in
    put_step laws schema k v e es (insert_entry (key_cmp schema) es k v) more (key_cmp schema k e.0) refl (formed_put laws schema es k v keys.1 is)
    ∙ ap (λ o. match_ordering o ((sort_form schema k, v) ∷ formed schema (e ∷ es)) ((sort_form schema k, v) ∷ formed schema es) ((sort_form schema e.0, e.1) ∷ more))
    (sym (laws.forms schema k e.0 is.0 keys.0.0 is.1 keys.0.1))

have_step : (schema : Schema) (k v : List ℕ) (e : List ℕ × List ℕ) (es rest : Entries) (o : Ordering) → IsKey schema k → HaveKeys schema (e ∷ es) → HaveKeys schema rest → HaveKeys schema (match_ordering o ((k, v) ∷ e ∷ es) ((e.0, v) ∷ es) (e ∷ rest))
have_step schema k v e es rest Less is keys more = (is, keys)
have_step schema k v e es rest Equal is keys more = keys
have_step schema k v e es rest Greater is keys more = (keys.0, more)

have_put : (schema : Schema) (es : Entries) (k v : List ℕ) → HaveKeys schema es → IsKey schema k → HaveKeys schema (insert_entry (key_cmp schema) es k v)
have_put schema [] k v keys is = (is, tt)
have_put schema (e ∷ es) k v keys is = have_step schema k v e es (insert_entry (key_cmp schema) es k v) (key_cmp schema k e.0) is keys (have_put schema es k v keys.1 is)

-- ---- a row that is removed

abbrev pub others : List ℕ → Entries → Entries
others k es = filter (λ (e : List ℕ × List ℕ). not (bytes_eq k e.0)) es

stay : (b : Bool) (e : List ℕ × List ℕ) (es rest : Entries) → b ≡ false → rest ≡ es → cond (not b) (e ∷ rest) rest ≡ e ∷ es
stay true e es rest is same = absurd (true≢false is)
stay false e es rest is same = ap (λ (l : Entries). e ∷ l) same

above_stay : Laws → (schema : Schema) (k : List ℕ) (es : Entries) → HaveKeys schema es → IsKey schema k → Above (sort_form schema k) (formed schema es) → others k es ≡ es
above_stay laws schema k [] keys is above = refl
above_stay laws schema k (e ∷ es) keys is above =
    stay (bytes_eq k e.0) e es (others k es) (sym (form_test laws schema k e.0 is keys.0) ∙ ap is_eq above.0) (above_stay laws schema k es keys.1 is above.1)

pub lower : (a b : List ℕ) (keys : List (List ℕ)) → by_bytes a b ≡ Less → AllByRecursion (λ y. by_bytes b y ≡ Less) keys → AllByRecursion (λ y. by_bytes a y ≡ Less) keys
lower a b [] less above = tt
lower a b (k ∷ ks) less above = (nat_list_cmp_total.trans a b k less above.0, lower a b ks less above.1)

removed_step : Laws → (schema : Schema) (k : List ℕ) (e : List ℕ × List ℕ) (es : Entries) (o : Ordering) → key_cmp schema k e.0 ≡ o → IsKey schema k → HaveKeys schema (e ∷ es) → InOrder (formed schema (e ∷ es))
    → formed schema (others k es) ≡ changed (formed schema es) (sort_form schema k) None
    → formed schema (cond (not (is_eq o)) (e ∷ others k es) (others k es))
    ≡ match_ordering o (formed schema (e ∷ es)) (formed schema es) ((sort_form schema e.0, e.1) ∷ changed (formed schema es) (sort_form schema k) None)
removed_step laws schema k e es Less o is keys up more =
    let form : by_bytes (sort_form schema k) (sort_form schema e.0) ≡ Less = laws.forms schema k e.0 is.0 keys.0.0 is.1 keys.0.1 ∙ o in
    let above = lower (sort_form schema k) (sort_form schema e.0) (keys_of (formed schema es)) form (sorted_head by_bytes (sort_form schema e.0) (keys_of (formed schema es)) up) in
    ap (λ (l : Entries). formed schema (e ∷ l)) (above_stay laws schema k es keys.1 is above)
removed_step laws schema k e es Equal o is keys up more =
    let above = subst (λ (x : List ℕ). Above (sort_form schema x) (formed schema es)) (sym ((laws.keys schema).1 k e.0 o)) (sorted_head by_bytes (sort_form schema e.0) (keys_of (formed schema es)) up) in
    ap (formed schema) (above_stay laws schema k es keys.1 is above)
removed_step laws schema k e es Greater o is keys up more = ap (λ (l : Rows). (sort_form schema e.0, e.1) ∷ l) more

formed_removed : Laws → (schema : Schema) (es : Entries) (k : List ℕ) → HaveKeys schema es → IsKey schema k → InOrder (formed schema es) → formed schema (others k es) ≡ changed (formed schema es) (sort_form schema k) None
formed_removed laws schema [] k keys is up = refl
formed_removed laws schema (e ∷ es) k keys is up =
    let tail : InOrder (formed schema es) = sorted_tail by_bytes (sort_form schema e.0) (keys_of (formed schema es)) up in
    ap (λ b. formed schema (cond (not b) (e ∷ others k es) (others k es))) (sym (tie_test laws schema k e.0 (bytes_eq k e.0) refl))
    ∙ removed_step laws schema k e es (key_cmp schema k e.0) refl is keys up (formed_removed laws schema es k keys.1 is tail)
    ∙ ap (λ o. match_ordering o (formed schema (e ∷ es)) (formed schema es) ((sort_form schema e.0, e.1) ∷ changed (formed schema es) (sort_form schema k) None))
    (sym (laws.forms schema k e.0 is.0 keys.0.0 is.1 keys.0.1))

have_other : (schema : Schema) (b : Bool) (e : List ℕ × List ℕ) (rest : Entries) → IsKey schema e.0 → HaveKeys schema rest → HaveKeys schema (cond (not b) (e ∷ rest) rest)
have_other schema true e rest is keys = keys
have_other schema false e rest is keys = (is, keys)

have_others : (schema : Schema) (k : List ℕ) (es : Entries) → HaveKeys schema es → HaveKeys schema (others k es)
have_others schema k [] keys = tt
have_others schema k (e ∷ es) keys = have_other schema (bytes_eq k e.0) e (others k es) keys.0 (have_others schema k es keys.1)

-- bytes that are no key are those of no row
none_stay : (schema : Schema) (k : List ℕ) (es : Entries) → is_key schema k ≡ false → HaveKeys schema es → others k es ≡ es
none_stay schema k [] none keys = refl
none_stay schema k (e ∷ es) none keys = stay (bytes_eq k e.0) e es (others k es) (no_key_is schema k e.0 none keys.0.1 (bytes_eq k e.0) refl) (none_stay schema k es none keys.1)

-- ---- one change of a table

-- the changes of keys make these rows of those
abbrev pub Makes : Schema → Changes → Entries → Entries → Type 0
Makes schema cs es fs = HaveKeys schema es → InOrder (formed schema es) → (formed schema fs ≡ all_changed (formed schema es) cs) × HaveKeys schema fs

put_makes : Laws → (name row : List ℕ) (t : Table) (b : Bool) → is_row t.schema row ≡ b → SaysKeys t.schema (put name row)
    → Makes t.schema (cond b ((sort_form t.schema (row_key t.schema row), Some row) ∷ []) []) t.rows
    (rows_in (Some (cond b (record { schema = t.schema; rows = insert_entry (key_cmp t.schema) t.rows (row_key t.schema row) row }) t)))
put_makes laws name row t true is says keys up =
    (formed_put laws t.schema t.rows (row_key t.schema row) row keys (says is), have_put t.schema t.rows (row_key t.schema row) row keys (says is))
put_makes laws name row t false is says keys up = (refl, keys)

remove_makes : Laws → (k : List ℕ) (t : Table) (b : Bool) → is_key t.schema k ≡ b → AreBytes k → Makes t.schema (cond b ((sort_form t.schema k, None) ∷ []) []) t.rows (others k t.rows)
remove_makes laws k t true is bytes keys up = (formed_removed laws t.schema t.rows k keys (bytes, is) up, have_others t.schema k t.rows keys)
remove_makes laws k t false is bytes keys up =
    (ap (formed t.schema) (none_stay t.schema k t.rows is keys), have_others t.schema k t.rows keys)

inner : (x y : Schema) → Some x ≡ Some y → x ≡ y
inner x y h = cc

-- of a table that is there
put_there : Laws → (name row : List ℕ) (schema : Schema) (o : Option Table) → option_map (λ (t : Table). t.schema) o ≡ Some schema → SaysKeys schema (put name row) → Makes schema (said_by schema (put name row)) (rows_in o) (rows_in (option_map (put_row row) o))
put_there laws name row schema None known says = absurd cc
put_there laws name row schema (Some t) known says =
    subst (λ (x : Schema). SaysKeys x (put name row) → Makes x (said_by x (put name row)) t.rows (rows_in (Some (put_row row t)))) (inner t.schema schema known)
    (λ says. put_makes laws name row t (is_row t.schema row) refl says) says

remove_there : Laws → (name k : List ℕ) (schema : Schema) (o : Option Table) → option_map (λ (t : Table). t.schema) o ≡ Some schema → AreBytes k → Makes schema (said_by schema (remove name k)) (rows_in o) (rows_in (option_map (remove_row k) o))
remove_there laws name k schema None known bytes = absurd cc
remove_there laws name k schema (Some t) known bytes =
    subst (λ (x : Schema). Makes x (said_by x (remove name k)) t.rows (others k t.rows)) (inner t.schema schema known) (remove_makes laws k t (is_key t.schema k) refl bytes)

there : (o : Option Table) (schema : Schema) (fresh : Table) → option_map (λ (t : Table). t.schema) o ≡ Some schema → Some (unwrap_or o fresh) ≡ o
there None schema fresh known = absurd cc
there (Some t) schema fresh known = refl

-- of the table of the changes' name
makes_one : Laws → (c : Change) (n : List ℕ) (s : Store) (schema : Schema) → name_of c ≡ n → schema_of s n ≡ Some schema → SaysKeys schema c → Makes schema (said_by schema c) (rows_in (table_of s n)) (rows_in (table_of (apply c s) n))
makes_one laws (create name own) n s schema named known says =
    let empty : Table = record { schema = own; rows = [] } in
    let same : table_of (apply (create name own) s) n ≡ table_of s n =
    laws.tabled.created name own s n
    ∙ ap (λ (m : List ℕ). cond (bytes_eq n m) (Some (unwrap_or (table_of s m) empty)) (table_of s n)) named
    ∙ ap (λ b. cond b (Some (unwrap_or (table_of s n) empty)) (table_of s n)) (itself n)
    ∙ there (table_of s n) schema empty known in
    subst (λ (o : Option Table). Makes schema [] (rows_in (table_of s n)) (rows_in o)) (sym same) (λ keys up. (refl, keys))
makes_one laws (put name row) n s schema named known says =
    let after : table_of (apply (put name row) s) n ≡ option_map (put_row row) (table_of s n) =
    laws.tabled.put name row s n
    ∙ ap (λ (m : List ℕ). cond (bytes_eq n m) (option_map (put_row row) (table_of s n)) (table_of s n)) named
    ∙ ap (λ b. cond b (option_map (put_row row) (table_of s n)) (table_of s n)) (itself n) in
    subst (λ (o : Option Table). Makes schema (said_by schema (put name row)) (rows_in (table_of s n)) (rows_in o)) (sym after) (put_there laws name row schema (table_of s n) known says)
makes_one laws (remove name k) n s schema named known says =
    let after : table_of (apply (remove name k) s) n ≡ option_map (remove_row k) (table_of s n) =
    laws.tabled.removed name k s n
    ∙ ap (λ (m : List ℕ). cond (bytes_eq n m) (option_map (remove_row k) (table_of s n)) (table_of s n)) named
    ∙ ap (λ b. cond b (option_map (remove_row k) (table_of s n)) (table_of s n)) (itself n) in
    subst (λ (o : Option Table). Makes schema (said_by schema (remove name k)) (rows_in (table_of s n)) (rows_in o)) (sym after) (remove_there laws name k schema (table_of s n) known says)

-- ---- many changes of a table

pub rows_step : Laws → (cs : List Change) (n : List ℕ) (s : Store) (schema : Schema) → AreOf n cs → schema_of s n ≡ Some schema → AllByRecursion (SaysKeys schema) cs → Makes schema (flat_map (said_by schema) cs) (rows_in (table_of s n)) (rows_in (table_of (apply_all cs s) n))
rows_step laws [] n s schema named known says keys up = (refl, keys)
rows_step laws (c ∷ cs) n s schema named known says keys up =
    let rows : Rows = formed schema (rows_in (table_of s n)) in
    let one = makes_one laws c n s schema named.0 known says.0 keys up in
    let next : InOrder (formed schema (rows_in (table_of (apply c s) n))) = subst (λ (x : Rows). InOrder x) (sym one.0) (changed_order laws rows (said_by schema c) up) in
    let more = rows_step laws cs n (apply c s) schema named.1 (schema_stays laws.local same_bytes c s n schema known) says.1 one.1 next in
    (more.0 ∙ ap (λ (x : Rows). all_changed x (flat_map (said_by schema) cs)) one.0 ∙ sym (changed_then rows (said_by schema c) (flat_map (said_by schema) cs)), more.1)
