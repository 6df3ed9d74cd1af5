-- What a table shows after its rows have changed.
use Rattle.std.proofs.Common.{◌≡◌, ℕ, List, [], ◌∷◌, Bool, true, false, cond, refl, sym, ap, subst, ◌∙◌, Option, Some, None, option_map, if◌then◌else◌}
use Rattle.std.specs.Global.{Vec}
use Rattle.std.specs.Map.{remove_entry}
use Rattle.std.specs.BTreeMap.{insert_entry}
use Rattle.key_map.specs.Merging.{InOrder, Rows}
use Rattle.key_map.specs.RowForm.{RowsHaveTheirForms, row_form}
use Rattle.row_values.specs.Schema.{Schema, is_schema}
use Rattle.row_values.specs.Row.{is_row}
use Rattle.row_values.specs.Key.{is_key, key_cmp, row_key}
use Rattle.key_map.specs.Slots.{by_bytes, by_key}
use Rattle.table_map.specs.Keyed.{keyed_rows}
use Rattle.table_map.specs.Table.{without_keys}
use Rattle.tables.specs.Tables.{Table, put_row, remove_row}
use Rattle.paged_tables.specs.Stored.{FormsKey, FormsRow, HaveForms, IsFormOf, IsRowAt, IsStored, Stored, at_keys, form_in, rows_in, shown}
use Rattle.paged_tables.proofs.FormLaws.{no_key_taken, put_at, taken_at}

-- a form that was found is one
pub form_there : (s t : Schema) (key : List ℕ) (o : Option (Vec ℕ)) (f : Vec ℕ) → s ≡ t → o ≡ Some f → FormsKey s key (option_map (λ v. v.items) o) → IsFormOf t key f.items
form_there s t key o f same is h =
    subst (λ (u : Schema). IsFormOf u key f.items) same (subst (λ (p : Option (Vec ℕ)). FormsKey s key (option_map (λ v. v.items) p)) is h)

pub form_nowhere : (s t : Schema) (key : List ℕ) (o : Option (Vec ℕ)) → s ≡ t → o ≡ None → FormsKey s key (option_map (λ v. v.items) o) → is_key t key ≡ false
form_nowhere s t key o same is h =
    subst (λ (u : Schema). is_key u key ≡ false) same (subst (λ (p : Option (Vec ℕ)). FormsKey s key (option_map (λ v. v.items) p)) is h)

-- a table with these rows, where it is created
abbrev pub show : Schema → Bool → Rows → Option Table
show schema b rows = cond b (Some (record { schema = schema; rows = at_keys schema rows })) None

pub removed_shown : (schema : Schema) (b : Bool) (old new : Rows) (key form : List ℕ) → IsFormOf schema key form → HaveForms schema old → InOrder old → new ≡ remove_entry (by_key form) old → show schema b new ≡ option_map (remove_row key) (show schema b old)
removed_shown schema true old new key form one all up is =
    ap (λ rows. Some (record { schema = schema; rows = rows })) (ap (at_keys schema) is ∙ taken_at schema key form old one all up)
removed_shown schema false old new key form one all up is = refl

put_step : (row : List ℕ) (t : Table) (rows : Rows) (b : Bool) → b ≡ true → rows ≡ insert_entry (key_cmp t.schema) t.rows (row_key t.schema row) row
    → record { schema = t.schema; rows = rows } ≡ (if b then record { schema = t.schema; rows = insert_entry (key_cmp t.schema) t.rows (row_key t.schema row) row } else t)
put_step row t rows true is made = ap (λ l. record { schema = t.schema; rows = l }) made
put_step row t rows false is made = absurd cc

-- a row that is put at its form
put_shown : (schema : Schema) (old new : Rows) (row form : List ℕ) → IsRowAt schema row form → HaveForms schema old → new ≡ insert_entry by_bytes old form row → show schema true new ≡ option_map (put_row row) (show schema true old)
put_shown schema old new row form one all is =
    ap Some (put_step row (record { schema = schema; rows = at_keys schema old }) (at_keys schema new) (is_row schema row) one.good
    (ap (at_keys schema) is ∙ put_at schema form row old one.key all))

pub put_created : (schema : Schema) (b : Bool) (old new : Rows) (row form : List ℕ) → b ≡ true → IsRowAt schema row form → HaveForms schema old → new ≡ insert_entry by_bytes old form row → show schema b new ≡ option_map (put_row row) (show schema b old)
put_created schema true old new row form here one all is = put_shown schema old new row form one all is
put_created schema false old new row form here one all is = absurd cc

-- what is asked of a table that is created
pub row_there : (s t : Stored) (row form : List ℕ) → s ≡ t → s.is_created ≡ true → (t.is_created ≡ true → IsRowAt t.schema row form) → IsRowAt s.schema row form
row_there s t row form same here one = subst (λ (u : Stored). IsRowAt u.schema row form) (sym same) (one (sym (ap (λ (u : Stored). u.is_created) same) ∙ here))

same_row : (row : List ℕ) (t : Table) (b : Bool) → b ≡ false → t ≡ (if b then record { schema = t.schema; rows = insert_entry (key_cmp t.schema) t.rows (row_key t.schema row) row } else t)
same_row row t true h = absurd cc
same_row row t false h = refl

not_put_by : (schema : Schema) (rows : Rows) (row : List ℕ) (b : Bool) → (b ≡ true → is_row schema row ≡ false) → show schema b rows ≡ option_map (put_row row) (show schema b rows)
not_put_by schema rows row true bad = ap Some (same_row row (record { schema = schema; rows = at_keys schema rows }) (is_row schema row) (bad refl))
not_put_by schema rows row false bad = refl

-- what is no row is not put
pub not_put : (t : Stored) (row : List ℕ) (o : Option (Vec ℕ)) → o ≡ None → (t.is_created ≡ true → FormsRow t.schema row (form_in o)) → shown t ≡ option_map (put_row row) (shown t)
not_put t row o is bad = not_put_by t.schema (rows_in t) row t.is_created (λ here. subst (λ (p : Option (Vec ℕ)). FormsRow t.schema row (form_in p)) is (bad here))

not_removed_by : (schema : Schema) (rows : Rows) (key : List ℕ) (b : Bool) → is_key schema key ≡ false → HaveForms schema rows → show schema b rows ≡ option_map (remove_row key) (show schema b rows)
not_removed_by schema rows key true bad all = ap (λ l. Some (record { schema = schema; rows = l })) (no_key_taken schema key rows bad all)
not_removed_by schema rows key false bad all = refl

-- what is no key is not taken out
pub not_removed : (s t : Stored) (key : List ℕ) (o : Option (Vec ℕ)) → s ≡ t → IsStored s → o ≡ None → FormsKey t.schema key (form_in o) → shown t ≡ option_map (remove_row key) (shown t)
not_removed s t key o same is none bad =
    let none_is : is_key t.schema key ≡ false = subst (λ (p : Option (Vec ℕ)). FormsKey t.schema key (form_in p)) none bad in
    subst (λ (u : Stored). shown u ≡ option_map (remove_row key) (shown u)) same
    (not_removed_by s.schema (rows_in s) key s.is_created (ap (λ (u : Stored). is_key u.schema key) same ∙ none_is) is.forms)

-- ---- rows that are laid anew

-- rows that stand at the forms of their keys are known without them
pub forms_back : RowsHaveTheirForms → (schema : Schema) (rows : Rows) → is_schema schema ≡ true → HaveForms schema rows → keyed_rows (row_form schema) (without_keys rows) ≡ rows
forms_back law schema [] good have = refl
forms_back law schema (e ∷ rows) good have =
    ap (λ (k : List ℕ). (k, e.1) ∷ keyed_rows (row_form schema) (without_keys rows)) (law schema e.1 good have.0.good ∙ sym have.0.key.sorted) ∙ ap (λ (l : Rows). e ∷ l) (forms_back law schema rows good have.1)
