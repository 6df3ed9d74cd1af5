-- What a statement creates has a name and a schema.
use Rattle.std.proofs.Common.{◌≡◌, inl, inr, ℕ, List, [], ◌∷◌, Bool, true, false, ◌&&◌, ◌==◌, refl, ap, ◌∙◌, Option, Some, None, length, Ok, Err}
use Rattle.std.specs.Prelude.{map, filter, nat_le, nat_lt}
use Rattle.std.specs.List.{flat_map}
use Rattle.sql_text.specs.declared.tree.Columns.{Columns}
use Rattle.sql_text.specs.declared.tree.Assignment.{Assignment}
use Rattle.sql_text.specs.declared.tree.Sum.{Sum}
use Rattle.sql_text.specs.declared.tree.Predicate.{Predicate}
use Rattle.sql_text.specs.declared.tree.Command.{Command}
use Rattle.sql_text.specs.declared.tree.Command.TheVariants as command
use Rattle.row_values.specs.Value.{Value}
use Rattle.row_values.specs.Schema.{Schema, is_name, is_schema}
use Rattle.row_values.specs.Key.{row_key}
use Rattle.tables.specs.Change.{Change, change_bytes, create, put, remove}
use Rattle.tables.specs.Tables.{Store, rows_of, schema_of}
use Rattle.tables.specs.View.{is_sound}
use Rattle.core_calls.specs.declared.sql_fault.SqlFault.{SqlFault}
use Rattle.core_calls.specs.declared.sql_fault.SqlFault.TheVariants as fault
use Rattle.sql_semantics.specs.Values.{literal_value, name_of}
use Rattle.sql_semantics.specs.Checked.{Checked, and_then, if_none, unless}
use Rattle.sql_semantics.specs.Classes.{filter_fault, selected_places}
use Rattle.sql_semantics.specs.Insert.{first_misfit, given_row, new_row}
use Rattle.sql_semantics.specs.Update.{targets, updated_row, updated_rows}
use Rattle.sql_semantics.specs.Create.{defined_schema}
use Rattle.sql_semantics.specs.Scope.{table_name}
use Rattle.sql_semantics.specs.Meaning.{Answer, Changes, answer, answer_by, answered, concerns, absent_answer, create_answer, delete_answer, found_answer, meaning, put_answer, select_answer, update_answer, within_room}
use Rattle.sql_semantics.specs.Frame.{In, changes_of}

abbrev Sounds : List Change → Type 0
Sounds xs = (x : Change) → In x xs → is_sound x ≡ true

-- all that is changed where the checks pass
abbrev AllSound : Checked Answer → Type 0
AllSound r = Sounds (changes_of (answered r))

sound_then : {A : Type 0} (r : Checked A) (f : A → Checked Answer) → ((a : A) → AllSound (f a)) → AllSound (and_then r f)
sound_then (Ok a) f all = all a
sound_then (Err e) f all = λ x i. absurd i

sound_if : (b : Bool) (e : SqlFault) (go : Checked Answer) → (b ≡ true → AllSound go) → AllSound (unless b e go)
sound_if true e go all = all refl
sound_if false e go all = λ x i. absurd i

sound_none : (o : Option SqlFault) (go : Checked Answer) → AllSound go → AllSound (if_none o go)
sound_none None go all = all
sound_none (Some e) go all = λ x i. absurd i

sound_room : (left : ℕ) (ds : List Change) (n : ℕ) → Sounds ds → AllSound (within_room left ds n)
sound_room left ds n all = sound_if (nat_le (length (flat_map change_bytes ds)) left) fault.LimitReached (Ok (Changes ds n)) (λ h. all)

one : (y : Change) → is_sound y ≡ true → Sounds (y ∷ [])
one y good x (inl same) = ap is_sound same ∙ good
one y good x (inr i) = absurd i

create_sound : (left : ℕ) (table : List ℕ) (schema : Schema) (tables : ℕ) → AllSound (create_answer left table schema tables)
create_sound left table schema tables =
    sound_if (is_name table && is_schema schema) fault.Syntax _
    (λ good. sound_if (nat_lt tables 1000) fault.LimitReached _ (λ h. sound_room left (create table schema ∷ []) 0 (one (create table schema) good)))

put_sound : (left : ℕ) (table : List ℕ) (schema : Schema) (others : List (List ℕ)) (values : List Value) → AllSound (put_answer left table schema others values)
put_sound left table schema others values =
    sound_none (first_misfit schema.columns values) _
    (sound_then (new_row schema values) _ (λ row. sound_if (length others == 0) fault.KeyExists _ (λ h. sound_room left (put table row ∷ []) 1 (one (put table row) refl))))

removes_sound : (table : List ℕ) (schema : Schema) (rows : List (List ℕ)) → Sounds (map (λ row. remove table (row_key schema row)) rows)
removes_sound table schema [] x i = absurd i
removes_sound table schema (row ∷ rows) x (inl same) = ap is_sound same
removes_sound table schema (row ∷ rows) x (inr i) = removes_sound table schema rows x i

delete_sound : (left : ℕ) (params : List Value) (table : List ℕ) (schema : Schema) (filter : Option Predicate) (rows : List (List ℕ)) → AllSound (delete_answer left params table schema filter rows)
delete_sound left params table schema filter rows =
    sound_none (filter_fault params schema.columns filter) _ (sound_room left (map (λ row. remove table (row_key schema row)) rows) (length rows) (removes_sound table schema rows))

select_sound : (params : List Value) (schema : Schema) (named : Columns) (filter : Option Predicate) (rows : List (List ℕ)) → AllSound (select_answer params schema named filter rows)
select_sound params schema named filter rows =
    sound_then (selected_places schema.columns named) _ (λ places. sound_none (filter_fault params schema.columns filter) _ (λ x i. absurd i))

-- the changes that are given, if any
abbrev AllPut : Checked (List Change) → Type 0
AllPut (Ok ds) = Sounds ds
AllPut (Err e) = Unit {0}

put_next : (table row : List ℕ) (ds : List Change) → Sounds ds → Sounds (put table row ∷ ds)
put_next table row ds all x (inl same) = ap is_sound same
put_next table row ds all x (inr i) = all x i

row_step : (table : List ℕ) (r : Checked (List ℕ)) (q : Checked (List Change)) → AllPut q → AllPut (and_then r (λ new. and_then q (λ ds. Ok (put table new ∷ ds))))
row_step table (Ok new) (Ok ds) all = put_next table new ds all
row_step table (Ok new) (Err e) all = tt
row_step table (Err e) q all = tt

rows_put : (params : List Value) (table : List ℕ) (schema : Schema) (ts : List (ℕ × Sum)) (rows : List (List ℕ)) → AllPut (updated_rows params table schema ts rows)
rows_put params table schema ts [] = λ x i. absurd i
rows_put params table schema ts (row ∷ rows) = row_step table (updated_row params schema ts row) (updated_rows params table schema ts rows) (rows_put params table schema ts rows)

puts_sound : (left n : ℕ) (r : Checked (List Change)) → AllPut r → AllSound (and_then r (λ ds. within_room left ds n))
puts_sound left n (Ok ds) all = sound_room left ds n all
puts_sound left n (Err e) all = λ x i. absurd i

update_sound : (left : ℕ) (params : List Value) (table : List ℕ) (schema : Schema) (assignments : List Assignment) (filter : Option Predicate) (rows : List (List ℕ)) → AllSound (update_answer left params table schema assignments filter rows)
update_sound left params table schema assignments filter rows =
    sound_then (targets params schema.columns schema.key [] assignments) _
    (λ ts. sound_none (filter_fault params schema.columns filter) _ (puts_sound left (length rows) (updated_rows params table schema ts rows) (rows_put params table schema ts rows)))

found_sound : (params : List Value) (left : ℕ) (c : Command) (schema : Schema) (rows : List (List ℕ)) → AllSound (found_answer params left c schema rows)
found_sound params left (command.Create table definitions key) schema rows = λ x i. absurd i
found_sound params left (command.Insert table named values) schema rows =
    sound_then (given_row schema named (map (literal_value params) values)) _ (λ vs. put_sound left (name_of table) schema rows vs)
found_sound params left (command.Update table assignments filter) schema rows = update_sound left params (name_of table) schema assignments filter rows
found_sound params left (command.Delete table filter) schema rows = delete_sound left params (name_of table) schema filter rows
found_sound params left (command.Select named table filter) schema rows = select_sound params schema named filter rows

absent_sound : (left : ℕ) (c : Command) (tables : ℕ) → AllSound (absent_answer left c tables)
absent_sound left (command.Create table definitions key) tables = create_sound left (name_of table) (defined_schema definitions key) tables
absent_sound left (command.Insert table named values) tables = λ x i. absurd i
absent_sound left (command.Update table assignments filter) tables = λ x i. absurd i
absent_sound left (command.Delete table filter) tables = λ x i. absurd i
absent_sound left (command.Select named table filter) tables = λ x i. absurd i

by_sound : (params : List Value) (left : ℕ) (c : Command) (q : Option Schema) (rows : List (List ℕ)) (tables : ℕ) → AllSound (answer_by params left c q rows tables)
by_sound params left c None rows tables = absent_sound left c tables
by_sound params left c (Some schema) rows tables = found_sound params left c schema (filter (concerns params c schema) rows)

pub meaning_sound : (params : List Value) (left : ℕ) (c : Command) (s : Store) (x : Change) → In x (changes_of (meaning params left c s)) → is_sound x ≡ true
unfolding answer
meaning_sound params left c s = by_sound params left c (schema_of s (table_name c)) (rows_of s (table_name c)) (length s)
