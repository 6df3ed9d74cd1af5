-- What a step answers belongs to its call.
use Rattle.std.proofs.Common.{◌≡◌, ◌⊎◌, inl, inr, ⊎_elim, ℕ, Bool, true, false, List, [], ◌∷◌, Option, Some, None, refl, ◌∙◌, ap}
use Rattle.std.specs.Prelude.{if◌then◌else◌, Ok, Err, ◌&&◌, ◌==◌, map, filter, nat_le, nat_lt, length}
use Rattle.std.specs.List.{flat_map}
use Rattle.sql_text.specs.declared.tree.Command.{Command}
use Rattle.sql_text.specs.declared.tree.Command.TheVariants as command
use Rattle.sql_text.specs.declared.tree.Columns.{Columns}
use Rattle.sql_text.specs.declared.tree.Sum.{Sum}
use Rattle.sql_text.specs.declared.tree.Predicate.{Predicate}
use Rattle.row_values.specs.Value.{Value}
use Rattle.row_values.specs.Column.{Column}
use Rattle.row_values.specs.Schema.{Schema, is_name, is_schema}
use Rattle.row_values.specs.Key.{row_key}
use Rattle.tables.specs.Change.{Change, change_bytes, create, put, remove}
use Rattle.tables.specs.RowList.{RowList}
use Rattle.tables.specs.Tables.{Store, schema_of}
use Rattle.unit_locks.specs.Claim.{Claim}
use Rattle.unit_locks.specs.Claims.{all_added}
use Rattle.xa_calls.specs.declared.request.Request.{Request}
use Rattle.xa_calls.specs.declared.request.Request.TheVariants as request
use Rattle.core_calls.specs.declared.call.Side.{Side}
use Rattle.core_calls.specs.declared.call.Side.TheVariants as side
use Rattle.core_calls.specs.declared.described.ParameterType.{ParameterType}
use Rattle.core_calls.specs.declared.refusal.Refusal.{Refusal}
use Rattle.core_calls.specs.declared.refusal.Refusal.TheVariants as refusal
use Rattle.core_calls.specs.declared.sql_fault.SqlFault.{SqlFault}
use Rattle.core_calls.specs.declared.sql_fault.SqlFault.TheVariants as fault
use Rattle.core_calls.specs.Call as call
use Rattle.core_calls.specs.Call.{Call}
use Rattle.core_calls.specs.Answer as told
use Rattle.core_calls.specs.Answer.{Answer}
use Rattle.sql_semantics.specs.Checked.{Checked, and_then, if_none, unless}
use Rattle.sql_semantics.specs.Classes.{filter_fault, selected_places}
use Rattle.sql_semantics.specs.Create.{defined_schema}
use Rattle.sql_semantics.specs.Describe.{described, described_columns, parameter_types, side_of}
use Rattle.sql_semantics.specs.Frame.{covered_answer}
use Rattle.sql_semantics.specs.Insert.{first_misfit, given_row, new_row}
use Rattle.sql_semantics.specs.Meaning.{Answer as Meant, Changes, Rows, absent_answer, answer, answer_by, answered as meaning_in, concerns, create_answer, found_answer, put_answer, select_answer, within_room}
use Rattle.sql_semantics.specs.Scope.{table_name}
use Rattle.sql_semantics.specs.Update.{targets, updated_rows}
use Rattle.sql_semantics.specs.Values.{literal_value, name_of}
use Rattle.core_model.specs.Units.{Work, clashes, is_full, left_of, others, unit_of, view}
use Rattle.core_model.specs.Asked as asking
use Rattle.core_model.specs.Asked.{Outcome, Question, answer_in, answer_to, changes_by, claims_of, describing, fit_or, is_select, kept, meant, number_fault, outcome, querying, running, unfit}
use Rattle.core_model.specs.Step.{owner_of, unless_joined}
use Rattle.core_model.proofs.Owners.{both}
use Rattle.serializability.specs.Belonging.{AnswersBelong, AreRows, ExcusesBelongToNone, IsCount, IsRefused, IsSide, IsXaAnswer, is_excuse}

-- ---- what holds of an answer through the checks, where it holds of each fault

module _ (P : Answer → Type 0) (faults : (f : SqlFault) → P (told.refused (refusal.Meaning f))) where
  abbrev IsSo : Checked Meant → Type 0
  IsSo r = P (meant (meaning_in r))

  unless_so : (b : Bool) (f : SqlFault) (r : Checked Meant) → IsSo r → IsSo (unless b f r)
  unless_so true f r h = h
  unless_so false f r h = faults f

  past_so : (o : Option SqlFault) (r : Checked Meant) → IsSo r → IsSo (if_none o r)
  past_so None r h = h
  past_so (Some f) r h = faults f

  then_so : {A : Type 0} (r : Checked A) (f : A → Checked Meant) → ((a : A) → IsSo (f a)) → IsSo (and_then r f)
  then_so (Ok a) f h = h a
  then_so (Err e) f h = faults e

  module _ (counts : (n : ℕ) → P (told.count n)) where
    room_so : (left : ℕ) (xs : List Change) (n : ℕ) → IsSo (within_room left xs n)
    room_so left xs n = unless_so (nat_le (length (flat_map change_bytes xs)) left) fault.LimitReached (Ok (Changes xs n)) (counts n)

    create_so : (left : ℕ) (table : List ℕ) (schema : Schema) (tables : ℕ) → IsSo (create_answer left table schema tables)
    create_so left table schema tables =
        let made = within_room left (create table schema ∷ []) 0 in
        unless_so (is_name table && is_schema schema) fault.Syntax (unless (nat_lt tables 1000) fault.LimitReached made)
        (unless_so (nat_lt tables 1000) fault.LimitReached made (room_so left (create table schema ∷ []) 0))

    put_so : (left : ℕ) (table : List ℕ) (schema : Schema) (rows : List (List ℕ)) (values : List Value) → IsSo (put_answer left table schema rows values)
    put_so left table schema rows values =
        let go : List ℕ → Checked Meant = λ row. unless (length rows == 0) fault.KeyExists (within_room left (put table row ∷ []) 1) in
        past_so (first_misfit schema.columns values) (and_then (new_row schema values) go)
        (then_so (new_row schema values) go (λ row. unless_so (length rows == 0) fault.KeyExists (within_room left (put table row ∷ []) 1) (room_so left (put table row ∷ []) 1)))

    found_so : (params : List Value) (left : ℕ) (c : Command) (schema : Schema) (rows : List (List ℕ)) → is_select c ≡ false → IsSo (found_answer params left c schema rows)
    found_so params left (command.Create table definitions key) schema rows n = faults fault.TableExists
    found_so params left (command.Insert table named values) schema rows n =
        then_so (given_row schema named (map (literal_value params) values)) (put_answer left (name_of table) schema rows) (put_so left (name_of table) schema rows)
    found_so params left (command.Update table assignments filter) schema rows n =
        let made : List Change → Checked Meant = λ ds. within_room left ds (length rows) in
        let go : List (ℕ × Sum) → Checked Meant = λ ts. if_none (filter_fault params schema.columns filter) (and_then (updated_rows params (name_of table) schema ts rows) made) in
        then_so (targets params schema.columns schema.key [] assignments) go
        (λ ts. past_so (filter_fault params schema.columns filter) (and_then (updated_rows params (name_of table) schema ts rows) made)
        (then_so (updated_rows params (name_of table) schema ts rows) made (λ ds. room_so left ds (length rows))))
    found_so params left (command.Delete table filter) schema rows n =
        let gone = map (λ row. remove (name_of table) (row_key schema row)) rows in
        past_so (filter_fault params schema.columns filter) (within_room left gone (length rows)) (room_so left gone (length rows))
    found_so params left (command.Select named table filter) schema rows n = both true refl n

    absent_so : (left : ℕ) (c : Command) (tables : ℕ) → IsSo (absent_answer left c tables)
    absent_so left (command.Create table definitions key) tables = create_so left (name_of table) (defined_schema definitions key) tables
    absent_so left (command.Insert table named values) tables = faults fault.TableUnknown
    absent_so left (command.Update table assignments filter) tables = faults fault.TableUnknown
    absent_so left (command.Delete table filter) tables = faults fault.TableUnknown
    absent_so left (command.Select named table filter) tables = faults fault.TableUnknown

    run_by : (params : List Value) (left : ℕ) (c : Command) (o : Option Schema) (rows : List (List ℕ)) (tables : ℕ) → is_select c ≡ false → IsSo (answer_by params left c o rows tables)
    run_by params left c None rows tables n = absent_so left c tables
    run_by params left c (Some schema) rows tables n = found_so params left c schema (filter (concerns params c schema) rows) n

    run_so : (params : List Value) (left : ℕ) (c : Command) (v : Store) → is_select c ≡ false → P (meant (covered_answer params left c v))
    unfolding answer
    run_so params left c v n = run_by params left c (schema_of v (table_name c)) _ _ n

  module _ (shows : (l : RowList) → P (told.rows l)) where
    shown_so : (params : List Value) (schema : Schema) (named : Columns) (filter : Option Predicate) (rows : List (List ℕ)) → IsSo (select_answer params schema named filter rows)
    shown_so params schema named filter rows =
        let of : List ℕ → Meant = λ places. Rows (record { schema = schema; selected = places; rows = rows }) in
        then_so (selected_places schema.columns named) (λ places. if_none (filter_fault params schema.columns filter) (Ok (of places)))
        (λ places. past_so (filter_fault params schema.columns filter) (Ok (of places)) (shows (record { schema = schema; selected = places; rows = rows })))

    select_so : (params : List Value) (left : ℕ) (c : Command) (o : Option Schema) (rows : List (List ℕ)) (tables : ℕ) → is_select c ≡ true → IsSo (answer_by params left c o rows tables)
    select_so params left (command.Create table definitions key) o rows tables is = both false is refl
    select_so params left (command.Insert table named values) o rows tables is = both false is refl
    select_so params left (command.Update table assignments filter) o rows tables is = both false is refl
    select_so params left (command.Delete table filter) o rows tables is = both false is refl
    select_so params left (command.Select named table filter) None rows tables is = faults fault.TableUnknown
    select_so params left (command.Select named table filter) (Some schema) rows tables is = shown_so params schema named filter _

    query_so : (params : List Value) (left : ℕ) (c : Command) (v : Store) → is_select c ≡ true → P (meant (covered_answer params left c v))
    unfolding answer
    query_so params left c v is = select_so params left c (schema_of v (table_name c)) _ _ is

-- ---- descriptions

abbrev IsDescription : Side → Answer → Type 0
IsDescription d a = IsSide d a ⊎ IsRefused a

fault_so : (d : Side) (r : Refusal) → IsDescription d (told.refused r)
fault_so d r = inr (r, refl)

types_so : (b : Bool) (types : List ParameterType) → IsDescription side.Input (asking.told (unless b fault.LimitReached (Ok (told.input types))))
types_so true types = inl (types, refl)
types_so false types = fault_so side.Input (refusal.Meaning fault.LimitReached)

side_so : (d : Side) (schema : Schema) (c : Command) (cs : List Column) → IsDescription d (asking.told (side_of d schema c cs))
side_so side.Output schema c cs = inl (cs, refl)
side_so side.Input schema c cs = types_so (nat_le (length (parameter_types schema.columns c)) 128) (parameter_types schema.columns c)

columns_so : (d : Side) (schema : Schema) (c : Command) (r : Checked (List Column)) → IsDescription d (asking.told (and_then r (side_of d schema c)))
columns_so d schema c (Ok cs) = side_so d schema c cs
columns_so d schema c (Err f) = fault_so d (refusal.Meaning f)

described_so : (d : Side) (c : Command) (o : Option Schema) → IsDescription d (asking.told (described d c o))
described_so d c None = fault_so d (refusal.Meaning fault.TableUnknown)
described_so d c (Some schema) = columns_so d schema c (described_columns schema c)

-- ---- a question: the answer that is done, or a refusal

module _ (P : Answer → Type 0) (refusals : (r : Refusal) → P (told.refused r)) (ds : List Claim) (u : Work) (cs : List Claim) (a : Answer) (xs : List Change) where
  full_or : Bool → Outcome
  full_or b = if b then asking.TooMany else asking.Done a (kept u cs xs)

  clashes_or : Bool → Bool → Outcome
  clashes_or b c = if b then asking.Clashes else full_or c

  by_tests : (b c : Bool) → P a → P (answer_in (clashes_or b c))
  unfolding full_or clashes_or
  by_tests true c h = refusals refusal.Clashes
  by_tests false true h = refusals refusal.TooManyClaims
  by_tests false false h = h

  asked_so : (e : Option SqlFault) → (e ≡ None → P a) → P (answer_in (fit_or e (outcome ds u cs a xs)))
  unfolding full_or clashes_or
  asked_so (Some f) h = refusals (refusal.Unfit f)
  asked_so None h = by_tests (clashes cs ds) (is_full (all_added u.claims cs)) (h refl)

-- what is fit is of its kind
fit_run : (b : Bool) (o : Option SqlFault) → (if b then Some fault.NotPrepared else o) ≡ None → b ≡ false
fit_run true o h = absurd cc
fit_run false o h = refl

fit_query : (b : Bool) (o : Option SqlFault) → (if b then o else Some fault.NotPrepared) ≡ None → b ≡ true
fit_query true o h = refl
fit_query false o h = absurd cc

end_so : (j : Option (List ℕ)) → (let a = unless_joined j told.done told.in_global in (a ≡ told.done) ⊎ (a ≡ told.in_global))
end_so None = inl refl
end_so (Some xid) = inr refl

abbrev IsRunAnswer : Answer → Type 0
IsRunAnswer a = IsCount a ⊎ IsRefused a

abbrev IsQueryAnswer : Answer → Type 0
IsQueryAnswer a = AreRows a ⊎ IsRefused a

pub answers_belong : AnswersBelong
answers_belong s c (call.run t params) =
    let o = owner_of s.branches c in let u = unit_of o s.base.units in let v = view s.base.store u in let q = running t params in
    asked_so IsRunAnswer (λ r. inr (r, refl)) (others o s.base.units) u (claims_of q v) (answer_to q (left_of u) v) (changes_by q (left_of u) v) (unfit q)
    (λ fit. run_so IsRunAnswer (λ f. inr (refusal.Meaning f, refl)) (λ n. inl (n, refl)) params (left_of u) t.command v (fit_run (is_select t.command) (number_fault t params) fit))
answers_belong s c (call.query t params) =
    let o = owner_of s.branches c in let u = unit_of o s.base.units in let v = view s.base.store u in let q = querying t params in
    asked_so IsQueryAnswer (λ r. inr (r, refl)) (others o s.base.units) u (claims_of q v) (answer_to q (left_of u) v) (changes_by q (left_of u) v) (unfit q)
    (λ fit. query_so IsQueryAnswer (λ f. inr (refusal.Meaning f, refl)) (λ l. inl (l, refl)) params (left_of u) t.command v (fit_query (is_select t.command) (number_fault t params) fit))
answers_belong s c (call.describe t d) =
    let o = owner_of s.branches c in let u = unit_of o s.base.units in let v = view s.base.store u in let q = describing t d in
    asked_so (IsDescription d) (fault_so d) (others o s.base.units) u (claims_of q v) (answer_to q (left_of u) v) (changes_by q (left_of u) v) (unfit q)
    (λ fit. described_so d t.command (schema_of v (table_name t.command)))
answers_belong s c call.commit = end_so _
answers_belong s c call.roll_back = end_so _
answers_belong s c (call.xa (Some (request.Branch verb xid))) = (_, refl)
answers_belong s c (call.xa (Some request.Recover)) = (_, refl)
answers_belong s c (call.xa None) = (_, refl)
answers_belong s c call.lost = refl

-- ---- excuses

-- an excuse is no answer of these
not_it : (a b : Answer) → is_excuse a ≡ true → is_excuse b ≡ false → a ≡ b → ⊥
not_it a b excuse is e = both (is_excuse a) excuse (ap is_excuse e ∙ is)

no_refusal : (a : Answer) → is_excuse a ≡ true → IsRefused a → ⊥
no_refusal a excuse r = not_it a (told.refused r.0) excuse refl r.1

no_side : (d : Side) (a : Answer) → is_excuse a ≡ true → IsSide d a → ⊥
no_side side.Output a excuse r = not_it a (told.output r.0) excuse refl r.1
no_side side.Input a excuse r = not_it a (told.input r.0) excuse refl r.1

no_xa_answer : (q : Option Request) (a : Answer) → is_excuse a ≡ true → IsXaAnswer q a → ⊥
no_xa_answer (Some request.Recover) a excuse r = not_it a (told.in_doubt r.0) excuse refl r.1
no_xa_answer (Some (request.Branch verb xid)) a excuse r = not_it a (told.xa r.0) excuse refl r.1
no_xa_answer None a excuse r = not_it a (told.xa r.0) excuse refl r.1

no_end : (a : Answer) → is_excuse a ≡ true → (a ≡ told.done) ⊎ (a ≡ told.in_global) → ⊥
no_end a excuse (inl e) = not_it a told.done excuse refl e
no_end a excuse (inr e) = not_it a told.in_global excuse refl e

pub excuses_belong_to_none : ExcusesBelongToNone
excuses_belong_to_none (call.run t params) a excuse it = ⊎_elim (λ r. not_it a (told.count r.0) excuse refl r.1) (no_refusal a excuse) it
excuses_belong_to_none (call.query t params) a excuse it = ⊎_elim (λ r. not_it a (told.rows r.0) excuse refl r.1) (no_refusal a excuse) it
excuses_belong_to_none (call.describe t d) a excuse it = ⊎_elim (no_side d a excuse) (no_refusal a excuse) it
excuses_belong_to_none call.commit a excuse it = no_end a excuse it
excuses_belong_to_none call.roll_back a excuse it = no_end a excuse it
excuses_belong_to_none (call.xa r) a excuse it = no_xa_answer r a excuse it
excuses_belong_to_none call.lost a excuse it = not_it a told.done excuse refl it
