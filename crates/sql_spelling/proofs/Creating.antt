-- A table is written as the statement that makes it.
use Rattle.std.proofs.Common.{◌≡◌, ℕ, ◌≤◌, ◌<◌, true, false, not, List, [], ◌∷◌, length, map, Option, Some, None, Ok, refl, sym, ap, ◌∙◌, subst, arith}
use Rattle.std.specs.Prelude.{nat_le, nat_lt, is_some}
use Rattle.std.specs.List.{list_all, list_any, slice_get, cons_option}
use Rattle.std.proofs.lemmas.Bool.Decides.{nat_tests}
use Rattle.sql_lex.specs.Tokens.{Lexeme}
use Rattle.sql_lex.specs.declared.terminal.Terminal.TheVariants as w
use Rattle.sql_lex.specs.declared.token.Token.TheVariants as t
use Rattle.sql_text.specs.Checks.{is_too_long, empty_at, first_empty, first_repeat, same_name, table_refusal, refusal_of}
use Rattle.sql_text.specs.Grammar.{Tree, ◌⨾◌, The, Is, IsList, IsKeyColumn}
use Rattle.sql_text.specs.Plain as plain
use Rattle.sql_text.specs.Reading.{as_verb, verb_at}
use Rattle.sql_text.specs.Rules.{longest, another, definition_at, definitions_at, key_column_at, key_at, create_at, command_at}
use Rattle.sql_text.proofs.Only.{again, the_again, may_again, name_again, placed_name_again, Lacks, lacks, is_length, list_shorter, items_only, list_only}
use Rattle.sql_text.proofs.OnlyRules.{is_apart, key_column_shorter, end_only}
use Rattle.row_values.specs.Column.{Column}
use Rattle.row_values.specs.Schema as schemas
use Rattle.row_values.specs.Schema.{Schema, key_columns, is_schema, is_name, picked}
use Rattle.row_values.proofs.Keys.{are_places, key_places, schema_columns, key_count, key_few, picked_all}
use Rattle.row_values.proofs.ValueLaws.{first_true, second_true}
use Rattle.sql_spelling.specs.Meant.{definition_of, key_column_of, created}
use Rattle.sql_spelling.proofs.Columns.{Reads, Defines}
use Rattle.sql_spelling.proofs.Lists.{AreFor, Standing}
use Rattle.sql_spelling.proofs.Refusing.{Each, Differ, names, at_name, as_many, mapped, none_passes, no_first_repeat, apart_none, columns_differ, key_differs, column_names_good, found_name}

-- ---- no check refuses it

no_empty : (ds : List _) (cs : List Column) → AreFor (Defines plain.definition (λ d. is_too_long d.column_type) (λ d. empty_at d.column_type)) ds cs → first_empty ds ≡ None
no_empty [] [] are = refl
no_empty (d ∷ ds) (c ∷ cs) ((same, short, some), are) = rw some (no_empty ds cs are)
no_empty [] (c ∷ cs) are = absurd are
no_empty (d ∷ ds) [] are = absurd are

few : (n m : ℕ) → nat_le n m ≡ true → nat_lt m n ≡ false
few n m e = grind (arith, nat_tests)

few_columns : (schema : Schema) → is_schema schema ≡ true → nat_lt 64 (length schema.columns) ≡ false
few_columns schema good = few (length schema.columns) 64 (first_true _ _ (first_true _ _ (first_true _ _ good)))

few_keys : (schema : Schema) → is_schema schema ≡ true → nat_lt 4 (length (key_columns schema)) ≡ false
few_keys schema good = let n = key_few schema good in let m = key_count schema good in few (length (key_columns schema)) 4 (at_most (length (key_columns schema)) 4 (omega arith))
  where
    at_most : (n m : ℕ) → n ≤ m → nat_le n m ≡ true
    at_most n m h = grind (arith, nat_tests)

differ : (schema : Schema) → is_schema schema ≡ true → Differ (names schema.columns)
differ schema good = columns_differ schema.columns (second_true _ _ (first_true _ _ good))

keys_differ : (schema : Schema) → is_schema schema ≡ true → Differ (names (key_columns schema))
keys_differ schema good = key_differs schema.columns schema.key (differ schema good) (second_true _ _ (second_true _ _ good)) (key_places schema good)

good_keys : (schema : Schema) → is_schema schema ≡ true → list_all schemas.is_column (key_columns schema) ≡ true
good_keys schema good = picked_all schemas.is_column schema.columns schema.key (schema_columns schema good)

not_twice : {D : Type 0} (name : D → List ℕ) (left : D → ℕ) (ds : List D) (cs : List Column) → map name ds ≡ names cs → list_all schemas.is_column cs ≡ true → Differ (names cs) → first_repeat name left [] ds ≡ None
not_twice name left ds cs same good d =
    let P : List (List ℕ) → Type 0 = λ ns. Each (λ n. is_name n ≡ true) ns in
    let all : Each (λ n. is_name n ≡ true) (map name ds) = subst P (sym same) (column_names_good cs good) in
    no_first_repeat name left [] ds all (subst Differ (sym same) d) (apart_none name left (map name ds))

-- each column of the key is one of the table
known : {D : Type 0} (name : D → List ℕ) (ds : List D) (cs : List Column) (place : ℕ) (c : Column) → map name ds ≡ names cs → slice_get cs place ≡ Some c → list_any (λ d. same_name (name d) c.name) ds ≡ true
known name ds cs place c same at = found_name name ds place c.name (ap (λ ns. slice_get ns place) same ∙ at_name cs place c at)

module _ {D K : Type 0} (name : D → List ℕ) (key : K → List ℕ) (ds : List D) (cs : List Column) (same : map name ds ≡ names cs) where
  none_unknown : List K → Type 0
  none_unknown ks = list_any (λ k. not (list_any (λ d. same_name (name d) (key k)) ds)) ks ≡ false

  one_known : (places : List ℕ) (p : ℕ) (o : Option Column) → slice_get cs p ≡ o → is_some o ≡ true → (us : List K) → map key us ≡ names (cons_option o (picked cs places)) → ((vs : List K) → map key vs ≡ names (picked cs places) → none_unknown vs) → none_unknown us
  unfolding none_unknown
  one_known places p None at some us are rest = absurd (cc)
  one_known places p (Some c) at some [] are rest = absurd (cc)
  one_known places p (Some c) at some (u ∷ us) are rest =
      let here : c.name ≡ key u = cc in
      let more : map key us ≡ names (picked cs places) = cc in
      let P : List ℕ → Type 0 = λ n. list_any (λ d. same_name (name d) n) ds ≡ true in
      let found : list_any (λ d. same_name (name d) (key u)) ds ≡ true = subst P here (known name ds cs p c same at) in
      rw found (rest us more)

  all_known : (ks : List K) (places : List ℕ) → map key ks ≡ names (picked cs places) → are_places cs places ≡ true → none_unknown ks
  unfolding none_unknown
  all_known [] [] are there = refl
  all_known (k ∷ ks) [] are there = absurd (cc)
  all_known ks (p ∷ ps) are there = one_known ps p (slice_get cs p) refl (first_true _ _ there) ks are (λ vs are'. all_known vs ps are' (second_true _ _ there))

  pub none_is_unknown : (ks : List K) (places : List ℕ) → map key ks ≡ names (picked cs places) → are_places cs places ≡ true → list_any (λ k. not (list_any (λ d. same_name (name d) (key k)) ds)) ks ≡ false
  unfolding none_unknown
  none_is_unknown ks places are there = all_known ks places are there

-- ---- the statement is read

goes : (ts mid : List Lexeme) → The w.Comma ts mid → ((name : List ℕ) × (after : List Lexeme) × Is (t.Name name) mid after) → another ts ≡ Ok (true, mid)
unfolding another
goes ts mid b (name, after, n) = rw (the_again w.Comma ts mid b, lacks w.Primary (t.Name name) mid after refl n) refl

ends : (ts mid rest : List Lexeme) → The w.Comma ts mid → The w.Primary mid rest → another ts ≡ Ok (false, rest)
unfolding another
ends ts mid rest b p = rw (the_again w.Comma ts mid b, may_again w.Primary mid rest p) refl

definitions_again : (ds : List _) (ts mid after rest : List Lexeme) → length ts ≤ longest → IsList (Reads definition_at) (The w.Comma) ds ts mid → The w.Comma mid after → The w.Primary after rest → definitions_at ts ≡ Ok (ds, rest)
unfolding definitions_at
definitions_again ds ts mid after rest fits list c p =
    items_only definition_at another (Reads definition_at) (The w.Comma) (Lacks w.Not) (λ d us vs r. r.2) (is_length (t.Fixed w.Comma)) (λ d us vs _ stops r. r.0 stops)
    (λ d us vs end b r. goes us vs b r.1)
    (λ us vs b. lacks w.Not (t.Fixed w.Comma) us vs (is_apart w.Comma w.Not refl) b) ds ts mid rest fits
    (lacks w.Not (t.Fixed w.Comma) mid after (is_apart w.Comma w.Not refl) c) (ends mid after rest c p) list

key_column_again : (k : _) (ts rest : List Lexeme) → IsKeyColumn k ts rest → key_column_at ts ≡ Ok (k, rest)
unfolding key_column_at
key_column_again k ts rest is = rw (placed_name_again (k.name, k.left) ts rest is) refl

key_again : (ks : List _) (ts rest : List Lexeme) → length ts ≤ longest → Lacks w.Comma rest → IsList IsKeyColumn (The w.Comma) ks ts rest → key_at ts ≡ Ok (ks, rest)
unfolding key_at
key_again ks ts rest fits stops list = list_only key_column_at w.Comma IsKeyColumn (λ _. Unit {0}) key_column_shorter (λ k us vs _ _ r. key_column_again k us vs r) (λ us vs b. tt) ks ts rest fits tt stops list

-- ---- the whole

-- CREATE TABLE with these columns and this key
abbrev pub Whole : List ℕ → Schema → List Lexeme → List Lexeme → Type 0
Whole name schema =
    The w.Create ⨾ (The w.Table ⨾ (Is (t.Name name) ⨾ (The w.Open
    ⨾ (Standing (Reads definition_at) (Defines plain.definition (λ d. is_too_long d.column_type) (λ d. empty_at d.column_type)) schema.columns
    ⨾ (The w.Comma ⨾ (The w.Primary ⨾ (The w.Key ⨾ (The w.Open ⨾ (Standing IsKeyColumn (λ d c. plain.key_column d ≡ key_column_of c) (key_columns schema) ⨾ (The w.Close ⨾ The w.Close))))))))))

pub is_created : (name : List ℕ) (schema : Schema) (ts : List Lexeme) → is_schema schema ≡ true → length ts ≤ longest → Whole name schema ts [] → (d : Tree) × (command_at ts ≡ Ok (d, [])) × (plain.command d ≡ created name schema) × (refusal_of 0 d ≡ None)
unfolding command_at verb_at create_at refusal_of table_refusal
is_created name schema ts good fits (m1, first, (m2, tab, (m3, n, (m4, brace, (m5, (ds, made, defs), (m6, comma, (m7, primary, (m8, k, (m9, brace', (m10, (ks, keyed, keys), (m11, shut, shut'))))))))))) =
    let room : length m4 ≤ longest = omega (arith, is_length _ ts m1 first, is_length _ m1 m2 tab, is_length _ m2 m3 n, is_length _ m3 m4 brace) in
    let less : length m5 < length m4 = list_shorter (Reads definition_at) (The w.Comma) (λ d us vs r. r.2) (is_length (t.Fixed w.Comma)) ds m4 m5 defs in
    let room' : length m9 ≤ longest = omega (arith, is_length _ m5 m6 comma, is_length _ m6 m7 primary, is_length _ m7 m8 k, is_length _ m8 m9 brace') in
    let many = ap (nat_lt 64) (as_many _ ds schema.columns made) ∙ few_columns schema good in
    let many' = ap (nat_lt 4) (as_many _ ks (key_columns schema) keyed) ∙ few_keys schema good in
    let long = none_passes _ (λ d. is_too_long d.column_type) (λ d c q. q.1) ds schema.columns made in
    let empty = no_empty ds schema.columns made in
    let named = mapped _ (λ d. d.name) (λ c. c.name) (λ d c q. ap (λ u. u.name) q.0) ds schema.columns made in
    let named' = mapped _ (λ d. d.name) (λ c. c.name) (λ d c q. ap (λ u. u.name) q) ks (key_columns schema) keyed in
    let once = not_twice (λ d. d.name) (λ d. d.left) ds schema.columns named (schema_columns schema good) (differ schema good) in
    let once' = not_twice (λ d. d.name) (λ d. d.left) ks (key_columns schema) named' (good_keys schema good) (keys_differ schema good) in
    let there = none_is_unknown (λ d. d.name) (λ d. d.name) ds schema.columns named ks schema.key named' (key_places schema good) in
    let same = mapped _ plain.definition definition_of (λ d c q. q.0) ds schema.columns made in
    let same' = mapped _ plain.key_column key_column_of (λ d c q. q) ks (key_columns schema) keyed in
    rw (
      again as_verb (t.Fixed w.Create) _ ts m1 refl first,
      the_again w.Table m1 m2 tab,
      name_again name m2 m3 n,
      the_again w.Open m3 m4 brace,
      definitions_again ds m4 m5 m6 m7 room defs comma primary,
      the_again w.Key m7 m8 k,
      the_again w.Open m8 m9 brace',
      key_again ks m9 m10 room' (lacks w.Comma (t.Fixed w.Close) m10 m11 (is_apart w.Close w.Comma refl) shut) keys,
      the_again w.Close m10 m11 shut,
      the_again w.Close m11 [] shut',
      end_only,
    ) (_, refl, rw (same, same') refl, rw (many, many', long, empty, once, once', there) refl)
