-- What is in the grammar is read: the rules.
use Rattle.std.proofs.Common.{◌≡◌, inl, inr, ℕ, zero, suc, ◌+◌, ◌≤◌, ◌<◌, Bool, true, false, List, [], ◌∷◌, ◌++◌, length, refl, sym, ap, ◌∙◌, arith, Ok, Option, Some, None, append_assoc, append-nil}
use Rattle.sql_lex.specs.declared.terminal.Terminal.{Terminal}
use Rattle.sql_lex.specs.declared.terminal.Terminal.TheVariants as w
use Rattle.sql_lex.specs.declared.token.Comparison.{Comparison}
use Rattle.sql_lex.specs.declared.token.Token.{Token}
use Rattle.sql_lex.specs.declared.token.Token.TheVariants as t
use Rattle.sql_lex.specs.Terminal.{is_same}
use Rattle.sql_lex.specs.Tokens.{Lexeme}
use Rattle.sql_text.specs.Number.{is_bigint, is_negative_bigint}
use Rattle.sql_text.specs.declared.token.ValueStart.TheVariants as start
use Rattle.sql_text.specs.declared.token.TermStart.TheVariants as begins
use Rattle.sql_text.specs.declared.token.TypeWord.TheVariants as type
use Rattle.sql_text.specs.declared.token.Verb.TheVariants as verb
use Rattle.sql_text.specs.declared.tree.Literal.{Literal}
use Rattle.sql_text.specs.declared.tree.Literal.TheVariants as literal
use Rattle.sql_text.specs.declared.tree.Term.{Term}
use Rattle.sql_text.specs.declared.tree.Term.TheVariants as term
use Rattle.sql_text.specs.declared.tree.Operation.{Operation}
use Rattle.sql_text.specs.declared.tree.Operation.TheVariants as operation
use Rattle.sql_text.specs.declared.tree.Addend.{Addend}
use Rattle.sql_text.specs.declared.tree.Sum.{Sum}
use Rattle.sql_text.specs.declared.tree.Predicate.{Predicate}
use Rattle.sql_text.specs.declared.tree.Predicate.TheVariants as predicate
use Rattle.sql_text.specs.declared.draft.DraftType.{DraftType}
use Rattle.sql_text.specs.declared.draft.DraftType.TheVariants as column
use Rattle.sql_text.specs.declared.draft.DraftColumn.{DraftColumn}
use Rattle.sql_text.specs.declared.draft.DraftKey.{DraftKey}
use Rattle.sql_text.specs.declared.tree.Assignment.{Assignment}
use Rattle.sql_text.specs.declared.tree.Columns.{Columns}
use Rattle.sql_text.specs.declared.tree.Columns.TheVariants as columns
use Rattle.sql_text.specs.declared.draft.Draft.{Draft}
use Rattle.sql_text.specs.declared.draft.Draft.TheVariants as draft
use Rattle.sql_text.specs.Reading.{Parser, is_fixed, as_start, as_value_term, as_term, as_type, as_verb, take_fixed, name_at, operation_at, start_at, term_start_at, type_word_at, verb_at, end_at}
use Rattle.sql_text.specs.Rules.{longest, value_at, term_at, addends_from, addends_at, sum_at, Else, opening_of, compared, null_test, named, comparison, all_at, any_at, group, negation, level, neg_at, predicate_at, names_at, values_at, key_column_at, key_at, assignment_at, assignments_at, length_within, type_at, nullable_at, definition_at, another, definitions_at, listed_at, selected_at, filter_at, create_at, insert_at, update_at, delete_at, select_at, command_at}
use Rattle.sql_text.specs.Grammar as g
use Rattle.sql_text.specs.Grammar.{◌⨾◌, Nothing, At, Is, The, IsList, IsName, IsNumber, IsValue, IsTerm, IsOperation, AreAddends, IsSum, IsAll, IsAny, IsPrimary, IsNested, IsPredicate, IsLength, IsType, IsNullable, IsDefinition, IsKeyColumn, IsAssignment, AreNames, AreListed, AreSelected, IsFilter, IsFilterUnder, IsCommand, IsStatement}
use Rattle.sql_lex.specs.Terminal.{number}
use Rattle.std.specs.Prelude.{◌==◌}
use Rattle.sql_text.proofs.Only.{again, the_again, may_again, name_again, placed_name_again, digits_again, length_again, comparison_again, equal_again, operation_again, Lacks, NoSign, lacks_nil, no_sign_nil, lacks, no_sign, is_length, at_length, list_shorter, items_only, list_only}

-- two words that are not the same
pub is_apart : (a b : Terminal) → number a == number b ≡ false → is_fixed b (t.Fixed a) ≡ false
unfolding is_same
is_apart a b e = e

-- ---- lengths

number_shorter : (n : List ℕ) (ts rest : List Lexeme) → IsNumber n ts rest → length rest < length ts
number_shorter n ts rest (inl (is, fits)) = is_length _ ts rest is
number_shorter n ts rest (inr (digits, (mid, m, d), fits)) = omega (arith, is_length _ ts mid m, is_length _ mid rest d)

pub value_shorter : (v : Literal) (ts rest : List Lexeme) → IsValue v ts rest → length rest < length ts
value_shorter (literal.Number n) ts rest is = number_shorter n ts rest is
value_shorter (literal.Text z) ts rest is = is_length _ ts rest is
value_shorter (literal.Bytes z) ts rest is = is_length _ ts rest is
value_shorter (literal.Marker n) ts rest is = is_length _ ts rest is
value_shorter literal.Null ts rest is = is_length _ ts rest is

pub term_shorter : (a : Term) (ts rest : List Lexeme) → IsTerm a ts rest → length rest < length ts
term_shorter (term.Column n) ts rest is = is_length _ ts rest is
term_shorter (term.Value v) ts rest is = value_shorter v ts rest is

pub operation_shorter : (o : Operation) (ts rest : List Lexeme) → IsOperation o ts rest → length rest < length ts
operation_shorter operation.Add ts rest is = is_length _ ts rest is
operation_shorter operation.Subtract ts rest (n, is) = is_length _ ts rest is

addends_length : (xs : List Addend) (ts rest : List Lexeme) → AreAddends xs ts rest → length xs + length rest ≤ length ts
addends_length [] ts rest same = let e : length ts ≡ length rest = ap length same in omega arith
addends_length (x ∷ xs) ts rest (mid, o, (after, a, m)) = omega (arith, operation_shorter x.operation ts mid o, term_shorter x.term mid after a, addends_length xs after rest m)

sum_shorter : (s : Sum) (ts rest : List Lexeme) → IsSum s ts rest → length rest < length ts
sum_shorter s ts rest (mid, a, m) = omega (arith, term_shorter s.first ts mid a, addends_length s.rest mid rest m)

pub assignment_shorter : (a : Assignment) (ts rest : List Lexeme) → IsAssignment a ts rest → length rest < length ts
assignment_shorter a ts rest (mid, n, (after, e, s)) = omega (arith, is_length _ ts mid n, is_length _ mid after e, sum_shorter a.sum after rest s)

within_shorter : (n k : ℕ) (ts rest : List Lexeme) → (The w.Open ⨾ (IsLength n k ⨾ The w.Close)) ts rest → length rest < length ts
within_shorter n k ts rest (mid, o, (after, (d, l, same), c)) = omega (arith, is_length _ ts mid o, at_length k _ mid after l, is_length _ after rest c)

type_shorter : (c : DraftType) (ts rest : List Lexeme) → IsType c ts rest → length rest < length ts
type_shorter column.SmallInt ts rest is = is_length _ ts rest is
type_shorter column.Integer ts rest (inl is) = is_length _ ts rest is
type_shorter column.Integer ts rest (inr is) = is_length _ ts rest is
type_shorter column.BigInt ts rest is = is_length _ ts rest is
type_shorter (column.VarChar n k) ts rest (mid, is, m) = omega (arith, is_length _ ts mid is, within_shorter n k mid rest m)
type_shorter (column.VarBinary n k) ts rest (mid, is, m) = omega (arith, is_length _ ts mid is, within_shorter n k mid rest m)

nullable_within : (b : Bool) (ts rest : List Lexeme) → IsNullable b ts rest → length rest ≤ length ts
nullable_within true ts rest same = let e : length ts ≡ length rest = ap length same in omega arith
nullable_within false ts rest (mid, n, u) = omega (arith, is_length _ ts mid n, is_length _ mid rest u)

pub definition_shorter : (d : DraftColumn) (ts rest : List Lexeme) → IsDefinition d ts rest → length rest < length ts
definition_shorter d ts rest (mid, n, (after, c, b)) = omega (arith, at_length d.left _ ts mid n, type_shorter d.column_type mid after c, nullable_within d.nullable after rest b)

pub key_column_shorter : (k : DraftKey) (ts rest : List Lexeme) → IsKeyColumn k ts rest → length rest < length ts
key_column_shorter k ts rest is = at_length k.left _ ts rest is

pub name_shorter : (n : List ℕ) (ts rest : List Lexeme) → IsName n ts rest → length rest < length ts
name_shorter n ts rest is = is_length _ ts rest is

-- ---- values and sums

bigint_start : (n : List ℕ) → is_bigint n ≡ true → as_start (t.Number n) ≡ Some (start.Whole (literal.Number n))
bigint_start n e = rw e refl

negative_start : (n : List ℕ) → is_negative_bigint n ≡ true → as_start (t.Minus (Some n)) ≡ Some (start.Negative n)
negative_start n e = rw e refl

number_only : (n : List ℕ) (ts rest : List Lexeme) → IsNumber n ts rest → value_at ts ≡ Ok (literal.Number n, rest)
unfolding value_at start_at
number_only n ts rest (inl (is, fits)) = rw (again as_start (t.Number n) (start.Whole (literal.Number n)) ts rest (bigint_start n fits) is) refl
number_only n ts rest (inr (digits, (mid, is, d), fits)) =
    rw (again as_start (t.Minus (Some n)) (start.Negative n) ts mid (negative_start n fits) is, digits_again digits mid rest d) refl

pub value_only : (v : Literal) (ts rest : List Lexeme) → IsValue v ts rest → value_at ts ≡ Ok (v, rest)
unfolding value_at start_at
value_only (literal.Number n) ts rest is = number_only n ts rest is
value_only (literal.Text z) ts rest is = rw (again as_start (t.Text z) (start.Whole (literal.Text z)) ts rest refl is) refl
value_only (literal.Bytes z) ts rest is = rw (again as_start (t.Bytes z) (start.Whole (literal.Bytes z)) ts rest refl is) refl
value_only (literal.Marker n) ts rest is = rw (again as_start (t.Marker n) (start.Whole (literal.Marker n)) ts rest refl is) refl
value_only literal.Null ts rest is = rw (again as_start (t.Fixed w.Null) (start.Whole literal.Null) ts rest refl is) refl

value_term_only : (v : Literal) (ts rest : List Lexeme) → IsValue v ts rest → term_at ts ≡ Ok (term.Value v, rest)
unfolding term_at term_start_at
value_term_only (literal.Number n) ts rest (inl (is, fits)) =
    rw (again as_term (t.Number n) (begins.Value (start.Whole (literal.Number n))) ts rest (ap as_value_term (bigint_start n fits)) is) refl
value_term_only (literal.Number n) ts rest (inr (digits, (mid, is, d), fits)) =
    rw (again as_term (t.Minus (Some n)) (begins.Value (start.Negative n)) ts mid (ap as_value_term (negative_start n fits)) is, digits_again digits mid rest d) refl
value_term_only (literal.Text z) ts rest is = rw (again as_term (t.Text z) (begins.Value (start.Whole (literal.Text z))) ts rest refl is) refl
value_term_only (literal.Bytes z) ts rest is = rw (again as_term (t.Bytes z) (begins.Value (start.Whole (literal.Bytes z))) ts rest refl is) refl
value_term_only (literal.Marker n) ts rest is = rw (again as_term (t.Marker n) (begins.Value (start.Whole (literal.Marker n))) ts rest refl is) refl
value_term_only literal.Null ts rest is = rw (again as_term (t.Fixed w.Null) (begins.Value (start.Whole literal.Null)) ts rest refl is) refl

pub term_only : (a : Term) (ts rest : List Lexeme) → IsTerm a ts rest → term_at ts ≡ Ok (a, rest)
unfolding term_at term_start_at
term_only (term.Column n) ts rest is = rw (again as_term (t.Name n) (begins.Column n) ts rest refl is) refl
term_only (term.Value v) ts rest is = value_term_only v ts rest is

addends_from_only : (n : ℕ) (found xs : List Addend) (ts rest : List Lexeme) → length xs < n → NoSign rest → AreAddends xs ts rest → addends_from n found ts ≡ Ok (found ++ xs, rest)
unfolding addends_from
addends_from_only zero found xs ts rest few stops m = absurd (omega arith)
addends_from_only (suc n) found [] ts rest few stops same =
    let here : operation_at ts ≡ Ok (None, rest) = rw same stops in
    rw here (ap (λ (ys : List Addend). Ok (ys, rest)) (sym (append-nil found)))
addends_from_only (suc n) found (x ∷ xs) ts rest few stops (mid, o, (after, a, m)) =
    let fewer : length xs < n = omega arith in
    rw (operation_again x.operation ts mid o, term_only x.term mid after a)
    (addends_from_only n (found ++ x ∷ []) xs after rest fewer stops m ∙ ap (λ (all : List Addend). Ok (all, rest)) (append_assoc found (x ∷ []) xs))

addends_only : (xs : List Addend) (ts rest : List Lexeme) → length ts < longest → NoSign rest → AreAddends xs ts rest → addends_at ts ≡ Ok (xs, rest)
unfolding addends_at
addends_only xs ts rest fits stops m =
    let few : length xs < longest = omega (arith, addends_length xs ts rest m) in
    addends_from_only longest [] xs ts rest few stops m

pub sum_only : (s : Sum) (ts rest : List Lexeme) → length ts ≤ longest → NoSign rest → IsSum s ts rest → sum_at ts ≡ Ok (s, rest)
unfolding sum_at
sum_only s ts rest fits stops (mid, a, m) =
    let room : length mid < longest = omega (arith, term_shorter s.first ts mid a) in
    rw (term_only s.first ts mid a, addends_only s.rest mid rest room stops m) refl

-- ---- predicates

module _ (R : Predicate → List Lexeme → List Lexeme → Type 0)
    (shorter : (p : Predicate) (ts rest : List Lexeme) → R p ts rest → length rest < length ts) where
  pub all_shorter : (p : Predicate) (ts rest : List Lexeme) → IsAll R p ts rest → length rest < length ts
  all_shorter p ts rest (ps, same, m) = list_shorter R (The w.And) shorter (is_length (t.Fixed w.And)) ps ts rest m

  any_shorter : (p : Predicate) (ts rest : List Lexeme) → IsAny R p ts rest → length rest < length ts
  any_shorter p ts rest (ps, same, m) = list_shorter (IsAll R) (The w.Or) all_shorter (is_length (t.Fixed w.Or)) ps ts rest m

  pub primary_shorter : (p : Predicate) (ts rest : List Lexeme) → IsPrimary R p ts rest → length rest < length ts
  primary_shorter p ts rest (g.negated (mid, n, r)) = omega (arith, is_length _ ts mid n, shorter _ mid rest r)
  primary_shorter p ts rest (g.grouped (mid, o, (after, r, c))) = omega (arith, is_length _ ts mid o, any_shorter _ mid after r, is_length _ after rest c)
  primary_shorter p ts rest (g.compared (mid, a, (after, c, b))) = omega (arith, term_shorter _ ts mid a, is_length _ mid after c, term_shorter _ after rest b)
  primary_shorter p ts rest (g.null (mid, n, (after, i, u))) = omega (arith, is_length _ ts mid n, is_length _ mid after i, is_length _ after rest u)
  primary_shorter p ts rest (g.not_null (mid, n, (after, i, (last, k, u)))) = omega (arith, is_length _ ts mid n, is_length _ mid after i, is_length _ after last k, is_length _ last rest u)

module _ (neg : Parser Predicate) (R : Predicate → List Lexeme → List Lexeme → Type 0)
    (shorter : (p : Predicate) (ts rest : List Lexeme) → R p ts rest → length rest < length ts)
    (only : (p : Predicate) (ts rest : List Lexeme) → length ts ≤ longest → R p ts rest → neg ts ≡ Ok (p, rest)) where
  all_only : (p : Predicate) (ts rest : List Lexeme) → length ts ≤ longest → Lacks w.And rest → IsAll R p ts rest → all_at neg ts ≡ Ok (p, rest)
  unfolding all_at
  all_only p ts rest fits stops (ps, same, m) =
      rw (list_only neg w.And R (λ _. Unit {0}) shorter (λ q us vs room _ r. only q us vs room r) (λ us vs b. tt) ps ts rest fits tt stops m) (ap (λ (q : Predicate). Ok (q, rest)) (sym same))

  -- behind a part of an OR stands no AND
  pub any_only : (p : Predicate) (ts rest : List Lexeme) → length ts ≤ longest → Lacks w.And rest → Lacks w.Or rest → IsAny R p ts rest → any_at neg ts ≡ Ok (p, rest)
  unfolding any_at
  any_only p ts rest fits ands ors (ps, same, m) =
      rw (list_only (all_at neg) w.Or (IsAll R) (Lacks w.And) (all_shorter R shorter) all_only (λ us vs b. lacks w.And (t.Fixed w.Or) us vs (is_apart w.Or w.And refl) b) ps ts rest fits ands ors m)
      (ap (λ (q : Predicate). Ok (q, rest)) (sym same))

  compared_only : (a b : Term) (c : Comparison) (ts mid rest : List Lexeme) → Is (t.Compare c) ts mid → IsTerm b mid rest → compared a ts ≡ Ok (predicate.Compare a c b, rest)
  unfolding compared
  compared_only a b c ts mid rest is m = rw (comparison_again c ts mid is, term_only b mid rest m) refl

  named_only : (n : List ℕ) (b : Term) (c : Comparison) (ts mid rest : List Lexeme) → Is (t.Compare c) ts mid → IsTerm b mid rest → named n ts ≡ Ok (predicate.Compare (term.Column n) c b, rest)
  unfolding named
  named_only n b c ts mid rest is m = rw (lacks w.Is (t.Compare c) ts mid refl is) (compared_only (term.Column n) b c ts mid rest is m)

  whole_only : (v : Literal) (b : Term) (c : Comparison) (ts mid after rest : List Lexeme) → IsValue v ts mid → Is (t.Compare c) mid after → IsTerm b after rest → comparison ts ≡ Ok (predicate.Compare (term.Value v) c b, rest)
  unfolding comparison
  whole_only v b c ts mid after rest is s m = rw (value_only v ts mid is) (compared_only (term.Value v) b c mid after rest s m)

  by_else : (tok : Token) (k : ℕ) (ts first : List Lexeme) → opening_of tok ≡ Else → ts ≡ (k, tok) ∷ first → level neg ts ≡ comparison ts
  unfolding level
  by_else tok k ts first e same = rw (same, e) refl

  -- what begins with a value is read as a comparison
  else_only : (tok : Token) (v : Literal) (b : Term) (c : Comparison) (ts first mid after rest : List Lexeme) → opening_of tok ≡ Else → Is tok ts first → IsValue v ts mid → Is (t.Compare c) mid after → IsTerm b after rest
      → level neg ts ≡ Ok (predicate.Compare (term.Value v) c b, rest)
  else_only tok v b c ts first mid after rest e (k, same) is s m = by_else tok k ts first e same ∙ whole_only v b c ts mid after rest is s m

  value_compared : (v : Literal) (b : Term) (c : Comparison) (ts mid after rest : List Lexeme) → IsValue v ts mid → Is (t.Compare c) mid after → IsTerm b after rest → level neg ts ≡ Ok (predicate.Compare (term.Value v) c b, rest)
  value_compared (literal.Number n) b c ts mid after rest (inl (is, fits)) s m = else_only (t.Number n) (literal.Number n) b c ts mid mid after rest refl is (inl (is, fits)) s m
  value_compared (literal.Number n) b c ts mid after rest (inr (d, (first, is, ds), fits)) s m = else_only (t.Minus (Some n)) (literal.Number n) b c ts first mid after rest refl is (inr (d, (first, is, ds), fits)) s m
  value_compared (literal.Text z) b c ts mid after rest is s m = else_only (t.Text z) (literal.Text z) b c ts mid mid after rest refl is is s m
  value_compared (literal.Bytes z) b c ts mid after rest is s m = else_only (t.Bytes z) (literal.Bytes z) b c ts mid mid after rest refl is is s m
  value_compared (literal.Marker n) b c ts mid after rest is s m = else_only (t.Marker n) (literal.Marker n) b c ts mid mid after rest refl is is s m
  value_compared literal.Null b c ts mid after rest is s m = else_only (t.Fixed w.Null) literal.Null b c ts mid mid after rest refl is is s m

  term_compared : (a b : Term) (c : Comparison) (ts mid after rest : List Lexeme) → IsTerm a ts mid → Is (t.Compare c) mid after → IsTerm b after rest → level neg ts ≡ Ok (predicate.Compare a c b, rest)
  unfolding level
  term_compared (term.Column n) b c ts mid after rest (k, same) s m = rw same (named_only n b c mid after rest s m)
  term_compared (term.Value v) b c ts mid after rest is s m = value_compared v b c ts mid after rest is s m

  null_only : (n : List ℕ) (ts rest : List Lexeme) → The w.Null ts rest → null_test n ts ≡ Ok (predicate.IsNull n false, rest)
  unfolding null_test
  null_only n ts rest u = rw (lacks w.Not (t.Fixed w.Null) ts rest (is_apart w.Null w.Not refl) u, the_again w.Null ts rest u) refl

  not_null_only : (n : List ℕ) (ts mid rest : List Lexeme) → The w.Not ts mid → The w.Null mid rest → null_test n ts ≡ Ok (predicate.IsNull n true, rest)
  unfolding null_test
  not_null_only n ts mid rest k u = rw (may_again w.Not ts mid k, the_again w.Null mid rest u) refl

  pub level_only : (p : Predicate) (ts rest : List Lexeme) → length ts ≤ longest → IsPrimary R p ts rest → level neg ts ≡ Ok (p, rest)
  unfolding level negation group named
  level_only p ts rest fits (g.negated {p = q} (mid, (k, same), r)) =
      let room : length mid ≤ longest = omega (arith, ap length same) in
      rw (same, only q mid rest room r) refl
  level_only p ts rest fits (g.grouped {p = q} (mid, (k, same), (after, r, c))) =
      let room : length mid ≤ longest = omega (arith, ap length same) in
      rw (same, any_only q mid after room (lacks w.And (t.Fixed w.Close) after rest (is_apart w.Close w.And refl) c) (lacks w.Or (t.Fixed w.Close) after rest (is_apart w.Close w.Or refl) c) r, the_again w.Close after rest c) refl
  level_only p ts rest fits (g.compared {a = a} {b = b} {c = c} (mid, is, (after, s, m))) = term_compared a b c ts mid after rest is s m
  level_only p ts rest fits (g.null {n = n} (mid, (k, same), (after, i, u))) = rw (same, may_again w.Is mid after i) (null_only n after rest u)
  level_only p ts rest fits (g.not_null {n = n} (mid, (k, same), (after, i, (last, j, u)))) = rw (same, may_again w.Is mid after i) (not_null_only n after last rest j u)

pub nested_shorter : (depth : ℕ) (p : Predicate) (ts rest : List Lexeme) → IsNested depth p ts rest → length rest < length ts
nested_shorter zero p ts rest r = absurd r
nested_shorter (suc depth) p ts rest r = primary_shorter (IsNested depth) (nested_shorter depth) p ts rest r

nested_only : (depth : ℕ) (p : Predicate) (ts rest : List Lexeme) → length ts ≤ longest → IsNested depth p ts rest → neg_at depth ts ≡ Ok (p, rest)
unfolding neg_at
nested_only zero p ts rest fits r = absurd r
nested_only (suc depth) p ts rest fits r = level_only (neg_at depth) (IsNested depth) (nested_shorter depth) (nested_only depth) p ts rest fits r

pub predicate_only : (p : Predicate) (ts rest : List Lexeme) → length ts ≤ longest → Lacks w.And rest → Lacks w.Or rest → IsPredicate p ts rest → predicate_at ts ≡ Ok (p, rest)
unfolding predicate_at
predicate_only p ts rest fits ands ors r = any_only (neg_at 65) (IsNested 65) (nested_shorter 65) (nested_only 65) p ts rest fits ands ors r

-- ---- lists

names_only : (xs : List (List ℕ)) (ts rest : List Lexeme) → length ts ≤ longest → Lacks w.Comma rest → AreNames xs ts rest → names_at ts ≡ Ok (xs, rest)
unfolding names_at
names_only xs ts rest fits stops m = list_only name_at w.Comma IsName (λ _. Unit {0}) name_shorter (λ n us vs _ _ r. name_again n us vs r) (λ us vs b. tt) xs ts rest fits tt stops m

values_only : (xs : List Literal) (ts rest : List Lexeme) → length ts ≤ longest → Lacks w.Comma rest → IsList IsValue (The w.Comma) xs ts rest → values_at ts ≡ Ok (xs, rest)
unfolding values_at
values_only xs ts rest fits stops m = list_only value_at w.Comma IsValue (λ _. Unit {0}) value_shorter (λ v us vs _ _ r. value_only v us vs r) (λ us vs b. tt) xs ts rest fits tt stops m

key_column_only : (k : DraftKey) (ts rest : List Lexeme) → IsKeyColumn k ts rest → key_column_at ts ≡ Ok (k, rest)
unfolding key_column_at
key_column_only k ts rest is = rw (placed_name_again (k.name, k.left) ts rest is) refl

key_only : (xs : List DraftKey) (ts rest : List Lexeme) → length ts ≤ longest → Lacks w.Comma rest → IsList IsKeyColumn (The w.Comma) xs ts rest → key_at ts ≡ Ok (xs, rest)
unfolding key_at
key_only xs ts rest fits stops m = list_only key_column_at w.Comma IsKeyColumn (λ _. Unit {0}) key_column_shorter (λ k us vs _ _ r. key_column_only k us vs r) (λ us vs b. tt) xs ts rest fits tt stops m

assignment_only : (a : Assignment) (ts rest : List Lexeme) → length ts ≤ longest → NoSign rest → IsAssignment a ts rest → assignment_at ts ≡ Ok (a, rest)
unfolding assignment_at
assignment_only a ts rest fits stops (mid, n, (after, e, s)) =
    let room : length after ≤ longest = omega (arith, is_length _ ts mid n, is_length _ mid after e) in
    rw (name_again a.column ts mid n, equal_again mid after e, sum_only a.sum after rest room stops s) refl

pub assignments_only : (xs : List Assignment) (ts rest : List Lexeme) → length ts ≤ longest → NoSign rest → Lacks w.Comma rest → IsList IsAssignment (The w.Comma) xs ts rest → assignments_at ts ≡ Ok (xs, rest)
unfolding assignments_at
assignments_only xs ts rest fits signs stops m = list_only assignment_at w.Comma IsAssignment NoSign assignment_shorter assignment_only (λ us vs b. no_sign (t.Fixed w.Comma) us vs refl b) xs ts rest fits signs stops m

-- ---- columns

within_only : (n : ℕ × ℕ) (ts rest : List Lexeme) → (The w.Open ⨾ (IsLength n.0 n.1 ⨾ The w.Close)) ts rest → length_within ts ≡ Ok (n, rest)
unfolding length_within
within_only n ts rest (mid, o, (after, l, c)) = rw (the_again w.Open ts mid o, length_again n mid after l, the_again w.Close after rest c) refl

type_only : (c : DraftType) (ts rest : List Lexeme) → IsType c ts rest → type_at ts ≡ Ok (c, rest)
unfolding type_at type_word_at
type_only column.SmallInt ts rest is = rw (again as_type (t.Fixed w.SmallInt) (type.Whole column.SmallInt) ts rest refl is) refl
type_only column.Integer ts rest (inl is) = rw (again as_type (t.Fixed w.Integer) (type.Whole column.Integer) ts rest refl is) refl
type_only column.Integer ts rest (inr is) = rw (again as_type (t.Fixed w.Int) (type.Whole column.Integer) ts rest refl is) refl
type_only column.BigInt ts rest is = rw (again as_type (t.Fixed w.BigInt) (type.Whole column.BigInt) ts rest refl is) refl
type_only (column.VarChar n k) ts rest (mid, is, m) = rw (again as_type (t.Fixed w.VarChar) type.OfText ts mid refl is, within_only (n, k) mid rest m) refl
type_only (column.VarBinary n k) ts rest (mid, is, m) = rw (again as_type (t.Fixed w.VarBinary) type.OfBytes ts mid refl is, within_only (n, k) mid rest m) refl

nullable_only : (b : Bool) (ts rest : List Lexeme) → Lacks w.Not rest → IsNullable b ts rest → nullable_at ts ≡ Ok (b, rest)
unfolding nullable_at
nullable_only true ts rest stops same = let here : take_fixed w.Not ts ≡ Ok (false, rest) = rw same stops in rw here refl
nullable_only false ts rest stops (mid, n, u) = rw (may_again w.Not ts mid n, the_again w.Null mid rest u) refl

definition_only : (d : DraftColumn) (ts rest : List Lexeme) → Lacks w.Not rest → IsDefinition d ts rest → definition_at ts ≡ Ok (d, rest)
unfolding definition_at
definition_only d ts rest stops (mid, n, (after, c, b)) =
    rw (placed_name_again (d.name, d.left) ts mid n, type_only d.column_type mid after c, nullable_only d.nullable after rest stops b) refl

another_goes : (d : DraftColumn) (ts mid rest : List Lexeme) → The w.Comma ts mid → IsDefinition d mid rest → another ts ≡ Ok (true, mid)
unfolding another
another_goes d ts mid rest c (after, n, m) = rw (the_again w.Comma ts mid c, lacks w.Primary (t.Name d.name) mid after refl (d.left, n)) refl

another_ends : (ts mid rest : List Lexeme) → The w.Comma ts mid → The w.Primary mid rest → another ts ≡ Ok (false, rest)
unfolding another
another_ends ts mid rest c p = rw (the_again w.Comma ts mid c, may_again w.Primary mid rest p) refl

definitions_only : (xs : List DraftColumn) (ts mid after rest : List Lexeme) → length ts ≤ longest → IsList IsDefinition (The w.Comma) xs ts mid → The w.Comma mid after → The w.Primary after rest → definitions_at ts ≡ Ok (xs, rest)
unfolding definitions_at
definitions_only xs ts mid after rest fits m c p =
    items_only definition_at another IsDefinition (The w.Comma) (Lacks w.Not) definition_shorter (is_length (t.Fixed w.Comma)) (λ d us vs _ stops r. definition_only d us vs stops r) another_goes
    (λ us vs b. lacks w.Not (t.Fixed w.Comma) us vs (is_apart w.Comma w.Not refl) b) xs ts mid rest fits
    (lacks w.Not (t.Fixed w.Comma) mid after (is_apart w.Comma w.Not refl) c) (another_ends mid after rest c p) m

-- ---- statements

listed_only : (l : Columns) (ts rest : List Lexeme) → length ts ≤ longest → Lacks w.Open rest → AreListed l ts rest → listed_at ts ≡ Ok (l, rest)
unfolding listed_at
listed_only columns.All ts rest fits stops same = let here : take_fixed w.Open ts ≡ Ok (false, rest) = rw same stops in rw here refl
listed_only (columns.Named names) ts rest fits stops (mid, o, (after, m, c)) =
    let room : length mid ≤ longest = omega (arith, is_length _ ts mid o) in
    rw (may_again w.Open ts mid o, names_only names mid after room (lacks w.Comma (t.Fixed w.Close) after rest (is_apart w.Close w.Comma refl) c) m, the_again w.Close after rest c) refl

names_lack : (xs : List (List ℕ)) (w : Terminal) (ts rest : List Lexeme) → AreNames xs ts rest → Lacks w ts
names_lack [] w ts rest m = absurd m
names_lack (n ∷ []) w ts rest is = lacks w (t.Name n) ts rest refl is
names_lack (n ∷ k ∷ ns) w ts rest (mid, is, m) = lacks w (t.Name n) ts mid refl is

pub selected_only : (l : Columns) (ts rest : List Lexeme) → length ts ≤ longest → Lacks w.Comma rest → AreSelected l ts rest → selected_at ts ≡ Ok (l, rest)
unfolding selected_at
selected_only columns.All ts rest fits stops is = rw (may_again w.Star ts rest is) refl
selected_only (columns.Named names) ts rest fits stops m = rw (names_lack names w.Star ts rest m, names_only names ts rest fits stops m) refl

filter_only : (f : Option Predicate) (ts : List Lexeme) → length ts ≤ longest → IsFilter f ts [] → filter_at ts ≡ Ok (f, [])
unfolding filter_at
filter_only None ts fits same = let here : take_fixed w.Where ts ≡ Ok (false, []) = rw same (lacks_nil w.Where) in rw here refl
filter_only (Some p) ts fits (mid, is, m) =
    let room : length mid ≤ longest = omega (arith, is_length _ ts mid is) in
    rw (may_again w.Where ts mid is, predicate_only p mid [] room (lacks_nil w.And) (lacks_nil w.Or) m) refl

pub no_filter_sign : (depth : ℕ) (f : Option Predicate) (ts : List Lexeme) → IsFilterUnder depth f ts [] → NoSign ts
no_filter_sign depth None ts same = rw same no_sign_nil
no_filter_sign depth (Some p) ts (mid, is, m) = no_sign (t.Fixed w.Where) ts mid refl is

pub no_filter_comma : (depth : ℕ) (f : Option Predicate) (ts : List Lexeme) → IsFilterUnder depth f ts [] → Lacks w.Comma ts
no_filter_comma depth None ts same = rw same (lacks_nil w.Comma)
no_filter_comma depth (Some p) ts (mid, is, m) = lacks w.Comma (t.Fixed w.Where) ts mid (is_apart w.Where w.Comma refl) is

pub end_only : end_at [] ≡ Ok (tt, [])
unfolding end_at
end_only = refl

listed_within : (l : Columns) (ts rest : List Lexeme) → AreListed l ts rest → length rest ≤ length ts
listed_within columns.All ts rest same = let e : length ts ≡ length rest = ap length same in omega arith
listed_within (columns.Named names) ts rest (mid, o, (after, m, c)) =
    omega (arith, is_length _ ts mid o, list_shorter IsName (The w.Comma) name_shorter (is_length (t.Fixed w.Comma)) names mid after m, is_length _ after rest c)

pub selected_shorter : (l : Columns) (ts rest : List Lexeme) → AreSelected l ts rest → length rest < length ts
selected_shorter columns.All ts rest is = is_length _ ts rest is
selected_shorter (columns.Named names) ts rest m = list_shorter IsName (The w.Comma) name_shorter (is_length (t.Fixed w.Comma)) names ts rest m

-- what is in the grammar is read
pub command_only : (c : Draft) (ts : List Lexeme) → length ts ≤ longest → IsStatement c ts → command_at ts ≡ Ok (c, [])
unfolding command_at verb_at create_at insert_at update_at delete_at select_at
command_only (draft.Create table definitions key) ts fits (m1, first, (m2, tab, (m3, name, (m4, brace, (m5, defs, (m6, comma, (m7, primary, (m8, k, (m9, brace', (m10, keys, (m11, close, close'))))))))))) =
    let room : length m4 ≤ longest = omega (arith, is_length _ ts m1 first, is_length _ m1 m2 tab, is_length _ m2 m3 name, is_length _ m3 m4 brace) in
    let less : length m5 < length m4 = list_shorter IsDefinition (The w.Comma) definition_shorter (is_length (t.Fixed w.Comma)) definitions m4 m5 defs in
    let room' : length m9 ≤ longest = omega (arith, is_length _ m5 m6 comma, is_length _ m6 m7 primary, is_length _ m7 m8 k, is_length _ m8 m9 brace') in
    rw (
      again as_verb (t.Fixed w.Create) verb.Create ts m1 refl first,
      the_again w.Table m1 m2 tab,
      name_again table m2 m3 name,
      the_again w.Open m3 m4 brace,
      definitions_only definitions m4 m5 m6 m7 room defs comma primary,
      the_again w.Key m7 m8 k,
      the_again w.Open m8 m9 brace',
      key_only key m9 m10 room' (lacks w.Comma (t.Fixed w.Close) m10 m11 (is_apart w.Close w.Comma refl) close) keys,
      the_again w.Close m10 m11 close,
      the_again w.Close m11 [] close',
      end_only,
    ) refl
command_only (draft.Insert table listed values) ts fits (m1, first, (m2, into, (m3, name, (m4, l, (m5, vals, (m6, brace, (m7, vs, close))))))) =
    let room : length m3 ≤ longest = omega (arith, is_length _ ts m1 first, is_length _ m1 m2 into, is_length _ m2 m3 name) in
    let room' : length m6 ≤ longest = omega (arith, listed_within listed m3 m4 l, is_length _ m4 m5 vals, is_length _ m5 m6 brace) in
    rw (
      again as_verb (t.Fixed w.Insert) verb.Insert ts m1 refl first,
      the_again w.Into m1 m2 into,
      name_again table m2 m3 name,
      listed_only listed m3 m4 room (lacks w.Open (t.Fixed w.Values) m4 m5 (is_apart w.Values w.Open refl) vals) l,
      the_again w.Values m4 m5 vals,
      the_again w.Open m5 m6 brace,
      values_only values m6 m7 room' (lacks w.Comma (t.Fixed w.Close) m7 [] (is_apart w.Close w.Comma refl) close) vs,
      the_again w.Close m7 [] close,
      end_only,
    ) refl
command_only (draft.Update table assignments filter) ts fits (m1, first, (m2, name, (m3, s, (m4, list, f)))) =
    let room : length m3 ≤ longest = omega (arith, is_length _ ts m1 first, is_length _ m1 m2 name, is_length _ m2 m3 s) in
    let less : length m4 < length m3 = list_shorter IsAssignment (The w.Comma) assignment_shorter (is_length (t.Fixed w.Comma)) assignments m3 m4 list in
    let room' : length m4 ≤ longest = omega arith in
    rw (
      again as_verb (t.Fixed w.Update) verb.Update ts m1 refl first,
      name_again table m1 m2 name,
      the_again w.Set m2 m3 s,
      assignments_only assignments m3 m4 room (no_filter_sign 65 filter m4 f) (no_filter_comma 65 filter m4 f) list,
      filter_only filter m4 room' f,
      end_only,
    ) refl
command_only (draft.Delete table filter) ts fits (m1, first, (m2, from, (m3, name, f))) =
    let room : length m3 ≤ longest = omega (arith, is_length _ ts m1 first, is_length _ m1 m2 from, is_length _ m2 m3 name) in
    rw (again as_verb (t.Fixed w.Delete) verb.Delete ts m1 refl first, the_again w.From m1 m2 from, name_again table m2 m3 name, filter_only filter m3 room f, end_only) refl
command_only (draft.Select selected table filter) ts fits (m1, first, (m2, l, (m3, from, (m4, name, f)))) =
    let room : length m1 ≤ longest = omega (arith, is_length _ ts m1 first) in
    let room' : length m4 ≤ longest = omega (arith, selected_shorter selected m1 m2 l, is_length _ m2 m3 from, is_length _ m3 m4 name) in
    rw (
      again as_verb (t.Fixed w.Select) verb.Select ts m1 refl first,
      selected_only selected m1 m2 room (lacks w.Comma (t.Fixed w.From) m2 m3 (is_apart w.From w.Comma refl) from) l,
      the_again w.From m2 m3 from,
      name_again table m3 m4 name,
      filter_only filter m4 room' f,
      end_only,
    ) refl
