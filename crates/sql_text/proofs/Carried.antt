-- What holds of the tokens of a text holds of the statement that they are.
use Rattle.std.proofs.Common.{◌≡◌, inl, inr, ℕ, zero, suc, ◌+◌, ◌-◌, ◌≤◌, ◌<◌, ◌^◌, Bool, true, false, List, [], ◌∷◌, length, drop, Option, Some, None, sym, ap, ◌∙◌, subst, arith}
use Rattle.std.specs.Prelude.{nat_le}
use Rattle.std.specs.List.{All}
use Rattle.std.proofs.lemmas.Bool.Decides.{nat_tests}
use Rattle.std.proofs.lemmas.List.Elements.{All-cons, All-nil}
use Rattle.sql_lex.specs.Markers.{markers_in, HasNumber, AreNumbered}
use Rattle.sql_lex.specs.Spelling.{IsName, AreDigits, ArePairs, IsSpelled, AllSpelled, IsReadable, AllReadable}
use Rattle.sql_lex.specs.Tokens.{Lexeme, tokens, counted}
use Rattle.sql_lex.specs.declared.terminal.Terminal.{Terminal}
use Rattle.sql_lex.specs.declared.terminal.Terminal.TheVariants as w
use Rattle.sql_lex.specs.declared.token.Comparison.TheVariants as is
use Rattle.sql_lex.specs.declared.token.Token.{Token}
use Rattle.sql_lex.specs.declared.token.Token.TheVariants as t
use Rattle.sql_lex.proofs.Numbered.{counts_one}
use Rattle.sql_text.specs.Number.{number_of, is_bigint, is_negative_bigint}
use Rattle.sql_text.specs.Grammar as g
use Rattle.sql_text.specs.Grammar.{◌⨾◌, At, Is, The, IsList, IsNumber, IsValue, IsTerm, IsOperation, AreAddends, IsSum, IsAll, IsAny, IsPrimary, IsNested, IsLength, IsType, IsNullable, IsDefinition, IsKeyColumn, IsAssignment, IsFilterUnder}
use Rattle.sql_text.specs.Valid as v
use Rattle.sql_text.specs.Valid.{IsBigInt, IsQuoted, IsValidLiteral, IsValidTerm, IsValidSum, IsValidPredicate, IsValidFilter, IsValidAssignment}
use Rattle.sql_text.specs.declared.draft.DraftType.{DraftType}
use Rattle.sql_text.specs.declared.draft.DraftType.TheVariants as column
use Rattle.sql_text.specs.declared.draft.DraftColumn.{DraftColumn}
use Rattle.sql_text.specs.declared.draft.DraftKey.{DraftKey}
use Rattle.sql_text.specs.declared.tree.Literal.{Literal}
use Rattle.sql_text.specs.declared.tree.Literal.TheVariants as literal
use Rattle.sql_text.specs.declared.tree.Term.{Term}
use Rattle.sql_text.specs.declared.tree.Term.TheVariants as term
use Rattle.sql_text.specs.declared.tree.Operation.{Operation}
use Rattle.sql_text.specs.declared.tree.Operation.TheVariants as operation
use Rattle.sql_text.specs.declared.tree.Addend.{Addend}
use Rattle.sql_text.specs.declared.tree.Sum.{Sum}
use Rattle.sql_text.specs.declared.tree.Predicate.{Predicate}
use Rattle.sql_text.specs.declared.tree.Assignment.{Assignment}

-- ---- what is known of a token

abbrev pub IsGood : ℕ → Token → Type 0
IsGood m (t.Name n) = IsName n
IsGood m (t.Number n) = AreDigits n
IsGood m (t.Minus (Some n)) = (digits : List ℕ) × (n ≡ 45 ∷ digits) × AreDigits digits
IsGood m (t.Text z) = IsQuoted z
IsGood m (t.Bytes z) = ArePairs z
IsGood m (t.Marker before) = before < m
IsGood m _ = Unit {0}

abbrev pub AreGood : ℕ → List Lexeme → Type 0
AreGood m [] = Unit {0}
AreGood m (l ∷ ts) = IsGood m l.1 × AreGood m ts

good : (m n more : ℕ) (z : List ℕ) (tok : Token) → n + counted tok more ≤ m → IsSpelled z tok → IsReadable tok → HasNumber n tok → IsGood m tok
good m n more z (t.Name y) room s r k = s.3
good m n more z (t.Number y) room s r k = s.3
good m n more z (t.Minus (Some y)) room s r k = (s.0, s.2, s.3)
good m n more z (t.Minus None) room s r k = tt
good m n more z (t.Text y) room s r k = (r, (s.0, s.2))
good m n more z (t.Bytes y) room s r k = s.4
good m n more z (t.Marker before) room s r k = omega arith
good m n more z (t.Fixed word) room s r k = tt
good m n more z (t.Compare c) room s r k = tt
good m n more z t.Unknown room s r k = tt

all_good : (m n : ℕ) (text : List ℕ) (ts : List Lexeme) → n + markers_in ts ≤ m → AllSpelled text ts → AllReadable ts → AreNumbered n ts → AreGood m ts
all_good m n text [] room s r k = tt
all_good m n text (l ∷ ts) room (s, ss) (r, rs) (k, ks) =
    let same = counts_one l.1 n l.0 ts in
    (good m n (markers_in ts) (drop (length text - l.0) text) l.1 room s r k, all_good m (counted l.1 n) text ts (omega arith) ss rs ks)

pub good_tokens : (text : List ℕ) → AllSpelled text (tokens text) → AllReadable (tokens text) → AreNumbered 0 (tokens text) → AreGood (markers_in (tokens text)) (tokens text)
good_tokens text s r k = all_good (markers_in (tokens text)) 0 text (tokens text) (omega arith) s r k

module _ (m : ℕ) where
  -- ---- single tokens and lists

  abbrev Good : List Lexeme → Type 0
  Good ts = AreGood m ts

  pub at_carry : (left : ℕ) (tok : Token) (ts rest : List Lexeme) → At left tok ts rest → Good ts → IsGood m tok × Good rest
  at_carry left tok ts rest same all = let P : List Lexeme → Type 0 = λ u. AreGood m u in let h : IsGood m tok × AreGood m rest = subst P same all in h

  pub is_carry : (tok : Token) (ts rest : List Lexeme) → Is tok ts rest → Good ts → IsGood m tok × Good rest
  is_carry tok ts rest (left, same) all = at_carry left tok ts rest same all

  pub list_carry : {A : Type 0} (R : A → List Lexeme → List Lexeme → Type 0) (Between : List Lexeme → List Lexeme → Type 0) (F : A → Type 0)
      → ((x : A) (ts rest : List Lexeme) → R x ts rest → Good ts → F x × Good rest) → ((ts rest : List Lexeme) → Between ts rest → Good ts → Good rest)
      → (xs : List A) (ts rest : List Lexeme) → IsList R Between xs ts rest → Good ts → (1 ≤ length xs) × All F xs × Good rest
  list_carry R Between F item between [] ts rest l all = absurd l
  list_carry R Between F item between (x ∷ []) ts rest l all = let h = item x ts rest l all in (omega arith, All-cons F x [] h.0 (All-nil F), h.1)
  list_carry R Between F item between (x ∷ y ∷ ys) ts rest (mid, r, (after, b, l)) all =
      let h = item x ts mid r all in
      let k = list_carry R Between F item between (y ∷ ys) after rest l (between mid after b h.1) in
      (omega arith, All-cons F x (y ∷ ys) h.0 k.1, k.2)

  pub the_carry : (v : Terminal) (ts rest : List Lexeme) → The v ts rest → Good ts → Good rest
  the_carry v ts rest is all = (is_carry (t.Fixed v) ts rest is all).1

  -- ---- values and sums

  digits_fit : (n : List ℕ) → is_bigint n ≡ true → number_of n < 2 ^ 63
  unfolding is_bigint
  digits_fit n e = grind (arith, nat_tests)

  negative_fits : (n digits : List ℕ) → n ≡ 45 ∷ digits → is_negative_bigint n ≡ true → number_of digits ≤ 2 ^ 63
  unfolding is_negative_bigint
  negative_fits n digits same e =
      let fits : nat_le (number_of digits) (2 ^ 63) ≡ true = ap (λ z. nat_le (number_of (drop 1 z)) (2 ^ 63)) (sym same) ∙ e in
      grind (arith, nat_tests)

  number_carry : (n : List ℕ) (ts rest : List Lexeme) → IsNumber n ts rest → Good ts → IsBigInt n × Good rest
  number_carry n ts rest (inl (is, fits)) all = let h = is_carry (t.Number n) ts rest is all in (inl (h.0, digits_fit n fits), h.1)
  number_carry n ts rest (inr (d, (mid, is, more), fits)) all =
      let h = is_carry (t.Minus (Some n)) ts mid is all in
      (inr (h.0.0, h.0.1, h.0.2, negative_fits n h.0.0 h.0.1 fits), (is_carry (t.Number d) mid rest more h.1).1)

  pub value_carry : (x : Literal) (ts rest : List Lexeme) → IsValue x ts rest → Good ts → IsValidLiteral m x × Good rest
  value_carry (literal.Number n) ts rest is all = number_carry n ts rest is all
  value_carry (literal.Text z) ts rest is all = is_carry (t.Text z) ts rest is all
  value_carry (literal.Bytes z) ts rest is all = is_carry (t.Bytes z) ts rest is all
  value_carry (literal.Marker n) ts rest is all = is_carry (t.Marker n) ts rest is all
  value_carry literal.Null ts rest is all = is_carry (t.Fixed w.Null) ts rest is all

  term_carry : (a : Term) (ts rest : List Lexeme) → IsTerm a ts rest → Good ts → IsValidTerm m a × Good rest
  term_carry (term.Column n) ts rest is all = is_carry (t.Name n) ts rest is all
  term_carry (term.Value x) ts rest is all = value_carry x ts rest is all

  operation_carry : (o : Operation) (ts rest : List Lexeme) → IsOperation o ts rest → Good ts → Good rest
  operation_carry operation.Add ts rest is all = the_carry w.Plus ts rest is all
  operation_carry operation.Subtract ts rest (n, is) all = (is_carry (t.Minus n) ts rest is all).1

  addends_carry : (xs : List Addend) (ts rest : List Lexeme) → AreAddends xs ts rest → Good ts → All (λ a. IsValidTerm m a.term) xs × Good rest
  addends_carry [] ts rest same all = let P : List Lexeme → Type 0 = λ u. AreGood m u in (All-nil (λ (a : Addend). IsValidTerm m a.term), subst P same all)
  addends_carry (x ∷ xs) ts rest (mid, o, (after, a, more)) all =
      let h = term_carry x.term mid after a (operation_carry x.operation ts mid o all) in
      let k = addends_carry xs after rest more h.1 in
      (All-cons (λ (y : Addend). IsValidTerm m y.term) x xs h.0 k.0, k.1)

  sum_carry : (s : Sum) (ts rest : List Lexeme) → IsSum s ts rest → Good ts → IsValidSum m s × Good rest
  sum_carry s ts rest (mid, a, more) all =
      let h = term_carry s.first ts mid a all in
      let k = addends_carry s.rest mid rest more h.1 in
      ((h.0, k.0), k.1)

  -- ---- predicates

  module _ (R : Predicate → List Lexeme → List Lexeme → Type 0) (carry : (p : Predicate) (ts rest : List Lexeme) → R p ts rest → Good ts → IsValidPredicate m p × Good rest) where
    all_carry : (p : Predicate) (ts rest : List Lexeme) → IsAll R p ts rest → Good ts → IsValidPredicate m p × Good rest
    all_carry p ts rest (ps, same, l) all =
        let h = list_carry R (The w.And) (IsValidPredicate m) carry (the_carry w.And) ps ts rest l all in
        let P : Predicate → Type 0 = λ q. IsValidPredicate m q in
        (subst P (sym same) (v.all ps h.0 h.1), h.2)

    pub any_carry : (p : Predicate) (ts rest : List Lexeme) → IsAny R p ts rest → Good ts → IsValidPredicate m p × Good rest
    any_carry p ts rest (ps, same, l) all =
        let h = list_carry (IsAll R) (The w.Or) (IsValidPredicate m) all_carry (the_carry w.Or) ps ts rest l all in
        let P : Predicate → Type 0 = λ q. IsValidPredicate m q in
        (subst P (sym same) (v.any ps h.0 h.1), h.2)

    pub primary_carry : (p : Predicate) (ts rest : List Lexeme) → IsPrimary R p ts rest → Good ts → IsValidPredicate m p × Good rest
    primary_carry p ts rest (g.negated {p = q} (mid, n, r)) all = let h = carry q mid rest r (the_carry w.Not ts mid n all) in (v.negated h.0, h.1)
    primary_carry p ts rest (g.grouped {p = q} (mid, o, (after, r, c))) all =
        let h = any_carry q mid after r (the_carry w.Open ts mid o all) in (v.grouped h.0, the_carry w.Close after rest c h.1)
    primary_carry p ts rest (g.compared {a = a} {b = b} {c = c} (mid, x, (after, s, y))) all =
        let h = term_carry a ts mid x all in
        let k = term_carry b after rest y (is_carry (t.Compare c) mid after s h.1).1 in
        (v.compared a b c h.0 k.0, k.1)
    primary_carry p ts rest (g.null {n = n} (mid, x, (after, i, u))) all =
        let h = is_carry (t.Name n) ts mid x all in (v.null_test n false h.0, the_carry w.Null after rest u (the_carry w.Is mid after i h.1))
    primary_carry p ts rest (g.not_null {n = n} (mid, x, (after, i, (last, k, u)))) all =
        let h = is_carry (t.Name n) ts mid x all in (v.null_test n true h.0, the_carry w.Null last rest u (the_carry w.Not after last k (the_carry w.Is mid after i h.1)))

  nested_carry : (depth : ℕ) (p : Predicate) (ts rest : List Lexeme) → IsNested depth p ts rest → Good ts → IsValidPredicate m p × Good rest
  nested_carry zero p ts rest r all = absurd r
  nested_carry (suc depth) p ts rest r all = primary_carry (IsNested depth) (nested_carry depth) p ts rest r all

  pub filter_carry : (f : Option Predicate) (ts : List Lexeme) → IsFilterUnder 65 f ts [] → Good ts → IsValidFilter m f
  filter_carry None ts is all = tt
  filter_carry (Some p) ts (mid, is, r) all = (any_carry (IsNested 65) (nested_carry 65) p mid [] r (the_carry w.Where ts mid is all)).0

  -- ---- columns and assignments

  type_carry : (c : DraftType) (ts rest : List Lexeme) → IsType c ts rest → Good ts → Good rest
  type_carry column.SmallInt ts rest is all = the_carry w.SmallInt ts rest is all
  type_carry column.Integer ts rest (inl is) all = the_carry w.Integer ts rest is all
  type_carry column.Integer ts rest (inr is) all = the_carry w.Int ts rest is all
  type_carry column.BigInt ts rest is all = the_carry w.BigInt ts rest is all
  type_carry (column.VarChar n left) ts rest (m1, is, (m2, o, (m3, (d, l, same), c))) all = the_carry w.Close m3 rest c (at_carry left (t.Number d) m2 m3 l (the_carry w.Open m1 m2 o (the_carry w.VarChar ts m1 is all))).1
  type_carry (column.VarBinary n left) ts rest (m1, is, (m2, o, (m3, (d, l, same), c))) all = the_carry w.Close m3 rest c (at_carry left (t.Number d) m2 m3 l (the_carry w.Open m1 m2 o (the_carry w.VarBinary ts m1 is all))).1

  nullable_carry : (b : Bool) (ts rest : List Lexeme) → IsNullable b ts rest → Good ts → Good rest
  nullable_carry true ts rest same all = let P : List Lexeme → Type 0 = λ u. AreGood m u in subst P same all
  nullable_carry false ts rest (mid, n, u) all = the_carry w.Null mid rest u (the_carry w.Not ts mid n all)

  pub definition_carry : (d : DraftColumn) (ts rest : List Lexeme) → IsDefinition d ts rest → Good ts → IsName d.name × Good rest
  definition_carry d ts rest (mid, n, (after, c, b)) all =
      let h = at_carry d.left (t.Name d.name) ts mid n all in
      (h.0, nullable_carry d.nullable after rest b (type_carry d.column_type mid after c h.1))

  pub key_carry : (k : DraftKey) (ts rest : List Lexeme) → IsKeyColumn k ts rest → Good ts → IsName k.name × Good rest
  key_carry k ts rest is all = at_carry k.left (t.Name k.name) ts rest is all

  pub name_carry : (n : List ℕ) (ts rest : List Lexeme) → g.IsName n ts rest → Good ts → IsName n × Good rest
  name_carry n ts rest is all = is_carry (t.Name n) ts rest is all

  pub assignment_carry : (a : Assignment) (ts rest : List Lexeme) → IsAssignment a ts rest → Good ts → IsValidAssignment m a × Good rest
  assignment_carry a ts rest (mid, n, (after, e, s)) all =
      let h = is_carry (t.Name a.column) ts mid n all in
      let k = sum_carry a.sum after rest s (is_carry (t.Compare is.Equal) mid after e h.1).1 in
      ((h.0, k.0), k.1)
