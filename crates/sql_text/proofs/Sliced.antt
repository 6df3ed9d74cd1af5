-- The names and literals of a statement stand in its text where their tokens do.
use Rattle.std.proofs.Common.{◌≡◌, inl, inr, ℕ, zero, suc, ◌+◌, ◌-◌, ◌≤◌, Bool, true, false, List, [], ◌∷◌, ◌++◌, length, map, Option, Some, None, Result, Ok, Err, IfOk, refl, sym, ap, ◌∙◌, subst, arith, append_assoc, append-nil}
use Rattle.drda_words.specs.Place.{StandsAt}
use Rattle.sql_lex.specs.Markers.{markers_in}
use Rattle.sql_lex.specs.Stands.{AllStand, AreApart, LieApart, ahead_of, reach}
use Rattle.sql_lex.specs.Tokens.{Lexeme, tokens}
use Rattle.sql_lex.specs.declared.terminal.Terminal.{Terminal}
use Rattle.sql_lex.specs.declared.terminal.Terminal.TheVariants as w
use Rattle.sql_lex.specs.declared.token.Comparison.{Comparison}
use Rattle.sql_lex.specs.declared.token.Comparison.TheVariants as is
use Rattle.sql_lex.specs.declared.token.Token.{Token}
use Rattle.sql_lex.specs.declared.token.Token.TheVariants as t
use Rattle.sql_text.specs.Checks.{refusal_of}
use Rattle.sql_text.specs.Grammar as g
use Rattle.sql_text.specs.Grammar.{At, Is, The, IsList, IsNumber, IsValue, IsTerm, IsOperation, AreAddends, IsSum, IsAll, IsAny, IsPrimary, IsNested, IsType, IsNullable, IsDefinition, IsKeyColumn, IsAssignment, IsFilterUnder, IsStatement, AreListed, AreSelected}
use Rattle.sql_text.specs.Plain as plain
use Rattle.sql_text.specs.Slices.{StandFrom, addend_slices, assignment_slices, columns_slices, command_slices, definition_slices, filter_slices, joined, key_slices, layer_slices, literal_slices, name_slices, predicate_slices, slices_of, sum_slices, term_slices}
use Rattle.sql_text.specs.Text.{answer}
use Rattle.sql_text.specs.declared.draft.Draft.{Draft}
use Rattle.sql_text.specs.declared.draft.Draft.TheVariants as draft
use Rattle.sql_text.specs.declared.draft.DraftColumn.{DraftColumn}
use Rattle.sql_text.specs.declared.draft.DraftKey.{DraftKey}
use Rattle.sql_text.specs.declared.draft.DraftType.{DraftType}
use Rattle.sql_text.specs.declared.draft.DraftType.TheVariants as column
use Rattle.sql_text.specs.declared.error.SqlError.{SqlError}
use Rattle.sql_text.specs.declared.tree.Addend.{Addend}
use Rattle.sql_text.specs.declared.tree.Assignment.{Assignment}
use Rattle.sql_text.specs.declared.tree.Columns.{Columns}
use Rattle.sql_text.specs.declared.tree.Columns.TheVariants as columns
use Rattle.sql_text.specs.declared.tree.Literal.{Literal}
use Rattle.sql_text.specs.declared.tree.Literal.TheVariants as literal
use Rattle.sql_text.specs.declared.tree.Operation.{Operation}
use Rattle.sql_text.specs.declared.tree.Operation.TheVariants as operation
use Rattle.sql_text.specs.declared.tree.Predicate.{Predicate}
use Rattle.sql_text.specs.declared.tree.Predicate.TheFolds.{fold-Predicate, fold-roll-Predicate}
use Rattle.sql_text.specs.declared.tree.Predicate.TheOpen.{Predicate-F}
use Rattle.sql_text.specs.declared.tree.Predicate.TheVariants as predicate
use Rattle.sql_text.specs.declared.tree.Predicate.TheVariants.{rolls-All, rolls-Any, rolls-Compare, rolls-Group, rolls-IsNull, rolls-Not}
use Rattle.sql_text.specs.declared.tree.Statement.{Statement}
use Rattle.sql_text.specs.declared.tree.Sum.{Sum}
use Rattle.sql_text.specs.declared.tree.Term.{Term}
use Rattle.sql_text.specs.declared.tree.Term.TheVariants as term
use Rattle.sql_text.proofs.Valid.{answered}

-- ---- the slices of a predicate

any_slices : (ps : List Predicate) → predicate_slices (predicate.Any ps) ≡ joined (map predicate_slices ps)
unfolding predicate_slices
any_slices ps = ap (fold-Predicate (List (List ℕ)) layer_slices) (sym (rolls-Any ps)) ∙ fold-roll-Predicate (List (List ℕ)) layer_slices (Predicate-F.Any ps)

all_slices : (ps : List Predicate) → predicate_slices (predicate.All ps) ≡ joined (map predicate_slices ps)
unfolding predicate_slices
all_slices ps = ap (fold-Predicate (List (List ℕ)) layer_slices) (sym (rolls-All ps)) ∙ fold-roll-Predicate (List (List ℕ)) layer_slices (Predicate-F.All ps)

not_slices : (p : Predicate) → predicate_slices (predicate.Not p) ≡ predicate_slices p
unfolding predicate_slices
not_slices p = ap (fold-Predicate (List (List ℕ)) layer_slices) (sym (rolls-Not p)) ∙ fold-roll-Predicate (List (List ℕ)) layer_slices (Predicate-F.Not p)

group_slices : (p : Predicate) → predicate_slices (predicate.Group p) ≡ predicate_slices p
unfolding predicate_slices
group_slices p = ap (fold-Predicate (List (List ℕ)) layer_slices) (sym (rolls-Group p)) ∙ fold-roll-Predicate (List (List ℕ)) layer_slices (Predicate-F.Group p)

compare_slices : (a b : Term) (c : Comparison) → predicate_slices (predicate.Compare a c b) ≡ term_slices a ++ term_slices b
unfolding predicate_slices
compare_slices a b c = ap (fold-Predicate (List (List ℕ)) layer_slices) (sym (rolls-Compare a c b)) ∙ fold-roll-Predicate (List (List ℕ)) layer_slices (Predicate-F.Compare a c b)

null_slices : (n : List ℕ) (negates : Bool) → predicate_slices (predicate.IsNull n negates) ≡ n ∷ []
unfolding predicate_slices
null_slices n negates = ap (fold-Predicate (List (List ℕ)) layer_slices) (sym (rolls-IsNull n negates)) ∙ fold-roll-Predicate (List (List ℕ)) layer_slices (Predicate-F.IsNull n negates)

-- ---- the slices of lists

-- those of what a list is made into
through : {A B : Type 0} (f : A → B) (g : B → List (List ℕ)) (xs : List A) → joined (map g (map f xs)) ≡ joined (map (λ x. g (f x)) xs)
through f g [] = refl
through f g (x ∷ xs) = ap (λ (u : List (List ℕ)). g (f x) ++ u) (through f g xs)

-- ---- tokens and their parts

module _ (text : List ℕ) where
  -- the place of the first of these tokens
  abbrev pos : List Lexeme → ℕ
  pos ts = length text - ahead_of ts

  record Good (ts : List Lexeme) : Type 0 where
    pub stand : AllStand text ts
    pub apart : AreApart ts
    pub inside : ahead_of ts ≤ length text

  -- these slices stand in front of all that stands behind the tokens
  record Takes (slices : List (List ℕ)) (ts rest : List Lexeme) : Type 0 where
    pub front : (more : List (List ℕ)) → StandFrom text (pos rest) more → StandFrom text (pos ts) (slices ++ more)
    pub good : Good rest

  later : (n m : ℕ) (slices : List (List ℕ)) → m ≤ n → StandFrom text n slices → StandFrom text m slices
  later n m [] le h = tt
  later n m (slice ∷ slices) le (at, above, stands, more) = (at, omega (arith, le, above), stands, more)

  nothing : (ts : List Lexeme) → Good ts → Takes [] ts ts
  nothing ts h = record { front = λ more k. k; good = h }

  both : (one two : List (List ℕ)) (ts mid rest : List Lexeme) → Takes one ts mid → Takes two mid rest → Takes (one ++ two) ts rest
  both one two ts mid rest h k = record {
    front = λ more j. subst (λ u. StandFrom text (pos ts) u) (sym (append_assoc one two more)) (h.front (two ++ more) (k.front more j));
    good = k.good;
  }

  first : (one : List (List ℕ)) (ts mid rest : List Lexeme) → Takes one ts mid → Takes [] mid rest → Takes one ts rest
  first one ts mid rest h k = record { front = λ more j. h.front more (k.front more j); good = k.good }

  second : (two : List (List ℕ)) (ts mid rest : List Lexeme) → Takes [] ts mid → Takes two mid rest → Takes two ts rest
  second two ts mid rest h k = record { front = λ more j. h.front (two ++ more) (k.front more j); good = k.good }

  -- ---- single tokens

  good_rest : (l : Lexeme) (ts : List Lexeme) → Good (l ∷ ts) → Good ts
  good_rest l ts h = let ends = h.apart.0 in let inside = h.inside in record { stand = h.stand.1; apart = h.apart.2; inside = omega (arith, inside, ends) }

  skipped : (l : Lexeme) (rest : List Lexeme) → Good (l ∷ rest) → Takes [] (l ∷ rest) rest
  skipped l rest h =
      let ends = h.apart.0 in
      let le : pos (l ∷ rest) ≤ pos rest = omega (arith, ends) in
      record { front = λ more k. later (pos rest) (pos (l ∷ rest)) more le k; good = good_rest l rest h }

  part : (l : Lexeme) (rest : List Lexeme) (slice : List ℕ) (at : ℕ) → pos (l ∷ rest) ≤ at → at + length slice ≤ pos (l ∷ rest) + reach l.1 → StandsAt text at slice → Good (l ∷ rest)
      → Takes (slice ∷ []) (l ∷ rest) rest
  part l rest slice at above within stands h =
      let ends = h.apart.0 in
      let inside = h.inside in
      let le : at + length slice ≤ pos rest = omega (arith, ends, inside, within) in
      record { front = λ more k. (at, above, stands, later (pos rest) (at + length slice) more le k); good = good_rest l rest h }

  over : (left : ℕ) (n : List ℕ) (m : Lexeme) (rest : List Lexeme) → Good ((left, t.Minus (Some n)) ∷ m ∷ rest) → Takes (n ∷ []) ((left, t.Minus (Some n)) ∷ m ∷ rest) rest
  over left n m rest h =
      let ends = h.apart.1 in
      let inside = h.inside in
      let at : ℕ = length text - left in
      let le : at + length n ≤ pos rest = omega (arith, ends, inside) in
      let same : at ≤ at = omega arith in
      record { front = λ more k. (at, same, h.stand.0, later (pos rest) (at + length n) more le k); good = good_rest m rest (good_rest (left, t.Minus (Some n)) (m ∷ rest) h) }

  here : (slices : List (List ℕ)) (ts rest : List Lexeme) (l : Lexeme) → ts ≡ l ∷ rest → (Good (l ∷ rest) → Takes slices (l ∷ rest) rest) → Good ts → Takes slices ts rest
  here slices ts rest l same f h = subst (λ (u : List Lexeme). Takes slices u rest) (sym same) (f (subst (λ (u : List Lexeme). Good u) same h))

  at_skip : (left : ℕ) (tok : Token) (ts rest : List Lexeme) → At left tok ts rest → Good ts → Takes [] ts rest
  at_skip left tok ts rest same h = here [] ts rest (left, tok) same (skipped (left, tok) rest) h

  is_skip : (tok : Token) (ts rest : List Lexeme) → Is tok ts rest → Good ts → Takes [] ts rest
  is_skip tok ts rest (left, same) h = at_skip left tok ts rest same h

  the_skip : (v : Terminal) (ts rest : List Lexeme) → The v ts rest → Good ts → Takes [] ts rest
  the_skip v ts rest is h = is_skip (t.Fixed v) ts rest is h

  at_name : (left : ℕ) (n : List ℕ) (ts rest : List Lexeme) → At left (t.Name n) ts rest → Good ts → Takes (n ∷ []) ts rest
  at_name left n ts rest same h =
      here (n ∷ []) ts rest (left, t.Name n) same (λ k. part (left, t.Name n) rest n (length text - left) (omega arith) (omega arith) k.stand.0 k) h

  name : (n : List ℕ) (ts rest : List Lexeme) → g.IsName n ts rest → Good ts → Takes (n ∷ []) ts rest
  name n ts rest (left, same) h = at_name left n ts rest same h

  -- ---- lists

  list : {A : Type 0} (R : A → List Lexeme → List Lexeme → Type 0) (Between : List Lexeme → List Lexeme → Type 0) (f : A → List (List ℕ))
      → ((x : A) (ts rest : List Lexeme) → R x ts rest → Good ts → Takes (f x) ts rest) → ((ts rest : List Lexeme) → Between ts rest → Good ts → Takes [] ts rest)
      → (xs : List A) (ts rest : List Lexeme) → IsList R Between xs ts rest → Good ts → Takes (joined (map f xs)) ts rest
  list R Between f item between [] ts rest l h = absurd l
  list R Between f item between (x ∷ []) ts rest l h = let k = item x ts rest l h in both (f x) [] ts rest rest k (nothing rest k.good)
  list R Between f item between (x ∷ y ∷ ys) ts rest (mid, r, (after, b, l)) h =
      let k = item x ts mid r h in
      let between_them = between mid after b k.good in
      both (f x) (joined (map f (y ∷ ys))) ts mid rest k
      (second (joined (map f (y ∷ ys))) mid after rest between_them (list R Between f item between (y ∷ ys) after rest l between_them.good))

  -- ---- values and sums

  number : (n : List ℕ) (ts rest : List Lexeme) → IsNumber n ts rest → Good ts → Takes (n ∷ []) ts rest
  number n ts rest (inl ((left, same), fits)) h =
      here (n ∷ []) ts rest (left, t.Number n) same (λ k. part (left, t.Number n) rest n (length text - left) (omega arith) (omega arith) k.stand.0 k) h
  number n ts rest (inr (d, (mid, (left, same), (next, behind)), fits)) h =
      let whole : ts ≡ (left, t.Minus (Some n)) ∷ (next, t.Number d) ∷ rest = same ∙ ap (λ (u : List Lexeme). (left, t.Minus (Some n)) ∷ u) behind in
      subst (λ (u : List Lexeme). Takes (n ∷ []) u rest) (sym whole) (over left n (next, t.Number d) rest (subst (λ (u : List Lexeme). Good u) whole h))

  value : (x : Literal) (ts rest : List Lexeme) → IsValue x ts rest → Good ts → Takes (literal_slices x) ts rest
  value (literal.Number n) ts rest is h = number n ts rest is h
  value (literal.Text z) ts rest (left, same) h =
      here (z ∷ []) ts rest (left, t.Text z) same (λ k. part (left, t.Text z) rest z (length text - left + 1) (omega arith) (omega arith) k.stand.0 k) h
  value (literal.Bytes z) ts rest (left, same) h =
      here (z ∷ []) ts rest (left, t.Bytes z) same (λ k. part (left, t.Bytes z) rest z (length text - left + 2) (omega arith) (omega arith) k.stand.0 k) h
  value (literal.Marker n) ts rest is h = is_skip (t.Marker n) ts rest is h
  value literal.Null ts rest is h = the_skip w.Null ts rest is h

  a_term : (a : Term) (ts rest : List Lexeme) → IsTerm a ts rest → Good ts → Takes (term_slices a) ts rest
  a_term (term.Column n) ts rest is h = name n ts rest is h
  a_term (term.Value x) ts rest is h = value x ts rest is h

  an_operation : (o : Operation) (ts rest : List Lexeme) → IsOperation o ts rest → Good ts → Takes [] ts rest
  an_operation operation.Add ts rest is h = the_skip w.Plus ts rest is h
  an_operation operation.Subtract ts rest (n, is) h = is_skip (t.Minus n) ts rest is h

  addends : (xs : List Addend) (ts rest : List Lexeme) → AreAddends xs ts rest → Good ts → Takes (joined (map addend_slices xs)) ts rest
  addends [] ts rest same h = subst (λ (u : List Lexeme). Takes [] ts u) same (nothing ts h)
  addends (x ∷ xs) ts rest (mid, o, (after, a, more)) h =
      let sign = an_operation x.operation ts mid o h in
      let here_is = a_term x.term mid after a sign.good in
      second (joined (map addend_slices (x ∷ xs))) ts mid rest sign
      (both (term_slices x.term) (joined (map addend_slices xs)) mid after rest here_is (addends xs after rest more here_is.good))

  a_sum : (s : Sum) (ts rest : List Lexeme) → IsSum s ts rest → Good ts → Takes (sum_slices s) ts rest
  a_sum s ts rest (mid, a, more) h =
      let k = a_term s.first ts mid a h in
      both (term_slices s.first) (joined (map addend_slices s.rest)) ts mid rest k (addends s.rest mid rest more k.good)

  -- ---- predicates

  by_slices : (slices others : List (List ℕ)) (ts rest : List Lexeme) → others ≡ slices → Takes slices ts rest → Takes others ts rest
  by_slices slices others ts rest same h = subst (λ (u : List (List ℕ)). Takes u ts rest) (sym same) h

  module _ (R : Predicate → List Lexeme → List Lexeme → Type 0) (nested : (p : Predicate) (ts rest : List Lexeme) → R p ts rest → Good ts → Takes (predicate_slices p) ts rest) where
    all : (p : Predicate) (ts rest : List Lexeme) → IsAll R p ts rest → Good ts → Takes (predicate_slices p) ts rest
    all p ts rest (ps, same, l) h =
        by_slices (joined (map predicate_slices ps)) (predicate_slices p) ts rest (ap predicate_slices same ∙ all_slices ps)
        (list R (The w.And) predicate_slices nested (the_skip w.And) ps ts rest l h)

    any : (p : Predicate) (ts rest : List Lexeme) → IsAny R p ts rest → Good ts → Takes (predicate_slices p) ts rest
    any p ts rest (ps, same, l) h =
        by_slices (joined (map predicate_slices ps)) (predicate_slices p) ts rest (ap predicate_slices same ∙ any_slices ps)
        (list (IsAll R) (The w.Or) predicate_slices all (the_skip w.Or) ps ts rest l h)

    primary : (p : Predicate) (ts rest : List Lexeme) → IsPrimary R p ts rest → Good ts → Takes (predicate_slices p) ts rest
    primary p ts rest (g.negated {p = q} (mid, n, r)) h =
        let k = the_skip w.Not ts mid n h in
        by_slices (predicate_slices q) (predicate_slices (predicate.Not q)) ts rest (not_slices q)
        (second (predicate_slices q) ts mid rest k (nested q mid rest r k.good))
    primary p ts rest (g.grouped {p = q} (mid, o, (after, r, c))) h =
        let k = the_skip w.Open ts mid o h in
        let inner = any q mid after r k.good in
        by_slices (predicate_slices q) (predicate_slices (predicate.Group q)) ts rest (group_slices q)
        (second (predicate_slices q) ts mid rest k (first (predicate_slices q) mid after rest inner (the_skip w.Close after rest c inner.good)))
    primary p ts rest (g.compared {a = a} {b = b} {c = c} (mid, x, (after, s, y))) h =
        let k = a_term a ts mid x h in
        let sign = is_skip (t.Compare c) mid after s k.good in
        by_slices (term_slices a ++ term_slices b) (predicate_slices (predicate.Compare a c b)) ts rest (compare_slices a b c)
        (both (term_slices a) (term_slices b) ts mid rest k (second (term_slices b) mid after rest sign (a_term b after rest y sign.good)))
    primary p ts rest (g.null {n = n} (mid, x, (after, i, u))) h =
        let k = name n ts mid x h in
        let is_word = the_skip w.Is mid after i k.good in
        by_slices (n ∷ []) (predicate_slices (predicate.IsNull n false)) ts rest (null_slices n false)
        (first (n ∷ []) ts mid rest k (first [] mid after rest is_word (the_skip w.Null after rest u is_word.good)))
    primary p ts rest (g.not_null {n = n} (mid, x, (after, i, (last, j, u)))) h =
        let k = name n ts mid x h in
        let is_word = the_skip w.Is mid after i k.good in
        let not_word = the_skip w.Not after last j is_word.good in
        by_slices (n ∷ []) (predicate_slices (predicate.IsNull n true)) ts rest (null_slices n true)
        (first (n ∷ []) ts mid rest k (first [] mid after rest is_word (first [] after last rest not_word (the_skip w.Null last rest u not_word.good))))

  nested : (depth : ℕ) (p : Predicate) (ts rest : List Lexeme) → IsNested depth p ts rest → Good ts → Takes (predicate_slices p) ts rest
  nested zero p ts rest r h = absurd r
  nested (suc depth) p ts rest r h = primary (IsNested depth) (nested depth) p ts rest r h

  filter : (f : Option Predicate) (ts rest : List Lexeme) → IsFilterUnder 65 f ts rest → Good ts → Takes (filter_slices f) ts rest
  filter None ts rest same h = subst (λ (u : List Lexeme). Takes [] ts u) same (nothing ts h)
  filter (Some p) ts rest (mid, is, r) h =
      let k = the_skip w.Where ts mid is h in
      second (predicate_slices p) ts mid rest k (any (IsNested 65) (nested 65) p mid rest r k.good)

  -- ---- columns

  length_skip : (n left : ℕ) (word : Terminal) (ts m1 m2 m3 rest : List Lexeme) (d : List ℕ) → The word ts m1 → The w.Open m1 m2 → At left (t.Number d) m2 m3 → The w.Close m3 rest → Good ts → Takes [] ts rest
  length_skip n left word ts m1 m2 m3 rest d is o l c h =
      let a = the_skip word ts m1 is h in
      let b = the_skip w.Open m1 m2 o a.good in
      let e = at_skip left (t.Number d) m2 m3 l b.good in
      first [] ts m1 rest a (first [] m1 m2 rest b (first [] m2 m3 rest e (the_skip w.Close m3 rest c e.good)))

  a_type : (c : DraftType) (ts rest : List Lexeme) → IsType c ts rest → Good ts → Takes [] ts rest
  a_type column.SmallInt ts rest is h = the_skip w.SmallInt ts rest is h
  a_type column.Integer ts rest (inl is) h = the_skip w.Integer ts rest is h
  a_type column.Integer ts rest (inr is) h = the_skip w.Int ts rest is h
  a_type column.BigInt ts rest is h = the_skip w.BigInt ts rest is h
  a_type (column.VarChar n left) ts rest (m1, is, (m2, o, (m3, (d, l, same), c))) h = length_skip n left w.VarChar ts m1 m2 m3 rest d is o l c h
  a_type (column.VarBinary n left) ts rest (m1, is, (m2, o, (m3, (d, l, same), c))) h = length_skip n left w.VarBinary ts m1 m2 m3 rest d is o l c h

  a_nullable : (b : Bool) (ts rest : List Lexeme) → IsNullable b ts rest → Good ts → Takes [] ts rest
  a_nullable true ts rest same h = subst (λ (u : List Lexeme). Takes [] ts u) same (nothing ts h)
  a_nullable false ts rest (mid, n, u) h = let k = the_skip w.Not ts mid n h in first [] ts mid rest k (the_skip w.Null mid rest u k.good)

  a_definition : (d : DraftColumn) (ts rest : List Lexeme) → IsDefinition d ts rest → Good ts → Takes (definition_slices (plain.definition d)) ts rest
  a_definition d ts rest (mid, n, (after, c, b)) h =
      let k = at_name d.left d.name ts mid n h in
      let type = a_type d.column_type mid after c k.good in
      first (d.name ∷ []) ts mid rest k (first [] mid after rest type (a_nullable d.nullable after rest b type.good))

  a_key : (k : DraftKey) (ts rest : List Lexeme) → IsKeyColumn k ts rest → Good ts → Takes (key_slices (plain.key_column k)) ts rest
  a_key k ts rest is h = at_name k.left k.name ts rest is h

  an_assignment : (a : Assignment) (ts rest : List Lexeme) → IsAssignment a ts rest → Good ts → Takes (assignment_slices a) ts rest
  an_assignment a ts rest (mid, n, (after, e, s)) h =
      let k = name a.column ts mid n h in
      let sign = is_skip (t.Compare is.Equal) mid after e k.good in
      both (a.column ∷ []) (sum_slices a.sum) ts mid rest k (second (sum_slices a.sum) mid after rest sign (a_sum a.sum after rest s sign.good))

  names : (ns : List (List ℕ)) (ts rest : List Lexeme) → g.AreNames ns ts rest → Good ts → Takes (joined (map name_slices ns)) ts rest
  names ns ts rest l h = list g.IsName (The w.Comma) name_slices name (the_skip w.Comma) ns ts rest l h

  listed : (c : Columns) (ts rest : List Lexeme) → AreListed c ts rest → Good ts → Takes (columns_slices c) ts rest
  listed columns.All ts rest same h = subst (λ (u : List Lexeme). Takes [] ts u) same (nothing ts h)
  listed (columns.Named ns) ts rest (mid, o, (after, l, c)) h =
      let k = the_skip w.Open ts mid o h in
      let some = names ns mid after l k.good in
      second (columns_slices (columns.Named ns)) ts mid rest k (first (columns_slices (columns.Named ns)) mid after rest some (the_skip w.Close after rest c some.good))

  selected : (c : Columns) (ts rest : List Lexeme) → AreSelected c ts rest → Good ts → Takes (columns_slices c) ts rest
  selected columns.All ts rest is h = the_skip w.Star ts rest is h
  selected (columns.Named ns) ts rest l h = names ns ts rest l h

  -- ---- statements

  command : (d : Draft) (ts rest : List Lexeme) → g.IsCommand d ts rest → Good ts → Takes (command_slices (plain.command d)) ts rest
  command (draft.Create table ds ks) ts rest (m1, create, (m2, tab, (m3, n, (m4, opens, (m5, defs, (m6, comma, (m7, prim, (m8, word, (m9, opens', (m10, keys, (m11, closes, ends))))))))))) h =
      let a = the_skip w.Create ts m1 create h in
      let b = the_skip w.Table m1 m2 tab a.good in
      let c = name table m2 m3 n b.good in
      let o = the_skip w.Open m3 m4 opens c.good in
      let d = list IsDefinition (The w.Comma) (λ x. definition_slices (plain.definition x)) a_definition (the_skip w.Comma) ds m4 m5 defs o.good in
      let e = the_skip w.Comma m5 m6 comma d.good in
      let f = the_skip w.Primary m6 m7 prim e.good in
      let i = the_skip w.Key m7 m8 word f.good in
      let j = the_skip w.Open m8 m9 opens' i.good in
      let k = list IsKeyColumn (The w.Comma) (λ x. key_slices (plain.key_column x)) a_key (the_skip w.Comma) ks m9 m10 keys j.good in
      let l = the_skip w.Close m10 m11 closes k.good in
      let m = the_skip w.Close m11 rest ends l.good in
      let D = joined (map (λ x. definition_slices (plain.definition x)) ds) in
      let K = joined (map (λ x. key_slices (plain.key_column x)) ks) in
      let keyed = second K m5 m6 rest e (second K m6 m7 rest f (second K m7 m8 rest i (second K m8 m9 rest j (first K m9 m10 rest k (first [] m10 m11 rest l m))))) in
      let whole = second (table ∷ (D ++ K)) ts m1 rest a (second (table ∷ (D ++ K)) m1 m2 rest b (both (table ∷ []) (D ++ K) m2 m3 rest c (second (D ++ K) m3 m4 rest o (both D K m4 m5 rest d keyed)))) in
      by_slices (table ∷ (D ++ K)) _ ts rest
      (ap (λ u. table ∷ (u ++ joined (map key_slices (map plain.key_column ks)))) (through plain.definition definition_slices ds) ∙ ap (λ u. table ∷ (D ++ u)) (through plain.key_column key_slices ks)) whole
  command (draft.Insert table l values) ts rest (m1, insert, (m2, into, (m3, n, (m4, ls, (m5, word, (m6, opens, (m7, vs, closes))))))) h =
      let a = the_skip w.Insert ts m1 insert h in
      let b = the_skip w.Into m1 m2 into a.good in
      let c = name table m2 m3 n b.good in
      let d = listed l m3 m4 ls c.good in
      let e = the_skip w.Values m4 m5 word d.good in
      let o = the_skip w.Open m5 m6 opens e.good in
      let v = list IsValue (The w.Comma) literal_slices value (the_skip w.Comma) values m6 m7 vs o.good in
      let V = joined (map literal_slices values) in
      let L = columns_slices l in
      second (table ∷ (L ++ V)) ts m1 rest a (second (table ∷ (L ++ V)) m1 m2 rest b (both (table ∷ []) (L ++ V) m2 m3 rest c (both L V m3 m4 rest d
      (second V m4 m5 rest e (second V m5 m6 rest o (first V m6 m7 rest v (the_skip w.Close m7 rest closes v.good)))))))
  command (draft.Update table assignments f) ts rest (m1, update, (m2, n, (m3, word, (m4, l, is)))) h =
      let a = the_skip w.Update ts m1 update h in
      let b = name table m1 m2 n a.good in
      let c = the_skip w.Set m2 m3 word b.good in
      let d = list IsAssignment (The w.Comma) assignment_slices an_assignment (the_skip w.Comma) assignments m3 m4 l c.good in
      let A = joined (map assignment_slices assignments) in
      let F = filter_slices f in
      second (table ∷ (A ++ F)) ts m1 rest a (both (table ∷ []) (A ++ F) m1 m2 rest b (second (A ++ F) m2 m3 rest c (both A F m3 m4 rest d (filter f m4 rest is d.good))))
  command (draft.Delete table f) ts rest (m1, delete, (m2, from, (m3, n, is))) h =
      let a = the_skip w.Delete ts m1 delete h in
      let b = the_skip w.From m1 m2 from a.good in
      let c = name table m2 m3 n b.good in
      let F = filter_slices f in
      second (table ∷ F) ts m1 rest a (second (table ∷ F) m1 m2 rest b (both (table ∷ []) F m2 m3 rest c (filter f m3 rest is c.good)))
  command (draft.Select cs table f) ts rest (m1, select, (m2, l, (m3, from, (m4, n, is)))) h =
      let a = the_skip w.Select ts m1 select h in
      let b = selected cs m1 m2 l a.good in
      let c = the_skip w.From m2 m3 from b.good in
      let d = name table m3 m4 n c.good in
      let C = columns_slices cs in
      let F = filter_slices f in
      second (C ++ (table ∷ F)) ts m1 rest a (both C (table ∷ F) m1 m2 rest b (second (table ∷ F) m2 m3 rest c (both (table ∷ []) F m3 m4 rest d (filter f m4 rest is d.good))))

  stand : (d : Draft) (ts : List Lexeme) → IsStatement d ts → Good ts → StandFrom text 0 (command_slices (plain.command d))
  stand d ts is h =
      let k = command d ts [] is h in
      let slices = command_slices (plain.command d) in
      let from : 0 ≤ pos ts = omega arith in
      later (pos ts) 0 slices from (subst (λ (u : List (List ℕ)). StandFrom text (pos ts) u) (append-nil slices) (k.front [] tt))

-- ---- what is answered

pub found_sliced : (text : List ℕ) (r : Result Statement SqlError) → AllStand text (tokens text) → LieApart text (tokens text)
    → IfOk r (λ s. (d : Draft) × IsStatement d (tokens text) × (answer text d ≡ Ok s)) → IfOk r (λ s. StandFrom text 0 (slices_of s))
unfolding answer slices_of
found_sliced text (Ok s) stands apart (d, is, e) =
    let m = markers_in (tokens text) in
    let a = answered (length text) m d (refusal_of m d) s e in
    subst (λ (u : Statement). StandFrom text 0 (command_slices u.command)) a.1 (stand text d (tokens text) is (record { stand = stands; apart = apart.1; inside = apart.0 }))
found_sliced text (Err f) stands apart h = tt
