-- What each rule of the grammar takes is spelled so, and where it stops it goes on otherwise.
use Rattle.std.proofs.Common.{not, ◌≡◌, ◌<◌, ◌≤◌, inl, inr, ℕ, zero, suc, Bool, true, false, cond, List, [], ◌∷◌, ◌++◌, length, refl, sym, ap, subst, ◌∙◌, Ok, Err, Option, Some, None, append_assoc, append-nil, arith}
use Rattle.sql_lex.specs.declared.terminal.Terminal.{Terminal}
use Rattle.sql_lex.specs.declared.terminal.Terminal.TheVariants as w
use Rattle.sql_lex.specs.declared.token.Comparison.TheVariants as is
use Rattle.sql_lex.specs.declared.token.Token.{Token}
use Rattle.sql_lex.specs.declared.token.Token.TheVariants as t
use Rattle.sql_lex.specs.Tokens.{Lexeme}
use Rattle.sql_text.specs.Number.{is_bigint, is_negative_bigint, length_of}
use Rattle.sql_text.specs.declared.fault.Fault.TheVariants as fault
use Rattle.sql_text.specs.declared.token.ValueStart.{ValueStart}
use Rattle.sql_text.specs.declared.token.ValueStart.TheVariants as start
use Rattle.sql_text.specs.declared.token.TermStart.{TermStart}
use Rattle.sql_text.specs.declared.token.TermStart.TheVariants as begins
use Rattle.sql_text.specs.declared.token.TypeWord.{TypeWord}
use Rattle.sql_text.specs.declared.token.TypeWord.TheVariants as type
use Rattle.sql_text.specs.declared.token.Verb.{Verb}
use Rattle.sql_text.specs.declared.token.Verb.TheVariants as verb
use Rattle.sql_text.specs.declared.tree.Literal.{Literal}
use Rattle.sql_text.specs.declared.tree.Literal.TheVariants as literal
use Rattle.sql_text.specs.declared.tree.Term.{Term}
use Rattle.sql_text.specs.declared.tree.Term.TheVariants as term
use Rattle.sql_text.specs.declared.tree.Operation.{Operation}
use Rattle.sql_text.specs.declared.tree.Addend.{Addend}
use Rattle.sql_text.specs.declared.tree.Predicate.{Predicate}
use Rattle.sql_text.specs.declared.tree.Predicate.TheVariants as predicate
use Rattle.sql_text.specs.declared.draft.DraftType.TheVariants as column
use Rattle.sql_text.specs.declared.draft.DraftColumn.{DraftColumn}
use Rattle.sql_text.specs.declared.tree.Columns.TheVariants as columns
use Rattle.sql_text.specs.declared.draft.Draft.{Draft}
use Rattle.sql_text.specs.Grammar as g
use Rattle.sql_text.specs.Grammar.{◌⨾◌, Nothing, At, Is, The, IsList, IsName, IsValue, IsTerm, IsOperation, AreAddends, IsSum, IsAll, IsAny, IsPrimary, IsNested, IsLength, IsType, IsNullable, IsDefinition, IsKeyColumn, IsAssignment, AreNames, AreListed, AreSelected, IsFilterUnder, IsCommandUnder, IsCommand, IsStatement}
use Rattle.sql_text.specs.Place.{SameHead}
use Rattle.sql_text.specs.Reading.{Parser, Parsed, ◌>>=◌, pure, as_name, as_digits, as_length, as_comparison, as_equal, as_operation, as_start, as_value_term, as_term, as_type, as_verb, name_at, placed_name_at, digits_at, length_at, comparison_at, equal_at, operation_at, start_at, term_start_at, type_word_at, verb_at, end_at}
use Rattle.sql_text.specs.Rules.{longest, items_from, items, value_by, value_at, term_by, term_at, addend, addends_by, addends_from, addends_at, sum_at, Opening, Negates, Opens, Names, Else, opening_of, compared, null_test, named, comparison, all_at, any_at, group, negation, level_by, level, neg_at, predicate_at, names_at, values_at, key_column_at, key_at, assignment_at, assignments_at, length_within, type_by, type_at, nullable_at, definition_at, another, definitions_at, listed_at, selected_at, filter_at, create_at, insert_at, update_at, delete_at, select_at, command_by, command_at}
use Rattle.sql_text.proofs.Only.{is_length}
use Rattle.sql_text.proofs.OnlyRules.{value_shorter, term_shorter, assignment_shorter, definition_shorter, key_column_shorter, name_shorter, all_shorter, nested_shorter}
use Rattle.sql_text.proofs.Outcomes.{bind_ok, ok_parts}
use Rattle.sql_text.proofs.TokenKinds.{name_is, digits_is, length_is, comparison_is, equal_is, operation_is}
use Rattle.sql_text.proofs.Told.{Rule, GoesOn, Exists, ◌⇒◌, Told, Tells, Good, Fails, head_append, head_some, tells_bind_less, tells_bind, tells_then, good_bind, tells_pure, good_pure, tells_none, tells_less, tells_as, tells_found, good_expect, good_placed, OrNothing, tells_attempt, attempt_goes, IsMay, good_kind, good_the, tells_may_bind, tells_if, good_end, tells_items, tells_list}

module _ (D : Type 0) where
  good_name : Good D longest name_at IsName
  unfolding name_at
  good_name = good_kind as_name t.Name [] name_is

  good_placed_name : Good D longest placed_name_at (λ n. At n.1 (t.Name n.0))
  unfolding placed_name_at
  good_placed_name = good_placed as_name _ (λ l n more e. ap (λ tok. (l.0, tok) ∷ more) (name_is l.1 n e)) (([], 0), (0, t.Name []) ∷ [], λ follow. refl)

  -- ---- values and sums

  -- what a value begins with
  abbrev IsStart : Rule ValueStart
  IsStart (start.Whole v) = IsValue v
  IsStart (start.Negative n) = λ ts rest. Is (t.Minus (Some n)) ts rest × (is_negative_bigint n ≡ true)

  abbrev some_if : Bool → ValueStart → Option ValueStart
  some_if b s = cond b (Some s) None

  number_starts : (k : ℕ) (n : List ℕ) (b : Bool) (s : ValueStart) (more : List Lexeme) → is_bigint n ≡ b → some_if b (start.Whole (literal.Number n)) ≡ Some s → IsStart s ((k, t.Number n) ∷ more) more
  number_starts k n true s more fits e =
      let same : start.Whole (literal.Number n) ≡ s = cc in
      let P : ValueStart → Type 0 = λ v. IsStart v ((k, t.Number n) ∷ more) more in
      subst P same (inl ((k, refl), fits))
  number_starts k n false s more fits e = absurd (cc)

  negative_starts : (k : ℕ) (n : List ℕ) (b : Bool) (s : ValueStart) (more : List Lexeme) → is_negative_bigint n ≡ b → some_if b (start.Negative n) ≡ Some s → IsStart s ((k, t.Minus (Some n)) ∷ more) more
  negative_starts k n true s more fits e =
      let same : start.Negative n ≡ s = cc in
      let P : ValueStart → Type 0 = λ v. IsStart v ((k, t.Minus (Some n)) ∷ more) more in
      subst P same ((k, refl), fits)
  negative_starts k n false s more fits e = absurd (cc)

  literal_starts : (l : Lexeme) (v : Literal) (s : ValueStart) (more : List Lexeme) → Some (start.Whole v) ≡ Some s → IsValue v (l ∷ more) more → IsStart s (l ∷ more) more
  literal_starts l v s more e is =
      let same : start.Whole v ≡ s = cc in
      let P : ValueStart → Type 0 = λ u. IsStart u (l ∷ more) more in
      subst P same is

  starts : (l : Lexeme) (s : ValueStart) (more : List Lexeme) → as_start l.1 ≡ Some s → IsStart s (l ∷ more) more
  starts (k, t.Number n) s more e = number_starts k n (is_bigint n) s more refl e
  starts (k, t.Minus (Some n)) s more e = negative_starts k n (is_negative_bigint n) s more refl e
  starts (k, t.Text z) s more e = literal_starts (k, t.Text z) (literal.Text z) s more e (k, refl)
  starts (k, t.Bytes z) s more e = literal_starts (k, t.Bytes z) (literal.Bytes z) s more e (k, refl)
  starts (k, t.Marker n) s more e = literal_starts (k, t.Marker n) (literal.Marker n) s more e (k, refl)
  starts (k, t.Fixed w.Null) s more e = literal_starts (k, t.Fixed w.Null) literal.Null s more e (k, refl)
  starts (k, _) s more e = absurd (cc)

  good_start : Good D longest start_at IsStart
  unfolding start_at
  good_start = good_expect as_start IsStart starts (start.Whole literal.Null, (0, t.Fixed w.Null) ∷ [], λ follow. (0, refl))

  good_digits : Good D longest digits_at (λ n. Is (t.Number n))
  unfolding digits_at
  good_digits = good_kind as_digits t.Number [] digits_is

  good_value_by : (s : ValueStart) → Good D longest (value_by s) (IsStart s ⇒ IsValue)
  good_value_by (start.Whole v) = good_pure _ _ (λ rest ts is. is)
  good_value_by (start.Negative n) = good_bind _ _ _ _ good_digits (λ digits. good_pure _ _ (λ rest mid d ts m. inr (digits, (mid, m.0, d), m.1)))

  good_value : Good D longest value_at IsValue
  unfolding value_at
  good_value = good_bind _ _ _ _ good_start good_value_by

  -- what a term begins with
  abbrev IsTermStart : Rule TermStart
  IsTermStart (begins.Column n) = IsName n
  IsTermStart (begins.Value s) = IsStart s

  value_starts : (l : Lexeme) (o : Option ValueStart) (s : TermStart) (more : List Lexeme) → as_start l.1 ≡ o → as_value_term o ≡ Some s → IsTermStart s (l ∷ more) more
  value_starts l None s more e f = absurd (cc)
  value_starts l (Some v) s more e f =
      let same : begins.Value v ≡ s = cc in
      let P : TermStart → Type 0 = λ u. IsTermStart u (l ∷ more) more in
      subst P same (starts l v more e)

  name_starts : (l : Lexeme) (n : List ℕ) (s : TermStart) (more : List Lexeme) → l.1 ≡ t.Name n → Some (begins.Column n) ≡ Some s → IsTermStart s (l ∷ more) more
  name_starts l n s more e f =
      let same : begins.Column n ≡ s = cc in
      let P : TermStart → Type 0 = λ u. IsTermStart u (l ∷ more) more in
      subst P same (l.0, ap (λ tok. (l.0, tok) ∷ more) e)

  term_starts : (l : Lexeme) (s : TermStart) (more : List Lexeme) → as_term l.1 ≡ Some s → IsTermStart s (l ∷ more) more
  term_starts (k, t.Name n) s more e = name_starts (k, t.Name n) n s more refl e
  term_starts (k, tok) s more e = value_starts (k, tok) (as_start tok) s more refl e

  good_term_start : Good D longest term_start_at IsTermStart
  unfolding term_start_at
  good_term_start = good_expect as_term IsTermStart term_starts (begins.Column [], (0, t.Name []) ∷ [], λ follow. (0, refl))

  good_term_by : (s : TermStart) → Good D longest (term_by s) (IsTermStart s ⇒ IsTerm)
  good_term_by (begins.Column n) = good_pure _ _ (λ rest ts is. is)
  good_term_by (begins.Value s) = good_bind _ _ _ _ (good_value_by s) (λ v. good_pure _ _ (λ rest mid is ts start. is ts start))

  good_term : Good D longest term_at IsTerm
  unfolding term_at
  good_term = good_bind _ _ _ _ good_term_start good_term_by

  -- the addends that are read behind these
  abbrev AddedTo : List Addend → Rule (List Addend)
  AddedTo found xs ts rest = (ys : List Addend) × (xs ≡ found ++ ys) × AreAddends ys ts rest

  tells_operation : (n : ℕ) → Tells D n operation_at (OrNothing IsOperation)
  unfolding operation_at
  tells_operation n = tells_attempt as_operation IsOperation (λ l o more e. operation_is l o (l ∷ more) more e refl)

  operation_goes : Fails operation_at → ⊥
  unfolding operation_at
  operation_goes failed = attempt_goes as_operation failed

  tells_addends_by : (n : ℕ) (go : List Addend → Parser (List Addend)) (found : List Addend) → suc n ≤ longest → ((found' : List Addend) → Tells D n (go found') (AddedTo found')) → (o : Option Operation)
      → Tells D (suc n) (addends_by go found o) (OrNothing IsOperation o ⇒ AddedTo found)
  tells_addends_by n go found fits next None = tells_pure _ _ (λ rest ts same. ([], sym (append-nil found), same))
  tells_addends_by n go found fits next (Some o) =
      tells_bind_less (suc n) n _ _ _ _ (tells_less longest (suc n) _ _ fits good_term.0)
      (λ a. tells_as _ _ _ (next (found ++ addend o a ∷ [])) (λ xs after rest is mid m ts s. (addend o a ∷ is.0, is.1 ∙ append_assoc found (addend o a ∷ []) is.0, (mid, s, (after, m, is.2)))))
      (λ _ a. (found ++ addend o a ∷ [], [], λ follow mid m ts s. (addend o a ∷ [], refl, (mid, s, (follow, m, refl)))))
      (λ ts a rest e small. omega (arith, term_shorter a ts rest (tells_found {D = D} term_at IsTerm good_term.0 ts a rest e)))

  tells_addends_from : (n : ℕ) (found : List Addend) → n ≤ longest → Tells D n (addends_from n found) (AddedTo found)
  unfolding addends_from
  tells_addends_from zero found fits = tells_none _ _ (λ ts. refl)
  tells_addends_from (suc n) found fits =
      let room : n ≤ longest = omega arith in
      tells_bind _ _ _ _ (tells_operation (suc n)) (tells_addends_by n (addends_from n) found fits (λ found'. tells_addends_from n found' room)) (λ failed x. absurd (operation_goes failed))

  good_addends : Good D longest addends_at AreAddends
  unfolding addends_at
  good_addends = (tells_as _ _ _ (tells_addends_from longest [] (omega arith)) (λ xs ts rest is. let P : List Addend → Type 0 = λ ys. AreAddends ys ts rest in subst P (sym is.1) is.2), ([], [], λ follow. refl))

  good_sum : Good D longest sum_at IsSum
  unfolding sum_at
  good_sum = good_bind _ _ _ _ good_term (λ a. good_bind _ _ _ _ good_addends (λ rest. good_pure _ _ (λ end mid r ts is. (mid, is, r))))

  -- ---- predicates

  good_comparison_sign : Good D longest comparison_at (λ c. Is (t.Compare c))
  unfolding comparison_at
  good_comparison_sign = good_kind as_comparison t.Compare is.Equal comparison_is

  negates : (tok : Token) → opening_of tok ≡ Negates → tok ≡ t.Fixed w.Not
  negates (t.Fixed w.Not) e = refl
  negates _ e = absurd (cc)

  opens : (tok : Token) → opening_of tok ≡ Opens → tok ≡ t.Fixed w.Open
  opens (t.Fixed w.Open) e = refl
  opens _ e = absurd (cc)

  no_name : (v : Terminal) (n : List ℕ) → opening_of (t.Fixed v) ≡ Names n → ⊥
  no_name w.Not n e = cc
  no_name w.Open n e = cc
  no_name _ n e = cc

  names : (tok : Token) (n : List ℕ) → opening_of tok ≡ Names n → tok ≡ t.Name n
  names (t.Name m) n e = let s : m ≡ n = cc in ap t.Name s
  names (t.Fixed v) n e = absurd (no_name v n e)
  names _ n e = absurd (cc)

  level_start : (neg : Parser Predicate) (l : Lexeme) (st : Opening) → opening_of l.1 ≡ st → (u : List Lexeme) → level neg (l ∷ u) ≡ level_by neg st l u
  unfolding level
  level_start neg l st e u = rw e refl

  is_token : (l : Lexeme) (tok : Token) → l.1 ≡ tok → (u : List Lexeme) → Is tok (l ∷ u) u
  is_token l tok e u = (l.0, ap (λ same. (l.0, same) ∷ u) e)

  -- predicates over these parts
  module _ (neg : Parser Predicate) (R : Rule Predicate) where
    good_compared : (a : Term) → Good D longest (compared a) (IsTerm a ⇒ IsPrimary R)
    unfolding compared
    good_compared a = good_bind _ _ _ _ good_comparison_sign (λ c. good_bind _ _ _ _ good_term (λ b. good_pure _ _ (λ rest m2 is m1 sign ts first. g.compared (m1, first, (m2, sign, is)))))

    tells_comparison : Tells D longest comparison (IsPrimary R)
    unfolding comparison
    tells_comparison = tells_then _ _ _ _ good_value.0 (λ v. good_compared (term.Value v))

    by_not : (b : Bool) (n : List ℕ) (ts m1 m2 m3 rest : List Lexeme) → IsName n ts m1 → The w.Is m1 m2 → IsMay w.Not b m2 m3 → The w.Null m3 rest → IsPrimary R (predicate.IsNull n b) ts rest
    by_not true n ts m1 m2 m3 rest name is bars null = g.not_null (m1, name, (m2, is, (m3, bars, null)))
    by_not false n ts m1 m2 m3 rest name is same null = let P : List Lexeme → Type 0 = λ u. The w.Null u rest in g.null (m1, name, (m2, is, subst P (sym same) null))

    tells_null_test : (n : List ℕ) → Tells D longest (null_test n) (The w.Is ⇒ (IsName n ⇒ IsPrimary R))
    unfolding null_test
    tells_null_test n = tells_may_bind w.Not _ _ (λ b. tells_then _ _ _ _ (good_the w.Null).0 (λ _. good_pure _ _ (λ rest m3 null m2 bars m1 is ts name. by_not b n ts m1 m2 m3 rest name is bars null)))

    tells_named : (n : List ℕ) → Tells D longest (named n) (IsName n ⇒ IsPrimary R)
    unfolding named
    tells_named n = tells_if w.Is _ _ _ (tells_null_test n) (good_compared (term.Column n)).0

    as_level : (ts : List Lexeme) (o : Parsed Predicate) → ((u : List Lexeme) → SameHead ts u → level neg u ≡ comparison u) → Told D longest comparison (IsPrimary R) ts o → Told D longest (level neg) (IsPrimary R) ts o
    as_level ts (Ok x) same (front, e, found, stays) = (front, e, found, λ more h. same (front ++ more) (head_append ts front x.1 more e h) ∙ stays more h)
    as_level ts (Err (fault.Unexpected at)) same (front, bad, e, is, goes, stays) = (front, bad, e, is, goes, λ more h. same (front ++ more) (head_append ts front bad more e h) ∙ stays more h)
    as_level ts (Err fault.Deep) same deep = λ deeper small. let r = deep deeper small in (r.0, r.1, r.2, r.3, r.4, λ more. same (r.0 ++ more) (head_some ts r.0 r.1 more r.3 r.2) ∙ r.5 more)
    as_level ts (Err fault.Memory) same l = tt

    -- behind the token that it begins with
    pub behind : (q : Parser Predicate) (S : List Lexeme → List Lexeme → Type 0) (l : Lexeme) (ts : List Lexeme) (o : Parsed Predicate) → ((u : List Lexeme) → S (l ∷ u) u) → ((u : List Lexeme) → level neg (l ∷ u) ≡ q u)
        → Told D longest q (S ⇒ IsPrimary R) ts o → Told D longest (level neg) (IsPrimary R) (l ∷ ts) o
    behind q S l ts (Ok x) is same (front, e, found, stays) =
        (l ∷ front, ap (λ u. l ∷ u) e, λ more. found more (l ∷ (front ++ more)) (is (front ++ more)), λ more h. same (front ++ more) ∙ stays more h)
    behind q S l ts (Err (fault.Unexpected at)) is same (front, bad, e, here, goes, stays) =
        (l ∷ front, bad, ap (λ u. l ∷ u) e, here, (goes.0, goes.1, λ follow. goes.2 follow (l ∷ (front ++ (goes.1 ++ follow))) (is (front ++ (goes.1 ++ follow)))), λ more h. same (front ++ more) ∙ stays more h)
    behind q S l ts (Err fault.Deep) is same deep = λ deeper small.
        let room : length ts < longest = omega arith in
        let r = deep deeper room in
        (l ∷ r.0, r.1, tt, ap (λ u. l ∷ u) r.3, (r.4.0, r.4.1, λ follow. r.4.2 follow (l ∷ (r.0 ++ (r.4.1 ++ follow))) (is (r.0 ++ (r.4.1 ++ follow)))), λ more. same (r.0 ++ more) ∙ r.5 more)
    behind q S l ts (Err fault.Memory) is same m = tt

    level_nil : (u : List Lexeme) → SameHead [] u → level neg u ≡ comparison u
    unfolding level
    level_nil [] h = refl
    level_nil (m ∷ us) h = absurd h

    level_else : (l : Lexeme) (ts : List Lexeme) → opening_of l.1 ≡ Else → (u : List Lexeme) → SameHead (l ∷ ts) u → level neg u ≡ comparison u
    unfolding level
    level_else l ts e [] h = absurd h
    level_else l ts e (m ∷ us) h = rw (← h, e) refl

    module _ (nots : (l : Lexeme) (ts : List Lexeme) → opening_of l.1 ≡ Negates → Told D longest (level neg) (IsPrimary R) (l ∷ ts) (negation neg ts))
        (groups : (l : Lexeme) (ts : List Lexeme) → opening_of l.1 ≡ Opens → Told D longest (level neg) (IsPrimary R) (l ∷ ts) (group neg ts)) where
      told_start : (l : Lexeme) (ts : List Lexeme) (st : Opening) → opening_of l.1 ≡ st → Told D longest (level neg) (IsPrimary R) (l ∷ ts) (level_by neg st l ts)
      told_start l ts Negates e = nots l ts e
      told_start l ts Opens e = groups l ts e
      told_start l ts (Names n) e = behind (named n) (IsName n) l ts (named n ts) (is_token l (t.Name n) (names l.1 n e)) (level_start neg l (Names n) e) ((tells_named n).tell ts)
      told_start l ts Else e = as_level (l ∷ ts) (comparison (l ∷ ts)) (level_else l ts e) (tells_comparison.tell (l ∷ ts))

      told_level : (ts : List Lexeme) → Told D longest (level neg) (IsPrimary R) ts (level neg ts)
      unfolding level
      told_level [] = as_level [] (comparison []) level_nil (tells_comparison.tell [])
      told_level (l ∷ ts) = told_start l ts (opening_of l.1) refl

      pub tells_level : Tells D longest (level neg) (IsPrimary R)
      tells_level = record { tell = told_level }

  -- one level above parts that are told
  module _ (neg : Parser Predicate) (R : Rule Predicate) (told : Tells D longest neg R) (shorter : (p : Predicate) (ts rest : List Lexeme) → R p ts rest → length rest < length ts) where
    tells_all : Tells D longest (all_at neg) (IsAll R)
    unfolding all_at
    tells_all = tells_then _ _ _ _ (tells_list neg w.And R told shorter) (λ ps. good_pure _ _ (λ rest ts is. (ps, refl, is)))

    pub tells_any : Tells D longest (any_at neg) (IsAny R)
    unfolding any_at
    tells_any = tells_then _ _ _ _ (tells_list (all_at neg) w.Or (IsAll R) tells_all (all_shorter R shorter)) (λ ps. good_pure _ _ (λ rest ts is. (ps, refl, is)))

    tells_group : Tells D longest (group neg) (The w.Open ⇒ IsPrimary R)
    unfolding group
    tells_group = tells_then _ _ _ _ tells_any (λ x. good_bind _ _ _ _ (good_the w.Close) (λ _. good_pure _ _ (λ rest m2 close m1 is ts opens. g.grouped (m1, opens, (m2, is, close)))))

    tells_negation : Tells D longest (negation neg) (The w.Not ⇒ IsPrimary R)
    unfolding negation
    tells_negation = tells_then _ _ _ _ told (λ x. good_pure _ _ (λ rest mid is ts bars. g.negated (mid, bars, is)))

    nots : (l : Lexeme) (ts : List Lexeme) → opening_of l.1 ≡ Negates → Told D longest (level neg) (IsPrimary R) (l ∷ ts) (negation neg ts)
    nots l ts e = behind neg R (negation neg) (The w.Not) l ts (negation neg ts) (is_token l (t.Fixed w.Not) (negates l.1 e)) (level_start neg l Negates e) (tells_negation.tell ts)

    groups : (l : Lexeme) (ts : List Lexeme) → opening_of l.1 ≡ Opens → Told D longest (level neg) (IsPrimary R) (l ∷ ts) (group neg ts)
    groups l ts e = behind neg R (group neg) (The w.Open) l ts (group neg ts) (is_token l (t.Fixed w.Open) (opens l.1 e)) (level_start neg l Opens e) (tells_group.tell ts)

    pub tells_above : Tells D longest (level neg) (IsPrimary R)
    tells_above = tells_level neg R nots groups

  -- the deepest level: a further '(' or NOT is too deep
  module _ (R : Rule Predicate) (some : D → Exists R) where
    too_deep_not : (l : Lexeme) (ts : List Lexeme) → opening_of l.1 ≡ Negates → Told D longest (level (neg_at zero)) (IsPrimary R) (l ∷ ts) (negation (neg_at zero) ts)
    unfolding negation neg_at
    too_deep_not l ts e = λ deeper small.
        let s = some deeper in
        (l ∷ [], ts, tt, refl, (predicate.Not s.0, s.1, λ follow. g.negated (s.1 ++ follow, is_token l (t.Fixed w.Not) (negates l.1 e) (s.1 ++ follow), s.2 follow)), λ more. level_start (neg_at zero) l Negates e more)

    in_group : (l : Lexeme) → l.1 ≡ t.Fixed w.Open → Exists R → GoesOn (IsPrimary R) (l ∷ [])
    in_group l e (p, ts, is) = (
      predicate.Group (predicate.Any (predicate.All (p ∷ []) ∷ [])),
      ts ++ (0, t.Fixed w.Close) ∷ [],
      λ follow.
          let close : List Lexeme = (0, t.Fixed w.Close) ∷ follow in
          let P : List Lexeme → Type 0 = λ u. IsPrimary R (predicate.Group (predicate.Any (predicate.All (p ∷ []) ∷ []))) (l ∷ u) follow in
          subst P (sym (append_assoc ts ((0, t.Fixed w.Close) ∷ []) follow)) (g.grouped (ts ++ close, is_token l (t.Fixed w.Open) e (ts ++ close), (close, (predicate.All (p ∷ []) ∷ [], refl, (p ∷ [], refl, is close)), (0, refl)))),
    )

    too_deep_group : (l : Lexeme) (ts : List Lexeme) → opening_of l.1 ≡ Opens → Told D longest (level (neg_at zero)) (IsPrimary R) (l ∷ ts) (group (neg_at zero) ts)
    unfolding group any_at all_at items items_from longest neg_at
    too_deep_group l ts e = λ deeper small. (l ∷ [], ts, tt, refl, in_group l (opens l.1 e) (some deeper), λ more. level_start (neg_at zero) l Opens e more)

    pub tells_deepest : Tells D longest (level (neg_at zero)) (IsPrimary R)
    tells_deepest = tells_level (neg_at zero) R too_deep_not too_deep_group

  -- the second number of levels above the first
  abbrev pub raised : ℕ → ℕ → ℕ
  raised b zero = b
  raised b (suc d) = suc (raised b d)

  -- where the parser's innermost part stands for one of this depth
  tells_neg : (b : ℕ) → (D → Exists (IsNested b)) → (d : ℕ) → Tells D longest (neg_at (suc d)) (IsNested (suc (raised b d)))
  unfolding neg_at
  tells_neg b some zero = tells_deepest (IsNested b) some
  tells_neg b some (suc d) = tells_above (neg_at (suc d)) (IsNested (suc (raised b d))) (tells_neg b some d) (nested_shorter (suc (raised b d)))

  pub tells_predicate : (b : ℕ) → (D → Exists (IsNested b)) → Tells D longest predicate_at (IsAny (IsNested (suc (raised b 64))))
  unfolding predicate_at
  tells_predicate b some = tells_any (neg_at 65) (IsNested (suc (raised b 64))) (tells_neg b some 64) (nested_shorter (suc (raised b 64)))

  -- ---- lists

  -- one item is a list
  some_list : {A : Type 0} (R : Rule A) (Between : List Lexeme → List Lexeme → Type 0) → Exists R → Exists (IsList R Between)
  some_list R Between (x, more, is) = (x ∷ [], more, is)

  good_names : Good D longest names_at AreNames
  unfolding names_at
  good_names = (tells_list name_at w.Comma IsName good_name.0 name_shorter, some_list _ _ good_name.1)

  good_values : Good D longest values_at (IsList IsValue (The w.Comma))
  unfolding values_at
  good_values = (tells_list value_at w.Comma IsValue good_value.0 value_shorter, some_list _ _ good_value.1)

  good_key_column : Good D longest key_column_at IsKeyColumn
  unfolding key_column_at
  good_key_column = good_bind _ _ _ _ good_placed_name (λ n. good_pure _ _ (λ rest ts is. is))

  good_key : Good D longest key_at (IsList IsKeyColumn (The w.Comma))
  unfolding key_at
  good_key = (tells_list key_column_at w.Comma IsKeyColumn good_key_column.0 key_column_shorter, some_list _ _ good_key_column.1)

  good_equal : Good D longest equal_at (λ _. Is (t.Compare is.Equal))
  unfolding equal_at
  good_equal = good_kind as_equal (λ _. t.Compare is.Equal) tt equal_is

  good_assignment : Good D longest assignment_at IsAssignment
  unfolding assignment_at
  good_assignment = good_bind _ _ _ _ good_name (λ n. good_bind _ _ _ _ good_equal (λ _. good_bind _ _ _ _ good_sum (λ s. good_pure _ _ (λ rest m2 is m1 sign ts name. (m1, name, (m2, sign, is))))))

  good_assignments : Good D longest assignments_at (IsList IsAssignment (The w.Comma))
  unfolding assignments_at
  good_assignments = (tells_list assignment_at w.Comma IsAssignment good_assignment.0 assignment_shorter, some_list _ _ good_assignment.1)

  -- ---- columns

  good_length : Good D longest length_at (λ n. IsLength n.0 n.1)
  unfolding length_at
  good_length = good_placed as_length _ (λ l n more e. let d = length_is l.1 n e in (d.0, ap (λ tok. (l.0, tok) ∷ more) d.1, d.2)) ((length_of [], 0), (0, t.Number []) ∷ [], λ follow. ([], refl, refl))

  good_within : Good D longest length_within (λ n. The w.Open ⨾ (IsLength n.0 n.1 ⨾ The w.Close))
  unfolding length_within
  good_within = good_bind _ _ _ _ (good_the w.Open) (λ _. good_bind _ _ _ _ good_length (λ n. good_bind _ _ _ _ (good_the w.Close) (λ _. good_pure _ _ (λ rest m2 close m1 is ts opens. (m1, opens, (m2, is, close))))))

  -- what a type begins with
  abbrev IsTypeWord : Rule TypeWord
  IsTypeWord (type.Whole c) = IsType c
  IsTypeWord type.OfText = The w.VarChar
  IsTypeWord type.OfBytes = The w.VarBinary

  type_starts : (l : Lexeme) (word given : TypeWord) (more : List Lexeme) → Some given ≡ Some word → IsTypeWord given (l ∷ more) more → IsTypeWord word (l ∷ more) more
  type_starts l word given more e is =
      let same : given ≡ word = cc in
      let P : TypeWord → Type 0 = λ u. IsTypeWord u (l ∷ more) more in
      subst P same is

  type_word_is : (l : Lexeme) (word : TypeWord) (more : List Lexeme) → as_type l.1 ≡ Some word → IsTypeWord word (l ∷ more) more
  type_word_is (k, t.Fixed w.SmallInt) word more e = type_starts (k, t.Fixed w.SmallInt) word (type.Whole column.SmallInt) more e (k, refl)
  type_word_is (k, t.Fixed w.Integer) word more e = type_starts (k, t.Fixed w.Integer) word (type.Whole column.Integer) more e (inl (k, refl))
  type_word_is (k, t.Fixed w.Int) word more e = type_starts (k, t.Fixed w.Int) word (type.Whole column.Integer) more e (inr (k, refl))
  type_word_is (k, t.Fixed w.BigInt) word more e = type_starts (k, t.Fixed w.BigInt) word (type.Whole column.BigInt) more e (k, refl)
  type_word_is (k, t.Fixed w.VarChar) word more e = type_starts (k, t.Fixed w.VarChar) word type.OfText more e (k, refl)
  type_word_is (k, t.Fixed w.VarBinary) word more e = type_starts (k, t.Fixed w.VarBinary) word type.OfBytes more e (k, refl)
  type_word_is (k, _) word more e = absurd (cc)

  good_type_word : Good D longest type_word_at IsTypeWord
  unfolding type_word_at
  good_type_word = good_expect as_type IsTypeWord type_word_is (type.OfText, (0, t.Fixed w.VarChar) ∷ [], λ follow. (0, refl))

  good_type_by : (word : TypeWord) → Good D longest (type_by word) (IsTypeWord word ⇒ IsType)
  good_type_by (type.Whole c) = good_pure _ _ (λ rest ts is. is)
  good_type_by type.OfText = good_bind _ _ _ _ good_within (λ n. good_pure _ _ (λ rest mid is ts word. (mid, word, is)))
  good_type_by type.OfBytes = good_bind _ _ _ _ good_within (λ n. good_pure _ _ (λ rest mid is ts word. (mid, word, is)))

  good_type : Good D longest type_at IsType
  unfolding type_at
  good_type = good_bind _ _ _ _ good_type_word good_type_by

  good_nullable : Good D longest nullable_at IsNullable
  unfolding nullable_at
  good_nullable = (
    tells_if w.Not _ _ _ (tells_then _ _ _ _ (good_the w.Null).0 (λ _. good_pure _ _ (λ rest mid null ts bars. (mid, bars, null)))) (tells_pure _ _ (λ rest. refl)),
    (true, [], λ follow. refl),
  )

  good_definition : Good D longest definition_at IsDefinition
  unfolding definition_at
  good_definition = good_bind _ _ _ _ good_placed_name (λ n. good_bind _ _ _ _ good_type (λ c. good_bind _ _ _ _ good_nullable (λ b. good_pure _ _ (λ rest m2 bars m1 is ts name. (m1, name, (m2, is, bars))))))

  -- what stands behind a column
  abbrev IsBehind : Rule Bool
  IsBehind true = The w.Comma
  IsBehind false = The w.Comma ⨾ The w.Primary

  by_primary : (b : Bool) (ts mid rest : List Lexeme) → The w.Comma ts mid → IsMay w.Primary b mid rest → IsBehind (not b) ts rest
  by_primary true ts mid rest comma primary = (mid, comma, primary)
  by_primary false ts mid rest comma same = let P : List Lexeme → Type 0 = λ u. The w.Comma ts u in subst P same comma

  tells_another : Tells D longest another IsBehind
  unfolding another
  tells_another =
      tells_bind _ _ _ _ (good_the w.Comma).0 (λ _. tells_may_bind w.Primary _ _ (λ b. tells_pure _ _ (λ rest mid is ts comma. by_primary b ts mid rest comma is)))
      (λ _ _. (false, (0, t.Fixed w.Primary) ∷ [], λ follow ts comma. ((0, t.Fixed w.Primary) ∷ follow, comma, (0, refl))))

  -- columns up to the PRIMARY behind them
  abbrev AreDefinitions : Rule (List DraftColumn)
  AreDefinitions ds = IsList IsDefinition (The w.Comma) ds ⨾ (The w.Comma ⨾ The w.Primary)

  behind_columns : (tail : List Lexeme) × ((follow : List Lexeme) → (The w.Comma ⨾ The w.Primary) (tail ++ follow) follow)
  behind_columns = ((0, t.Fixed w.Comma) ∷ (0, t.Fixed w.Primary) ∷ [], λ follow. ((0, t.Fixed w.Primary) ∷ follow, (0, refl), (0, refl)))

  some_definitions : Exists IsDefinition → Exists AreDefinitions
  some_definitions (d, more, is) = (
    d ∷ [],
    more ++ behind_columns.0,
    λ follow. let P : List Lexeme → Type 0 = λ u. AreDefinitions (d ∷ []) u follow in subst P (sym (append_assoc more behind_columns.0 follow)) (behind_columns.0 ++ follow, is (behind_columns.0 ++ follow), behind_columns.1 follow),
  )

  good_definitions : Good D longest definitions_at AreDefinitions
  unfolding definitions_at
  good_definitions = (tells_items definition_at another IsDefinition IsBehind good_definition.0 tells_another behind_columns (λ _. good_definition.1) definition_shorter, some_definitions good_definition.1)

  -- ---- statements

  good_listed : Good D longest listed_at AreListed
  unfolding listed_at
  good_listed = (
    tells_if w.Open _ _ _ (tells_then _ _ _ _ good_names.0 (λ ns. good_bind _ _ _ _ (good_the w.Close) (λ _. good_pure _ _ (λ rest m2 close m1 is ts opens. (m1, opens, (m2, is, close)))))) (tells_pure _ _ (λ rest. refl)),
    (columns.All, [], λ follow. refl),
  )

  selected_by : (b : Bool) → Tells D longest (cond b (pure columns.All) (do names ← names_at; pure (columns.Named names))) (IsMay w.Star b ⇒ AreSelected)
  selected_by true = tells_pure _ _ (λ rest ts is. is)
  selected_by false = tells_then _ _ _ _ good_names.0 (λ ns. good_pure _ _ (λ rest mid is ts same. let P : List Lexeme → Type 0 = λ u. AreNames ns u rest in subst P (sym same) is))

  good_selected : Good D longest selected_at AreSelected
  unfolding selected_at
  good_selected = (tells_may_bind w.Star _ _ selected_by, (columns.All, (0, t.Fixed w.Star) ∷ [], λ follow. (0, refl)))

  -- the first word of a statement
  verb_word : Verb → Terminal
  verb_word verb.Create = w.Create
  verb_word verb.Insert = w.Insert
  verb_word verb.Update = w.Update
  verb_word verb.Delete = w.Delete
  verb_word verb.Select = w.Select

  verb_is : (tok : Token) (v : Verb) → as_verb tok ≡ Some v → tok ≡ t.Fixed (verb_word v)
  unfolding verb_word
  verb_is (t.Fixed w.Create) v e = let s : verb.Create ≡ v = cc in ap (λ u. t.Fixed (verb_word u)) s
  verb_is (t.Fixed w.Insert) v e = let s : verb.Insert ≡ v = cc in ap (λ u. t.Fixed (verb_word u)) s
  verb_is (t.Fixed w.Update) v e = let s : verb.Update ≡ v = cc in ap (λ u. t.Fixed (verb_word u)) s
  verb_is (t.Fixed w.Delete) v e = let s : verb.Delete ≡ v = cc in ap (λ u. t.Fixed (verb_word u)) s
  verb_is (t.Fixed w.Select) v e = let s : verb.Select ≡ v = cc in ap (λ u. t.Fixed (verb_word u)) s
  verb_is _ v e = absurd (cc)

  good_verb : (n : ℕ) → Good D n verb_at (λ v. The (verb_word v))
  unfolding verb_at
  good_verb n = good_kind as_verb (λ v. t.Fixed (verb_word v)) verb.Select verb_is

  -- statements with predicates nested so deep
  module _ (depth : ℕ) (told : Tells D longest predicate_at (IsAny (IsNested depth))) where
    good_filter : Good D longest filter_at (IsFilterUnder depth)
    unfolding filter_at
    good_filter = (
      tells_if w.Where _ _ _ (tells_then _ _ _ _ told (λ p. good_pure _ _ (λ rest mid is ts word. (mid, word, is)))) (tells_pure _ _ (λ rest. refl)),
      (None, [], λ follow. refl),
    )

    good_create : Good D longest create_at (The w.Create ⇒ IsCommandUnder depth)
    unfolding create_at
    good_create =
        good_bind _ _ _ _ (good_the w.Table) (λ _. good_bind _ _ _ _ good_name (λ n. good_bind _ _ _ _ (good_the w.Open) (λ _. good_bind _ _ _ _ good_definitions (λ ds.
        good_bind _ _ _ _ (good_the w.Key) (λ _. good_bind _ _ _ _ (good_the w.Open) (λ _. good_bind _ _ _ _ good_key (λ ks. good_bind _ _ _ _ (good_the w.Close) (λ _. good_bind _ _ _ _ (good_the w.Close) (λ _.
        good_pure _ _ (λ rest m9 close' m8 close m7 key m6 opens' m5 k m4 cs m3 opens m2 name m1 table ts create.
        (m1, create, (m2, table, (m3, name, (m4, opens, (cs.0, cs.1, (cs.2.0, cs.2.1, (m5, cs.2.2, (m6, k, (m7, opens', (m8, key, (m9, close, close')))))))))))))))))))))

    good_insert : Good D longest insert_at (The w.Insert ⇒ IsCommandUnder depth)
    unfolding insert_at
    good_insert =
        good_bind _ _ _ _ (good_the w.Into) (λ _. good_bind _ _ _ _ good_name (λ n. good_bind _ _ _ _ good_listed (λ l. good_bind _ _ _ _ (good_the w.Values) (λ _.
        good_bind _ _ _ _ (good_the w.Open) (λ _. good_bind _ _ _ _ good_values (λ vs. good_bind _ _ _ _ (good_the w.Close) (λ _.
        good_pure _ _ (λ rest m7 close m6 values m5 opens m4 word m3 listed m2 name m1 into ts insert.
        (m1, insert, (m2, into, (m3, name, (m4, listed, (m5, word, (m6, opens, (m7, values, close)))))))))))))))

    good_update : Good D longest update_at (The w.Update ⇒ IsCommandUnder depth)
    unfolding update_at
    good_update =
        good_bind _ _ _ _ good_name (λ n. good_bind _ _ _ _ (good_the w.Set) (λ _. good_bind _ _ _ _ good_assignments (λ as'. good_bind _ _ _ _ good_filter (λ f.
        good_pure _ _ (λ rest m4 filter m3 list m2 set m1 name ts update. (m1, update, (m2, name, (m3, set, (m4, list, filter)))))))))

    good_delete : Good D longest delete_at (The w.Delete ⇒ IsCommandUnder depth)
    unfolding delete_at
    good_delete =
        good_bind _ _ _ _ (good_the w.From) (λ _. good_bind _ _ _ _ good_name (λ n. good_bind _ _ _ _ good_filter (λ f.
        good_pure _ _ (λ rest m3 filter m2 name m1 from ts delete. (m1, delete, (m2, from, (m3, name, filter)))))))

    good_select : Good D longest select_at (The w.Select ⇒ IsCommandUnder depth)
    unfolding select_at
    good_select =
        good_bind _ _ _ _ good_selected (λ l. good_bind _ _ _ _ (good_the w.From) (λ _. good_bind _ _ _ _ good_name (λ n. good_bind _ _ _ _ good_filter (λ f.
        good_pure _ _ (λ rest m4 filter m3 name m2 from m1 listed ts select. (m1, select, (m2, listed, (m3, from, (m4, name, filter)))))))))

    good_by_verb : (v : Verb) → Good D longest (command_by v) (The (verb_word v) ⇒ IsCommandUnder depth)
    unfolding verb_word
    good_by_verb verb.Create = good_create
    good_by_verb verb.Insert = good_insert
    good_by_verb verb.Update = good_update
    good_by_verb verb.Delete = good_delete
    good_by_verb verb.Select = good_select

    behind_verb : (v : Verb) → Good D longest (command_by v >>= (λ c. end_at >>= (λ _. pure c))) (The (verb_word v) ⇒ IsCommandUnder depth)
    behind_verb v =
        good_bind _ _ _ _ (good_by_verb v) (λ c. good_bind _ _ _ _ good_end (λ _.
        good_pure _ _ (λ rest m2 same m1 is ts word. let P : List Lexeme → Type 0 = λ u. IsCommandUnder depth c ts u in subst P same (is ts word))))

    pub tells_whole : Tells D (suc longest) command_at (IsCommandUnder depth)
    unfolding command_at
    tells_whole =
        tells_bind_less (suc longest) longest _ _ _ _ (good_verb (suc longest)).0 (λ v. (behind_verb v).0) (λ _ v. (behind_verb v).1)
        (λ ts v rest e small. omega (arith, is_length _ ts rest (tells_found {D = D} verb_at (λ v. The (verb_word v)) (good_verb (suc longest)).0 ts v rest e)))

-- a predicate that is nested in none
some_nested : Exists (IsNested 1)
some_nested = (
  predicate.Compare (term.Value literal.Null) is.Equal (term.Value literal.Null),
  (0, t.Fixed w.Null) ∷ (0, t.Compare is.Equal) ∷ (0, t.Fixed w.Null) ∷ [],
  λ follow. g.compared ((0, t.Compare is.Equal) ∷ (0, t.Fixed w.Null) ∷ follow, (0, refl), ((0, t.Fixed w.Null) ∷ follow, (0, refl), (0, refl))),
)

pub tells_command : Tells ⊥ (suc longest) command_at IsCommand
tells_command = tells_whole ⊥ 65 (tells_predicate ⊥ 0 (λ never. absurd never))

-- as statements that are nested one deeper than is allowed
pub tells_deeper : Tells (Unit {0}) (suc longest) command_at (IsCommandUnder 66)
tells_deeper = tells_whole (Unit {0}) 66 (tells_predicate (Unit {0}) 1 (λ _. some_nested))

at_end : (ts rest : List Lexeme) (u : Unit {0}) → end_at ts ≡ Ok (u, rest) → rest ≡ []
unfolding end_at
at_end [] rest u e = sym (ok_parts (tt, []) (u, rest) _ refl e).1
at_end (l ∷ ts) rest u e = absurd (cc)

-- nothing is left behind a statement
pub nothing_left : (ts : List Lexeme) (x : Draft) (rest : List Lexeme) → command_at ts ≡ Ok (x, rest) → rest ≡ []
unfolding command_at
nothing_left ts x rest e =
    let v = bind_ok (verb_at ts) _ x rest e in
    let c = bind_ok (command_by v.0.0 v.0.1) _ x rest v.2 in
    let n = bind_ok (end_at c.0.1) _ x rest c.2 in
    sym (ok_parts (c.0.0, n.0.1) (x, rest) _ refl n.2).1 ∙ at_end c.0.1 n.0.1 n.0.0 n.1

-- what is read is a statement
pub command_found : (ts : List Lexeme) (x : Draft) (rest : List Lexeme) → command_at ts ≡ Ok (x, rest) → IsStatement x ts
command_found ts x rest e = let P : List Lexeme → Type 0 = λ u. IsCommand x ts u in subst P (nothing_left ts x rest e) (tells_found command_at IsCommand tells_command ts x rest e)
