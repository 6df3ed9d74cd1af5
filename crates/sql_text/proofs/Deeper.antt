-- A statement whose parentheses and NOTs are nested 65 deep is read up to one that is too deep, or whole.
use Rattle.std.proofs.Common.{◌≡◌, ◌⊎◌, inl, inr, ℕ, zero, suc, ◌≤◌, ◌<◌, true, false, cond, List, [], ◌∷◌, ◌++◌, length, refl, sym, ap, ◌∙◌, arith, Ok, Err, Option, Some, None, append_assoc}
use Rattle.sql_lex.specs.declared.terminal.Terminal.{Terminal}
use Rattle.sql_lex.specs.declared.terminal.Terminal.TheVariants as w
use Rattle.sql_lex.specs.declared.token.Token.TheVariants as t
use Rattle.sql_lex.specs.Tokens.{Lexeme}
use Rattle.sql_text.specs.declared.draft.Draft.{Draft}
use Rattle.sql_text.specs.declared.draft.Draft.TheVariants as draft
use Rattle.sql_text.specs.declared.fault.Fault.TheVariants as fault
use Rattle.sql_text.specs.declared.token.Verb.TheVariants as verb
use Rattle.sql_text.specs.declared.tree.Predicate.{Predicate}
use Rattle.sql_text.specs.declared.tree.Predicate.TheVariants as predicate
use Rattle.sql_text.specs.Grammar as g
use Rattle.sql_text.specs.Grammar.{◌⨾◌, The, IsList, IsAll, IsAny, IsPrimary, IsNested, IsDefinition, IsAssignment, IsFilterUnder, IsCommandUnder}
use Rattle.sql_text.specs.Reading.{Parser, Parsed, and_then, ◌>>=◌, pure, as_verb, expect_fixed, take_fixed, verb_at, end_at}
use Rattle.sql_text.specs.Rules.{longest, items_from, items, all_at, any_at, group, negation, level, neg_at, predicate_at, filter_at, update_at, delete_at, select_at, command_at}
use Rattle.sql_text.proofs.Only.{again, the_again, may_again, name_again, Lacks, lacks, lacks_nil, is_length, list_length, list_shorter}
use Rattle.sql_text.proofs.OnlyRules.{is_apart, all_shorter, nested_shorter, level_only, command_only, end_only, assignment_shorter, assignments_only, selected_only, selected_shorter, no_filter_sign, no_filter_comma}

-- read so, or found too deep
abbrev pub ReadOrDeep : {A : Type 0} → Parsed A → A × List Lexeme → Type 0
ReadOrDeep o x = (o ≡ Ok x) ⊎ (o ≡ Err fault.Deep)

as_read : {A : Type 0} (o o' : Parsed A) (x x' : A × List Lexeme) → o ≡ o' → x' ≡ x → ReadOrDeep o' x' → ReadOrDeep o x
as_read o o' x x' e f (inl r) = inl (e ∙ r ∙ ap (λ y. Ok y) f)
as_read o o' x x' e f (inr r) = inr (e ∙ r)

then_read : {A B : Type 0} (o : Parsed A) (f : A → Parser B) (a : A) (mid : List Lexeme) (y : B × List Lexeme) → ReadOrDeep o (a, mid) → ReadOrDeep (f a mid) y → ReadOrDeep (and_then o f) y
then_read o f a mid y (inl e) (inl r) = inl (ap (λ v. and_then v f) e ∙ r)
then_read o f a mid y (inl e) (inr r) = inr (ap (λ v. and_then v f) e ∙ r)
then_read o f a mid y (inr e) r = inr (ap (λ v. and_then v f) e)

-- ---- lists with a word between their items

module _ {A : Type 0} (item : Parser A) (word : Terminal) (R : A → List Lexeme → List Lexeme → Type 0) (Follows : List Lexeme → Type 0)
    (shorter : (x : A) (ts rest : List Lexeme) → R x ts rest → length rest < length ts)
    (only : (x : A) (ts rest : List Lexeme) → length ts ≤ longest → Follows rest → R x ts rest → ReadOrDeep (item ts) (x, rest))
    (behind : (ts rest : List Lexeme) → The word ts rest → Follows ts) where
  -- what comes behind an item
  abbrev turn : ℕ → List A → A → Parser (List A)
  turn n found x = take_fixed word >>= (λ go. cond go (items_from item (take_fixed word) n (found ++ x ∷ [])) (pure (found ++ x ∷ [])))

  from_read : (n : ℕ) (found xs : List A) (ts rest : List Lexeme) → length ts ≤ longest → length xs ≤ n → Follows rest → Lacks word rest → IsList R (The word) xs ts rest
      → ReadOrDeep (items_from item (take_fixed word) n found ts) (found ++ xs, rest)
  unfolding items_from
  from_read n found [] ts rest fits few follows stops m = absurd m
  from_read zero found (x ∷ xs) ts rest fits few follows stops m = absurd (omega arith)
  from_read (suc n) found (x ∷ []) ts rest fits few follows stops r = then_read (item ts) (turn n found) x rest (found ++ x ∷ [], rest) (only x ts rest fits follows r) (inl (rw stops refl))
  from_read (suc n) found (x ∷ y ∷ ys) ts rest fits few follows stops (mid, r, (after, b, m)) =
      let room : length after ≤ longest = omega (arith, shorter x ts mid r, is_length (t.Fixed word) mid after b) in
      let fewer : length (y ∷ ys) ≤ n = omega arith in
      let on = may_again word mid after b in
      let more = from_read n (found ++ x ∷ []) (y ∷ ys) after rest room fewer follows stops m in
      then_read (item ts) (turn n found) x mid (found ++ x ∷ y ∷ ys, rest) (only x ts mid fits (behind mid after b) r)
      (rw on (as_read (items_from item (take_fixed word) n (found ++ x ∷ []) after) (items_from item (take_fixed word) n (found ++ x ∷ []) after) (found ++ x ∷ y ∷ ys, rest) ((found ++ x ∷ []) ++ (y ∷ ys), rest) refl
      (ap (λ (all : List A). (all, rest)) (append_assoc found (x ∷ []) (y ∷ ys))) more))

  list_read : (xs : List A) (ts rest : List Lexeme) → length ts ≤ longest → Follows rest → Lacks word rest → IsList R (The word) xs ts rest → ReadOrDeep (items item (take_fixed word) ts) (xs, rest)
  unfolding items
  list_read xs ts rest fits follows stops m =
      let few : length xs ≤ longest = omega (arith, list_length R (The word) shorter (is_length (t.Fixed word)) xs ts rest m) in
      from_read longest [] xs ts rest fits few follows stops m

-- ---- predicates

-- no parts
Nowhere : Predicate → List Lexeme → List Lexeme → Type 0
Nowhere p ts rest = ⊥

nowhere_shorter : (p : Predicate) (ts rest : List Lexeme) → Nowhere p ts rest → length rest < length ts
unfolding Nowhere
nowhere_shorter p ts rest r = absurd r

nowhere_read : (neg : Parser Predicate) (p : Predicate) (ts rest : List Lexeme) → length ts ≤ longest → Nowhere p ts rest → neg ts ≡ Ok (p, rest)
unfolding Nowhere
nowhere_read neg p ts rest fits r = absurd r

module _ (neg : Parser Predicate) (R : Predicate → List Lexeme → List Lexeme → Type 0)
    (shorter : (p : Predicate) (ts rest : List Lexeme) → R p ts rest → length rest < length ts)
    (only : (p : Predicate) (ts rest : List Lexeme) → length ts ≤ longest → R p ts rest → ReadOrDeep (neg ts) (p, rest)) where
  all_read : (p : Predicate) (ts rest : List Lexeme) → length ts ≤ longest → Lacks w.And rest → IsAll R p ts rest → ReadOrDeep (all_at neg ts) (p, rest)
  unfolding all_at
  all_read p ts rest fits stops (ps, same, m) =
      then_read (items neg (take_fixed w.And) ts) (λ parts. pure (predicate.All parts)) ps rest (p, rest)
      (list_read neg w.And R (λ _. Unit {0}) shorter (λ q us vs room _ r. only q us vs room r) (λ us vs b. tt) ps ts rest fits tt stops m) (inl (ap (λ (q : Predicate). Ok (q, rest)) (sym same)))

  any_read : (p : Predicate) (ts rest : List Lexeme) → length ts ≤ longest → Lacks w.And rest → Lacks w.Or rest → IsAny R p ts rest → ReadOrDeep (any_at neg ts) (p, rest)
  unfolding any_at
  any_read p ts rest fits ands ors (ps, same, m) =
      then_read (items (all_at neg) (take_fixed w.Or) ts) (λ parts. pure (predicate.Any parts)) ps rest (p, rest)
      (list_read (all_at neg) w.Or (IsAll R) (Lacks w.And) (all_shorter R shorter) all_read (λ us vs b. lacks w.And (t.Fixed w.Or) us vs (is_apart w.Or w.And refl) b) ps ts rest fits ands ors m)
      (inl (ap (λ (q : Predicate). Ok (q, rest)) (sym same)))

  level_read : (p : Predicate) (ts rest : List Lexeme) → length ts ≤ longest → IsPrimary R p ts rest → ReadOrDeep (level neg ts) (p, rest)
  unfolding level negation group
  level_read p ts rest fits (g.negated {p = q} (mid, (k, same), r)) =
      let room : length mid ≤ longest = omega (arith, ap length same) in
      rw same (then_read (neg mid) (λ x. pure (predicate.Not x)) q rest (predicate.Not q, rest) (only q mid rest room r) (inl refl))
  level_read p ts rest fits (g.grouped {p = q} (mid, (k, same), (after, r, c))) =
      let room : length mid ≤ longest = omega (arith, ap length same) in
      let inner = any_read q mid after room (lacks w.And (t.Fixed w.Close) after rest (is_apart w.Close w.And refl) c) (lacks w.Or (t.Fixed w.Close) after rest (is_apart w.Close w.Or refl) c) r in
      let closes = the_again w.Close after rest c in
      rw same (then_read (any_at neg mid) (λ x. expect_fixed w.Close >>= (λ _. pure (predicate.Group x))) q after (predicate.Group q, rest) inner (inl (rw closes refl)))
  level_read p ts rest fits (g.compared {a = a} {b = b} {c = c} m) = inl (level_only neg Nowhere nowhere_shorter (nowhere_read neg) (predicate.Compare a c b) ts rest fits (g.compared m))
  level_read p ts rest fits (g.null {n = n} m) = inl (level_only neg Nowhere nowhere_shorter (nowhere_read neg) (predicate.IsNull n false) ts rest fits (g.null m))
  level_read p ts rest fits (g.not_null {n = n} m) = inl (level_only neg Nowhere nowhere_shorter (nowhere_read neg) (predicate.IsNull n true) ts rest fits (g.not_null m))

nested_read : (depth : ℕ) (p : Predicate) (ts rest : List Lexeme) → length ts ≤ longest → IsNested (suc depth) p ts rest → ReadOrDeep (neg_at depth ts) (p, rest)
unfolding neg_at
nested_read zero p ts rest fits r = inr refl
nested_read (suc depth) p ts rest fits r = level_read (neg_at depth) (IsNested (suc depth)) (nested_shorter (suc depth)) (nested_read depth) p ts rest fits r

predicate_read : (p : Predicate) (ts rest : List Lexeme) → length ts ≤ longest → Lacks w.And rest → Lacks w.Or rest → IsAny (IsNested 66) p ts rest → ReadOrDeep (predicate_at ts) (p, rest)
unfolding predicate_at
predicate_read p ts rest fits ands ors r = any_read (neg_at 65) (IsNested 66) (nested_shorter 66) (nested_read 65) p ts rest fits ands ors r

filter_read : (f : Option Predicate) (ts : List Lexeme) → length ts ≤ longest → IsFilterUnder 66 f ts [] → ReadOrDeep (filter_at ts) (f, [])
unfolding filter_at
filter_read None ts fits same = let here : take_fixed w.Where ts ≡ Ok (false, []) = rw same (lacks_nil w.Where) in inl (rw here refl)
filter_read (Some p) ts fits (mid, is, m) =
    let room : length mid ≤ longest = omega (arith, is_length _ ts mid is) in
    let goes = may_again w.Where ts mid is in
    rw goes (then_read (predicate_at mid) (λ q. pure (Some q)) p [] (Some p, []) (predicate_read p mid [] room (lacks_nil w.And) (lacks_nil w.Or) m) (inl refl))

-- ---- statements

ended : (o : Parsed Draft) (c : Draft) → ReadOrDeep o (c, []) → ReadOrDeep (and_then o (λ x. end_at >>= (λ _. pure x))) (c, [])
ended o c r = then_read o (λ x. end_at >>= (λ _. pure x)) c [] (c, []) r (inl (rw end_only refl))

pub command_read : (c : Draft) (ts : List Lexeme) → length ts ≤ longest → IsCommandUnder 66 c ts [] → ReadOrDeep (command_at ts) (c, [])
unfolding command_at verb_at update_at delete_at select_at
command_read (draft.Create table definitions key) ts fits is = inl (command_only (draft.Create table definitions key) ts fits is)
command_read (draft.Insert table listed values) ts fits is = inl (command_only (draft.Insert table listed values) ts fits is)
command_read (draft.Update table assignments filter) ts fits (m1, first, (m2, name, (m3, s, (m4, list, f)))) =
    let room : length m3 ≤ longest = omega (arith, is_length _ ts m1 first, is_length _ m1 m2 name, is_length _ m2 m3 s) in
    let less : length m4 < length m3 = list_shorter IsAssignment (The w.Comma) assignment_shorter (is_length (t.Fixed w.Comma)) assignments m3 m4 list in
    let room' : length m4 ≤ longest = omega arith in
    let c = draft.Update table assignments filter in
    rw (
      again as_verb (t.Fixed w.Update) verb.Update ts m1 refl first,
      name_again table m1 m2 name,
      the_again w.Set m2 m3 s,
      assignments_only assignments m3 m4 room (no_filter_sign 66 filter m4 f) (no_filter_comma 66 filter m4 f) list,
    )
    (ended (and_then (filter_at m4) (λ f'. pure (draft.Update table assignments f'))) c (then_read (filter_at m4) (λ f'. pure (draft.Update table assignments f')) filter [] (c, []) (filter_read filter m4 room' f) (inl refl)))
command_read (draft.Delete table filter) ts fits (m1, first, (m2, from, (m3, name, f))) =
    let room : length m3 ≤ longest = omega (arith, is_length _ ts m1 first, is_length _ m1 m2 from, is_length _ m2 m3 name) in
    let c = draft.Delete table filter in
    rw (again as_verb (t.Fixed w.Delete) verb.Delete ts m1 refl first, the_again w.From m1 m2 from, name_again table m2 m3 name)
    (ended (and_then (filter_at m3) (λ f'. pure (draft.Delete table f'))) c (then_read (filter_at m3) (λ f'. pure (draft.Delete table f')) filter [] (c, []) (filter_read filter m3 room f) (inl refl)))
command_read (draft.Select selected table filter) ts fits (m1, first, (m2, l, (m3, from, (m4, name, f)))) =
    let room : length m1 ≤ longest = omega (arith, is_length _ ts m1 first) in
    let room' : length m4 ≤ longest = omega (arith, selected_shorter selected m1 m2 l, is_length _ m2 m3 from, is_length _ m3 m4 name) in
    let c = draft.Select selected table filter in
    rw (
      again as_verb (t.Fixed w.Select) verb.Select ts m1 refl first,
      selected_only selected m1 m2 room (lacks w.Comma (t.Fixed w.From) m2 m3 (is_apart w.From w.Comma refl) from) l,
      the_again w.From m2 m3 from,
      name_again table m3 m4 name,
    )
    (ended (and_then (filter_at m4) (λ f'. pure (draft.Select selected table f'))) c (then_read (filter_at m4) (λ f'. pure (draft.Select selected table f')) filter [] (c, []) (filter_read filter m4 room' f) (inl refl)))
