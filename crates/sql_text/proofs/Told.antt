-- What is known of a parser and its rule of the grammar, closed under one parser after the other.
use Rattle.std.proofs.Common.{◌≡◌, ◌≤◌, ◌<◌, ◌+◌, ℕ, zero, suc, Bool, true, false, cond, List, [], ◌∷◌, ◌++◌, length, refl, sym, ap, subst, ◌∙◌, Ok, Err, Option, Some, None, append_assoc, arith}
use Rattle.std.proofs.lemmas.List.{length-append}
use Rattle.sql_lex.specs.declared.terminal.Terminal.{Terminal}
use Rattle.sql_lex.specs.declared.token.Token.{Token}
use Rattle.sql_lex.specs.declared.token.Token.TheVariants as t
use Rattle.sql_lex.specs.Tokens.{Lexeme}
use Rattle.sql_text.specs.declared.fault.Fault.{Fault}
use Rattle.sql_text.specs.declared.fault.Fault.TheVariants as fault
use Rattle.sql_text.specs.Grammar.{◌⨾◌, Nothing, Is, The, IsList}
use Rattle.sql_text.specs.Place.{SameHead}
use Rattle.sql_text.specs.Reading.{Parser, Parsed, and_then, ◌>>=◌, pure, place, taken, expect, taken_at, expect_placed, tried, attempt, take_if, is_fixed, as_fixed, expect_fixed, take_fixed, end_at}
use Rattle.sql_text.specs.Rules.{longest, items_from, items}
use Rattle.sql_text.proofs.TokenKinds.{fixed_is, eaten_is}

-- what is read, and the tokens that are taken for it
abbrev pub Rule : Type 0 → Type 1
Rule A = A → List Lexeme → List Lexeme → Type 0

-- behind these tokens more can come that makes something of the rule
abbrev pub GoesOn : {A : Type 0} → Rule A → List Lexeme → Type 0
GoesOn {A} R front = (x : A) × (more : List Lexeme) × ((follow : List Lexeme) → R x (front ++ (more ++ follow)) follow)

-- there is something of the rule
abbrev pub Exists : {A : Type 0} → Rule A → Type 0
Exists R = GoesOn R []

-- with the one before it, it is of the rule
infixr 10 ◌⇒◌
abbrev pub ◌⇒◌ : {B : Type 0} → (List Lexeme → List Lexeme → Type 0) → Rule B → Rule B
(S ⇒ T) y mid rest = (ts : List Lexeme) → S ts mid → T y ts rest

-- not empty
abbrev pub IsNonEmpty : List Lexeme → Type 0
IsNonEmpty [] = ⊥
IsNonEmpty (l ∷ ts) = Unit {0}

-- What is known of a parser by what it gives.
-- What it takes is spelled so, whatever follows, and is taken wherever the same token follows.
-- What stands before a token that it refuses goes on to something of the rule, and the same token is refused there again.
-- What goes up to a nesting too deep for it does so too, if the rule has what is nested `Deeper` and the tokens are fewer than the turns of a list.
abbrev pub Told : {A : Type 0} → Type 0 → ℕ → Parser A → Rule A → List Lexeme → Parsed A → Type 0
Told Deeper n p R ts (Ok x) = (front : List Lexeme) × (ts ≡ front ++ x.1) × ((more : List Lexeme) → R x.0 (front ++ more) more) × ((more : List Lexeme) → SameHead x.1 more → p (front ++ more) ≡ Ok (x.0, more))
Told Deeper n p R ts (Err (fault.Unexpected at)) = (front : List Lexeme) × (bad : List Lexeme) × (ts ≡ front ++ bad) × (at ≡ place bad) × GoesOn R front × ((more : List Lexeme) → SameHead bad more → p (front ++ more) ≡ Err (fault.Unexpected (place more)))
Told Deeper n p R ts (Err fault.Deep) = Deeper → length ts < n → (front : List Lexeme) × (rest : List Lexeme) × IsNonEmpty front × (ts ≡ front ++ rest) × GoesOn R front × ((more : List Lexeme) → p (front ++ more) ≡ Err fault.Deep)
Told Deeper n p R ts (Err fault.Memory) = Unit {0}

-- and that for all tokens
pub record Tells {A : Type 0} (Deeper : Type 0) (n : ℕ) (p : Parser A) (R : Rule A) : Type 0 where
  pub tell : (ts : List Lexeme) → Told Deeper n p R ts (p ts)

-- and there is something of the rule
abbrev pub Good : {A : Type 0} → Type 0 → ℕ → Parser A → Rule A → Type 0
Good Deeper n p R = Tells Deeper n p R × Exists R

-- the parser refuses some tokens
abbrev pub Fails : {A : Type 0} → Parser A → Type 0
Fails p = (ts : List Lexeme) × (f : Fault) × (p ts ≡ Err f)

-- ---- one parser after the other

same_behind : (front bad more : List Lexeme) → SameHead bad more → SameHead (front ++ bad) (front ++ more)
same_behind [] bad more h = h
same_behind (l ∷ front) bad more h = refl

pub head_append : (whole front bad more : List Lexeme) → whole ≡ front ++ bad → SameHead bad more → SameHead whole (front ++ more)
head_append whole front bad more e h = let P : List Lexeme → Type 0 = λ u. SameHead u (front ++ more) in subst P (sym e) (same_behind front bad more h)

some_behind : (front more : List Lexeme) → IsNonEmpty more → IsNonEmpty (front ++ more)
some_behind [] more some = some
some_behind (l ∷ front) more some = tt

head_of : (front rest more : List Lexeme) → IsNonEmpty front → SameHead (front ++ rest) (front ++ more)
head_of [] rest more some = absurd some
head_of (l ∷ front) rest more some = refl

pub head_some : (whole front rest more : List Lexeme) → whole ≡ front ++ rest → IsNonEmpty front → SameHead whole (front ++ more)
head_some whole front rest more e some = let P : List Lexeme → Type 0 = λ u. SameHead u (front ++ more) in subst P (sym e) (head_of front rest more some)

module _ {A B : Type 0} (R : Rule A) (T : Rule B) where
  -- what one takes and what the next takes are taken together
  joined : (x : A) (y : B) (front front' tail rest : List Lexeme) → ((more : List Lexeme) → R x (front ++ more) more) → (R x ⇒ T) y (front' ++ tail) rest → T y ((front ++ front') ++ tail) rest
  joined x y front front' tail rest found next =
      let P : List Lexeme → Type 0 = λ u. T y u rest in
      subst P (sym (append_assoc front front' tail)) (next (front ++ (front' ++ tail)) (found (front' ++ tail)))

  -- where the first goes on, the next can follow
  pub ended : (front : List Lexeme) → GoesOn R front → ((x : A) → Exists (R x ⇒ T)) → GoesOn T front
  ended front (x, more, found) next =
      let n = next x in
      let P : List Lexeme → List Lexeme → Type 0 = λ u follow. T n.0 (front ++ u) follow in
      (n.0, more ++ n.1, λ follow. subst (λ u. P u follow) (sym (append_assoc more n.1 follow)) (n.2 follow (front ++ (more ++ (n.1 ++ follow))) (found (n.1 ++ follow))))

-- what is left is no more than there was
told_length : {A : Type 0} (D : Type 0) (n : ℕ) (p : Parser A) (R : Rule A) (ts : List Lexeme) (x : A) (rest : List Lexeme) → Told D n p R ts (Ok (x, rest)) → length rest ≤ length ts
told_length D n p R ts x rest (front, same, found, stays) = let e : length ts ≡ length front + length rest = ap length same ∙ length-append front rest in omega arith

pub tells_length : {D : Type 0} {A : Type 0} (n : ℕ) (p : Parser A) (R : Rule A) → Tells D n p R → (ts : List Lexeme) (x : A) (rest : List Lexeme) → p ts ≡ Ok (x, rest) → length rest ≤ length ts
tells_length {D} {A} n p R told ts x rest e = let P : Parsed A → Type 0 = λ o. Told D n p R ts o in told_length D n p R ts x rest (subst P e (told.tell ts))

module _ {D : Type 0} {A B : Type 0} (n m : ℕ) (p : Parser A) (f : A → Parser B) (R : Rule A) (T : Rule B)
    (told : Tells D n p R) (next : (x : A) → Tells D m (f x) (R x ⇒ T)) (others : Fails p → (x : A) → Exists (R x ⇒ T))
    (room : (ts : List Lexeme) (x : A) (rest : List Lexeme) → p ts ≡ Ok (x, rest) → length ts < n → length rest < m) where
  after : (ts : List Lexeme) (x : A × List Lexeme) (r : Parsed B) → p ts ≡ Ok x → Told D n p R ts (Ok x) → Told D m (f x.0) (R x.0 ⇒ T) x.1 r → Told D n (p >>= f) T ts r
  after ts x (Ok y) e (front, same, found, stays) (front', same', found', stays') = (
    front ++ front',
    same ∙ ap (λ u. front ++ u) same' ∙ sym (append_assoc front front' y.1),
    λ more. joined R T x.0 y.0 front front' more more found (found' more),
    λ more h. ap (λ u. and_then (p u) f) (append_assoc front front' more)
        ∙ ap (λ (o : Parsed A). and_then o f) (stays (front' ++ more) (head_append x.1 front' y.1 more same' h)) ∙ stays' more h,
  )
  after ts x (Err (fault.Unexpected at)) e (front, same, found, stays) (front', bad, same', is, goes, stays') = (
    front ++ front',
    bad,
    same ∙ ap (λ u. front ++ u) same' ∙ sym (append_assoc front front' bad),
    is,
    (goes.0, goes.1, λ follow. joined R T x.0 goes.0 front front' (goes.1 ++ follow) follow found (goes.2 follow)),
    λ more h. ap (λ u. and_then (p u) f) (append_assoc front front' more)
        ∙ ap (λ (o : Parsed A). and_then o f) (stays (front' ++ more) (head_append x.1 front' bad more same' h)) ∙ stays' more h,
  )
  after ts x (Err fault.Deep) e (front, same, found, stays) deep = λ deeper small.
      let r = deep deeper (room ts x.0 x.1 e small) in (
        front ++ r.0,
        r.1,
        some_behind front r.0 r.2,
        same ∙ ap (λ u. front ++ u) r.3 ∙ sym (append_assoc front r.0 r.1),
        (r.4.0, r.4.1, λ follow. joined R T x.0 r.4.0 front r.0 (r.4.1 ++ follow) follow found (r.4.2 follow)),
        λ more. ap (λ u. and_then (p u) f) (append_assoc front r.0 more)
            ∙ ap (λ (o : Parsed A). and_then o f) (stays (r.0 ++ more) (head_some x.1 r.0 r.1 more r.3 r.2)) ∙ r.5 more,
      )
  after ts x (Err fault.Memory) e l deep = tt

  bound : (ts : List Lexeme) (o : Parsed A) → p ts ≡ o → Told D n p R ts o → Told D n (p >>= f) T ts (and_then o f)
  bound ts (Ok x) e l = after ts x (f x.0 x.1) e l ((next x.0).tell x.1)
  bound ts (Err (fault.Unexpected at)) e (front, bad, same, is, goes, stays) =
      (front, bad, same, is, ended R T front goes (others (ts, fault.Unexpected at, e)), λ more h. ap (λ (o : Parsed A). and_then o f) (stays more h))
  bound ts (Err fault.Deep) e deep = λ deeper small.
      let r = deep deeper small in
      (r.0, r.1, r.2, r.3, ended R T r.0 r.4 (others (ts, fault.Deep, e)), λ more. ap (λ (o : Parsed A). and_then o f) (r.5 more))
  bound ts (Err fault.Memory) e l = tt

  pub tells_bind_less : Tells D n (p >>= f) T
  tells_bind_less = record { tell = λ ts. bound ts (p ts) refl (told.tell ts) }

pub tells_bind : {D : Type 0} {A B : Type 0} {n : ℕ} (p : Parser A) (f : A → Parser B) (R : Rule A) (T : Rule B)
    → Tells D n p R → ((x : A) → Tells D n (f x) (R x ⇒ T)) → (Fails p → (x : A) → Exists (R x ⇒ T)) → Tells D n (p >>= f) T
tells_bind {n = n} p f R T told next others = tells_bind_less n n p f R T told next others (λ ts x rest e small. omega (arith, tells_length n p R told ts x rest e))

pub tells_then : {D : Type 0} {A B : Type 0} {n : ℕ} (p : Parser A) (f : A → Parser B) (R : Rule A) (T : Rule B) → Tells D n p R → ((x : A) → Good D n (f x) (R x ⇒ T)) → Tells D n (p >>= f) T
tells_then p f R T told next = tells_bind p f R T told (λ x. (next x).0) (λ _ x. (next x).1)

pub good_bind : {D : Type 0} {A B : Type 0} {n : ℕ} (p : Parser A) (f : A → Parser B) (R : Rule A) (T : Rule B) → Good D n p R → ((x : A) → Good D n (f x) (R x ⇒ T)) → Good D n (p >>= f) T
good_bind p f R T good next = (tells_then p f R T good.0 next, ended R T [] good.1 (λ x. (next x).1))

pub tells_pure : {D : Type 0} {A : Type 0} {n : ℕ} (a : A) (T : Rule A) → ((ts : List Lexeme) → T a ts ts) → Tells D n (pure a) T
tells_pure a T is = record { tell = λ ts. ([], refl, is, λ more h. refl) }

pub good_pure : {D : Type 0} {A : Type 0} {n : ℕ} (a : A) (T : Rule A) → ((ts : List Lexeme) → T a ts ts) → Good D n (pure a) T
good_pure a T is = (tells_pure a T is, (a, [], is))

-- no tokens are fewer than none
pub tells_none : {D : Type 0} {A : Type 0} (p : Parser A) (T : Rule A) → ((ts : List Lexeme) → p ts ≡ Err fault.Deep) → Tells D 0 p T
tells_none {D} {A} p T is = record { tell = λ ts. let P : Parsed A → Type 0 = λ o. Told D 0 p T ts o in subst P (sym (is ts)) (λ deeper small. absurd (omega arith)) }

-- and so for fewer tokens
pub tells_less : {D : Type 0} {A : Type 0} (n m : ℕ) (p : Parser A) (R : Rule A) → m ≤ n → Tells D n p R → Tells D m p R
tells_less {D} {A} n m p R less told = record { tell = λ ts. weaker ts (p ts) (told.tell ts) }
  where
    weaker : (ts : List Lexeme) (o : Parsed A) → Told D n p R ts o → Told D m p R ts o
    weaker ts (Ok x) l = l
    weaker ts (Err (fault.Unexpected at)) l = l
    weaker ts (Err fault.Deep) deep = λ deeper small. let room : length ts < n = omega arith in deep deeper room
    weaker ts (Err fault.Memory) l = l

-- what is of one rule is of another
pub tells_as : {D : Type 0} {A : Type 0} {n : ℕ} (p : Parser A) (R S : Rule A) → Tells D n p R → ((x : A) (ts rest : List Lexeme) → R x ts rest → S x ts rest) → Tells D n p S
tells_as {D} {A} {n} p R S told same = record { tell = λ ts. changed ts (p ts) (told.tell ts) }
  where
    changed : (ts : List Lexeme) (o : Parsed A) → Told D n p R ts o → Told D n p S ts o
    changed ts (Ok x) (front, e, found, stays) = (front, e, λ more. same x.0 (front ++ more) more (found more), stays)
    changed ts (Err (fault.Unexpected at)) (front, bad, e, is, goes, stays) = (front, bad, e, is, (goes.0, goes.1, λ follow. same goes.0 (front ++ (goes.1 ++ follow)) follow (goes.2 follow)), stays)
    changed ts (Err fault.Deep) deep = λ deeper small. let r = deep deeper small in (r.0, r.1, r.2, r.3, (r.4.0, r.4.1, λ follow. same r.4.0 (r.0 ++ (r.4.1 ++ follow)) follow (r.4.2 follow)), r.5)
    changed ts (Err fault.Memory) l = tt

-- what is found is of the rule
pub tells_found : {D : Type 0} {A : Type 0} {n : ℕ} (p : Parser A) (R : Rule A) → Tells D n p R → (ts : List Lexeme) (x : A) (rest : List Lexeme) → p ts ≡ Ok (x, rest) → R x ts rest
tells_found {D} {A} {n} p R told ts x rest e =
    let P : Parsed A → Type 0 = λ o. Told D n p R ts o in
    let l = subst P e (told.tell ts) in
    let Q : List Lexeme → Type 0 = λ u. R x u rest in
    subst Q (sym l.1) (l.2 rest)

-- ---- single tokens

module _ (D : Type 0) (n : ℕ) {A : Type 0} (f : Token → Option A) (R : Rule A) (is : (l : Lexeme) (a : A) (more : List Lexeme) → f l.1 ≡ Some a → R a (l ∷ more) more) (some : Exists R) where
  told_taken : (l : Lexeme) (ts : List Lexeme) (o : Option A) → f l.1 ≡ o → Told D n (expect f) R (l ∷ ts) (taken o l.0 ts)
  told_taken l ts (Some a) e = (l ∷ [], refl, λ more. is l a more e, λ more h. rw e refl)
  told_taken l ts None e = ([], l ∷ ts, refl, refl, some, λ more h. refused more h)
    where
      refused : (more : List Lexeme) → SameHead (l ∷ ts) more → expect f more ≡ Err (fault.Unexpected (place more))
      refused [] h = absurd h
      refused (m ∷ us) h = rw (← h, e) refl

  told_expect : (ts : List Lexeme) → Told D n (expect f) R ts (expect f ts)
  told_expect [] = ([], [], refl, refl, some, λ more h. none more h)
    where
      none : (more : List Lexeme) → SameHead [] more → expect f more ≡ Err (fault.Unexpected (place more))
      none [] h = refl
      none (m ∷ us) h = absurd h
  told_expect (l ∷ ts) = told_taken l ts (f l.1) refl

pub good_expect : {D : Type 0} {n : ℕ} {A : Type 0} (f : Token → Option A) (R : Rule A) → ((l : Lexeme) (a : A) (more : List Lexeme) → f l.1 ≡ Some a → R a (l ∷ more) more) → Exists R → Good D n (expect f) R
good_expect {D} {n} f R is some = (record { tell = told_expect D n f R is some }, some)

module _ (D : Type 0) (n : ℕ) {A : Type 0} (f : Token → Option A) (R : Rule (A × ℕ)) (is : (l : Lexeme) (a : A) (more : List Lexeme) → f l.1 ≡ Some a → R (a, l.0) (l ∷ more) more) (some : Exists R) where
  told_taken_at : (l : Lexeme) (ts : List Lexeme) (o : Option A) → f l.1 ≡ o → Told D n (expect_placed f) R (l ∷ ts) (taken_at o l.0 ts)
  told_taken_at l ts (Some a) e = (l ∷ [], refl, λ more. is l a more e, λ more h. rw e refl)
  told_taken_at l ts None e = ([], l ∷ ts, refl, refl, some, λ more h. refused more h)
    where
      refused : (more : List Lexeme) → SameHead (l ∷ ts) more → expect_placed f more ≡ Err (fault.Unexpected (place more))
      refused [] h = absurd h
      refused (m ∷ us) h = rw (← h, e) refl

  told_placed : (ts : List Lexeme) → Told D n (expect_placed f) R ts (expect_placed f ts)
  told_placed [] = ([], [], refl, refl, some, λ more h. none more h)
    where
      none : (more : List Lexeme) → SameHead [] more → expect_placed f more ≡ Err (fault.Unexpected (place more))
      none [] h = refl
      none (m ∷ us) h = absurd h
  told_placed (l ∷ ts) = told_taken_at l ts (f l.1) refl

pub good_placed : {D : Type 0} {n : ℕ} {A : Type 0} (f : Token → Option A) (R : Rule (A × ℕ)) → ((l : Lexeme) (a : A) (more : List Lexeme) → f l.1 ≡ Some a → R (a, l.0) (l ∷ more) more) → Exists R → Good D n (expect_placed f) R
good_placed {D} {n} f R is some = (record { tell = told_placed D n f R is some }, some)

-- the token of a rule, or nothing
abbrev pub OrNothing : {A : Type 0} → Rule A → Rule (Option A)
OrNothing R (Some a) = R a
OrNothing R None = Nothing

module _ (D : Type 0) (n : ℕ) {A : Type 0} (f : Token → Option A) (R : Rule A) (is : (l : Lexeme) (a : A) (more : List Lexeme) → f l.1 ≡ Some a → R a (l ∷ more) more) where
  told_tried : (l : Lexeme) (ts : List Lexeme) (o : Option A) → f l.1 ≡ o → Told D n (attempt f) (OrNothing R) (l ∷ ts) (tried o l ts)
  told_tried l ts (Some a) e = (l ∷ [], refl, λ more. is l a more e, λ more h. rw e refl)
  told_tried l ts None e = ([], refl, λ more. refl, λ more h. kept more h)
    where
      kept : (more : List Lexeme) → SameHead (l ∷ ts) more → attempt f more ≡ Ok (None, more)
      kept [] h = absurd h
      kept (m ∷ us) h = rw (← h, e) refl

  told_attempt : (ts : List Lexeme) → Told D n (attempt f) (OrNothing R) ts (attempt f ts)
  told_attempt [] = ([], refl, λ more. refl, λ more h. none more h)
    where
      none : (more : List Lexeme) → SameHead [] more → attempt f more ≡ Ok (None, more)
      none [] h = refl
      none (m ∷ us) h = absurd h
  told_attempt (l ∷ ts) = told_tried l ts (f l.1) refl

pub tells_attempt : {D : Type 0} {n : ℕ} {A : Type 0} (f : Token → Option A) (R : Rule A) → ((l : Lexeme) (a : A) (more : List Lexeme) → f l.1 ≡ Some a → R a (l ∷ more) more) → Tells D n (attempt f) (OrNothing R)
tells_attempt {D} {n} f R is = record { tell = told_attempt D n f R is }

pub attempt_goes : {A : Type 0} (f : Token → Option A) → Fails (attempt f) → ⊥
attempt_goes f ([], at, e) = cc
attempt_goes {A} f (l ∷ ts, at, e) = goes (f l.1) e
  where
    goes : (o : Option A) → tried o l ts ≡ Err at → ⊥
    goes (Some a) e = cc
    goes None e = cc

-- this token, or nothing
abbrev pub IsMay : Terminal → Rule Bool
IsMay w true = The w
IsMay w false = Nothing

abbrev eating : Bool → Lexeme → List Lexeme → Parsed Bool
eating b l ts = cond b (Ok (true, ts)) (Ok (false, l ∷ ts))

told_eaten : (D : Type 0) (n : ℕ) (w : Terminal) (l : Lexeme) (ts : List Lexeme) (b : Bool) → is_fixed w l.1 ≡ b → Told D n (take_if (is_fixed w)) (IsMay w) (l ∷ ts) (eating b l ts)
told_eaten D n w l ts true e = (l ∷ [], refl, λ more. (l.0, ap (λ tok. (l.0, tok) ∷ more) (eaten_is w l.1 e)), λ more h. rw e refl)
told_eaten D n w l ts false e = ([], refl, λ more. refl, λ more h. kept more h)
  where
    kept : (more : List Lexeme) → SameHead (l ∷ ts) more → take_if (is_fixed w) more ≡ Ok (false, more)
    kept [] h = absurd h
    kept (m ∷ us) h = rw (← h, e) refl

told_may : (D : Type 0) (n : ℕ) (w : Terminal) (ts : List Lexeme) → Told D n (take_if (is_fixed w)) (IsMay w) ts (take_if (is_fixed w) ts)
told_may D n w [] = ([], refl, λ more. refl, λ more h. none more h)
  where
    none : (more : List Lexeme) → SameHead [] more → take_if (is_fixed w) more ≡ Ok (false, more)
    none [] h = refl
    none (m ∷ us) h = absurd h
told_may D n w (l ∷ ts) = told_eaten D n w l ts (is_fixed w l.1) refl

pub tells_may : {D : Type 0} {n : ℕ} (w : Terminal) → Tells D n (take_fixed w) (IsMay w)
unfolding take_fixed
tells_may {D} {n} w = record { tell = told_may D n w }

pub may_goes : (w : Terminal) → Fails (take_fixed w) → ⊥
unfolding take_fixed
may_goes w ([], at, e) = cc
may_goes w (l ∷ ts, at, e) = goes (is_fixed w l.1) e
  where
    goes : (b : Bool) → eating b l ts ≡ Err at → ⊥
    goes true e = cc
    goes false e = cc

-- a kind of token
pub good_kind : {D : Type 0} {A : Type 0} {n : ℕ} (f : Token → Option A) (kind : A → Token) (a : A) → ((tok : Token) (b : A) → f tok ≡ Some b → tok ≡ kind b) → Good D n (expect f) (λ b. Is (kind b))
good_kind f kind a same = good_expect f (λ b. Is (kind b)) (λ l b more e. (l.0, ap (λ tok. (l.0, tok) ∷ more) (same l.1 b e))) (a, (0, kind a) ∷ [], λ follow. (0, refl))

pub good_the : {D : Type 0} {n : ℕ} (w : Terminal) → Good D n (expect_fixed w) (λ _. The w)
unfolding expect_fixed
good_the w = good_kind (as_fixed w) (λ _. t.Fixed w) tt (fixed_is w)

-- one way with the token, and another without it
pub tells_may_bind : {D : Type 0} {B : Type 0} {n : ℕ} (w : Terminal) (f : Bool → Parser B) (T : Rule B) → ((b : Bool) → Tells D n (f b) (IsMay w b ⇒ T)) → Tells D n (take_fixed w >>= f) T
tells_may_bind w f T next = tells_bind (take_fixed w) f (IsMay w) T (tells_may w) next (λ failed x. absurd (may_goes w failed))

by_may : {D : Type 0} {B : Type 0} {n : ℕ} (w : Terminal) (p q : Parser B) (T : Rule B) → Tells D n p (The w ⇒ T) → Tells D n q T → (b : Bool) → Tells D n (cond b p q) (IsMay w b ⇒ T)
by_may w p q T with_it without true = with_it
by_may w p q T with_it without false = tells_as q T (Nothing ⇒ T) without (λ x mid rest is ts same. let P : List Lexeme → Type 0 = λ u. T x u rest in subst P (sym same) is)

pub tells_if : {D : Type 0} {B : Type 0} {n : ℕ} (w : Terminal) (p q : Parser B) (T : Rule B) → Tells D n p (The w ⇒ T) → Tells D n q T → Tells D n (take_fixed w >>= (λ b. cond b p q)) T
tells_if w p q T with_it without = tells_may_bind w _ T (by_may w p q T with_it without)

-- the end
told_end : (D : Type 0) (n : ℕ) (ts : List Lexeme) → Told D n end_at (λ _. Nothing) ts (end_at ts)
unfolding end_at
told_end D n [] = ([], refl, λ more. refl, λ more h. none more h)
  where
    none : (more : List Lexeme) → SameHead [] more → end_at more ≡ Ok (tt, more)
    none [] h = refl
    none (m ∷ us) h = absurd h
told_end D n (l ∷ ts) = ([], l ∷ ts, refl, refl, (tt, [], λ follow. refl), λ more h. some more h)
  where
    some : (more : List Lexeme) → SameHead (l ∷ ts) more → end_at more ≡ Err (fault.Unexpected (place more))
    some [] h = absurd h
    some (m ∷ us) h = refl

pub good_end : {D : Type 0} {n : ℕ} → Good D n end_at (λ _. Nothing)
good_end {D} {n} = (record { tell = told_end D n }, (tt, [], λ follow. refl))

-- ---- lists

one_more : {A : Type 0} (R : Rule A) (Between End : List Lexeme → List Lexeme → Type 0) (x : A) (xs : List A) (ts mid after rest : List Lexeme)
    → R x ts mid → Between mid after → (IsList R Between xs ⨾ End) after rest → (IsList R Between (x ∷ xs) ⨾ End) ts rest
one_more R Between End x [] ts mid after rest r b (end, l, s) = absurd l
one_more R Between End x (y ∷ ys) ts mid after rest r b (end, l, s) = (end, (mid, r, (after, b, l)), s)

-- what is read behind these items
abbrev Behind : {A : Type 0} → Rule A → Rule Bool → List A → Rule (List A)
Behind {A} R M found xs ts rest = (ys : List A) × (xs ≡ found ++ ys) × (IsList R (M true) ys ⨾ M false) ts rest

module _ {D : Type 0} {A : Type 0} (item : Parser A) (more : Parser Bool) (R : Rule A) (M : Rule Bool) (told : Tells D longest item R) (goes : Tells D longest more M)
    (end : (tail : List Lexeme) × ((follow : List Lexeme) → M false (tail ++ follow) follow)) (again : Fails more → Exists R)
    (shorter : (x : A) (ts rest : List Lexeme) → R x ts rest → length rest < length ts) where
  -- behind an item the list can end
  one : (found : List A) (x : A) → Exists (R x ⇒ Behind R M found)
  one found x = (found ++ x ∷ [], end.0, λ follow ts r. (x ∷ [], refl, (end.0 ++ follow, r, end.1 follow)))

  -- and behind what stands between two items, after a further one
  two : (found : List A) (x : A) → Exists R → Exists (M true ⇒ (R x ⇒ Behind R M found))
  two found x (y, ys, is) = (
    found ++ x ∷ y ∷ [],
    ys ++ end.0,
    λ follow mid b ts r.
        let P : List Lexeme → Type 0 = λ u. M true mid u in
        (x ∷ y ∷ [], refl, (end.0 ++ follow, (mid, r, (ys ++ (end.0 ++ follow), subst P (append_assoc ys end.0 follow) b, is (end.0 ++ follow))), end.1 follow)),
  )

  by_end : (found : List A) (x : A) → Fails more → (b : Bool) → Exists (M b ⇒ (R x ⇒ Behind R M found))
  by_end found x failed true = two found x (again failed)
  by_end found x failed false = (found ++ x ∷ [], [], λ follow mid e ts r. (x ∷ [], refl, (mid, r, e)))

  turn : (n : ℕ) (found : List A) (x : A) → Tells D n (items_from item more n (found ++ x ∷ [])) (Behind R M (found ++ x ∷ [])) → (b : Bool)
      → Tells D n (cond b (items_from item more n (found ++ x ∷ [])) (pure (found ++ x ∷ []))) (M b ⇒ (R x ⇒ Behind R M found))
  turn n found x next true = tells_as _ _ _ next (λ xs after rest is mid b ts r. (x ∷ is.0, is.1 ∙ append_assoc found (x ∷ []) is.0, one_more R (M true) (M false) x is.0 ts mid after rest r b is.2))
  turn n found x next false = tells_pure _ _ (λ rest mid e ts r. (x ∷ [], refl, (mid, r, e)))

  behind_one : (n : ℕ) (found : List A) (x : A) → n ≤ longest → Tells D n (items_from item more n (found ++ x ∷ [])) (Behind R M (found ++ x ∷ []))
      → Tells D n (more >>= (λ go. cond go (items_from item more n (found ++ x ∷ [])) (pure (found ++ x ∷ [])))) (R x ⇒ Behind R M found)
  behind_one n found x fits next = tells_bind more _ M _ (tells_less longest n more M fits goes) (turn n found x next) (by_end found x)

  tells_items_from : (n : ℕ) (found : List A) → n ≤ longest → Tells D n (items_from item more n found) (Behind R M found)
  unfolding items_from
  tells_items_from zero found fits = tells_none _ _ (λ ts. refl)
  tells_items_from (suc n) found fits =
      let room : n ≤ longest = omega arith in
      tells_bind_less (suc n) n item _ R _ (tells_less longest (suc n) item R fits told) (λ x. behind_one n found x room (tells_items_from n (found ++ x ∷ []) room)) (λ _ x. one found x)
      (λ ts x rest e small. omega (arith, shorter x ts rest (tells_found item R told ts x rest e)))

  pub tells_items : Tells D longest (items item more) (λ xs. IsList R (M true) xs ⨾ M false)
  unfolding items
  tells_items = tells_as _ _ _ (tells_items_from longest [] (omega arith)) (λ xs ts rest is. let P : List A → Type 0 = λ ys. (IsList R (M true) ys ⨾ M false) ts rest in subst P (sym is.1) is.2)

-- a list with this word between its items
pub tells_list : {D : Type 0} {A : Type 0} (item : Parser A) (w : Terminal) (R : Rule A) → Tells D longest item R → ((x : A) (ts rest : List Lexeme) → R x ts rest → length rest < length ts) → Tells D longest (items item (take_fixed w)) (IsList R (The w))
tells_list item w R told shorter =
    tells_as _ _ _ (tells_items item (take_fixed w) R (IsMay w) told (tells_may w) ([], λ follow. refl) (λ failed. absurd (may_goes w failed)) shorter)
    (λ xs ts rest is. let P : List Lexeme → Type 0 = λ u. IsList R (The w) xs ts u in subst P is.2 is.1)
