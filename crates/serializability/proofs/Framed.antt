-- The small store meets what the law asks for.
use Rattle.std.proofs.Common.{◌≡◌, inl, inr, ⊎_elim, ℕ, ◌+◌, Bool, true, false, Option, None, Some, List, ◌++◌, ◌==◌, refl, sym, ◌∙◌, ap, subst, eq-eqb}
use Rattle.std.proofs.lemmas.Bool.{eqb-true}
use Rattle.std.specs.Prelude.{if◌then◌else◌, nat_lt}
use Rattle.serializability.specs.Words.{Apart, Fewer, In, Laws, apply_all}
use Rattle.serializability.specs.SmallStore.{SmallStore, Change, create, set_row, Claim, Call, Describe, Get, Scan, Insert, Update, Delete, Create, Answer, Changed, IsFull, IsThere, Row, Rows, Meaning, is_there, first_of_both, apply, overlaps, hits, clash, reads, writes, claims_at, found_claims, absent_claims, table_of, says, does, found, absent, meaning_at, meaning, Within, small_words}
use Rattle.serializability.proofs.Order.{in_append, in_left, in_right}
use Rattle.serializability.proofs.Running.{both, which}
use Rattle.serializability.proofs.UnitList.{flip}

abbrev covers : Option ℕ → ℕ → Bool
covers None y = true
covers (Some k) y = y == k

record Covered (c : Claim) (s t : SmallStore) : Type 0 where
  schema : s.schemas c.table ≡ t.schemas c.table
  rows : (y : ℕ) → covers c.key y ≡ true → s.rows c.table y ≡ t.rows c.table y
  star : c.table ≡ 0 → s.count ≡ t.count

abbrev Grows : SmallStore → SmallStore → Type 0
Grows s t = (x n : ℕ) → s.schemas x ≡ Some n → t.schemas x ≡ Some n

record Agree (cs : List Claim) (s t : SmallStore) : Type 0 where
  grows : Grows s t
  covered : (c : Claim) → In c cs → Covered c s t

eq_sym : (a b : ℕ) → (a == b) ≡ (b == a)
eq_sym a b = ⊎_elim (λ so. so ∙ sym (eq-eqb b a (sym (eqb-true a b so)))) (λ n. n ∙ sym (flip a b n)) (which (a == b))

overlaps_sym : (p q : Option ℕ) → overlaps p q ≡ overlaps q p
overlaps_sym None None = refl
overlaps_sym None (Some b) = refl
overlaps_sym (Some a) None = refl
overlaps_sym (Some a) (Some b) = eq_sym a b

sym_if : (a b x y : Bool) → x ≡ y → (if a then x else if b then x else false) ≡ false → (if b then y else if a then y else false) ≡ false
sym_if true true x y same e = sym same ∙ e
sym_if true false x y same e = sym same ∙ e
sym_if false true x y same e = sym same ∙ e
sym_if false false x y same e = refl

clash_sym : (c d : Claim) → clash c d ≡ false → clash d c ≡ false
clash_sym c d e = sym_if c.is_write d.is_write (hits c d) (hits d c) (λ i. if eq_sym c.table d.table i then overlaps_sym c.key d.key i else false) e

-- a write that clashes with no claim of a table
apart_there : (t : ℕ) (k : Option ℕ) (c : Claim) → clash (writes t k) c ≡ false → (c.table == t) ≡ true → overlaps k c.key ≡ false
apart_there t k c e so = sym (ap (λ b. if b then overlaps k c.key else false) (eq_sym t c.table ∙ so)) ∙ e

meet : (q : Option ℕ) (k y : ℕ) → covers q y ≡ true → (y == k) ≡ true → overlaps (Some k) q ≡ true
meet None k y c so = refl
meet (Some a) k y c so = eq-eqb k a (sym (eqb-true y k so) ∙ eqb-true y a c)

-- ---- changes

grows_apply : (x : Change) (s : SmallStore) → Grows s (apply x s)
grows_apply (create t n) s x m is =
    let P : Bool → Type 0 = λ b. (if b then Some (first_of_both (s.schemas t) n) else s.schemas x) ≡ Some m in
    ⊎_elim
    (λ so. subst P (sym so) (ap (λ q. Some (first_of_both q n)) (ap s.schemas (sym (eqb-true x t so)) ∙ is)))
    (λ ne. subst P (sym ne) is)
    (which (x == t))
grows_apply (set_row t k v) s x m is = is

foreign : (x : Change) (cs ds : List Claim) (s : SmallStore) → Within x ds → Apart small_words ds cs → Agree cs s (apply x s)
foreign (create t n) cs ds s within apart = record {
  grows = grows_apply (create t n) s;
  covered = λ c i. record {
    schema = ⊎_elim
        (λ so. both true refl (apart_there t None c (apart (writes t None) c within.0 i) so))
        (λ ne. sym (ap (λ b. if b then Some (first_of_both (s.schemas t) n) else s.schemas c.table) ne))
        (which (c.table == t));
    rows = λ y cover. refl;
    star = λ zero_is. both true refl (apart_there 0 None c (apart (writes 0 None) c within.1 i) (eq-eqb c.table 0 zero_is));
  };
}
foreign (set_row t k v) cs ds s within apart = record {
  grows = λ x m is. is;
  covered = λ c i. record {
    schema = refl;
    rows = λ y cover.
        let old = s.rows c.table y in
        let new : Bool → Bool → Bool → Option ℕ = λ p q r. if p then (if q then (if r then v else old) else old) else old in
        let p = is_there (s.schemas t) in
        ⊎_elim
        (λ there. ⊎_elim
        (λ so. ⊎_elim
        (λ it. both (overlaps (Some k) c.key) (meet c.key k y cover it) (apart_there t (Some k) c (apart (writes t (Some k)) c within i) so))
        (λ other. sym (ap (λ b. new p (c.table == t) b) other ∙ ap (λ b. new p b false) so ∙ ap (λ b. new b true false) there))
        (which (y == k)))
        (λ ne. sym (ap (λ b. new p b (y == k)) ne ∙ ap (λ b. new b false (y == k)) there))
        (which (c.table == t)))
        (λ gone. sym (ap (λ b. new b (c.table == t) (y == k)) gone))
        (which p);
    star = λ z. refl;
  };
}

own : (x : Change) (cs : List Claim) (s t : SmallStore) → Within x cs → Agree cs s t → Agree cs (apply x s) (apply x t)
own (create a n) cs s t within agree =
    let same = (agree.covered (writes a None) within.0).schema in record {
      grows = λ x m.
          let P : Bool → Type 0 = λ b. (if b then Some (first_of_both (s.schemas a) n) else s.schemas x) ≡ Some m → (if b then Some (first_of_both (t.schemas a) n) else t.schemas x) ≡ Some m in
          ⊎_elim
          (λ so. subst P (sym so) (λ is. ap (λ q. Some (first_of_both q n)) (sym same) ∙ is))
          (λ ne. subst P (sym ne) (agree.grows x m))
          (which (x == a));
      covered = λ c i. record {
        schema = λ j. if c.table == a then Some (first_of_both (same j) n) else (agree.covered c i).schema j;
        rows = (agree.covered c i).rows;
        star = λ z j. if is_there (same j) then (agree.covered c i).star z j else (agree.covered c i).star z j + 1;
      };
    }
own (set_row a k v) cs s t within agree =
    let same = (agree.covered (writes a (Some k)) within).schema in record {
      grows = agree.grows;
      covered = λ c i. record {
        schema = (agree.covered c i).schema;
        rows = λ y cover.
            let r = (agree.covered c i).rows y cover in
            λ j. if is_there (same j) then (if c.table == a then (if y == k then v else r j) else r j) else r j;
        star = (agree.covered c i).star;
      };
    }

-- ---- calls

-- stores that agree on what a call claims agree on its schema
schema_by : (call : Call) (s t : SmallStore) (q : Option ℕ) → s.schemas (table_of call) ≡ q → Agree (claims_at call q) s t → q ≡ t.schemas (table_of call)
schema_by call s t (Some n) is agree = sym (agree.grows (table_of call) n is)
schema_by (Create a n) s t None is agree = sym is ∙ (agree.covered (writes a None) (inl refl)).schema
schema_by (Describe a) s t None is agree = sym is ∙ (agree.covered (reads a None) (inl refl)).schema
schema_by (Get a k) s t None is agree = sym is ∙ (agree.covered (reads a None) (inl refl)).schema
schema_by (Scan a) s t None is agree = sym is ∙ (agree.covered (reads a None) (inl refl)).schema
schema_by (Insert a k v) s t None is agree = sym is ∙ (agree.covered (reads a None) (inl refl)).schema
schema_by (Update a k v) s t None is agree = sym is ∙ (agree.covered (reads a None) (inl refl)).schema
schema_by (Delete a k) s t None is agree = sym is ∙ (agree.covered (reads a None) (inl refl)).schema

schema_same : (call : Call) (s t : SmallStore) → Agree (claims_at call (s.schemas (table_of call))) s t → s.schemas (table_of call) ≡ t.schemas (table_of call)
schema_same call s t agree = schema_by call s t (s.schemas (table_of call)) refl agree

absent_by : (call : Call) (s t : SmallStore) → Agree (absent_claims call) s t → absent call s.count ≡ absent call t.count
absent_by (Create a n) s t agree = ap (λ m. if nat_lt m 1000 then does (create a n) 0 else says IsFull) ((agree.covered (writes 0 None) (inr (inl refl))).star refl)
absent_by (Describe a) s t agree = refl
absent_by (Get a k) s t agree = refl
absent_by (Scan a) s t agree = refl
absent_by (Insert a k v) s t agree = refl
absent_by (Update a k v) s t agree = refl
absent_by (Delete a k) s t agree = refl

found_by : (call : Call) (n : ℕ) (s t : SmallStore) → Agree (found_claims call) s t → found call n (s.rows (table_of call)) ≡ found call n (t.rows (table_of call))
found_by (Create a m) n s t agree = refl
found_by (Describe a) n s t agree = refl
found_by (Get a k) n s t agree = ap (λ r. says (Row r)) ((agree.covered (reads a (Some k)) (inl refl)).rows k (eq-eqb k k refl))
found_by (Scan a) n s t agree = λ i. says (Rows (λ y. (agree.covered (reads a None) (inl refl)).rows y refl i))
found_by (Insert a k v) n s t agree = ap (λ r. if is_there r then says IsThere else does (set_row a k (Some v)) 1) ((agree.covered (writes a (Some k)) (inl refl)).rows k (eq-eqb k k refl))
found_by (Update a k v) n s t agree = ap (λ r. if is_there r then does (set_row a k (Some v)) 1 else says (Changed 0)) ((agree.covered (writes a (Some k)) (inl refl)).rows k (eq-eqb k k refl))
found_by (Delete a k) n s t agree = ap (λ r. if is_there r then does (set_row a k None) 1 else says (Changed 0)) ((agree.covered (writes a (Some k)) (inl refl)).rows k (eq-eqb k k refl))

meaning_by : (call : Call) (s t : SmallStore) (q : Option ℕ) → Agree (claims_at call q) s t → meaning_at call q (s.rows (table_of call)) s.count ≡ meaning_at call q (t.rows (table_of call)) t.count
meaning_by call s t None agree = absent_by call s t agree
meaning_by call s t (Some n) agree = found_by call n s t agree

meaning_same : (call : Call) (s t : SmallStore) → Agree (claims_at call (s.schemas (table_of call))) s t → meaning call s ≡ meaning call t
meaning_same call s t agree =
    meaning_by call s t (s.schemas (table_of call)) agree ∙ ap (λ q. meaning_at call q (t.rows (table_of call)) t.count) (schema_same call s t agree)

-- ---- where changes lie

abbrev AllIn : List Claim → Meaning → Type 0
AllIn cs m = (x : Change) → In x m.changes → Within x cs

only : (x : Change) (n : ℕ) (cs : List Claim) → Within x cs → AllIn cs (does x n)
only x n cs w y (inl is) = subst (λ (z : Change). Within z cs) (sym is) w
only x n cs w y (inr i) = absurd i

none : (a : Answer) (cs : List Claim) → AllIn cs (says a)
none a cs y i = absurd i

by_test : (b : Bool) (m n : Meaning) (cs : List Claim) → AllIn cs m → AllIn cs n → AllIn cs (if b then m else n)
by_test true m n cs p q = p
by_test false m n cs p q = q

found_lies : (call : Call) (n : ℕ) (rows : ℕ → Option ℕ) → AllIn (found_claims call) (found call n rows)
found_lies (Create a m) n rows = λ y i. absurd i
found_lies (Describe a) n rows = λ y i. absurd i
found_lies (Get a k) n rows = λ y i. absurd i
found_lies (Scan a) n rows = λ y i. absurd i
found_lies (Insert a k v) n rows = by_test (is_there (rows k)) _ _ _ (none IsThere _) (only (set_row a k (Some v)) 1 _ (inl refl))
found_lies (Update a k v) n rows = by_test (is_there (rows k)) _ _ _ (only (set_row a k (Some v)) 1 _ (inl refl)) (none (Changed 0) _)
found_lies (Delete a k) n rows = by_test (is_there (rows k)) _ _ _ (only (set_row a k None) 1 _ (inl refl)) (none (Changed 0) _)

absent_lies : (call : Call) (count : ℕ) → AllIn (absent_claims call) (absent call count)
absent_lies (Create a n) count = by_test (nat_lt count 1000) _ _ _ (only (create a n) 0 _ (inl refl, inr (inl refl))) (none IsFull _)
absent_lies (Describe a) count = λ y i. absurd i
absent_lies (Get a k) count = λ y i. absurd i
absent_lies (Scan a) count = λ y i. absurd i
absent_lies (Insert a k v) count = λ y i. absurd i
absent_lies (Update a k v) count = λ y i. absurd i
absent_lies (Delete a k) count = λ y i. absurd i

lies_at : (call : Call) (q : Option ℕ) (rows : ℕ → Option ℕ) (count : ℕ) → AllIn (claims_at call q) (meaning_at call q rows count)
lies_at call None rows count = absent_lies call count
lies_at call (Some n) rows count = found_lies call n rows

within_more : (x : Change) (cs ds : List Claim) → Fewer cs ds → Within x cs → Within x ds
within_more (create t n) cs ds fewer w = (fewer (writes t None) w.0, fewer (writes 0 None) w.1)
within_more (set_row t k v) cs ds fewer w = fewer (writes t (Some k)) w

pub small_laws : Laws small_words
small_laws = record {
  Agree = Agree;
  agree_refl = λ cs s. record { grows = λ x n is. is; covered = λ c i. record { schema = refl; rows = λ y o. refl; star = λ z. refl } };
  agree_trans = λ cs s t u p q. record {
    grows = λ x n is. q.grows x n (p.grows x n is);
    covered = λ c i. record { schema = (p.covered c i).schema ∙ (q.covered c i).schema; rows = λ y o. (p.covered c i).rows y o ∙ (q.covered c i).rows y o; star = λ z. (p.covered c i).star z ∙ (q.covered c i).star z };
  };
  agree_fewer = λ cs ds s t fewer agree. record { grows = agree.grows; covered = λ c i. agree.covered c (fewer c i) };
  clash_sym = clash_sym;
  added_old = λ cs ds c i. in_left c cs ds i;
  added_new = λ cs ds c i. in_right c cs ds i;
  added_only = λ cs ds c i. in_append c cs ds i;
  Grows = Grows;
  grows_refl = λ s x n is. is;
  grows_trans = λ s t u p q x n is. q x n (p x n is);
  grows_apply = grows_apply;
  sound_apply = λ x cs s sound w. tt;
  within_grows = λ x cs s t grows w. w;
  within_more = λ s. within_more;
  foreign = foreign;
  own = own;
  same_claims = λ call s t good_s good_t agree. ap (λ q. claims_at call q) (schema_same call s t agree);
  same_answer = λ call xs s t good_s good_t agree. ap (λ (m : Meaning). m.answer) (meaning_same call s t agree);
  same_changes = λ call xs s t good_s good_t agree. ap (λ (m : Meaning). m.changes) (meaning_same call s t agree);
  lies = λ call xs cs s x sound own i. let v = apply_all small_words xs s in
      within_more x (claims_at call (v.schemas (table_of call))) (cs ++ claims_at call (v.schemas (table_of call))) (λ c j. in_right c cs _ j) (lies_at call (v.schemas (table_of call)) (v.rows (table_of call)) v.count x i);
}
