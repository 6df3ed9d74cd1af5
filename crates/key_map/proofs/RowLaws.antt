-- What a change of a slot does to the rows, for any total order in which keys that compare alike are one.
use Rattle.std.proofs.Common.{◌≡◌, List, [], ◌∷◌, Bool, true, false, cond, refl, sym, ap, ◌∙◌, Option, Some, None, is_some, IsSome, Ordering, Less, Equal, Greater}
use mathlib.Core.Bool.{false≢true}
use Rattle.std.specs.Ordering.{is_eq, match_ordering}
use Rattle.std.specs.Cmp.{IsTotalOrder, eq_by_cmp_equiv}
use Rattle.std.specs.List.{AllByRecursion}
use Rattle.std.specs.List.Sorted.{IsStrictlySortedBy}
use Rattle.std.specs.Map.{keys_of, lookup, set_value, remove_entry}
use Rattle.std.specs.BTreeMap.{insert_entry, is_at}
use Rattle.std.proofs.lemmas.Map.{lookup-none}
use Rattle.std.proofs.lemmas.Map.Entries.{none_past_head, none_below_head}
use Rattle.std.proofs.lemmas.Map.Keys.{sorted_head, sorted_tail, IsDistinct-from_sorted}
use Rattle.std.proofs.lemmas.Map.Lookups.{CmpEqualImpliesEq}
use Rattle.std.proofs.lemmas.Option.{same_Some}
use Rattle.key_map.specs.Slots.{with_row, rows_of}

-- a row that is there, if it is
abbrev pub row_in : {X : Type 0} → Option (Option X) → Option X
row_in None = None
row_in (Some v) = v

module _ {K X : Type 0} where
  -- ---- for any test of keys
  set_room_step : (b c : Bool) (k : K) (v w : X) (es fs : List (K × X)) (test : K → Bool) → test k ≡ c → (IsSome (lookup test es) → IsSome (lookup test fs)) → IsSome (lookup test ((k, v) ∷ es)) → IsSome (lookup test (cond b ((k, w) ∷ es) ((k, v) ∷ fs)))
  set_room_step true true k v w es fs test is f h = rw is refl
  set_room_step true false k v w es fs test is f h = rw is (rw is at h)
  set_room_step false true k v w es fs test is f h = rw is refl
  set_room_step false false k v w es fs test is f h = rw is (f (rw is at h))

  -- a slot that is changed keeps each key's room
  pub set_room : (t test : K → Bool) (es : List (K × X)) (w : X) → IsSome (lookup test es) → IsSome (lookup test (set_value t es w))
  set_room t test [] w h = h
  set_room t test (e ∷ es) w h = set_room_step (t e.0) (test e.0) e.0 e.1 w es (set_value t es w) test refl (set_room t test es w) h

  none_step : (b : Bool) (v w : X) (k : K) (es rest : List (K × X)) (more : Option X) → cond b (Some v) more ≡ None → (more ≡ None → rest ≡ es) → cond b ((k, w) ∷ es) ((k, v) ∷ rest) ≡ (k, v) ∷ es
  none_step true v w k es rest more h f = absurd cc
  none_step false v w k es rest more h f = ap (λ s. (k, v) ∷ s) (f h)

  -- where no key passes, nothing is changed
  pub set_none : (test : K → Bool) (es : List (K × X)) (w : X) → lookup test es ≡ None → set_value test es w ≡ es
  set_none test [] w h = refl
  set_none test (e ∷ es) w h = none_step (test e.0) e.1 w e.0 es (set_value test es w) (lookup test es) h (set_none test es w)

  remove_step : (b : Bool) (v : X) (k : K) (es rest : List (K × X)) (more : Option X) → cond b (Some v) more ≡ None → (more ≡ None → rest ≡ es) → cond b es ((k, v) ∷ rest) ≡ (k, v) ∷ es
  remove_step true v k es rest more h f = absurd cc
  remove_step false v k es rest more h f = ap (λ s. (k, v) ∷ s) (f h)

  pub remove_none : (test : K → Bool) (es : List (K × X)) → lookup test es ≡ None → remove_entry test es ≡ es
  remove_none test [] h = refl
  remove_none test (e ∷ es) h = remove_step (test e.0) e.1 e.0 es (remove_entry test es) (lookup test es) h (remove_none test es)

  module _ {R : K → K → Ordering} (o : IsTotalOrder R) where
    insert_room_step : (r : Ordering) (b c : Bool) (q k : K) (v w : X) (es rest : List (K × X)) (test : K → Bool) → test k ≡ b → test q ≡ c → (IsSome (lookup test es) → IsSome (lookup test rest)) → IsSome (lookup test ((k, v) ∷ es)) → IsSome (lookup test (match_ordering r ((q, w) ∷ (k, v) ∷ es) ((k, w) ∷ es) ((k, v) ∷ rest)))
    insert_room_step Less b true q k v w es rest test is at f h = rw at refl
    insert_room_step Less b false q k v w es rest test is at f h = rw at h
    insert_room_step Equal true c q k v w es rest test is at f h = rw is refl
    insert_room_step Equal false c q k v w es rest test is at f h = rw is (rw is at h)
    insert_room_step Greater true c q k v w es rest test is at f h = rw is refl
    insert_room_step Greater false c q k v w es rest test is at f h = rw is (f (rw is at h))

    -- a new slot keeps each key's room
    pub insert_room : (test : K → Bool) (es : List (K × X)) (q : K) (w : X) → IsSome (lookup test es) → IsSome (lookup test (insert_entry R es q w))
    insert_room test [] q w h = absurd (false≢true h)
    insert_room test (e ∷ es) q w h = insert_room_step (R q e.0) (test e.0) (test q) q e.0 e.1 w es (insert_entry R es q w) test refl refl (insert_room test es q w) h

    insert_here_step : (r : Ordering) (q k : K) (v w : X) (es rest : List (K × X)) → R q k ≡ r → is_eq (R q q) ≡ true → IsSome (lookup (is_at (R q)) rest) → IsSome (lookup (is_at (R q)) (match_ordering r ((q, w) ∷ (k, v) ∷ es) ((k, w) ∷ es) ((k, v) ∷ rest)))
    insert_here_step Less q k v w es rest is self f = rw self refl
    insert_here_step Equal q k v w es rest is self f = rw is refl
    insert_here_step Greater q k v w es rest is self f = rw is f

    -- a new slot has room
    pub insert_here : (es : List (K × X)) (q : K) (w : X) → IsSome (lookup (is_at (R q)) (insert_entry R es q w))
    insert_here [] q w = rw ((eq_by_cmp_equiv o).refl q) refl
    insert_here (e ∷ es) q w = insert_here_step (R q e.0) q e.0 e.1 w es (insert_entry R es q w) refl ((eq_by_cmp_equiv o).refl q) (insert_here es q w)

-- what is above a key is above those below it
below_too : {K : Type 0} {R : K → K → Ordering} → IsTotalOrder R → (q k : K) (ks : List K) → R q k ≡ Less → AllByRecursion (λ y. R k y ≡ Less) ks → AllByRecursion (λ y. R q y ≡ Less) ks
below_too o q k [] first h = tt
below_too o q k (y ∷ ks) first h = (o.trans q k y first h.0, below_too o q k ks first h.1)

-- ---- what the rows are

module _ {K X : Type 0} {R : K → K → Ordering} (o : IsTotalOrder R) where
  get_step : (b : Bool) (q k : K) (v : Option X) (rest : List (K × X)) (more : Option (Option X)) → is_at (R q) k ≡ b → lookup (is_at (R q)) rest ≡ row_in more → (b ≡ true → more ≡ None) → lookup (is_at (R q)) (with_row k v rest) ≡ row_in (cond b (Some v) more)
  get_step true q k None rest more is f none = f ∙ ap row_in (none refl)
  get_step true q k (Some x) rest more is f none = rw is refl
  get_step false q k None rest more is f none = f
  get_step false q k (Some x) rest more is f none = rw is f

  -- the row of a key is the one in its slot
  pub get_row : (q : K) (ss : List (K × Option X)) → IsStrictlySortedBy R (keys_of ss) → lookup (is_at (R q)) (rows_of ss) ≡ row_in (lookup (is_at (R q)) ss)
  get_row q [] up = refl
  get_row q (s ∷ ss) up =
      get_step (is_at (R q) s.0) q s.0 s.1 (rows_of ss) (lookup (is_at (R q)) ss) refl (get_row q ss (sorted_tail R s.0 (keys_of ss) up))
      (λ here. lookup-none (is_at (R q)) ss (none_past_head (eq_by_cmp_equiv o) q s ss (IsDistinct-from_sorted R (keys_of (s ∷ ss)) up) here))

  remove_row_step : (b : Bool) (q k : K) (v : Option X) (ss ts : List (K × Option X)) → is_at (R q) k ≡ b → rows_of ts ≡ remove_entry (is_at (R q)) (rows_of ss) → (b ≡ true → lookup (is_at (R q)) (rows_of ss) ≡ None) → rows_of (cond b ((k, None) ∷ ss) ((k, v) ∷ ts)) ≡ remove_entry (is_at (R q)) (with_row k v (rows_of ss))
  remove_row_step true q k None ss ts is f none = sym (remove_none (is_at (R q)) (rows_of ss) (none refl))
  remove_row_step true q k (Some x) ss ts is f none = rw is refl
  remove_row_step false q k None ss ts is f none = f
  remove_row_step false q k (Some x) ss ts is f none = rw is (ap (λ r. (k, x) ∷ r) f)

  none_behind : (q : K) (s : K × Option X) (ss : List (K × Option X)) → IsStrictlySortedBy R (keys_of (s ∷ ss)) → is_at (R q) s.0 ≡ true → lookup (is_at (R q)) ss ≡ None
  none_behind q s ss up here = lookup-none (is_at (R q)) ss (none_past_head (eq_by_cmp_equiv o) q s ss (IsDistinct-from_sorted R (keys_of (s ∷ ss)) up) here)

  -- a slot that becomes empty takes its row away
  pub remove_row : (q : K) (ss : List (K × Option X)) → IsStrictlySortedBy R (keys_of ss) → rows_of (set_value (is_at (R q)) ss None) ≡ remove_entry (is_at (R q)) (rows_of ss)
  remove_row q [] up = refl
  remove_row q (s ∷ ss) up =
      let tail = sorted_tail R s.0 (keys_of ss) up in
      remove_row_step (is_at (R q) s.0) q s.0 s.1 ss (set_value (is_at (R q)) ss None) refl (remove_row q ss tail) (λ here. get_row q ss tail ∙ ap row_in (none_behind q s ss up here))

  blank_step : (r : Ordering) (q k : K) (v : Option X) (ss ts : List (K × Option X)) (more : Option (Option X)) → cond (is_eq r) (Some v) more ≡ None → (more ≡ None → rows_of ts ≡ rows_of ss) → rows_of (match_ordering r ((q, None) ∷ (k, v) ∷ ss) ((k, None) ∷ ss) ((k, v) ∷ ts)) ≡ with_row k v (rows_of ss)
  blank_step Less q k v ss ts more h f = refl
  blank_step Equal q k v ss ts more h f = absurd cc
  blank_step Greater q k v ss ts more h f = ap (with_row k v) (f h)

  -- an empty slot at a new key changes no row
  pub blank_row : (q : K) (ss : List (K × Option X)) → lookup (is_at (R q)) ss ≡ None → rows_of (insert_entry R ss q None) ≡ rows_of ss
  blank_row q [] h = refl
  blank_row q (s ∷ ss) h = blank_step (R q s.0) q s.0 s.1 ss (insert_entry R ss q None) (lookup (is_at (R q)) ss) h (blank_row q ss)

  front_step : (q k : K) (x : X) (v : Option X) (rest : List (K × X)) → R q k ≡ Less → insert_entry R rest q x ≡ (q, x) ∷ rest → insert_entry R (with_row k v rest) q x ≡ (q, x) ∷ with_row k v rest
  front_step q k x None rest below f = f
  front_step q k x (Some y) rest below f = rw below refl

  -- a key below all others goes to the front
  pub put_front : (q : K) (x : X) (ss : List (K × Option X)) → AllByRecursion (λ k. R q k ≡ Less) (keys_of ss) → insert_entry R (rows_of ss) q x ≡ (q, x) ∷ rows_of ss
  put_front q x [] below = refl
  put_front q x (s ∷ ss) below = front_step q s.0 x s.1 (rows_of ss) below.0 (put_front q x ss below.1)

  module _ (exact : CmpEqualImpliesEq R) where
    put_step : (r : Ordering) (q k : K) (x : X) (v : Option X) (ss ts : List (K × Option X)) → R q k ≡ r → (r ≡ Less → ⊥) → (r ≡ Equal → insert_entry R (rows_of ss) k x ≡ (k, x) ∷ rows_of ss) → (r ≡ Greater → rows_of ts ≡ insert_entry R (rows_of ss) q x)
        → rows_of (cond (is_eq r) ((k, Some x) ∷ ss) ((k, v) ∷ ts)) ≡ insert_entry R (with_row k v (rows_of ss)) q x
    put_step Less q k x v ss ts is apart front f = absurd (apart refl)
    put_step Equal q k x None ss ts is apart front f = let same : q ≡ k = exact q k is in sym (ap (λ p. insert_entry R (rows_of ss) p x) same ∙ front refl)
    put_step Equal q k x (Some y) ss ts is apart front f = rw is refl
    put_step Greater q k x None ss ts is apart front f = f refl
    put_step Greater q k x (Some y) ss ts is apart front f = rw is (ap (λ r. (k, y) ∷ r) (f refl))

    not_there : (q : K) (s : K × Option X) (ss : List (K × Option X)) → IsStrictlySortedBy R (keys_of (s ∷ ss)) → IsSome (lookup (is_at (R q)) (s ∷ ss)) → R q s.0 ≡ Less → ⊥
    not_there q s ss up room below = let none = lookup-none (is_at (R q)) (s ∷ ss) (none_below_head o q s ss up below) in false≢true (sym (ap is_some none) ∙ room)

    same_step : (r : Ordering) (q k : K) (v w : Option X) (ss ts : List (K × Option X)) (more : Option (Option X)) → (r ≡ Less → ⊥) → cond (is_eq r) (Some v) more ≡ Some w → (r ≡ Greater → more ≡ Some w → ts ≡ ss) → match_ordering r ((q, w) ∷ (k, v) ∷ ss) ((k, w) ∷ ss) ((k, v) ∷ ts) ≡ (k, v) ∷ ss
    same_step Less q k v w ss ts more apart h f = absurd (apart refl)
    same_step Equal q k v w ss ts more apart h f = ap (λ x. (k, x) ∷ ss) (sym (same_Some v w h))
    same_step Greater q k v w ss ts more apart h f = ap (λ t. (k, v) ∷ t) (f refl h)

    -- a slot that is written as it is stays
    insert_same : (q : K) (w : Option X) (ss : List (K × Option X)) → IsStrictlySortedBy R (keys_of ss) → lookup (is_at (R q)) ss ≡ Some w → insert_entry R ss q w ≡ ss
    insert_same q w [] up h = absurd cc
    insert_same q w (s ∷ ss) up h =
        same_step (R q s.0) q s.0 s.1 w ss (insert_entry R ss q w) (lookup (is_at (R q)) ss) (not_there q s ss up (ap is_some h)) h
        (λ above there. insert_same q w ss (sorted_tail R s.0 (keys_of ss) up) there)

    kept_step : (q : K) (ss : List (K × Option X)) (found : Option (Option X)) → IsStrictlySortedBy R (keys_of ss) → lookup (is_at (R q)) ss ≡ found → rows_of (insert_entry R ss q (row_in found)) ≡ rows_of ss
    kept_step q ss None up h = blank_row q ss h
    kept_step q ss (Some w) up h = ap rows_of (insert_same q w ss up h)

    -- a slot that is made unless it is there changes no row
    pub kept_row : (q : K) (ss : List (K × Option X)) → IsStrictlySortedBy R (keys_of ss) → rows_of (insert_entry R ss q (row_in (lookup (is_at (R q)) ss))) ≡ rows_of ss
    kept_row q ss up = kept_step q ss (lookup (is_at (R q)) ss) up refl

    there_step : (r : Ordering) (v : Option X) (more : Option (Option X)) → IsSome (cond (is_eq r) (Some v) more) → r ≡ Greater → IsSome more
    there_step Less v more h is = h
    there_step Equal v more h is = absurd cc
    there_step Greater v more h is = h

    -- a row that is written into the slot of its key goes to its place
    pub put_row : (q : K) (x : X) (ss : List (K × Option X)) → IsStrictlySortedBy R (keys_of ss) → IsSome (lookup (is_at (R q)) ss) → rows_of (set_value (is_at (R q)) ss (Some x)) ≡ insert_entry R (rows_of ss) q x
    put_row q x [] up room = absurd (false≢true room)
    put_row q x (s ∷ ss) up room =
        put_step (R q s.0) q s.0 x s.1 ss (set_value (is_at (R q)) ss (Some x)) refl (not_there q s ss up room)
        (λ _. put_front s.0 x ss (sorted_head R s.0 (keys_of ss) up))
        (λ above. put_row q x ss (sorted_tail R s.0 (keys_of ss) up) (there_step (R q s.0) s.1 (lookup (is_at (R q)) ss) room above))

    place_step : (r : Ordering) (q k : K) (x : X) (v : Option X) (ss ts : List (K × Option X)) → R q k ≡ r → (r ≡ Less → insert_entry R (rows_of ss) q x ≡ (q, x) ∷ rows_of ss) → (r ≡ Equal → insert_entry R (rows_of ss) k x ≡ (k, x) ∷ rows_of ss) → (r ≡ Greater → rows_of ts ≡ insert_entry R (rows_of ss) q x)
        → rows_of (match_ordering r ((q, Some x) ∷ (k, v) ∷ ss) ((k, Some x) ∷ ss) ((k, v) ∷ ts)) ≡ insert_entry R (with_row k v (rows_of ss)) q x
    place_step Less q k x v ss ts is below front f = sym (front_step q k x v (rows_of ss) is (below refl))
    place_step Equal q k x v ss ts is below front f = put_step Equal q k x v ss ts is (λ h. absurd cc) front (λ h. absurd cc)
    place_step Greater q k x v ss ts is below front f = put_step Greater q k x v ss ts is (λ h. absurd cc) (λ h. absurd cc) f

    -- a slot with a row, in place of its key's own or new, brings the row to its place
    pub place_row : (q : K) (x : X) (ss : List (K × Option X)) → IsStrictlySortedBy R (keys_of ss) → rows_of (insert_entry R ss q (Some x)) ≡ insert_entry R (rows_of ss) q x
    place_row q x [] up = refl
    place_row q x (s ∷ ss) up =
        let head = sorted_head R s.0 (keys_of ss) up in
        place_step (R q s.0) q s.0 x s.1 ss (insert_entry R ss q (Some x)) refl (λ below. put_front q x ss (below_too o q s.0 (keys_of ss) below head)) (λ _. put_front s.0 x ss head)
        (λ above. place_row q x ss (sorted_tail R s.0 (keys_of ss) up))

  drop_step : (b : Bool) (k : K) (v : Option X) (ss ts : List (K × Option X)) (more : Option (Option X)) → cond b (Some v) more ≡ Some None → (more ≡ Some None → rows_of ts ≡ rows_of ss) → rows_of (cond b ss ((k, v) ∷ ts)) ≡ with_row k v (rows_of ss)
  drop_step true k None ss ts more h f = refl
  drop_step true k (Some x) ss ts more h f = absurd cc
  drop_step false k v ss ts more h f = ap (with_row k v) (f h)

  -- an empty slot that is taken out takes no row with it
  pub drop_row : (test : K → Bool) (ss : List (K × Option X)) → lookup test ss ≡ Some None → rows_of (remove_entry test ss) ≡ rows_of ss
  drop_row test [] h = absurd cc
  drop_row test (s ∷ ss) h = drop_step (test s.0) s.0 s.1 ss (remove_entry test ss) (lookup test ss) h (drop_row test ss)

  drop_room_step : (b c : Bool) (test : K → Bool) (k : K) (v : Option X) (ss ts : List (K × Option X)) → test k ≡ c → (b ≡ true → c ≡ true → ⊥) → (IsSome (lookup test ss) → IsSome (lookup test ts)) → IsSome (lookup test ((k, v) ∷ ss)) → IsSome (lookup test (cond b ss ((k, v) ∷ ts)))
  drop_room_step true true test k v ss ts is apart f h = absurd (apart refl refl)
  drop_room_step true false test k v ss ts is apart f h = rw is at h
  drop_room_step false true test k v ss ts is apart f h = rw is refl
  drop_room_step false false test k v ss ts is apart f h = rw is (f (rw is at h))

  -- and leaves the room of other keys
  pub drop_room : (key q : K) (ss : List (K × Option X)) → is_at (R key) q ≡ false → IsSome (lookup (is_at (R q)) ss) → IsSome (lookup (is_at (R q)) (remove_entry (is_at (R key)) ss))
  drop_room key q [] apart h = h
  drop_room key q (s ∷ ss) apart h =
      let eq = eq_by_cmp_equiv o in
      drop_room_step (is_at (R key) s.0) (is_at (R q) s.0) (is_at (R q)) s.0 s.1 ss (remove_entry (is_at (R key)) ss) refl
      (λ first second. false≢true (sym apart ∙ (eq.congr key s.0 q first ∙ (eq.symm s.0 q ∙ second))))
      (drop_room key q ss apart) h

below_rows : {K X : Type 0} (R : K → K → Ordering) (k : K) (ss : List (K × Option X)) → AllByRecursion (λ y. R k y ≡ Less) (keys_of ss) → AllByRecursion (λ y. R k y ≡ Less) (keys_of (rows_of ss))
below_rows R k [] h = tt
below_rows R k ((q, None) ∷ ss) h = below_rows R k ss h.1
below_rows R k ((q, Some x) ∷ ss) h = (h.0, below_rows R k ss h.1)

-- the keys of the rows rise
pub rows_rise : {K X : Type 0} (R : K → K → Ordering) (ss : List (K × Option X)) → IsStrictlySortedBy R (keys_of ss) → IsStrictlySortedBy R (keys_of (rows_of ss))
unfolding IsStrictlySortedBy
rows_rise R [] up = tt
rows_rise R ((k, None) ∷ ss) up = rows_rise R ss up.1
rows_rise R ((k, Some x) ∷ ss) up = (below_rows R k ss up.0, rows_rise R ss up.1)
