-- Changes that have their room, one after another.
use Rattle.std.proofs.Common.{◌≡◌, ℕ, ◌+◌, ◌<◌, zero, suc, List, [], ◌∷◌, ◌++◌, Bool, if◌then◌else◌, refl, sym, ap, subst, ◌∙◌, map, take, drop, length, get_or, Option, Some, None, arith}
use Rattle.std.specs.Prelude.{bytes_eq, unwrap_or}
use Rattle.std.proofs.lemmas.List.{take_more}
use Rattle.row_values.specs.Schema.{Schema}
use Rattle.key_map.specs.Slots.{HasRoom, Slots}
use Rattle.tables.specs.Applied.{apply_all}
use Rattle.tables.specs.Change.{Change, create, put, remove}
use Rattle.tables.specs.Tables.{Store, apply, schema_of}
use Rattle.tables.proofs.Changes.{create_creates, put_puts, remove_removes}
use Rattle.paged_tables.specs.Stored.{HasRoomFor}
use Rattle.paged_tables.specs.TablesByName.{AreReady, Grows, IsReady, Tables, schema_after, schema_at, slots_at}

room_grows : (form : Option (List ℕ)) (a b : Slots) → ((q : List ℕ) → HasRoom q a → HasRoom q b) → HasRoomFor a form → HasRoomFor b form
room_grows None a b more h = tt
room_grows (Some form) a b more h = more form h

ready_grows : (d : Change) (form : Option (List ℕ)) (v : Store) (s t : Tables) → Grows s t → IsReady d form v s → IsReady d form v t
ready_grows (create name schema) form v s t g h = λ none. g.schemas name schema (h none)
ready_grows (put name row) form v s t g h = λ schema is. ((h schema is).0, room_grows form (slots_at s name) (slots_at t name) (g.rooms name) (h schema is).1)
ready_grows (remove name key) form v s t g h = λ schema is. ((h schema is).0, room_grows form (slots_at s name) (slots_at t name) (g.rooms name) (h schema is).1)

-- room that is there stays
pub all_grow : (ds : List Change) (fs : List (Option (List ℕ))) (v : Store) (s t : Tables) → Grows s t → AreReady ds fs v s → AreReady ds fs v t
all_grow [] [] v s t g h = tt
all_grow [] (f ∷ fs) v s t g h = h
all_grow (d ∷ ds) [] v s t g h = h
all_grow (d ∷ ds) (f ∷ fs) v s t g h = (ready_grows d f v s t g h.0, all_grow ds fs (apply d v) s t g h.1)

one_more : (ds : List Change) (fs : List (Option (List ℕ))) (v : Store) (t : Tables) (d : Change) (f : Option (List ℕ)) → AreReady ds fs v t → IsReady d f (apply_all ds v) t → AreReady (ds ++ d ∷ []) (fs ++ f ∷ []) v t
one_more [] [] v t d f h ready = (ready, tt)
one_more [] (g ∷ fs) v t d f h ready = absurd h
one_more (e ∷ ds) [] v t d f h ready = absurd h
one_more (e ∷ ds) (g ∷ fs) v t d f h ready = (h.0, one_more ds fs (apply e v) t d f h.1 ready)

all_more : (ds : List Change) (v : Store) (d : Change) → apply_all (ds ++ d ∷ []) v ≡ apply d (apply_all ds v)
all_more [] v d = refl
all_more (e ∷ ds) v d = all_more ds (apply e v) d

known_step : (b : Bool) (n o m p : Option Schema) (schema : Schema) → n ≡ m → o ≡ p → (if b then Some (unwrap_or n schema) else o) ≡ (if b then Some (unwrap_or m schema) else p)
known_step b n o m p schema one two = ap (λ x. if b then Some (unwrap_or x schema) else o) one ∙ ap (λ x. if b then Some (unwrap_or m schema) else x) two

-- the schemas after a change
known_after : (d : Change) (v : Store) (s : Tables) → ((q : List ℕ) → schema_of v q ≡ schema_at s q) → (q : List ℕ) → schema_of (apply d v) q ≡ schema_after d s q
known_after (create name schema) v s known q =
    (create_creates name schema v).schemas q ∙ known_step (bytes_eq q name) (schema_of v name) (schema_of v q) (schema_at s name) (schema_at s q) schema (known name) (known q)
known_after (put name row) v s known q = (put_puts name row v).schemas q ∙ known q
known_after (remove name key) v s known q = (remove_removes name key v).schemas q ∙ known q

map_append : {A B : Type 0} (f : A → B) (xs ys : List A) → map f (xs ++ ys) ≡ map f xs ++ map f ys
map_append f [] ys = refl
map_append f (x ∷ xs) ys = ap (λ l. f x ∷ l) (map_append f xs ys)

-- one item more is taken
pub taken_more : {A B : Type 0} (f : A → B) (xs : List A) (i : ℕ) (x : A) → i < length xs → x ≡ get_or xs i x → map f (take (i + 1) xs) ≡ map f (take i xs) ++ f x ∷ []
taken_more f xs i x lt is = ap (map f) (take_more xs i x lt ∙ ap (λ y. take i xs ++ y ∷ []) (sym is)) ∙ map_append f (take i xs) (x ∷ [])

module _ (ds : List Change) (d : Change) (all : List Change) (is : all ≡ ds ++ d ∷ []) (v : Store) (s t : Tables) (known : (q : List ℕ) → schema_of (apply_all ds v) q ≡ schema_at s q) where
  -- one change more has its room
  pub next_ready : (fs gs : List (Option (List ℕ))) (f : Option (List ℕ)) → gs ≡ fs ++ f ∷ [] → AreReady ds fs v s → Grows s t → ((store : Store) → ((q : List ℕ) → schema_of store q ≡ schema_at s q) → IsReady d f store t) → AreReady all gs v t
  next_ready fs gs f more h g ready =
      subst (λ (l : List Change). AreReady l gs v t) (sym is)
      (subst (λ (l : List (Option (List ℕ))). AreReady (ds ++ d ∷ []) l v t) (sym more) (one_more ds fs v t d f (all_grow ds fs v s t g h) (ready (apply_all ds v) known)))

  pub next_known : ((q : List ℕ) → schema_at t q ≡ schema_after d s q) → (q : List ℕ) → schema_of (apply_all all v) q ≡ schema_at t q
  next_known schemas q = ap (λ (l : List Change). schema_of (apply_all l v) q) is ∙ ap (λ (w : Store). schema_of w q) (all_more ds v d) ∙ known_after d (apply_all ds v) s known q ∙ sym (schemas q)

-- ---- changes are made

-- what is ready first, of forms behind place i
first_step : {A : Type 0} (g : A → Option (List ℕ)) (d : Change) (ds : List Change) (v : Store) (s : Tables) (xs : List A) (i : ℕ) (x : A) → AreReady (d ∷ ds) (drop i (map g xs)) v s → x ≡ get_or xs i x
    → IsReady d (g x) v s × AreReady ds (drop (suc i) (map g xs)) (apply d v) s
first_step g d ds v s [] zero x h is = absurd h
first_step g d ds v s [] (suc i) x h is = absurd h
first_step g d ds v s (y ∷ ys) zero x h is = (subst (λ z. IsReady d (g z) v s) (sym is) h.0, h.1)
first_step g d ds v s (y ∷ ys) (suc i) x h is = first_step g d ds v s ys i x h is

pub first_ready : {A : Type 0} (g : A → Option (List ℕ)) (d : Change) (ds all : List Change) (v : Store) (s : Tables) (xs : List A) (i : ℕ) (x : A) → all ≡ d ∷ ds → AreReady all (drop i (map g xs)) v s → x ≡ get_or xs i x → IsReady d (g x) v s
first_ready g d ds all v s xs i x same h is = (first_step g d ds v s xs i x (subst (λ (l : List Change). AreReady l (drop i (map g xs)) v s) same h) is).0

pub rest_ready : {A : Type 0} (g : A → Option (List ℕ)) (d : Change) (ds all : List Change) (v w : Store) (s t : Tables) (xs : List A) (i : ℕ) (x : A) → all ≡ d ∷ ds → w ≡ apply d v → Grows s t → AreReady all (drop i (map g xs)) v s → x ≡ get_or xs i x → AreReady ds (drop (i + 1) (map g xs)) w t
rest_ready g d ds all v w s t xs i x same made more h is =
    let next : suc i ≡ i + 1 = omega arith in
    subst (λ (n : ℕ). AreReady ds (drop n (map g xs)) w t) next
    (subst (λ (u : Store). AreReady ds (drop (suc i) (map g xs)) u t) (sym made)
    (all_grow ds (drop (suc i) (map g xs)) (apply d v) s t more (first_step g d ds v s xs i x (subst (λ (l : List Change). AreReady l (drop i (map g xs)) v s) same h) is).1))

pub rest_made : (d : Change) (ds all : List Change) (v w end : Store) → all ≡ d ∷ ds → w ≡ apply d v → apply_all all v ≡ end → apply_all ds w ≡ end
rest_made d ds all v w end same made h = ap (apply_all ds) made ∙ sym (ap (λ (l : List Change). apply_all l v) same) ∙ h
