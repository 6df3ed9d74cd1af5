-- The slots that a tree of byte vectors has.
use Rattle.std.proofs.Common.{◌≡◌, ℕ, List, [], ◌∷◌, Bool, true, false, cond, refl, sym, ap, subst, ◌∙◌, Option, Some, None, is_some, option_map, filter, Ordering, Less, Equal, Greater, Result, Ok, Err, OnErr}
use Rattle.std.specs.Prelude.{unwrap_or}
use Rattle.std.specs.Ordering.{match_ordering}
use Rattle.std.specs.Global.{Vec}
use Rattle.std.specs.Map.{keys_of, lookup, set_value}
use Rattle.std.specs.BTreeMap.{insert_entry}
use Rattle.std.specs.List.{AllByRecursion}
use Rattle.std.specs.List.Sorted.{IsStrictlySortedBy}
use Rattle.std.specs.Map.{remove_entry}
use Rattle.std.proofs.lemmas.Cmp.{nat_list_cmp_total}
use Rattle.std.proofs.lemmas.Map.Lookups.{exact_bytes}
use Rattle.key_map.proofs.RowLaws.{rows_rise, row_in, get_row, place_row, put_row, remove_row, kept_row, drop_row, drop_room, set_room, insert_room, insert_here}
use Rattle.key_map.specs.Slots.{HasRoom, has_room, is_blank, rows_of, with_row, Slots, by_bytes, by_key, slots_in, finds}

abbrev pub Entry : Type 0
Entry = Vec ℕ × Option (Vec ℕ)

-- the row of a slot
abbrev pub bytes_in : Option (Vec ℕ) → Option (List ℕ)
bytes_in = option_map (λ row. row.items)

-- how the tree compares its keys
abbrev pub cmp : Vec ℕ → Vec ℕ → Ordering
cmp x y = by_bytes x.items y.items

lookup_step : (b : Bool) (v : Option (Vec ℕ)) (x : Option (Option (List ℕ))) (y : Option (Option (Vec ℕ))) → x ≡ option_map bytes_in y → cond b (Some (bytes_in v)) x ≡ option_map bytes_in (cond b (Some v) y)
lookup_step true v x y h = refl
lookup_step false v x y h = h

pub lookup_seen : (q : List ℕ) (es : List Entry) → lookup (by_key q) (slots_in es) ≡ option_map bytes_in (lookup (finds q) es)
lookup_seen q [] = refl
lookup_seen q (e ∷ es) = lookup_step (finds q e.0) e.1 (lookup (by_key q) (slots_in es)) (lookup (finds q) es) (lookup_seen q es)

set_step : (b : Bool) (k : Vec ℕ) (v w : Option (Vec ℕ)) (es fs : List Entry) (ss : Slots) → slots_in fs ≡ ss → slots_in (cond b ((k, w) ∷ es) ((k, v) ∷ fs)) ≡ cond b ((k.items, bytes_in w) ∷ slots_in es) ((k.items, bytes_in v) ∷ ss)
set_step true k v w es fs ss h = refl
set_step false k v w es fs ss h = ap (λ (s : Slots). (k.items, bytes_in v) ∷ s) h

pub set_seen : (q : List ℕ) (es : List Entry) (w : Option (Vec ℕ)) → slots_in (set_value (finds q) es w) ≡ set_value (by_key q) (slots_in es) (bytes_in w)
set_seen q [] w = refl
set_seen q (e ∷ es) w = set_step (finds q e.0) e.0 e.1 w es (set_value (finds q) es w) (set_value (by_key q) (slots_in es) (bytes_in w)) (set_seen q es w)

drop_step : (b : Bool) (k : Vec ℕ) (v : Option (Vec ℕ)) (es fs : List Entry) (ss : Slots) → slots_in fs ≡ ss → slots_in (cond b es ((k, v) ∷ fs)) ≡ cond b (slots_in es) ((k.items, bytes_in v) ∷ ss)
drop_step true k v es fs ss h = refl
drop_step false k v es fs ss h = ap (λ (s : Slots). (k.items, bytes_in v) ∷ s) h

pub drop_seen : (q : List ℕ) (es : List Entry) → slots_in (remove_entry (finds q) es) ≡ remove_entry (by_key q) (slots_in es)
drop_seen q [] = refl
drop_seen q (e ∷ es) = drop_step (finds q e.0) e.0 e.1 es (remove_entry (finds q) es) (remove_entry (by_key q) (slots_in es)) (drop_seen q es)

insert_step : (r : Ordering) (q k : Vec ℕ) (v w : Option (Vec ℕ)) (es fs : List Entry) (ss : Slots) → slots_in fs ≡ ss
    → slots_in (match_ordering r ((q, w) ∷ (k, v) ∷ es) ((k, w) ∷ es) ((k, v) ∷ fs)) ≡ match_ordering r ((q.items, bytes_in w) ∷ (k.items, bytes_in v) ∷ slots_in es) ((k.items, bytes_in w) ∷ slots_in es) ((k.items, bytes_in v) ∷ ss)
insert_step Less q k v w es fs ss h = refl
insert_step Equal q k v w es fs ss h = refl
insert_step Greater q k v w es fs ss h = ap (λ (s : Slots). (k.items, bytes_in v) ∷ s) h

pub insert_seen : (es : List Entry) (q : Vec ℕ) (w : Option (Vec ℕ)) → slots_in (insert_entry cmp es q w) ≡ insert_entry by_bytes (slots_in es) q.items (bytes_in w)
insert_seen [] q w = refl
insert_seen (e ∷ es) q w = insert_step (cmp q e.0) q e.0 e.1 w es (insert_entry cmp es q w) (insert_entry by_bytes (slots_in es) q.items (bytes_in w)) (insert_seen es q w)

below_seen : (k : Vec ℕ) (es : List Entry) → AllByRecursion (λ y. cmp k y ≡ Less) (keys_of es) → AllByRecursion (λ y. by_bytes k.items y ≡ Less) (keys_of (slots_in es))
below_seen k [] h = tt
below_seen k (e ∷ es) h = (h.0, below_seen k es h.1)

pub order_seen : (es : List Entry) → IsStrictlySortedBy cmp (keys_of es) → IsStrictlySortedBy by_bytes (keys_of (slots_in es))
unfolding IsStrictlySortedBy
order_seen [] h = tt
order_seen (e ∷ es) h = (below_seen e.0 es h.0, order_seen es h.1)

filter_step : (b c : Bool) (p : List ℕ × List ℕ → Bool) (k : Vec ℕ) (v : Option (Vec ℕ)) (es fs : List Entry) → b ≡ c → ((x : List ℕ) → p (k.items, x) ≡ c) → rows_of (slots_in fs) ≡ filter p (rows_of (slots_in es)) → rows_of (slots_in (cond b ((k, v) ∷ fs) fs)) ≡ filter p (with_row k.items (bytes_in v) (rows_of (slots_in es)))
filter_step true true p k None es fs same is h = h
filter_step true true p k (Some x) es fs same is h = rw (is x.items) (ap (λ t. (k.items, x.items) ∷ t) h)
filter_step true false p k v es fs same is h = absurd cc
filter_step false true p k v es fs same is h = absurd cc
filter_step false false p k None es fs same is h = h
filter_step false false p k (Some x) es fs same is h = rw (is x.items) h

-- the rows of the slots whose keys pass a test are those whose keys do
pub filter_seen : (t : Vec ℕ → Bool) (p : List ℕ → Bool) → ((k : Vec ℕ) → t k ≡ p k.items) → (es : List Entry) → rows_of (slots_in (filter (λ (e : Entry). t e.0) es)) ≡ filter (λ (e : List ℕ × List ℕ). p e.0) (rows_of (slots_in es))
filter_seen t p same [] = refl
filter_seen t p same (e ∷ es) = filter_step (t e.0) (p e.0.items) (λ (r : List ℕ × List ℕ). p r.0) e.0 e.1 es (filter (λ (e : Entry). t e.0) es) (same e.0) (λ x. refl) (filter_seen t p same es)

-- ---- what the calls do, seen at the slots s of the tree's entries es

module _ (es : List Entry) (s : Slots) (seen : slots_in es ≡ s) (up : IsStrictlySortedBy cmp (keys_of es)) where
  rising : IsStrictlySortedBy by_bytes (keys_of s)
  rising = subst (λ (t : Slots). IsStrictlySortedBy by_bytes (keys_of t)) seen (order_seen es up)

  pub rows_rising : IsStrictlySortedBy by_bytes (keys_of (rows_of s))
  rows_rising = rows_rise by_bytes s rising

  pub read_seen : (q : List ℕ) (found : Option (Option (Vec ℕ))) → found ≡ lookup (finds q) es → row_in (option_map bytes_in found) ≡ lookup (by_key q) (rows_of s)
  read_seen q found is = ap (λ o. row_in (option_map bytes_in o)) is ∙ ap row_in (sym (lookup_seen q es)) ∙ ap (λ t. row_in (lookup (by_key q) t)) seen ∙ sym (get_row nat_list_cmp_total q s rising)

  written : (q : List ℕ) (w : Option (Vec ℕ)) (fs : List Entry) → fs ≡ set_value (finds q) es w → slots_in fs ≡ set_value (by_key q) s (bytes_in w)
  written q w fs is = ap slots_in is ∙ set_seen q es w ∙ ap (λ (t : Slots). set_value (by_key q) t (bytes_in w)) seen

  pub put_seen : (q : List ℕ) (r : Vec ℕ) (fs : List Entry) → HasRoom q s → fs ≡ set_value (finds q) es (Some r) → rows_of (slots_in fs) ≡ insert_entry by_bytes (rows_of s) q r.items
  put_seen q r fs room is = ap rows_of (written q (Some r) fs is) ∙ put_row nat_list_cmp_total exact_bytes q r.items s rising room

  pub remove_seen : (q : List ℕ) (fs : List Entry) → fs ≡ set_value (finds q) es None → rows_of (slots_in fs) ≡ remove_entry (by_key q) (rows_of s)
  remove_seen q fs is = ap rows_of (written q None fs is) ∙ remove_row nat_list_cmp_total q s rising

  pub room_seen : (q : List ℕ) (w : Option (Vec ℕ)) (fs : List Entry) → fs ≡ set_value (finds q) es w → (p : List ℕ) → HasRoom p s → HasRoom p (slots_in fs)
  room_seen q w fs is p h = subst (λ (t : Slots). HasRoom p t) (sym (written q w fs is)) (set_room (by_key q) (by_key p) s (bytes_in w) h)

  pub lookup_some : (q : List ℕ) → is_some (lookup (by_key q) s) ≡ is_some (lookup (finds q) es)
  lookup_some q = ap (λ t. is_some (lookup (by_key q) t)) (sym seen) ∙ ap is_some (lookup_seen q es) ∙ some_step (lookup (finds q) es)
    where
      some_step : (o : Option (Option (Vec ℕ))) → is_some (option_map bytes_in o) ≡ is_some o
      some_step None = refl
      some_step (Some v) = refl

  -- where memory is refused only for a key that is not found, it is refused only for one without room
  pub refused_room : {T E : Type 0} (r : Result T E) (q : List ℕ) → lookup (finds q) es ≡ None → OnErr r (has_room q s ≡ false)
  refused_room (Ok x) q none = tt
  refused_room (Err e) q none = lookup_some q ∙ ap is_some none

  module _ (k : Vec ℕ) (q : List ℕ) (same : k.items ≡ q) (fs : List Entry) (is : fs ≡ insert_entry cmp es k (unwrap_or (lookup (finds k.items) es) None)) where
    row_seen : (o : Option (Option (Vec ℕ))) → bytes_in (unwrap_or o None) ≡ row_in (option_map bytes_in o)
    row_seen None = refl
    row_seen (Some v) = refl

    slot_there : bytes_in (unwrap_or (lookup (finds k.items) es) None) ≡ row_in (lookup (by_key q) s)
    slot_there = row_seen (lookup (finds k.items) es) ∙ ap row_in (sym (lookup_seen k.items es)) ∙ ap (λ t. row_in (lookup (by_key k.items) t)) seen ∙ ap (λ p. row_in (lookup (by_key p) s)) same

    added : slots_in fs ≡ insert_entry by_bytes s q (row_in (lookup (by_key q) s))
    added =
        ap slots_in is ∙ insert_seen es k (unwrap_or (lookup (finds k.items) es) None) ∙ ap (λ (t : Slots). insert_entry by_bytes t k.items (bytes_in (unwrap_or (lookup (finds k.items) es) None))) seen
        ∙ ap (λ p. insert_entry by_bytes s p (bytes_in (unwrap_or (lookup (finds k.items) es) None))) same ∙ ap (insert_entry by_bytes s q) slot_there

    pub kept_seen : rows_of (slots_in fs) ≡ rows_of s
    kept_seen = ap rows_of added ∙ kept_row nat_list_cmp_total exact_bytes q s rising

    pub new_room : HasRoom q (slots_in fs)
    new_room = subst (λ (t : Slots). HasRoom q t) (sym added) (insert_here nat_list_cmp_total s q (row_in (lookup (by_key q) s)))

    pub other_room : (p : List ℕ) → HasRoom p s → HasRoom p (slots_in fs)
    other_room p h = subst (λ (t : Slots). HasRoom p t) (sym added) (insert_room nat_list_cmp_total (by_key p) s q (row_in (lookup (by_key q) s)) h)

  module _ (k r : Vec ℕ) (fs : List Entry) (is : fs ≡ insert_entry cmp es k (Some r)) where
    placed : slots_in fs ≡ insert_entry by_bytes s k.items (Some r.items)
    placed = ap slots_in is ∙ insert_seen es k (Some r) ∙ ap (λ (t : Slots). insert_entry by_bytes t k.items (Some r.items)) seen

    pub placed_rows : rows_of (slots_in fs) ≡ insert_entry by_bytes (rows_of s) k.items r.items
    placed_rows = ap rows_of placed ∙ place_row nat_list_cmp_total exact_bytes k.items r.items s rising

    pub placed_room : (p : List ℕ) → HasRoom p s → HasRoom p (slots_in fs)
    placed_room p h = subst (λ (t : Slots). HasRoom p t) (sym placed) (insert_room nat_list_cmp_total (by_key p) s k.items (Some r.items) h)

  module _ (q : List ℕ) (fs : List Entry) (is : fs ≡ remove_entry (finds q) es) where
    dropped : slots_in fs ≡ remove_entry (by_key q) s
    dropped = ap slots_in is ∙ drop_seen q es ∙ ap (remove_entry (by_key q)) seen

    pub drop_rows : (o : Option (Option (Vec ℕ))) → o ≡ lookup (finds q) es → o ≡ Some None → rows_of (slots_in fs) ≡ rows_of s
    drop_rows o at blank = ap rows_of dropped ∙ drop_row nat_list_cmp_total (by_key q) s (ap (lookup (by_key q)) (sym seen) ∙ lookup_seen q es ∙ ap (option_map bytes_in) (sym at ∙ blank))

    pub rooms_left : (p : List ℕ) → by_key q p ≡ false → HasRoom p s → HasRoom p (slots_in fs)
    rooms_left p apart h = subst (λ (t : Slots). HasRoom p t) (sym dropped) (drop_room nat_list_cmp_total q p s apart h)

  blank_step : (o : Option (Option (Vec ℕ))) → is_blank (option_map bytes_in o) ≡ is_blank o
  blank_step None = refl
  blank_step (Some None) = refl
  blank_step (Some (Some v)) = refl

  none_step : {A : Type 0} (o : Option (Option A)) → is_blank o ≡ false → row_in o ≡ None → o ≡ None
  none_step None h no_row = refl
  none_step (Some None) h no_row = absurd cc
  none_step (Some (Some v)) h no_row = absurd cc

  -- where there is no row, and no room to give up, there is no slot
  pub still_none : (q : List ℕ) (b : Bool) → b ≡ is_blank (lookup (finds q) es) → b ≡ false → lookup (by_key q) (rows_of s) ≡ None → lookup (by_key q) s ≡ None
  still_none q b is not_blank h =
      none_step (lookup (by_key q) s) (ap (λ (t : Slots). is_blank (lookup (by_key q) t)) (sym seen) ∙ ap is_blank (lookup_seen q es) ∙ blank_step (lookup (finds q) es) ∙ sym is ∙ not_blank)
      (sym (get_row nat_list_cmp_total q s rising) ∙ h)

pub now_none : (q : List ℕ) (fs : List Entry) → lookup (finds q) fs ≡ None → lookup (by_key q) (slots_in fs) ≡ None
now_none q fs h = lookup_seen q fs ∙ ap (option_map bytes_in) h

pub blank_there : (o : Option (Option (Vec ℕ))) (b : Bool) → b ≡ is_blank o → b ≡ true → o ≡ Some None
blank_there None b is h = absurd cc
blank_there (Some None) b is h = refl
blank_there (Some (Some v)) b is h = absurd cc
