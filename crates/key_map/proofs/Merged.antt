-- What the rows are once changes are made.
use Rattle.std.proofs.Common.{◌≡◌, ℕ, List, [], ◌∷◌, ◌++◌, Bool, true, false, cond, refl, sym, ap, ◌∙◌}
use Rattle.std.specs.Prelude.{Option, Some, None}
use Rattle.std.specs.Ordering.{is_eq, match_ordering, ordering_reverse}
use Rattle.std.proofs.Common.{Ordering, Less, Equal, Greater}
use Rattle.std.specs.Cmp.{alike_right}
use Rattle.std.specs.Cmp.Lexicographic.{nat_list_cmp_total}
use Rattle.std.specs.Map.{keys_of}
use Rattle.std.specs.List.{AllByRecursion}
use Rattle.std.specs.List.Sorted.{IsStrictlySortedBy}
use Rattle.std.proofs.lemmas.Map.Keys.{sorted_head, sorted_tail}
use Rattle.key_map.specs.Slots.{by_bytes}
use Rattle.key_map.specs.Merging.{row_at, InOrder, changed, merged, over, keyed}

-- what is at a key after a change of the same key
same_keyed : (q key : List ℕ) (r : Option (List ℕ)) → is_eq (by_bytes q key) ≡ true → row_at q (keyed key r) ≡ r
same_keyed q key None e = refl
same_keyed q key (Some row) e = rw e refl

keyed_apart : (q key : List ℕ) (r : Option (List ℕ)) → is_eq (by_bytes q key) ≡ false → row_at q (keyed key r) ≡ None
keyed_apart q key None e = refl
keyed_apart q key (Some row) e = rw e refl

pub missing_keyed : (q key : List ℕ) (r : Option (List ℕ)) (es : List (List ℕ × List ℕ)) → is_eq (by_bytes q key) ≡ false → row_at q (keyed key r ++ es) ≡ row_at q es
missing_keyed q key None es e = refl
missing_keyed q key (Some row) es e = rw e refl

pub found_keyed : (q key : List ℕ) (r : Option (List ℕ)) (es : List (List ℕ × List ℕ)) → is_eq (by_bytes q key) ≡ true → row_at q es ≡ None → row_at q (keyed key r ++ es) ≡ r
found_keyed q key None es e none = none
found_keyed q key (Some row) es e none = rw e refl

-- keys that tie order alike
same_tie : (q key other : List ℕ) → by_bytes key other ≡ Equal → is_eq (by_bytes q key) ≡ false → is_eq (by_bytes q other) ≡ false
same_tie q key other is apart = let mirror : by_bytes q key ≡ by_bytes q other = alike_right nat_list_cmp_total key other q is in rw (← mirror) apart

pub skip : {X : Type 0} (b : Bool) (x y : X) → b ≡ false → cond b x y ≡ y
skip b x y e = rw e refl

changed_step : (q key : List ℕ) (r : Option (List ℕ)) (e : List ℕ × List ℕ) (es rest : List (List ℕ × List ℕ)) (o : Ordering) → by_bytes key e.0 ≡ o → is_eq (by_bytes q key) ≡ false → row_at q rest ≡ row_at q es
    → row_at q (match_ordering o (keyed key r ++ (e ∷ es)) (keyed key r ++ es) (e ∷ rest)) ≡ row_at q (e ∷ es)
changed_step q key r e es rest Less is apart same = missing_keyed q key r (e ∷ es) apart
changed_step q key r e es rest Equal is apart same = missing_keyed q key r es apart ∙ sym (skip (is_eq (by_bytes q e.0)) (Some e.1) (row_at q es) (same_tie q key e.0 is apart))
changed_step q key r e es rest Greater is apart same = ap (λ o. cond (is_eq (by_bytes q e.0)) (Some e.1) o) same

-- a change is seen at no other key
pub changed_apart : (q key : List ℕ) (r : Option (List ℕ)) (es : List (List ℕ × List ℕ)) → is_eq (by_bytes q key) ≡ false → row_at q (changed es key r) ≡ row_at q es
changed_apart q key r [] apart = keyed_apart q key r apart
changed_apart q key r (e ∷ es) apart = changed_step q key r e es (changed es key r) (by_bytes key e.0) refl apart (changed_apart q key r es apart)

-- what is above a key does not have it
pub missing_above : (q : List ℕ) (es : List (List ℕ × List ℕ)) → AllByRecursion (λ y. by_bytes q y ≡ Less) (keys_of es) → row_at q es ≡ None
missing_above q [] a = refl
missing_above q (e ∷ es) a = rw a.0 (missing_above q es a.1)

pub weaker : (P Q : List ℕ → Type 0) (ys : List (List ℕ)) → ((y : List ℕ) → P y → Q y) → AllByRecursion P ys → AllByRecursion Q ys
weaker P Q [] f a = tt
weaker P Q (y ∷ ys) f a = (f y a.0, weaker P Q ys f a.1)

pub tie_is : (o : Ordering) → is_eq o ≡ true → o ≡ Equal
tie_is Less e = absurd cc
tie_is Equal e = refl
tie_is Greater e = absurd cc

here_step : (q key : List ℕ) (r : Option (List ℕ)) (e : List ℕ × List ℕ) (es rest : List (List ℕ × List ℕ)) (o : Ordering) → by_bytes key e.0 ≡ o → by_bytes q key ≡ Equal → InOrder (e ∷ es) → row_at q rest ≡ r
    → row_at q (match_ordering o (keyed key r ++ (e ∷ es)) (keyed key r ++ es) (e ∷ rest)) ≡ r
here_step q key r e es rest Less is tie order same =
    let below : by_bytes q e.0 ≡ Less = nat_list_cmp_total.congr q key e.0 tie ∙ is in
    let above = weaker (λ y. by_bytes e.0 y ≡ Less) (λ y. by_bytes q y ≡ Less) (keys_of es) (λ y lt. nat_list_cmp_total.trans q e.0 y below lt) (sorted_head by_bytes e.0 (keys_of es) order) in
    found_keyed q key r (e ∷ es) (rw tie refl) (missing_above q (e ∷ es) (below, above))
here_step q key r e es rest Equal is tie order same =
    let level : by_bytes q e.0 ≡ Equal = nat_list_cmp_total.congr q key e.0 tie ∙ is in
    let above = weaker (λ y. by_bytes e.0 y ≡ Less) (λ y. by_bytes q y ≡ Less) (keys_of es) (λ y lt. nat_list_cmp_total.congr q e.0 y level ∙ lt) (sorted_head by_bytes e.0 (keys_of es) order) in
    found_keyed q key r es (rw tie refl) (missing_above q es above)
here_step q key r e es rest Greater is tie order same =
    let past : by_bytes q e.0 ≡ Greater = nat_list_cmp_total.congr q key e.0 tie ∙ is in
    rw past same

-- a change is seen at its key
pub changed_here : (q key : List ℕ) (r : Option (List ℕ)) (es : List (List ℕ × List ℕ)) → by_bytes q key ≡ Equal → InOrder es → row_at q (changed es key r) ≡ r
changed_here q key r [] tie order = same_keyed q key r (rw tie refl)
changed_here q key r (e ∷ es) tie order = here_step q key r e es (changed es key r) (by_bytes key e.0) refl tie order (changed_here q key r es tie (sorted_tail by_bytes e.0 (keys_of es) order))

above_step : (k key : List ℕ) (r : Option (List ℕ)) (e : List ℕ × List ℕ) (es rest : List (List ℕ × List ℕ)) (o : Ordering) → by_bytes k key ≡ Less → AllByRecursion (λ y. by_bytes k y ≡ Less) (keys_of (e ∷ es)) → AllByRecursion (λ y. by_bytes k y ≡ Less) (keys_of rest)
    → AllByRecursion (λ y. by_bytes k y ≡ Less) (keys_of (match_ordering o (keyed key r ++ (e ∷ es)) (keyed key r ++ es) (e ∷ rest)))
above_step k key None e es rest Less lt a b = a
above_step k key (Some row) e es rest Less lt a b = (lt, a)
above_step k key None e es rest Equal lt a b = a.1
above_step k key (Some row) e es rest Equal lt a b = (lt, a.1)
above_step k key r e es rest Greater lt a b = (a.0, b)

-- the merge is in order
pub keys_above : (k key : List ℕ) (r : Option (List ℕ)) (es : List (List ℕ × List ℕ)) → by_bytes k key ≡ Less → AllByRecursion (λ y. by_bytes k y ≡ Less) (keys_of es) → AllByRecursion (λ y. by_bytes k y ≡ Less) (keys_of (changed es key r))
keys_above k key None [] lt a = tt
keys_above k key (Some row) [] lt a = (lt, tt)
keys_above k key r (e ∷ es) lt a = above_step k key r e es (changed es key r) (by_bytes key e.0) lt a (keys_above k key r es lt a.1)

merged_step : (q : List ℕ) (rows : List (List ℕ × List ℕ)) (c : List ℕ × Option (List ℕ)) (cs : List (List ℕ × Option (List ℕ))) (b : Bool) → is_eq (by_bytes q c.0) ≡ b → InOrder (merged rows cs) → row_at q (merged rows cs) ≡ over (row_at q cs) (row_at q rows)
    → row_at q (changed (merged rows cs) c.0 c.1) ≡ over (cond b (Some c.1) (row_at q cs)) (row_at q rows)
merged_step q rows c cs true is order same = changed_here q c.0 c.1 (merged rows cs) (tie_is (by_bytes q c.0) is) order
merged_step q rows c cs false is order same = changed_apart q c.0 c.1 (merged rows cs) is ∙ same

-- the row at a key is the change of it, or else the row
pub merged_at : (q : List ℕ) (rows : List (List ℕ × List ℕ)) (cs : List (List ℕ × Option (List ℕ))) → ((ds : List (List ℕ × Option (List ℕ))) → InOrder (merged rows ds)) → row_at q (merged rows cs) ≡ over (row_at q cs) (row_at q rows)
merged_at q rows [] order = refl
merged_at q rows (c ∷ cs) order = merged_step q rows c cs (is_eq (by_bytes q c.0)) refl (order cs) (merged_at q rows cs order)

order_step : (key : List ℕ) (r : Option (List ℕ)) (e : List ℕ × List ℕ) (es rest : List (List ℕ × List ℕ)) (o : Ordering) → by_bytes key e.0 ≡ o → InOrder (e ∷ es) → InOrder rest → AllByRecursion (λ y. by_bytes e.0 y ≡ Less) (keys_of es)
    → (by_bytes e.0 key ≡ Less → AllByRecursion (λ y. by_bytes e.0 y ≡ Less) (keys_of rest)) → InOrder (match_ordering o (keyed key r ++ (e ∷ es)) (keyed key r ++ es) (e ∷ rest))
unfolding IsStrictlySortedBy
order_step key None e es rest Less is order after above over = order
order_step key (Some row) e es rest Less is order after above over =
    ((is, weaker (λ y. by_bytes e.0 y ≡ Less) (λ y. by_bytes key y ≡ Less) (keys_of es) (λ y lt. nat_list_cmp_total.trans key e.0 y is lt) above), order)
order_step key None e es rest Equal is order after above over = order.1
order_step key (Some row) e es rest Equal is order after above over =
    (weaker (λ y. by_bytes e.0 y ≡ Less) (λ y. by_bytes key y ≡ Less) (keys_of es) (λ y lt. nat_list_cmp_total.congr key e.0 y is ∙ lt) above, order.1)
order_step key r e es rest Greater is order after above over =
    (over (nat_list_cmp_total.antisymm e.0 key ∙ ap ordering_reverse is), after)

pub changed_order : (key : List ℕ) (r : Option (List ℕ)) (es : List (List ℕ × List ℕ)) → InOrder es → InOrder (changed es key r)
unfolding IsStrictlySortedBy
changed_order key None [] order = tt
changed_order key (Some row) [] order = (tt, tt)
changed_order key r (e ∷ es) order =
    order_step key r e es (changed es key r) (by_bytes key e.0) refl order (changed_order key r es order.1) order.0 (λ lt. keys_above e.0 key r es lt order.0)

pub merged_order : (rows : List (List ℕ × List ℕ)) (cs : List (List ℕ × Option (List ℕ))) → InOrder rows → InOrder (merged rows cs)
merged_order rows [] order = order
merged_order rows (c ∷ cs) order = changed_order c.0 c.1 (merged rows cs) (merged_order rows cs order)

pub merged_found : (q : List ℕ) (rows : List (List ℕ × List ℕ)) (cs : List (List ℕ × Option (List ℕ))) → InOrder rows → row_at q (merged rows cs) ≡ over (row_at q cs) (row_at q rows)
merged_found q rows cs order = merged_at q rows cs (λ ds. merged_order rows ds order)
