-- Rows in order are known by what is found in them; so a change more is made last.
use Rattle.std.proofs.Common.{◌≡◌, ℕ, List, [], ◌∷◌, Bool, true, false, cond, refl, sym, ap, ◌∙◌, Option, Some, None, Ordering, Less, Equal, Greater}
use Rattle.std.specs.Ordering.{is_eq, match_ordering, ordering_reverse}
use Rattle.std.specs.Cmp.{eq_by_cmp_equiv, alike_right}
use Rattle.std.specs.Cmp.Lexicographic.{nat_list_cmp_total}
use Rattle.std.specs.Map.{keys_of}
use Rattle.std.specs.BTreeMap.{insert_entry}
use Rattle.std.proofs.lemmas.Map.Keys.{sorted_head, sorted_tail}
use Rattle.std.proofs.lemmas.Map.Lookups.{exact_bytes}
use Rattle.key_map.specs.Slots.{by_bytes}
use Rattle.key_map.specs.Merging.{Rows, Changes, InOrder, row_at, changed, merged, over}
use Rattle.key_map.proofs.Merged.{missing_above, weaker, tie_is, skip, changed_here, changed_apart, changed_order, merged_order, merged_found}

some_not_none : {X : Type 0} (x : X) → Some x ≡ None → ⊥
some_not_none x e = absurd cc

abbrev row_or : List ℕ → Option (List ℕ) → List ℕ
row_or row None = row
row_or row (Some r) = r

first : (e : List ℕ × List ℕ) (es : Rows) → row_at e.0 (e ∷ es) ≡ Some e.1
first e es = ap (λ b. cond b (Some e.1) (row_at e.0 es)) ((eq_by_cmp_equiv nat_list_cmp_total).refl e.0)

-- a lesser key than the first one is not there
missing_below : (q : List ℕ) (f : List ℕ × List ℕ) (fs : Rows) → by_bytes q f.0 ≡ Less → InOrder (f ∷ fs) → row_at q (f ∷ fs) ≡ None
missing_below q f fs less up =
    missing_above q (f ∷ fs) (less, weaker (λ y. by_bytes f.0 y ≡ Less) (λ y. by_bytes q y ≡ Less) (keys_of fs) (λ y lt. nat_list_cmp_total.trans q f.0 y less lt) (sorted_head by_bytes f.0 (keys_of fs) up))

same_key : (e f : List ℕ × List ℕ) (es fs : Rows) (o : Ordering) → by_bytes e.0 f.0 ≡ o → InOrder (e ∷ es) → InOrder (f ∷ fs) → ((q : List ℕ) → row_at q (e ∷ es) ≡ row_at q (f ∷ fs)) → e.0 ≡ f.0
same_key e f es fs Less is up_e up_f same = absurd (some_not_none e.1 (sym (first e es) ∙ same e.0 ∙ missing_below e.0 f fs is up_f))
same_key e f es fs Equal is up_e up_f same = exact_bytes e.0 f.0 is
same_key e f es fs Greater is up_e up_f same =
    absurd (some_not_none f.1 (sym (first f fs) ∙ sym (same f.0) ∙ missing_below f.0 e es (nat_list_cmp_total.antisymm f.0 e.0 ∙ ap ordering_reverse is) up_e))

same_tails : (q : List ℕ) (e f : List ℕ × List ℕ) (es fs : Rows) (b : Bool) → is_eq (by_bytes q e.0) ≡ b → e.0 ≡ f.0 → InOrder (e ∷ es) → InOrder (f ∷ fs) → row_at q (e ∷ es) ≡ row_at q (f ∷ fs) → row_at q es ≡ row_at q fs
same_tails q e f es fs true is keys up_e up_f same =
    let at : q ≡ e.0 = exact_bytes q e.0 (tie_is (by_bytes q e.0) is) in
    ap (λ (k : List ℕ). row_at k es) at ∙ missing_above e.0 es (sorted_head by_bytes e.0 (keys_of es) up_e)
    ∙ sym (ap (λ (k : List ℕ). row_at k fs) (at ∙ keys) ∙ missing_above f.0 fs (sorted_head by_bytes f.0 (keys_of fs) up_f))
same_tails q e f es fs false is keys up_e up_f same =
    sym (skip (is_eq (by_bytes q e.0)) (Some e.1) (row_at q es) is) ∙ same
    ∙ skip (is_eq (by_bytes q f.0)) (Some f.1) (row_at q fs) (ap (λ (k : List ℕ). is_eq (by_bytes q k)) (sym keys) ∙ is)

pub known : (a b : Rows) → InOrder a → InOrder b → ((q : List ℕ) → row_at q a ≡ row_at q b) → a ≡ b
known [] [] up_a up_b same = refl
known [] (f ∷ fs) up_a up_b same = absurd (some_not_none f.1 (sym (first f fs) ∙ sym (same f.0)))
known (e ∷ es) [] up_a up_b same = absurd (some_not_none e.1 (sym (first e es) ∙ same e.0))
known (e ∷ es) (f ∷ fs) up_a up_b same =
    let keys : e.0 ≡ f.0 = same_key e f es fs (by_bytes e.0 f.0) refl up_a up_b same in
    let values : e.1 ≡ f.1 = ap (row_or e.1) (sym (first e es) ∙ same e.0 ∙ ap (λ (k : List ℕ). row_at k (f ∷ fs)) keys ∙ first f fs) in
    let rest : es ≡ fs = known es fs (sorted_tail by_bytes e.0 (keys_of es) up_a) (sorted_tail by_bytes f.0 (keys_of fs) up_b) (λ q. same_tails q e f es fs (is_eq (by_bytes q e.0)) refl keys up_a up_b (same q)) in
    ap (λ (k : List ℕ). (k, e.1) ∷ es) keys ∙ ap (λ (v : List ℕ). (f.0, v) ∷ es) values ∙ ap (λ (l : Rows). f ∷ l) rest

-- ---- a change more

swapped : {X : Type 0} (b c : Bool) (x y z : X) → (c ≡ true → b ≡ false) → cond c y (cond b x z) ≡ cond b x (cond c y z)
swapped true true x y z apart = absurd (no_both (apart refl))
  where
    no_both : true ≡ false → ⊥
    no_both e = absurd cc
swapped true false x y z apart = refl
swapped false true x y z apart = refl
swapped false false x y z apart = refl

twice : {X : Type 0} (b c : Bool) (x y z : X) → b ≡ c → cond c x z ≡ cond b x (cond c y z)
twice true true x y z e = refl
twice false false x y z e = refl
twice true false x y z e = absurd cc
twice false true x y z e = absurd cc

insert_step : (q key : List ℕ) (r : Option (List ℕ)) (c : List ℕ × Option (List ℕ)) (cs rest : Changes) (o : Ordering) → by_bytes key c.0 ≡ o → row_at q rest ≡ cond (is_eq (by_bytes q key)) (Some r) (row_at q cs)
    → row_at q (match_ordering o ((key, r) ∷ c ∷ cs) ((c.0, r) ∷ cs) (c ∷ rest)) ≡ cond (is_eq (by_bytes q key)) (Some r) (row_at q (c ∷ cs))
insert_step q key r c cs rest Less is more = refl
insert_step q key r c cs rest Equal is more =
    twice (is_eq (by_bytes q key)) (is_eq (by_bytes q c.0)) (Some r) (Some c.1) (row_at q cs) (ap is_eq (alike_right nat_list_cmp_total key c.0 q is))
insert_step q key r c cs rest Greater is more =
    ap (λ o. cond (is_eq (by_bytes q c.0)) (Some c.1) o) more
    ∙ swapped (is_eq (by_bytes q key)) (is_eq (by_bytes q c.0)) (Some r) (Some c.1) (row_at q cs) apart
  where
    apart : is_eq (by_bytes q c.0) ≡ true → is_eq (by_bytes q key) ≡ false
    apart e = ap (λ (k : List ℕ). is_eq (by_bytes k key)) (exact_bytes q c.0 (tie_is (by_bytes q c.0) e)) ∙ ap is_eq (nat_list_cmp_total.antisymm c.0 key ∙ ap ordering_reverse is)

insert_at : (q key : List ℕ) (r : Option (List ℕ)) (cs : Changes) → row_at q (insert_entry by_bytes cs key r) ≡ cond (is_eq (by_bytes q key)) (Some r) (row_at q cs)
insert_at q key r [] = refl
insert_at q key r (c ∷ cs) = insert_step q key r c cs (insert_entry by_bytes cs key r) (by_bytes key c.0) refl (insert_at q key r cs)

change_at : (q key : List ℕ) (r : Option (List ℕ)) (rows : Rows) (cs : Changes) (b : Bool) → is_eq (by_bytes q key) ≡ b → InOrder (merged rows cs) → row_at q (merged rows cs) ≡ over (row_at q cs) (row_at q rows)
    → over (cond b (Some r) (row_at q cs)) (row_at q rows) ≡ row_at q (changed (merged rows cs) key r)
change_at q key r rows cs true is up at = sym (changed_here q key r (merged rows cs) (tie_is (by_bytes q key) is) up)
change_at q key r rows cs false is up at = sym at ∙ sym (changed_apart q key r (merged rows cs) is)

-- a change more among the changes is that change of what they make
pub one_more : (rows : Rows) (cs : Changes) (key : List ℕ) (r : Option (List ℕ)) → InOrder rows → merged rows (insert_entry by_bytes cs key r) ≡ changed (merged rows cs) key r
one_more rows cs key r up =
    let all : InOrder (merged rows cs) = merged_order rows cs up in
    known (merged rows (insert_entry by_bytes cs key r)) (changed (merged rows cs) key r) (merged_order rows (insert_entry by_bytes cs key r) up) (changed_order key r (merged rows cs) all)
    (λ q. merged_found q rows (insert_entry by_bytes cs key r) up ∙ ap (λ o. over o (row_at q rows)) (insert_at q key r cs) ∙ change_at q key r rows cs (is_eq (by_bytes q key)) refl all (merged_found q rows cs up))
