-- Calls that are made together leave each place to whom it was, and the pass stands as it did.
use Rattle.std.proofs.Common.{◌≡◌, ◌⊎◌, ◌<◌, ◌+◌, ⊎_elim, ℕ, zero, suc, Bool, List, [], ◌∷◌, ◌++◌, map, Option, Some, None, length, slice_get, slice_set, append_assoc, append-nil, refl, sym, ap, subst, ◌∙◌, inl, inr, arith}
use Rattle.drda_disk.specs.Disk.{Life}
use Rattle.serializability.specs.Answered.{AnsweredCall}
use Rattle.core_history.specs.declared.count.Count.{Count}
use Rattle.core_history.specs.declared.left.Left.{Left}
use Rattle.core_history.specs.declared.pass.Pass.{Pass}
use Rattle.core_history.specs.declared.wish.Wish.{Wish}
use Rattle.unit_records.specs.declared.group_call.Asked.{Asked}
use Rattle.core_history.specs.Books.{Told}
use Rattle.core_history.specs.Gathered.{Agrees, AreApart, IsWaiting, all_counted, all_left, all_listed, count_at}
use Rattle.core_history.specs.Passes.{Knows, count_of}
use Rattle.core_history.proofs.Counting.{get_other, get_set, same_or_apart, set_length}
use Rattle.recovery.specs.Journaled.{OnDisk}
use Rattle.shared_node.specs.Standing.{Stands}
use Rattle.shared_node.specs.Turns.{Fulfils, GoesOn, MayFulfil, holder}

-- ---- whose leave it is

pub held_at : (places : List (Option Count)) (p : ℕ) (c : Count) → slice_get places p ≡ Some (Some c) → slice_get (map holder places) p ≡ Some (Some c.conversation)
held_at [] p c is = absurd (cc is)
held_at (x ∷ xs) zero c is = let both : Some x ≡ Some (Some c) = is in let same : x ≡ Some c = cc both in ap (λ (y : Option Count). Some (holder y)) same
held_at (x ∷ xs) (suc p) c is = held_at xs p c is

pub set_held : (places : List (Option Count)) (p : ℕ) (c : Count) → slice_get (map holder places) p ≡ Some (Some c.conversation) → map holder (slice_set places p (Some c)) ≡ map holder places
set_held [] p c is = refl
set_held (x ∷ xs) zero c is = let both : Some (holder x) ≡ Some (Some c.conversation) = is in let same : holder x ≡ Some c.conversation = cc both in ap (λ (h : Option ℕ). h ∷ map holder xs) (sym same)
set_held (x ∷ xs) (suc p) c is = ap (λ (hs : List (Option ℕ)). holder x ∷ hs) (set_held xs p c is)

abbrev now_counted : Wish → Count
now_counted w = record { conversation = w.conversation; calls = w.count + 1 }

all_held : (members : List Wish) (places : List (Option Count)) → ((at : ℕ) (w : Wish) → slice_get members at ≡ Some w → slice_get (map holder places) w.place ≡ Some (Some w.conversation))
    → map holder (all_counted members places) ≡ map holder places
all_held [] places known = refl
all_held (w ∷ ws) places known =
    let same : map holder (slice_set places w.place (Some (now_counted w))) ≡ map holder places = set_held places w.place (now_counted w) (known zero w refl) in
    all_held ws (slice_set places w.place (Some (now_counted w))) (λ at v is. subst (λ (hs : List (Option ℕ)). slice_get hs v.place ≡ Some (Some v.conversation)) (sym same) (known (suc at) v is)) ∙ same

-- ---- what goes on

module _ {D : Type 0} where
  pub goes_core : (a b : Told D) (core : OnDisk D) → b ≡ record a { core = core } → GoesOn a [] b
  goes_core a b core is = record {
    calls = ap (λ (t : Told D). t.calls) is ∙ sym (append-nil a.calls);
    holders = ap (λ (t : Told D). map holder t.places) is;
    opening = ap (λ (t : Told D). t.opening) is;
    next = ap (λ (t : Told D). t.next) is;
  }

  pub goes_both : (a b c : Told D) (ls ms : List AnsweredCall) → GoesOn a ls b → GoesOn b ms c → GoesOn a (ls ++ ms) c
  goes_both a b c ls ms p q = record {
    calls = q.calls ∙ ap (λ (xs : List AnsweredCall). xs ++ ms) p.calls ∙ append_assoc a.calls ls ms;
    holders = q.holders ∙ p.holders;
    opening = q.opening ∙ p.opening;
    next = q.next ∙ p.next;
  }

  abbrev pub Goes : Told D → Told D → Type 0
  Goes a b = (more : List AnsweredCall) × GoesOn a more b

  module _ (life : D → Life) where
    fulfils_go : (wishes : List Wish) (a b : Told D) → Fulfils life wishes a b → Goes a b
    fulfils_go wishes a b (inl n) = ([], goes_core a b b.core n.book)
    fulfils_go wishes a b (inr g) = (
      all_listed g.has_failed g.members,
      record {
        calls = g.calls;
        holders = ap (λ (ps : List (Option Count)). map holder ps) g.places ∙ all_held g.members a.places (λ at w is. held_at a.places w.place (count_at w) (g.each at w is).known);
        opening = g.opening;
        next = g.next;
      },
    )

    pub waited_goes : (a b : Told D) → MayFulfil life a b → Goes a b
    waited_goes a b (inl same) = ([], goes_core a b a.core same)
    waited_goes a b (inr f) = fulfils_go f.0 a b f.1

-- ---- who is at a place

abbrev now_left : Bool → Wish → Left
now_left f w = record { conversation = w.conversation; number = w.count; wished = w.wished; has_failed = f }

abbrev NoneAt : List Wish → ℕ → Type 0
NoneAt members p = (at : ℕ) (w : Wish) → slice_get members at ≡ Some w → w.place ≡ p → ⊥

abbrev OneAt : List Wish → ℕ → Type 0
OneAt members p = (at : ℕ) × (w : Wish) × (slice_get members at ≡ Some w) × (w.place ≡ p)

none_more : (v : Wish) (vs : List Wish) (p : ℕ) → (v.place ≡ p → ⊥) → NoneAt vs p → NoneAt (v ∷ vs) p
none_more v vs p apart never zero w is same = let both : Some v ≡ Some w = is in let one : v ≡ w = cc both in apart (ap (λ (x : Wish). x.place) one ∙ same)
none_more v vs p apart never (suc at) w is same = never at w is same

one_or_none : (members : List Wish) (p : ℕ) → OneAt members p ⊎ NoneAt members p
one_or_none [] p = inr (λ at w is same. absurd (cc is))
one_or_none (v ∷ vs) p =
    ⊎_elim (λ here. inl (zero, v, refl, here))
    (λ apart. ⊎_elim (λ one. let (at, w, is, same) = one in inl (suc at, w, is, same)) (λ never. inr (none_more v vs p apart never)) (one_or_none vs p))
    (same_or_apart v.place p)

counted_other : (members : List Wish) (places : List (Option Count)) (p : ℕ) → NoneAt members p → slice_get (all_counted members places) p ≡ slice_get places p
counted_other [] places p never = refl
counted_other (w ∷ ws) places p never = counted_other ws (slice_set places w.place (Some (now_counted w))) p (λ at v is. never (suc at) v is) ∙ get_other places w.place p (Some (now_counted w)) (never zero w refl)

left_other : (f : Bool) (members : List Wish) (left : List (Option Left)) (p : ℕ) → NoneAt members p → slice_get (all_left f members left) p ≡ slice_get left p
left_other f [] left p never = refl
left_other f (w ∷ ws) left p never = left_other f ws (slice_set left w.place (Some (now_left f w))) p (λ at v is. never (suc at) v is) ∙ get_other left w.place p (Some (now_left f w)) (never zero w refl)

none_behind : (v : Wish) (vs : List Wish) → AreApart (v ∷ vs) → NoneAt vs v.place
none_behind v vs apart at w is same = let e = apart zero (suc at) v w refl is (sym same) in absurd (omega (arith, e))

apart_behind : (v : Wish) (vs : List Wish) → AreApart (v ∷ vs) → AreApart vs
apart_behind v vs apart here there x y one two same = let e = apart (suc here) (suc there) x y one two same in omega (arith, e)

not_first : (v : Wish) (vs : List Wish) (at : ℕ) (w : Wish) → AreApart (v ∷ vs) → slice_get vs at ≡ Some w → v.place ≡ w.place → ⊥
not_first v vs at w apart is same = none_behind v vs apart at w is (sym same)

counted_at : (members : List Wish) (places : List (Option Count)) (at : ℕ) (w : Wish) (c : Option Count) → AreApart members → slice_get members at ≡ Some w → slice_get places w.place ≡ Some c
    → slice_get (all_counted members places) w.place ≡ Some (Some (now_counted w))
counted_at [] places at w c apart is stands = absurd (cc is)
counted_at (v ∷ vs) places zero w c apart is stands =
    let both : Some v ≡ Some w = is in let one : v ≡ w = cc both in
    subst (λ (x : Wish). slice_get (all_counted vs (slice_set places v.place (Some (now_counted v)))) x.place ≡ Some (Some (now_counted x))) one
    (counted_other vs (slice_set places v.place (Some (now_counted v))) v.place (none_behind v vs apart)
    ∙ get_set places v.place c (Some (now_counted v)) (subst (λ (x : Wish). slice_get places x.place ≡ Some c) (sym one) stands))
counted_at (v ∷ vs) places (suc at) w c apart is stands =
    counted_at vs (slice_set places v.place (Some (now_counted v))) at w c (apart_behind v vs apart) is (get_other places v.place w.place (Some (now_counted v)) (not_first v vs at w apart is) ∙ stands)

left_at : (f : Bool) (members : List Wish) (left : List (Option Left)) (at : ℕ) (w : Wish) (l : Option Left) → AreApart members → slice_get members at ≡ Some w → slice_get left w.place ≡ Some l
    → slice_get (all_left f members left) w.place ≡ Some (Some (now_left f w))
left_at f [] left at w l apart is stands = absurd (cc is)
left_at f (v ∷ vs) left zero w l apart is stands =
    let both : Some v ≡ Some w = is in let one : v ≡ w = cc both in
    subst (λ (x : Wish). slice_get (all_left f vs (slice_set left v.place (Some (now_left f v)))) x.place ≡ Some (Some (now_left f x))) one
    (left_other f vs (slice_set left v.place (Some (now_left f v))) v.place (none_behind v vs apart)
    ∙ get_set left v.place l (Some (now_left f v)) (subst (λ (x : Wish). slice_get left x.place ≡ Some l) (sym one) stands))
left_at f (v ∷ vs) left (suc at) w l apart is stands =
    left_at f vs (slice_set left v.place (Some (now_left f v))) at w l (apart_behind v vs apart) is (get_other left v.place w.place (Some (now_left f v)) (not_first v vs at w apart is) ∙ stands)

counted_length : (members : List Wish) (places : List (Option Count)) → length (all_counted members places) ≡ length places
counted_length [] places = refl
counted_length (w ∷ ws) places = counted_length ws (slice_set places w.place (Some (now_counted w))) ∙ set_length places w.place (Some (now_counted w))

left_length : (f : Bool) (members : List Wish) (left : List (Option Left)) → length (all_left f members left) ≡ length left
left_length f [] left = refl
left_length f (w ∷ ws) left = left_length f ws (slice_set left w.place (Some (now_left f w))) ∙ set_length left w.place (Some (now_left f w))

module _ {Y : Type 0} {Z : Type 0} where
  -- where one list has something at a place, one as long has
  there_too : (ys : List Y) (zs : List Z) (i : ℕ) (y : Y) → length zs ≡ length ys → slice_get ys i ≡ Some y → (z : Z) × (slice_get zs i ≡ Some z)
  there_too [] zs i y as_long is = absurd (cc is)
  there_too (x ∷ ys) [] i y as_long is = absurd (omega (arith, as_long))
  there_too (x ∷ ys) (z ∷ zs) zero y as_long is = (z, refl)
  there_too (x ∷ ys) (z ∷ zs) (suc i) y as_long is = there_too ys zs i y (omega (arith, as_long)) is

-- ---- how the pass stands

module _ {D : Type 0} (life : D → Life) (pass : Pass) (wished : Asked) (wishes : List Wish) (fair : (at : ℕ) (w : Wish) → slice_get wishes at ≡ Some w → Agrees pass wished w) where
  pub stands_behind : (a b : Told D) → Fulfils life wishes a b → Stands a pass wished → Stands b pass wished
  stands_behind a b (inl n) s = subst (λ (t : Told D). Stands t pass wished) (sym n.book) (record { as_many = s.as_many; known = ⊎_elim (λ k. inl k) (λ w. inr (w.0, record { counted = w.1.counted; left = w.1.left })) s.known })
  stands_behind a b (inr g) s =
      let as_many : length b.left ≡ length b.places =
      ap (λ (ls : List (Option Left)). length ls) g.left ∙ left_length g.has_failed g.members a.left ∙ s.as_many ∙ sym (ap (λ (ps : List (Option Count)). length ps) g.places ∙ counted_length g.members a.places) in
      ⊎_elim
      (λ (one : OneAt g.members pass.place).
      let (at, w, is, here) = one in
      let member = g.each at w is in
      let (conversation, count, asks) = fair member.asked.0 w member.asked.1 here in
      let known : slice_get a.places pass.place ≡ Some (Some (count_at w)) = subst (λ (p : ℕ). slice_get a.places p ≡ Some (Some (count_at w))) here member.known in
      let (l, stands) = there_too a.places a.left w.place (Some (count_at w)) s.as_many member.known in
      let counted : slice_get b.places w.place ≡ Some (Some (now_counted w)) = ap (λ (ps : List (Option Count)). slice_get ps w.place) g.places ∙ counted_at g.members a.places at w (Some (count_at w)) g.apart is member.known in
      let left : slice_get b.left w.place ≡ Some (Some (now_left g.has_failed w)) = ap (λ (ls : List (Option Left)). slice_get ls w.place) g.left ∙ left_at g.has_failed g.members a.left at w l g.apart is stands in
      ⊎_elim
      (λ knows. record {
        as_many = as_many;
        known = inr (
          g.has_failed,
          record {
            counted = subst (λ (p : ℕ). slice_get b.places p ≡ Some (Some (now_counted w))) here counted ∙ ap (λ (n : ℕ). Some (Some (record { conversation = n; calls = w.count + 1 }))) conversation
                ∙ ap (λ (n : ℕ). Some (Some (record { conversation = pass.conversation; calls = n + 1 }))) count;
            left = subst (λ (p : ℕ). slice_get b.left p ≡ Some (Some (now_left g.has_failed w))) here left
                ∙ ap (λ (n : ℕ). Some (Some (record { conversation = n; number = w.count; wished = w.wished; has_failed = g.has_failed }))) conversation
                ∙ ap (λ (n : ℕ). Some (Some (record { conversation = pass.conversation; number = n; wished = w.wished; has_failed = g.has_failed }))) count
                ∙ ap (λ (x : Asked). Some (Some (record { conversation = pass.conversation; number = pass.count; wished = x; has_failed = g.has_failed }))) asks;
          },
        );
      })
      (λ waits.
      let both : Some (Some (count_at w)) ≡ Some (Some (record { conversation = pass.conversation; calls = pass.count + 1 })) = sym known ∙ waits.1.counted in
      let same : count_at w ≡ record { conversation = pass.conversation; calls = pass.count + 1 } = cc both in
      let counts : w.count ≡ pass.count + 1 = ap (λ (c : Count). c.calls) same in
      absurd (omega (arith, counts, count)))
      s.known)
      (λ (never : NoneAt g.members pass.place).
      let places : slice_get b.places pass.place ≡ slice_get a.places pass.place = ap (λ (ps : List (Option Count)). slice_get ps pass.place) g.places ∙ counted_other g.members a.places pass.place never in
      let left : slice_get b.left pass.place ≡ slice_get a.left pass.place = ap (λ (ls : List (Option Left)). slice_get ls pass.place) g.left ∙ left_other g.has_failed g.members a.left pass.place never in
      record { as_many = as_many; known = ⊎_elim (λ k. inl (places ∙ k)) (λ w. inr (w.0, record { counted = places ∙ w.1.counted; left = left ∙ w.1.left })) s.known })
      (one_or_none g.members pass.place)
