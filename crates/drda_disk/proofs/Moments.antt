-- How a run of calls goes on.
use Rattle.std.proofs.Common.{inl, inr, ⊎_elim, ℕ, ◌+◌, ◌≤◌, List, arith, length, refl, sym, ◌∙◌, ap, ◌≡◌}
use Rattle.drda_disk.specs.Disk.{Life, Now, Only, Elapses, Stays, Torn, Tears, Within, LeavesOnly}
use Rattle.drda_disk.proofs.Parts.{Torn-trans, Torn-wider}

-- one call
pub one_call : (old new : Life) (P : List ℕ → Type 0) → Elapses old new → length new.seen ≡ length old.seen → ((c : List ℕ) → Now old c → P c) → ((c : List ℕ) → Now new c → P c) → LeavesOnly old new P
one_call old new P time size before after = record {
  later = time.later;
  size = size;
  each = λ c left. ⊎_elim (before c) (after c) (time.nothing_else old.moment c (omega arith) left);
  now = after;
  before = λ t c le left. ⊎_elim (λ was. inl was) (λ now. inr (after c now)) (time.nothing_else t c le left);
}

-- no call
pub no_call : (old : Life) (P : List ℕ → Type 0) → ((c : List ℕ) → Now old c → P c) → LeavesOnly old old P
no_call old P here = record { later = omega arith; size = refl; each = here; now = here; before = λ t c le left. inl left }

-- one run behind another
pub and_then : (old mid new : Life) (P Q R : List ℕ → Type 0) → LeavesOnly old mid P → LeavesOnly mid new Q → ((c : List ℕ) → P c → R c) → ((c : List ℕ) → Q c → R c) → LeavesOnly old new R
and_then old mid new P Q R first second p q = record {
  later = omega (arith, first.later, second.later);
  size = second.size ∙ first.size;
  each = λ c left. ⊎_elim (λ was. p c (first.each c was)) (λ now. q c now) (second.before old.moment c first.later left);
  now = λ c now. q c (second.now c now);
  before = λ t c le left. ⊎_elim (λ was. ⊎_elim (λ old_one. inl old_one) (λ now. inr (p c now)) (first.before t c le was)) (λ now. inr (q c now)) (second.before t c (omega (arith, le, first.later)) left);
}

-- of which less is said
pub weaker : (old new : Life) (P Q : List ℕ → Type 0) → LeavesOnly old new P → ((c : List ℕ) → P c → Q c) → LeavesOnly old new Q
weaker old new P Q run p = record { later = run.later; size = run.size; each = λ c left. p c (run.each c left); now = λ c left. p c (run.now c left); before = λ t c le left. ⊎_elim (λ was. inl was) (λ now. inr (p c now)) (run.before t c le left) }

pub Stays-refl : (a : Life) → Stays a a
Stays-refl a = record { later = omega arith; same = refl; no_more = λ c now. now; nothing_new = λ t c le left. left; keeps = λ t c le left. left }

pub Stays-trans : (a b c : Life) → Stays a b → Stays b c → Stays a c
Stays-trans a b c s t = record {
  later = omega (arith, s.later, t.later);
  same = t.same ∙ s.same;
  no_more = λ i now. s.no_more i (t.no_more i now);
  nothing_new = λ m i le left. s.nothing_new m i le (t.nothing_new m i (omega (arith, le, s.later)) left);
  keeps = λ m i le left. t.keeps m i (omega (arith, le, s.later)) (s.keeps m i le left);
}

-- calls that write nothing, behind a run and before it
pub and_stays : (old mid new : Life) (P : List ℕ → Type 0) → LeavesOnly old mid P → Stays mid new → LeavesOnly old new P
and_stays old mid new P run s = record {
  later = omega (arith, run.later, s.later);
  size = ap length s.same ∙ run.size;
  each = λ c left. run.each c (s.nothing_new old.moment c run.later left);
  now = λ c now. run.now c (s.no_more c now);
  before = λ t c le left. run.before t c le (s.nothing_new t c (omega (arith, le, run.later)) left);
}

pub stays_and : (old mid new : Life) (P : List ℕ → Type 0) → Stays old mid → LeavesOnly mid new P → ((c : List ℕ) → Now old c → P c) → LeavesOnly old new P
stays_and old mid new P s run here = record {
  later = omega (arith, run.later, s.later);
  size = run.size ∙ ap length s.same;
  each = λ c left. ⊎_elim (λ was. here c (s.nothing_new old.moment c (omega arith) was)) (λ now. now) (run.before old.moment c s.later left);
  now = run.now;
  before = λ t c le left. ⊎_elim (λ was. inl (s.nothing_new t c le was)) (λ now. inr now) (run.before t c (omega (arith, le, s.later)) left);
}

-- a write
pub torn : (at n : ℕ) (old new : Life) (P : List ℕ → Type 0) → Tears at n old new → ((c : List ℕ) → Now old c → P c) → ((c d : List ℕ) → Now old d → Torn at n d c → P c) → LeavesOnly old new P
torn at n old new P t before after = one_call old new P t.time t.others.size before (λ c now. let from = t.images c now in after c from.0 from.1 from.2)

pub Only-stays : (old new : Life) → Stays old new → Only old → Only new
Only-stays old new s only c now = only c (s.no_more c now) ∙ sym s.same

-- a write in a range of which each image is the base already
pub torn_within : (at n from m : ℕ) (base : List ℕ) (old new : Life) → Tears at n old new → Within from m base old → from ≤ at → at + n ≤ from + m → LeavesOnly old new (Torn from m base)
torn_within at n from m base old new t within low high = torn at n old new (Torn from m base) t within (λ c d was cut. Torn-trans from m base d c (within d was) (Torn-wider at n from m d c low high cut))

-- calls that write nothing
pub stays_leaves : (old new : Life) (P : List ℕ → Type 0) → Stays old new → ((c : List ℕ) → Now old c → P c) → LeavesOnly old new P
stays_leaves old new P s here = stays_and old new new P s (no_call new P (λ c now. here c (s.no_more c now))) here

pub Within-stays : (at n : ℕ) (base : List ℕ) (old new : Life) → Stays old new → Within at n base old → Within at n base new
Within-stays at n base old new s within c now = within c (s.no_more c now)
