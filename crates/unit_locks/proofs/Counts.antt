-- What holders count after a claim is counted, or taken off.
use Rattle.std.proofs.Common.{◌==◌, ◌≡◌, ◌≢◌, ◌⊎◌, ◌<◌, ◌≤◌, ◌+◌, ◌-◌, ℕ, zero, suc, Bool, true, false, not, ◌&&◌, ◌||◌, List, [], ◌∷◌, ◌++◌, if◌then◌else◌, refl, sym, ap, subst, ◌∙◌, inl, inr, length, get_or, take, drop, arith, Some, None, nat_lt, slice_set, slice_get, eqb-true}
use Rattle.std.specs.List.{list_any, position, position_or_len, remove}
use Rattle.std.proofs.lemmas.List.Sums.{fails_before_first}
use Rattle.std.specs.Global.{Vec}
use Rattle.std.specs.Str.{bytes_eq}
use Rattle.std.proofs.lemmas.Bool.Decides.{nat_tests}
use Rattle.std.proofs.lemmas.List.Quantifiers.{position-Some}
use Rattle.drda_words.proofs.Precedes.{bytes_eq-refl, same_bytes}
use Rattle.unit_locks.specs.declared.access.Access.{Access}
use Rattle.unit_locks.specs.declared.access.Access.TheVariants.{Read, Write}
use Rattle.unit_locks.specs.declared.holder.Holder.{Holder}
use Rattle.unit_locks.specs.Claim.{Claim}
use Rattle.unit_locks.specs.Clash.{is_write}
use Rattle.unit_locks.specs.Index.{Use, amount, blocks, bucket, counted, held, is_held, one_if, same_access, same_use, table_hash, use_of}
use Rattle.unit_locks.specs.Lists.{list_at}
use Rattle.unit_locks.proofs.Tests.{first_true, same_or, second_true, self, which}

access_self : (a : Access) → same_access a a ≡ true
access_self Read = refl
access_self Write = refl

pub access_true : (a b : Access) → same_access a b ≡ true → a ≡ b
access_true Read Read h = refl
access_true Read Write h = absurd cc
access_true Write Read h = absurd cc
access_true Write Write h = refl

pub use_self : (k : Use) → same_use k k ≡ true
use_self k = rw (self k.unit, bytes_eq-refl k.table, access_self k.access) refl

pub use_true : (x y : Use) → same_use x y ≡ true → x ≡ y
use_true x y h =
    let unit : x.unit ≡ y.unit = eqb-true x.unit y.unit (first_true (x.unit == y.unit) (bytes_eq x.table y.table && same_access x.access y.access) h) in
    let rest = second_true (x.unit == y.unit) (bytes_eq x.table y.table && same_access x.access y.access) h in
    let table : x.table ≡ y.table = same_bytes x.table y.table (first_true (bytes_eq x.table y.table) (same_access x.access y.access) rest) in
    let access : x.access ≡ y.access = access_true x.access y.access (second_true (bytes_eq x.table y.table) (same_access x.access y.access) rest) in
    ap (λ (n : ℕ). let z : Use = record { unit = n; table = x.table; access = x.access } in z) unit
    ∙ ap (λ (l : List ℕ). let z : Use = record { unit = y.unit; table = l; access = x.access } in z) table
    ∙ ap (λ (a : Access). let z : Use = record { unit = y.unit; table = y.table; access = a } in z) access

-- ---- one bucket

past_cases : (b : Bool) (n m : ℕ) → nat_lt n m ≡ b → (if b then Some n else None) ≡ None → m ≤ n
past_cases true n m is h = absurd cc
past_cases false n m is h = grind (arith, nat_tests)

none_passes : (p : Holder → Bool) (hs : List Holder) → position p hs ≡ None → (i : ℕ) (d : Holder) → i < length hs → p (get_or hs i d) ≡ false
none_passes p hs h i d lt =
    let past : length hs ≤ position_or_len p hs = past_cases (nat_lt (position_or_len p hs) (length hs)) (position_or_len p hs) (length hs) refl h in
    fails_before_first p hs i d (omega (arith, lt, past))

pub same_item : (hs : List Holder) (i : ℕ) (d e : Holder) → i < length hs → get_or hs i d ≡ get_or hs i e
same_item [] i d e lt = absurd (omega (arith, lt))
same_item (x ∷ hs) zero d e lt = refl
same_item (x ∷ hs) (suc i) d e lt = same_item hs i d e (omega (arith, lt))

swap_sum : (a b c : ℕ) → (a + c) + b ≡ (b + c) + a
swap_sum a b c = omega arith

add_front : (a s g t b : ℕ) → s + g ≡ t + b → (a + s) + g ≡ (a + t) + b
add_front a s g t b h = omega (arith, h)

counted_set : (hs : List Holder) (i : ℕ) (h d : Holder) (k : Use) → i < length hs → counted (slice_set hs i h) k + amount (get_or hs i d) k ≡ counted hs k + amount h k
counted_set [] i h d k lt = absurd (omega (arith, lt))
counted_set (x ∷ hs) zero h d k lt = swap_sum (amount h k) (amount x k) (counted hs k)
counted_set (x ∷ hs) (suc i) h d k lt = add_front (amount x k) (counted (slice_set hs i h) k) (amount (get_or hs i d) k) (counted hs k) (amount h k) (counted_set hs i h d k (omega (arith, lt)))

turn_sum : (a b : ℕ) → b + a ≡ a + b
turn_sum a b = omega arith

counted_remove : (hs : List Holder) (i : ℕ) (d : Holder) (k : Use) → i < length hs → counted (remove hs i) k + amount (get_or hs i d) k ≡ counted hs k
counted_remove [] i d k lt = absurd (omega (arith, lt))
counted_remove (x ∷ hs) zero d k lt = turn_sum (amount x k) (counted hs k)
counted_remove (x ∷ hs) (suc i) d k lt = assoc (amount x k) (counted (remove hs i) k) (amount (get_or hs i d) k) (counted hs k) (counted_remove hs i d k (omega (arith, lt)))
  where
    assoc : (a s g t : ℕ) → s + g ≡ t → (a + s) + g ≡ a + t
    assoc a s g t h = omega (arith, h)

counted_more : (hs : List Holder) (h : Holder) (k : Use) → counted (hs ++ h ∷ []) k ≡ counted hs k + amount h k
counted_more [] h k = turn_sum 0 (amount h k)
counted_more (x ∷ hs) h k = assoc (amount x k) (counted (hs ++ h ∷ []) k) (counted hs k) (amount h k) (counted_more hs h k)
  where
    assoc : (a s t b : ℕ) → s ≡ t + b → a + s ≡ (a + t) + b
    assoc a s t b h = omega (arith, h)

none_counted : (hs : List Holder) (u : Use) → ((i : ℕ) (d : Holder) → i < length hs → is_held u (get_or hs i d) ≡ false) → counted hs u ≡ 0
none_counted [] u none = refl
none_counted (x ∷ hs) u none =
    let rest : counted hs u ≡ 0 = none_counted hs u (λ i d lt. none (suc i) d (omega (arith, lt))) in
    zero_sum (same_use (use_of x) u) x.count (counted hs u) (none 0 x (omega arith)) rest
  where
    zero_sum : (b : Bool) (n m : ℕ) → (b && nat_lt 0 n) ≡ false → m ≡ 0 → (if b then n else 0) + m ≡ 0
    zero_sum true n m h rest = grind (arith, nat_tests)
    zero_sum false n m h rest = omega (arith, rest)

held_use : (u : Use) (h : Holder) → is_held u h ≡ true → use_of h ≡ u
held_use u h is = use_true (use_of h) u (first_true (same_use (use_of h) u) (nat_lt 0 h.count) is)

pub raised : (hs : List Holder) (i n : ℕ) (h : Holder) (u k : Use) → position (is_held u) hs ≡ Some i → h ≡ get_or hs i h → n ≡ h.count + 1
    → counted (slice_set hs i (record h { count = n })) k ≡ counted hs k + one_if (same_use u k)
raised hs i n h u k found is more =
    let f = position-Some (is_held u) hs i h found in
    let held : is_held u h ≡ true = subst (λ (x : Holder). is_held u x ≡ true) (sym is) f.1 in
    let owner : use_of h ≡ u = held_use u h held in
    let old : amount (get_or hs i h) k ≡ (if same_use u k then h.count else 0) = ap (λ (x : Holder). amount x k) (sym is) ∙ ap (λ (x : Use). if same_use x k then h.count else 0) owner in
    let new : amount (record h { count = n }) k ≡ (if same_use u k then n else 0) = ap (λ (x : Use). if same_use x k then n else 0) owner in
    sums (same_use u k) (counted (slice_set hs i (record h { count = n })) k) (amount (get_or hs i h) k) (counted hs k) (amount (record h { count = n }) k) h.count n
    (counted_set hs i (record h { count = n }) h k f.0) old new more
  where
    sums : (b : Bool) (s g t a c m : ℕ) → s + g ≡ t + a → g ≡ (if b then c else 0) → a ≡ (if b then m else 0) → m ≡ c + 1 → s ≡ t + one_if b
    sums true s g t a c m e old new more = omega (arith, e, old, new, more)
    sums false s g t a c m e old new more = omega (arith, e, old, new)

pub begun : (hs : List Holder) (h : Holder) (u k : Use) → use_of h ≡ u → h.count ≡ 1 → counted (hs ++ h ∷ []) k ≡ counted hs k + one_if (same_use u k)
begun hs h u k is one = counted_more hs h k ∙ ap (λ (x : Use). counted hs k + (if same_use x k then h.count else 0)) is ∙ ap (λ (n : ℕ). counted hs k + n) (single (same_use u k) h.count one)
  where
    single : (b : Bool) (n : ℕ) → n ≡ 1 → (if b then n else 0) ≡ one_if b
    single true n h = h
    single false n h = refl

pub lowered : (hs : List Holder) (i n : ℕ) (h : Holder) (u k : Use) → position (is_held u) hs ≡ Some i → h ≡ get_or hs i h → h.count ≡ n + 1
    → counted (slice_set hs i (record h { count = n })) k ≡ counted hs k - one_if (same_use u k)
lowered hs i n h u k found is less =
    let f = position-Some (is_held u) hs i h found in
    let held : is_held u h ≡ true = subst (λ (x : Holder). is_held u x ≡ true) (sym is) f.1 in
    let owner : use_of h ≡ u = held_use u h held in
    let old : amount (get_or hs i h) k ≡ (if same_use u k then h.count else 0) = ap (λ (x : Holder). amount x k) (sym is) ∙ ap (λ (x : Use). if same_use x k then h.count else 0) owner in
    let new : amount (record h { count = n }) k ≡ (if same_use u k then n else 0) = ap (λ (x : Use). if same_use x k then n else 0) owner in
    sums (same_use u k) (counted (slice_set hs i (record h { count = n })) k) (amount (get_or hs i h) k) (counted hs k) (amount (record h { count = n }) k) h.count n
    (counted_set hs i (record h { count = n }) h k f.0) old new less
  where
    sums : (b : Bool) (s g t a c m : ℕ) → s + g ≡ t + a → g ≡ (if b then c else 0) → a ≡ (if b then m else 0) → c ≡ m + 1 → s ≡ t - one_if b
    sums true s g t a c m e old new less = omega (arith, e, old, new, less)
    sums false s g t a c m e old new less = omega (arith, e, old, new)

pub ended : (hs : List Holder) (i : ℕ) (h : Holder) (u k : Use) → position (is_held u) hs ≡ Some i → h ≡ get_or hs i h → h.count ≤ 1
    → counted (remove hs i) k ≡ counted hs k - one_if (same_use u k)
ended hs i h u k found is few =
    let f = position-Some (is_held u) hs i h found in
    let held : is_held u h ≡ true = subst (λ (x : Holder). is_held u x ≡ true) (sym is) f.1 in
    let owner : use_of h ≡ u = held_use u h held in
    let some : nat_lt 0 h.count ≡ true = second_true (same_use (use_of h) u) (nat_lt 0 h.count) held in
    let one : h.count ≡ 1 = grind (arith, nat_tests) in
    let old : amount (get_or hs i h) k ≡ (if same_use u k then h.count else 0) = ap (λ (x : Holder). amount x k) (sym is) ∙ ap (λ (x : Use). if same_use x k then h.count else 0) owner in
    sums (same_use u k) (counted (remove hs i) k) (amount (get_or hs i h) k) (counted hs k) h.count (counted_remove hs i h k f.0) old one
  where
    sums : (b : Bool) (s g t c : ℕ) → s + g ≡ t → g ≡ (if b then c else 0) → c ≡ 1 → s ≡ t - one_if b
    sums true s g t c e old one = omega (arith, e, old, one)
    sums false s g t c e old one = omega (arith, e, old)

pub absent : (hs : List Holder) (u k : Use) → position (is_held u) hs ≡ None → counted hs k ≡ counted hs k - one_if (same_use u k)
absent hs u k none = cases (same_use u k) refl
  where
    cases : (b : Bool) → same_use u k ≡ b → counted hs k ≡ counted hs k - one_if b
    cases true is =
        let zero_u : counted hs u ≡ 0 = none_counted hs u (none_passes (is_held u) hs none) in
        let zero_k : counted hs k ≡ 0 = subst (λ (x : Use). counted hs x ≡ 0) (use_true u k is) zero_u in
        omega (arith, zero_k)
    cases false is = omega arith

-- ---- all buckets

pub held_moved : (f : ℕ → Bool → ℕ) → ((n : ℕ) → f n false ≡ n) → (old new : List (Vec Holder)) (u : Use)
    → ((k : Use) → counted (list_at new (bucket (table_hash u.table))) k ≡ f (counted (list_at old (bucket (table_hash u.table))) k) (same_use u k))
    → ((b : ℕ) → b ≢ bucket (table_hash u.table) → list_at new b ≡ list_at old b) → (k : Use) → held new k ≡ f (held old k) (same_use u k)
held_moved f stays old new u here others k = cases (same_or (bucket (table_hash k.table)) (bucket (table_hash u.table)))
  where
    not_same : (b : Bool) → same_use u k ≡ b → bucket (table_hash k.table) ≢ bucket (table_hash u.table) → b ≡ false
    not_same true is e = absurd (e (ap (λ (x : Use). bucket (table_hash x.table)) (sym (use_true u k is))))
    not_same false is e = refl

    cases : (bucket (table_hash k.table) ≡ bucket (table_hash u.table)) ⊎ (bucket (table_hash k.table) ≢ bucket (table_hash u.table)) → held new k ≡ f (held old k) (same_use u k)
    cases (inl e) = ap (λ (b : ℕ). counted (list_at new b) k) e ∙ here k ∙ ap (λ (b : ℕ). f (counted (list_at old b) k) (same_use u k)) (sym e)
    cases (inr e) = ap (λ (hs : List Holder). counted hs k) (others (bucket (table_hash k.table)) e) ∙ sym (stays (held old k)) ∙ ap (f (held old k)) (sym (not_same (same_use u k) refl e))

-- nothing is counted in a bucket that is empty
pub no_bucket : (lists : List (Vec Holder)) (u k : Use) → list_at lists (bucket (table_hash u.table)) ≡ [] → held lists k ≡ held lists k - one_if (same_use u k)
no_bucket lists u k empty = held_moved (λ n b. n - one_if b) (λ n. less n) lists lists u (λ j. ap (λ (hs : List Holder). counted hs j) empty ∙ sym (none (one_if (same_use u j))) ∙ ap (λ (hs : List Holder). counted hs j - one_if (same_use u j)) (sym empty)) (λ b other. refl) k
  where
    less : (n : ℕ) → n - 0 ≡ n
    less n = omega arith

    none : (n : ℕ) → 0 - n ≡ 0
    none n = omega arith

all_none : (p : Holder → Bool) (hs : List Holder) → ((i : ℕ) (d : Holder) → i < length hs → p (get_or hs i d) ≡ false) → list_any p hs ≡ false
all_none p [] none = refl
all_none p (h ∷ hs) none = ap (λ (b : Bool). b || list_any p hs) (none 0 h (omega arith)) ∙ all_none p hs (λ i d lt. none (suc i) d (omega (arith, lt)))

-- where no place is found, none passes
pub no_place : (p : Holder → Bool) (hs : List Holder) → position p hs ≡ None → list_any p hs ≡ false
no_place p hs h = all_none p hs (none_passes p hs h)
