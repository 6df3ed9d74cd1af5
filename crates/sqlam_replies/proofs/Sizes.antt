-- How long objects are.
use Rattle.std.proofs.Common.{◌≡◌, ℕ, suc, ◌+◌, ◌<◌, ◌≤◌, refl, sym, ap, ap₂, ◌∙◌, take, drop, Bool, true, false, cond, leb, ltb, List, [], ◌∷◌, ◌++◌, length, append_assoc, append-nil, arith, if◌then◌else◌, lit≤}
use Rattle.std.proofs.lemmas.List.{length-append}
use Rattle.std.specs.Prelude.{Result, Ok, Err, is_ok, OnOk, OnErr, vec_len, vec_capacity}
use Rattle.std.specs.Global.{Vec}
use Rattle.ddm_objects.specs.Objects.{Plain, Extended4, Extended8, heading}
use Rattle.ddm_objects.specs.Writing.{form_for, spelled, unset}
use Rattle.sqlam_replies.proofs.Appending.{kept_on}
use Rattle.std.proofs.Math.Seq.{take-append_seam}

heading_size : (code size : ℕ) (b c : Bool) → 4 ≤ length (heading (cond b Plain (cond c Extended4 Extended8)) code size)
heading_size code size true c = lit≤ tt
heading_size code size false true = lit≤ tt
heading_size code size false false = lit≤ tt

-- an object is longer than its data by the four bytes of its heading, or more
pub spelled_size : (code : ℕ) (value : List ℕ) → 4 + length value ≤ length (spelled code value)
unfolding spelled
spelled_size code value =
    omega (arith, length-append (heading (form_for (length value)) code (length value)) value, heading_size code (length value) (leb (length value) 32763) (ltb (length value) 0x1_0000_0000))

pub on_err : {X E A : Type 0} (r : Result X E) → A → OnErr r A
on_err (Ok x) a = tt
on_err (Err e) a = a

-- ---- a call that fails in the middle of a container

pub behind : (front part : List ℕ) → length front + length part ≤ length (front ++ part)
behind front part = let e = length-append front part in omega (arith, e)

pub between : (front part rest : List ℕ) → length front + length part ≤ length (front ++ (part ++ rest))
between front part rest = let e = length-append front (part ++ rest) in let d = length-append part rest in omega (arith, e, d)

-- a part that does not fit behind a front is too long for the whole
pub mid : {X E : Type 0} (r : Result X E) (v w : Vec ℕ) (code : ℕ) (front part whole : List ℕ) → w.items ≡ v.items ++ (unset ++ front) → vec_capacity v ≤ vec_capacity w
    → vec_capacity w < vec_len w + length part → length front + length part ≤ length whole → OnErr r (vec_capacity v < vec_len v + length (spelled code whole))
mid r v w code front part whole is more less le =
    let sum = ap length is ∙ length-append v.items (unset ++ front) in
    let size = length-append unset front in
    let long = spelled_size code whole in
    let a = v.ok.0 in
    let b = w.ok.0 in
    on_err r (omega (arith, sum, size, long, a, b, more, less, le))

-- what was kept by a call that was made with more there is kept
pub kept_mid : (v w : Vec ℕ) (next more : List ℕ) → w.items ≡ v.items ++ more → take (vec_len w) next ≡ w.items → take (vec_len v) next ≡ v.items
kept_mid v w next more is kept =
    let a : vec_len v ≡ length v.items = omega (arith, v.ok.0) in
    let b : length w.items ≡ vec_len w = omega (arith, w.ok.0) in
    let sum = ap length is ∙ length-append v.items more in
    ap (λ n. take n next) a
    ∙ kept_on v.items w.items next (omega (arith, sum)) (ap (take (length v.items)) is ∙ take-append_seam v.items more) (ap (λ n. take n next) b ∙ kept)

-- an item that does not fit is too long for all of them
pub late : {X E : Type 0} (r : Result X E) (v w : Vec ℕ) (part whole : ℕ) → length w.items + part ≤ length v.items + whole → vec_capacity v ≤ vec_capacity w → vec_capacity w < vec_len w + part → OnErr r (vec_capacity v < vec_len v + whole)
late r v w part whole space more less =
    let a = v.ok.0 in
    let b = w.ok.0 in
    on_err r (omega (arith, a, b, space, more, less))

-- ---- a container that is closed

vec_of : (v : Vec ℕ) → vec_len v ≡ length v.items
vec_of v = omega (arith, v.ok.0)

behind_unset : (a front : List ℕ) → drop (length a + 4) (a ++ (unset ++ front)) ≡ front
behind_unset [] front = refl
behind_unset (x ∷ a) front =
    let e : suc (length a) + 4 ≡ suc (length a + 4) = omega arith in
    ap (λ n. drop n (x ∷ (a ++ (unset ++ front)))) e ∙ behind_unset a front

pub kept_front : (v : Vec ℕ) (more next : List ℕ) → next ≡ v.items ++ more → take (vec_len v) next ≡ v.items
kept_front v more next is = ap (take (vec_len v)) is ∙ ap (λ n. take n (v.items ++ more)) (vec_of v) ∙ take-append_seam v.items more

pub kept_same : (v : Vec ℕ) (next : List ℕ) → next ≡ v.items → take (vec_len v) next ≡ v.items
kept_same v next is = kept_front v [] next (is ∙ sym (append-nil v.items))

-- what was kept so far is kept by a part that keeps it
pub kept_past : (v w : Vec ℕ) (next : List ℕ) → length v.items ≤ length w.items → take (length v.items) w.items ≡ v.items → take (vec_len w) next ≡ w.items → take (vec_len v) next ≡ v.items
kept_past v w next longer kept on = ap (λ n. take n next) (vec_of v) ∙ kept_on v.items w.items next longer kept (ap (λ n. take n next) (sym (vec_of w)) ∙ on)

pub kept_all : (v : Vec ℕ) (next : List ℕ) → take (length v.items) next ≡ v.items → take (vec_len v) next ≡ v.items
kept_all v next kept = ap (λ n. take n next) (vec_of v) ∙ kept

-- no room for a heading is no room for the whole
pub unopened : {X E : Type 0} (r : Result X E) (v : Vec ℕ) (code : ℕ) (whole : List ℕ) → vec_capacity v < vec_len v + 4 → OnErr r (vec_capacity v < vec_len v + length (spelled code whole))
unopened r v code whole less = let long = spelled_size code whole in on_err r (omega (arith, long, less))

pub fails : {X E : Type 0} (r : Result X E) (v : Vec ℕ) (whole : List ℕ) → vec_capacity v < vec_len v + length whole → OnErr r (vec_capacity v < vec_len v + length whole)
fails r v whole less = on_err r less

-- what a function says that appends an object
pub record Appends {X E : Type 0} (r : Result X E) (v n : Vec ℕ) (object : List ℕ) : Type 0 where
  pub ok : OnOk r (n.items ≡ v.items ++ object)
  pub kept : take (vec_len v) n.items ≡ v.items
  pub full : OnErr r (vec_capacity v < vec_len v + length object)
  pub capacity : vec_capacity v ≤ vec_capacity n

closed_by : {X E : Type 0} (r : Result X E) (v w n : Vec ℕ) (at : ℕ) (front written object rest : List ℕ) → w.items ≡ v.items ++ rest → at ≡ vec_len v → vec_capacity v ≤ vec_capacity w → front ≡ v.items → written ≡ object
    → OnOk r (n.items ≡ front ++ written) → OnErr r (n.items ≡ w.items) → OnErr r (vec_capacity w < at + length written) → vec_capacity w ≤ vec_capacity n
    → Appends r v n object
closed_by (Ok x) v w n at front written object rest is place more before same ok err full cap =
    let all : n.items ≡ v.items ++ object = ok ∙ ap₂ (λ a b. a ++ b) before same in
    record { ok = all; kept = kept_front v object n.items all; full = tt; capacity = omega (arith, more, cap) }
closed_by (Err e) v w n at front written object rest is place more before same ok err full cap =
    let size = ap length same in
    record { ok = tt; kept = kept_front v rest n.items (err ∙ is); full = omega (arith, size, place, more, full); capacity = omega (arith, more, cap) }

pub closed : {X E : Type 0} (r : Result X E) (v w n : Vec ℕ) (at code here : ℕ) (front : List ℕ) → w.items ≡ v.items ++ (unset ++ front) → (at ≡ vec_len v) × (code ≡ here) → vec_capacity v ≤ vec_capacity w
    → OnOk r (n.items ≡ take at w.items ++ spelled code (drop (at + 4) w.items)) → OnErr r (n.items ≡ w.items) → OnErr r (vec_capacity w < at + length (spelled code (drop (at + 4) w.items))) → vec_capacity w ≤ vec_capacity n
    → Appends r v n (spelled here front)
closed r v w n at code here front is opened more ok err full cap =
    let place = opened.0 ∙ vec_of v in
    let before : take at w.items ≡ v.items = ap (λ k. take k w.items) place ∙ ap (take (length v.items)) is ∙ take-append_seam v.items (unset ++ front) in
    let after : drop (at + 4) w.items ≡ front = ap (λ k. drop (k + 4) w.items) place ∙ ap (drop (length v.items + 4)) is ∙ behind_unset v.items front in
    let object : spelled code (drop (at + 4) w.items) ≡ spelled here front = ap₂ spelled opened.1 after in
    closed_by r v w n at (take at w.items) (spelled code (drop (at + 4) w.items)) (spelled here front) (unset ++ front) is opened.0 more before object ok err full cap

-- the last of three parts is appended
pub third : {X E : Type 0} (r : Result X E) (v w n : Vec ℕ) (front last : List ℕ) → w.items ≡ v.items ++ front → vec_capacity v ≤ vec_capacity w → n.items ≡ (if is_ok r then w.items ++ last else w.items) → OnErr r (vec_capacity w < vec_len w + length last) → vec_capacity w ≤ vec_capacity n
    → Appends r v n (front ++ last)
third (Ok x) v w n front last is more items full cap =
    let all = items ∙ ap (λ l. l ++ last) is ∙ append_assoc v.items front last in
    record { ok = all; kept = kept_front v (front ++ last) n.items all; full = tt; capacity = omega (arith, more, cap) }
third (Err e) v w n front last is more items full cap =
    let sum = ap length is ∙ length-append v.items front in
    let whole = length-append front last in
    let a = vec_of v in
    let b = vec_of w in
    record { ok = tt; kept = kept_front v front n.items (items ∙ is); full = omega (arith, sum, whole, a, b, more, full); capacity = omega (arith, more, cap) }
