-- Texts that are appended part by part.
use Rattle.std.proofs.Common.{◌≡◌, ℕ, ◌+◌, List, [], ◌∷◌, ◌++◌, length, take, drop, refl, sym, ap, ◌∙◌, append_assoc, arith, length-append}
use Rattle.std.specs.Prelude.{Result, Ok, Err, OnErr, OnOk, vec_len}
use Rattle.std.specs.Global.{Vec}
use Rattle.std.proofs.lemmas.List.{drop_at, take-take, take_at}
use Rattle.ddm_objects.specs.Writing.{spelled, unset}

-- more bytes stand behind these
abbrev pub IsBehind : List ℕ → List ℕ → Type 0
IsBehind front now = (more : List ℕ) × (now ≡ front ++ more)

pub on_err : {X E A : Type 0} (r : Result X E) → A → OnErr r A
on_err (Ok x) a = tt
on_err (Err e) a = a

pub ok_so : {X E A B : Type 0} (r : Result X E) → (A → B) → OnOk r A → OnOk r B
ok_so (Ok x) f p = f p
ok_so (Err e) f p = p

kept_of : (old now next more : List ℕ) → now ≡ old ++ more → take (length now) next ≡ now → take (length old) next ≡ old
kept_of old now next more is kept =
    let within = ap length is ∙ length-append old more in
    sym (take-take (length old) (length now) next (omega (arith, within)))
    ∙ ap (take (length old)) (kept ∙ is) ∙ take_at old more (length old) refl

-- what was kept by a call that was made with more there is kept
pub kept_mid : (v w : Vec ℕ) (next more : List ℕ) → w.items ≡ v.items ++ more → take (vec_len w) next ≡ w.items → take (vec_len v) next ≡ v.items
kept_mid v w next more is kept =
    let a : vec_len v ≡ length v.items = omega (arith, v.ok.0) in
    let b : length w.items ≡ vec_len w = omega (arith, w.ok.0) in
    ap (λ n. take n next) a ∙ kept_of v.items w.items next more is (ap (λ n. take n next) b ∙ kept)

-- ---- the attributes of EXCSATRD

pub joined : (w a b c d e : List ℕ) → ((((w ++ a) ++ b) ++ c) ++ d) ++ e ≡ w ++ ((((a ++ b) ++ c) ++ d) ++ e)
joined [] a b c d e = refl
joined (x ∷ w) a b c d e = ap (λ (z : List ℕ). x ∷ z) (joined w a b c d e)

-- a container that was opened behind a front is closed
pub closed : (code given at : ℕ) (old w new body : List ℕ) → at ≡ length old → given ≡ code → w ≡ (old ++ unset) ++ body
    → new ≡ take at w ++ spelled given (drop (at + 4) w) → new ≡ old ++ spelled code body
closed code given at old w new body place same is made =
    let front : take at w ≡ old = ap (take at) (is ∙ append_assoc old unset body) ∙ take_at old (unset ++ body) at (sym place) in
    let inside : drop (at + 4) w ≡ body = ap (drop (at + 4)) is ∙ drop_at (old ++ unset) body (at + 4) (omega (arith, length-append old unset, place)) in
    made ∙ ap (λ (z : List ℕ). z ++ spelled given (drop (at + 4) w)) front
    ∙ ap (λ (z : List ℕ). old ++ spelled given z) inside ∙ ap (λ n. old ++ spelled n body) same
