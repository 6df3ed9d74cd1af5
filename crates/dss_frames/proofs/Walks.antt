-- Going over the DSSs of a group.
use Rattle.std.proofs.Common.{◌≡◌, ℕ, zero, suc, ◌+◌, ◌*◌, ◌≤◌, List, [], ◌∷◌, length, take, drop, Option, Some, None, refl, sym, ap, ◌∙◌, arith, length-drop}
use Rattle.std.specs.Prelude.{slice_get}
use Rattle.std.proofs.lemmas.List.{drop-drop}
use Rattle.drda_words.specs.Number.{word}
use Rattle.dss_frames.specs.Dss.{Dss}
use Rattle.dss_frames.specs.Group.{dsss_in, joined_dsss, first_dss}

-- a text has no more DSSs than bytes
pub dsss_in_enough : (m n : ℕ) (text : List ℕ) → length text ≤ m → length text ≤ n → dsss_in m text ≡ dsss_in n text
dsss_in_enough zero zero text p q = refl
dsss_in_enough zero (suc n) [] p q = refl
dsss_in_enough zero (suc n) (x ∷ text) p q = absurd (omega arith)
dsss_in_enough (suc m) zero [] p q = refl
dsss_in_enough (suc m) zero (x ∷ text) p q = absurd (omega arith)
dsss_in_enough (suc m) (suc n) (high ∷ middle ∷ low ∷ format ∷ c ∷ d ∷ text) p q =
    let count = 65536 * high + word middle low in
    let size = length-drop count text in
    ap (λ (ds : List Dss). record { format = format; correlator = word c d; contents = take count text } ∷ ds) (dsss_in_enough m n (drop count text) (omega arith) (omega arith))
dsss_in_enough (suc m) (suc n) text p q = refl

drop-take_length : (n : ℕ) (xs : List ℕ) → drop (length (take n xs)) xs ≡ drop n xs
drop-take_length zero xs = refl
drop-take_length (suc n) [] = refl
drop-take_length (suc n) (x ∷ xs) = drop-take_length n xs

-- the first DSS, and those behind it
pub first_and_others : (text : List ℕ) (dss : Dss) → first_dss text ≡ Some dss → joined_dsss text ≡ dss ∷ joined_dsss (drop (6 + length dss.contents) text)
first_and_others (high ∷ middle ∷ low ∷ format ∷ c ∷ d ∷ text) dss e =
    let count = 65536 * high + word middle low in
    let first : Dss = record { format = format; correlator = word c d; contents = take count text } in
    let same : first ≡ dss = cc in
    let size = length-drop count text in
    let contents : take count text ≡ dss.contents = ap (λ (x : Dss). x.contents) same in
    let behind : drop (6 + length dss.contents) (high ∷ middle ∷ low ∷ format ∷ c ∷ d ∷ text) ≡ drop count text =
    sym (drop-drop (length dss.contents) 6 (high ∷ middle ∷ low ∷ format ∷ c ∷ d ∷ text)) ∙ ap (λ (b : List ℕ). drop (length b) text) (sym contents) ∙ drop-take_length count text in
    ap (λ (ds : List Dss). first ∷ ds) (dsss_in_enough (suc (suc (suc (suc (suc (length text)))))) (length (drop count text)) (drop count text) (omega arith) (omega arith))
    ∙ ap (λ (x : Dss). x ∷ joined_dsss (drop count text)) same
    ∙ ap (λ (b : List ℕ). dss ∷ joined_dsss b) (sym behind)
first_and_others text dss e = absurd cc

pub no_first : (text : List ℕ) → first_dss text ≡ None → joined_dsss text ≡ []
no_first [] e = refl
no_first (a ∷ []) e = refl
no_first (a ∷ b ∷ []) e = refl
no_first (a ∷ b ∷ c ∷ []) e = refl
no_first (a ∷ b ∷ c ∷ d ∷ []) e = refl
no_first (a ∷ b ∷ c ∷ d ∷ f ∷ []) e = refl
no_first (a ∷ b ∷ c ∷ d ∷ f ∷ g ∷ text) e = absurd cc

-- ---- places in a list

pub drop_next : (i : ℕ) (ds rest : List Dss) (dss : Dss) → drop i ds ≡ dss ∷ rest → drop (i + 1) ds ≡ rest
drop_next i ds rest dss e = sym (drop-drop 1 i ds) ∙ ap (λ (l : List Dss). drop 1 l) e

pub get_here : (i : ℕ) (ds : List Dss) → slice_get ds i ≡ slice_get (drop i ds) 0
get_here zero ds = refl
get_here (suc i) [] = refl
get_here (suc i) (x ∷ ds) = get_here i ds

pub get_past : (i j : ℕ) (ds : List Dss) → drop i ds ≡ [] → i ≤ j → slice_get ds j ≡ None
get_past i j [] e le = refl
get_past zero j (x ∷ ds) e le = absurd cc
get_past (suc i) zero (x ∷ ds) e le = absurd (omega arith)
get_past (suc i) (suc j) (x ∷ ds) e le = get_past i j ds e (omega arith)

-- ---- a part where it stands

-- one DSS further on
pub walk_on : (text : List ℕ) (at next i : ℕ) (dss : Dss) → first_dss (drop at text) ≡ Some dss → next ≡ at + (6 + length dss.contents) → drop i (joined_dsss text) ≡ joined_dsss (drop at text)
    → drop (i + 1) (joined_dsss text) ≡ joined_dsss (drop next text)
walk_on text at next i dss e n walked =
    let parts : drop i (joined_dsss text) ≡ dss ∷ joined_dsss (drop (6 + length dss.contents) (drop at text)) = walked ∙ first_and_others (drop at text) dss e in
    drop_next i (joined_dsss text) (joined_dsss (drop (6 + length dss.contents) (drop at text))) dss parts
    ∙ ap joined_dsss (drop-drop (6 + length dss.contents) at text ∙ ap (λ (m : ℕ). drop m text) (sym n))

pub walk_count : (text : List ℕ) (at next : ℕ) (dss : Dss) → first_dss (drop at text) ≡ Some dss → next ≡ at + (6 + length dss.contents)
    → length (joined_dsss (drop at text)) ≡ 1 + length (joined_dsss (drop next text))
walk_count text at next dss e n =
    let all = ap length (first_and_others (drop at text) dss e) in
    let others : length (joined_dsss (drop (6 + length dss.contents) (drop at text))) ≡ length (joined_dsss (drop next text)) =
    ap (λ (b : List ℕ). length (joined_dsss b)) (drop-drop (6 + length dss.contents) at text ∙ ap (λ (m : ℕ). drop m text) (sym n)) in
    omega arith

first_is : (found : Option Dss) (bytes : List ℕ) → first_dss bytes ≡ found → slice_get (joined_dsss bytes) 0 ≡ found
first_is None bytes e = ap (λ (ds : List Dss). slice_get ds 0) (no_first bytes e)
first_is (Some dss) bytes e = ap (λ (ds : List Dss). slice_get ds 0) (first_and_others bytes dss e)

pub walk_here : (text : List ℕ) (at i : ℕ) → drop i (joined_dsss text) ≡ joined_dsss (drop at text) → slice_get (joined_dsss text) i ≡ first_dss (drop at text)
walk_here text at i walked = get_here i (joined_dsss text) ∙ ap (λ (ds : List Dss). slice_get ds 0) walked ∙ first_is (first_dss (drop at text)) (drop at text) refl

pub walk_past : (text : List ℕ) (at i j : ℕ) → first_dss (drop at text) ≡ None → i ≤ j → drop i (joined_dsss text) ≡ joined_dsss (drop at text) → slice_get (joined_dsss text) j ≡ None
walk_past text at i j e le walked = get_past i j (joined_dsss text) (walked ∙ no_first (drop at text) e) le
