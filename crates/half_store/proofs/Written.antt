-- Bytes put one behind another.
use Rattle.std.proofs.Common.{◌≡◌, ℕ, ◌-◌, List, [], ◌∷◌, ◌++◌, length, ◌∙◌, ap, arith, append_assoc, length-append}
use Rattle.half_store.specs.Fresh.{zeros, header_bytes, first_header}

-- four times
pub joined : (old a b d e x y z w : List ℕ) → a ≡ old ++ x → b ≡ a ++ y → d ≡ b ++ z → e ≡ d ++ w → e ≡ old ++ (x ++ (y ++ (z ++ w)))
joined old a b d e x y z w a_is b_is d_is e_is =
    e_is ∙ ap (λ (l : List ℕ). l ++ w) (d_is ∙ ap (λ (l : List ℕ). l ++ z) (b_is ∙ ap (λ (l : List ℕ). l ++ y) a_is))
    ∙ append_assoc (old ++ x ++ y) z w ∙ append_assoc (old ++ x) y (z ++ w) ∙ append_assoc old x (y ++ (z ++ w))

-- and five times
pub joined_five : (old a b d e f x y z w v : List ℕ) → a ≡ old ++ x → b ≡ a ++ y → d ≡ b ++ z → e ≡ d ++ w → f ≡ e ++ v → f ≡ old ++ (x ++ (y ++ (z ++ (w ++ v))))
joined_five old a b d e f x y z w v a_is b_is d_is e_is f_is =
    f_is ∙ ap (λ (l : List ℕ). l ++ v) (joined old a b d e x y z w a_is b_is d_is e_is)
    ∙ append_assoc old (x ++ (y ++ (z ++ w))) v
    ∙ ap (λ (l : List ℕ). old ++ l) (append_assoc x (y ++ (z ++ w)) v ∙ ap (λ (l : List ℕ). x ++ l) (append_assoc y (z ++ w) v ∙ ap (λ (l : List ℕ). y ++ l) (append_assoc z w v)))

-- the first header behind the head's page, and zeros up to the first gate
pub front_joined : (page a b d e : List ℕ) → a ≡ page → length a ≡ 8184 → b ≡ a ++ 165 ∷ [] → d ≡ b ++ header_bytes first_header → e ≡ d ++ zeros (16377 - length d) → e ≡ page ++ ((165 ∷ header_bytes first_header) ++ zeros 8168)
front_joined page a b d e a_is a_len b_is d_is e_is =
    let d_len : 16377 - length d ≡ 8168 = omega (arith, a_len, ap length b_is, length-append a (165 ∷ []), ap length d_is, length-append b (header_bytes first_header)) in
    e_is ∙ ap (λ n. d ++ zeros n) d_len
    ∙ ap (λ (l : List ℕ). l ++ zeros 8168) (d_is ∙ ap (λ (l : List ℕ). l ++ header_bytes first_header) (b_is ∙ ap (λ (l : List ℕ). l ++ 165 ∷ []) a_is))
    ∙ append_assoc (page ++ 165 ∷ []) (header_bytes first_header) (zeros 8168) ∙ append_assoc page (165 ∷ []) (header_bytes first_header ++ zeros 8168)
