use Rattle.std.proofs.Common.{rules, ◌≡◌, ℕ, List, [], ◌∷◌, ◌++◌, refl, sym, ap, ◌∙◌, length, get_or, arith}
use Rattle.std.specs.Prelude.{codes, replicate}
use Rattle.std.specs.Int.{w32, to_be_bytes, cast_unsigned}
use Rattle.sqlam_replies.proofs.sqlca.sqlca.Goals as goal

four : (xs : List ℕ) → length xs ≡ 4 → xs ≡ get_or xs 0 0 ∷ get_or xs 1 0 ∷ get_or xs 2 0 ∷ get_or xs 3 0 ∷ []
four [] len = absurd (omega (arith, len))
four (a ∷ []) len = absurd (omega (arith, len))
four (a ∷ b ∷ []) len = absurd (omega (arith, len))
four (a ∷ b ∷ c ∷ []) len = absurd (omega (arith, len))
four (a ∷ b ∷ c ∷ d ∷ []) len = refl
four (a ∷ b ∷ c ∷ d ∷ e ∷ xs) len = absurd (omega (arith, len))

five : (xs : List ℕ) → length xs ≡ 5 → xs ≡ get_or xs 0 0 ∷ get_or xs 1 0 ∷ get_or xs 2 0 ∷ get_or xs 3 0 ∷ get_or xs 4 0 ∷ []
five [] len = absurd (omega (arith, len))
five (a ∷ []) len = absurd (omega (arith, len))
five (a ∷ b ∷ []) len = absurd (omega (arith, len))
five (a ∷ b ∷ c ∷ []) len = absurd (omega (arith, len))
five (a ∷ b ∷ c ∷ d ∷ []) len = absurd (omega (arith, len))
five (a ∷ b ∷ c ∷ d ∷ e ∷ []) len = refl
five (a ∷ b ∷ c ∷ d ∷ e ∷ f ∷ xs) len = absurd (omega (arith, len))

abbrev card : List ℕ → List ℕ → List ℕ → List ℕ
card code state count = 0x00 ∷ code ++ state ++ codes "RDA01000" ++ 0x00 ∷ (replicate 8 0 ++ count ++ replicate 12 0) ++ replicate 11 0x20 ++ replicate 6 0 ++ 0xFF ∷ []

abbrev firsts : List ℕ → List ℕ
firsts xs = get_or xs 0 0 ∷ get_or xs 1 0 ∷ get_or xs 2 0 ∷ get_or xs 3 0 ∷ []

glued : (code code_is state count count_is : List ℕ) → length code ≡ 4 → length state ≡ 5 → length count ≡ 4 → code ≡ code_is → count ≡ count_is
    → card (firsts code) (get_or state 0 0 ∷ get_or state 1 0 ∷ get_or state 2 0 ∷ get_or state 3 0 ∷ get_or state 4 0 ∷ []) (firsts count) ≡ card code_is state count_is
glued code code_is state count count_is p q r c n =
    ap (λ x. card x (get_or state 0 0 ∷ get_or state 1 0 ∷ get_or state 2 0 ∷ get_or state 3 0 ∷ get_or state 4 0 ∷ []) (firsts count)) (sym (four code p) ∙ c)
    ∙ ap (λ x. card code_is x (firsts count)) (sym (five state q))
    ∙ ap (λ x. card code_is state x) (sym (four count r) ∙ n)

pub returns : goal.returns
returns c =
    let code : c.to_be_bytes.result ≡ to_be_bytes w32 (cast_unsigned w32 c.args.code) = search rules in
    let count : c.to_be_bytes-2.result ≡ to_be_bytes w32 c.args.count = search rules in
    let five_long : length c.args.state.now ≡ 5 = omega arith in
    glued c.to_be_bytes.result (to_be_bytes w32 (cast_unsigned w32 c.args.code)) c.args.state.now c.to_be_bytes-2.result (to_be_bytes w32 c.args.count) (ap length code) five_long (ap length count) code count
