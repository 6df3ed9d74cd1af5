-- One turn of a loop over the items of a list.
use Rattle.std.proofs.Common.{◌≡◌, ℕ, zero, suc, ◌+◌, ◌-◌, ◌≤◌, ◌<◌, sym, ap, ◌∙◌, arith}
use Rattle.sql_text.specs.Rules.{neg_at, level}

pub begun : {X L : Type 0} (f : ℕ → L → X) (turns n : ℕ) (found none : L) → turns ≡ n → found ≡ none → f n none ≡ f (turns - 0) found
begun f turns n found none e same = let all : n ≡ turns - 0 = omega arith in ap (λ k. f k none) all ∙ ap (λ xs. f (turns - 0) xs) (sym same)

pub one_more : {X : Type 0} {x : X} (f : ℕ → X) (n at : ℕ) → at < n → x ≡ f (n - at) → x ≡ f (suc (n - (at + 1)))
one_more f n at below e = let turn : n - at ≡ suc (n - (at + 1)) = omega arith in e ∙ ap f turn

pub no_more : {X : Type 0} {x : X} (f : ℕ → X) (n at : ℕ) → n ≤ at → x ≡ f (n - at) → x ≡ f 0
no_more f n at done e = let none : n - at ≡ 0 = omega arith in e ∙ ap f none

pub deeper : (depth : ℕ) → 0 < depth → level (neg_at (depth - 1)) ≡ neg_at depth
unfolding neg_at
deeper zero some = absurd (omega arith)
deeper (suc depth) some = let e : suc depth - 1 ≡ depth = omega arith in ap (λ d. level (neg_at d)) e
