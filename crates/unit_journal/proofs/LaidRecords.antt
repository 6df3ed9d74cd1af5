-- The bytes of a laid record, and the body in them.
use Rattle.std.proofs.Common.{◌≡◌, ℕ, ◌+◌, ◌-◌, ◌^◌, ◌<◌, List, [], ◌∷◌, ◌++◌, length, take, drop, refl, sym, ◌∙◌, ap, arith, length-append}
use Rattle.std.proofs.lemmas.List.{take_at}
use Rattle.unit_journal.specs.Record.{Entry, behind, body_in}
use Rattle.unit_journal.specs.declared.kind.Kind.{Kind}
use Rattle.unit_journal.proofs.Spelling.{length-behind}

-- the bytes of a laid record
pub length-bytes : (e : Entry) (bytes : List ℕ) → bytes ≡ behind e ++ 0 ∷ [] → length bytes ≡ 6 + length e.body
length-bytes e bytes is = omega (arith, ap length is, length-append (behind e) (0 ∷ []), length-behind e)

-- a list that ends by its new front, with a closed gate behind it
pub closed : (kind : Kind) (old now front rest bytes : List ℕ) (n : ℕ) → now ≡ old → front ≡ behind (record { kind = kind; body = drop 5 now }) → length front ≡ n → bytes ≡ take n (front ++ rest) ++ 0 ∷ []
    → bytes ≡ behind (record { kind = kind; body = drop 5 old }) ++ 0 ∷ []
closed kind old now front rest bytes n same is len are =
    are ∙ ap (λ (l : List ℕ). l ++ 0 ∷ []) (take_at front rest n len ∙ is ∙ ap (λ (l : List ℕ). behind (record { kind = kind; body = drop 5 l })) same)

module _ (e : Entry) (bytes : List ℕ) (is : bytes ≡ behind e ++ 0 ∷ []) where
  size : length (behind e ++ 0 ∷ []) - 6 ≡ length e.body
  size = omega (arith, length-bytes e _ refl)

  body_is : body_in bytes ≡ e.body
  body_is = ap body_in is ∙ ap (λ n. take n (e.body ++ 0 ∷ [])) size ∙ take_at e.body (0 ∷ []) (length e.body) refl

  abbrev found : Entry
  found = record { kind = e.kind; body = body_in bytes }

  -- the entry in such bytes is the one that they spell
  pub found_is : found ≡ e
  found_is = ap (λ (l : List ℕ). record { kind = e.kind; body = l }) body_is

  pub spelled_is : bytes ≡ behind found ++ 0 ∷ []
  spelled_is = is ∙ ap (λ (f : Entry). behind f ++ 0 ∷ []) (sym found_is)

  pub short_is : length e.body < 2 ^ 32 → length (body_in bytes) < 2 ^ 32
  short_is short = omega (arith, ap length body_is, short)
