-- What stands at an offset, by the bytes that were read there.
use Rattle.std.proofs.Common.{◌≡◌, ℕ, zero, suc, ◌+◌, ◌^◌, ◌<◌, List, [], ◌∷◌, ◌++◌, length, get_or, take, refl, sym, ◌∙◌, ap, arith}
use Rattle.std.proofs.lemmas.List.{get_or_past}
use Rattle.std.specs.Int.{w32, to_be_bytes, from_be_bytes}
use Rattle.drda_words.specs.Place.{part}
use Rattle.drda_disk.proofs.Parts.{part-add, part-part}
use Rattle.unit_journal.specs.Kind.{code_of}
use Rattle.unit_journal.specs.Record.{Entry, behind, entry_of}
use Rattle.unit_journal.specs.Open.{IsAt}
use Rattle.unit_journal.specs.declared.record.Record.{Record}
use Rattle.unit_journal.proofs.Spelling.{byte_part}

-- a list of five
five : (h : List ℕ) → length h ≡ 5 → h ≡ get_or h 0 0 ∷ get_or h 1 0 ∷ get_or h 2 0 ∷ get_or h 3 0 ∷ get_or h 4 0 ∷ []
five (a ∷ b ∷ c ∷ d ∷ e ∷ []) is = refl
five [] is = absurd (omega (arith, is))
five (a ∷ []) is = absurd (omega (arith, is))
five (a ∷ b ∷ []) is = absurd (omega (arith, is))
five (a ∷ b ∷ c ∷ []) is = absurd (omega (arith, is))
five (a ∷ b ∷ c ∷ d ∷ []) is = absurd (omega (arith, is))
five (a ∷ b ∷ c ∷ d ∷ e ∷ f ∷ l) is = absurd (omega (arith, is))

-- the five behind the first of six
five_behind : (w : List ℕ) → length w ≡ 6 → part w 1 5 ≡ get_or w 1 0 ∷ get_or w 2 0 ∷ get_or w 3 0 ∷ get_or w 4 0 ∷ get_or w 5 0 ∷ []
five_behind (a ∷ b ∷ c ∷ d ∷ e ∷ f ∷ []) is = refl
five_behind [] is = absurd (omega (arith, is))
five_behind (a ∷ []) is = absurd (omega (arith, is))
five_behind (a ∷ b ∷ []) is = absurd (omega (arith, is))
five_behind (a ∷ b ∷ c ∷ []) is = absurd (omega (arith, is))
five_behind (a ∷ b ∷ c ∷ d ∷ []) is = absurd (omega (arith, is))
five_behind (a ∷ b ∷ c ∷ d ∷ e ∷ []) is = absurd (omega (arith, is))
five_behind (a ∷ b ∷ c ∷ d ∷ e ∷ f ∷ g ∷ l) is = absurd (omega (arith, is))

-- four bytes
pub four_small : (h : List ℕ) → length h ≡ 4 → get_or h 0 0 < 256 → get_or h 1 0 < 256 → get_or h 2 0 < 256 → get_or h 3 0 < 256 → (i : ℕ) → get_or h i 0 < 256
four_small h size a b c d zero = a
four_small h size a b c d (suc zero) = b
four_small h size a b c d (suc (suc zero)) = c
four_small h size a b c d (suc (suc (suc zero))) = d
four_small h size a b c d (suc (suc (suc (suc i)))) = let none : get_or h (suc (suc (suc (suc i)))) 0 ≡ 0 = get_or_past h (suc (suc (suc (suc i)))) 0 (omega (arith, size)) in omega (arith, none)

first_of : (l : List ℕ) → get_or (take 1 l) 0 0 ≡ get_or l 0 0
first_of [] = refl
first_of (x ∷ xs) = refl

-- a gate and the five bytes behind it, read as one
module _ (image whole : List ℕ) (at : ℕ) (size : length whole ≡ 6) (is : whole ≡ part image at 6) where
  abbrev pub head_in : List ℕ
  head_in = get_or whole 1 0 ∷ get_or whole 2 0 ∷ get_or whole 3 0 ∷ get_or whole 4 0 ∷ get_or whole 5 0 ∷ []

  pub head_at : head_in ≡ part image (at + 1) 5
  head_at = sym (five_behind whole size) ∙ ap (λ (l : List ℕ). part l 1 5) is ∙ part-part image at 6 1 5 (omega arith)

  pub gate_at : at < length image → get_or image at 0 ≡ get_or whole 0 0
  gate_at low =
      let same : at ≡ at + 0 = omega arith in
      let bytes : get_or image at 0 ∷ [] ≡ take 1 whole =
      sym (byte_part image at low) ∙ ap (λ n. part image n 1) same ∙ sym (part-part image at 6 0 1 (omega arith)) ∙ ap (λ (l : List ℕ). take 1 l) (sym is) in
      ap (λ (l : List ℕ). get_or l 0 0) bytes ∙ first_of whole

module _ (image head : List ℕ) (at : ℕ) (size : length head ≡ 5) (is : head ≡ part image (at + 1) 5) where
  pub kind_is : at + 1 < length image → get_or image (at + 1) 0 ≡ get_or head 0 0
  kind_is low =
      let same : at + 1 ≡ at + 1 + 0 = omega arith in
      let bytes : get_or image (at + 1) 0 ∷ [] ≡ take 1 head =
      sym (byte_part image (at + 1) low) ∙ ap (λ n. part image n 1) same ∙ sym (part-part image (at + 1) 5 0 1 (omega arith)) ∙ ap (λ (l : List ℕ). take 1 l) (sym is) in
      ap (λ (l : List ℕ). get_or l 0 0) bytes ∙ first_of head

  pub lengths : part image (at + 2) 4 ≡ get_or head 1 0 ∷ get_or head 2 0 ∷ get_or head 3 0 ∷ get_or head 4 0 ∷ []
  lengths =
      let same : at + 2 ≡ at + 1 + 1 = omega arith in
      ap (λ n. part image n 4) same ∙ sym (part-part image (at + 1) 5 1 4 (omega arith)) ∙ ap (λ (l : List ℕ). part l 1 4) (sym is ∙ five head size)

  pub len_is : (len : ℕ) → len ≡ from_be_bytes w32 (get_or head 1 0 ∷ get_or head 2 0 ∷ get_or head 3 0 ∷ get_or head 4 0 ∷ []) → from_be_bytes w32 (part image (at + 2) 4) ≡ len
  len_is len from = ap (λ (l : List ℕ). from_be_bytes w32 l) lengths ∙ sym from

  -- an open gate, a known kind, a length and a body
  module _ (low : at < length image) (opened : get_or image at 0 ≡ 165) (e : Entry) (kind : get_or head 0 0 ≡ code_of e.kind)
      (lengths_of : to_be_bytes w32 (length e.body) ≡ get_or head 1 0 ∷ get_or head 2 0 ∷ get_or head 3 0 ∷ get_or head 4 0 ∷ []) (body : e.body ≡ part image (at + 6) (length e.body)) where
    head_is : part image (at + 1) 5 ≡ code_of e.kind ∷ to_be_bytes w32 (length e.body)
    head_is = sym is ∙ five head size ∙ ap (λ (b : ℕ). b ∷ (get_or head 1 0 ∷ get_or head 2 0 ∷ get_or head 3 0 ∷ get_or head 4 0 ∷ [])) kind ∙ ap (λ (l : List ℕ). code_of e.kind ∷ l) (sym lengths_of)

    pub record_spelled : part image at (6 + length e.body) ≡ 165 ∷ behind e
    record_spelled =
        let n = length e.body in
        let all : 6 + n ≡ 1 + (5 + n) = omega arith in
        let place : at + 1 + 5 ≡ at + 6 = omega arith in
        ap (λ k. part image at k) all ∙ part-add image at 1 (5 + n)
        ∙ ap (λ (l : List ℕ). l ++ part image (at + 1) (5 + n)) (byte_part image at low ∙ ap (λ (b : ℕ). b ∷ []) opened)
        ∙ ap (λ (l : List ℕ). 165 ∷ l) (part-add image (at + 1) 5 n ∙ ap (λ (l : List ℕ). l ++ part image (at + 1 + 5) n) head_is)
        ∙ ap (λ k. 165 ∷ (code_of e.kind ∷ (to_be_bytes w32 n ++ part image k n))) place
        ∙ ap (λ (l : List ℕ). 165 ∷ (code_of e.kind ∷ (to_be_bytes w32 n ++ l))) (sym body)

  pub is_record : at < length image → get_or image at 0 ≡ 165 → (r : Record) → get_or head 0 0 ≡ code_of r.kind → to_be_bytes w32 (length r.body.items) ≡ get_or head 1 0 ∷ get_or head 2 0 ∷ get_or head 3 0 ∷ get_or head 4 0 ∷ []
      → r.body.items ≡ part image (at + 6) (length r.body.items) → length r.body.items < 2 ^ 32 → r.at ≡ at → IsAt image at r
  is_record low opened r kind lengths_of body short place = record { spelled = record_spelled low opened (entry_of r) kind lengths_of body; short = short; place = place }
