-- A region of bytes reads in some way.
use Rattle.std.proofs.Common.{◌≡◌, ◌≢◌, ◌⊎◌, inl, inr, ℕ, zero, suc, ◌+◌, ◌^◌, ◌<◌, ◌≤◌, List, [], ◌∷◌, ◌++◌, length, get_or, drop, refl, sym, ◌∙◌, ap, arith, append_assoc, length-take}
use Rattle.std.proofs.lemmas.Bool.{cases_eq}
use Rattle.std.proofs.lemmas.Bool.Decides.{leb_tells}
use Rattle.std.proofs.lemmas.List.{get_or-take, get_or-drop, get_or_past}
use Rattle.std.proofs.lemmas.Nat.{be_bytes_4}
use Rattle.std.specs.Int.{w32, to_be_bytes, from_be_bytes}
use Rattle.drda_words.specs.Bytes.{AreBytes}
use Rattle.drda_words.specs.Place.{part}
use Rattle.drda_disk.proofs.Parts.{part-add, length-part}
use Rattle.unit_journal.specs.Kind.{code_of}
use Rattle.unit_journal.specs.Record.{Entry, behind, laid}
use Rattle.unit_journal.specs.Stands.{StandsFrom, DamagedFrom, IsNoRecord}
use Rattle.unit_journal.specs.declared.kind.Kind.{Kind}
use Rattle.unit_journal.specs.declared.kind.Kind.TheVariants.{Commit, Prepare, Decide, Heuristic, Forget}
use Rattle.unit_journal.proofs.Reading.{kind_is, lengths, record_spelled}
use Rattle.unit_journal.proofs.Spelling.{length-laid-cons, stands_from}

none_of : (byte : ℕ) → byte ≢ 1 → byte ≢ 2 → byte ≢ 3 → byte ≢ 4 → byte ≢ 5 → (kind : Kind) → byte ≢ code_of kind
none_of byte one two three four five Commit = one
none_of byte one two three four five Prepare = two
none_of byte one two three four five Decide = three
none_of byte one two three four five Heuristic = four
none_of byte one two three four five Forget = five

-- a kind's byte, or none
kind_of : (byte : ℕ) → ((kind : Kind) × (byte ≡ code_of kind)) ⊎ ((kind : Kind) → byte ≢ code_of kind)
kind_of byte = elim (cases_eq byte 1) [
  | inl one ↦ inl (Commit, one)
  | inr not_one ↦ elim (cases_eq byte 2) [
    | inl two ↦ inl (Prepare, two)
    | inr not_two ↦ elim (cases_eq byte 3) [
      | inl three ↦ inl (Decide, three)
      | inr not_three ↦ elim (cases_eq byte 4) [
        | inl four ↦ inl (Heuristic, four)
        | inr not_four ↦ elim (cases_eq byte 5) [
          | inl five ↦ inl (Forget, five)
          | inr not_five ↦ inr (none_of byte not_one not_two not_three not_four not_five)
        ]
      ]
    ]
  ]
]

some_bytes : (image : List ℕ) (at n : ℕ) → AreBytes image → (i : ℕ) → get_or (part image at n) i 0 < 256
some_bytes image at n bytes i = elim (leb_tells n i) [
  | inl past ↦ let none : get_or (part image at n) i 0 ≡ 0 = get_or_past (part image at n) i 0 (omega (arith, past.1, length-take n (drop at image))) in omega (arith, none)
  | inr low ↦ let same : get_or (part image at n) i 0 ≡ get_or image (at + i) 0 = get_or-take n (drop at image) i 0 (omega (arith, low.1)) ∙ get_or-drop at image i 0 in omega (arith, same, bytes (at + i))
]

small_number : (a b c d : ℕ) → a < 256 → b < 256 → c < 256 → d < 256 → from_be_bytes w32 (a ∷ b ∷ c ∷ d ∷ []) < 2 ^ 32
small_number a b c d p q r s = omega (arith, p, q, r, s)

module _ (limit : ℕ) (image : List ℕ) (bytes : AreBytes image) (inside : limit ≤ length image) where
  Reading : ℕ → Type 0
  Reading at = ((es : List Entry) × StandsFrom at limit es image) ⊎ ((gate : ℕ) × DamagedFrom at limit gate image)

  record RecordAt (at : ℕ) : Type 0 where
    e : Entry
    here : part image at (6 + length e.body) ≡ 165 ∷ behind e
    short : length e.body < 2 ^ 32
    fits : at + (6 + length e.body) < limit

  shut_here : (at : ℕ) → at < limit → get_or image at 0 ≢ 165 → Reading at
  unfolding Reading
  shut_here at low shut = inl ([], stands_from at limit [] image refl at (omega arith) shut low inside tt)

  damaged_here : (at : ℕ) → at < limit → get_or image at 0 ≡ 165 → IsNoRecord image at limit → Reading at
  unfolding Reading
  damaged_here at low opened none = inr (at, record { es = []; spelled = refl; short = tt; place = omega arith; within = low; inside = inside; is_open = opened; no_record = none })

  -- a record that is there
  record_here : (at n : ℕ) (kind : Kind) → get_or image at 0 ≡ 165 → n ≡ from_be_bytes w32 (part image (at + 2) 4) → at + 7 + n ≤ limit → get_or image (at + 1) 0 ≡ code_of kind → RecordAt at
  record_here at n kind opened number fits known =
      let head = part image (at + 1) 5 in
      let size : length head ≡ 5 = length-part image (at + 1) 5 (omega (arith, fits, inside)) in
      let body = part image (at + 6) n in
      let len : length body ≡ n = length-part image (at + 6) n (omega (arith, fits, inside)) in
      let four : length (part image (at + 2) 4) ≡ 4 = length-part image (at + 2) 4 (omega (arith, fits, inside)) in
      let four_is = lengths image head at size refl in
      let byte : (i : ℕ) → get_or head i 0 < 256 = some_bytes image (at + 1) 5 bytes in
      let small = some_bytes image (at + 2) 4 bytes in
      let low : n < 2 ^ 32 = omega (arith, number, ap (λ (l : List ℕ). from_be_bytes w32 l) four_is, small_number (get_or head 1 0) (get_or head 2 0) (get_or head 3 0) (get_or head 4 0) (byte 1) (byte 2) (byte 3) (byte 4)) in
      record {
        e = record { kind = kind; body = body };
        here = record_spelled image head at size refl (omega (arith, fits, inside)) opened (record { kind = kind; body = body }) (sym (kind_is image head at size refl (omega (arith, fits, inside))) ∙ known)
            (ap (λ k. to_be_bytes w32 k) len ∙ be_bytes_4 (part image (at + 2) 4) n four small number ∙ four_is) (ap (λ k. part image (at + 6) k) (sym len));
        short = omega (arith, len, low);
        fits = omega (arith, len, fits);
      }

  -- what stands at an offset
  step : (at : ℕ) → at < limit → RecordAt at ⊎ Reading at
  step at low = elim (cases_eq (get_or image at 0) 165) [
    | inr shut ↦ inr (shut_here at low shut)
    | inl opened ↦ elim (leb_tells (at + 7) limit) [
      | inr past ↦ inr (damaged_here at low opened (inl (omega (arith, past.1))))
      | inl room ↦ elim (leb_tells (at + 7 + from_be_bytes w32 (part image (at + 2) 4)) limit) [
        | inr past ↦ inr (damaged_here at low opened (inr (inl (omega (arith, past.1)))))
        | inl fits ↦ elim (kind_of (get_or image (at + 1) 0)) [
          | inl known ↦ inl (record_here at (from_be_bytes w32 (part image (at + 2) 4)) known.0 opened refl fits.1 known.1)
          | inr unknown ↦ inr (damaged_here at low opened (inr (inr unknown)))
        ]
      ]
    ]
  ]

  -- a record before what is read behind it
  more : (at : ℕ) (r : RecordAt at) → Reading (at + (6 + length r.e.body)) → Reading at
  unfolding Reading
  more at r (inl (es, s)) =
      let size : length (laid (r.e ∷ es)) + 1 ≡ 6 + length r.e.body + (length (laid es) + 1) = omega (arith, length-laid-cons r.e es) in
      inl (
        r.e ∷ es,
        record {
          gate = s.gate;
          shut = s.shut;
          spelled = ap (λ n. part image at n) size ∙ part-add image at (6 + length r.e.body) (length (laid es) + 1)
              ∙ ap (λ (l : List ℕ). l ++ part image (at + (6 + length r.e.body)) (length (laid es) + 1)) r.here ∙ ap (λ (l : List ℕ). (165 ∷ behind r.e) ++ l) s.spelled
              ∙ sym (append_assoc (165 ∷ behind r.e) (laid es) (s.gate ∷ []));
          within = omega (arith, s.within, length-laid-cons r.e es);
          inside = inside;
          short = (r.short, s.short);
        },
      )
  more at r (inr (gate, d)) =
      let size : length (laid (r.e ∷ d.es)) ≡ 6 + length r.e.body + length (laid d.es) = omega (arith, length-laid-cons r.e d.es) in
      inr (
        gate,
        record {
          es = r.e ∷ d.es;
          spelled = ap (λ n. part image at n) size ∙ part-add image at (6 + length r.e.body) (length (laid d.es))
              ∙ ap (λ (l : List ℕ). l ++ part image (at + (6 + length r.e.body)) (length (laid d.es))) r.here ∙ ap (λ (l : List ℕ). (165 ∷ behind r.e) ++ l) d.spelled;
          short = (r.short, d.short);
          place = omega (arith, d.place, size);
          within = d.within;
          inside = inside;
          is_open = d.is_open;
          no_record = d.no_record;
        },
      )

  after : (at : ℕ) → RecordAt at ⊎ Reading at → ((next : ℕ) → at < next → next < limit → Reading next) → Reading at
  after at (inl r) rest = more at r (rest (at + (6 + length r.e.body)) (omega arith) r.fits)
  after at (inr done) rest = done

  reading : (fuel at : ℕ) → limit ≤ at + fuel → at < limit → Reading at
  reading zero at enough low = absurd (omega (arith, enough, low))
  reading (suc fuel) at enough low = after at (step at low) (λ next above below. reading fuel next (omega (arith, enough, above)) below)

  pub some_reading : (at : ℕ) → at < limit → ((es : List Entry) × StandsFrom at limit es image) ⊎ ((gate : ℕ) × DamagedFrom at limit gate image)
  unfolding Reading
  some_reading at low = reading limit at (omega arith) low
