-- A region reads in one way at most.
use Rattle.std.proofs.Common.{◌≡◌, ◌≢◌, ◌⊎◌, inl, inr, ℕ, ◌+◌, ◌<◌, List, [], ◌∷◌, ◌++◌, length, get_or, take, drop, refl, sym, ◌∙◌, ap, subst, arith, length-append}
use Rattle.std.proofs.lemmas.List.{take_at, take_all, drop_at, take-take}
use Rattle.std.proofs.lemmas.Nat.{from_be_bytes-to_be_bytes_4}
use Rattle.std.specs.Int.{w32, to_be_bytes, from_be_bytes}
use Rattle.drda_words.specs.Place.{part}
use Rattle.drda_disk.specs.declared.region.Region.{Region}
use Rattle.drda_disk.proofs.Parts.{part-part}
use Rattle.unit_journal.specs.Kind.{code_of}
use Rattle.unit_journal.specs.Record.{Entry, laid, AreShort}
use Rattle.unit_journal.specs.Stands.{StandsFrom, Stands, DamagedFrom, IsDamagedAt, IsNoRecord}
use Rattle.unit_journal.specs.declared.kind.Kind.{Kind}
use Rattle.unit_journal.specs.declared.kind.Kind.TheVariants.{Commit, Prepare, Decide, Heuristic, Forget}
use Rattle.unit_journal.proofs.Spelling.{length-laid-cons, byte_part, those}

-- records that are spelled from an offset on
record Spelled (at : ℕ) (es : List Entry) (image : List ℕ) : Type 0 where
  spelled : part image at (length (laid es)) ≡ laid es
  inside : at + length (laid es) < length image
  short : AreShort es

module _ (at : ℕ) (e : Entry) (es : List Entry) (image : List ℕ) (s : Spelled at (e ∷ es) image) where
  size : length (laid (e ∷ es)) ≡ 6 + length e.body + length (laid es)
  size = length-laid-cons e es

  opened : get_or image at 0 ≡ 165
  opened =
      let one : part image at 1 ≡ 165 ∷ [] = sym (take-take 1 (length (laid (e ∷ es))) (drop at image) (omega (arith, size))) ∙ ap (λ (l : List ℕ). take 1 l) s.spelled in
      ap (λ (l : List ℕ). get_or l 0 0) (sym (byte_part image at (omega (arith, s.inside))) ∙ one)

  head : part image (at + 1) 5 ≡ code_of e.kind ∷ to_be_bytes w32 (length e.body)
  head = sym (part-part image at (length (laid (e ∷ es))) 1 5 (omega (arith, size))) ∙ ap (λ (l : List ℕ). part l 1 5) s.spelled

  tail : part image (at + 6) (length e.body + length (laid es)) ≡ e.body ++ laid es
  tail = sym (part-part image at (length (laid (e ∷ es))) 6 (length e.body + length (laid es)) (omega (arith, size))) ∙ ap (λ (l : List ℕ). part l 6 (length e.body + length (laid es))) s.spelled
      ∙ take_all (length e.body + length (laid es)) (e.body ++ laid es) (omega (arith, length-append e.body (laid es)))

  body : part image (at + 6) (length e.body) ≡ e.body
  body = sym (take-take (length e.body) (length e.body + length (laid es)) (drop (at + 6) image) (omega arith)) ∙ ap (λ (l : List ℕ). take (length e.body) l) tail ∙ take_at e.body (laid es) (length e.body) refl

  rest : Spelled (at + 6 + length e.body) es image
  rest = record {
    spelled = sym (part-part image (at + 6) (length e.body + length (laid es)) (length e.body) (length (laid es)) (omega arith)) ∙ ap (λ (l : List ℕ). part l (length e.body) (length (laid es))) tail
        ∙ ap (λ (l : List ℕ). take (length (laid es)) l) (drop_at e.body (laid es) (length e.body) refl) ∙ take_all _ _ (omega arith);
    inside = omega (arith, s.inside, size);
    short = s.short.1;
  }

  kind_byte : get_or image (at + 1) 0 ≡ code_of e.kind
  kind_byte =
      let one : part image (at + 1) 1 ≡ code_of e.kind ∷ [] = sym (take-take 1 5 (drop (at + 1) image) (omega arith)) ∙ ap (λ (l : List ℕ). take 1 l) head in
      ap (λ (l : List ℕ). get_or l 0 0) (sym (byte_part image (at + 1) (omega (arith, s.inside, size))) ∙ one)

  len_bytes : from_be_bytes w32 (part image (at + 2) 4) ≡ length e.body
  len_bytes =
      let place : at + 2 ≡ at + 1 + 1 = omega arith in
      ap (λ (l : List ℕ). from_be_bytes w32 l) (ap (λ n. part image n 4) place ∙ sym (part-part image (at + 1) 5 1 4 (omega arith)) ∙ ap (λ (l : List ℕ). part l 1 4) head) ∙ from_be_bytes-to_be_bytes_4 (length e.body) s.short.0

same_kind : (a b : Kind) → code_of a ≡ code_of b → a ≡ b
same_kind Commit Commit is = refl
same_kind Commit Prepare is = absurd (omega (arith, is))
same_kind Commit Decide is = absurd (omega (arith, is))
same_kind Commit Heuristic is = absurd (omega (arith, is))
same_kind Commit Forget is = absurd (omega (arith, is))
same_kind Prepare Commit is = absurd (omega (arith, is))
same_kind Prepare Prepare is = refl
same_kind Prepare Decide is = absurd (omega (arith, is))
same_kind Prepare Heuristic is = absurd (omega (arith, is))
same_kind Prepare Forget is = absurd (omega (arith, is))
same_kind Decide Commit is = absurd (omega (arith, is))
same_kind Decide Prepare is = absurd (omega (arith, is))
same_kind Decide Decide is = refl
same_kind Decide Heuristic is = absurd (omega (arith, is))
same_kind Decide Forget is = absurd (omega (arith, is))
same_kind Heuristic Commit is = absurd (omega (arith, is))
same_kind Heuristic Prepare is = absurd (omega (arith, is))
same_kind Heuristic Decide is = absurd (omega (arith, is))
same_kind Heuristic Heuristic is = refl
same_kind Heuristic Forget is = absurd (omega (arith, is))
same_kind Forget Commit is = absurd (omega (arith, is))
same_kind Forget Prepare is = absurd (omega (arith, is))
same_kind Forget Decide is = absurd (omega (arith, is))
same_kind Forget Heuristic is = absurd (omega (arith, is))
same_kind Forget Forget is = refl

-- the first of two readings
same_first : (at : ℕ) (e f : Entry) (es fs : List Entry) (image : List ℕ) → Spelled at (e ∷ es) image → Spelled at (f ∷ fs) image → e ≡ f
same_first at e f es fs image s t =
    let size : length e.body ≡ length f.body = sym (len_bytes at e es image s) ∙ len_bytes at f fs image t in
    let kind : e.kind ≡ f.kind = same_kind e.kind f.kind (sym (kind_byte at e es image s) ∙ kind_byte at f fs image t) in
    let bytes : e.body ≡ f.body = sym (body at e es image s) ∙ ap (λ n. part image (at + 6) n) size ∙ body at f fs image t in
    λ i. record { kind = kind i; body = bytes i }

-- what ends a reading: a closed gate, or an open one with no record
Ends : ℕ → ℕ → List ℕ → Type 0
Ends next limit image = (get_or image next 0 ≢ 165) ⊎ IsNoRecord image next limit

no_end : (at limit : ℕ) (e : Entry) (es : List Entry) (image : List ℕ) → Spelled at (e ∷ es) image → at + length (laid (e ∷ es)) < limit → Ends at limit image → ⊥
unfolding Ends
no_end at limit e es image s low (inl shut) = shut (opened at e es image s)
no_end at limit e es image s low (inr (inl past)) = omega (arith, past, low, length-laid-cons e es)
no_end at limit e es image s low (inr (inr (inl past))) = omega (arith, past, low, length-laid-cons e es, len_bytes at e es image s)
no_end at limit e es image s low (inr (inr (inr unknown))) = unknown e.kind (kind_byte at e es image s)

-- two readings that end are one
same_reading : (at limit : ℕ) (es fs : List Entry) (image : List ℕ) → Spelled at es image → Spelled at fs image → at + length (laid es) < limit → at + length (laid fs) < limit
    → Ends (at + length (laid es)) limit image → Ends (at + length (laid fs)) limit image → es ≡ fs
same_reading at limit [] [] image s t low high ends others = refl
same_reading at limit [] (f ∷ fs) image s t low high ends others =
    absurd (no_end at limit f fs image t high (let P : ℕ → Type 0 = λ n. Ends n limit image in let e : at + 0 ≡ at = omega arith in subst P e ends))
same_reading at limit (e ∷ es) [] image s t low high ends others =
    absurd (no_end at limit e es image s low (let P : ℕ → Type 0 = λ n. Ends n limit image in let e : at + 0 ≡ at = omega arith in subst P e others))
same_reading at limit (e ∷ es) (f ∷ fs) image s t low high ends others =
    let P : ℕ → Type 0 = λ n. Ends n limit image in
    let first : e ≡ f = same_first at e f es fs image s t in
    let t' : Spelled at (e ∷ fs) image = subst (λ (x : Entry). Spelled at (x ∷ fs) image) (sym first) t in
    let high' : at + length (laid (e ∷ fs)) < limit = subst (λ (x : Entry). at + length (laid (x ∷ fs)) < limit) (sym first) high in
    let others' : Ends (at + length (laid (e ∷ fs))) limit image = subst (λ (x : Entry). Ends (at + length (laid (x ∷ fs))) limit image) (sym first) others in
    let one : at + length (laid (e ∷ es)) ≡ at + 6 + length e.body + length (laid es) = omega (arith, length-laid-cons e es) in
    let two : at + length (laid (e ∷ fs)) ≡ at + 6 + length e.body + length (laid fs) = omega (arith, length-laid-cons e fs) in
    ap (λ (x : Entry). x ∷ es) first
    ∙ ap (λ (l : List Entry). f ∷ l) (same_reading (at + 6 + length e.body) limit es fs image (rest at e es image s) (rest at e fs image t') (omega (arith, low, one)) (omega (arith, high', two)) (subst P one ends) (subst P two others'))

spelled_by : (at limit : ℕ) (es : List Entry) (image : List ℕ) → StandsFrom at limit es image → Spelled at es image
spelled_by at limit es image s = record { spelled = those at limit es image s; inside = omega (arith, s.within, s.inside); short = s.short }

shut_by : (at limit : ℕ) (es : List Entry) (image : List ℕ) → StandsFrom at limit es image → get_or image (at + length (laid es)) 0 ≢ 165
shut_by at limit es image s opened = s.shut (sym at_gate ∙ opened)
  where
    at_gate : get_or image (at + length (laid es)) 0 ≡ s.gate
    at_gate =
        let one : part image (at + length (laid es)) 1 ≡ s.gate ∷ [] =
        sym (part-part image at (length (laid es) + 1) (length (laid es)) 1 (omega arith)) ∙ ap (λ (l : List ℕ). part l (length (laid es)) 1) s.spelled ∙ ap (λ (l : List ℕ). take 1 l) (drop_at (laid es) (s.gate ∷ []) (length (laid es)) refl) in
        ap (λ (l : List ℕ). get_or l 0 0) (sym (byte_part image (at + length (laid es)) (omega (arith, s.within, s.inside))) ∙ one)

ends_by : (at limit : ℕ) (es : List Entry) (image : List ℕ) → StandsFrom at limit es image → Ends (at + length (laid es)) limit image
unfolding Ends
ends_by at limit es image s = inl (shut_by at limit es image s)

spelled_damaged : (at limit gate : ℕ) (image : List ℕ) (d : DamagedFrom at limit gate image) → Spelled at d.es image
spelled_damaged at limit gate image d = record { spelled = d.spelled; inside = omega (arith, d.place, d.within, d.inside); short = d.short }

ends_damaged : (at limit gate : ℕ) (image : List ℕ) (d : DamagedFrom at limit gate image) → Ends (at + length (laid d.es)) limit image
unfolding Ends
ends_damaged at limit gate image d = let P : ℕ → Type 0 = λ n. Ends n limit image in subst P d.place (inr d.no_record)

pub one_list : (region : Region) (image : List ℕ) (es fs : List Entry) → Stands region es image → Stands region fs image → es ≡ fs
one_list region image es fs s t =
    let at = region.at in
    let limit = region.at + region.length in
    same_reading at limit es fs image (spelled_by at limit es image s) (spelled_by at limit fs image t) s.within t.within (ends_by at limit es image s) (ends_by at limit fs image t)

pub not_both : (region : Region) (image : List ℕ) (es : List Entry) (gate : ℕ) → Stands region es image → IsDamagedAt region gate image → ⊥
not_both region image es gate s d =
    let at = region.at in
    let limit = region.at + region.length in
    let same : es ≡ d.es = same_reading at limit es d.es image (spelled_by at limit es image s) (spelled_damaged at limit gate image d) s.within (omega (arith, d.place, d.within)) (ends_by at limit es image s) (ends_damaged at limit gate image d) in
    shut_by at limit es image s (ap (λ (l : List Entry). get_or image (at + length (laid l)) 0) same ∙ ap (λ n. get_or image n 0) (sym d.place) ∙ d.is_open)

pub one_damage : (region : Region) (image : List ℕ) (gate other : ℕ) → IsDamagedAt region gate image → IsDamagedAt region other image → gate ≡ other
one_damage region image gate other d t =
    let at = region.at in
    let limit = region.at + region.length in
    let same : d.es ≡ t.es = same_reading at limit d.es t.es image (spelled_damaged at limit gate image d) (spelled_damaged at limit other image t) (omega (arith, d.place, d.within)) (omega (arith, t.place, t.within)) (ends_damaged at limit gate image d) (ends_damaged at limit other image t) in
    d.place ∙ ap (λ (l : List Entry). at + length (laid l)) same ∙ sym t.place
