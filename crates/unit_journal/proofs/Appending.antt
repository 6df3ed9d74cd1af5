-- What a crash leaves in each of the two steps of an append.
use Rattle.std.proofs.Common.{◌≡◌, ◌⊎◌, inl, inr, ℕ, ◌+◌, ◌≤◌, List, [], ◌∷◌, ◌++◌, length, get_or, refl, sym, ◌∙◌, ap, subst, arith, append_assoc, length-append}
use Rattle.std.specs.Prelude.{Bool}
use Rattle.std.proofs.lemmas.Bool.{cases_eq}
use Rattle.drda_words.specs.Place.{part}
use Rattle.drda_disk.specs.Disk.{Life, LeavesOnly, Torn, overlaid}
use Rattle.drda_disk.specs.Images.{Torn-overlaid}
use Rattle.drda_disk.specs.Region.{end_of, SameOutside}
use Rattle.drda_disk.proofs.Moments.{weaker, and_then}
use Rattle.drda_disk.proofs.Parts.{part_before, part_after, part-add, part-overlaid, Torn-wider, Torn-trans}
use Rattle.unit_journal.specs.Record.{Entry, behind, laid, AreShort}
use Rattle.unit_journal.specs.Stands.{StandsFrom, Stands, IsBeforeOrAfterAll}
use Rattle.unit_journal.specs.Journal.{IsSettled, region_of, next_of}
use Rattle.unit_journal.specs.declared.journal.Journal.{Journal}
use Rattle.unit_journal.proofs.Spelling.{byte_part, stands_from, those}

-- the bytes that an append writes behind the gate
pub length-bytes : (gs : List Entry) (bytes : List ℕ) → 165 ∷ bytes ≡ laid gs ++ 0 ∷ [] → length bytes ≡ length (laid gs)
length-bytes gs bytes is = omega (arith, ap length is, length-append (laid gs) (0 ∷ []))

laid-append : (es gs : List Entry) → laid (es ++ gs) ≡ laid es ++ laid gs
laid-append [] gs = refl
laid-append (d ∷ es) gs = ap (λ (l : List ℕ). 165 ∷ (behind d ++ l)) (laid-append es gs) ∙ ap (λ (l : List ℕ). 165 ∷ l) (sym (append_assoc (behind d) (laid es) (laid gs)))

pub length-laid-append : (es gs : List Entry) → length (laid (es ++ gs)) ≡ length (laid es) + length (laid gs)
length-laid-append es gs = omega (arith, ap length (laid-append es gs), length-append (laid es) (laid gs))

short-append : (es gs : List Entry) → AreShort es → AreShort gs → AreShort (es ++ gs)
short-append [] gs all more = more
short-append (d ∷ es) gs all more = (all.0, short-append es gs all.1 more)

module _ (start limit : ℕ) (es gs : List Entry) (file : List ℕ) (stands : StandsFrom start limit es file) (at : ℕ) (at_end : at ≡ start + length (laid es)) (bytes : List ℕ) (is : 165 ∷ bytes ≡ laid gs ++ 0 ∷ []) (fits : at + 1 + length bytes ≤ limit) (short : AreShort gs) where
  -- the first write leaves the records
  pub staged : (c : List ℕ) → Torn (at + 1) (length bytes) file c → StandsFrom start limit es c
  staged c torn = record {
    gate = stands.gate;
    shut = stands.shut;
    spelled = part_before file c (at + 1) start (length (laid es) + 1) torn.before (omega arith) ∙ stands.spelled;
    within = stands.within;
    inside = omega (arith, stands.inside, torn.size);
    short = stands.short;
  }

  module _ (mid : List ℕ) (first : Torn (at + 1) (length bytes) file mid) (written : part mid (at + 1) (length bytes) ≡ bytes) (c : List ℕ) (torn : Torn at 1 mid c) where
    kept : part c start (length (laid es)) ≡ laid es
    kept = part_before mid c at start (length (laid es)) torn.before (omega arith) ∙ part_before file mid (at + 1) start (length (laid es)) first.before (omega arith) ∙ those start limit es file stands

    inside : limit ≤ length c
    inside = omega (arith, torn.size, first.size, stands.inside)

    pub with_it : get_or c at 0 ≡ 165 → StandsFrom start limit (es ++ gs) c
    with_it opened = record {
      gate = 0;
      shut = λ no. cc;
      spelled = ap (λ n. part c start n) size ∙ part-add c start (length (laid es)) (1 + length bytes) ∙ ap (λ (l : List ℕ). l ++ part c (start + length (laid es)) (1 + length bytes)) kept
          ∙ ap (λ (l : List ℕ). laid es ++ l) (ap (λ n. part c n (1 + length bytes)) (sym at_end) ∙ record_part)
          ∙ sym (append_assoc (laid es) (laid gs) (0 ∷ [])) ∙ ap (λ (l : List ℕ). l ++ 0 ∷ []) (sym (laid-append es gs));
      within = omega (arith, size, fits, at_end);
      inside = inside;
      short = short-append es gs stands.short short;
    }
      where
        size : length (laid (es ++ gs)) + 1 ≡ length (laid es) + (1 + length bytes)
        size = omega (arith, length-laid-append es gs, length-bytes gs bytes is)

        record_part : part c at (1 + length bytes) ≡ laid gs ++ 0 ∷ []
        record_part = part-add c at 1 (length bytes) ∙ ap (λ (l : List ℕ). l ++ part c (at + 1) (length bytes)) (byte_part c at (omega (arith, inside, fits)) ∙ ap (λ (b : ℕ). b ∷ []) opened)
            ∙ ap (λ (l : List ℕ). 165 ∷ l) (part_after mid c (at + 1) (at + 1) (length bytes) torn.after (omega arith) ∙ written) ∙ is

    -- whatever a torn gate is, it is open or closed
    pub either : StandsFrom start limit es c ⊎ StandsFrom start limit (es ++ gs) c
    either = elim (cases_eq (get_or c at 0) 165) [
      | inl opened ↦ inr (with_it opened)
      | inr closed ↦ inl (stands_from start limit es c kept at at_end closed (omega (arith, stands.within, at_end)) inside stands.short)
    ]

module _ (modelled : Bool) (old : Life) (journal : Journal) (es gs : List Entry) (s : IsSettled modelled old journal es) (bytes : List ℕ) (is : 165 ∷ bytes ≡ laid gs ++ 0 ∷ [])
    (fits : next_of journal + 1 + length bytes ≤ end_of (region_of journal)) (short : AreShort gs) where
  wide : (at n : ℕ) → next_of journal ≤ at → at + n ≤ next_of journal + 1 + length bytes → (a b : List ℕ) → Torn at n a b → SameOutside (region_of journal) a b
  wide at n low high a b torn = Torn-wider at n (region_of journal).at (region_of journal).length a b (omega (arith, s.next)) (omega (arith, fits)) torn

  pub first : (mid : Life) → LeavesOnly old mid (Torn (next_of journal + 1) (length bytes) old.seen) → LeavesOnly old mid (IsBeforeOrAfterAll (region_of journal) old.seen es gs)
  first mid run = weaker old mid _ _ run (λ c torn. record {
    others = wide (next_of journal + 1) (length bytes) (omega arith) (omega arith) old.seen c torn;
    stands = inl (staged (region_of journal).at (end_of (region_of journal)) es gs old.seen s.stands (next_of journal) s.next bytes is fits short c torn);
  })

  module _ (mid : Life) (written : mid.seen ≡ overlaid old.seen (next_of journal + 1) bytes) where
    within : next_of journal + 1 + length bytes ≤ length old.seen
    within = omega (arith, fits, s.stands.inside)

    torn_mid : Torn (next_of journal + 1) (length bytes) old.seen mid.seen
    torn_mid = subst (λ (l : List ℕ). Torn (next_of journal + 1) (length bytes) old.seen l) (sym written) (Torn-overlaid old.seen (next_of journal + 1) bytes within)

    part_mid : part mid.seen (next_of journal + 1) (length bytes) ≡ bytes
    part_mid = ap (λ (l : List ℕ). part l (next_of journal + 1) (length bytes)) written ∙ part-overlaid old.seen (next_of journal + 1) bytes within

    pub second : (new : Life) → LeavesOnly old mid (Torn (next_of journal + 1) (length bytes) old.seen) → LeavesOnly mid new (Torn (next_of journal) 1 mid.seen) → LeavesOnly old new (IsBeforeOrAfterAll (region_of journal) old.seen es gs)
    second new run gate_run = and_then old mid new _ _ _ (first mid run) gate_run (λ c was. was) (λ c torn. record {
      others = Torn-trans (region_of journal).at (region_of journal).length old.seen mid.seen c
          (wide (next_of journal + 1) (length bytes) (omega arith) (omega arith) old.seen mid.seen torn_mid)
          (wide (next_of journal) 1 (omega arith) (omega arith) mid.seen c torn);
      stands = either (region_of journal).at (end_of (region_of journal)) es gs old.seen s.stands (next_of journal) s.next bytes is fits short mid.seen torn_mid part_mid c torn;
    })

    pub settled : (new : Life) → new.seen ≡ overlaid mid.seen (next_of journal) (165 ∷ []) → Stands (region_of journal) (es ++ gs) new.seen
    settled new is_open =
        let low : next_of journal + 1 ≤ length mid.seen = omega (arith, within, torn_mid.size) in
        let torn : Torn (next_of journal) 1 mid.seen new.seen = subst (λ (l : List ℕ). Torn (next_of journal) 1 mid.seen l) (sym is_open) (Torn-overlaid mid.seen (next_of journal) (165 ∷ []) low) in
        let byte : part new.seen (next_of journal) 1 ≡ 165 ∷ [] = ap (λ (l : List ℕ). part l (next_of journal) 1) is_open ∙ part-overlaid mid.seen (next_of journal) (165 ∷ []) low in
        let there : get_or new.seen (next_of journal) 0 ≡ 165 = ap (λ (l : List ℕ). get_or l 0 0) (sym (byte_part new.seen (next_of journal) (omega (arith, low, torn.size))) ∙ byte) in
        with_it (region_of journal).at (end_of (region_of journal)) es gs old.seen s.stands (next_of journal) s.next bytes is fits short mid.seen torn_mid part_mid new.seen torn there
