-- What a crash leaves of a group that is laid behind records, and of its gate.
use Rattle.std.proofs.Common.{◌≡◌, inl, inr, ⊎_elim, ℕ, ◌+◌, ◌≤◌, List, [], ◌∷◌, ◌++◌, length, get_or, drop, refl, sym, ◌∙◌, ap, subst, arith}
use Rattle.std.specs.Prelude.{◌⊎◌, Bool, true, false, Option, Some, None, is_some, OnOk, Result, Ok, Err}
use Rattle.std.proofs.lemmas.List.{append-nil}
use Rattle.std.proofs.lemmas.Bool.{false≢true}
use Rattle.drda_words.specs.Place.{part}
use Rattle.drda_disk.specs.Disk.{Life, LeavesOnly, Now, Only, Stays, Tears, Torn, overlaid}
use Rattle.drda_disk.specs.Images.{Torn-refl, Torn-overlaid}
use Rattle.drda_disk.specs.Region.{end_of, SameOutside}
use Rattle.drda_disk.specs.declared.region.Region.{Region}
use Rattle.drda_disk.proofs.Moments.{and_then, torn, stays_leaves, stays_and, weaker, Only-stays, Stays-refl}
use Rattle.drda_disk.proofs.Parts.{part_before, part_outside, part-overlaid, Torn-wider, Torn-trans}
use Rattle.unit_journal.specs.Record.{Entry, laid, AreShort}
use Rattle.unit_journal.specs.Stands.{StandsFrom, Stands, IsBeforeOrAfterAll}
use Rattle.unit_journal.specs.Adding.{Adds}
use Rattle.unit_journal.specs.Journal.{IsSettled}
use Rattle.unit_journal.specs.Staged.{AddsBehind, IsAtRest, IsPlaceBehind, IsUnderWay, ahead_of, behind_of, body_of, has_behind, is_settled, journal_of, next_of, records_ahead, region_of}
use Rattle.drda_disk.specs.declared.errors.WriteError.{WriteError}
use Rattle.drda_disk.specs.declared.errors.WriteError.TheVariants.{DeviceFailed, Full}
use Rattle.unit_journal.specs.declared.journal.Journal.{Journal}
use Rattle.unit_journal.specs.declared.staged.Staged.{Staged}
use Rattle.unit_journal.proofs.Spelling.{byte_part}
use Rattle.unit_journal.proofs.Appending.{length-bytes, length-laid-append, either, with_it}

Torn-sym : (at n : ℕ) (a b : List ℕ) → Torn at n a b → Torn at n b a
Torn-sym at n a b t = record { size = sym t.size; before = sym t.before; after = sym t.after }

-- records in front of what is torn
below : (start limit : ℕ) (xs : List Entry) (file c : List ℕ) (at n : ℕ) → StandsFrom start limit xs file → start + length (laid xs) + 1 ≤ at → Torn at n file c → StandsFrom start limit xs c
below start limit xs file c at n s low torn = record {
  gate = s.gate;
  shut = s.shut;
  spelled = part_before file c at start (length (laid xs) + 1) torn.before (omega (arith, low)) ∙ s.spelled;
  within = s.within;
  inside = omega (arith, s.inside, torn.size);
  short = s.short;
}

-- the same images, beside another of those that differ in the region alone
beside : (region : Region) (old new : List ℕ) (es gs : List Entry) (c : List ℕ) → SameOutside region old new → IsBeforeOrAfterAll region old es gs c → IsBeforeOrAfterAll region new es gs c
beside region old new es gs c same b = record { others = Torn-trans region.at region.length new old c (Torn-sym region.at region.length old new same) b.others; stands = b.stands }

-- no others behind them are these alone
alone : (region : Region) (old : List ℕ) (es : List Entry) (c : List ℕ) → IsBeforeOrAfterAll region old es [] c → Stands region es c
alone region old es c b = ⊎_elim (λ before. before) (λ after. subst (λ (l : List Entry). Stands region l c) (append-nil es) after) b.stands

-- and there may be others
pub or_more : (region : Region) (old : List ℕ) (es gs : List Entry) (c : List ℕ) → IsBeforeOrAfterAll region old es [] c → IsBeforeOrAfterAll region old es gs c
or_more region old es gs c b = record { others = b.others; stands = inl (alone region old es c b) }

-- what is read is an image of these records alone
settled_image : (region : Region) (file : List ℕ) (es : List Entry) → Stands region es file → IsBeforeOrAfterAll region file es [] file
settled_image region file es stands = record { others = Torn-refl region.at region.length file; stands = inl stands }

-- nothing lies behind the group that was laid
none_lies : (file : List ℕ) (at : ℕ) (s : Staged) → s.behind ≡ None → part file at (length (laid (behind_of s))) ≡ body_of (behind_of s)
none_lies file at s none =
    let nothing : behind_of s ≡ [] = ap (λ (g : Option (List Entry)). records_ahead g) none in
    ap (λ (l : List Entry). part file at (length (laid l))) nothing ∙ ap (λ (l : List Entry). body_of l) (sym nothing)

not_behind : (s : Staged) → s.behind ≡ None → has_behind s ≡ true → ⊥
not_behind s none has = false≢true (sym (ap (λ (g : Option (List Entry)). is_some g) none) ∙ has)

-- ---- a group is laid

module _ (modelled : Bool) (old : Life) (s : Staged) (es : List Entry) (u : IsUnderWay modelled old s es) (at : ℕ) (above : next_of s + 1 ≤ at) (bytes : List ℕ) (fits : at + length bytes ≤ end_of (region_of s)) where
  low : (region_of s).at + length (laid es) + 1 ≤ at
  low = omega (arith, u.next, above)

  wide_laid : (a b : List ℕ) → Torn at (length bytes) a b → SameOutside (region_of s) a b
  wide_laid a b t = Torn-wider at (length bytes) (region_of s).at (region_of s).length a b (omega (arith, u.next, above)) (omega (arith, fits)) t

  laid_over : (d c : List ℕ) → IsBeforeOrAfterAll (region_of s) old.seen es [] d → Torn at (length bytes) d c → IsBeforeOrAfterAll (region_of s) old.seen es [] c
  laid_over d c b t = record {
    others = Torn-trans (region_of s).at (region_of s).length old.seen d c b.others (wide_laid d c t);
    stands = inl (below (region_of s).at (end_of (region_of s)) es d c at (length bytes) (alone (region_of s) old.seen es d b) low t);
  }

  pub laying : (new : Life) → Tears at (length bytes) old new → LeavesOnly old new (IsBeforeOrAfterAll (region_of s) old.seen es [])
  laying new t = torn at (length bytes) old new (IsBeforeOrAfterAll (region_of s) old.seen es []) t u.images (λ c d was cut. laid_over d c (u.images d was) cut)

  module _ (ks : List Entry) (is : 165 ∷ bytes ≡ laid ks ++ 0 ∷ []) (new : Life) (after : Staged) (t : Tears at (length bytes) old new) (written : new.seen ≡ overlaid old.seen at bytes)
      (region : region_of after ≡ region_of s) (next : next_of after ≡ next_of s) (open_one : is_settled after ≡ false) where
    images_laid : (c : List ℕ) → Now new c → IsBeforeOrAfterAll (region_of after) new.seen es [] c
    images_laid c now = subst (λ (r : Region). IsBeforeOrAfterAll r new.seen es [] c) (sym region) (beside (region_of s) old.seen new.seen es [] c (wide_laid old.seen new.seen t.others) ((laying new t).now c now))

    stands_laid : Stands (region_of after) es new.seen
    stands_laid = subst (λ (r : Region). Stands r es new.seen) (sym region) (below (region_of s).at (end_of (region_of s)) es old.seen new.seen at (length bytes) u.stands low t.others)

    next_laid : next_of after ≡ (region_of after).at + length (laid es)
    next_laid = next ∙ u.next ∙ ap (λ (r : Region). r.at + length (laid es)) (sym region)

    -- the body stands where it was written
    body_laid : part new.seen at (length (laid ks)) ≡ body_of ks
    body_laid =
        ap (λ n. part new.seen at n) (sym (length-bytes ks bytes is)) ∙ ap (λ (l : List ℕ). part l at (length bytes)) written ∙ part-overlaid old.seen at bytes (omega (arith, fits, u.stands.inside))
        ∙ ap (λ (l : List ℕ). drop 1 l) is

    -- behind the records
    pub was_laid : at ≡ next_of s + 1 → ahead_of after ≡ ks → after.behind ≡ None → IsUnderWay modelled new after es
    was_laid place ahead none = record {
      modelled_disk = u.modelled_disk;
      images = images_laid;
      stands = stands_laid;
      next = next_laid;
      body = ap (λ n. part new.seen n (length (laid (ahead_of after)))) (ap (λ n. n + 1) next ∙ sym place) ∙ ap (λ (l : List Entry). part new.seen at (length (laid l))) ahead ∙ body_laid ∙ ap (λ (l : List Entry). body_of l) (sym ahead);
      behind = none_lies new.seen (next_of after + 1 + length (laid (ahead_of after))) after none;
      firm = λ has. absurd (not_behind after none has);
      rest = λ settled. absurd (false≢true (sym open_one ∙ settled));
    }

    -- behind a group that has settled
    module _ (place : at ≡ next_of s + 1 + length (laid (ahead_of s))) (settled : is_settled s ≡ true) (ahead : ahead_of after ≡ ahead_of s) (behind : behind_of after ≡ ks) where
      -- the body of the first stays
      first_stays : (d c : List ℕ) → Torn at (length bytes) d c → part d (next_of s + 1) (length (laid (ahead_of s))) ≡ body_of (ahead_of s)
          → part c (next_of after + 1) (length (laid (ahead_of after))) ≡ body_of (ahead_of after)
      first_stays d c cut was =
          ap (λ n. part c (n + 1) (length (laid (ahead_of after)))) next ∙ ap (λ (l : List Entry). part c (next_of s + 1) (length (laid l))) ahead
          ∙ part_outside at (length bytes) (next_of s + 1) (length (laid (ahead_of s))) d c cut (inl (omega (arith, place))) ∙ was ∙ ap (λ (l : List Entry). body_of l) (sym ahead)

      pub was_laid_behind : IsUnderWay modelled new after es
      was_laid_behind = record {
        modelled_disk = u.modelled_disk;
        images = images_laid;
        stands = stands_laid;
        next = next_laid;
        body = first_stays old.seen new.seen t.others u.body;
        behind = ap (λ n. part new.seen n (length (laid (behind_of after)))) (ap (λ n. n + 1 + length (laid (ahead_of after))) next ∙ ap (λ (l : List Entry). next_of s + 1 + length (laid l)) ahead ∙ sym place)
            ∙ ap (λ (l : List Entry). part new.seen at (length (laid l))) behind ∙ body_laid ∙ ap (λ (l : List Entry). body_of l) (sym behind);
        firm = λ has c now.
            let was = t.images c now in
            first_stays was.0 c was.2 (ap (λ (l : List ℕ). part l (next_of s + 1) (length (laid (ahead_of s)))) (u.rest settled was.0 was.1) ∙ u.body);
        rest = λ again. absurd (false≢true (sym open_one ∙ again));
      }

-- ---- what was laid is given up, and others write nothing

module _ (modelled : Bool) (old new : Life) (s : Staged) (es : List Entry) (u : IsUnderWay modelled old s es) (stays : Stays old new) where
  pub staying : LeavesOnly old new (IsBeforeOrAfterAll (region_of s) old.seen es [])
  staying = stays_leaves old new (IsBeforeOrAfterAll (region_of s) old.seen es []) stays u.images

  -- the records stay, whatever is known of the writes so far
  stays_with : (after : Staged) → journal_of after ≡ journal_of s → ahead_of after ≡ ahead_of s → after.behind ≡ s.behind → (is_settled after ≡ true → Only new) → IsUnderWay modelled new after es
  stays_with after journal ahead behind rest = record {
    modelled_disk = u.modelled_disk;
    images = λ c now. subst (λ (j : Journal). IsBeforeOrAfterAll j.region new.seen es [] c) (sym journal) (subst (λ (l : List ℕ). IsBeforeOrAfterAll (region_of s) l es [] c) (sym stays.same) (u.images c (stays.no_more c now)));
    stands = subst (λ (j : Journal). Stands j.region es new.seen) (sym journal) (subst (λ (l : List ℕ). Stands (region_of s) es l) (sym stays.same) u.stands);
    next = subst (λ (j : Journal). j.next ≡ j.region.at + length (laid es)) (sym journal) u.next;
    body = ap (λ (j : Journal). part new.seen (j.next + 1) (length (laid (ahead_of after)))) journal ∙ ap (λ (l : List Entry). part new.seen (next_of s + 1) (length (laid l))) ahead
        ∙ ap (λ (l : List ℕ). part l (next_of s + 1) (length (laid (ahead_of s)))) stays.same ∙ u.body ∙ ap (λ (l : List Entry). body_of l) (sym ahead);
    behind =
        let same : behind_of after ≡ behind_of s = ap (λ (g : Option (List Entry)). records_ahead g) behind in
        ap (λ (j : Journal). part new.seen (j.next + 1 + length (laid (ahead_of after))) (length (laid (behind_of after)))) journal
        ∙ ap (λ (l : List Entry). part new.seen (next_of s + 1 + length (laid l)) (length (laid (behind_of after)))) ahead
        ∙ ap (λ (l : List Entry). part new.seen (next_of s + 1 + length (laid (ahead_of s))) (length (laid l))) same
        ∙ ap (λ (l : List ℕ). part l (next_of s + 1 + length (laid (ahead_of s))) (length (laid (behind_of s)))) stays.same ∙ u.behind ∙ ap (λ (l : List Entry). body_of l) (sym same);
    firm = λ has c now.
        ap (λ (j : Journal). part c (j.next + 1) (length (laid (ahead_of after)))) journal ∙ ap (λ (l : List Entry). part c (next_of s + 1) (length (laid l))) ahead
        ∙ u.firm (sym (ap (λ (g : Option (List Entry)). is_some g) behind) ∙ has) c (stays.no_more c now) ∙ ap (λ (l : List Entry). body_of l) (sym ahead);
    rest = rest;
  }

  -- the disk settles
  pub was_settled : (after : Staged) → journal_of after ≡ journal_of s → ahead_of after ≡ ahead_of s → after.behind ≡ s.behind → Only new → IsUnderWay modelled new after es
  was_settled after journal ahead behind only = stays_with after journal ahead behind (λ settled. only)

  -- other calls write nothing
  pub IsUnderWay-stays : IsUnderWay modelled new s es
  IsUnderWay-stays = stays_with s refl refl refl (λ settled. Only-stays old new stays (u.rest settled))

  -- records that a crash leaves with nothing else
  pub as_settled : (j : Journal) → j ≡ journal_of s → Only new → IsSettled modelled new j es
  as_settled j same only = record {
    modelled_disk = u.modelled_disk;
    durable = only;
    stands = subst (λ (i : Journal). Stands i.region es new.seen) (sym same) (subst (λ (l : List ℕ). Stands (region_of s) es l) (sym stays.same) u.stands);
    next = subst (λ (i : Journal). i.next ≡ i.region.at + length (laid es)) (sym same) u.next;
  }

-- ---- at rest

module _ (modelled : Bool) (disk : Life) (s : Staged) (rest : IsAtRest s) (es : List Entry) where
  pub begins_at_rest : IsSettled modelled disk (journal_of s) es → IsUnderWay modelled disk s es
  begins_at_rest is = record {
    modelled_disk = is.modelled_disk;
    images = λ c now. subst (λ (l : List ℕ). IsBeforeOrAfterAll (region_of s) disk.seen es [] l) (sym (is.durable c now)) (settled_image (region_of s) disk.seen es is.stands);
    stands = is.stands;
    next = is.next;
    body = ap (λ (l : List Entry). part disk.seen (next_of s + 1) (length (laid l))) rest.none_ahead ∙ ap (λ (l : List Entry). body_of l) (sym rest.none_ahead);
    behind = none_lies disk.seen (next_of s + 1 + length (laid (ahead_of s))) s rest.none_behind;
    firm = λ has. absurd (not_behind s rest.none_behind has);
    rest = λ settled. is.durable;
  }

  pub ends_at_rest : IsUnderWay modelled disk s es → IsSettled modelled disk (journal_of s) es
  ends_at_rest u = record {
    modelled_disk = u.modelled_disk;
    durable = u.rest rest.settled;
    stands = u.stands;
    next = u.next;
  }

-- ---- a gate is opened

module _ (modelled : Bool) (old mid : Life) (s : Staged) (es hs : List Entry) (u : IsUnderWay modelled old s es) (ahead : ahead_of s ≡ hs) (stays : Stays old mid) (bytes : List ℕ) (is : 165 ∷ bytes ≡ laid hs ++ 0 ∷ []) (short : AreShort hs)
    (fits : next_of s + 1 + length bytes ≤ end_of (region_of s)) where
  stands_before : Stands (region_of s) es mid.seen
  stands_before = subst (λ (l : List ℕ). Stands (region_of s) es l) (sym stays.same) u.stands

  there : part mid.seen (next_of s + 1) (length bytes) ≡ bytes
  there = ap (λ (l : List ℕ). part l (next_of s + 1) (length bytes)) stays.same ∙ ap (λ n. part old.seen (next_of s + 1) n) (length-bytes hs bytes is ∙ ap (λ (l : List Entry). length (laid l)) (sym ahead))
      ∙ u.body ∙ ap (λ (l : List Entry). body_of l) ahead ∙ ap (λ (l : List ℕ). drop 1 l) (sym is)

  gate_over : (c : List ℕ) → Torn (next_of s) 1 mid.seen c → IsBeforeOrAfterAll (region_of s) old.seen es hs c
  gate_over c t = record {
    others = subst (λ (l : List ℕ). SameOutside (region_of s) l c) stays.same (Torn-wider (next_of s) 1 (region_of s).at (region_of s).length mid.seen c (omega (arith, u.next)) (omega (arith, fits)) t);
    stands = either (region_of s).at (end_of (region_of s)) es hs mid.seen stands_before (next_of s) u.next bytes is fits short mid.seen (Torn-refl (next_of s + 1) (length bytes) mid.seen) there c t;
  }

  pub opening : (new : Life) → LeavesOnly mid new (Torn (next_of s) 1 mid.seen) → LeavesOnly old new (IsBeforeOrAfterAll (region_of s) old.seen es hs)
  opening new run = and_then old mid new _ _ _ (staying modelled old mid s es u stays) run (λ c b. or_more (region_of s) old.seen es hs c b) gate_over

  pub was_opened : (new : Life) (j : Journal) → new.seen ≡ overlaid mid.seen (next_of s) (165 ∷ []) → Only new → j.region ≡ region_of s → j.next ≡ next_of s + length bytes → IsSettled modelled new j (es ++ hs)
  was_opened new j written only region next =
      let low : next_of s + 1 ≤ length mid.seen = omega (arith, fits, stands_before.inside) in
      let cut : Torn (next_of s) 1 mid.seen new.seen = subst (λ (l : List ℕ). Torn (next_of s) 1 mid.seen l) (sym written) (Torn-overlaid mid.seen (next_of s) (165 ∷ []) low) in
      let byte : part new.seen (next_of s) 1 ≡ 165 ∷ [] = ap (λ (l : List ℕ). part l (next_of s) 1) written ∙ part-overlaid mid.seen (next_of s) (165 ∷ []) low in
      let gate : get_or new.seen (next_of s) 0 ≡ 165 = ap (λ (l : List ℕ). get_or l 0 0) (sym (byte_part new.seen (next_of s) (omega (arith, low, cut.size))) ∙ byte) in
      record {
        modelled_disk = u.modelled_disk;
        durable = only;
        stands = subst (λ (r : Region). Stands r (es ++ hs) new.seen) (sym region)
            (with_it (region_of s).at (end_of (region_of s)) es hs mid.seen stands_before (next_of s) u.next bytes is fits short mid.seen (Torn-refl (next_of s + 1) (length bytes) mid.seen) there new.seen cut gate);
        next = next ∙ omega (arith, u.next, length-bytes hs bytes is, length-laid-append es hs) ∙ ap (λ (r : Region). r.at + length (laid (es ++ hs))) (sym region);
      }

  -- and what was laid behind is what lies ahead now
  pub was_opened_before : (new : Life) (after : Staged) → new.seen ≡ overlaid mid.seen (next_of s) (165 ∷ []) → Only new → region_of after ≡ region_of s → next_of after ≡ next_of s + length bytes
      → after.ahead ≡ s.behind → after.behind ≡ None → IsUnderWay modelled new after (es ++ hs)
  was_opened_before new after written only region next first none =
      let settled = was_opened new (journal_of after) written only region next in
      let low : next_of s + 1 ≤ length mid.seen = omega (arith, fits, stands_before.inside) in
      let cut : Torn (next_of s) 1 mid.seen new.seen = subst (λ (l : List ℕ). Torn (next_of s) 1 mid.seen l) (sym written) (Torn-overlaid mid.seen (next_of s) (165 ∷ []) low) in
      let same : ahead_of after ≡ behind_of s = ap (λ (g : Option (List Entry)). records_ahead g) first in
      let place : next_of after + 1 ≡ next_of s + 1 + length (laid (ahead_of s)) = omega (arith, next, length-bytes hs bytes is, ap (λ (l : List Entry). length (laid l)) ahead) in
      record {
        modelled_disk = u.modelled_disk;
        images = λ c now. subst (λ (l : List ℕ). IsBeforeOrAfterAll (region_of after) new.seen (es ++ hs) [] l) (sym (only c now)) (settled_image (region_of after) new.seen (es ++ hs) settled.stands);
        stands = settled.stands;
        next = settled.next;
        body = ap (λ n. part new.seen n (length (laid (ahead_of after)))) place ∙ ap (λ (l : List Entry). part new.seen (next_of s + 1 + length (laid (ahead_of s))) (length (laid l))) same
            ∙ part_outside (next_of s) 1 (next_of s + 1 + length (laid (ahead_of s))) (length (laid (behind_of s))) mid.seen new.seen cut (inr (omega arith))
            ∙ ap (λ (l : List ℕ). part l (next_of s + 1 + length (laid (ahead_of s))) (length (laid (behind_of s)))) stays.same ∙ u.behind ∙ ap (λ (l : List Entry). body_of l) (sym same);
        behind = none_lies new.seen (next_of after + 1 + length (laid (ahead_of after))) after none;
        firm = λ has. absurd (not_behind after none has);
        rest = λ _. only;
      }

-- whichever byte stands at the gate of a group that was laid
pub early_gate : (modelled : Bool) (disk : Life) (s : Staged) (es hs : List Entry) → IsUnderWay modelled disk s es → ahead_of s ≡ hs → (is_settled s ≡ true) ⊎ (has_behind s ≡ true) → (bytes : List ℕ) → 165 ∷ bytes ≡ laid hs ++ 0 ∷ [] → AreShort hs
    → next_of s + 1 + length bytes ≤ end_of (region_of s) → (d c : List ℕ) → Now disk d → Torn (next_of s) 1 d c → IsBeforeOrAfterAll (region_of s) disk.seen es hs c
early_gate modelled disk s es hs u ahead firm bytes is short fits d c now t = record {
  others = Torn-trans (region_of s).at (region_of s).length disk.seen d c (u.images d now).others (Torn-wider (next_of s) 1 (region_of s).at (region_of s).length d c (omega (arith, u.next)) (omega (arith, fits)) t);
  stands = either (region_of s).at (end_of (region_of s)) es hs d (alone (region_of s) disk.seen es d (u.images d now)) (next_of s) u.next bytes is fits short d (Torn-refl (next_of s + 1) (length bytes) d) there c t;
}
  where
    body : part d (next_of s + 1) (length (laid (ahead_of s))) ≡ body_of (ahead_of s)
    body = ⊎_elim (λ settled. ap (λ (l : List ℕ). part l (next_of s + 1) (length (laid (ahead_of s)))) (u.rest settled d now) ∙ u.body) (λ has. u.firm has d now) firm

    there : part d (next_of s + 1) (length bytes) ≡ bytes
    there = ap (λ n. part d (next_of s + 1) n) (length-bytes hs bytes is ∙ ap (λ (l : List Entry). length (laid l)) (sym ahead)) ∙ body ∙ ap (λ (l : List Entry). body_of l) ahead ∙ ap (λ (l : List ℕ). drop 1 l) (sym is)

-- ---- records are added at rest

module _ (modelled : Bool) (old mid new : Life) (s after : Staged) (gs : List Entry) (bytes hold release : ℕ) (stays : Stays old mid) (faults : mid.faults ≡ old.faults) (only : (es : List Entry) → IsUnderWay modelled old s es → IsSettled modelled mid (journal_of s) es) where
  any_moment : {T : Type 0} (r : Result T WriteError) → Adds modelled mid new (journal_of s) (journal_of after) gs bytes hold release r → (es : List Entry) → IsUnderWay modelled old s es → LeavesOnly old new (IsBeforeOrAfterAll (region_of s) old.seen es gs)
  any_moment r adds es u = and_then old mid new _ _ _ (staying modelled old mid s es u stays) (adds.any_moment es (only es u)) (λ c b. or_more (region_of s) old.seen es gs c b) (λ c b. subst (λ (l : List ℕ). IsBeforeOrAfterAll (region_of s) l es gs c) stays.same b)

  others : {T : Type 0} (r : Result T WriteError) → Adds modelled mid new (journal_of s) (journal_of after) gs bytes hold release r → SameOutside (region_of s) old.seen new.seen
  others r adds = subst (λ (l : List ℕ). SameOutside (region_of s) l new.seen) stays.same adds.others

  behind_rest : {T : Type 0} (r : Result T WriteError) → IsAtRest after → Adds modelled mid new (journal_of s) (journal_of after) gs bytes hold release r → AddsBehind modelled old new s after gs bytes hold release r
  behind_rest (Ok x) rest adds = record {
    ok = λ es u. begins_at_rest modelled new after rest (es ++ gs) (adds.ok es (only es u));
    any_moment = any_moment (Ok x) adds;
    others = others (Ok x) adds;
    full = adds.full;
    cause = adds.cause ∙ faults;
    takes = adds.takes;
  }
  behind_rest (Err DeviceFailed) rest adds = record {
    ok = λ es u. tt;
    any_moment = any_moment (Err DeviceFailed) adds;
    others = others (Err DeviceFailed) adds;
    full = adds.full;
    cause = adds.cause ∙ ap (λ n. n + 1) faults;
    takes = tt;
  }
  behind_rest (Err (Full full)) rest adds = record {
    ok = λ es u. tt;
    any_moment = any_moment (Err (Full full)) adds;
    others = others (Err (Full full)) adds;
    full = adds.full;
    cause = adds.cause ∙ faults;
    takes = tt;
  }

  -- the journal that they were added to is the one at rest
  pub rested_then : {T : Type 0} (r : Result T WriteError) (before : Journal) → before ≡ journal_of s → IsAtRest after → Adds modelled mid new before (journal_of after) gs bytes hold release r → AddsBehind modelled old new s after gs bytes hold release r
  rested_then r before same rest adds = behind_rest r rest (subst (λ (j : Journal). Adds modelled mid new j (journal_of after) gs bytes hold release r) same adds)
