-- What is shown goes on.
use Rattle.std.specs.Prelude.{◌≢◌, Bool, true, false, IsTrue, Option, Some, None, IfSome, IsSomeAnd, if◌then◌else◌}
use Rattle.std.proofs.lemmas.Bool.{false≢true}
use Rattle.std.proofs.Common.{◌≡◌, ◌⊎◌, inl, inr, ⊎_elim, ℕ, ◌+◌, ◌≤◌, ◌<◌, List, [], ◌∷◌, ◌++◌, length, take, drop, refl, sym, ◌∙◌, ap, subst, cond, arith, take-append-drop}
use Rattle.std.proofs.lemmas.List.{drop-drop}
use Rattle.drda_words.specs.Place.{part}
use Rattle.drda_disk.specs.Disk.{Elapses, Life, Now, Only, Stays, Tears, Torn, overlaid}
use Rattle.drda_disk.specs.Images.{Torn-refl}
use Rattle.drda_disk.proofs.Moments.{Only-stays, Stays-trans}
use Rattle.drda_disk.proofs.Parts.{Torn-trans, part_outside}
use Rattle.early_disk.specs.declared.early.EarlyByte.{EarlyByte}
use Rattle.early_disk.specs.Shown.{LeftBy, LeftSince, Past, Shown, behind_sync, behind_write, first_shown, shown_life, since_earlier}
use Rattle.early_disk.specs.Early.{Besides, HasLeft, IsSeen, WasSeen, IsAhead, LeavesNow, IsPlain, IsShown, Parts, Stands, life_of}

module _ {D : Type 0} (modelled : Bool) (life : D → Life) (allows : List ℕ → List ℕ → Type 0) where
  -- ---- calls that write nothing
  plain_reads : (inner inner' : D) (s : Shown D) → Stays (life inner) (life inner') → IsPlain modelled life allows inner s → IsPlain modelled life allows inner' s
  plain_reads inner inner' s stays plain = record { seen = stays.same ∙ plain.seen; images = λ c now. plain.images c (stays.no_more c now) }

  ahead_reads : (inner inner' : D) (e : EarlyByte) (s : Shown D) → Stays (life inner) (life inner') → IsAhead modelled life allows inner e s → IsAhead modelled life allows inner' e s
  ahead_reads inner inner' e s stays ahead = record {
    was = ahead.was;
    seen = subst (λ (l : List ℕ). Torn e.at 1 s.seen l) (sym stays.same) ahead.seen;
    written = λ is. stays.same ∙ ahead.written is;
    images = λ c now. ahead.images c (stays.no_more c now);
    allowed = ahead.allowed;
  }

  stands_reads : (inner inner' : D) (early : Option EarlyByte) (s : Shown D) → Stays (life inner) (life inner') → Stands modelled life allows inner early s → Stands modelled life allows inner' early s
  stands_reads inner inner' None s stays plain = plain_reads inner inner' s stays plain
  stands_reads inner inner' (Some e) s stays ahead = ahead_reads inner inner' e s stays ahead

  pub shown_reads : (inner inner' : D) (early : Option EarlyByte) (is_settled : Bool) (s : Shown D) → Stays (life inner) (life inner') → IsShown modelled life allows inner early is_settled s → IsShown modelled life allows inner' early is_settled s
  shown_reads inner inner' early is_settled s stays was = record {
    size = ap length stays.same ∙ was.size;
    inside = was.inside;
    begins = omega (arith, was.begins, stays.later);
    none_later = was.none_later;
    settled = λ is. Only-stays (life inner) (life inner') stays (was.settled is);
    stands = λ is. stands_reads inner inner' early s stays (was.stands is);
    left = λ is c left. was.left is c (stays.nothing_new s.first c was.begins left);
  }

  -- ---- a write that counts
  pub elapses : (s : Shown D) (inner : D) (f f' : ℕ) → Elapses (shown_life modelled life s f) (shown_life modelled life (behind_write modelled life s inner) f')
  elapses s inner f f' = record {
    later = omega arith;
    nothing_else = λ t c le left. ⊎_elim (λ same. inr (left.0, inl same))
        (λ by. ⊎_elim (λ here. ⊎_elim (λ old. inl (left.0, inl old)) (λ new. inr (left.0, inr (inl (omega arith, inr new)))) here.1) (λ there. inl (left.0, inr there)) by) left.1;
    keeps = λ t c le left. (left.0, inr (⊎_elim (λ same. inl (le, inl same)) (λ there. inr there) left.1));
  }

  seen_behind : (s : Shown D) (inner : D) → IsTrue modelled → (behind_write modelled life s inner).seen ≡ (life inner).seen
  seen_behind s inner is = ap (λ b. cond b (life inner).seen s.seen) is

  by_honesty : (b : Bool) (P : Bool → Type 0) → (IsTrue b → P true) → P false → P b
  by_honesty true P honest other = honest refl
  by_honesty false P honest other = other

  torn_behind : (s : Shown D) (inner : D) (at n : ℕ) → (IsTrue modelled → Torn at n s.seen (life inner).seen) → Torn at n s.seen (behind_write modelled life s inner).seen
  torn_behind s inner at n torn = by_honesty modelled (λ b. Torn at n s.seen (cond b (life inner).seen s.seen)) torn (Torn-refl at n s.seen)

  size_behind : (s : Shown D) (inner : D) → length (life inner).seen ≡ length s.seen → length (life inner).seen ≡ length (behind_write modelled life s inner).seen
  size_behind s inner same = by_honesty modelled (λ b. length (life inner).seen ≡ length (cond b (life inner).seen s.seen)) (λ is. refl) same

  none_behind : (s : Shown D) (inner : D) → ((t : ℕ) (c : List ℕ) → s.moment < t → LeftBy modelled life s.pasts t c → ⊥)
      → (t : ℕ) (c : List ℕ) → s.moment < t → LeftBy modelled life (behind_write modelled life s inner).pasts t c → ⊥
  none_behind s inner none t c later left = ⊎_elim (λ here. omega (arith, later, here.0)) (λ there. none t c later there) left

  images_behind : (s : Shown D) (inner : D) (c : List ℕ) → Now (life inner) c → LeftBy modelled life (behind_write modelled life s inner).pasts s.moment c
  images_behind s inner c now = inl (omega arith, inr now)

  seen_on : (s : Shown D) (inner : D) (c : List ℕ) → WasSeen modelled life s c → WasSeen modelled life (behind_write modelled life s inner) c
  seen_on s inner c was = inr (⊎_elim (λ same. inl (omega arith, inl same)) (λ there. inr there) was)

  left_behind : (inner : D) (s : Shown D) → HasLeft modelled life allows inner s → HasLeft modelled life allows inner (behind_write modelled life s inner)
  left_behind inner s left c was = ⊎_elim (λ shown. inl (seen_on s inner c shown)) (λ early. inr (early.0, seen_on s inner early.0 early.1, early.2)) (left c was)

  -- behind a write of the disk inside
  left_on : (inner inner' : D) (s : Shown D) (at n : ℕ) → s.first ≤ (life inner).moment → Tears at n (life inner) (life inner') → HasLeft modelled life allows inner s
      → HasLeft modelled life allows inner' (behind_write modelled life s inner')
  left_on inner inner' s at n begins tears left c was =
      ⊎_elim (λ old. ⊎_elim (λ shown. inl (seen_on s inner' c shown)) (λ early. inr (early.0, seen_on s inner' early.0 early.1, early.2)) (left c old))
      (λ now. inl (inr (inl (omega arith, inr now)))) (tears.time.nothing_else s.first c begins was)

  pub shown_writes : (inner inner' : D) (is_settled : Bool) (s : Shown D) (at n : ℕ) → Tears at n (life inner) (life inner') → IsShown modelled life allows inner None is_settled s
      → IsShown modelled life allows inner' None false (behind_write modelled life s inner')
  shown_writes inner inner' is_settled s at n tears was = record {
    size = size_behind s inner' (tears.others.size ∙ was.size);
    inside = tt;
    begins = omega (arith, was.begins, tears.time.later);
    none_later = none_behind s inner' was.none_later;
    settled = λ is. absurd (false≢true is);
    stands = λ is. record { seen = sym (seen_behind s inner' is); images = λ c now. inr (images_behind s inner' c now) };
    left = λ is. left_on inner inner' s at n was.begins tears (was.left is);
  }

  pub tears_shown : (inner inner' : D) (is_settled : Bool) (s : Shown D) (at n f f' : ℕ) → Tears at n (life inner) (life inner') → IsShown modelled life allows inner None is_settled s
      → Tears at n (shown_life modelled life s f) (shown_life modelled life (behind_write modelled life s inner') f')
  tears_shown inner inner' is_settled s at n f f' tears was = record {
    time = elapses s inner' f f';
    others = torn_behind s inner' at n (λ is. subst (λ (l : List ℕ). Torn at n l (life inner').seen) (was.stands is).seen tears.others);
    images = λ c now. ⊎_elim (λ same. (s.seen, (now.0, inl refl), subst (λ (l : List ℕ). Torn at n s.seen l) (sym same) (torn_behind s inner' at n (λ is. subst (λ (l : List ℕ). Torn at n l (life inner').seen) (was.stands is).seen tears.others))))
        (λ left. ⊎_elim (λ here. ⊎_elim (λ old. (c, (now.0, inl old), Torn-refl at n c)) (λ new. from_inner now.0 c new) here.1) (λ there. (c, (now.0, inr there), Torn-refl at n c)) left) now.1;
  }
    where
      from_inner : IsTrue modelled → (c : List ℕ) → Now (life inner') c → (d : List ℕ) × Now (shown_life modelled life s f) d × Torn at n d c
      from_inner is c new = let old = tears.images c new in (old.0, (is, (was.stands is).images old.0 old.1), old.2)

  -- ---- the early byte counts
  pub shown_counts : (inner : D) (e : EarlyByte) (is_settled : Bool) (s : Shown D) → IsShown modelled life allows inner (Some e) is_settled s
      → IsShown modelled life allows inner None is_settled (behind_write modelled life s inner)
  shown_counts inner e is_settled s was = record {
    size = size_behind s inner was.size;
    inside = tt;
    begins = was.begins;
    none_later = none_behind s inner was.none_later;
    settled = was.settled;
    stands = λ is. record { seen = sym (seen_behind s inner is); images = λ c now. inr (images_behind s inner c now) };
    left = λ is. left_behind inner s (was.left is);
  }

  pub tears_early : (inner : D) (e : EarlyByte) (is_settled : Bool) (s : Shown D) (f f' : ℕ) → IsShown modelled life allows inner (Some e) is_settled s
      → Tears e.at 1 (shown_life modelled life s f) (shown_life modelled life (behind_write modelled life s inner) f')
  tears_early inner e is_settled s f f' was = record {
    time = elapses s inner f f';
    others = torn;
    images = λ c now. ⊎_elim (λ same. (s.seen, (now.0, inl refl), subst (λ (l : List ℕ). Torn e.at 1 s.seen l) (sym same) torn))
        (λ left. ⊎_elim (λ here. ⊎_elim (λ old. (c, (now.0, inl old), Torn-refl e.at 1 c)) (λ new. from now.0 c new) here.1) (λ there. (c, (now.0, inr there), Torn-refl e.at 1 c)) left) now.1;
  }
    where
      torn : Torn e.at 1 s.seen (behind_write modelled life s inner).seen
      torn = torn_behind s inner e.at 1 (λ is. (was.stands is).seen)

      from : IsTrue modelled → (c : List ℕ) → Now (life inner) c → (d : List ℕ) × Now (shown_life modelled life s f) d × Torn e.at 1 d c
      from is c new = let old = (was.stands is).images c new in (old.0, (is, old.1), old.2)

  pub counted_as : (inner : D) (e : EarlyByte) (is_settled : Bool) (s : Shown D) → e.is_written ≡ true → IsShown modelled life allows inner (Some e) is_settled s
      → IsTrue modelled → (behind_write modelled life s inner).seen ≡ overlaid s.seen e.at (e.byte ∷ [])
  counted_as inner e is_settled s written was is = seen_behind s inner is ∙ (was.stands is).written written

  -- ---- a sync
  only_seen : (s : Shown D) → ((t : ℕ) (c : List ℕ) → s.moment < t → LeftBy modelled life s.pasts t c → ⊥) → (f : ℕ) → Only (shown_life modelled life (behind_sync s) f)
  only_seen s none f c now = ⊎_elim (λ same. same) (λ left. absurd (none (s.moment + 1) c (omega arith) left)) now.1

  stands_synced : (inner inner' : D) (early : Option EarlyByte) (s : Shown D) → Stays (life inner) (life inner') → Only (life inner') → Stands modelled life allows inner early s → Stands modelled life allows inner' early (behind_sync s)
  stands_synced inner inner' None s stays only plain = record { seen = stays.same ∙ plain.seen; images = λ c now. inl (only c now ∙ stays.same ∙ plain.seen) }
  stands_synced inner inner' (Some e) s stays only ahead =
      let went = ahead_reads inner inner' e s stays ahead in
      record {
        was = went.was;
        seen = went.seen;
        written = went.written;
        images = λ c now. (s.seen, inl refl, subst (λ (l : List ℕ). Torn e.at 1 s.seen l) (sym (only c now)) went.seen);
        allowed = λ d c is. went.allowed d c (⊎_elim (λ same. inl same) (λ left. inr (since_earlier modelled life s.pasts s.moment (s.moment + 1) d (omega arith) left)) is);
      }

  pub shown_syncs : (inner inner' : D) (early : Option EarlyByte) (is_settled : Bool) (s : Shown D) → Stays (life inner) (life inner') → Only (life inner') → IsShown modelled life allows inner early is_settled s
      → IsShown modelled life allows inner' early true (behind_sync s)
  shown_syncs inner inner' early is_settled s stays only was = record {
    size = ap length stays.same ∙ was.size;
    inside = was.inside;
    begins = omega (arith, was.begins, stays.later);
    none_later = λ t c later left. was.none_later t c (omega (arith, later)) left;
    settled = λ _. only;
    stands = λ is. stands_synced inner inner' early s stays only (was.stands is);
    left = λ is c left. was.left is c (stays.nothing_new s.first c was.begins left);
  }

  pub stays_synced : (s : Shown D) (f f' : ℕ) → Stays (shown_life modelled life s f) (shown_life modelled life (behind_sync s) f')
  stays_synced s f f' = record {
    later = omega arith;
    same = refl;
    no_more = λ c now. (now.0, ⊎_elim (λ same. inl same) (λ left. inr (since_earlier modelled life s.pasts s.moment (s.moment + 1) c (omega arith) left)) now.1);
    nothing_new = λ t c le left. left;
    keeps = λ t c le left. left;
  }

  -- what is shown stays
  pub stays_shown : (s : Shown D) (f f' : ℕ) → Stays (shown_life modelled life s f) (shown_life modelled life s f')
  stays_shown s f f' = record { later = omega arith; same = refl; no_more = λ c now. now; nothing_new = λ t c le left. left; keeps = λ t c le left. left }

  was_seen : (s : Shown D) (c : List ℕ) → IsSeen modelled life s c → WasSeen modelled life s c
  was_seen s c is = ⊎_elim (λ same. inl same) (λ left. inr (since_earlier modelled life s.pasts 0 s.moment c (omega arith) left)) is

  -- ---- a byte that is written early, and taken back
  besides : (s : Shown D) (at : ℕ) (c : List ℕ) → (d : List ℕ) × IsSeen modelled life s d × Torn at 1 d c → ((d c : List ℕ) → IsSeen modelled life s d → Torn at 1 d c → allows d c)
      → WasSeen modelled life s c ⊎ ((base : List ℕ) × WasSeen modelled life s base × Besides modelled life allows base c)
  besides s at c torn allowed = inr (torn.0, was_seen s torn.0 torn.1, ((at, torn.2), allowed torn.0 c torn.1 torn.2))

  pub shown_early : (inner mid inner' : D) (is_settled : Bool) (s : Shown D) (e : EarlyByte) (f : ℕ) → IsShown modelled life allows inner None is_settled s
      → e.at + 1 ≤ length s.seen → Stays (life inner) (life mid) → (IsTrue modelled → part (life inner).seen e.at 1 ≡ e.was ∷ []) → Tears e.at 1 (life mid) (life inner')
      → (IsTrue modelled → (d c : List ℕ) → Now (shown_life modelled life s f) d → Torn e.at 1 d c → allows d c)
      → (e.is_written ≡ true → IsTrue modelled → (life inner').seen ≡ overlaid (life mid).seen e.at (e.byte ∷ []))
      → IsShown modelled life allows inner' (Some e) false s
  shown_early inner mid inner' is_settled s e f was inside stays read tears allowed written = record {
    size = tears.others.size ∙ ap length stays.same ∙ was.size;
    inside = inside;
    begins = omega (arith, was.begins, stays.later, tears.time.later);
    none_later = was.none_later;
    settled = λ is. absurd (false≢true is);
    stands = λ is. record {
      was = ap (λ (l : List ℕ). part l e.at 1) (sym (was.stands is).seen) ∙ read is;
      seen = subst (λ (l : List ℕ). Torn e.at 1 l (life inner').seen) (same is) tears.others;
      written = λ done. written done is ∙ ap (λ (l : List ℕ). overlaid l e.at (e.byte ∷ [])) (same is);
      images = λ c now. torn is c now;
      allowed = may is;
    };
    left = λ is c left. ⊎_elim (λ old. was.left is c (stays.nothing_new s.first c was.begins old))
        (λ now. besides s e.at c (torn is c now) (may is)) (tears.time.nothing_else s.first c (omega (arith, was.begins, stays.later)) left);
  }
    where
      may : IsTrue modelled → (d c : List ℕ) → IsSeen modelled life s d → Torn e.at 1 d c → allows d c
      may is d c seen torn = allowed is d c (is, seen) torn

      same : IsTrue modelled → (life mid).seen ≡ s.seen
      same is = stays.same ∙ (was.stands is).seen

      torn : IsTrue modelled → (c : List ℕ) → Now (life inner') c → (d : List ℕ) × IsSeen modelled life s d × Torn e.at 1 d c
      torn is c now = let old = tears.images c now in (old.0, (was.stands is).images old.0 (stays.no_more old.0 old.1), old.2)

  -- with any byte in its place
  pub shown_again : (inner inner' : D) (e : EarlyByte) (is_settled : Bool) (s : Shown D) → Tears e.at 1 (life inner) (life inner') → IsShown modelled life allows inner (Some e) is_settled s
      → IsShown modelled life allows inner' (Some (record e { is_written = false })) false s
  shown_again inner inner' e is_settled s tears was = record {
    size = tears.others.size ∙ was.size;
    inside = was.inside;
    begins = omega (arith, was.begins, tears.time.later);
    none_later = was.none_later;
    settled = λ is. absurd (false≢true is);
    stands = λ is. record {
      was = (was.stands is).was;
      seen = Torn-trans e.at 1 s.seen (life inner).seen (life inner').seen (was.stands is).seen tears.others;
      written = λ done. absurd (false≢true done);
      images = λ c now. torn is c now;
      allowed = (was.stands is).allowed;
    };
    left = λ is c left. ⊎_elim (λ old. was.left is c old) (λ now. besides s e.at c (torn is c now) (was.stands is).allowed) (tears.time.nothing_else s.first c was.begins left);
  }
    where
      torn : IsTrue modelled → (c : List ℕ) → Now (life inner') c → (d : List ℕ) × IsSeen modelled life s d × Torn e.at 1 d c
      torn is c now =
          let mid = tears.images c now in
          let old = (was.stands is).images mid.0 mid.1 in
          (old.0, old.1, Torn-trans e.at 1 old.0 mid.0 c old.2 mid.2)

  laid_back : (at : ℕ) (seen x : List ℕ) (was : ℕ) → Torn at 1 seen x → part seen at 1 ≡ was ∷ [] → overlaid x at (was ∷ []) ≡ seen
  laid_back at seen x was torn is =
      ap (λ (l : List ℕ). l ++ ((was ∷ []) ++ drop (at + 1) x)) torn.before ∙ ap (λ (l : List ℕ). take at seen ++ ((was ∷ []) ++ l)) torn.after
      ∙ ap (λ (l : List ℕ). take at seen ++ (l ++ drop (at + 1) seen)) (sym is) ∙ ap (λ (l : List ℕ). take at seen ++ (take 1 (drop at seen) ++ l)) (sym (drop-drop 1 at seen))
      ∙ ap (λ (l : List ℕ). take at seen ++ l) (take-append-drop 1 (drop at seen)) ∙ take-append-drop at seen

  pub shown_back : (inner mid inner' : D) (e : EarlyByte) (is_settled : Bool) (s : Shown D) → IsShown modelled life allows inner (Some e) is_settled s → Tears e.at 1 (life inner) (life mid)
      → (IsTrue modelled → (life mid).seen ≡ overlaid (life inner).seen e.at (e.was ∷ [])) → Stays (life mid) (life inner') → Only (life inner') → IsShown modelled life allows inner' None true s
  shown_back inner mid inner' e is_settled s was tears written stays only =
      let again = shown_reads mid inner' _ false s stays (shown_again inner mid e is_settled s tears was) in
      record {
        size = again.size;
        inside = tt;
        begins = again.begins;
        none_later = again.none_later;
        settled = λ _. only;
        stands = λ is. record { seen = back is; images = λ c now. inl (only c now ∙ back is) };
        left = again.left;
      }
    where
      back : IsTrue modelled → (life inner').seen ≡ s.seen
      back is = stays.same ∙ written is ∙ laid_back e.at s.seen (life inner).seen e.was (was.stands is).seen (was.stands is).was

  -- ---- from the first
  pub shown_first : (inner : D) → IsShown modelled life allows inner None false (first_shown (life inner).seen (life inner).moment inner)
  shown_first inner = record {
    size = refl;
    inside = tt;
    begins = omega arith;
    none_later = λ t c later left. ⊎_elim (λ here. omega (arith, later, here.0)) (λ there. there) left;
    settled = λ is. absurd (false≢true is);
    stands = λ is. record { seen = refl; images = λ c now. inr (inl (omega arith, inr now)) };
    left = λ is c now. inl (inr (inl (omega arith, inr now)));
  }

  -- ---- what the disk inside leaves
  pub now_left : (p : Parts D) → IsShown modelled life allows p.inner p.early p.is_settled p.shown → LeavesNow modelled life allows p
  now_left p was c is now = by p.early (was.stands is)
    where
      by : (early : Option EarlyByte) → Stands modelled life allows p.inner early p.shown
          → Now (life_of modelled life p) c ⊎ ((base : List ℕ) × Now (life_of modelled life p) base × Besides modelled life allows base c)
      by None plain = inl (is, plain.images c now)
      by (Some e) ahead = let old = ahead.images c now in inr (old.0, (is, old.1), ((e.at, old.2), ahead.allowed old.0 c old.1 old.2))

  -- ---- what is read
  pub read_shown : (inner : D) (early : Option EarlyByte) (is_settled : Bool) (s : Shown D) → IsShown modelled life allows inner early is_settled s → IsTrue modelled → (at n : ℕ)
      → IfSome early (λ (e : EarlyByte). (at + n ≤ e.at) ⊎ (e.at + 1 ≤ at)) → part (life inner).seen at n ≡ part s.seen at n
  read_shown inner None is_settled s was is at n apart = ap (λ (l : List ℕ). part l at n) (was.stands is).seen
  read_shown inner (Some e) is_settled s was is at n apart = part_outside e.at 1 at n s.seen (life inner).seen (was.stands is).seen apart

  -- the early byte counts, where one is early
  pub counted_where : (inner : D) (early : Option EarlyByte) (is_settled : Bool) (s : Shown D) (at : ℕ) (bytes : List ℕ)
      → IsSomeAnd early (λ (e : EarlyByte). (e.at ≡ at) × (bytes ≡ e.byte ∷ []) × (e.is_written ≡ true)) → IsShown modelled life allows inner early is_settled s → IsTrue modelled
      → (behind_write modelled life s inner).seen ≡ overlaid s.seen at bytes
  counted_where inner None is_settled s at bytes there was is = absurd there
  counted_where inner (Some e) is_settled s at bytes there was is =
      counted_as inner e is_settled s there.2 was is ∙ ap (λ n. overlaid s.seen n (e.byte ∷ [])) there.0 ∙ ap (λ (l : List ℕ). overlaid s.seen at l) (sym there.1)
