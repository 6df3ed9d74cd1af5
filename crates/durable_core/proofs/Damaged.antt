-- A damaged image does not open, and is damaged at one offset.
use Rattle.std.proofs.Common.{◌≡◌, inl, inr, true, ℕ, ◌+◌, ◌*◌, List, [], ◌∷◌, ◌++◌, length, Some, None, Result, Ok, Err, refl, sym, ◌∙◌, ap, subst, arith}
use Rattle.std.specs.List.{AllByRecursion}
use Rattle.drda_disk.specs.Region.{end_of}
use Rattle.drda_disk.specs.declared.region.Region.{Region}
use Rattle.half_store.specs.Active.{Store, Refusal, active_of, damaged}
use Rattle.half_store.specs.Layout.{half_len, offset_of}
use Rattle.half_store.specs.declared.header.Layout.{Layout}
use Rattle.store_check.specs.Checkpoint.{CheckpointIsNotBad, HasCheckpoint, OneCheckpoint, forms, half_pages}
use Rattle.store_check.specs.Half.{BreaksHalf, OneFirstBadOfHalf}
use Rattle.tables.specs.Tables.{Store as Tables}
use Rattle.unit_journal.specs.Laws.{OneReading}
use Rattle.unit_journal.specs.Record.{Entry, laid}
use Rattle.unit_journal.specs.Stands.{DamagedFrom, Stands, StandsFrom}
use Rattle.recovery.specs.Durable.{Durable, at_checkpoint, next}
use Rattle.recovery.specs.Journal.{HasNoPlace, Leads, LeadsOn, OneState}
use Rattle.recovery.specs.Laws.{held_for}
use Rattle.recovery.specs.ImageLaws.{IsThere, OpensThere}
use Rattle.core_model.proofs.Owners.{both}
use Rattle.recovery.proofs.Reading.{one_store}
use Rattle.recovery.specs.Known.{AreKnown, is_of}
use Rattle.durable_core.specs.Damage.{DamageOpensNot, HasBadPage, HoldsForOne, IsBadJournal, OneDamage}

-- ---- lists

head_is : (x y : Entry) (xs ys : List Entry) → x ∷ xs ≡ y ∷ ys → x ≡ y
head_is x y xs ys same = cc

tail_is : (x y : Entry) (xs ys : List Entry) → x ∷ xs ≡ y ∷ ys → xs ≡ ys
tail_is x y xs ys same = cc

there : (Q : Entry → Type 0) (zs ws : List Entry) (z : Entry) → AllByRecursion Q (zs ++ (z ∷ ws)) → Q z
there Q [] ws z all = all.0
there Q (y ∷ zs) ws z all = there Q zs ws z all.1

-- the last element of its kind
one_last : (P : Entry → Type 0) (xs ys zs ws : List Entry) (x z : Entry) → xs ++ (x ∷ ys) ≡ zs ++ (z ∷ ws) → P x → AllByRecursion (λ e. P e → ⊥) ys → P z → AllByRecursion (λ e. P e → ⊥) ws → xs ≡ zs
one_last P [] ys [] ws x z same here none other more = refl
one_last P [] ys (y ∷ zs) ws x z same here none other more =
    absurd (there (λ e. P e → ⊥) zs ws z (subst (λ (l : List Entry). AllByRecursion (λ e. P e → ⊥) l) (tail_is x y ys (zs ++ (z ∷ ws)) same) none) other)
one_last P (v ∷ xs) ys [] ws x z same here none other more =
    absurd (there (λ e. P e → ⊥) xs ys x (subst (λ (l : List Entry). AllByRecursion (λ e. P e → ⊥) l) (sym (tail_is v z (xs ++ (x ∷ ys)) ws same)) more) here)
one_last P (v ∷ xs) ys (y ∷ zs) ws x z same here none other more =
    ap (λ (l : List Entry). v ∷ l) (one_last P xs ys zs ws x z (tail_is v y (xs ++ (x ∷ ys)) (zs ++ (z ∷ ws)) same) here none other more)
    ∙ ap (λ (e : Entry). e ∷ zs) (head_is v y (xs ++ (x ∷ ys)) (zs ++ (z ∷ ws)) same)

-- ---- entries

module _ (states : OneState) where
  one_step : (c g h : Durable) (e : Entry) → LeadsOn c e g → LeadsOn c e h → g ≡ h
  one_step c g h e a b = states c g h (e ∷ []) (g, a, refl) (h, b, refl)

  -- entries of the layout's kinds that lead on have their places
  no_way : (layout : Layout) (c d state : Durable) (before behind : List Entry) (here : Entry) → AreKnown layout (before ++ (here ∷ behind)) → Leads c (before ++ (here ∷ behind)) d → Leads c before state → HasNoPlace layout state here → ⊥
  no_way layout c d state [] behind here known whole front (inl other) = both (is_of layout here.kind) known.0 other
  no_way layout c d state [] behind here known whole front (inr none) =
      let no : next state whole.1.said ≡ None = none whole.1.said whole.1.is in
      let some : next state whole.1.said ≡ Some whole.0 = subst (λ (g : Durable). next g whole.1.said ≡ Some whole.0) front whole.1.step in
      let clash : None ≡ Some whole.0 = sym no ∙ some in
      absurd cc
  no_way layout c d state (x ∷ before) behind here known whole front none =
      let same : front.0 ≡ whole.0 = one_step c front.0 whole.0 x front.1 whole.1 in
      no_way layout whole.0 d state before behind here known.1 whole.2 (subst (λ (g : Durable). Leads g before state) same front.2) none

  -- the first one without a place
  one_stop : (layout : Layout) (c s t : Durable) (xs ys zs ws : List Entry) (x z : Entry) → xs ++ (x ∷ ys) ≡ zs ++ (z ∷ ws) → AreKnown layout xs → Leads c xs s → HasNoPlace layout s x → AreKnown layout zs → Leads c zs t → HasNoPlace layout t z → xs ≡ zs
  one_stop layout c s t [] ys [] ws x z same known a stop others b none = refl
  one_stop layout c s t [] ys (y ∷ zs) ws x z same known a stop others b none =
      let first : x ≡ y = head_is x y ys (zs ++ (z ∷ ws)) same in
      absurd (no_way layout c b.0 s [] [] x (subst (λ (e : Entry). is_of layout e.kind ≡ true) (sym first) others.0, tt) (b.0, subst (λ (e : Entry). LeadsOn c e b.0) (sym first) b.1, refl) a stop)
  one_stop layout c s t (v ∷ xs) ys [] ws x z same known a stop others b none =
      let first : v ≡ z = head_is v z (xs ++ (x ∷ ys)) ws same in
      absurd (no_way layout c a.0 t [] [] z (subst (λ (e : Entry). is_of layout e.kind ≡ true) first known.0, tt) (a.0, subst (λ (e : Entry). LeadsOn c e a.0) first a.1, refl) b none)
  one_stop layout c s t (v ∷ xs) ys (y ∷ zs) ws x z same known a stop others b none =
      let first : v ≡ y = head_is v y (xs ++ (x ∷ ys)) (zs ++ (z ∷ ws)) same in
      let state : a.0 ≡ b.0 = one_step c a.0 b.0 y (subst (λ (e : Entry). LeadsOn c e a.0) first a.1) b.1 in
      ap (λ (l : List Entry). v ∷ l) (one_stop layout a.0 s t xs ys zs ws x z (tail_is v y (xs ++ (x ∷ ys)) (zs ++ (z ∷ ws)) same) known.1 a.2 stop others.1 (subst (λ (g : Durable). Leads g zs t) (sym state) b.2) none)
      ∙ ap (λ (e : Entry). e ∷ zs) first

-- ---- journals

-- two regions at one place
module _ (a b : Region) (image : List ℕ) (at : a.at ≡ b.at) (end : end_of a ≡ end_of b) where
  moved_stands : (es : List Entry) → Stands a es image → Stands b es image
  moved_stands es stands = subst (λ (n : ℕ). StandsFrom b.at n es image) end (subst (λ (n : ℕ). StandsFrom n (end_of a) es image) at stands)

  moved : (layout : Layout) (checkpoint : Tables) (x : ℕ) → IsBadJournal layout checkpoint a image x → IsBadJournal layout checkpoint b image x
  moved layout checkpoint x (inl p) = inl (subst (λ (n : ℕ). DamagedFrom b.at n x image) end (subst (λ (n : ℕ). DamagedFrom n (end_of a) x image) at p))
  moved layout checkpoint x (inr (inl p)) =
      inr (inl (record {
        before = p.before;
        here = p.here;
        behind = p.behind;
        stands = moved_stands (p.before ++ (p.here ∷ p.behind)) p.stands;
        state = p.state;
        known = p.known;
        leads = p.leads;
        no_place = p.no_place;
        place = p.place ∙ ap (λ (n : ℕ). n + length (laid p.before)) at;
      }))
  moved layout checkpoint x (inr (inr p)) =
      inr (inr (record {
        before = p.before;
        here = p.here;
        behind = p.behind;
        stands = moved_stands (p.before ++ (p.here ∷ p.behind)) p.stands;
        state = p.state;
        leads = p.leads;
        short = omega (arith, p.short, at, end);
        known = p.known;
        holds = p.holds;
        none_behind = p.none_behind;
        place = p.place ∙ ap (λ (n : ℕ). n + length (laid p.before)) at;
      }))

-- ---- images

no_store : (image : List ℕ) (at : ℕ) (store : Store) → active_of image ≡ Err (damaged at) → active_of image ≡ Ok store → ⊥
no_store image at store bad active = let clash : Err (damaged at) ≡ Ok store = sym bad ∙ active in absurd cc

same_damage : (a b : ℕ) (r : Result Store Refusal) → r ≡ Err (damaged a) → r ≡ Err (damaged b) → a ≡ b
same_damage a b r p q = let same : Err (damaged a) ≡ Err (damaged b) = sym p ∙ q in cc

module _ (checkpoints : OneCheckpoint) (not_bad : CheckpointIsNotBad) where
  -- the pages have one checkpoint
  one_laid : (image : List ℕ) (s t : Store) (a b : Tables) → s ≡ t → HasCheckpoint image (half_pages (length image) s) a → HasCheckpoint image (half_pages (length image) t) b → a ≡ b
  one_laid image s t a b same p q = checkpoints image (half_pages (length image) t) a b (subst (λ (x : Store). HasCheckpoint image (half_pages (length image) x) a) same p) q

  no_bad_page : (image : List ℕ) (at : ℕ) → HasBadPage image at → (store : Store) → active_of image ≡ Ok store → (tables : Tables) → HasCheckpoint image (half_pages (length image) store) tables → ⊥
  no_bad_page image at p store active tables laid =
      let same : store ≡ p.store = one_store store p.store (active_of image) active p.active in
      not_bad image (half_pages (length image) p.store) tables at (subst (λ (x : Store). HasCheckpoint image (half_pages (length image) x) tables) same laid) p.bad

module _ (checkpoints : OneCheckpoint) (not_bad : CheckpointIsNotBad) (first_bad : OneFirstBadOfHalf) (readings : OneReading) (states : OneState) where
  module _ (layout : Layout) (checkpoint : Tables) (region : Region) (image : List ℕ) where
    one_bad : (a b : ℕ) → IsBadJournal layout checkpoint region image a → IsBadJournal layout checkpoint region image b → a ≡ b
    one_bad a b (inl p) (inl q) = readings.damage region image a b p q
    one_bad a b (inl p) (inr (inl q)) = absurd (readings.whole region image (q.before ++ (q.here ∷ q.behind)) a q.stands p)
    one_bad a b (inl p) (inr (inr q)) = absurd (readings.whole region image (q.before ++ (q.here ∷ q.behind)) a q.stands p)
    one_bad a b (inr (inl p)) (inl q) = absurd (readings.whole region image (p.before ++ (p.here ∷ p.behind)) b p.stands q)
    one_bad a b (inr (inr p)) (inl q) = absurd (readings.whole region image (p.before ++ (p.here ∷ p.behind)) b p.stands q)
    one_bad a b (inr (inl p)) (inr (inl q)) =
        let whole : p.before ++ (p.here ∷ p.behind) ≡ q.before ++ (q.here ∷ q.behind) = readings.records region image (p.before ++ (p.here ∷ p.behind)) (q.before ++ (q.here ∷ q.behind)) p.stands q.stands in
        p.place ∙ ap (λ (l : List Entry). region.at + length (laid l)) (one_stop states layout (at_checkpoint checkpoint) p.state q.state p.before p.behind q.before q.behind p.here q.here whole p.known p.leads p.no_place q.known q.leads q.no_place) ∙ sym q.place
    one_bad a b (inr (inl p)) (inr (inr q)) =
        let whole : q.before ++ (q.here ∷ q.behind) ≡ p.before ++ (p.here ∷ p.behind) = readings.records region image (q.before ++ (q.here ∷ q.behind)) (p.before ++ (p.here ∷ p.behind)) q.stands p.stands in
        absurd (no_way states layout (at_checkpoint checkpoint) q.state p.state p.before p.behind p.here (subst (λ (l : List Entry). AreKnown layout l) whole q.known) (subst (λ (l : List Entry). Leads (at_checkpoint checkpoint) l q.state) whole q.leads) p.leads p.no_place)
    one_bad a b (inr (inr p)) (inr (inl q)) =
        let whole : p.before ++ (p.here ∷ p.behind) ≡ q.before ++ (q.here ∷ q.behind) = readings.records region image (p.before ++ (p.here ∷ p.behind)) (q.before ++ (q.here ∷ q.behind)) p.stands q.stands in
        absurd (no_way states layout (at_checkpoint checkpoint) p.state q.state q.before q.behind q.here (subst (λ (l : List Entry). AreKnown layout l) whole p.known) (subst (λ (l : List Entry). Leads (at_checkpoint checkpoint) l p.state) whole p.leads) q.leads q.no_place)
    one_bad a b (inr (inr p)) (inr (inr q)) =
        let whole : p.before ++ (p.here ∷ p.behind) ≡ q.before ++ (q.here ∷ q.behind) = readings.records region image (p.before ++ (p.here ∷ p.behind)) (q.before ++ (q.here ∷ q.behind)) p.stands q.stands in
        let state : p.state ≡ q.state = states (at_checkpoint checkpoint) p.state q.state (q.before ++ (q.here ∷ q.behind)) (subst (λ (l : List Entry). Leads (at_checkpoint checkpoint) l p.state) whole p.leads) q.leads in
        let holds : HoldsForOne q.state.doubts p.here = subst (λ (s : Durable). HoldsForOne s.doubts p.here) state p.holds in
        let none : AllByRecursion (λ e. HoldsForOne q.state.doubts e → ⊥) p.behind = subst (λ (s : Durable). AllByRecursion (λ e. HoldsForOne s.doubts e → ⊥) p.behind) state p.none_behind in
        p.place ∙ ap (λ (l : List Entry). region.at + length (laid l)) (one_last (λ e. HoldsForOne q.state.doubts e) p.before p.behind q.before q.behind p.here q.here whole holds none q.holds q.none_behind) ∙ sym q.place

  pub one_damage : OneDamage
  one_damage image a b (inl p) (inl q) = same_damage a b (active_of image) p q
  one_damage image a b (inl p) (inr (inl q)) = absurd (no_store image a q.store p q.active)
  one_damage image a b (inl p) (inr (inr q)) = absurd (no_store image a q.3.store p q.3.active)
  one_damage image a b (inr (inl p)) (inl q) = absurd (no_store image b p.store q p.active)
  one_damage image a b (inr (inr p)) (inl q) = absurd (no_store image b p.3.store q p.3.active)
  one_damage image a b (inr (inl p)) (inr (inl q)) =
      let same : p.store ≡ q.store = one_store p.store q.store (active_of image) p.active q.active in
      first_bad forms image (half_pages (length image) q.store) a b (subst (λ (x : Store). BreaksHalf forms image (half_pages (length image) x) a) same p.bad) q.bad
  one_damage image a b (inr (inl p)) (inr (inr q)) = absurd (no_bad_page checkpoints not_bad image a p q.3.store q.3.active q.1 q.3.pages)
  one_damage image a b (inr (inr p)) (inr (inl q)) = absurd (no_bad_page checkpoints not_bad image b q p.3.store p.3.active p.1 p.3.pages)
  one_damage image a b (inr (inr p)) (inr (inr q)) =
      let same : p.3.store ≡ q.3.store = one_store p.3.store q.3.store (active_of image) p.3.active q.3.active in
      let layout : p.0 ≡ q.0 = sym p.3.layout_is ∙ ap (λ (x : Store). x.header.layout) same ∙ q.3.layout_is in
      let tables : p.1 ≡ q.1 = one_laid checkpoints not_bad image p.3.store q.3.store p.1 q.1 same p.3.pages q.3.pages in
      let at : p.2.at ≡ q.2.at = p.3.journal.begins ∙ ap (λ (s : Store). offset_of (half_len (length image)) s.half + 8192 * (1 + s.header.pages)) same ∙ sym q.3.journal.begins in
      let end : end_of p.2 ≡ end_of q.2 = p.3.journal.ends ∙ ap (λ (s : Store). offset_of (half_len (length image)) s.half + half_len (length image)) same ∙ sym q.3.journal.ends in
      one_bad q.0 q.1 q.2 image a b (moved p.2 q.2 image at end q.0 q.1 a (subst (λ (l : Layout). IsBadJournal l q.1 p.2 image a) layout (subst (λ (t : Tables). IsBadJournal p.0 t p.2 image a) tables p.4))) q.4

module _ (checkpoints : OneCheckpoint) (not_bad : CheckpointIsNotBad) (readings : OneReading) (states : OneState) where
  -- what stands in a journal that opens is not damaged
  bad_opens_not : (name : List ℕ) (d : Durable) (image : List ℕ) (store : Store) (region : Region) (at : ℕ) → (is : IsThere name d image store region) → IsBadJournal store.header.layout is.holds.checkpoint region image at → ⊥
  bad_opens_not name d image store region at is (inl p) = readings.whole region image is.es at is.holds.stands p
  bad_opens_not name d image store region at is (inr (inl p)) =
      let same : is.es ≡ p.before ++ (p.here ∷ p.behind) = readings.records region image is.es (p.before ++ (p.here ∷ p.behind)) is.holds.stands p.stands in
      no_way states store.header.layout (at_checkpoint is.holds.checkpoint) d p.state p.before p.behind p.here (subst (λ (l : List Entry). AreKnown store.header.layout l) same is.holds.known) (subst (λ (l : List Entry). Leads (at_checkpoint is.holds.checkpoint) l d) same is.holds.leads) p.leads p.no_place
  bad_opens_not name d image store region at is (inr (inr p)) =
      let same : is.es ≡ p.before ++ (p.here ∷ p.behind) = readings.records region image is.es (p.before ++ (p.here ∷ p.behind)) is.holds.stands p.stands in
      let state : d ≡ p.state = states (at_checkpoint is.holds.checkpoint) d p.state (p.before ++ (p.here ∷ p.behind)) (subst (λ (l : List Entry). Leads (at_checkpoint is.holds.checkpoint) l d) same is.holds.leads) p.leads in
      let long : length (laid is.es) ≡ length (laid (p.before ++ (p.here ∷ p.behind))) = ap (λ (l : List Entry). length (laid l)) same in
      let held : held_for store.header.layout d.doubts ≡ held_for store.header.layout p.state.doubts = ap (λ (s : Durable). held_for store.header.layout s.doubts) state in
      omega (arith, p.short, is.holds.room, long, held)

  pub damage_opens_not : OpensThere → DamageOpensNot
  damage_opens_not there_is name d image at opens (inl p) = no_store image at opens.3.store p opens.3.active
  damage_opens_not there_is name d image at opens (inr (inl p)) = no_bad_page checkpoints not_bad image at p opens.3.store opens.3.active opens.3.checkpoint opens.3.pages
  damage_opens_not there_is name d image at opens (inr (inr (layout, checkpoint, region, has, bad))) =
      let there : IsThere name d image has.store region = there_is name d image has.store region opens has.active has.journal in
      let tables : checkpoint ≡ there.holds.checkpoint = one_laid checkpoints not_bad image has.store there.holds.store checkpoint there.holds.checkpoint
      (one_store has.store there.holds.store (active_of image) has.active there.holds.active) has.pages there.holds.pages in
      bad_opens_not name d image has.store region at there (subst (λ (t : Tables). IsBadJournal has.store.header.layout t region image at) tables (subst (λ (l : Layout). IsBadJournal l checkpoint region image at) (sym has.layout_is) bad))
