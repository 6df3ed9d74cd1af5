-- What holds along a run of units.
use Rattle.std.proofs.Common.{◌≡◌, ◌⊎◌, inl, inr, ⊎_elim, Bool, true, false, List, [], ◌∷◌, ◌++◌, refl, sym, ◌∙◌, ap, subst}
use Rattle.std.specs.Prelude.{if◌then◌else◌}
use Rattle.serializability.specs.Words.{Words, AllWithin, Apart, In, Laws, clashes_one, clashes}
use Rattle.serializability.specs.Events.{Work, idle, view, Outcome, Clashes, TooMany, Done, asked, kept, Entry, UnitMap, UnitMapLaws, Ended, World, Event, Ask, Commit, Leave, log_set, asked_in, happens, Moment, run, start, lost}
use Rattle.serializability.specs.Serial.{Alone, AllLie, Serially, SerialOrder, Unless}
use Rattle.serializability.proofs.Order.{grows_all, lies_grow, sound_all, kept_lies, after_commit}

pub if_false : (a b : Bool) → (if a then true else b) ≡ false → (a ≡ false) × (b ≡ false)
if_false true b e = cc
if_false false b e = (refl, e)

pub which : (b : Bool) → (b ≡ true) ⊎ (b ≡ false)
which true = inl refl
which false = inr refl

pub both : {X : Type 0} (b : Bool) → b ≡ true → b ≡ false → X
both true so ne = absurd (let e : true ≡ false = ne in cc)
both false so ne = absurd (let e : false ≡ true = so in cc)

module _ (w : Words) where
  clashes_none : (cs : List w.Claim) → clashes w cs [] ≡ false
  clashes_none [] = refl
  clashes_none (c ∷ cs) = clashes_none cs

  one_if : (c : w.Claim) (ds : List w.Claim) → clashes_one w c ds ≡ false → (d : w.Claim) → In d ds → w.clash c d ≡ false
  one_if c [] free d i = absurd i
  one_if c (e ∷ ds) free d (inl same) = ap (λ x. w.clash c x) same ∙ (if_false (w.clash c e) (clashes_one w c ds) free).0
  one_if c (e ∷ ds) free d (inr i) = one_if c ds (if_false (w.clash c e) (clashes_one w c ds) free).1 d i

  apart_if : (cs ds : List w.Claim) → clashes w cs ds ≡ false → Apart w cs ds
  apart_if [] ds free c d i j = absurd i
  apart_if (e ∷ cs) ds free c d (inl same) j = ap (λ x. w.clash x d) same ∙ one_if e ds (if_false (clashes_one w e ds) (clashes w cs ds) free).0 d j
  apart_if (e ∷ cs) ds free c d (inr i) j = apart_if cs ds (if_false (clashes_one w e ds) (clashes w cs ds) free).1 c d i j

  alone_push : (s : w.Store) (u : Work w) (es : List (Entry w)) (v : Work w) (call : w.Call) (a : w.Answer) → Alone w s u es v → asked w [] s v call ≡ Done a (kept w s v call) → Alone w s u (es ++ record { call = call; answer = a } ∷ []) (kept w s v call)
  alone_push s u [] v call a same done =
      let P : Work w → Type 0 = λ x. (asked w [] s x call ≡ Done a (kept w s x call)) × (kept w s x call ≡ kept w s v call) in subst P (sym same) (done, refl)
  alone_push s u (e ∷ es) v call a alone done = (alone.0, alone_push s (kept w s u e.call) es v call a alone.1 done)

  serially_push : (s : w.Store) (es : List (Ended w)) (t : w.Store) (e : Ended w) → Serially w s es t → Unless e.is_found (Alone w t (idle w) e.log e.work) → Serially w s (es ++ e ∷ []) (view w t e.work)
  serially_push s [] t e same alone =
      let P : w.Store → Type 0 = λ x. Unless e.is_found (Alone w x (idle w) e.log e.work) × (view w x e.work ≡ view w t e.work) in subst P (sym same) (alone, refl)
  serially_push s (f ∷ es) t e rest alone = (rest.0, serially_push (view w s f.work) es t e rest.1 alone)

  unless : (b : Bool) (X : Type 0) → (b ≡ false → X) → Unless b X
  unless true X x = tt
  unless false X x = x refl

module _ (w : Words) (l : Laws w) (k : UnitMap w) (kl : UnitMapLaws w k) where
  -- owners
  not_same : (c o : k.Owner) → k.same c o ≡ false → k.same o c ≡ false
  not_same c o ne = ⊎_elim (λ so. both (k.same c o) (subst (λ (x : k.Owner). k.same c x ≡ true) (sym (kl.same_is o c so)) (kl.same_itself c)) ne) (λ n. n) (which (k.same o c))

  same_by : (c o d : k.Owner) → k.same c o ≡ true → k.same d o ≡ true → k.same c d ≡ true
  same_by c o d so too = subst (λ (x : k.Owner). k.same c x ≡ true) (kl.same_is c o so ∙ sym (kl.same_is d o too)) (kl.same_itself c)

  pub record Holds (first : w.Store) (m : World w k) : Type 0 where
    pub alone : (c : k.Owner) → m.found c ≡ false → Alone w m.store (idle w) (m.logs c) (k.unit_of c m.units)
    pub sound : w.Sound m.store
    pub lies : (c : k.Owner) → AllWithin w m.store (k.unit_of c m.units).changes (k.unit_of c m.units).claims
    -- two that opening found in doubt may clash
    pub apart : (c d : k.Owner) → (k.same c d) ≡ false → m.found c ≡ false → Apart w (k.unit_of c m.units).claims (k.unit_of d m.units).claims
    pub serial : Serially w first m.ended m.store

  Apart_sym : (cs ds : List w.Claim) → Apart w cs ds → Apart w ds cs
  Apart_sym cs ds apart c d i j = l.clash_sym d c (apart d c j i)

  -- without the unit of o
  module _ (m : World w k) (o : k.Owner) where
    gone : (c : k.Owner) → (k.same c o) ≡ true → k.unit_of c (k.without o m.units) ≡ idle w
    gone c so = ap (λ n. k.unit_of n (k.without o m.units)) (kl.same_is c o so) ∙ kl.gone o m.units

    stays : (c : k.Owner) → (k.same c o) ≡ false → k.unit_of c (k.without o m.units) ≡ k.unit_of c m.units
    stays c ne = kl.stays c o m.units ne

    still : (c : k.Owner) → (k.same c o) ≡ false → lost w k o m.found c ≡ false → m.found c ≡ false
    still c ne f = sym (ap (λ b. if b then false else m.found c) ne) ∙ f

    lies_gone : (s : w.Store) → ((c : k.Owner) → AllWithin w s (k.unit_of c m.units).changes (k.unit_of c m.units).claims)
        → (c : k.Owner) → AllWithin w s (k.unit_of c (k.without o m.units)).changes (k.unit_of c (k.without o m.units)).claims
    lies_gone s all c =
        let P : Work w → Type 0 = λ u. AllWithin w s u.changes u.claims in
        ⊎_elim (λ so. subst P (sym (gone c so)) (λ x i. absurd i)) (λ n. subst P (sym (stays c n)) (all c)) (which (k.same c o))

    apart_gone : ((c d : k.Owner) → (k.same c d) ≡ false → m.found c ≡ false → Apart w (k.unit_of c m.units).claims (k.unit_of d m.units).claims)
        → (c d : k.Owner) → (k.same c d) ≡ false → lost w k o m.found c ≡ false → Apart w (k.unit_of c (k.without o m.units)).claims (k.unit_of d (k.without o m.units)).claims
    apart_gone all c d cd f x y i j =
        let P : Work w → Type 0 = λ u. In x u.claims in
        let Q : Work w → Type 0 = λ u. In y u.claims in
        ⊎_elim
        (λ so. absurd (subst P (gone c so) i))
        (λ n. ⊎_elim
        (λ so. absurd (subst Q (gone d so) j))
        (λ p. all c d cd (still c n f) x y (subst P (stays c n) i) (subst Q (stays d p) j))
        (which (k.same d o)))
        (which (k.same c o))

    -- over a store where the other units are as before
    alone_gone : (s : w.Store) → ((c : k.Owner) → (k.same c o) ≡ false → m.found c ≡ false → Alone w s (idle w) (m.logs c) (k.unit_of c m.units))
        → (c : k.Owner) → lost w k o m.found c ≡ false → Alone w s (idle w) (log_set w k o [] m.logs c) (k.unit_of c (k.without o m.units))
    alone_gone s all c f =
        let P : Bool → Type 0 = λ b. Alone w s (idle w) (if b then [] else m.logs c) (k.unit_of c (k.without o m.units)) in
        let Q : Work w → Type 0 = λ u. Alone w s (idle w) (m.logs c) u in
        ⊎_elim
        (λ so. subst P (sym so) (sym (gone c so)))
        (λ n. subst P (sym n) (subst Q (sym (stays c n)) (all c n (still c n f))))
        (which (k.same c o))

  left : (first : w.Store) (m : World w k) (o : k.Owner) → Holds first m → Holds first (happens w k m (Leave o))
  left first m o h = record { alone = alone_gone m o m.store (λ c n f. h.alone c f); sound = h.sound; lies = lies_gone m o m.store h.lies; apart = apart_gone m o h.apart; serial = h.serial }

  committed : (first : w.Store) (m : World w k) (o : k.Owner) → Holds first m → Holds first (happens w k m (Commit o))
  committed first m o h =
      let u = k.unit_of o m.units in
      record {
        alone = alone_gone m o (view w m.store u) (λ c n f. after_commit w l m.store (m.logs c) (k.unit_of c m.units) u h.sound (h.alone c f) (h.lies o) (Apart_sym (k.unit_of c m.units).claims u.claims (h.apart c o n f)));
        sound = sound_all w l u.changes u.claims m.store h.sound (h.lies o);
        lies = lies_gone m o (view w m.store u) (λ c. lies_grow w l (k.unit_of c m.units).changes (k.unit_of c m.units).claims m.store (view w m.store u) (grows_all w l u.changes m.store) (h.lies c));
        apart = apart_gone m o h.apart;
        serial = serially_push w first m.ended m.store (record { is_found = m.found o; log = m.logs o; work = u }) h.serial (unless w (m.found o) (Alone w m.store (idle w) (m.logs o) u) (h.alone o));
      }

  done : (first : w.Store) (m : World w k) (o : k.Owner) (call : w.Call) → Holds first m → m.found o ≡ false
      → (let u = k.unit_of o m.units in clashes w (w.claims call (view w m.store u)) (k.others o m.units) ≡ false)
      → (let u = k.unit_of o m.units in asked w [] m.store u call ≡ Done (w.answer call u.changes (view w m.store u)) (kept w m.store u call))
      → (let u = k.unit_of o m.units in Holds first (asked_in w k m o call (Done (w.answer call u.changes (view w m.store u)) (kept w m.store u call))))
  done first m o call h begun free is =
      let u = k.unit_of o m.units in
      let cs = w.claims call (view w m.store u) in
      let a = w.answer call u.changes (view w m.store u) in
      let v0 = kept w m.store u call in
      let now : k.Owner → Work w = λ c. k.unit_of c (k.set_unit o v0 m.units) in
      let mine : (c : k.Owner) → (k.same c o) ≡ true → now c ≡ v0 = λ c so. ap (λ n. k.unit_of n (k.set_unit o v0 m.units)) (kl.same_is c o so) ∙ kl.set_here o v0 m.units in
      let other : (c : k.Owner) → (k.same c o) ≡ false → now c ≡ k.unit_of c m.units = λ c n. kl.set_elsewhere c o v0 m.units n in
      let new : (d : k.Owner) → (k.same d o) ≡ false → Apart w v0.claims (k.unit_of d m.units).claims = λ d n x y i j.
      ⊎_elim
      (λ old. h.apart o d (not_same d o n) begun x y old j)
      (λ this. apart_if w cs (k.others o m.units) free x y this (kl.others_has d o m.units y n j))
      (l.added_only u.claims cs x i) in
      record {
        alone = λ c f.
            let more = m.logs o ++ record { call = call; answer = a } ∷ [] in
            let P : Bool → Type 0 = λ b. Alone w m.store (idle w) (if b then more else m.logs c) (now c) in
            let R : Work w → Type 0 = λ v. Alone w m.store (idle w) more v in
            let Q : Work w → Type 0 = λ v. Alone w m.store (idle w) (m.logs c) v in
            ⊎_elim
            (λ so. subst P (sym so) (subst R (sym (mine c so)) (alone_push w m.store (idle w) (m.logs o) u call a (h.alone o begun) is)))
            (λ n. subst P (sym n) (subst Q (sym (other c n)) (h.alone c f)))
            (which (k.same c o));
        sound = h.sound;
        lies = λ c.
            let P : Work w → Type 0 = λ v. AllWithin w m.store v.changes v.claims in
            ⊎_elim (λ so. subst P (sym (mine c so)) (kept_lies w l m.store u call h.sound (h.lies o))) (λ n. subst P (sym (other c n)) (h.lies c)) (which (k.same c o));
        apart = λ c d cd f.
            let P : Work w → Work w → Type 0 = λ p q. Apart w p.claims q.claims in
            let sure : (p q : Work w) → now c ≡ p → now d ≡ q → Apart w p.claims q.claims → Apart w (now c).claims (now d).claims =
            λ p q cp dq here. subst (λ (x : Work w). P x (now d)) (sym cp) (subst (λ (y : Work w). P p y) (sym dq) here) in
            ⊎_elim
            (λ so. ⊎_elim
            (λ too. both (k.same c d) (same_by c o d so too) cd)
            (λ n. sure v0 (k.unit_of d m.units) (mine c so) (other d n) (new d n))
            (which (k.same d o)))
            (λ n. ⊎_elim
            (λ so. sure (k.unit_of c m.units) v0 (other c n) (mine d so) (Apart_sym v0.claims (k.unit_of c m.units).claims (new c n)))
            (λ p. sure (k.unit_of c m.units) (k.unit_of d m.units) (other c n) (other d p) (h.apart c d cd f))
            (which (k.same d o)))
            (which (k.same c o));
        serial = h.serial;
      }

  was_asked : (first : w.Store) (m : World w k) (o : k.Owner) (call : w.Call) → Holds first m → Holds first (happens w k m (Ask o call))
  was_asked first m o call h =
      let u = k.unit_of o m.units in
      let cs = w.claims call (view w m.store u) in
      let a = w.answer call u.changes (view w m.store u) in
      let v0 = kept w m.store u call in
      let full = w.is_full (w.added u.claims cs) in
      let two : Bool → Bool → Outcome w = λ p q. if p then Clashes else if q then TooMany else Done a v0 in
      let after : Bool → Bool → Bool → World w k = λ p q r. if p then m else asked_in w k m o call (two q r) in
      let P : World w k → Type 0 = λ x. Holds first x in
      let r = clashes w cs (k.others o m.units) in
      ⊎_elim
      (λ so. subst P (sym (ap (λ b. after b r full) so)) h)
      (λ begun. subst P (sym (ap (λ b. after b r full) begun)) (⊎_elim
      (λ so. subst P (sym (ap (λ b. after false b full) so)) h)
      (λ free. subst P (sym (ap (λ b. after false b full) free)) (⊎_elim
      (λ so. subst P (sym (ap (λ b. after false false b) so)) h)
      (λ n. subst P (sym (ap (λ b. after false false b) n)) (done first m o call h begun free (ap (λ b. two b full) (clashes_none w cs) ∙ ap (λ b. two false b) n)))
      (which full)))
      (which r)))
      (which (m.found o))

  pub goes_on : (first : w.Store) (m : World w k) (e : Event w k) → Holds first m → Holds first (happens w k m e)
  goes_on first m (Ask o call) h = was_asked first m o call h
  goes_on first m (Commit o) h = committed first m o h
  goes_on first m (Leave o) h = left first m o h

  run_holds : (first : w.Store) (es : List (Moment w k)) (m : World w k) → Holds first m → Holds first (run w k es m)
  run_holds first [] m h = h
  run_holds first (e ∷ es) m h =
      let P : Bool → Type 0 = λ b. Holds first (if b then happens w k m e.event else m) in
      run_holds first es (if e.is_taken then happens w k m e.event else m) (⊎_elim (λ so. subst P (sym so) (goes_on first m e.event h)) (λ n. subst P (sym n) h) (which e.is_taken))

  pub at_start : (s : w.Store) (units : k.Units) → w.Sound s → AllLie w k s units → Holds s (start w k s units)
  at_start s units sound all = record {
    sound = sound;
    alone = λ c f. sym (kl.has_not c units f);
    lies = all;
    apart = λ c d cd f x y i j. let P : Work w → Type 0 = λ u. In x u.claims in absurd (subst P (kl.has_not c units f) i);
    serial = refl;
  }

  pub serial_order : SerialOrder w k
  serial_order s units moments sound all = (run_holds s moments (start w k s units) (at_start s units sound all)).serial
