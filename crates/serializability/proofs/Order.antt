-- A commit of one unit leaves what another has read alone.
use Rattle.std.proofs.Common.{◌≡◌, ◌⊎◌, inl, inr, ⊎_elim, List, [], ◌∷◌, ◌++◌, refl, sym, ◌∙◌, subst}
use Rattle.serializability.specs.Words.{Words, AllWithin, Apart, Fewer, In, Laws, apply_all}
use Rattle.serializability.specs.Events.{Work, idle, view, Done, outcome, asked, kept, Entry}
use Rattle.serializability.specs.Serial.{Alone}

pub in_append : {X : Type 0} (x : X) (xs ys : List X) → In x (xs ++ ys) → In x xs ⊎ In x ys
in_append x [] ys i = inr i
in_append x (z ∷ zs) ys (inl e) = inl (inl e)
in_append x (z ∷ zs) ys (inr i) = ⊎_elim (λ a. inl (inr a)) (λ b. inr b) (in_append x zs ys i)

pub in_left : {X : Type 0} (x : X) (xs ys : List X) → In x xs → In x (xs ++ ys)
in_left x [] ys i = absurd i
in_left x (z ∷ zs) ys (inl e) = inl e
in_left x (z ∷ zs) ys (inr i) = inr (in_left x zs ys i)

pub in_right : {X : Type 0} (x : X) (xs ys : List X) → In x ys → In x (xs ++ ys)
in_right x [] ys i = i
in_right x (z ∷ zs) ys i = inr (in_right x zs ys i)

module _ (w : Words) (l : Laws w) where
  -- over a store that has more
  pub lies_grow : (xs : List w.Change) (cs : List w.Claim) (s t : w.Store) → l.Grows s t → AllWithin w s xs cs → AllWithin w t xs cs
  lies_grow xs cs s t g lies x i = l.within_grows x cs s t g (lies x i)

  pub grows_all : (xs : List w.Change) (s : w.Store) → l.Grows s (apply_all w xs s)
  grows_all [] s = l.grows_refl s
  grows_all (x ∷ xs) s = l.grows_trans s (w.apply x s) (apply_all w xs (w.apply x s)) (l.grows_apply x s) (grows_all xs (w.apply x s))

  pub sound_all : (xs : List w.Change) (cs : List w.Claim) (s : w.Store) → w.Sound s → AllWithin w s xs cs → w.Sound (apply_all w xs s)
  sound_all [] cs s sound lies = sound
  sound_all (x ∷ xs) cs s sound lies =
      sound_all xs cs (w.apply x s) (l.sound_apply x cs s sound (lies x (inl refl))) (lies_grow xs cs s (w.apply x s) (l.grows_apply x s) (λ y i. lies y (inr i)))

  -- the key lemma, of one unit's changes
  pub foreign_all : (xs : List w.Change) (cs ds : List w.Claim) (s : w.Store) → AllWithin w s xs ds → Apart w ds cs → l.Agree cs s (apply_all w xs s)
  foreign_all [] cs ds s lies apart = l.agree_refl cs s
  foreign_all (x ∷ xs) cs ds s lies apart =
      l.agree_trans cs s (w.apply x s) (apply_all w xs (w.apply x s)) (l.foreign x cs ds s (lies x (inl refl)) apart)
      (foreign_all xs cs ds (w.apply x s) (lies_grow xs ds s (w.apply x s) (l.grows_apply x s) (λ y i. lies y (inr i))) apart)

  pub own_all : (xs : List w.Change) (cs : List w.Claim) (s t : w.Store) → AllWithin w s xs cs → l.Agree cs s t → l.Agree cs (apply_all w xs s) (apply_all w xs t)
  own_all [] cs s t lies agree = agree
  own_all (x ∷ xs) cs s t lies agree =
      own_all xs cs (w.apply x s) (w.apply x t) (lies_grow xs cs s (w.apply x s) (l.grows_apply x s) (λ y i. lies y (inr i))) (l.own x cs s t (lies x (inl refl)) agree)

  -- one call more keeps the changes in the claims
  pub kept_lies : (s : w.Store) (u : Work w) (call : w.Call) → w.Sound s → AllWithin w s u.changes u.claims → AllWithin w s (kept w s u call).changes (kept w s u call).claims
  kept_lies s u call sound lies x i =
      let cs = w.claims call (view w s u) in
      ⊎_elim
      (λ a. l.within_more s x u.claims (w.added u.claims cs) (l.added_old u.claims cs) (lies x a))
      (λ b. l.lies call u.changes u.claims s x sound lies b)
      (in_append x u.changes (w.changes call u.changes (view w s u)) i)

  pub alone_fewer : (s : w.Store) (u : Work w) (es : List (Entry w)) (v : Work w) → Alone w s u es v → Fewer u.claims v.claims
  alone_fewer s u [] v same c i = let P : Work w → Type 0 = λ a. In c a.claims in subst P same i
  alone_fewer s u (e ∷ es) v alone c i = alone_fewer s (kept w s u e.call) es v alone.1 c (l.added_old u.claims (w.claims e.call (view w s u)) c i)

  -- over a store that agrees on all that the unit claims in the end, the calls have the same answers and changes
  pub moved : (s t : w.Store) (u : Work w) (es : List (Entry w)) (v : Work w) → w.Sound s → w.Sound t → l.Grows s t → Alone w s u es v → AllWithin w s u.changes u.claims → l.Agree v.claims s t → Alone w t u es v
  moved s t u [] v sound_s sound_t grows same lies agree = same
  moved s t u (e ∷ es) v sound_s sound_t grows alone lies agree =
      let cs = w.claims e.call (view w s u) in
      let more = alone_fewer s (kept w s u e.call) es v alone.1 in
      let old : Fewer u.claims v.claims = λ c i. more c (l.added_old u.claims cs c i) in
      let views : l.Agree v.claims (view w s u) (view w t u) = own_all u.changes v.claims s t (λ x i. l.within_more s x u.claims v.claims old (lies x i)) agree in
      let here : l.Agree cs (view w s u) (view w t u) = l.agree_fewer cs v.claims (view w s u) (view w t u) (λ c i. more c (l.added_new u.claims cs c i)) views in
      let good_s : w.Sound (view w s u) = sound_all u.changes u.claims s sound_s lies in
      let good_t : w.Sound (view w t u) = sound_all u.changes u.claims t sound_t (lies_grow u.changes u.claims s t grows lies) in
      let one = l.same_claims e.call (view w s u) (view w t u) good_s good_t here in
      let two = l.same_answer e.call u.changes (view w s u) (view w t u) good_s good_t here in
      let three = l.same_changes e.call u.changes (view w s u) (view w t u) good_s good_t here in
      let next : kept w s u e.call ≡ kept w t u e.call = λ i. record { changes = u.changes ++ three i; claims = w.added u.claims (one i) } in
      let same : asked w [] s u e.call ≡ asked w [] t u e.call = λ i. outcome w [] u (one i) (two i) (three i) in
      let P : Work w → Type 0 = λ a. Alone w t a es v in (
        sym same ∙ alone.0 ∙ (λ i. Done e.answer (next i)),
        subst P next (moved s t (kept w s u e.call) es v sound_s sound_t grows alone.1 (kept_lies s u e.call sound_s lies) agree),
      )

  -- a commit of another unit
  pub after_commit : (s : w.Store) (es : List (Entry w)) (u v : Work w) → w.Sound s → Alone w s (idle w) es u → AllWithin w s v.changes v.claims → Apart w v.claims u.claims → Alone w (view w s v) (idle w) es u
  after_commit s es u v sound alone lies apart =
      moved s (view w s v) (idle w) es u sound (sound_all v.changes v.claims s sound lies) (grows_all v.changes s) alone (λ x i. absurd i)
      (foreign_all v.changes u.claims v.claims s lies apart)
