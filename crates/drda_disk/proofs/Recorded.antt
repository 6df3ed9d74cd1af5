-- The steps that a record of writes stands for.
use Rattle.std.proofs.Common.{◌≡◌, ℕ, ◌+◌, ◌<◌, ◌≤◌, List, [], ◌∷◌, ◌++◌, length, get_or, take, drop, refl, sym, ◌∙◌, ap, subst, arith, length-append, length-drop}
use Rattle.std.specs.Prelude.{reverse}
use Rattle.std.proofs.lemmas.List.{take_more, drop_at, drop-drop, drop-append-le, reverse-append, take-append-le}
use Rattle.std.proofs.Math.Seq.{take-length}
use Rattle.drda_disk.specs.Disk.{Torn}
use Rattle.drda_disk.specs.declared.replay.Write.{Write}
use Rattle.drda_disk.specs.Replay.{Step, wrote, written_over, read_after, Reaches}
use Rattle.drda_disk.specs.Recorded.{steps_from, steps_of, recorded_len}

steps_from-append : (ws vs : List Write) (bytes : List ℕ) → steps_from (ws ++ vs) bytes ≡ steps_from ws bytes ++ steps_from vs (drop (recorded_len ws) bytes)
steps_from-append [] vs bytes = refl
steps_from-append (w ∷ ws) vs bytes =
    ap (λ (l : List Step). wrote w.at (take w.len bytes) ∷ l) (steps_from-append ws vs (drop w.len bytes) ∙ ap (λ (l : List ℕ). steps_from ws (drop w.len bytes) ++ steps_from vs l) (drop-drop (recorded_len ws) w.len bytes))

recorded_len-append : (ws vs : List Write) → recorded_len (ws ++ vs) ≡ recorded_len ws + recorded_len vs
recorded_len-append [] vs = omega arith
recorded_len-append (w ∷ ws) vs = omega (arith, recorded_len-append ws vs)

-- bytes behind those that were written
steps_from-more : (ws : List Write) (bytes more : List ℕ) → recorded_len ws ≤ length bytes → steps_from ws (bytes ++ more) ≡ steps_from ws bytes
steps_from-more [] bytes more le = refl
steps_from-more (w ∷ ws) bytes more le =
    ap (λ (l : List ℕ). wrote w.at l ∷ steps_from ws (drop w.len (bytes ++ more))) (take-append-le w.len bytes more (omega arith))
    ∙ ap (λ (l : List ℕ). wrote w.at (take w.len bytes) ∷ steps_from ws l) (drop-append-le w.len bytes more (omega arith))
    ∙ ap (λ (l : List Step). wrote w.at (take w.len bytes) ∷ l) (steps_from-more ws (drop w.len bytes) more (omega (arith, length-drop w.len bytes)))

steps_of-append : (ws vs : List Write) (bytes : List ℕ) → steps_of (ws ++ vs) bytes ≡ reverse (steps_from vs (drop (recorded_len ws) bytes)) ++ steps_of ws bytes
steps_of-append ws vs bytes = ap (λ (l : List Step). reverse l) (steps_from-append ws vs bytes) ∙ reverse-append (steps_from ws bytes) (steps_from vs (drop (recorded_len ws) bytes))

-- a write is recorded
module _ (ws : List Write) (written : List ℕ) (w : Write) (bytes : List ℕ) (len : w.len ≡ length bytes) (whole : recorded_len ws ≡ length written) where
  pub steps_of-write : steps_of (ws ++ w ∷ []) (written ++ bytes) ≡ wrote w.at bytes ∷ steps_of ws written
  steps_of-write =
      steps_of-append ws (w ∷ []) (written ++ bytes)
      ∙ ap (λ (l : List ℕ). wrote w.at (take w.len l) ∷ steps_of ws (written ++ bytes)) (drop_at written bytes (recorded_len ws) (sym whole))
      ∙ ap (λ (l : List ℕ). wrote w.at l ∷ steps_of ws (written ++ bytes)) (ap (λ n. take n bytes) len ∙ take-length bytes)
      ∙ ap (λ (l : List Step). wrote w.at bytes ∷ reverse l) (steps_from-more ws written bytes (omega (arith, whole)))

  pub recorded_len-write : recorded_len (ws ++ w ∷ []) ≡ length (written ++ bytes)
  recorded_len-write = omega (arith, recorded_len-append ws (w ∷ []), length-append written bytes, whole, len)

-- the next of the recorded writes
module _ (ws : List Write) (written : List ℕ) (i : ℕ) (d : Write) (low : i < length ws) (rest : List ℕ) (at_rest : rest ≡ drop (recorded_len (take i ws)) written) where
  with_it : take (i + 1) ws ≡ take i ws ++ get_or ws i d ∷ []
  with_it = take_more ws i d low

  next_step : steps_of (take (i + 1) ws) written ≡ wrote (get_or ws i d).at (take (get_or ws i d).len rest) ∷ steps_of (take i ws) written
  next_step =
      ap (λ (l : List Write). steps_of l written) with_it ∙ steps_of-append (take i ws) (get_or ws i d ∷ []) written
      ∙ ap (λ (l : List ℕ). wrote (get_or ws i d).at (take (get_or ws i d).len l) ∷ steps_of (take i ws) written) (sym at_rest)

  pub next_rest : drop (get_or ws i d).len rest ≡ drop (recorded_len (take (i + 1) ws)) written
  next_rest =
      let sum : recorded_len (take i ws) + (get_or ws i d).len ≡ recorded_len (take (i + 1) ws) = omega (arith, ap recorded_len with_it, recorded_len-append (take i ws) (get_or ws i d ∷ [])) in
      ap (λ (l : List ℕ). drop (get_or ws i d).len l) at_rest ∙ drop-drop (get_or ws i d).len (recorded_len (take i ws)) written ∙ ap (λ n. drop n written) sum

  -- it is made again, left by a crash, or noted
  module _ (bytes : List ℕ) (cut : bytes ≡ take (get_or ws i d).len rest) where
    next_bytes : steps_of (take (i + 1) ws) written ≡ wrote (get_or ws i d).at bytes ∷ steps_of (take i ws) written
    next_bytes = next_step ∙ ap (λ (l : List ℕ). wrote (get_or ws i d).at l ∷ steps_of (take i ws) written) (sym cut)

    pub next_redone : (first before after : List ℕ) → before ≡ read_after first (steps_of (take i ws) written) → after ≡ written_over before (get_or ws i d).at bytes → after ≡ read_after first (steps_of (take (i + 1) ws) written)
    next_redone first before after so_far redone =
        redone ∙ ap (λ (l : List ℕ). written_over l (get_or ws i d).at bytes) so_far ∙ sym (ap (λ (s : List Step). read_after first s) next_bytes)

    pub next_left : (first before after : List ℕ) → Reaches first (steps_of (take i ws) written) before → Torn (get_or ws i d).at (length bytes) before after → Reaches first (steps_of (take (i + 1) ws) written) after
    next_left first before after so_far torn = subst (λ (s : List Step). Reaches first s after) (sym next_bytes) (before, so_far, torn)

    pub next_noted : (base before after : List Step) → before ≡ steps_of (take i ws) written ++ base → after ≡ wrote (get_or ws i d).at bytes ∷ before → after ≡ steps_of (take (i + 1) ws) written ++ base
    next_noted base before after so_far noted =
        noted ∙ ap (λ (s : List Step). wrote (get_or ws i d).at bytes ∷ s) so_far ∙ sym (ap (λ (s : List Step). s ++ base) next_bytes)
