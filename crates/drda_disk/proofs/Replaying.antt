-- What one recorded call more makes of a disk in memory.
use Rattle.std.proofs.Common.{◌≡◌, ◌⊎◌, inl, inr, ℕ, zero, suc, ◌+◌, ◌≤◌, List, [], ◌∷◌, ◌++◌, length, drop, refl, sym, ◌∙◌, ap, subst, arith}
use Rattle.std.proofs.lemmas.List.{drop_all, append-nil}
use Rattle.drda_disk.specs.Disk.{Torn, Only, Elapses, Stays, Tears}
use Rattle.drda_disk.specs.Replay.{Step, wrote, synced, written_over, Reaches, read_after, synced_after, unsynced, LeftSince, replayed, counts}
use Rattle.drda_disk.specs.Images.{Torn-over, over_is, read_is_image}

pub image_now : (first : List ℕ) (steps : List Step) (c : List ℕ) → LeftSince first steps (length steps) c → Reaches first steps c
image_now first steps c (zero, low, image) = image
image_now first steps c (suc k, low, image) = absurd (omega (arith, low))

module _ (first : List ℕ) (step : Step) (steps : List Step) (seen now : List ℕ) (faults more : ℕ) where
  elapses : Elapses (replayed first seen steps faults) (replayed first now (step ∷ steps) more)
  elapses = record {
    later = omega arith;
    nothing_else = λ t c le left. split t c left.0 left.1 left.2;
    keeps = λ t c le left. (suc left.0, omega (arith, left.1), left.2);
  }
    where
      split : (t : ℕ) (c : List ℕ) (k : ℕ) → k + t ≤ length (step ∷ steps) → Reaches first (drop k (step ∷ steps)) c → LeftSince first steps t c ⊎ LeftSince first (step ∷ steps) (length (step ∷ steps)) c
      split t c zero low image = inr (0, omega arith, image)
      split t c (suc k) low image = inl (k, omega (arith, low), image)

module _ (first seen : List ℕ) (steps : List Step) (faults : ℕ) (same : seen ≡ read_after first steps) where
  pub stays_synced : Stays (replayed first seen steps faults) (replayed first seen (synced ∷ steps) faults)
  stays_synced = record {
    later = omega arith;
    same = refl;
    no_more = λ c now. settled c (image_now first (synced ∷ steps) c now);
    nothing_new = λ t c le left. old_one t c le left.0 left.1 left.2;
    keeps = λ t c le left. (suc left.0, omega (arith, left.1), left.2);
  }
    where
      settled : (c : List ℕ) → c ≡ read_after first steps → LeftSince first steps (length steps) c
      settled c is = read_is_image first c steps is

      old_one : (t : ℕ) (c : List ℕ) → t ≤ length steps → (k : ℕ) → k + t ≤ length (synced ∷ steps) → Reaches first (drop k (synced ∷ steps)) c → LeftSince first steps t c
      old_one t c le zero low image = counts first steps t c le (settled c image)
      old_one t c le (suc k) low image = (k, omega (arith, low), image)

  pub only_synced : Only (replayed first seen (synced ∷ steps) faults)
  only_synced c now = image_now first (synced ∷ steps) c now ∙ sym same

module _ (first seen now : List ℕ) (at : ℕ) (bytes : List ℕ) (steps : List Step) (faults : ℕ) where
  pub tears : seen ≡ read_after first steps → now ≡ written_over seen at bytes → Tears at (length bytes) (replayed first seen steps faults) (replayed first now (wrote at bytes ∷ steps) faults)
  tears same is = record {
    time = elapses first (wrote at bytes) steps seen now faults faults;
    others = subst (λ (l : List ℕ). Torn at (length bytes) seen l) (sym is) (Torn-over seen at bytes);
    images = λ c left. from c (image_now first (wrote at bytes ∷ steps) c left);
  }
    where
      from : (c : List ℕ) → Reaches first (wrote at bytes ∷ steps) c → (d : List ℕ) × LeftSince first steps (length steps) d × Torn at (length bytes) d c
      from c (d, reaches, torn) = (d, (0, omega arith, reaches), torn)

pub length-read_after : (first : List ℕ) (steps : List Step) → length (read_after first steps) ≡ length first
length-read_after first [] = refl
length-read_after first (wrote at bytes ∷ steps) = (Torn-over (read_after first steps) at bytes).size ∙ length-read_after first steps
length-read_after first (synced ∷ steps) = length-read_after first steps

pub length-synced_after : (first : List ℕ) (steps : List Step) → length (synced_after first steps) ≡ length first
length-synced_after first [] = refl
length-synced_after first (wrote at bytes ∷ steps) = length-synced_after first steps
length-synced_after first (synced ∷ steps) = length-read_after first steps

-- what was read at the last sync and the writes since say all
pub read_since : (first : List ℕ) (steps : List Step) → read_after (synced_after first steps) (unsynced steps) ≡ read_after first steps
read_since first [] = refl
read_since first (wrote at bytes ∷ steps) = ap (λ (l : List ℕ). written_over l at bytes) (read_since first steps)
read_since first (synced ∷ steps) = refl

pub reaches_all : (first : List ℕ) (steps : List Step) (c : List ℕ) → Reaches (synced_after first steps) (unsynced steps) c → Reaches first steps c
reaches_all first [] c reaches = reaches
reaches_all first (wrote at bytes ∷ steps) c (d, reaches, torn) = (d, reaches_all first steps d reaches, torn)
reaches_all first (synced ∷ steps) c reaches = reaches

pub reaches_since : (first : List ℕ) (steps : List Step) (c : List ℕ) → Reaches first steps c → Reaches (synced_after first steps) (unsynced steps) c
reaches_since first [] c reaches = reaches
reaches_since first (wrote at bytes ∷ steps) c (d, reaches, torn) = (d, reaches_since first steps d reaches, torn)
reaches_since first (synced ∷ steps) c reaches = reaches

-- steps over bytes that were written as a whole, and synced
module _ (first all : List ℕ) (len : length all ≡ length first) where
  pub wrote_all : written_over first 0 all ≡ all
  wrote_all = over_is first 0 all (omega (arith, len)) ∙ ap (λ (l : List ℕ). all ++ l) (drop_all (0 + length all) first (omega (arith, len))) ∙ append-nil all

  pub anew_read : (steps : List Step) → read_after first (unsynced steps ++ synced ∷ (wrote 0 all ∷ [])) ≡ read_after all (unsynced steps)
  anew_read [] = wrote_all
  anew_read (wrote at bytes ∷ steps) = ap (λ (l : List ℕ). written_over l at bytes) (anew_read steps)
  anew_read (synced ∷ steps) = wrote_all

  pub anew_synced : (steps : List Step) → synced_after first (unsynced steps ++ synced ∷ (wrote 0 all ∷ [])) ≡ all
  anew_synced [] = wrote_all
  anew_synced (wrote at bytes ∷ steps) = anew_synced steps
  anew_synced (synced ∷ steps) = wrote_all

  pub anew_since : (steps : List Step) → unsynced (unsynced steps ++ synced ∷ (wrote 0 all ∷ [])) ≡ unsynced steps
  anew_since [] = refl
  anew_since (wrote at bytes ∷ steps) = ap (λ (l : List Step). wrote at bytes ∷ l) (anew_since steps)
  anew_since (synced ∷ steps) = refl

-- of two disks in the same state
module _ (first second : List ℕ) (steps others : List Step) (s : synced_after first steps ≡ synced_after second others) (since : unsynced steps ≡ unsynced others) where
  pub same_images : (c : List ℕ) → LeftSince first steps (length steps) c → LeftSince second others (length others) c
  same_images c left = (
    0,
    omega arith,
    reaches_all second others c
        (subst (λ (l : List ℕ). Reaches l (unsynced others) c) s (subst (λ (l : List Step). Reaches (synced_after first steps) l c) since (reaches_since first steps c (image_now first steps c left)))),
  )

length-reaches : (first : List ℕ) (steps : List Step) (c : List ℕ) → Reaches first steps c → length c ≡ length first
length-reaches first [] c reaches = ap length reaches
length-reaches first (wrote at bytes ∷ steps) c (d, reaches, torn) = torn.size ∙ length-reaches first steps d reaches
length-reaches first (synced ∷ steps) c reaches = ap length reaches ∙ length-read_after first steps

-- a disk, and what is kept of its past
module _ (zeros bytes durable : List ℕ) (steps pending : List Step) (read_is : bytes ≡ read_after zeros steps) (durable_is : durable ≡ synced_after zeros steps) (since : pending ≡ unsynced steps) where
  len : length durable ≡ length zeros
  len = ap length durable_is ∙ length-synced_after zeros steps

  pub all_again : read_after durable pending ≡ bytes
  all_again = ap (λ (l : List ℕ). read_after l pending) durable_is ∙ ap (λ (s : List Step). read_after (synced_after zeros steps) s) since ∙ read_since zeros steps ∙ sym read_is

  -- a crash
  module _ (left : List ℕ) (reaches : Reaches durable pending left) where
    pub crash_len : length bytes ≡ length left
    crash_len = ap length read_is ∙ length-read_after zeros steps ∙ sym (length-reaches durable pending left reaches ∙ len)

    pub crash_image : LeftSince zeros steps (length steps) left
    crash_image =
        (0, omega arith, reaches_all zeros steps left (subst (λ (s : List Step). Reaches (synced_after zeros steps) s left) since (subst (λ (l : List ℕ). Reaches l pending left) durable_is reaches)))

    module _ (anew : List Step) (is : anew ≡ synced ∷ (wrote 0 left ∷ [])) where
      left_len : length left ≡ length zeros
      left_len = length-reaches durable pending left reaches ∙ len

      pub crash_read : left ≡ read_after zeros anew
      crash_read = sym (ap (λ (s : List Step). read_after zeros s) is ∙ wrote_all zeros left left_len)

      pub crash_durable : left ≡ synced_after zeros anew
      crash_durable = sym (ap (λ (s : List Step). synced_after zeros s) is ∙ wrote_all zeros left left_len)

      pub crash_since : [] ≡ unsynced anew
      crash_since = sym (ap (λ (s : List Step). unsynced s) is)

  -- a copy
  module _ (copied : List Step) (is : copied ≡ pending ++ synced ∷ (wrote 0 durable ∷ [])) where
    from : copied ≡ unsynced steps ++ synced ∷ (wrote 0 durable ∷ [])
    from = is ∙ ap (λ (s : List Step). s ++ synced ∷ (wrote 0 durable ∷ [])) since

    pub copy_read : bytes ≡ read_after zeros copied
    copy_read =
        sym (ap (λ (s : List Step). read_after zeros s) from ∙ anew_read zeros durable len steps ∙ ap (λ (s : List Step). read_after durable s) (sym since) ∙ all_again)

    pub copy_durable : durable ≡ synced_after zeros copied
    copy_durable = sym (ap (λ (s : List Step). synced_after zeros s) from ∙ anew_synced zeros durable len steps)

    pub copy_since : pending ≡ unsynced copied
    copy_since = since ∙ sym (ap (λ (s : List Step). unsynced s) from ∙ anew_since zeros durable len steps)

    pub copy_images : (c : List ℕ) → LeftSince zeros copied (length copied) c → LeftSince zeros steps (length steps) c
    copy_images = same_images zeros zeros copied steps (sym copy_durable ∙ durable_is) (sym copy_since ∙ since)

    pub copy_all_images : (c : List ℕ) → LeftSince zeros steps (length steps) c → LeftSince zeros copied (length copied) c
    copy_all_images = same_images zeros zeros steps copied (sym durable_is ∙ copy_durable) (sym since ∙ copy_since)
