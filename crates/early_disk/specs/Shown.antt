-- What a disk shows on which a byte may stand that does not count yet: the same as if it had not been written.
use Rattle.std.specs.Prelude.{◌≡◌, ◌⊎◌, ℕ, ◌+◌, ◌≤◌, Bool, IsTrue, List, [], ◌∷◌, if◌then◌else◌}
use Rattle.std.proofs.Common.{inl, inr, ⊎_elim, refl, arith}
use Rattle.drda_disk.specs.Disk.{Life, Now}

-- what was there before a write, and the disk inside behind it, of whose images a crash may have left each up to a moment
pub record Past (D : Type 0) : Type 0 where
  pub until : ℕ
  pub seen : List ℕ
  pub disk : D

-- what a read gives, the moment, and what was there; the moment of the disk inside at first
pub record Shown (D : Type 0) : Type 0 where
  pub seen : List ℕ
  pub moment : ℕ
  pub pasts : List (Past D)
  pub first : ℕ

module _ {D : Type 0} (modelled : Bool) (life : D → Life) where
  -- a crash since a moment may have left it, by what was there
  abbrev pub LeftBy : List (Past D) → ℕ → List ℕ → Type 0
  LeftBy [] t c = ⊥
  LeftBy (p ∷ ps) t c = (t ≤ p.until × ((c ≡ p.seen) ⊎ Now (life p.disk) c)) ⊎ LeftBy ps t c

  abbrev pub LeftSince : Shown D → ℕ → List ℕ → Type 0
  LeftSince s t c = IsTrue modelled × ((c ≡ s.seen) ⊎ LeftBy s.pasts t c)

  abbrev pub shown_life : Shown D → ℕ → Life
  shown_life s faults = record { seen = s.seen; moment = s.moment; left_since = LeftSince s; faults = faults }

  -- behind a write that counts, with the disk inside behind it
  abbrev pub behind_write : Shown D → D → Shown D
  behind_write s inner = record s { seen = if modelled then (life inner).seen else s.seen; pasts = record { until = s.moment; seen = s.seen; disk = inner } ∷ s.pasts }

  -- what a crash may have left since a moment it may have left since an earlier one
  pub since_earlier : (ps : List (Past D)) (t m : ℕ) (c : List ℕ) → t ≤ m → LeftBy ps m c → LeftBy ps t c
  since_earlier [] t m c le left = left
  since_earlier (p ∷ ps) t m c le left = ⊎_elim (λ here. inl (omega (arith, le, here.0), here.1)) (λ there. inr (since_earlier ps t m c le there)) left

  pub read_is_image : (s : Shown D) → IsTrue modelled → LeftSince s s.moment s.seen
  read_is_image s is = (is, inl refl)

  pub counts : (s : Shown D) (t : ℕ) (c : List ℕ) → t ≤ s.moment → LeftSince s s.moment c → LeftSince s t c
  counts s t c le now = (now.0, ⊎_elim (λ same. inl same) (λ left. inr (since_earlier s.pasts t s.moment c le left)) now.1)

-- behind a sync
abbrev pub behind_sync : {D : Type 0} → Shown D → Shown D
behind_sync s = record s { moment = s.moment + 1 }

-- a disk over another, of whose images it shows the one that is read and those of the disk inside
abbrev pub first_shown : {D : Type 0} → List ℕ → ℕ → D → Shown D
first_shown seen moment inner = record { seen = seen; moment = 0; pasts = record { until = 0; seen = seen; disk = inner } ∷ []; first = moment }
