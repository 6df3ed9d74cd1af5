-- A disk on which a byte may stand that does not count yet.
use Rattle.std.specs.Prelude.{◌≡◌, ◌⊎◌, ℕ, ◌+◌, ◌≤◌, ◌<◌, Bool, true, IsTrue, List, [], ◌∷◌, length, Option, Some, None, IfSome}
use Rattle.drda_words.specs.Place.{part}
use Rattle.drda_disk.specs.Disk.{Life, Now, Only, Torn, overlaid}
use Rattle.early_disk.specs.declared.early.EarlyByte.{EarlyByte}
use Rattle.early_disk.specs.Shown.{LeftBy, Shown, shown_life}

-- the disk inside, the byte that was written early, whether nothing was written since the last sync, and what is shown
pub record Parts (D : Type 0) : Type 0 where
  pub inner : D
  pub early : Option EarlyByte
  pub is_settled : Bool
  pub shown : Shown D

module _ {D : Type 0} (modelled : Bool) (life : D → Life) where
  -- its member `life`
  abbrev pub life_of : Parts D → Life
  life_of p = shown_life modelled life p.shown (life p.inner).faults

  -- it was read at some moment, or a crash may have left it then
  abbrev pub WasSeen : Shown D → List ℕ → Type 0
  WasSeen s c = (c ≡ s.seen) ⊎ LeftBy modelled life s.pasts 0 c

  -- it is read, or a crash now may leave it
  abbrev pub IsSeen : Shown D → List ℕ → Type 0
  IsSeen s c = (c ≡ s.seen) ⊎ LeftBy modelled life s.pasts s.moment c

-- what may be left besides, by what is read, is as `allows` says
module _ {D : Type 0} (modelled : Bool) (life : D → Life) (allows : List ℕ → List ℕ → Type 0) where
  -- of a disk that gives back what was written: what stands on the disk inside while no byte is early
  pub record IsPlain (inner : D) (s : Shown D) : Type 0 where
    pub seen : (life inner).seen ≡ s.seen
    pub images : (c : List ℕ) → Now (life inner) c → IsSeen modelled life s c

  -- and while one is
  pub record IsAhead (inner : D) (e : EarlyByte) (s : Shown D) : Type 0 where
    pub was : part s.seen e.at 1 ≡ e.was ∷ []
    pub seen : Torn e.at 1 s.seen (life inner).seen
    pub written : e.is_written ≡ true → (life inner).seen ≡ overlaid s.seen e.at (e.byte ∷ [])
    pub images : (c : List ℕ) → Now (life inner) c → (d : List ℕ) × IsSeen modelled life s d × Torn e.at 1 d c
    pub allowed : (d c : List ℕ) → IsSeen modelled life s d → Torn e.at 1 d c → allows d c

  abbrev pub Stands : D → Option EarlyByte → Shown D → Type 0
  Stands inner None s = IsPlain inner s
  Stands inner (Some e) s = IsAhead inner e s

  -- an image may be left besides one: but for one byte it is that, and the rule allows it
  abbrev pub Besides : List ℕ → List ℕ → Type 0
  Besides base c = ((at : ℕ) × Torn at 1 base c) × allows base c

  -- each image of the disk inside since it lies here is one that was shown, or one that may be left besides one that was
  abbrev pub HasLeft : D → Shown D → Type 0
  HasLeft inner s = (c : List ℕ) → (life inner).left_since s.first c → WasSeen modelled life s c ⊎ ((base : List ℕ) × WasSeen modelled life s base × Besides base c)

  pub record IsShown (inner : D) (early : Option EarlyByte) (is_settled : Bool) (s : Shown D) : Type 0 where
    pub size : length (life inner).seen ≡ length s.seen
    pub inside : IfSome early (λ (e : EarlyByte). e.at + 1 ≤ length s.seen)
    pub begins : s.first ≤ (life inner).moment
    pub none_later : (t : ℕ) (c : List ℕ) → s.moment < t → LeftBy modelled life s.pasts t c → ⊥
    pub settled : is_settled ≡ true → Only (life inner)
    pub stands : IsTrue modelled → Stands inner early s
    pub left : IsTrue modelled → HasLeft inner s

  -- a crash of the disk inside now leaves what one of what is shown may, or what may be left besides that
  abbrev pub LeavesNow : Parts D → Type 0
  LeavesNow p = (c : List ℕ) → IsTrue modelled → Now (life p.inner) c → Now (life_of modelled life p) c ⊎ ((base : List ℕ) × Now (life_of modelled life p) base × Besides base c)
