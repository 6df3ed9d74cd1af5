-- Units as a list, the owners numbers.
use Rattle.std.specs.Prelude.{ℕ, Bool, true, false, List, [], ◌∷◌, ◌++◌, ◌==◌, if◌then◌else◌}
use Rattle.serializability.specs.Words.{Words}
use Rattle.serializability.specs.Events.{UnitMap, Work, idle}

pub record Held (w : Words) : Type 0 where
  pub owner : ℕ
  pub work : Work w

abbrev pub unit_of : (w : Words) → ℕ → List (Held w) → Work w
unit_of w o [] = idle w
unit_of w o (h ∷ hs) = if o == h.owner then h.work else unit_of w o hs

abbrev pub without : (w : Words) → ℕ → List (Held w) → List (Held w)
without w o [] = []
without w o (h ∷ hs) = if h.owner == o then without w o hs else h ∷ without w o hs

abbrev pub set_unit : (w : Words) → ℕ → Work w → List (Held w) → List (Held w)
set_unit w o u hs = record { owner = o; work = u } ∷ without w o hs

abbrev pub others : (w : Words) → ℕ → List (Held w) → List w.Claim
others w o [] = []
others w o (h ∷ hs) = if h.owner == o then others w o hs else h.work.claims ++ others w o hs

abbrev pub has : (w : Words) → ℕ → List (Held w) → Bool
has w o [] = false
has w o (h ∷ hs) = if o == h.owner then true else has w o hs

abbrev pub unit_list : (w : Words) → UnitMap w
unit_list w = record {
  Owner = ℕ;
  same = λ c o. c == o;
  Units = List (Held w);
  unit_of = unit_of w;
  set_unit = set_unit w;
  without = without w;
  others = others w;
  has = has w;
}
