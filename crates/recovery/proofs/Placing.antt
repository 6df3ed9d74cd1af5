-- Changes have their places one behind another.
use Rattle.std.proofs.Common.{◌≡◌, List, [], ◌∷◌, ◌++◌, Bool, true, ◌&&◌, refl, sym, ap, ◌∙◌, append_assoc}
use Rattle.row_values.specs.declared.row.ReadError.{ReadError}
use Rattle.row_values.specs.declared.row.ReadError.TheVariants.{Damaged, NoMemory}
use Rattle.tables.specs.Change.{Change}
use Rattle.tables.specs.Tables.{Store, apply}
use Rattle.core_model.specs.Units.{apply_all}
use Rattle.recovery.specs.Durable.{has_place, have_places}
use Rattle.recovery.specs.Replay.{Fails}

-- changes are made one behind another
pub all_then : (xs ys : List Change) (s : Store) → apply_all (xs ++ ys) s ≡ apply_all ys (apply_all xs s)
all_then [] ys s = refl
all_then (x ∷ xs) ys s = all_then xs ys (apply x s)

-- the next change of those that are left
module _ (unit left rest : List Change) (x : Change) (s : Store) (is : left ≡ x ∷ rest) where
  pub all_more : (more all : List Change) → more ≡ unit ++ x ∷ [] → unit ++ left ≡ all → more ++ rest ≡ all
  all_more more all one whole = ap (λ (l : List Change). l ++ rest) one ∙ append_assoc unit (x ∷ []) rest ∙ sym (ap (λ (l : List Change). unit ++ l) is) ∙ whole

  pub placed_more : (more : List Change) (all : Bool) → more ≡ unit ++ x ∷ [] → has_place x (apply_all unit s) ≡ true → have_places left (apply_all unit s) ≡ all → have_places rest (apply_all more s) ≡ all
  placed_more more all one placed whole =
      ap (λ (u : List Change). have_places rest (apply_all u s)) one ∙ ap (have_places rest) (all_then unit (x ∷ []) s)
      ∙ sym (ap (λ (b : Bool). b && have_places rest (apply x (apply_all unit s))) placed) ∙ sym (ap (λ (l : List Change). have_places l (apply_all unit s)) is) ∙ whole

  pub not_placed : (error : ReadError) (all : Bool) → Fails error (has_place x (apply_all unit s)) → have_places left (apply_all unit s) ≡ all → Fails error all
  not_placed Damaged all none whole =
      sym whole ∙ ap (λ (l : List Change). have_places l (apply_all unit s)) is ∙ ap (λ (b : Bool). b && have_places rest (apply x (apply_all unit s))) none
  not_placed NoMemory all none whole = tt
