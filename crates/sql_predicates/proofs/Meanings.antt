-- What each kind of part means, by what its parts mean.
use Rattle.std.proofs.Common.{◌≡◌, ◌≤◌, ◌<◌, List, [], ◌∷◌, length, slice_index_or, refl, sym, ap, ◌∙◌, map, arith}
use Rattle.row_values.specs.Value.{Value}
use Rattle.row_values.specs.Column.{Column}
use Rattle.sql_text.specs.declared.tree.Predicate.{Predicate}
use Rattle.sql_text.specs.declared.tree.Predicate.TheOpen.{Predicate-F}
use Rattle.sql_text.specs.declared.tree.Predicate.TheFolds.{fold-Predicate, fold-roll-Predicate}
use Rattle.sql_text.specs.declared.tree.Predicate.TheVariants as predicate
use Rattle.sql_text.specs.declared.tree.Predicate.TheVariants.{rolls-All, rolls-Any, rolls-Group, rolls-Not}
use Rattle.sql_semantics.specs.Truth.{all_of, any_of, layer_truth, negated, truth}
use Rattle.sql_semantics.specs.declared.truth.Truth.{Truth}
use Rattle.sql_semantics.specs.declared.truth.Truth.TheVariants.{Fails, Holds, Unknown}
use Rattle.sql_predicates.specs.declared.test.Test.{Test}
use Rattle.sql_predicates.specs.declared.test.Test.TheOpen.{Test-F}
use Rattle.sql_predicates.specs.declared.test.Test.TheFolds.{fold-Test, fold-roll-Test}
use Rattle.sql_predicates.specs.declared.test.Test.TheVariants as test
use Rattle.sql_predicates.specs.declared.test.Test.TheVariants.{rolls-All as test_rolls-All, rolls-Any as test_rolls-Any, rolls-Not as test_rolls-Not}
use Rattle.sql_predicates.specs.Test.{layer_met, met}

met_any : (values : List Value) (tests : List Test) → met values (test.Any tests) ≡ any_of (map (met values) tests)
unfolding met
met_any values tests = ap (fold-Test Truth (layer_met values)) (sym (test_rolls-Any tests)) ∙ fold-roll-Test Truth (layer_met values) (Test-F.Any tests)

met_all : (values : List Value) (tests : List Test) → met values (test.All tests) ≡ all_of (map (met values) tests)
unfolding met
met_all values tests = ap (fold-Test Truth (layer_met values)) (sym (test_rolls-All tests)) ∙ fold-roll-Test Truth (layer_met values) (Test-F.All tests)

met_not : (values : List Value) (inner : Test) → met values (test.Not inner) ≡ negated (met values inner)
unfolding met
met_not values inner = ap (fold-Test Truth (layer_met values)) (sym (test_rolls-Not inner)) ∙ fold-roll-Test Truth (layer_met values) (Test-F.Not inner)

one_part : (ps : List Predicate) (part : Predicate) → 1 ≤ length ps → length ps < 2 → part ≡ slice_index_or ps 0 part → ps ≡ part ∷ []
one_part [] part some few first = absurd (omega arith)
one_part (p ∷ []) part some few first = ap (λ (q : Predicate). q ∷ []) (sym first)
one_part (p ∷ q ∷ ps) part some few first = absurd (omega arith)

either_fails : (t : Truth) → any_of (t ∷ []) ≡ t
either_fails Holds = refl
either_fails Fails = refl
either_fails Unknown = refl

both_holds : (t : Truth) → all_of (t ∷ []) ≡ t
both_holds Holds = refl
both_holds Fails = refl
both_holds Unknown = refl

module _ (params : List Value) (cs : List Column) where
  truth_any : (values : List Value) (parts : List Predicate) → truth params cs values (predicate.Any parts) ≡ any_of (map (truth params cs values) parts)
  unfolding truth
  truth_any values parts = ap (fold-Predicate Truth (layer_truth params cs values)) (sym (rolls-Any parts)) ∙ fold-roll-Predicate Truth (layer_truth params cs values) (Predicate-F.Any parts)

  truth_all : (values : List Value) (parts : List Predicate) → truth params cs values (predicate.All parts) ≡ all_of (map (truth params cs values) parts)
  unfolding truth
  truth_all values parts = ap (fold-Predicate Truth (layer_truth params cs values)) (sym (rolls-All parts)) ∙ fold-roll-Predicate Truth (layer_truth params cs values) (Predicate-F.All parts)

  truth_not : (values : List Value) (part : Predicate) → truth params cs values (predicate.Not part) ≡ negated (truth params cs values part)
  unfolding truth
  truth_not values part = ap (fold-Predicate Truth (layer_truth params cs values)) (sym (rolls-Not part)) ∙ fold-roll-Predicate Truth (layer_truth params cs values) (Predicate-F.Not part)

  truth_group : (values : List Value) (part : Predicate) → truth params cs values (predicate.Group part) ≡ truth params cs values part
  unfolding truth
  truth_group values part = ap (fold-Predicate Truth (layer_truth params cs values)) (sym (rolls-Group part)) ∙ fold-roll-Predicate Truth (layer_truth params cs values) (Predicate-F.Group part)

  pub any_means : (parts got : List Predicate) (p : Predicate) (tests : List Test) → got ≡ parts → p ≡ predicate.Any parts → ((values : List Value) → map (met values) tests ≡ map (truth params cs values) got)
      → (values : List Value) → met values (test.Any tests) ≡ truth params cs values p
  any_means parts got p tests same is bound values =
      met_any values tests ∙ ap any_of (bound values) ∙ ap (λ (ps : List Predicate). any_of (map (truth params cs values) ps)) same ∙ sym (ap (λ (q : Predicate). truth params cs values q) is ∙ truth_any values parts)

  pub all_means : (parts got : List Predicate) (p : Predicate) (tests : List Test) → got ≡ parts → p ≡ predicate.All parts → ((values : List Value) → map (met values) tests ≡ map (truth params cs values) got)
      → (values : List Value) → met values (test.All tests) ≡ truth params cs values p
  all_means parts got p tests same is bound values =
      met_all values tests ∙ ap all_of (bound values) ∙ ap (λ (ps : List Predicate). all_of (map (truth params cs values) ps)) same ∙ sym (ap (λ (q : Predicate). truth params cs values q) is ∙ truth_all values parts)

  -- one part alone
  pub any_of_one : (parts got : List Predicate) (part p : Predicate) (inner : Test) → got ≡ parts → 1 ≤ length got → length got < 2 → part ≡ slice_index_or got 0 part
      → p ≡ predicate.Any parts → ((values : List Value) → met values inner ≡ truth params cs values part) → (values : List Value) → met values inner ≡ truth params cs values p
  any_of_one parts got part p inner same some few first is bound values =
      let alone : parts ≡ part ∷ [] = sym same ∙ one_part got part some few first in
      bound values ∙ sym (ap (λ (q : Predicate). truth params cs values q) is ∙ truth_any values parts ∙ ap (λ (ps : List Predicate). any_of (map (truth params cs values) ps)) alone ∙ either_fails (truth params cs values part))

  pub all_of_one : (parts got : List Predicate) (part p : Predicate) (inner : Test) → got ≡ parts → 1 ≤ length got → length got < 2 → part ≡ slice_index_or got 0 part
      → p ≡ predicate.All parts → ((values : List Value) → met values inner ≡ truth params cs values part) → (values : List Value) → met values inner ≡ truth params cs values p
  all_of_one parts got part p inner same some few first is bound values =
      let alone : parts ≡ part ∷ [] = sym same ∙ one_part got part some few first in
      bound values ∙ sym (ap (λ (q : Predicate). truth params cs values q) is ∙ truth_all values parts ∙ ap (λ (ps : List Predicate). all_of (map (truth params cs values) ps)) alone ∙ both_holds (truth params cs values part))

  pub not_means : (part got p : Predicate) (inner boxed : Test) → got ≡ part → p ≡ predicate.Not part → boxed ≡ inner → ((values : List Value) → met values inner ≡ truth params cs values got)
      → (values : List Value) → met values (test.Not boxed) ≡ truth params cs values p
  not_means part got p inner boxed same is in_box bound values =
      met_not values boxed ∙ ap (λ (t : Test). negated (met values t)) in_box ∙ ap negated (bound values) ∙ ap (λ (q : Predicate). negated (truth params cs values q)) same ∙ sym (ap (λ (q : Predicate). truth params cs values q) is ∙ truth_not values part)

  pub group_means : (part got p : Predicate) (inner : Test) → got ≡ part → p ≡ predicate.Group part → ((values : List Value) → met values inner ≡ truth params cs values got)
      → (values : List Value) → met values inner ≡ truth params cs values p
  group_means part got p inner same is bound values =
      bound values ∙ ap (λ (q : Predicate). truth params cs values q) same ∙ sym (ap (λ (q : Predicate). truth params cs values q) is ∙ truth_group values part)
