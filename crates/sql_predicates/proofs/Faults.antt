-- The faults of comparisons and of parts.
use Rattle.std.proofs.Common.{◌≡◌, ℕ, Bool, true, false, List, ap, ◌∙◌, Option, Some, None, Ok, Err}
use Rattle.std.specs.Prelude.{◌||◌, ◌==◌, if◌then◌else◌}
use Rattle.sql_text.specs.declared.tree.Term.{Term}
use Rattle.row_values.specs.Value.{Value}
use Rattle.row_values.specs.Column.{Column}
use Rattle.sql_semantics.specs.Checked.{Checked, and_then, fault_in}
use Rattle.sql_semantics.specs.Classes.{comparison_fault, same_class, term_class}
use Rattle.core_calls.specs.declared.sql_fault.SqlFault.{SqlFault}
use Rattle.core_calls.specs.declared.sql_fault.SqlFault.TheVariants as fault

-- by whether the classes are one
abbrev judged : ℕ → ℕ → Bool → Option SqlFault
judged x y same = fault_in (if same then Ok x else Err fault.TypeMismatch)

by_classes : (p q : Checked ℕ) (x y : ℕ) (same : Bool) → p ≡ Ok x → q ≡ Ok y → (x == y || x == 0 || y == 0) ≡ same → fault_in (and_then p (λ a. and_then q (same_class a))) ≡ judged x y same
by_classes p q x y same first second is =
    ap (λ (r : Checked ℕ). fault_in (and_then r (λ a. and_then q (same_class a)))) first
    ∙ ap (λ (r : Checked ℕ). fault_in (and_then r (same_class x))) second
    ∙ ap (judged x y) is

module _ (params : List Value) (cs : List Column) (a b : Term) (x y : ℕ) where
  pub one_class : term_class params cs a ≡ Ok x → term_class params cs b ≡ Ok y → (x == y || x == 0 || y == 0) ≡ true → comparison_fault params cs a b ≡ None
  one_class first second is = by_classes (term_class params cs a) (term_class params cs b) x y true first second is

  pub two_classes : term_class params cs a ≡ Ok x → term_class params cs b ≡ Ok y → (x == y || x == 0 || y == 0) ≡ false → comparison_fault params cs a b ≡ Some fault.TypeMismatch
  two_classes first second is = by_classes (term_class params cs a) (term_class params cs b) x y false first second is
