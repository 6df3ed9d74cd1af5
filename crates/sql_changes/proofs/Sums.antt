-- Sums that are bound term by term.
use Rattle.std.proofs.Common.{◌≡◌, ◌≤◌, ◌-◌, ℕ, suc, List, [], ◌∷◌, ◌++◌, Option, Some, None, Ok, Err, Bool, true, false, ◌&&◌, ◌||◌, ◌==◌, length, take, drop, get_or, map, refl, sym, ap, ◌∙◌, arith}
use Rattle.std.specs.Prelude.{if◌then◌else◌}
use Rattle.std.specs.List.{slice_get}
use Rattle.std.proofs.lemmas.Bool.Decides.{nat_tests}
use Rattle.sql_text.specs.declared.tree.Term.{Term}
use Rattle.sql_text.specs.declared.tree.Addend.{Addend}
use Rattle.sql_text.specs.declared.tree.Sum.{Sum}
use Rattle.row_values.specs.Value.{Value}
use Rattle.row_values.specs.Column.{Column}
use Rattle.core_calls.specs.declared.sql_fault.SqlFault.{SqlFault}
use Rattle.core_calls.specs.declared.sql_fault.SqlFault.TheVariants as fault
use Rattle.sql_predicates.specs.declared.operand.Operand.{Operand}
use Rattle.sql_predicates.specs.Test.{operand_value}
use Rattle.sql_semantics.specs.Checked.{Checked, and_then, fault_in, first_fault}
use Rattle.sql_semantics.specs.Classes.{column_class, same_class, term_class}
use Rattle.sql_semantics.specs.Values.{term_value}
use Rattle.sql_semantics.specs.Update.{class_fault, number_class, sum_fault, sum_from, summed}
use Rattle.sql_changes.specs.Assigned.{summed_from}
use Rattle.sql_changes.specs.Faults.{addend_terms, classes_fault, names_fault, type_fault}
use Rattle.sql_changes.specs.declared.sum.BoundAddend.{BoundAddend}
use Rattle.sql_changes.proofs.Checks.{same_each, then_then}
use Rattle.sql_changes.proofs.Lists.{opened}

-- ---- one addend more

more_numbers : (sofar b : Bool) (es : List (Option SqlFault)) → (if sofar && b then first_fault es else Some fault.TypeMismatch) ≡ (if sofar then first_fault (fault_in {A = ℕ} (if b then Ok 1 else Err fault.TypeMismatch) ∷ es) else Some fault.TypeMismatch)
more_numbers true true es = refl
more_numbers true false es = refl
more_numbers false b es = refl

summed_more : (old : List Value) (xs : List BoundAddend) (x : BoundAddend) (v : Value) → summed_from old v (xs ++ x ∷ []) ≡ and_then (summed_from old v xs) (λ w. summed_from old w (x ∷ []))
summed_more old [] x v = refl
summed_more old (y ∷ ys) x v =
    same_each Value Value (λ w. summed_from old w (ys ++ x ∷ [])) (λ w. and_then (summed_from old w ys) (λ u. summed_from old u (x ∷ []))) (λ w. summed_more old ys x w) (summed y.operation v (operand_value old y.operand))
    ∙ sym (then_then Value Value Value (λ w. summed_from old w ys) (λ u. summed_from old u (x ∷ [])) (summed y.operation v (operand_value old y.operand)))

module _ (params : List Value) (cs : List Column) where
  abbrev pub name_faults : List Term → List (Option SqlFault)
  name_faults ts = map (λ t. fault_in (term_class params cs t)) ts

  abbrev pub class_faults : List Term → List (Option SqlFault)
  class_faults ts = map (λ t. fault_in (number_class (term_class params cs t))) ts

  pub names_step : (left : List Addend) (a : Addend) (class : ℕ) (whole : Option SqlFault) → 1 ≤ length left → a ≡ get_or left 0 a → term_class params cs a.term ≡ Ok class
      → names_fault params cs (addend_terms left) ≡ whole → names_fault params cs (addend_terms (take (length left - 1) (drop 1 left))) ≡ whole
  names_step left a class whole some first is so =
      let rest = take (length left - 1) (drop 1 left) in
      sym (ap (λ (r : Checked ℕ). first_fault (fault_in r ∷ name_faults (addend_terms rest))) is)
      ∙ sym (ap (λ (as_ : List Addend). names_fault params cs (addend_terms as_)) (opened left a some first))
      ∙ so

  pub names_stop : (left : List Addend) (a : Addend) (e : SqlFault) (whole : Option SqlFault) → 1 ≤ length left → a ≡ get_or left 0 a → term_class params cs a.term ≡ Err e
      → names_fault params cs (addend_terms left) ≡ whole → whole ≡ Some e
  names_stop left a e whole some first is so =
      let rest = take (length left - 1) (drop 1 left) in
      sym so
      ∙ ap (λ (as_ : List Addend). names_fault params cs (addend_terms as_)) (opened left a some first)
      ∙ ap (λ (r : Checked ℕ). first_fault (fault_in r ∷ name_faults (addend_terms rest))) is

  pub classes_step : (left : List Addend) (a : Addend) (class : ℕ) (sofar next : Bool) (whole : Option SqlFault) → 1 ≤ length left → a ≡ get_or left 0 a → term_class params cs a.term ≡ Ok class → next ≡ (sofar && (1 == class || 1 == 0 || class == 0))
      → (if sofar then classes_fault params cs (addend_terms left) else Some fault.TypeMismatch) ≡ whole
      → (if next then classes_fault params cs (addend_terms (take (length left - 1) (drop 1 left))) else Some fault.TypeMismatch) ≡ whole
  classes_step left a class sofar next whole some first is by so =
      let rest = take (length left - 1) (drop 1 left) in
      ap (λ (b : Bool). if b then classes_fault params cs (addend_terms rest) else Some fault.TypeMismatch) by
      ∙ more_numbers sofar (1 == class || 1 == 0 || class == 0) (class_faults (addend_terms rest))
      ∙ sym (ap (λ (r : Checked ℕ). if sofar then first_fault (fault_in (number_class r) ∷ class_faults (addend_terms rest)) else Some fault.TypeMismatch) is)
      ∙ sym (ap (λ (as_ : List Addend). if sofar then classes_fault params cs (addend_terms as_) else Some fault.TypeMismatch) (opened left a some first))
      ∙ so

  pub means_step : (bound more : List BoundAddend) (left all : List Addend) (a : Addend) (operand : Operand) → 1 ≤ length left → a ≡ get_or left 0 a → more ≡ bound ++ record { operation = a.operation; operand = operand } ∷ []
      → ((old : List Value) → operand_value old operand ≡ term_value params cs old a.term)
      → ((old : List Value) (v : Value) → and_then (summed_from old v bound) (λ w. sum_from params cs old w left) ≡ sum_from params cs old v all)
      → (old : List Value) (v : Value) → and_then (summed_from old v more) (λ w. sum_from params cs old w (take (length left - 1) (drop 1 left))) ≡ sum_from params cs old v all
  means_step bound more left all a operand some first pushed same so old v =
      let rest = take (length left - 1) (drop 1 left) in
      let x : BoundAddend = record { operation = a.operation; operand = operand } in
      ap (λ (xs : List BoundAddend). and_then (summed_from old v xs) (λ w. sum_from params cs old w rest)) pushed
      ∙ ap (λ (r : Checked Value). and_then r (λ w. sum_from params cs old w rest)) (summed_more old bound x v)
      ∙ then_then Value Value Value (λ w. summed_from old w (x ∷ [])) (λ w. sum_from params cs old w rest) (summed_from old v bound)
      ∙ same_each Value Value (λ w. and_then (summed_from old w (x ∷ [])) (λ u. sum_from params cs old u rest)) (λ w. sum_from params cs old w (a ∷ rest))
      (λ w. then_then Value Value Value (λ u. Ok u) (λ u. sum_from params cs old u rest) (summed a.operation w (operand_value old operand)) ∙ ap (λ (u : Value). and_then (summed a.operation w u) (λ u. sum_from params cs old u rest)) (same old))
      (summed_from old v bound)
      ∙ sym (ap (λ (as_ : List Addend). and_then (summed_from old v bound) (λ w. sum_from params cs old w as_)) (opened left a some first))
      ∙ so old v

-- ---- the classes of a sum

several_by : (b1 b2 numbers : Bool) (c : List (Option SqlFault)) → first_fault c ≡ type_fault numbers
    → first_fault (first_fault (fault_in {A = ℕ} (if b1 then Ok 1 else Err fault.TypeMismatch) ∷ fault_in {A = ℕ} (if b2 then Ok 1 else Err fault.TypeMismatch) ∷ c) ∷ []) ≡ type_fault (b1 && b2 && numbers)
several_by true true true c is = ap (λ (o : Option SqlFault). first_fault (o ∷ [])) is
several_by true true false c is = ap (λ (o : Option SqlFault). first_fault (o ∷ [])) is
several_by true false numbers c is = refl
several_by false b2 numbers c is = refl

alone_by : (b : Bool) (n : ℕ) → first_fault (fault_in {A = ℕ} (if b then Ok n else Err fault.TypeMismatch) ∷ []) ≡ type_fault b
alone_by true n = refl
alone_by false n = refl

not_alone : (n : ℕ) → (suc n == 0) ≡ false
not_alone n = grind (arith, nat_tests)

module _ (params : List Value) (cs : List Column) where
  abbrev takes : ℕ → ℕ → Bool → Bool → Bool
  takes column first is_alone are_numbers = if is_alone then (column == first || column == 0 || first == 0) else ((1 == column || 1 == 0 || column == 0) && (1 == first || 1 == 0 || first == 0) && are_numbers)

  abbrev fault_of_parts : Checked ℕ → Checked ℕ → List Addend → Option SqlFault
  fault_of_parts column first [] = first_fault (first_fault (fault_in first ∷ []) ∷ fault_in (and_then column (λ a. and_then first (same_class a))) ∷ [])
  fault_of_parts column first (r ∷ rs) =
      first_fault (first_fault (fault_in first ∷ name_faults params cs (addend_terms (r ∷ rs))) ∷ first_fault (fault_in (number_class column) ∷ fault_in (number_class first) ∷ class_faults params cs (addend_terms (r ∷ rs))) ∷ [])

  in_parts : (column : Checked ℕ) (t : Term) (rest : List Addend)
      → first_fault (first_fault (name_faults params cs (t ∷ addend_terms rest)) ∷ class_fault params cs column (t ∷ addend_terms rest) ∷ []) ≡ fault_of_parts column (term_class params cs t) rest
  in_parts column t [] = refl
  in_parts column t (r ∷ rs) = refl

  by_parts : (column first : ℕ) (rest : List Addend) (numbers : Bool) → names_fault params cs (addend_terms rest) ≡ None → classes_fault params cs (addend_terms rest) ≡ type_fault numbers
      → fault_of_parts (Ok column) (Ok first) rest ≡ type_fault (takes column first (length rest == 0) numbers)
  by_parts column first [] numbers names classes = alone_by (column == first || column == 0 || first == 0) column
  by_parts column first (r ∷ rs) numbers names classes =
      ap (λ (o : Option SqlFault). first_fault (o ∷ first_fault (fault_in (number_class (Ok column)) ∷ fault_in (number_class (Ok first)) ∷ class_faults params cs (addend_terms (r ∷ rs))) ∷ [])) names
      ∙ several_by (1 == column || 1 == 0 || column == 0) (1 == first || 1 == 0 || first == 0) numbers (class_faults params cs (addend_terms (r ∷ rs))) classes
      ∙ ap (λ (b : Bool). type_fault (takes column first b numbers)) (sym (not_alone (length rs)))

  -- whether the column takes the sum
  pub judged : (place : ℕ) (s : Sum) (rest : List Addend) (column first : ℕ) (alone numbers so : Bool) → rest ≡ s.rest → term_class params cs s.first ≡ Ok first → column_class (slice_get cs place) ≡ Ok column
      → names_fault params cs (addend_terms rest) ≡ None → classes_fault params cs (addend_terms rest) ≡ type_fault numbers → alone ≡ (length rest == 0) → so ≡ takes column first alone numbers
      → sum_fault params cs place s ≡ type_fault so
  judged place s rest column first alone numbers so same is of names classes none takes_it =
      ap (λ (as_ : List Addend). first_fault (first_fault (name_faults params cs (s.first ∷ addend_terms as_)) ∷ class_fault params cs (column_class (slice_get cs place)) (s.first ∷ addend_terms as_) ∷ [])) (sym same)
      ∙ in_parts (column_class (slice_get cs place)) s.first rest
      ∙ ap (λ (r : Checked ℕ). fault_of_parts (column_class (slice_get cs place)) r rest) is
      ∙ ap (λ (r : Checked ℕ). fault_of_parts r (Ok first) rest) of
      ∙ by_parts column first rest numbers names classes
      ∙ ap (λ (b : Bool). type_fault (takes column first b numbers)) (sym none)
      ∙ ap type_fault (sym takes_it)

  no_class_in : (first : ℕ) (e : SqlFault) (rest : List Addend) → names_fault params cs (addend_terms rest) ≡ None → fault_of_parts (Err e) (Ok first) rest ≡ Some e
  no_class_in first e [] names = refl
  no_class_in first e (r ∷ rs) names =
      ap (λ (o : Option SqlFault). first_fault (o ∷ first_fault (fault_in (number_class (Err e)) ∷ fault_in (number_class (Ok first)) ∷ class_faults params cs (addend_terms (r ∷ rs))) ∷ [])) names

  -- no column has this place
  pub no_class : (place : ℕ) (s : Sum) (rest : List Addend) (first : ℕ) (e : SqlFault) → rest ≡ s.rest → term_class params cs s.first ≡ Ok first → column_class (slice_get cs place) ≡ Err e → names_fault params cs (addend_terms rest) ≡ None
      → sum_fault params cs place s ≡ Some e
  no_class place s rest first e same is of names =
      ap (λ (as_ : List Addend). first_fault (first_fault (name_faults params cs (s.first ∷ addend_terms as_)) ∷ class_fault params cs (column_class (slice_get cs place)) (s.first ∷ addend_terms as_) ∷ [])) (sym same)
      ∙ in_parts (column_class (slice_get cs place)) s.first rest
      ∙ ap (λ (r : Checked ℕ). fault_of_parts (column_class (slice_get cs place)) r rest) is
      ∙ ap (λ (r : Checked ℕ). fault_of_parts r (Ok first) rest) of
      ∙ no_class_in first e rest names
