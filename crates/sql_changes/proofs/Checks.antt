-- Checks in their order.
use Rattle.std.proofs.Common.{◌≡◌, List, [], ◌∷◌, ◌++◌, Option, Some, None, Ok, Err, refl, ap, append_assoc}
use Rattle.core_calls.specs.declared.sql_fault.SqlFault.{SqlFault}
use Rattle.sql_semantics.specs.Checked.{Checked, and_then, fault_in, if_none}

pub then_then : (A B C : Type 0) (f : A → Checked B) (g : B → Checked C) (r : Checked A) → and_then {A = B} {B = C} (and_then {A = A} {B = B} r f) g ≡ and_then {A = A} {B = C} r (λ x. and_then {A = B} {B = C} (f x) g)
then_then A B C f g (Ok x) = refl
then_then A B C f g (Err e) = refl

pub none_then : (A B : Type 0) (g : A → Checked B) (r : Checked A) (o : Option SqlFault) → and_then {A = A} {B = B} (if_none {A = A} o r) g ≡ if_none {A = B} o (and_then {A = A} {B = B} r g)
none_then A B g r None = refl
none_then A B g r (Some e) = refl

pub same_each : (A B : Type 0) (f g : A → Checked B) → ((x : A) → f x ≡ g x) → (r : Checked A) → and_then {A = A} {B = B} r f ≡ and_then {A = A} {B = B} r g
same_each A B f g same (Ok x) = same x
same_each A B f g same (Err e) = refl

pub same_fault : (A B : Type 0) (f : A → B) (r : Checked A) → fault_in {A = B} (and_then {A = A} {B = B} r (λ x. Ok (f x))) ≡ fault_in {A = A} r
same_fault A B f (Ok x) = refl
same_fault A B f (Err e) = refl

pub nothing_before : (A : Type 0) (r : Checked (List A)) → and_then {A = List A} {B = List A} r (λ more. Ok ([] ++ more)) ≡ r
nothing_before A (Ok x) = refl
nothing_before A (Err e) = refl

pub inside : (A : Type 0) (x y : A) → ◌≡◌ {A = Checked A} (Ok x) (Ok y) → x ≡ y
inside A x y h = cc

-- one item more stands before those that are left
pub joins : (A : Type 0) (done : List A) (q : A) (r : Checked (List A)) → and_then {A = List A} {B = List A} r (λ more. Ok ((done ++ q ∷ []) ++ more)) ≡ and_then {A = List A} {B = List A} (and_then {A = List A} {B = List A} r (λ ts. Ok (q ∷ ts))) (λ more. Ok (done ++ more))
joins A done q (Ok more) = ap Ok (append_assoc done (q ∷ []) more)
joins A done q (Err e) = refl
