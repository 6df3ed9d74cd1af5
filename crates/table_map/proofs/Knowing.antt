-- What is known of a row that was found.
use Rattle.std.proofs.Common.{◌≡◌, ℕ, List, Option, Some, None, sym, subst}
use Rattle.std.specs.Prelude.{Result, Ok, Err, IfOk, IfSome, IsTrue}
use Rattle.std.specs.Global.{Vec}
use Rattle.row_pages.specs.declared.kept.PageFault.{PageFault}
use Rattle.table_map.specs.Keyed.{copied}
use Rattle.table_map.specs.declared.pages.JudgedRow.{JudgedRow}

abbrev pub Found : Type 0
Found = Result JudgedRow PageFault

-- where a row that was found is known, this holds of it
abbrev pub KnownSo : (List ℕ → Type 0) → Found → Type 0
KnownSo P found = IfOk found (λ f. IsTrue f.is_judged → IfSome f.row (λ row. P row.items))

some_so : (P Q : List ℕ → Type 0) → ((row : List ℕ) → P row → Q row) → (o : Option (Vec ℕ)) → IfSome o (λ row. P row.items) → IfSome o (λ row. Q row.items)
some_so P Q f None is = tt
some_so P Q f (Some row) is = f row.items is

-- what follows from it holds too
pub known_so : (P Q : List ℕ → Type 0) → ((row : List ℕ) → P row → Q row) → (found : Found) → KnownSo P found → KnownSo Q found
known_so P Q f (Ok x) is = λ judged. some_so P Q f x.row (is judged)
known_so P Q f (Err e) is = tt

copied_some : (P : List ℕ → Type 0) (r : List ℕ) → P r → (o : Option (Vec ℕ)) → copied o ≡ Some r → IfSome o (λ row. P row.items)
copied_some P r is None same = absurd cc
copied_some P r is (Some row) same = let there : row.items ≡ r = cc in subst P (sym there) is

-- what holds of a row holds of its copy
pub copied_so : (P : List ℕ → Type 0) (r : List ℕ) → P r → (found : Found) → IfOk found (λ f. copied f.row ≡ Some r) → KnownSo P found
copied_so P r is (Ok x) same = λ judged. copied_some P r is x.row same
copied_so P r is (Err e) same = tt
