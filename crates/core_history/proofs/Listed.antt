-- Passes that are all that have leave count the calls that the book lists.
use Rattle.std.proofs.Common.{◌≡◌, ℕ, zero, suc, List, [], ◌∷◌, Option, Some, slice_get, subst}
use Rattle.core_history.specs.declared.count.Count.{Count}
use Rattle.core_history.specs.declared.pass.Pass.{Pass}
use Rattle.core_history.specs.Books.{AreCounted, Told}
use Rattle.core_history.specs.Passes.{AreJust, AreKnown, AreListed, count_of}

known_at : (passes : List Pass) (places : List (Option Count)) → AreKnown passes places → (at : ℕ) (pass : Pass) → slice_get passes at ≡ Some pass → slice_get places pass.place ≡ Some (Some (count_of pass))
known_at [] places known at pass is = absurd (cc is)
known_at (p ∷ passes) places known zero pass is =
    let both : Some p ≡ Some pass = is in let same : p ≡ pass = cc both in
    let (here, alone, others) = known in
    subst (λ (x : Pass). slice_get places x.place ≡ Some (Some (count_of x))) same here
known_at (p ∷ passes) places known (suc at) pass is = let (here, alone, others) = known in known_at passes places others at pass is

pub are_listed : {D : Type 0} (book : Told D) (passes : List Pass) → AreCounted book.calls book.places book.next → AreJust passes book → AreListed passes book
are_listed book passes counted just at pass is = counted.counted pass.place (count_of pass) (known_at passes book.places just.each at pass is)
