-- How a pass stands at a book that is about to make its call with those of others.
use Rattle.std.specs.Prelude.{◌≡◌, ◌⊎◌, Bool, length}
use Rattle.core_history.specs.declared.pass.Pass.{Pass}
use Rattle.unit_records.specs.declared.group_call.Asked.{Asked}
use Rattle.core_history.specs.Books.{Told}
use Rattle.core_history.specs.Gathered.{IsWaiting}
use Rattle.core_history.specs.Passes.{Knows}

-- the book knows the pass, or its call was made and the answer is left
pub record Stands {D : Type 0} (book : Told D) (pass : Pass) (wished : Asked) : Type 0 where
  pub as_many : length book.left ≡ length book.places
  pub known : Knows book pass ⊎ ((has_failed : Bool) × IsWaiting book pass wished has_failed)
