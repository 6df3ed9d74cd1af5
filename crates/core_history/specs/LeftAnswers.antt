-- Answers that a book leaves: of calls that were made together with others', for their conversations to collect.
use Rattle.std.specs.Prelude.{◌≡◌, ℕ, ◌==◌, Bool, true, List, filter, Option, Some, slice_get}
use Rattle.serializability.specs.Answered.{AnsweredCall}
use Rattle.core_history.specs.declared.left.Left.{Left}
use Rattle.core_history.specs.Wishes.{listed_wish}

-- a conversation's calls among these
abbrev pub calls_by : ℕ → List AnsweredCall → List AnsweredCall
calls_by conversation calls = filter (λ l. l.conversation == conversation) calls

-- the call of that conversation with that number is the one that was wished for, answered so
abbrev pub IsLeft : List AnsweredCall → Left → Type 0
IsLeft calls l = slice_get (calls_by l.conversation calls) l.number ≡ Some (listed_wish l.conversation l.wished l.has_failed)

abbrev pub AreLeft : List AnsweredCall → List (Option Left) → Type 0
AreLeft calls left = (place : ℕ) (l : Left) → slice_get left place ≡ Some (Some l) → IsLeft calls l

-- that the device failed is left for a call only where it has
abbrev pub FailuresAreTrue : Bool → List (Option Left) → Type 0
FailuresAreTrue is_failed left = (place : ℕ) (l : Left) → slice_get left place ≡ Some (Some l) → l.has_failed ≡ true → is_failed ≡ true
