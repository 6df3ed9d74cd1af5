use Rattle.std.proofs.Common.{◌≡◌, ◌≤◌, ◌++◌, ℕ, Bool, true, Some, drop, length, slice_get}
use Rattle.core_history.specs.declared.wish.Wish.{Wish}
use Rattle.core_history.specs.LeftAnswers.{AreLeft, FailuresAreTrue}
use Rattle.core_history.specs.Books.{AreCounted}
use Rattle.core_history.specs.Gathered.{all_counted, all_left, all_listed, count_at}
use Rattle.core_history.proofs.listing.list_all.Given as goal

abbrev pub invariant-loop-member : goal.invariant-loop-member
invariant-loop-member l =
    let rest = drop l.member-index l.members in
    record {
      known : (k : ℕ) (v : Wish) → l.member-index ≤ k → slice_get l.members k ≡ Some v → slice_get l.places.items v.place ≡ Some (Some (count_at v));
      calls : l.calls.listed ++ all_listed l.has_failed rest ≡ l.fn.calls.listed ++ all_listed l.has_failed l.members;
      places : all_counted rest l.places.items ≡ all_counted l.members l.fn.places.items;
      left : all_left l.has_failed rest l.left.items ≡ all_left l.has_failed l.members l.fn.left.items;
      counted : (next : ℕ) → AreCounted l.fn.calls.listed l.fn.places.items next → AreCounted l.calls.listed l.places.items next;
      are_left : (next : ℕ) → AreCounted l.fn.calls.listed l.fn.places.items next → AreLeft l.fn.calls.listed l.fn.left.items → AreLeft l.calls.listed l.left.items;
      failures : (b : Bool) → (l.has_failed ≡ true → b ≡ true) → FailuresAreTrue b l.fn.left.items → FailuresAreTrue b l.left.items;
      places_stay : length l.places.items ≡ length l.fn.places.items;
      left_stay : length l.left.items ≡ length l.fn.left.items;
    }
