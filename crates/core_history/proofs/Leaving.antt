-- An answer that is left is one of the listed calls': where more are listed, where one is left, and where one is taken away.
use Rattle.std.proofs.Common.{◌≡◌, ◌+◌, ◌==◌, ⊎_elim, ℕ, zero, suc, Bool, true, false, cond, if◌then◌else◌, List, [], ◌∷◌, ◌++◌, Option, Some, None, length, replicate, slice_get, slice_set, refl, sym, ap, subst, ◌∙◌, arith, eq-eqb}
use Rattle.std.proofs.lemmas.List.Elements.{filter-append}
use Rattle.serializability.specs.Answered.{AnsweredCall}
use Rattle.core_history.specs.declared.count.Count.{Count}
use Rattle.core_history.specs.declared.left.Left.{Left}
use Rattle.core_history.specs.LeftAnswers.{AreLeft, FailuresAreTrue, IsLeft, calls_by}
use Rattle.core_history.specs.Wishes.{listed_wish}
use Rattle.unit_records.specs.declared.group_call.Asked.{Asked}
use Rattle.core_history.specs.Books.{AreCounted, calls_of}
use Rattle.core_history.proofs.Counting.{get_other, get_replicate, same_or_apart}

-- ---- lists

module _ {Y : Type 0} where
  pub get_in_front : (xs ys : List Y) (i : ℕ) (y : Y) → slice_get xs i ≡ Some y → slice_get (xs ++ ys) i ≡ Some y
  get_in_front [] ys i y is = absurd (cc is)
  get_in_front (x ∷ xs) ys zero y is = is
  get_in_front (x ∷ xs) ys (suc i) y is = get_in_front xs ys i y is

  pub get_behind : (xs ys : List Y) (y : Y) → slice_get (xs ++ y ∷ ys) (length xs) ≡ Some y
  get_behind [] ys y = refl
  get_behind (x ∷ xs) ys y = get_behind xs ys y

  set_stands : (ys : List Y) (i : ℕ) (z y : Y) → slice_get (slice_set ys i z) i ≡ Some y → z ≡ y
  set_stands [] i z y is = absurd (cc is)
  set_stands (x ∷ ys) zero z y is = let both : Some z ≡ Some y = is in cc both
  set_stands (x ∷ ys) (suc i) z y is = set_stands ys i z y is

-- ---- a conversation's calls

one_more_of : (b : Bool) (l : AnsweredCall) (ls : List AnsweredCall) → length (cond b (l ∷ ls) ls) ≡ (if b then 1 else 0) + length ls
one_more_of true l ls = omega arith
one_more_of false l ls = omega arith

pub length_by : (n : ℕ) (calls : List AnsweredCall) → length (calls_by n calls) ≡ calls_of n calls
length_by n [] = refl
length_by n (l ∷ ls) = one_more_of (l.conversation == n) l (calls_by n ls) ∙ ap (λ k. (if l.conversation == n then 1 else 0) + k) (length_by n ls)

pub by_its : (n : ℕ) (calls : List AnsweredCall) (l : AnsweredCall) → l.conversation ≡ n → calls_by n (calls ++ l ∷ []) ≡ calls_by n calls ++ l ∷ []
by_its n calls l is = filter-append (λ (x : AnsweredCall). x.conversation == n) calls (l ∷ []) ∙ ap (λ b. calls_by n calls ++ cond b (l ∷ []) []) (eq-eqb l.conversation n is)

-- ---- what is left

is_left_still : (calls more : List AnsweredCall) (l : Left) → IsLeft calls l → IsLeft (calls ++ more) l
is_left_still calls more l is =
    subst (λ (ls : List AnsweredCall). slice_get ls l.number ≡ Some (listed_wish l.conversation l.wished l.has_failed)) (sym (filter-append (λ (x : AnsweredCall). x.conversation == l.conversation) calls more))
    (get_in_front (calls_by l.conversation calls) (calls_by l.conversation more) l.number (listed_wish l.conversation l.wished l.has_failed) is)

pub left_still : (calls more : List AnsweredCall) (left : List (Option Left)) → AreLeft calls left → AreLeft (calls ++ more) left
left_still calls more left are place l stands = is_left_still calls more l (are place l stands)

-- the answer to the last call of a conversation is left
module _ (calls : List AnsweredCall) (places : List (Option Count)) (next : ℕ) (counted : AreCounted calls places next) (left : List (Option Left)) (are : AreLeft calls left)
    (p : ℕ) (c : Count) (here : slice_get places p ≡ Some (Some c)) (w : Asked) (f : Bool) where
  abbrev more : List AnsweredCall
  more = calls ++ listed_wish c.conversation w f ∷ []

  abbrev now : Left
  now = record { conversation = c.conversation; number = c.calls; wished = w; has_failed = f }

  is_its_last : IsLeft more now
  is_its_last =
      let l = listed_wish c.conversation w f in
      let number : length (calls_by c.conversation calls) ≡ c.calls = length_by c.conversation calls ∙ sym (counted.counted p c here) in
      subst (λ (ls : List AnsweredCall). slice_get ls c.calls ≡ Some l) (sym (by_its c.conversation calls l refl))
      (subst (λ (n : ℕ). slice_get (calls_by c.conversation calls ++ l ∷ []) n ≡ Some l) number (get_behind (calls_by c.conversation calls) [] l))

  pub left_more : AreLeft more (slice_set left p (Some now))
  left_more place l stands =
      ⊎_elim
      (λ so.
      let is : Some now ≡ Some l = set_stands left p (Some now) (Some l) (subst (λ (n : ℕ). slice_get (slice_set left p (Some now)) n ≡ Some (Some l)) (sym so) stands) in
      let same : now ≡ l = cc is in
      subst (λ (x : Left). IsLeft more x) same is_its_last)
      (λ apart. is_left_still calls (listed_wish c.conversation w f ∷ []) l (are place l (sym (get_other left p place (Some now) apart) ∙ stands)))
      (same_or_apart p place)

pub none_left : (n : ℕ) → AreLeft [] (replicate n None)
none_left n place l stands = let is : Some l ≡ None = get_replicate n place None (Some l) stands in absurd (cc is)

-- ---- a failure is left only where the core has failed

pub true_more : (b : Bool) (left : List (Option Left)) (p : ℕ) (l : Left) → (l.has_failed ≡ true → b ≡ true) → FailuresAreTrue b left → FailuresAreTrue b (slice_set left p (Some l))
true_more b left p l is are place m stands failed =
    ⊎_elim
    (λ so.
    let one : Some l ≡ Some m = set_stands left p (Some l) (Some m) (subst (λ (n : ℕ). slice_get (slice_set left p (Some l)) n ≡ Some (Some m)) (sym so) stands) in
    let same : l ≡ m = cc one in
    is (ap (λ (x : Left). x.has_failed) same ∙ failed))
    (λ apart. are place m (sym (get_other left p place (Some l) apart) ∙ stands) failed)
    (same_or_apart p place)

pub true_after : (b c : Bool) (left : List (Option Left)) → (b ≡ true → c ≡ true) → FailuresAreTrue b left → FailuresAreTrue c left
true_after b c left on are place m stands failed = on (are place m stands failed)

pub none_true : (b : Bool) (n : ℕ) → FailuresAreTrue b (replicate n None)
none_true b n place m stands failed = let is : Some m ≡ None = get_replicate n place None (Some m) stands in absurd (cc is)
