-- Texts begin with one list of items at most, and with one number in front of it.
use Rattle.std.proofs.Common.{◌≡◌, ◌≢◌, ℕ, ◌+◌, ◌^◌, ◌<◌, ◌≤◌, List, [], ◌∷◌, ◌++◌, length, take, drop, refl, sym, ap, subst, ◌∙◌, arith, append_assoc, length-append, append-nil, Result, Ok, Err}
use Rattle.std.specs.List.{AllByRecursion, flat_map}
use Rattle.std.specs.Int.{w32, to_be_bytes, from_be_bytes}
use Rattle.std.proofs.lemmas.Nat.{from_be_bytes-to_be_bytes_4}
use Rattle.std.proofs.lemmas.Grind.{flat_map-append}
use Rattle.row_values.specs.declared.row.ReadError.{ReadError}
use Rattle.row_values.specs.declared.row.ReadError.TheVariants.{Damaged, NoMemory}
use Rattle.unit_records.specs.Fronts.{AreListed, AreSo, Misses, OneFront, TakesFront, listed}

-- ---- the number

pub count_once : (n m : ℕ) (rest more : List ℕ) → n < 2 ^ 32 → m < 2 ^ 32 → to_be_bytes w32 n ++ rest ≡ to_be_bytes w32 m ++ more → (n ≡ m) × (rest ≡ more)
count_once n m rest more low small text =
    let front : to_be_bytes w32 n ≡ to_be_bytes w32 m = ap (take 4) text in
    (sym (from_be_bytes-to_be_bytes_4 n low) ∙ ap (λ (l : List ℕ). from_be_bytes w32 l) front ∙ from_be_bytes-to_be_bytes_4 m small, ap (drop 4) text)

-- ---- items

module _ {A : Type 0} (bytes_of : A → List ℕ) (Is : A → Type 0) (once : OneFront bytes_of Is) where
  -- what stands behind the first items of a list
  pub record Behind (done : List A) (left : List ℕ) (xs : List A) (rest : List ℕ) : Type 0 where
    pub more : List A
    pub whole : xs ≡ done ++ more
    pub text : left ≡ flat_map bytes_of more ++ rest
    pub good : AllByRecursion Is more

  pub behind : (done : List A) (left : List ℕ) (xs : List A) (rest : List ℕ) → AllByRecursion Is done → AllByRecursion Is xs → length done ≤ length xs
      → flat_map bytes_of done ++ left ≡ flat_map bytes_of xs ++ rest → Behind done left xs rest
  behind [] left xs rest good all few text = record { more = xs; whole = refl; text = text; good = all }
  behind (d ∷ done) left [] rest good all few text = absurd (omega arith)
  behind (d ∷ done) left (x ∷ xs) rest good all few text =
      let one = once d x (flat_map bytes_of done ++ left) (flat_map bytes_of xs ++ rest) good.0 all.0
      (sym (append_assoc (bytes_of d) (flat_map bytes_of done) left) ∙ text ∙ append_assoc (bytes_of x) (flat_map bytes_of xs) rest) in
      let b = behind done left xs rest good.1 all.1 (omega arith) one.1 in
      record { more = b.more; whole = ap (λ (y : A). y ∷ xs) (sym one.0) ∙ ap (λ (l : List A). d ∷ l) b.whole; text = b.text; good = b.good }

  items_once : (xs ys : List A) (rest more : List ℕ) → AllByRecursion Is xs → AllByRecursion Is ys → length xs ≡ length ys
      → flat_map bytes_of xs ++ rest ≡ flat_map bytes_of ys ++ more → (xs ≡ ys) × (rest ≡ more)
  items_once [] [] rest more good all same text = (refl, text)
  items_once [] (y ∷ ys) rest more good all same text = absurd (omega arith)
  items_once (x ∷ xs) [] rest more good all same text = absurd (omega arith)
  items_once (x ∷ xs) (y ∷ ys) rest more good all same text =
      let one = once x y (flat_map bytes_of xs ++ rest) (flat_map bytes_of ys ++ more) good.0 all.0
      (sym (append_assoc (bytes_of x) (flat_map bytes_of xs) rest) ∙ text ∙ append_assoc (bytes_of y) (flat_map bytes_of ys) more) in
      let b = items_once xs ys rest more good.1 all.1 (omega arith) one.1 in
      (ap (λ (z : A). z ∷ xs) one.0 ∙ ap (λ (l : List A). y ∷ l) b.0, b.1)

  -- a list behind its number
  pub listed_once : OneFront (listed bytes_of) (AreListed Is)
  listed_once xs ys rest more good all text =
      let one = count_once (length xs) (length ys) (flat_map bytes_of xs ++ rest) (flat_map bytes_of ys ++ more) good.0 all.0
      (sym (append_assoc (to_be_bytes w32 (length xs)) (flat_map bytes_of xs) rest) ∙ text ∙ append_assoc (to_be_bytes w32 (length ys)) (flat_map bytes_of ys) more) in
      items_once xs ys rest more good.1 all.1 one.0 one.1

  -- where no item stands behind those that were read, so many do not stand there
  pub none_behind : (n : ℕ) (done : List A) (text left : List ℕ) → AllByRecursion Is done → length done < n → text ≡ flat_map bytes_of done ++ left
      → ((a : A) (rest : List ℕ) → Is a → left ≢ bytes_of a ++ rest) → (xs : List A) (rest : List ℕ) → AreSo Is n xs → text ≢ flat_map bytes_of xs ++ rest
  none_behind n done text left good few is none xs rest so whole =
      let b = behind done left xs rest good so.1 (omega (arith, so.0)) (sym is ∙ whole) in
      gap b.more b.whole b.text b.good
    where
      gap : (more : List A) → xs ≡ done ++ more → left ≡ flat_map bytes_of more ++ rest → AllByRecursion Is more → ⊥
      gap [] same there all = absurd (omega (arith, so.0, ap length same, length-append done []))
      gap (a ∷ more) same there all = none a (flat_map bytes_of more ++ rest) all.0 (there ∙ append_assoc (bytes_of a) (flat_map bytes_of more) rest)

  pub missed : (n : ℕ) (done : List A) (text left : List ℕ) → AllByRecursion Is done → length done < n → text ≡ flat_map bytes_of done ++ left
      → (error : ReadError) → Misses bytes_of Is left error → Misses (flat_map bytes_of) (AreSo Is n) text error
  missed n done text left good few is Damaged none = none_behind n done text left good few is none
  missed n done text left good few is NoMemory none = tt

-- ---- a loop that reads items

module _ {A : Type 0} (bytes_of : A → List ℕ) (Is : A → Type 0) where
  pub all_more : (xs : List A) (x : A) → AllByRecursion Is xs → Is x → AllByRecursion Is (xs ++ x ∷ [])
  all_more [] x all good = (good, tt)
  all_more (y ∷ xs) x all good = (all.0, all_more xs x all.1 good)

  -- these items stand in front
  pub record IsTaken (text : List ℕ) (n : ℕ) (xs : List A) (left : List ℕ) : Type 0 where
    pub count : length xs ≡ n
    pub good : AllByRecursion Is xs
    pub spelled : text ≡ flat_map bytes_of xs ++ left

  pub none_taken : (text : List ℕ) → IsTaken text 0 [] text
  none_taken text = record { count = refl; good = tt; spelled = refl }

  pub one_more : (text : List ℕ) (n : ℕ) (xs ys : List A) (left rest : List ℕ) (x : A) → IsTaken text n xs left → Is x → left ≡ bytes_of x ++ rest → ys ≡ xs ++ x ∷ [] → IsTaken text (n + 1) ys rest
  one_more text n xs ys left rest x taken good is more =
      let size = ap length more in
      let sum = length-append xs (x ∷ []) in
      record {
        count = omega (arith, size, sum, taken.count);
        good = subst (λ (l : List A). AllByRecursion Is l) (sym more) (all_more xs x taken.good good);
        spelled = taken.spelled ∙ ap (λ (l : List ℕ). flat_map bytes_of xs ++ l) is ∙ sym (append_assoc (flat_map bytes_of xs) (bytes_of x) rest)
            ∙ ap (λ (l : List ℕ). l ++ rest) (ap (λ (l : List ℕ). flat_map bytes_of xs ++ l) (sym (single x)) ∙ sym (flat_map-append bytes_of xs (x ∷ [])) ∙ ap (flat_map bytes_of) (sym more));
      }
    where
      single : (y : A) → flat_map bytes_of (y ∷ []) ≡ bytes_of y
      single y = append-nil (bytes_of y)

  -- the number in front makes a list of the items
  pub counted : {X : Type 0} (view : X → List A × List ℕ) (n : ℕ) (text behind : List ℕ) (r : Result X ReadError) → n < 2 ^ 32 → text ≡ to_be_bytes w32 n ++ behind
      → TakesFront view (flat_map bytes_of) (AreSo Is n) behind r → TakesFront view (listed bytes_of) (AreListed Is) text r
  counted view n text behind (Ok x) low is taken =
      let xs = (view x).0 in (
        (omega (arith, taken.0.0), taken.0.1),
        is ∙ ap (λ (l : List ℕ). to_be_bytes w32 n ++ l) taken.1 ∙ ap (λ (m : ℕ). to_be_bytes w32 m ++ (flat_map bytes_of xs ++ (view x).1)) (sym taken.0.0)
            ∙ sym (append_assoc (to_be_bytes w32 (length xs)) (flat_map bytes_of xs) (view x).1),
      )
  counted view n text behind (Err Damaged) low is none = λ xs rest good whole.
      let one = count_once n (length xs) behind (flat_map bytes_of xs ++ rest) low good.0 (sym is ∙ whole ∙ append_assoc (to_be_bytes w32 (length xs)) (flat_map bytes_of xs) rest) in
      none xs rest (sym one.0, good.1) one.1
  counted view n text behind (Err NoMemory) low is none = tt

  -- fewer than four bytes have no number
  pub no_count : (text : List ℕ) → length text < 4 → (xs : List A) (rest : List ℕ) → AreListed Is xs → text ≢ listed bytes_of xs ++ rest
  no_count text short xs rest good whole =
      let size = ap length whole in
      let sum = length-append (listed bytes_of xs) rest in
      let four = length-append (to_be_bytes w32 (length xs)) (flat_map bytes_of xs) in
      let is : length (to_be_bytes w32 (length xs)) ≡ 4 = refl in
      absurd (omega arith)
