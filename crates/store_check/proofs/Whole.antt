-- Pages that are whole, and pages that are not.
use Rattle.std.proofs.Common.{◌≡◌, ℕ, zero, suc, ◌<◌, true, List, [], ◌∷◌, ◌++◌, length, None, refl, sym, ap, subst, ◌∙◌, arith}
use Rattle.std.specs.List.{AllByRecursion}
use Rattle.row_values.specs.Schema.{Schema}
use Rattle.row_pages.specs.Parsing.{OnePage}
use Rattle.row_pages.specs.Laying.{HasSome, rows_over}
use Rattle.table_map.specs.Stored.{AreAt}
use Rattle.store_check.specs.Judging.{go_on}
use Rattle.store_check.specs.Whole.{AreWhole, IsFirstBad, IsWhole}
use Rattle.store_check.proofs.Rising.{all_fit, in_order, parted, rising}
use Rattle.store_check.proofs.Standing.{all_front, in_front, rows_front, same_pages, stand_front}

-- the same, with the rows judged from the first to the last
pub record AreGood (schema : Schema) (key_of : List ℕ → List ℕ) (file : List ℕ) (at : ℕ) (pages : List (List (List ℕ))) : Type 0 where
  pub stand : AreAt file at pages
  pub some : AllByRecursion HasSome pages
  pub rising : go_on schema key_of None (rows_over pages) ≡ true

pub by_length : (m n : ℕ) → (m < n → ⊥) → (n < m → ⊥) → m ≡ n
by_length zero zero low high = refl
by_length zero (suc n) low high = absurd (low (omega arith))
by_length (suc m) zero low high = absurd (high (omega arith))
by_length (suc m) (suc n) low high = ap suc (by_length m n (λ less. low (omega (arith, less))) (λ less. high (omega (arith, less))))

module _ (schema : Schema) (key_of : List ℕ → List ℕ) (file : List ℕ) (at : ℕ) where
  pub is_whole : (pages : List (List (List ℕ))) → AreGood schema key_of file at pages → AreWhole schema key_of file at pages
  is_whole pages good = record { stand = good.stand; some = good.some; fit = all_fit schema key_of None (rows_over pages) good.rising; order = in_order schema key_of None (rows_over pages) good.rising }

  pub is_good : (pages : List (List (List ℕ))) → AreWhole schema key_of file at pages → AreGood schema key_of file at pages
  is_good pages whole = record { stand = whole.stand; some = whole.some; rising = rising schema key_of None (rows_over pages) whole.fit whole.order tt }

  whole_front : (front more : List (List (List ℕ))) → AreWhole schema key_of file at (front ++ more) → AreWhole schema key_of file at front
  whole_front front more whole =
      let good = is_good (front ++ more) whole in
      is_whole front (record {
        stand = stand_front file at front more good.stand;
        some = all_front HasSome front more good.some;
        rising = (parted schema key_of None (rows_over front) (rows_over more) (ap (λ (rows : List (List ℕ)). go_on schema key_of None rows) (sym (rows_front front more)) ∙ good.rising)).0;
      })

  -- with the first bad page more pages than those in front of it are not whole
  not_more : OnePage → (count here : ℕ) (pages : List (List (List ℕ))) → AreWhole schema key_of file at pages → (bad : IsFirstBad schema key_of file at count here) → length bad.front < length pages → ⊥
  not_more law count here pages whole bad more =
      let found = in_front law file at bad.front pages bad.right.stand whole.stand more in
      bad.bad found.0 (whole_front (bad.front ++ found.0 ∷ []) found.1 (subst (λ (l : List (List (List ℕ))). AreWhole schema key_of file at l) found.2 whole))

  pub never_bad : OnePage → (count here : ℕ) (pages : List (List (List ℕ))) → IsWhole schema key_of file at count pages → IsFirstBad schema key_of file at count here → ⊥
  never_bad law count here pages whole bad = not_more law count here pages whole.whole bad (omega (arith, bad.within, whole.many))

  pub one_bad : OnePage → (count here there : ℕ) → IsFirstBad schema key_of file at count here → IsFirstBad schema key_of file at count there → here ≡ there
  one_bad law count here there a b =
      let same = by_length (length a.front) (length b.front) (not_more law count here b.front b.right a) (not_more law count there a.front a.right b) in
      omega (arith, a.place, b.place, same)

  pub one_list : OnePage → (count : ℕ) (pages others : List (List (List ℕ))) → IsWhole schema key_of file at count pages → IsWhole schema key_of file at count others → pages ≡ others
  one_list law count pages others a b = same_pages law file at pages others a.whole.stand b.whole.stand (a.many ∙ sym b.many)
