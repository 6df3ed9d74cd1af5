-- A page that goes on to be filled.
use Rattle.std.proofs.Common.{◌≡◌, ℕ, suc, ◌+◌, ◌*◌, ◌-◌, ◌≤◌, List, [], ◌∷◌, ◌++◌, length, take, drop, replicate, sym, ap, ◌∙◌, arith, append-nil, length-append}
use Rattle.std.specs.Prelude.{vec_capacity}
use Rattle.std.specs.Global.{Vec}
use Rattle.std.specs.Int.{w16, to_be_bytes}
use Rattle.std.proofs.Math.Seq.{take-append_seam}
use Rattle.std.proofs.lemmas.List.{length-replicate}
use Rattle.row_pages.specs.Filling.{IsFilled}
use Rattle.row_pages.specs.Keeping.{KeepsPage, page_with}
use Rattle.row_pages.specs.Page.{IsPage, Page, code_of, row_bytes, rows_bytes, written_page}
use Rattle.row_pages.specs.Reading.{rows_in}
use Rattle.row_pages.specs.declared.page.PageKind.{PageKind}
use Rattle.row_pages.proofs.Placed.{rows_count}
use Rattle.row_pages.proofs.RowBytes.{AreShort, rows_written, short_below}

-- what a page has up to where its last row ends
front_of : (page : Page) (bytes : List ℕ) (end : ℕ) → IsPage page bytes → end ≡ 3 + length (rows_bytes page.rows) → take end bytes ≡ code_of page.kind ∷ (to_be_bytes w16 (length page.rows) ++ rows_bytes page.rows)
front_of page bytes end is at =
    let laid = rows_bytes page.rows in
    let three : end ≡ suc (suc (suc (length laid))) = omega (arith, at) in
    ap (λ k. take k bytes) three
    ∙ ap (λ (x : List ℕ). take (suc (suc (suc (length laid)))) x) is.same
    ∙ ap (λ (x : List ℕ). code_of page.kind ∷ (to_be_bytes w16 (length page.rows) ++ x)) (take-append_seam laid (replicate (8189 - length laid) 0))

-- each row takes two bytes at least
few_rows : (rows : List (List ℕ)) → 2 * length rows ≤ length (rows_bytes rows)
few_rows [] = omega arith
few_rows (row ∷ rows) =
    let less = few_rows rows in
    let one : length (row_bytes row) ≡ 2 + length row = omega arith in
    omega (arith, less, one, length-append (row_bytes row) (rows_bytes rows))

module _ (kind : PageKind) (starts : List ℕ) (end n : ℕ) (old new : Vec ℕ) (keeps : KeepsPage kind starts old.items end) (many : n ≡ length starts) (cut : new.items ≡ take end old.items) (same : vec_capacity new ≡ vec_capacity old) where
  abbrev rows : List (List ℕ)
  rows = rows_in (length starts) (drop 3 old.items)

  count : length rows ≡ length starts
  count = rows_count (length starts) (drop 3 old.items) keeps.places.rows.has

  front : new.items ≡ code_of kind ∷ (to_be_bytes w16 (length rows) ++ rows_bytes rows)
  front = cut ∙ front_of (page_with (kind, length starts) old.items) old.items end keeps.is keeps.ends

  behind : drop 3 new.items ≡ rows_bytes rows
  behind = ap (λ (x : List ℕ). drop 3 x) front

  pub rows_stay : rows_in n (drop 3 new.items) ≡ rows_in (length starts) (drop 3 old.items)
  rows_stay =
      let short : AreShort rows = short_below rows 8189 (omega arith) (omega (arith, keeps.is.fits)) in
      ap (λ k. rows_in k (drop 3 new.items)) (many ∙ sym count)
      ∙ ap (λ (x : List ℕ). rows_in (length rows) x) (behind ∙ sym (append-nil (rows_bytes rows)))
      ∙ rows_written rows [] short

  size : length new.items ≡ 3 + length (rows_bytes rows)
  size = ap length front ∙ long
    where
      long : length (code_of kind ∷ (to_be_bytes w16 (length rows) ++ rows_bytes rows)) ≡ 3 + length (rows_bytes rows)
      long = omega (arith, length-append (to_be_bytes w16 (length rows)) (rows_bytes rows))

  whole : length old.items ≡ 8192
  whole =
      let laid = rows_bytes rows in
      let zeros : List ℕ = replicate (8189 - length laid) 0 in
      let long : length (written_page (page_with (kind, length starts) old.items)) ≡ 8192 = omega (
        arith,
        length-replicate {A = ℕ} (8189 - length laid) 0,
        length-append (to_be_bytes w16 (length rows)) (laid ++ zeros),
        length-append laid zeros,
        keeps.is.fits,
      ) in
      ap length keeps.is.same ∙ long

  pub filled_on : IsFilled n new
  filled_on = record {
    rows = behind ∙ ap rows_bytes (sym rows_stay);
    counted = ap length rows_stay ∙ count ∙ sym many;
    head = omega (arith, size, few_rows rows, count, many);
    fits = omega (arith, size, keeps.is.fits);
    room = omega (arith, same, whole, old.ok.0, old.ok.1);
  }
