use Rattle.std.proofs.Common.{◌≡◌, ◌+◌, ◌≤◌, ℕ, List, [], ◌∷◌, ◌++◌, length, drop, refl, sym, ap, ◌∙◌, arith, append_assoc, length-append}
use Rattle.std.proofs.lemmas.List.{length-drop}
use Rattle.row_pages.specs.Page.{Page, row_bytes, rows_bytes}
use Rattle.row_pages.specs.Reading.{rows_in}
use Rattle.row_pages.proofs.Growing.{bytes_grown, count_grown, rows_grown, size_grown, size_more}
use Rattle.row_pages.proofs.builder.PageBuilder.try_push.Goals.{then-row-via-then-row, then-row-via-else-row+then-len-row-gt-PAGE_BYTES}
use Rattle.row_pages.proofs.builder.PageBuilder.try_push.Goals as goal

pub returns-then-row : goal.returns-then-row
returns-then-row c =
    let rows : c.args.self.now.rows ≡ rows_in c.self.inside.count (drop 3 c.self.inside.bytes.items) = sym (ap (λ (p : Page). p.rows) c.self.view_is) in
    let laid : length (rows_bytes c.args.self.now.rows) + 3 ≡ length c.self.inside.bytes.items =
    omega (arith, ap (λ (r : List (List ℕ)). length (rows_bytes r)) rows, ap length c.self.invariant.rows, length-drop 3 c.self.inside.bytes.items, c.self.invariant.head) in
    let more = size_more c.args.self.now.rows c.args.row.now in (
      λ fits. elim c.then-row.branch [
        | then-row-via-then-row w ↦ omega (arith, w.if-row.true, fits, more)
        | then-row-via-else-row+then-len-row-gt-PAGE_BYTES w ↦ omega (arith, w.if-len-row-gt-PAGE_BYTES.true, w.len.ensures, fits, more, laid)
      ],
      refl,
    )

pub invariant_of-self : goal.invariant_of-self
invariant_of-self c =
    let old = c.self.inside.bytes.items in
    let row = c.args.row.now in
    let is : c.put-2.new.bytes.items ≡ old ++ row_bytes row =
    c.put-2.ensures.items ∙ ap (λ (x : List ℕ). x ++ row) c.put.ensures.items ∙ append_assoc old c.to_be_bytes.result row ∙ ap (λ (x : List ℕ). old ++ (x ++ row)) c.to_be_bytes.ensures in
    let size : length (row_bytes row) ≡ 2 + length row = omega arith in
    let long : length c.put-2.new.bytes.items ≡ length old + (2 + length row) = ap length is ∙ length-append old (row_bytes row) ∙ ap (λ (n : ℕ). length old + n) size in
    let fits : length c.put-2.new.bytes.items ≤ 8192 = omega (arith, long, c.if-len-row-gt-PAGE_BYTES.false, c.len.ensures) in
    let head : 3 ≤ length old = omega (arith, c.self.invariant.head) in
    record {
      rows = bytes_grown c.self.inside.count old c.put-2.new.bytes.items row head c.self.invariant.rows c.self.invariant.counted is fits
          ∙ ap rows_bytes (sym (rows_grown c.self.inside.count old c.put-2.new.bytes.items row head c.self.invariant.rows c.self.invariant.counted is fits));
      counted = ap length (rows_grown c.self.inside.count old c.put-2.new.bytes.items row head c.self.invariant.rows c.self.invariant.counted is fits)
          ∙ count_grown c.self.inside.count old c.put-2.new.bytes.items row head c.self.invariant.rows c.self.invariant.counted is fits;
      head = omega (arith, long, c.self.invariant.head);
      fits = fits;
      room = omega (arith, c.self.invariant.room, c.put.ensures.capacity, c.put-2.ensures.capacity);
    }

pub returns : goal.returns
returns c =
    let old = c.self.inside.bytes.items in
    let row = c.args.row.now in
    let is : c.put-2.new.bytes.items ≡ old ++ row_bytes row =
    c.put-2.ensures.items ∙ ap (λ (x : List ℕ). x ++ row) c.put.ensures.items ∙ append_assoc old c.to_be_bytes.result row ∙ ap (λ (x : List ℕ). old ++ (x ++ row)) c.to_be_bytes.ensures in
    let size : length (row_bytes row) ≡ 2 + length row = omega arith in
    let fits : length c.put-2.new.bytes.items ≤ 8192 = omega (arith, ap length is, length-append old (row_bytes row), size, c.if-len-row-gt-PAGE_BYTES.false, c.len.ensures) in
    let head : 3 ≤ length old = omega (arith, c.self.invariant.head) in
    let rows : rows_in c.self.inside.count (drop 3 old) ≡ c.args.self.now.rows = ap (λ (p : Page). p.rows) c.self.view_is in
    let whole = size_grown c.self.inside.count old c.put-2.new.bytes.items row head c.self.invariant.rows c.self.invariant.counted is fits in (
      omega (arith, whole, fits, ap (λ (r : List (List ℕ)). length (rows_bytes (r ++ row ∷ []))) rows),
      ap (λ (r : List (List ℕ)). record { kind = c.self.inside.kind; rows = r })
          (rows_grown c.self.inside.count old c.put-2.new.bytes.items row head c.self.invariant.rows c.self.invariant.counted is fits ∙ ap (λ (r : List (List ℕ)). r ++ row ∷ []) rows)
          ∙ ap (λ (p : Page). record { kind = p.kind; rows = c.args.self.now.rows ++ row ∷ [] }) c.self.view_is,
    )
