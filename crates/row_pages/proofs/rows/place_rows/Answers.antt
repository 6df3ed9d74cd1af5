use Rattle.std.proofs.Common.{◌≡◌, ◌∙◌, ◌-◌, ◌+◌, ◌<◌, ◌++◌, ◌∷◌, [], List, length, drop, sym, ap, arith, append_assoc, length-append, ℕ}
use Rattle.row_pages.specs.Reading.{has_rows, behind_rows, row_starts}
use Rattle.row_pages.proofs.Passing.{has_past, behind_past}
use Rattle.row_pages.proofs.Placed.{starts_past}
use Rattle.row_pages.proofs.rows.place_rows.Goals as goal

pub loop-preserved : goal.loop-preserved
loop-preserved c =
    let inv = c.loop.invariant in
    let ends = c.in_ok-end.ensures in
    let bytes = c.args.bytes.now in
    let at = c.loop.at in
    let end = c.in_ok-end.end in
    let left : ℕ = c.args.count - c.loop.counter in
    let some : 0 < c.args.count - c.loop.counter = omega (arith, c.loop-test.true) in
    let one : (c.args.count - c.loop.counter) - 1 ≡ c.args.count - (c.loop.counter + 1) = omega arith in
    record {
      has = inv.has ∙ has_past left (drop at bytes) ends.row (drop end bytes) some ends.is ∙ ap (λ n. has_rows n (drop end bytes)) one;
      behind = inv.behind ∙ behind_past left (drop at bytes) ends.row (drop end bytes) some ends.is ∙ ap (λ n. behind_rows n (drop end bytes)) one;
      starts =
          ap (λ (s : List ℕ). s ++ row_starts end (c.args.count - (c.loop.counter + 1)) bytes) c.put_start.ensures.items
          ∙ append_assoc c.loop.starts.items (at ∷ []) (row_starts end (c.args.count - (c.loop.counter + 1)) bytes)
          ∙ ap (λ (k : ℕ). c.loop.starts.items ++ (at ∷ row_starts end k bytes)) (sym one)
          ∙ ap (λ (s : List ℕ). c.loop.starts.items ++ s) (sym (starts_past left bytes at end some ends))
          ∙ inv.starts;
      size = omega (arith, ap length c.put_start.ensures.items, length-append c.loop.starts.items (at ∷ []), inv.size);
      within = ends.within;
      room = omega (arith, inv.room, c.put_start.ensures.capacity);
    }
