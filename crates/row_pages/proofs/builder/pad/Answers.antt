use Rattle.std.proofs.Common.{◌≡◌, ◌+◌, ◌-◌, ℕ, List, [], ◌∷◌, ◌++◌, length, replicate, suc, sym, ap, ◌∙◌, arith, append_assoc}
use Rattle.row_pages.proofs.Growing.{zeros_more}
use Rattle.row_pages.proofs.builder.pad.Goals as goal

pub loop-preserved : goal.loop-preserved
loop-preserved c =
    let n = length c.args.bytes.now.items in
    let one : c.loop.counter + 1 - n ≡ suc (c.loop.counter - n) = omega (arith, c.loop.invariant.least) in
    record {
      items =
          c.put.ensures.items ∙ ap (λ (x : List ℕ). x ++ 0 ∷ []) c.loop.invariant.items
          ∙ append_assoc c.args.bytes.now.items (replicate (c.loop.counter - n) 0) (0 ∷ [])
          ∙ ap (λ (x : List ℕ). c.args.bytes.now.items ++ x) (zeros_more (c.loop.counter - n) ∙ ap (λ (k : ℕ). replicate k 0) (sym one));
      least = omega (arith, c.loop.invariant.least);
      room = omega (arith, c.loop.invariant.room, c.put.ensures.capacity);
    }
