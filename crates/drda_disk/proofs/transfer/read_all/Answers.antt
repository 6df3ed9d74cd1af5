use Rattle.std.proofs.Common.{◌≡◌, ◌+◌, ◌-◌, ◌≤◌, ℕ, List, length, sym, ◌∙◌, ap, subst, arith}
use borrow.Rule.Slice.PartMut.{mid_len}
use Rattle.drda_words.specs.Place.{part}
use Rattle.drda_disk.proofs.Moments.{Stays-trans}
use Rattle.drda_disk.proofs.Transfers.{put_length, read_more}
use Rattle.drda_disk.proofs.transfer.read_all.Goals as goal

pub loop-done-preserved-in-Ok : goal.loop-done-preserved-in-Ok
loop-done-preserved-in-Ok g c =
    let into = c.loop-done.into in
    let done = c.loop-done.done in
    let read = c.read_some.new.into in
    let low = c.loop-done.invariant.low in
    let size : length read ≡ length into - done = c.read_some.auto.into ∙ mid_len done (length into) into (omega arith) in
    let count : c.in-Ok.more ≤ length read = subst (λ (k : ℕ). c.in-Ok.more ≤ k) (sym c.read_some.auto.into) c.in-Ok.ensures.count in
    let whole = put_length into read done low size in
    record {
      low = omega (arith, low, size, whole, count);
      size = whole ∙ c.loop-done.invariant.size;
      stays = Stays-trans _ _ _ c.loop-done.invariant.stays c.read_some.ensures.stays;
      read = λ honest.
          read_more into read done low size (g.F.PositionalFile.life c.args.file.now).seen c.args.at c.in-Ok.more (c.loop-done.invariant.read honest)
          (c.in-Ok.ensures.read honest ∙ ap (λ (l : List ℕ). part l (c.args.at + done) c.in-Ok.more) c.loop-done.invariant.stays.same) count;
    }
