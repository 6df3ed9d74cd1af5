-- How an image goes on.
use Rattle.std.proofs.Common.{◌≡◌, ℕ, ◌+◌, ◌-◌, ◌*◌, ◌<◌, ◌≤◌, List, Bool, arith, refl, sym, ap, subst, ◌∙◌}
use Rattle.std.specs.Prelude.{Result, Ok, Err, OnOk, OnErr}
use Rattle.drda_disk.specs.Disk.{Life, Torn, Stays, LeavesOnly}
use Rattle.drda_disk.specs.Images.{Torn-refl}
use Rattle.drda_disk.proofs.Moments.{and_then, no_call, stays_leaves, Within-stays}
use Rattle.drda_disk.proofs.Parts.{Torn-trans, Torn-wider}
use Rattle.half_store.specs.Layout.{offset_of}
use Rattle.half_store.specs.Active.{Store}
use Rattle.half_store.specs.Writing.{IsKept, IsWriting, half_of, half_bytes_of, generation_of, pages_of, from_of, next_of, SaysFull}
use Rattle.half_store.specs.declared.image.ImageWriter.{ImageWriter}
use Rattle.drda_disk.specs.Errors.{OnFull}
use Rattle.drda_disk.specs.declared.errors.WriteError.{WriteError}
use Rattle.drda_disk.specs.declared.errors.WriteError.TheVariants as write
use Rattle.half_store.proofs.Kept.{kept_now, still_writing}
use Rattle.checkpoint_writer.specs.Adding.{AddsPages, end_of_half}

large : (w : ImageWriter) → 8192 < half_bytes_of w
large w = omega (arith, w.fits)

-- calls that write nothing
pub reads : (modelled : Bool) (old new : Life) (w : ImageWriter) → Stays old new → AddsPages modelled old new w w
reads modelled old new w s = record {
  any_moment = λ base store is. stays_leaves old new (IsKept base store (from_of w + 1) (half_bytes_of w - 1)) s (kept_now modelled old base store w is (large w));
  writing = λ base store is. still_writing modelled old new base store w is (Within-stays (from_of w + 1) (half_bytes_of w - 1) base old new s is.within);
  others = subst (λ (l : List ℕ). Torn (next_of w) (end_of_half w - next_of w) old.seen l) (sym s.same) (Torn-refl (next_of w) (end_of_half w - next_of w) old.seen);
  more = omega arith;
  half = refl;
  half_bytes = refl;
  generation = refl;
}

-- no call
pub no_page : (modelled : Bool) (disk : Life) (w : ImageWriter) → AddsPages modelled disk disk w w
no_page modelled disk w = record {
  any_moment = λ base store is. no_call disk (IsKept base store (from_of w + 1) (half_bytes_of w - 1)) (kept_now modelled disk base store w is (large w));
  writing = λ base store is. is;
  others = Torn-refl (next_of w) (end_of_half w - next_of w) disk.seen;
  more = omega arith;
  half = refl;
  half_bytes = refl;
  generation = refl;
}

-- the half is the same
pub same_from : (w after : ImageWriter) → half_of after ≡ half_of w → half_bytes_of after ≡ half_bytes_of w → from_of after ≡ from_of w
same_from w after half bytes = ap (λ h. offset_of h (half_of after)) bytes ∙ ap (λ x. offset_of (half_bytes_of w) x) half

-- one run behind another
pub and_more : (modelled : Bool) (old mid new : Life) (w between after : ImageWriter) → AddsPages modelled old mid w between → AddsPages modelled mid new between after → AddsPages modelled old new w after
and_more modelled old mid new w between after first second =
    let from : from_of between ≡ from_of w = same_from w between first.half first.half_bytes in
    record {
      any_moment = λ base store is.
          and_then old mid new (IsKept base store (from_of w + 1) (half_bytes_of w - 1)) (IsKept base store (from_of between + 1) (half_bytes_of between - 1)) (IsKept base store (from_of w + 1) (half_bytes_of w - 1))
          (first.any_moment base store is) (second.any_moment base store (first.writing base store is)) (λ c kept. kept)
          (λ c kept. subst (λ n. IsKept base store (n + 1) (half_bytes_of w - 1) c) from (subst (λ n. IsKept base store (from_of between + 1) (n - 1) c) first.half_bytes kept));
      writing = λ base store is. second.writing base store (first.writing base store is);
      others = Torn-trans (next_of w) (end_of_half w - next_of w) old.seen mid.seen new.seen first.others
          (Torn-wider (next_of between) (end_of_half between - next_of between) (next_of w) (end_of_half w - next_of w) mid.seen new.seen
          (omega (arith, from, first.more)) (omega (arith, from, first.more, first.half_bytes, between.fits)) second.others);
      more = omega (arith, first.more, second.more);
      half = second.half ∙ first.half;
      half_bytes = second.half_bytes ∙ first.half_bytes;
      generation = second.generation ∙ first.generation;
    }

-- ---- a page

wide : (w : ImageWriter) (old new : List ℕ) → 8192 * (2 + pages_of w) + 1 ≤ half_bytes_of w → Torn (next_of w) 8192 old new → Torn (next_of w) (end_of_half w - next_of w) old new
wide w old new room torn = Torn-wider (next_of w) 8192 (next_of w) (end_of_half w - next_of w) old new (omega arith) (omega (arith, room)) torn

page_torn : {P : Type 0} (w : ImageWriter) (old new : List ℕ) (result : Result (Unit {0}) WriteError) → (P → new ≡ old) → SaysFull result (8192 * (2 + pages_of w) + 1) (half_bytes_of w) → OnFull result P
    → Torn (next_of w) 8192 old new → Torn (next_of w) (end_of_half w - next_of w) old new
page_torn w old new (Ok x) same says full torn = wide w old new says torn
page_torn w old new (Err write.DeviceFailed) same says full torn = wide w old new says torn
page_torn w old new (Err (write.Full f)) same says full torn = subst (λ (l : List ℕ). Torn (next_of w) (end_of_half w - next_of w) old l) (sym (same full)) (Torn-refl (next_of w) (end_of_half w - next_of w) old)

page_more : (w after : ImageWriter) (result : Result (Unit {0}) WriteError) → OnOk result (pages_of after ≡ pages_of w + 1) → OnErr result (after ≡ w) → pages_of w ≤ pages_of after
page_more w after (Ok x) one same = omega (arith, one)
page_more w after (Err e) one same = omega (arith, ap pages_of same)

pub adds_page : {P : Type 0} (modelled : Bool) (old new : Life) (w after : ImageWriter) (result : Result (Unit {0}) WriteError)
    → ((base : List ℕ) (store : Store) → IsWriting modelled old base store w → LeavesOnly old new (IsKept base store (from_of w + 1) (half_bytes_of w - 1)))
    → ((base : List ℕ) (store : Store) → IsWriting modelled old base store w → IsWriting modelled new base store after)
    → Torn (next_of w) 8192 old.seen new.seen → (half_of after ≡ half_of w) × (half_bytes_of after ≡ half_bytes_of w) × (generation_of after ≡ generation_of w)
    → SaysFull result (8192 * (2 + pages_of w) + 1) (half_bytes_of w) → (P → new.seen ≡ old.seen) → OnFull result P → OnOk result (pages_of after ≡ pages_of w + 1) → OnErr result (after ≡ w)
    → AddsPages modelled old new w after
adds_page modelled old new w after result any_moment writing torn same says refused full one err = record {
  any_moment = any_moment;
  writing = writing;
  others = page_torn w old.seen new.seen result refused says full torn;
  more = page_more w after result one err;
  half = same.0;
  half_bytes = same.1;
  generation = same.2;
}
