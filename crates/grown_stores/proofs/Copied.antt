-- Bytes that are copied some at a time.
use Rattle.std.proofs.Common.{◌≡◌, ◌∙◌, ℕ, ◌+◌, ◌≤◌, List, ◌++◌, sym, ap, ap₂, refl, arith}
use Rattle.drda_words.specs.Place.{part}
use Rattle.drda_disk.specs.Disk.{Torn}
use Rattle.drda_disk.proofs.Parts.{part-add, part_before}

-- some more, behind those that stand there
pub one_more : (source read mid now : List ℕ) (from done more : ℕ) → read ≡ source → part mid 8192 done ≡ part source from done → Torn (8192 + done) more mid now
    → part now (8192 + done) more ≡ part read (from + done) more → part now 8192 (done + more) ≡ part source from (done + more)
one_more source read mid now from done more same so_far cut is =
    part-add now 8192 done more
    ∙ ap₂ (λ (a b : List ℕ). a ++ b) (part_before mid now (8192 + done) 8192 done cut.before (omega arith) ∙ so_far) (is ∙ ap (λ (l : List ℕ). part l (from + done) more) same)
    ∙ sym (part-add source from done more)
