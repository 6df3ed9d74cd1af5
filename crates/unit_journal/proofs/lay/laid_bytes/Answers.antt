use Rattle.std.proofs.Common.{ℕ, List, ◌∷◌, ◌++◌, length, take, sym, ◌∙◌, ap, arith}
use Rattle.unit_journal.specs.Record.{behind, laid, entry_of, entries_of}
use Rattle.unit_journal.proofs.Laying.{laid_next, fits_next}
use Rattle.unit_journal.proofs.lay.laid_bytes.Goals as goal

pub push_record-requires : goal.push_record-requires
push_record-requires c =
    let fits = fits_next c.args.records.now c.loop-item.item-index c.item-item.result c.loop-item-test.true c.item-item.is 0 (length (laid (entries_of (take c.loop-item.item-index c.args.records.now)))) (omega arith) in
    omega (arith, fits, c.requires.len, c.requires.small)

pub loop-item-preserved : goal.loop-item-preserved
loop-item-preserved c =
    c.in_ok-push_record.ensures ∙ ap (λ (l : List ℕ). l ++ 165 ∷ behind (entry_of c.item-item.result)) c.loop-item.invariant
    ∙ sym (laid_next c.args.records.now c.loop-item.item-index c.item-item.result c.loop-item-test.true c.item-item.is)
