use Rattle.std.proofs.Common.{◌≡◌, false, List, refl, sym, ◌∙◌, ap, subst}
use Rattle.core_model.specs.Units.{Work, set_unit}
use Rattle.core_model.specs.Asked.{kept}
use Rattle.unit_table.specs.Owner.{plain_owner}
use Rattle.unit_table.specs.Table.{AreKept, held, is_given}
use Rattle.unit_table.specs.declared.entry.Entry.{Entry}
use Rattle.unit_table.proofs.Rows.{gap_idle, gap_inside}
use Rattle.unit_table.proofs.Numbers.{held_as}
use Rattle.unit_table.proofs.Changing.{begun, begun_kept, same_kept}
use Rattle.unit_table.proofs.row.restore.Goals as goal

pub returns-in-Err-clause-kept : goal.returns-in-Err-clause-kept
returns-in-Err-clause-kept c =
    let n = c.in-Some.number in
    let es = c.args.entries.now.items in
    let free : is_given n es ≡ false = rw c.as_slice.ensures.value at c.in-Some.ensures.free in
    same_kept n c.args.claims.now c.drop_unit.new.self es c.requires.kept (λ m ne. c.drop_unit.ensures.others m ne ∙ c.add_all.ensures.others m ne) (c.drop_unit.ensures.gone ∙ sym (c.requires.kept.free n free))

pub returns-in-Err-clause-err : goal.returns-in-Err-clause-err
returns-in-Err-clause-err c =
    let n = c.in-Some.number in
    let es = c.args.entries.now.items in
    let free : is_given n es ≡ false = rw c.as_slice.ensures.value at c.in-Some.ensures.free in
    held_as n c.args.claims.now c.drop_unit.new.self es (λ m ne. c.drop_unit.ensures.others m ne ∙ c.add_all.ensures.others m ne) (c.drop_unit.ensures.gone ∙ sym (c.requires.kept.free n free))

pub put_in-requires : goal.put_in-requires
put_in-requires c = gap_inside c.args.claims.now (plain_owner c.args.owner.now) c.args.entries.now.items c.args.at c.requires.at

pub returns-in-Ok-put_in-clause-kept : goal.returns-in-Ok-put_in-clause-kept
returns-in-Ok-put_in-clause-kept c =
    let n = c.in-Some.number in
    let es = c.args.entries.now.items in
    let new : Entry = record { owner = c.args.owner.now; number = n; changes = c.args.changes } in
    let free : is_given n es ≡ false = rw c.as_slice.ensures.value at c.in-Some.ensures.free in
    subst (λ (l : List Entry). AreKept l c.add_all.new.claims) (sym c.in-Ok-put_in.ensures.ok)
    (begun_kept c.args.claims.now c.add_all.new.claims (plain_owner c.args.owner.now) es c.args.at new c.requires.kept c.requires.at refl free c.in-Some.ensures.somebody c.add_all.ensures.others c.args.more.items c.in-Ok.ensures.ok c.requires.work)

pub returns-in-Ok-put_in-clause-ok : goal.returns-in-Ok-put_in-clause-ok
returns-in-Ok-put_in-clause-ok c =
    let n = c.in-Some.number in
    let es = c.args.entries.now.items in
    let old = c.args.claims.now in let now = c.add_all.new.claims in
    let o = plain_owner c.args.owner.now in
    let cs = c.args.more.items in
    let new : Entry = record { owner = c.args.owner.now; number = n; changes = c.args.changes } in
    let free : is_given n es ≡ false = rw c.as_slice.ensures.value at c.in-Some.ensures.free in
    ap (λ (l : List Entry). held now l) c.in-Ok-put_in.ensures.ok
    ∙ begun old now o es c.args.at new c.requires.kept c.requires.at refl free c.in-Some.ensures.somebody c.add_all.ensures.others cs c.in-Ok.ensures.ok c.requires.work
    ∙ ap (λ (w : Work). set_unit o (kept w cs c.args.changes) (held old es)) (gap_idle old o es c.args.at c.requires.kept.listed c.requires.at)

pub returns-in-Err-put_in-clause-kept : goal.returns-in-Err-put_in-clause-kept
returns-in-Err-put_in-clause-kept c =
    let n = c.in-Some.number in
    let es = c.args.entries.now.items in
    let free : is_given n es ≡ false = rw c.as_slice.ensures.value at c.in-Some.ensures.free in
    subst (λ (l : List Entry). AreKept l c.drop_unit-in-Err-put_in.new.self) (sym c.in-Err-put_in.ensures.err)
    (same_kept n c.args.claims.now c.drop_unit-in-Err-put_in.new.self es c.requires.kept (λ m ne. c.drop_unit-in-Err-put_in.ensures.others m ne ∙ c.add_all.ensures.others m ne) (c.drop_unit-in-Err-put_in.ensures.gone ∙ sym (c.requires.kept.free n free)))

pub returns-in-Err-put_in-clause-err : goal.returns-in-Err-put_in-clause-err
returns-in-Err-put_in-clause-err c =
    let n = c.in-Some.number in
    let es = c.args.entries.now.items in
    let free : is_given n es ≡ false = rw c.as_slice.ensures.value at c.in-Some.ensures.free in
    ap (λ (l : List Entry). held c.drop_unit-in-Err-put_in.new.self l) c.in-Err-put_in.ensures.err
    ∙ held_as n c.args.claims.now c.drop_unit-in-Err-put_in.new.self es (λ m ne. c.drop_unit-in-Err-put_in.ensures.others m ne ∙ c.add_all.ensures.others m ne) (c.drop_unit-in-Err-put_in.ensures.gone ∙ sym (c.requires.kept.free n free))
