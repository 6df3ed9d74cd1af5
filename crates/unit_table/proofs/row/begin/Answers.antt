use Rattle.std.proofs.Common.{◌≡◌, false, List, refl, sym, ◌∙◌, ap, subst}
use Rattle.core_model.specs.Units.{Work}
use Rattle.unit_locks.specs.Claims.{claims_of}
use Rattle.unit_table.specs.Owner.{plain_owner}
use Rattle.unit_table.specs.Table.{AreKept, held, is_given}
use Rattle.unit_table.specs.Keeping.{KeepsAll}
use Rattle.unit_table.specs.declared.entry.Entry.{Entry}
use Rattle.unit_table.proofs.Rows.{gap_idle, gap_inside}
use Rattle.unit_table.proofs.Numbers.{held_as}
use Rattle.unit_table.proofs.Changing.{begun_kept, kept_new, refused_units, same_claims, same_kept}
use Rattle.unit_table.proofs.row.begin.Goals as goal

pub returns-in-Err-clause-units : goal.returns-in-Err-clause-units
returns-in-Err-clause-units c =
    let old = c.args.claims.now in let now = c.claim_all.new.claims in
    let es = c.args.entries.now.items in
    let n = c.in-Some.number in
    let o = plain_owner c.args.owner.now in
    let free : is_given n es ≡ false = rw c.as_slice.ensures.value at c.in-Some.ensures.free in
    let claims = same_claims c.in-Err.fault c.args.more.items (claims_of old n) (claims_of now n) c.in-Err.ensures.unit in
    refused_units c.in-Err.fault o c.args.more.items (claims_of old n) (claims_of now n) c.args.changes (held old es) (held now es) c.in-Err.ensures.unit
    (ap (λ (w : Work). w.claims) (gap_idle old o es c.args.at c.requires.kept.listed c.requires.at) ∙ sym (c.requires.kept.free n free))
    (held_as n old now es c.claim_all.ensures.others claims)

pub put_in-requires : goal.put_in-requires
put_in-requires c = gap_inside c.args.claims.now (plain_owner c.args.owner.now) c.args.entries.now.items c.args.at c.requires.at

pub returns-in-Ok-put_in-clause-kept : goal.returns-in-Ok-put_in-clause-kept
returns-in-Ok-put_in-clause-kept c =
    let n = c.in-Some.number in
    let es = c.args.entries.now.items in
    let new : Entry = record { owner = c.args.owner.now; number = n; changes = c.args.changes } in
    let free : is_given n es ≡ false = rw c.as_slice.ensures.value at c.in-Some.ensures.free in
    subst (λ (l : List Entry). AreKept l c.claim_all.new.claims) (sym c.in-Ok-put_in.ensures.ok)
    (begun_kept c.args.claims.now c.claim_all.new.claims (plain_owner c.args.owner.now) es c.args.at new c.requires.kept c.requires.at refl free c.in-Some.ensures.somebody c.claim_all.ensures.others c.args.more.items c.in-Ok.ensures.unit.added c.requires.work)

pub returns-in-Ok-put_in-clause-units : goal.returns-in-Ok-put_in-clause-units
returns-in-Ok-put_in-clause-units c =
    let n = c.in-Some.number in
    let es = c.args.entries.now.items in
    let old = c.args.claims.now in let now = c.claim_all.new.claims in
    let o = plain_owner c.args.owner.now in
    let new : Entry = record { owner = c.args.owner.now; number = n; changes = c.args.changes } in
    let free : is_given n es ≡ false = rw c.as_slice.ensures.value at c.in-Some.ensures.free in
    subst (λ (l : List Entry). KeepsAll o c.args.more.items c.args.changes (held old es) (held now l)) (sym c.in-Ok-put_in.ensures.ok)
    (kept_new old now o es c.args.at new c.requires.kept c.requires.at refl free c.in-Some.ensures.somebody c.claim_all.ensures.others c.args.more.items c.in-Ok.ensures.unit.added c.requires.work c.in-Ok.ensures.unit.room)

pub returns-in-Err-put_in-clause-kept : goal.returns-in-Err-put_in-clause-kept
returns-in-Err-put_in-clause-kept c =
    let n = c.in-Some.number in
    let es = c.args.entries.now.items in
    let free : is_given n es ≡ false = rw c.as_slice.ensures.value at c.in-Some.ensures.free in
    subst (λ (l : List Entry). AreKept l c.drop_unit.new.self) (sym c.in-Err-put_in.ensures.err)
    (same_kept n c.args.claims.now c.drop_unit.new.self es c.requires.kept (λ m ne. c.drop_unit.ensures.others m ne ∙ c.claim_all.ensures.others m ne) (c.drop_unit.ensures.gone ∙ sym (c.requires.kept.free n free)))

pub returns-in-Err-put_in-clause-units : goal.returns-in-Err-put_in-clause-units
returns-in-Err-put_in-clause-units c =
    let n = c.in-Some.number in
    let es = c.args.entries.now.items in
    let free : is_given n es ≡ false = rw c.as_slice.ensures.value at c.in-Some.ensures.free in
    ap (λ (l : List Entry). held c.drop_unit.new.self l) c.in-Err-put_in.ensures.err
    ∙ held_as n c.args.claims.now c.drop_unit.new.self es (λ m ne. c.drop_unit.ensures.others m ne ∙ c.claim_all.ensures.others m ne) (c.drop_unit.ensures.gone ∙ sym (c.requires.kept.free n free))
