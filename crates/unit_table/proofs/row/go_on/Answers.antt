use Rattle.std.proofs.Common.{◌≡◌, List, length, take, slice_set, refl, ◌∙◌, ap, arith}
use Rattle.tables.specs.ChangeView.{change_of}
use Rattle.unit_locks.specs.Claim.{Claim}
use Rattle.unit_locks.specs.Claims.{claims_of}
use Rattle.core_model.specs.Units.{Work}
use Rattle.std.specs.Prelude.{map}
use Rattle.unit_table.specs.Owner.{plain_owner}
use Rattle.unit_table.specs.Table.{held}
use Rattle.unit_table.proofs.Adding.{front_stays}
use Rattle.unit_table.proofs.Rows.{at_inside}
use Rattle.unit_table.proofs.Changing.{kept_on, refused_units, same_claims, stayed, stayed_kept, went_on_kept, work_at}
use Rattle.unit_table.proofs.row.go_on.Goals as goal

pub index_mut-entry-requires : goal.index_mut-entry-requires
index_mut-entry-requires c =
    let below = at_inside c.args.claims.now (plain_owner c.args.owner.now) c.args.entries.now.items c.args.at c.requires.at in
    omega (arith, below, c.args.entries.now.ok.0)

pub returns-in-Err-clause-kept : goal.returns-in-Err-clause-kept
returns-in-Err-clause-kept c =
    let e = c.index_mut-entry.result.now in
    let claims = same_claims c.in-Err.fault c.args.more.items (claims_of c.args.claims.now e.number) (claims_of c.claim_all.new.claims e.number) c.in-Err.ensures.unit in
    stayed_kept c.args.claims.now c.claim_all.new.claims c.args.entries.now.items c.args.at e e.changes c.requires.kept c.index_mut-entry.ensures.value refl c.claim_all.ensures.others claims

pub returns-in-Err-clause-units : goal.returns-in-Err-clause-units
returns-in-Err-clause-units c =
    let e = c.index_mut-entry.result.now in
    let old = c.args.claims.now in let now = c.claim_all.new.claims in
    let es = c.args.entries.now.items in
    let o = plain_owner c.args.owner.now in
    let claims = same_claims c.in-Err.fault c.args.more.items (claims_of old e.number) (claims_of now e.number) c.in-Err.ensures.unit in
    refused_units c.in-Err.fault o c.args.more.items (claims_of old e.number) (claims_of now e.number) (map change_of c.args.changes.items) (held old es) (held now (slice_set es c.args.at e)) c.in-Err.ensures.unit
    (ap (λ (w : Work). w.claims) (work_at old o es c.args.at e c.requires.at c.index_mut-entry.ensures.value))
    (stayed old now es c.args.at e e.changes c.requires.kept c.index_mut-entry.ensures.value refl c.claim_all.ensures.others claims)

pub returns-in-Ok-add-clause-kept : goal.returns-in-Ok-add-clause-kept
returns-in-Ok-add-clause-kept c =
    let e = c.index_mut-entry.result.now in
    went_on_kept c.args.claims.now c.claim_all.new.claims (plain_owner c.args.owner.now) c.args.entries.now.items c.args.at e c.requires.kept c.requires.at c.index_mut-entry.ensures.value
    c.claim_all.ensures.others c.args.more.items (map change_of c.args.changes.items) c.add.new.changes c.in-Ok.ensures.unit.added c.in-Ok-add.ensures.ok

pub returns-in-Ok-add-clause-units : goal.returns-in-Ok-add-clause-units
returns-in-Ok-add-clause-units c =
    let e = c.index_mut-entry.result.now in
    kept_on c.args.claims.now c.claim_all.new.claims (plain_owner c.args.owner.now) c.args.entries.now.items c.args.at e c.requires.kept c.requires.at c.index_mut-entry.ensures.value
    c.claim_all.ensures.others c.args.more.items (map change_of c.args.changes.items) c.add.new.changes c.in-Ok.ensures.unit.added c.in-Ok-add.ensures.ok c.in-Ok.ensures.unit.room

pub returns-in-Err-add-clause-kept : goal.returns-in-Err-add-clause-kept
returns-in-Err-add-clause-kept c =
    let e = c.index_mut-entry.result.now in
    let old = claims_of c.args.claims.now e.number in
    let front : claims_of c.truncate.new.self e.number ≡ old =
    c.truncate.ensures.kept ∙ ap (λ (l : List Claim). take (length l) (claims_of c.claim_all.new.claims e.number)) c.of_unit-count.ensures ∙ front_stays old c.args.more.items (claims_of c.claim_all.new.claims e.number) c.in-Ok.ensures.unit.added in
    stayed_kept c.args.claims.now c.truncate.new.self c.args.entries.now.items c.args.at e c.add.new.changes c.requires.kept c.index_mut-entry.ensures.value c.in-Err-add.ensures.err
    (λ other ne. c.truncate.ensures.others other ne ∙ c.claim_all.ensures.others other ne) front

pub returns-in-Err-add-clause-units : goal.returns-in-Err-add-clause-units
returns-in-Err-add-clause-units c =
    let e = c.index_mut-entry.result.now in
    let old = claims_of c.args.claims.now e.number in
    let front : claims_of c.truncate.new.self e.number ≡ old =
    c.truncate.ensures.kept ∙ ap (λ (l : List Claim). take (length l) (claims_of c.claim_all.new.claims e.number)) c.of_unit-count.ensures ∙ front_stays old c.args.more.items (claims_of c.claim_all.new.claims e.number) c.in-Ok.ensures.unit.added in
    stayed c.args.claims.now c.truncate.new.self c.args.entries.now.items c.args.at e c.add.new.changes c.requires.kept c.index_mut-entry.ensures.value c.in-Err-add.ensures.err
    (λ other ne. c.truncate.ensures.others other ne ∙ c.claim_all.ensures.others other ne) front
