use Rattle.drda_words.specs.Place.{part}
use Rattle.store_check.proofs.Formed.{formed_told, no_form}
use Rattle.store_check.proofs.form.is_formed.Goals as goal

pub returns-in-Ok-clause-told : goal.returns-in-Ok-clause-told
returns-in-Ok-clause-told g c honest =
    formed_told c.one_page.ensures c.args.kind (part (g.D.Disk.life c.args.pager.now).seen c.args.at 8192) c.in-Ok.page.now c.has_rows_of.result (c.in-Ok.ensures.page honest) c.has_rows_of.ensures.so c.has_rows_of.ensures.other

pub returns-in-Err-Damaged-clause-told : goal.returns-in-Err-Damaged-clause-told
returns-in-Err-Damaged-clause-told g c honest =
    no_form c.args.kind (part (g.D.Disk.life c.args.pager.now).seen c.args.at 8192) (rw c.in-Err-Damaged.field-0-is at (c.in-Err-Damaged.ensures.damaged honest))
