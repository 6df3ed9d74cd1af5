use Rattle.std.proofs.Common.{rules, inl, inr, ◌∙◌, ◌++◌, ◌∷◌, [], List, ℕ, sym, ap, subst, arith, refl}
use Rattle.drda_disk.proofs.Moments.{Stays-trans}
use Rattle.table_map.specs.Cursor.{IsLeft}
use Rattle.table_map.specs.Damage.{HasNoRows, SomePage}
use Rattle.table_map.specs.Table.{without_keys}
use Rattle.table_map.proofs.Damaged.{of_left}
use Rattle.checkpoint_writer.specs.Adding.{end_of_half}
use Rattle.checkpoint_writer.specs.Writing.{HasLaid}
use Rattle.checkpoint_writer.proofs.Adding.{and_more, reads}
use Rattle.checkpoint_writer.proofs.GoingOn.{first_short, page_left, row_left, same_left}
use Rattle.checkpoint_writer.proofs.MergedRows.{told_of}
use Rattle.checkpoint_writer.proofs.Told.{handed_on, read_on}
use Rattle.checkpoint_writer.proofs.steps.Merging.step.Goals as goal

-- ---- a page

pub returns-in_err-page-clause-adds : goal.returns-in_err-page-clause-adds
returns-in_err-page-clause-adds g c = reads g.D.Disk.is_modelled (g.D.Disk.life c.args.disk.now) (g.D.Disk.life c.next_page.new.disk) c.args.image.now c.next_page.ensures.stays

pub returns-in_err-page-clause-damaged : goal.returns-in_err-page-clause-damaged
returns-in_err-page-clause-damaged g c left honest is = read_on _ _ c.in_err-page.field-0.0 c.next_page.result c.from_residual.result (search rules) (search rules) (λ some. inl some) (c.next_page.ensures.damaged honest)

pub returns-in_err-add_page-clause-adds : goal.returns-in_err-add_page-clause-adds
returns-in_err-add_page-clause-adds g c =
    let life = g.D.Disk.life in
    and_more g.D.Disk.is_modelled (life c.args.disk.now) (life c.next_page.new.disk) (life c.add_page.new.disk) c.args.image.now c.args.image.now c.add_page.new.image
    (reads g.D.Disk.is_modelled (life c.args.disk.now) (life c.next_page.new.disk) c.args.image.now c.next_page.ensures.stays) c.add_page.ensures.adds

pub returns-in_err-add_page-clause-full : goal.returns-in_err-add_page-clause-full
returns-in_err-add_page-clause-full g c left start rows honest is has =
    let key_of = g.K.RowKeys.key_of c.args.keys.now in
    let file = (g.D.Disk.life c.args.disk.now).seen in
    let held = subst (λ (f : List ℕ). HasLaid g.D.Disk.is_modelled key_of f start c.args.image.now c.args.self.now.writer rows) (sym c.next_page.ensures.stays.same) has in
    let goes = page_left key_of file left c.in-Some.page.rows c.next_page.new.self (rw (c.in-Some.is) at (c.in_ok-page.ensures.given left honest is)) in
    told_of (Unit {0}) c.in_err-add_page.field-0.0 c.from_residual-in_err-add_page.result (end_of_half c.args.image.now) start (rows ++ (c.in-Some.page.rows ++ without_keys goes.more)) (rows ++ without_keys left) (search rules)
    (ap (λ (l : List (List ℕ)). rows ++ l) (sym goes.same)) (c.in_err-add_page.ensures.full start rows (without_keys goes.more) held)

pub returns-in_err-add_page-clause-damaged : goal.returns-in_err-add_page-clause-damaged
returns-in_err-add_page-clause-damaged g c left honest is = handed_on _ _ c.in_err-add_page.field-0.0 c.add_page.result c.from_residual-in_err-add_page.result (search rules) (search rules) (λ none. absurd none) c.add_page.ensures.damaged

pub returns-in-Some-clause-adds : goal.returns-in-Some-clause-adds
returns-in-Some-clause-adds g c =
    let life = g.D.Disk.life in
    and_more g.D.Disk.is_modelled (life c.args.disk.now) (life c.next_page.new.disk) (life c.add_page.new.disk) c.args.image.now c.args.image.now c.add_page.new.image
    (reads g.D.Disk.is_modelled (life c.args.disk.now) (life c.next_page.new.disk) c.args.image.now c.next_page.ensures.stays) c.add_page.ensures.adds

pub returns-in-Some-clause-steps : goal.returns-in-Some-clause-steps
returns-in-Some-clause-steps g c =
    let modelled = g.D.Disk.is_modelled in
    let key_of = g.K.RowKeys.key_of c.args.keys.now in
    let file = (g.D.Disk.life c.args.disk.now).seen in
    record {
      rows = c.in-Some.page.rows;
      left = λ left honest is. page_left key_of file left c.in-Some.page.rows c.next_page.new.self (rw (c.in-Some.is) at (c.in_ok-page.ensures.given left honest is));
      laid = λ start before has. c.in_ok-add_page.ensures.laid start before (subst (λ (f : List ℕ). HasLaid modelled key_of f start c.args.image.now c.args.self.now.writer before) (sym c.next_page.ensures.stays.same) has);
      noted = c.note_page.ensures;
      end = c.next_page.ensures.end;
      forward = c.next_page.ensures.forward;
    }

-- ---- a row

pub returns-in_err-row-clause-adds : goal.returns-in_err-row-clause-adds
returns-in_err-row-clause-adds g c =
    let life = g.D.Disk.life in
    reads g.D.Disk.is_modelled (life c.args.disk.now) (life c.next.new.disk) c.args.image.now (Stays-trans _ _ _ c.next_page.ensures.stays c.next.ensures.stays)

pub returns-in_err-row-clause-damaged : goal.returns-in_err-row-clause-damaged
returns-in_err-row-clause-damaged g c left honest is =
    let file = (g.D.Disk.life c.args.disk.now).seen in
    let old = c.args.self.now.cursor.base in
    let base = c.next_page.new.self.base in
    read_on _ _ c.in_err-row.field-0.0 c.next.result c.from_residual-in_err-row.result (search rules) (search rules)
    (λ some. inl (of_left HasNoRows file old.at old.pages base.at base.pages c.next_page.ensures.end c.next_page.ensures.forward (subst (λ (f : List ℕ). SomePage HasNoRows f base.at base.pages) c.next_page.ensures.stays.same some)))
    (c.next.ensures.damaged honest)

pub returns-in_default-2-clause-adds : goal.returns-in_default-2-clause-adds
returns-in_default-2-clause-adds g c =
    let life = g.D.Disk.life in
    reads g.D.Disk.is_modelled (life c.args.disk.now) (life c.next.new.disk) c.args.image.now (Stays-trans _ _ _ c.next_page.ensures.stays c.next.ensures.stays)

pub returns-in_default-2-clause-steps : goal.returns-in_default-2-clause-steps
returns-in_default-2-clause-steps g c =
    let modelled = g.D.Disk.is_modelled in
    let key_of = g.K.RowKeys.key_of c.args.keys.now in
    let same = c.next_page.ensures.stays.same in
    record {
      left = λ left honest is.
          let there = subst (λ (f : List ℕ). IsLeft key_of f c.next_page.new.self left) (sym same) (rw (c.in_default.is) at (c.in_ok-page.ensures.given left honest is)) in
          rw (c.in_ok-row.was, c.in_default-2.is) at (c.next.follows.holds-at-none.gives left honest there);
      laid = λ start before has. subst (λ (f : List ℕ). HasLaid modelled key_of f start c.args.image.now c.args.self.now.writer before) (sym (c.next.ensures.stays.same ∙ same)) has;
      noted = refl;
    }

pub returns-in_err-add-clause-adds : goal.returns-in_err-add-clause-adds
returns-in_err-add-clause-adds g c =
    let life = g.D.Disk.life in
    and_more g.D.Disk.is_modelled (life c.args.disk.now) (life c.next.new.disk) (life c.add.new.disk) c.args.image.now c.args.image.now c.add.new.image
    (reads g.D.Disk.is_modelled (life c.args.disk.now) (life c.next.new.disk) c.args.image.now (Stays-trans _ _ _ c.next_page.ensures.stays c.next.ensures.stays)) c.add.ensures.adds

pub returns-in_err-add-clause-full : goal.returns-in_err-add-clause-full
returns-in_err-add-clause-full g c left start rows honest is has =
    let modelled = g.D.Disk.is_modelled in
    let key_of = g.K.RowKeys.key_of c.args.keys.now in
    let life = g.D.Disk.life in
    let file = (life c.args.disk.now).seen in
    let mid = (life c.next_page.new.disk).seen in
    let same = c.next_page.ensures.stays.same in
    let held = subst (λ (f : List ℕ). HasLaid modelled key_of f start c.args.image.now c.args.self.now.writer rows) (sym (c.next.ensures.stays.same ∙ same)) has in
    let there = subst (λ (f : List ℕ). IsLeft key_of f c.next_page.new.self left) (sym same) (rw (c.in_default.is) at (c.in_ok-page.ensures.given left honest is)) in
    let goes = row_left key_of mid left c.in-Some-2.row.now c.next.follows.lender-at-none (rw (c.in_ok-row.was, c.in-Some-2.is) at (c.next.follows.holds-at-none.gives left honest there)) in
    told_of (Unit {0}) c.in_err-add.field-0.0 c.from_residual-in_err-add.result (end_of_half c.args.image.now) start (rows ++ (c.in-Some-2.row.now ∷ without_keys goes.more)) (rows ++ without_keys left) (search rules)
    (ap (λ (l : List (List ℕ)). rows ++ l) (sym goes.same)) (c.in_err-add.ensures.full start rows (without_keys goes.more) held)

pub returns-in_err-add-clause-damaged : goal.returns-in_err-add-clause-damaged
returns-in_err-add-clause-damaged g c left honest is =
    let key_of = g.K.RowKeys.key_of c.args.keys.now in
    let mid = (g.D.Disk.life c.next_page.new.disk).seen in
    let there = subst (λ (f : List ℕ). IsLeft key_of f c.next_page.new.self left) (sym c.next_page.ensures.stays.same) (rw (c.in_default.is) at (c.in_ok-page.ensures.given left honest is)) in
    let goes = rw (c.in_ok-row.was, c.in-Some-2.is) at (c.next.follows.holds-at-none.gives left honest there) in
    handed_on _ _ c.in_err-add.field-0.0 c.add.result c.from_residual-in_err-add.result (search rules) (search rules)
    (λ long. inr (λ short. long (first_short key_of mid left c.in-Some-2.row.now c.next.follows.lender-at-none goes short)))
    c.add.ensures.damaged

pub returns-clause-adds : goal.returns-clause-adds
returns-clause-adds g c =
    let life = g.D.Disk.life in
    and_more g.D.Disk.is_modelled (life c.args.disk.now) (life c.next.new.disk) (life c.add.new.disk) c.args.image.now c.args.image.now c.add.new.image
    (reads g.D.Disk.is_modelled (life c.args.disk.now) (life c.next.new.disk) c.args.image.now (Stays-trans _ _ _ c.next_page.ensures.stays c.next.ensures.stays)) c.add.ensures.adds

pub returns-clause-steps : goal.returns-clause-steps
returns-clause-steps g c =
    let modelled = g.D.Disk.is_modelled in
    let key_of = g.K.RowKeys.key_of c.args.keys.now in
    let life = g.D.Disk.life in
    let file = (life c.args.disk.now).seen in
    let mid = (life c.next_page.new.disk).seen in
    let same = c.next_page.ensures.stays.same in
    record {
      rows = c.in-Some-2.row.now ∷ [];
      left = λ left honest is.
          let there = subst (λ (f : List ℕ). IsLeft key_of f c.next_page.new.self left) (sym same) (rw (c.in_default.is) at (c.in_ok-page.ensures.given left honest is)) in
          same_left key_of file mid left (c.in-Some-2.row.now ∷ []) c.next.follows.lender-at-none same
          (row_left key_of mid left c.in-Some-2.row.now c.next.follows.lender-at-none (rw (c.in_ok-row.was, c.in-Some-2.is) at (c.next.follows.holds-at-none.gives left honest there)));
      laid = λ start before has. c.in_ok-add.ensures.laid start before (subst (λ (f : List ℕ). HasLaid modelled key_of f start c.args.image.now c.args.self.now.writer before) (sym (c.next.ensures.stays.same ∙ same)) has);
      noted = c.note.ensures;
      end = c.next.follows.holds-at-none.end ∙ c.next_page.ensures.end;
      forward = omega (arith, c.next_page.ensures.forward, c.next.follows.holds-at-none.forward);
    }
