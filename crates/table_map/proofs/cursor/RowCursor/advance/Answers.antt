use Rattle.std.proofs.Common.{rules, ℕ, List, subst, arith, ◌∙◌}
use Rattle.drda_disk.proofs.Moments.{Stays-trans}
use Rattle.table_map.specs.Damage.{HasNoRows, SomePage}
use Rattle.table_map.specs.Walk.{Loads}
use Rattle.table_map.proofs.Damaged.{at_front, handed_on, of_left}
use Rattle.table_map.proofs.Going.{settled_left}
use Rattle.table_map.proofs.cursor.RowCursor.advance.Goals as goal

pub returns-in-Row-clause-finds : goal.returns-in-Row-clause-finds
returns-in-Row-clause-finds g c left honest held =
    let inv = c.loop-self.invariant in
    let file = (g.D.Disk.life c.args.disk.now).seen in
    let reads = subst (λ (f : List ℕ). Loads f c.loop-self.self.base c.settle.new.self) inv.stays.same (c.in_ok-settle.ensures.rows honest) in
    let now = settled_left (g.K.RowKeys.key_of c.args.keys.now) file c.loop-self.self left c.settle.new.self reads (inv.left left honest held) in
    c.in-Row.ensures.steps file left now

pub returns-in-End-clause-finds : goal.returns-in-End-clause-finds
returns-in-End-clause-finds g c left honest held =
    let inv = c.loop-self.invariant in
    let file = (g.D.Disk.life c.args.disk.now).seen in
    let reads = subst (λ (f : List ℕ). Loads f c.loop-self.self.base c.settle.new.self) inv.stays.same (c.in_ok-settle.ensures.rows honest) in
    let now = settled_left (g.K.RowKeys.key_of c.args.keys.now) file c.loop-self.self left c.settle.new.self reads (inv.left left honest held) in
    c.in-End.ensures.steps file left now

pub loop-self-preserved : goal.loop-self-preserved
loop-self-preserved g c =
    let inv = c.loop-self.invariant in
    let file = (g.D.Disk.life c.args.disk.now).seen in
    let falls = c.in-Skip.ensures.fewer in
    record {
      stays = Stays-trans _ _ _ inv.stays c.settle.ensures.stays;
      faults = c.in_ok-settle.ensures.cause ∙ inv.faults;
      end = omega (arith, c.step.ensures.at, c.step.ensures.pages, c.settle.ensures.end, inv.end);
      forward = omega (arith, c.step.ensures.at, c.settle.ensures.forward, inv.forward);
      fewer = omega (arith, falls, c.settle.ensures.weight, inv.fewer);
      left = λ left honest held.
          let reads = subst (λ (f : List ℕ). Loads f c.loop-self.self.base c.settle.new.self) inv.stays.same (c.in_ok-settle.ensures.rows honest) in
          let now = settled_left (g.K.RowKeys.key_of c.args.keys.now) file c.loop-self.self left c.settle.new.self reads (inv.left left honest held) in
          c.in-Skip.ensures.steps file left now;
    }

pub returns-in_err-settle-clause-damaged : goal.returns-in_err-settle-clause-damaged
returns-in_err-settle-clause-damaged g c honest =
    let inv = c.loop-self.invariant in
    let file = (g.D.Disk.life c.args.disk.now).seen in
    let old = c.args.self.now.base in
    let base = c.loop-self.self.base in
    handed_on _ _ c.in_err-settle.field-0.0 c.settle.result c.from_residual.result (search rules) (search rules)
    (λ told. subst (λ (f : List ℕ). SomePage HasNoRows f old.at old.pages) inv.stays.same (of_left HasNoRows _ old.at old.pages base.at base.pages inv.end inv.forward (at_front HasNoRows _ base.at base.pages told.0 told.1)))
    (c.settle.ensures.damaged honest)
