use Rattle.std.proofs.Common.{rules, ◌≡◌, ◌∙◌, ℕ, List, Ok, Err, subst, arith}
use Rattle.drda_words.specs.Place.{part}
use Rattle.drda_disk.proofs.Moments.{Stays-trans}
use Rattle.checkpoint_writer.specs.ReadCatalogue.{ReadsBytes}
use Rattle.checkpoint_writer.proofs.ReadEntries.{all_read, damaged_more, has_more, stopped}
use Rattle.checkpoint_writer.proofs.reading.read_catalogue.Goals as goal

pub returns-in_err-read_page-clause-told : goal.returns-in_err-read_page-clause-told
returns-in_err-read_page-clause-told g c honest =
    let inv = c.loop-left.invariant in
    let e = c.in_err-read_page.field-0.0 in
    let at = c.loop-left.next in
    let file = (g.D.Disk.life c.args.pager.now).seen in
    let reads = subst (λ (f : List ℕ). ReadsBytes {T = Unit {0}} (part f at 8192) at c.loop-left.tables.items (Err e) c.read_page.new.tables.items) inv.stays.same (c.in_err-read_page.ensures.told honest) in
    stopped file at c.loop-left.left c.loop-left.tables.items c.read_page.new.tables.items c.args.at c.args.pages c.loop-left-test.true (λ d damaged. inv.damaged d honest damaged) e reads c.from_residual.result (search rules)

pub loop-left-preserved : goal.loop-left-preserved
loop-left-preserved g c =
    let inv = c.loop-left.invariant in
    let at = c.loop-left.next in
    let file = (g.D.Disk.life c.args.pager.now).seen in
    record {
      stays = Stays-trans _ _ _ inv.stays c.read_page.ensures.stays;
      faults = c.in_ok-read_page.ensures.cause ∙ inv.faults;
      end = omega (arith, inv.end, c.loop-left-test.true);
      has = λ rest honest has.
          has_more file at c.loop-left.left c.loop-left.tables.items c.read_page.new.tables.items c.args.at c.args.pages c.loop-left-test.true (λ more are. inv.has more honest are)
          (subst (λ (f : List ℕ). ReadsBytes {T = Unit {0}} (part f at 8192) at c.loop-left.tables.items (Ok tt) c.read_page.new.tables.items) inv.stays.same (c.in_ok-read_page.ensures.told honest)) rest has;
      damaged = λ d honest damaged.
          damaged_more file at c.loop-left.left c.loop-left.tables.items c.read_page.new.tables.items c.args.at c.args.pages c.loop-left-test.true (λ d are. inv.damaged d honest are)
          (subst (λ (f : List ℕ). ReadsBytes {T = Unit {0}} (part f at 8192) at c.loop-left.tables.items (Ok tt) c.read_page.new.tables.items) inv.stays.same (c.in_ok-read_page.ensures.told honest)) d damaged;
    }

pub returns-clause-told : goal.returns-clause-told
returns-clause-told g c honest =
    let inv = c.loop-left.invariant in
    let none : c.loop-left.left ≡ 0 = omega (arith, c.loop-left-test.false) in
    all_read (g.D.Disk.life c.args.pager.now).seen c.loop-left.next c.loop-left.left c.loop-left.tables.items c.args.at c.args.pages none (λ rest has. inv.has rest honest has)
