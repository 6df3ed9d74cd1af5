use Rattle.std.proofs.Common.{◌≡◌, ℕ, List, [], length, sym, ap, subst}
use Rattle.drda_disk.proofs.Moments.{Stays-refl, Stays-trans}
use Rattle.paged_tables.specs.Stored.{IsOnPages}
use Rattle.paged_tables.specs.TablesByName.{AreOnPages, LieInside, Tables, created_of}
use Rattle.store_dump.specs.Dump.{shown_table}
use Rattle.store_dump.proofs.Going.{failed, nothing_appended}
use Rattle.store_dump.proofs.Telling.{IsTelling, all_told, broke_off, one_told, stored_text}
use Rattle.store_dump.proofs.listing.list_tables.Goals as goal

pub loop-table-init : goal.loop-table-init
loop-table-init g c = record {
  stays = Stays-refl _;
  inside = c.lend-left.ensures.pages.inside _ c.requires;
  told = λ honest on. (c.lend-left.ensures.pages.stand _ on, record { written = []; so_far = nothing_appended (g.W.Write.contents c.args.out.now); same = ap (stored_text shown_table) c.lend-left.ensures.tables });
}

pub loop-table-preserved : goal.loop-table-preserved
loop-table-preserved g c =
    let inv = c.loop-table.invariant in
    let contents = g.W.Write.contents in
    let file = (g.D.Disk.life c.args.disk.now).seen in
    let all = created_of c.args.tables.now.tables in
    let first = c.in-Some.ensures.0 in
    let left = c.next_table.new.self in
    let lent = c.in-Some.ensures.1 in
    let same = c.in-Some.ensures.2 in
    let inside = subst (λ (ts : Tables). LieInside (length file) ts) same inv.inside in
    record {
      stays = Stays-trans _ _ _ inv.stays c.list_table.ensures.stays;
      inside = inside.1;
      told = λ honest on.
          let held = inv.told honest on in
          let there = subst (λ (ts : Tables). AreOnPages file ts) same held.0 in
          let telling = subst (λ (ts : Tables). IsTelling shown_table all ts (contents c.args.out.now) (contents c.loop-table.out)) same held.1 in
          let here = subst (λ (f : List ℕ). IsOnPages f first.1) (sym inv.stays.same) there.0 in
          (there.1, one_told shown_table all left first (contents c.args.out.now) (contents c.loop-table.out) (contents c.list_table.new.out) telling (c.in_ok-list_table.ensures.told first lent honest here));
    }

pub returns-in_err-list_table-clause-told : goal.returns-in_err-list_table-clause-told
returns-in_err-list_table-clause-told g c honest on =
    let inv = c.loop-table.invariant in
    let contents = g.W.Write.contents in
    let file = (g.D.Disk.life c.args.disk.now).seen in
    let tables = c.args.tables.now.tables in
    let first = c.in-Some.ensures.0 in
    let lent = c.in-Some.ensures.1 in
    let same = c.in-Some.ensures.2 in
    let held = inv.told honest on in
    let there = subst (λ (ts : Tables). AreOnPages file ts) same held.0 in
    let telling = subst (λ (ts : Tables). IsTelling shown_table (created_of tables) ts (contents c.args.out.now) (contents c.loop-table.out)) same held.1 in
    let here = subst (λ (f : List ℕ). IsOnPages f first.1) (sym inv.stays.same) there.0 in
    failed _ c.from_residual.result _ _ c.from_residual.ensures.0 (broke_off shown_table tables c.next_table.new.self first (contents c.args.out.now) (contents c.loop-table.out) (contents c.list_table.new.out) telling (c.in_err-list_table.ensures.told first lent honest here))

pub returns-clause-told : goal.returns-clause-told
returns-clause-told g c honest on =
    let inv = c.loop-table.invariant in
    let contents = g.W.Write.contents in
    let none : c.loop-table.left ≡ [] = rw c.in_default.is at c.next_table.ensures in
    all_told shown_table c.args.tables.now.tables c.loop-table.left (contents c.args.out.now) (contents c.loop-table.out) (inv.told honest on).1 none
