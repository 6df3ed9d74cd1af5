-- Table after table.
use Rattle.std.proofs.Common.{rules, ◌+◌, ◌*◌, ◌∙◌, ◌∷◌, [], ℕ, List, length, length-append, map, refl, sym, ap, ap₂, subst, arith}
use Rattle.std.proofs.lemmas.List.{map-append}
use Rattle.std.specs.List.{AllByRecursion}
use Rattle.row_values.specs.Schema.{is_name}
use Rattle.tables.specs.View.{is_table}
use Rattle.row_values.proofs.ValueLaws.{first_true}
use Rattle.table_map.specs.Stored.{Places}
use Rattle.half_store.specs.Writing.{next_of}
use Rattle.checkpoint_writer.specs.Adding.{end_of_half}
use Rattle.checkpoint_writer.specs.Catalogue.{Entry, HaveNames, place_of}
use Rattle.checkpoint_writer.specs.declared.entry.TablePlace.{TablePlace}
use Rattle.checkpoint_writer.proofs.Adding.{and_more, no_page, same_from}
use Rattle.checkpoint_writer.proofs.Told.{handed_on}
use Rattle.store_check.specs.Room.{pages_of_table, pages_of_tables}
use Rattle.store_check.proofs.Moving.{good_all, room_left, told_wider}
use Rattle.paged_tables.specs.Stored.{Stored, table_in}
use Rattle.paged_tables.specs.TablesByName.{Tables}
use Rattle.paged_checkpoints.specs.Apart.{LiesFrom}
use Rattle.paged_checkpoints.specs.Laying.{IsUnder, all_shown, created_entry}
use Rattle.paged_checkpoints.proofs.Beside.{one_readable, rest_inside, rest_readable}
use Rattle.paged_checkpoints.proofs.Laid.{good_first, lie_more, lie_wider, names_more, none_laid, one_laid}
use Rattle.paged_checkpoints.proofs.table_pages.write_tables.Goals as goal

pub loop-table-init : goal.loop-table-init
loop-table-init g c = record {
  adds = no_page g.D.Disk.is_modelled (g.D.Disk.life c.args.disk.now) c.args.image.now;
  faults = refl;
  inside = c.requires.lie;
  good = good_all (all_shown c.args.tables) c.requires.store;
  names = subst (λ (l : List TablePlace). HaveNames (map place_of l)) (sym c.new.ensures.items) tt;
  under = λ all. all;
  lie = subst (λ (l : List Places). AllByRecursion (LiesFrom (next_of c.args.image.now) (next_of c.args.image.now)) l) (sym c.new-2.ensures.items) tt;
  count = omega (arith, ap (λ (l : List Places). length l) c.new-2.ensures.items);
  readable = λ readable. readable;
  laid = λ readable.
      none_laid g.D.Disk.is_modelled (g.D.Disk.life c.args.disk.now).seen c.args.image.now (map place_of c.new.result.items) c.new-2.result.items c.args.tables c.requires.none (ap (λ (l : List TablePlace). map place_of l) c.new.ensures.items) c.new-2.ensures.items;
}

pub returns-in_err-written-clause-adds : goal.returns-in_err-written-clause-adds
returns-in_err-written-clause-adds g c =
    let life = g.D.Disk.life in
    and_more g.D.Disk.is_modelled (life c.args.disk.now) (life c.loop-table.disk) (life c.write_table.new.disk) c.args.image.now c.loop-table.image c.write_table.new.image c.loop-table.invariant.adds c.write_table.ensures.adds

pub returns-in_err-written-clause-told : goal.returns-in_err-written-clause-told
returns-in_err-written-clause-told g c readable =
    let inv = c.loop-table.invariant in
    let modelled = g.D.Disk.is_modelled in
    let file = (g.D.Disk.life c.loop-table.disk).seen in
    let begun = c.args.image.now in
    let from = same_from begun c.loop-table.image inv.adds.half inv.adds.half_bytes in
    let lent = c.in-Some.ensures in
    let far = (inv.laid readable).far in
    let room = room_left modelled file begun c.loop-table.image _ (all_shown c.loop-table.left) (all_shown c.args.tables) far (created_entry lent.0) (all_shown c.next_table.new.self) (ap all_shown lent.2) in
    let good = good_first c.loop-table.left lent.0 c.next_table.new.self lent.2 inv.good in
    let there = one_readable modelled file c.loop-table.image c.loop-table.left lent.0 c.next_table.new.self lent.2 (inv.readable readable) in
    record {
      full = told_wider c.in_err-written.field-0.0 c.write_table.result c.from_residual.result (end_of_half c.loop-table.image) (end_of_half begun) (next_of c.loop-table.image + 8192 * pages_of_table (table_in lent.0.1))
          (next_of begun + 8192 * pages_of_tables (all_shown c.args.tables)) (search rules) (search rules) (ap₂ (λ a b. a + b) from inv.adds.half_bytes) (omega (arith, from, room))
          (c.write_table.ensures.full lent.0 lent.1 there);
      damaged = handed_on _ _ c.in_err-written.field-0.0 c.write_table.result c.from_residual.result (search rules) (search rules) (λ never. never)
          (c.write_table.ensures.damaged lent.0 lent.1 good.0 there);
    }

pub returns-in_err-push_table-clause-adds : goal.returns-in_err-push_table-clause-adds
returns-in_err-push_table-clause-adds g c =
    let life = g.D.Disk.life in
    and_more g.D.Disk.is_modelled (life c.args.disk.now) (life c.loop-table.disk) (life c.write_table.new.disk) c.args.image.now c.loop-table.image c.write_table.new.image c.loop-table.invariant.adds c.write_table.ensures.adds

pub loop-table-preserved : goal.loop-table-preserved
loop-table-preserved g c =
    let inv = c.loop-table.invariant in
    let life = g.D.Disk.life in
    let modelled = g.D.Disk.is_modelled in
    let old = (life c.loop-table.disk).seen in
    let new = (life c.write_table.new.disk).seen in
    let begun = c.args.image.now in
    let w = c.loop-table.image in
    let after = c.write_table.new.image in
    let lent = c.in-Some.ensures in
    let e : List ℕ × Stored = lent.0 in
    let rest : Tables = c.next_table.new.self in
    let made = c.in_ok-written.written in
    let good = good_first c.loop-table.left e rest lent.2 inv.good in
    let adds = c.write_table.ensures.adds in
    let here = same_from w after adds.half adds.half_bytes in
    let there = same_from begun w inv.adds.half inv.adds.half_bytes in
    let last = c.in_ok-written.ensures.last.pages in
    let count = ap length c.in_ok-push_table.ensures.pages ∙ length-append c.loop-table.laid.pages.items (made.pages ∷ []) in
    let places_are =
    ap (λ (l : List TablePlace). map place_of l) c.in_ok-push_table.ensures.places ∙ map-append place_of c.loop-table.laid.places.items (made.place ∷ []) in
    record {
      adds = and_more modelled (life c.args.disk.now) (life c.loop-table.disk) (life c.write_table.new.disk) begun w after inv.adds adds;
      faults = c.in_ok-written.ensures.cause ∙ inv.faults;
      inside = (rest_inside (length (life c.args.disk.now).seen) c.loop-table.left e rest lent.2 inv.inside).1;
      good = good.1;
      names = subst (λ (l : List Entry). HaveNames l) (sym places_are)
          (names_more (map place_of c.loop-table.laid.places.items) (place_of made.place) inv.names (ap is_name (c.in_ok-written.ensures.last.name_is ∙ lent.1.name) ∙ first_true (is_name e.0) (is_table (table_in e.1)) good.0));
      under = λ all. inv.under (subst (λ (l : Tables). AllByRecursion IsUnder l) (sym lent.2) (c.in_ok-written.ensures.under e lent.1, all));
      lie = subst (λ (l : List Places). AllByRecursion (LiesFrom (next_of begun) (next_of after)) l) (sym c.in_ok-push_table.ensures.pages)
          (lie_more (next_of begun) (next_of after) c.loop-table.laid.pages.items made.pages
          (lie_wider (next_of begun) (next_of w) (next_of begun) (next_of after) c.loop-table.laid.pages.items (omega arith) (omega (arith, here, adds.more)) inv.lie)
          (record { first = omega (arith, last.at, there, inv.adds.more); last = omega (arith, last.next) }));
      count = omega (arith, count, inv.count, ap length lent.2);
      readable = λ readable. rest_readable modelled old new w after c.loop-table.left e rest lent.2 here adds.half_bytes adds.others (inv.readable readable);
      laid = λ readable.
          one_laid modelled old new begun w after _ (map place_of c.loop-table.laid.places.items) (map place_of c.push_table.new.tables.places.items) c.loop-table.laid.pages.items c.push_table.new.tables.pages.items c.loop-table.left e rest c.args.tables
          (place_of made.place) made.pages lent.2 there adds.others places_are c.in_ok-push_table.ensures.pages
          (c.in_ok-written.ensures.laid e lent.1 good.0 (one_readable modelled old w c.loop-table.left e rest lent.2 (inv.readable readable))) (inv.laid readable);
    }

pub returns-clause-listed : goal.returns-clause-listed
returns-clause-listed g c =
    let inv = c.loop-table.invariant in
    record { names = inv.names; under = search rules; lie = inv.lie; count = search rules }

pub returns-clause-written : goal.returns-clause-written
returns-clause-written g c readable =
    let so = c.loop-table.invariant.laid readable in
    record { places = search rules; pages = search rules; lists = search rules; written = search rules }
