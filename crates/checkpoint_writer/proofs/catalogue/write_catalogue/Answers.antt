use Rattle.std.proofs.Common.{rules, ◌+◌, ◌*◌, ◌∙◌, ℕ, List, length, map, subst, ap, refl}
use Rattle.half_store.specs.Writing.{next_of}
use Rattle.row_pages.specs.Laying.{IsShort, laid}
use Rattle.std.specs.List.{AllByRecursion}
use Rattle.checkpoint_writer.specs.Catalogue.{place_of}
use Rattle.checkpoint_writer.proofs.Adding.{and_more, no_page, same_from}
use Rattle.checkpoint_writer.proofs.Listing.{all_listed, first_left, full_listed, names_left, none_left, nothing_laid, one_listed}
use Rattle.checkpoint_writer.proofs.catalogue.write_catalogue.Goals as goal

pub returns-in_err-rows-clause-adds : goal.returns-in_err-rows-clause-adds
returns-in_err-rows-clause-adds g c = no_page g.D.Disk.is_modelled (g.D.Disk.life c.args.disk.now) c.args.image.now

pub loop-left-init : goal.loop-left-init
loop-left-init g c = record {
  adds = no_page g.D.Disk.is_modelled (g.D.Disk.life c.args.disk.now) c.args.image.now;
  faults = refl;
  names = c.requires.names;
  lists = nothing_laid g.D.Disk.is_modelled (g.D.Disk.life c.args.disk.now).seen c.args.image.now c.in_ok-rows.rows (map place_of c.args.tables.now) c.in_ok-rows.ensures.page c.in_ok-rows.ensures.empty;
}

pub returns-in_err-add-clause-adds : goal.returns-in_err-add-clause-adds
returns-in_err-add-clause-adds g c =
    let life = g.D.Disk.life in
    and_more g.D.Disk.is_modelled (life c.args.disk.now) (life c.loop-left.disk) (life c.add.new.disk) c.args.image.now c.loop-left.image c.add.new.image c.loop-left.invariant.adds c.add.ensures.adds

pub returns-in_err-add-clause-full : goal.returns-in_err-add-clause-full
returns-in_err-add-clause-full g c =
    let inv = c.loop-left.invariant in
    let first = first_left c.loop-left.left.now c.table-item.result c.in-len1-up.len_at_least c.table-item.is in
    full_listed g.D.Disk.is_modelled (g.D.Disk.life c.loop-left.disk).seen (next_of c.args.image.now) c.loop-left.image c.loop-left.rows (map place_of c.loop-left.left.now) (map place_of c.args.tables.now) inv.lists
    c.args.image.now c.in_err-add.field-0.0 c.from_residual-in_err-add.result (place_of c.table-item.result) _ c.deref.result.now (search rules)
    (same_from c.args.image.now c.loop-left.image inv.adds.half inv.adds.half_bytes) inv.adds.half_bytes first (c.deref.ensures.value ∙ c.in_ok-entry_row.ensures.row)
    (c.in_err-add.ensures.full (next_of c.args.image.now) inv.lists.rows _ inv.lists.laying)

pub loop-left-preserved : goal.loop-left-preserved
loop-left-preserved g c =
    let inv = c.loop-left.invariant in
    let life = g.D.Disk.life in
    let first = first_left c.loop-left.left.now c.table-item.result c.in-len1-up.len_at_least c.table-item.is in
    record {
      adds = and_more g.D.Disk.is_modelled (life c.args.disk.now) (life c.loop-left.disk) (life c.add.new.disk) c.args.image.now c.loop-left.image c.add.new.image inv.adds c.add.ensures.adds;
      faults = c.in_ok-add.ensures.cause ∙ inv.faults;
      names = names_left (map place_of c.loop-left.left.now) (place_of c.table-item.result) _ first inv.names;
      lists = one_listed g.D.Disk.is_modelled (life c.loop-left.disk).seen (next_of c.args.image.now) c.loop-left.image c.loop-left.rows (map place_of c.loop-left.left.now) (map place_of c.args.tables.now) inv.lists
          (life c.add.new.disk).seen c.add.new.image c.add.new.self (place_of c.table-item.result) _ c.deref.result.now first (c.deref.ensures.value ∙ c.in_ok-entry_row.ensures.row)
          (c.in_ok-add.ensures.laid (next_of c.args.image.now) inv.lists.rows inv.lists.laying) c.in_ok-add.ensures.kind;
    }

pub returns-in_err-finish-clause-adds : goal.returns-in_err-finish-clause-adds
returns-in_err-finish-clause-adds g c =
    let life = g.D.Disk.life in
    and_more g.D.Disk.is_modelled (life c.args.disk.now) (life c.loop-left.disk) (life c.finish.new.disk) c.args.image.now c.loop-left.image c.finish.new.image c.loop-left.invariant.adds c.finish.ensures.adds

pub returns-clause-adds : goal.returns-clause-adds
returns-clause-adds g c =
    let life = g.D.Disk.life in
    and_more g.D.Disk.is_modelled (life c.args.disk.now) (life c.loop-left.disk) (life c.finish.new.disk) c.args.image.now c.loop-left.image c.finish.new.image c.loop-left.invariant.adds c.finish.ensures.adds

pub returns-clause-pages : goal.returns-clause-pages
returns-clause-pages g c =
    let inv = c.loop-left.invariant in
    let none = none_left c.loop-left.left.now c.in_default.len_below in
    c.in_ok-finish.ensures.pages (next_of c.args.image.now) inv.lists.rows inv.lists.laying
    ∙ ap (λ (l : List (List ℕ)). next_of c.args.image.now + 8192 * length (laid l))
    (all_listed g.D.Disk.is_modelled (g.D.Disk.life c.loop-left.disk).seen (next_of c.args.image.now) c.loop-left.image c.loop-left.rows (map place_of c.loop-left.left.now) (map place_of c.args.tables.now) inv.lists none)

pub returns-clause-short : goal.returns-clause-short
returns-clause-short g c =
    let inv = c.loop-left.invariant in
    subst (λ (l : List (List ℕ)). AllByRecursion IsShort l)
    (all_listed g.D.Disk.is_modelled (g.D.Disk.life c.loop-left.disk).seen (next_of c.args.image.now) c.loop-left.image c.loop-left.rows (map place_of c.loop-left.left.now) (map place_of c.args.tables.now) inv.lists (none_left c.loop-left.left.now c.in_default.len_below))
    inv.lists.laying.short
