-- The pages of all tables, and behind them the catalogue.
use Rattle.std.proofs.Common.{◌≡◌, ◌+◌, ◌∙◌, List, length, map, sym, ap, subst, arith}
use Rattle.row_pages.specs.Laying.{laid}
use Rattle.std.specs.List.{AllByRecursion}
use Rattle.table_map.specs.Stored.{Places}
use Rattle.half_store.specs.Writing.{from_of, next_of}
use Rattle.checkpoint_writer.specs.Catalogue.{Entry, place_of, rows_of}
use Rattle.checkpoint_writer.specs.declared.entry.TablePlace.{TablePlace}
use Rattle.checkpoint_writer.proofs.Adding.{and_more, same_from}
use Rattle.store_check.specs.Checkpoint.{HasCheckpoint, forms}
use Rattle.store_check.specs.Written.{IsWritten}
use Rattle.store_check.specs.Laying.{laid_from, pages_with}
use Rattle.store_check.proofs.LaidHalf.{checkpoint}
use Rattle.store_check.proofs.Moving.{all_stay}
use Rattle.paged_tables.specs.Stored.{IsOnPages}
use Rattle.paged_tables.specs.TablesByName.{AreLaid}
use Rattle.paged_checkpoints.specs.Laying.{all_shown}
use Rattle.paged_checkpoints.proofs.Framed.{all_anew}
use Rattle.paged_checkpoints.proofs.Laid.{lie_wider}
use Rattle.paged_checkpoints.proofs.pages.write_pages.Goals as goal

pub returns-in_err-write_catalogue-clause-adds : goal.returns-in_err-write_catalogue-clause-adds
returns-in_err-write_catalogue-clause-adds g c =
    let life = g.D.Disk.life in
    and_more g.D.Disk.is_modelled (life c.args.disk.now) (life c.write_tables.new.disk) (life c.write_catalogue.new.disk) c.args.image.now c.write_tables.new.image c.write_catalogue.new.image c.write_tables.ensures.adds c.write_catalogue.ensures.adds

pub returns-clause-adds : goal.returns-clause-adds
returns-clause-adds g c =
    let life = g.D.Disk.life in
    and_more g.D.Disk.is_modelled (life c.args.disk.now) (life c.write_tables.new.disk) (life c.write_catalogue.new.disk) c.args.image.now c.write_tables.new.image c.write_catalogue.new.image c.write_tables.ensures.adds c.write_catalogue.ensures.adds

pub returns-clause-listed : goal.returns-clause-listed
returns-clause-listed g c =
    let begun = c.args.image.now in
    let w = c.write_tables.new.image in
    let after = c.write_catalogue.new.image in
    let first = c.write_tables.ensures.adds in
    let second = c.write_catalogue.ensures.adds in
    let listed = c.in_ok-laid.ensures.listed in
    let here : from_of w ≡ from_of begun = same_from begun w first.half first.half_bytes in
    let there : from_of after ≡ from_of w = same_from w after second.half second.half_bytes in
    record {
      first = omega (arith, c.pages-first_catalogue.ensures, second.more);
      lie = lie_wider (next_of begun) (next_of w) (from_of after + 8192) (next_of after) c.in_ok-laid.laid.pages.items (omega (arith, here, there)) (omega (arith, there, second.more)) listed.lie;
      count = listed.count;
    }

pub returns-clause-written : goal.returns-clause-written
returns-clause-written g c readable =
    let mid = (g.D.Disk.life c.write_tables.new.disk).seen in
    let new = (g.D.Disk.life c.write_catalogue.new.disk).seen in
    let begun = c.args.image.now in
    let w = c.write_tables.new.image in
    let after = c.write_catalogue.new.image in
    let tables = all_shown c.args.tables in
    let first = c.write_tables.ensures.adds in
    let second = c.write_catalogue.ensures.adds in
    let here : from_of w ≡ from_of begun = same_from begun w first.half first.half_bytes in
    let there : from_of after ≡ from_of w = same_from w after second.half second.half_bytes in
    let are = c.in_ok-laid.ensures.written readable in
    let places = ap (λ (l : List TablePlace). map place_of l) c.deref.ensures.value ∙ are.places in
    let written = all_stay mid new (next_of w) _ (from_of begun + 8192) 0 tables second.others (omega (arith, here, are.pages)) are.written in
    record {
      checkpoint = subst (λ n. HasCheckpoint new (pages_with after n) tables) (sym c.pages-first_catalogue.ensures)
          (checkpoint c.one_laying.ensures.laid c.written_half_is_whole.ensures mid new w after (map place_of c.deref.result.now) tables c.requires.store there
          places are.pages c.in_ok-write_catalogue.ensures.pages
          c.in_ok-write_catalogue.ensures.short (c.in_ok-write_catalogue.ensures.stand readable.modelled_disk)
          (subst (λ n. AllByRecursion (IsWritten forms new (n + 8192)) (laid_from (n + 8192) 0 tables)) (sym (there ∙ here)) written));
      stand = subst (λ (l : List Places). AreLaid (IsOnPages new) l c.args.tables) (sym are.lists) (all_anew new (from_of begun + 8192) 0 c.args.tables written c.in_ok-laid.ensures.listed.under);
      pages = omega (arith, there, are.pages, c.in_ok-write_catalogue.ensures.pages, ap (λ (l : List Entry). length (laid (rows_of l))) places);
    }
