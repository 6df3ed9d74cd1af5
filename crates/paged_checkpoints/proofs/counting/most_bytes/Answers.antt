-- What is left of the tables is counted behind those that were.
use Rattle.std.proofs.Common.{◌≡◌, ℕ, ◌+◌, [], List, sym, ap, subst, ◌∙◌, arith}
use Rattle.row_pages.specs.Laying.{counted, pages_with}
use Rattle.checkpoint_writer.specs.Catalogue.{rows_of}
use Rattle.store_check.specs.Room.{entries_from, pages_of_catalogue, pages_of_table, pages_of_tables}
use Rattle.store_check.proofs.Moving.{good_all}
use Rattle.paged_tables.specs.Stored.{Stored, table_in}
use Rattle.paged_tables.specs.TablesByName.{AreOnPages, Tables}
use Rattle.paged_checkpoints.specs.Laying.{all_shown}
use Rattle.paged_checkpoints.proofs.Laid.{good_first}
use Rattle.paged_checkpoints.proofs.counting.most_bytes.Goals as goal

pub loop-table-init : goal.loop-table-init
loop-table-init c = record {
  good = good_all (all_shown c.args.tables) c.requires;
  stand = λ file all. all;
  tables = λ file all. omega arith;
  catalogue = (0, c.new.ensures (rows_of (entries_from 0 (all_shown c.args.tables))));
}

pub loop-table-preserved : goal.loop-table-preserved
loop-table-preserved c =
    let inv = c.loop-table.invariant in
    let lent = c.in-Some.ensures in
    let e : List ℕ × Stored = lent.0 in
    let rest : Tables = c.next_table.new.self in
    let next = inv.catalogue.0 in
    let many = pages_of_table (table_in e.1) in
    let stand = λ (file : List ℕ) (all : AreOnPages file c.args.tables). subst (λ (l : Tables). AreOnPages file l) lent.2 (inv.stand file all) in
    record {
      good = (good_first c.loop-table.left e rest lent.2 inv.good).1;
      stand = λ file all. (stand file all).1;
      tables = λ file all.
          let left : pages_of_tables (all_shown c.loop-table.left) ≡ many + pages_of_tables (all_shown rest) = ap (λ (l : Tables). pages_of_tables (all_shown l)) lent.2 in
          omega (arith, inv.tables file all, c.in_ok-count_most.ensures.tables e file lent.1 (stand file all).0, left);
      catalogue = (
        next + many,
        c.in_ok-count_most.ensures.catalogue e next (rows_of (entries_from (next + many) (all_shown rest))) lent.1
            ∙ ap (λ (l : Tables). pages_with c.loop-table.pages.catalogue (rows_of (entries_from next (all_shown l)))) (sym lent.2)
            ∙ inv.catalogue.1,
      );
    }

pub returns : goal.returns
returns c file all =
    let inv = c.loop-table.invariant in
    let none : pages_of_tables (all_shown c.loop-table.left) ≡ 0 = ap (λ (l : Tables). pages_of_tables (all_shown l)) c.in_default.ensures in
    let bare : pages_with c.loop-table.pages.catalogue [] ≡ counted (pages_of_catalogue (all_shown c.args.tables)) =
    ap (λ (l : Tables). pages_with c.loop-table.pages.catalogue (rows_of (entries_from inv.catalogue.0 (all_shown l)))) (sym c.in_default.ensures) ∙ inv.catalogue.1 in
    omega (arith, inv.tables file all, none, bare, c.laid_len.ensures, c.half_with.ensures)
