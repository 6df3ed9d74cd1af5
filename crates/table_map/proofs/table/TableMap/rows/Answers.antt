use Rattle.std.proofs.Common.{◌≡◌, ℕ, List, [], None, length, map, sym, ap, subst, ◌∙◌}
use Rattle.row_pages.specs.Laying.{rows_over}
use Rattle.key_map.specs.Merging.{Rows, Changes, InOrder, merged}
use Rattle.key_map.specs.Overlay.{change_of, changes_of}
use Rattle.table_map.specs.Keyed.{keyed_rows}
use Rattle.table_map.specs.Stored.{IsStored}
use Rattle.table_map.specs.Walk.{PagesLeft}
use Rattle.table_map.specs.Table.{Table, rows_of_table}
use Rattle.table_map.specs.Cursor.{IsLeft}
use Rattle.table_map.proofs.Opened.{many_first}
use Rattle.table_map.proofs.table.TableMap.rows.Goals as goal

begins : (key_of : List ℕ → List ℕ) (table : Table) (pages : List (List (List ℕ))) (file : List ℕ) → IsStored key_of table.places pages file → (entries : Rows) → map change_of entries ≡ changes_of table.overlay → InOrder (changes_of table.overlay)
    → IsLeft key_of file (record { base = record { at = table.places.at; pages = length table.places.keys; rows = []; last = None }; changes = entries }) (rows_of_table key_of table pages)
begins key_of table pages file is entries are rising =
    record {
      pages = pages;
      stand = is.stand;
      many = sym (ap length is.first ∙ many_first key_of pages);
      order = is.order;
      rising = subst (λ (c : Changes). InOrder c) (sym are) rising;
      same = ap (λ (c : Changes). merged (keyed_rows key_of (rows_over pages)) c) (sym are);
    }

pub returns-clause-left : goal.returns-clause-left
returns-clause-left c key_of pages file is =
    let table : Table = record { places = c.self.inside.pages; overlay = c.self.inside.overlay } in
    subst (λ (t : Table). IsLeft key_of file (record { base = c.rows_left.result; changes = c.new.result }) (rows_of_table key_of t pages)) c.self.view_is
    (subst (λ (b : PagesLeft). IsLeft key_of file (record { base = b; changes = c.new.result }) (rows_of_table key_of table pages)) (sym c.rows_left.ensures)
    (begins key_of table pages file (subst (λ (t : Table). IsStored key_of t.places pages file) (sym c.self.view_is) is) c.new.result (ap (map change_of) c.new.ensures ∙ c.entries.ensures.all) c.entries.ensures.rising))
