-- The changes are those that are told one by one, and the pages are known by the keys of their first rows.
use Rattle.std.proofs.Common.{◌≡◌, ℕ, List, length, Option, ◌≤◌, sym, ap, subst, ◌∙◌, arith}
use Rattle.std.proofs.lemmas.List.{length-map}
use Rattle.key_map.specs.Overlay.{change_of, changes_of}
use Rattle.key_map.specs.Walk.{rows_left}
use Rattle.row_pages.specs.Laying.{counted, laid, rows_over}
use Rattle.key_map.specs.Merging.{Changes, merged}
use Rattle.table_map.specs.Keyed.{keyed_rows}
use Rattle.table_map.specs.Room.{bytes_of, most_by_bytes}
use Rattle.table_map.specs.Table.{Table, rows_of_table, without_keys}
use Rattle.table_map.proofs.Bounded.{most, most_in_bytes}
use Rattle.table_map.proofs.Opened.{many_first}
use Rattle.table_map.proofs.table.TableMap.most_pages.Goals as goal

pub returns : goal.returns
returns c key_of pages file is =
    let overlay : c.self.inside.overlay ≡ c.args.self.now.overlay = ap (λ (t : Table). t.overlay) c.self.view_is in
    let changes = changes_of c.args.self.now.overlay in
    let entries = rows_left c.entries.result in
    let listed : length entries ≡ length changes = sym (length-map entries change_of) ∙ ap (λ (l : List (List ℕ × Option (List ℕ))). length l) (c.entries.ensures.all ∙ ap changes_of overlay) in
    let many : length c.args.self.now.places.keys ≡ length pages = ap (λ (l : List (List ℕ)). length l) is.first ∙ many_first key_of pages in
    let held : length c.self.inside.pages.keys ≡ length c.args.self.now.places.keys = ap (λ (t : Table). length t.places.keys) c.self.view_is in
    let all : ℕ = length (laid (without_keys (rows_of_table key_of c.args.self.now pages))) in
    let same = ap (λ (cs : Changes). length (laid (without_keys (merged (keyed_rows key_of (rows_over pages)) cs)))) (c.entries.ensures.all ∙ ap changes_of overlay) in
    let by_bytes : all ≤ most_by_bytes (length pages) (bytes_of entries) = omega (arith, same, most_in_bytes key_of file c.args.self.now.places.at pages entries is.stand) in
    let count : c.count-pages.result ≡ length pages = omega (arith, held, many, c.count-pages.ensures) in
    let most_is = subst (λ (n : ℕ). counted (most_by_bytes n (bytes_of entries)) ≤ c.most_with.result) count (c.most_with.ensures (bytes_of entries) c.count_changes-changes.ensures.bytes) in
    omega (arith, by_bytes, most_is, most key_of file c.args.self.now.places.at pages changes is.stand, listed, count, c.count_changes-changes.ensures.count, c.saturating_mul.ensures, c.saturating_add-by_count.ensures, c.min.ensures)
