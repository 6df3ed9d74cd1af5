-- The table stands behind the others, whether or not there was memory for it.
use Rattle.std.proofs.Common.{◌≡◌, ◌++◌, [], ◌∷◌, refl, ap, subst, sym, OnErr, OnOk}
use Rattle.std.specs.String.{string_bytes}
use Rattle.key_map.specs.RowForm.{row_form}
use Rattle.table_map.specs.Keyed.{keyed_rows}
use Rattle.paged_tables.specs.Stored.{opened, table_in}
use Rattle.paged_tables.specs.TablesByName.{AddsPages, ComesLast, Tables, created_of, store_of, tables_in}
use Rattle.paged_tables.proofs.Opened.{added_or_kept, good_added, good_or_kept, same_added, store_or_added, store_or_kept}
use Rattle.paged_tables.proofs.tables_by_name.TablesByName.add.Goals as goal

pub invariant_of-self : goal.invariant_of-self
invariant_of-self c =
    let old = tables_in c.self.inside.tables.entries in
    let new = tables_in c.add.new.tables.entries in
    let name = string_bytes c.args.name in
    let one = opened c.args.schema c.args.pages.pages c.args.pages.rows.listed.value in
    let last : ComesLast name (store_of old) = subst (λ (s : Tables). ComesLast name (store_of s)) (sym c.self.view_is) c.requires.last in
    let added = same_added c.add.result new (created_of old) c.into_bytes.result.items name c.in_ok-table.table one (ap (λ v. v.items) c.into_bytes.ensures.value) c.in_ok-table.ensures.table c.add.ensures.added in
    record {
      ordered = c.add.ensures.ordered;
      good = good_or_kept old new name one c.add.result added c.add.ensures.kept refl c.self.invariant.good
          (good_added name c.args.schema (keyed_rows (row_form c.args.schema) c.args.pages.rows.listed.value) (store_of old) c.self.invariant.good c.requires.name last c.in_ok-table.ensures.good c.requires.rows.forms c.requires.rows.order);
    }

pub returns-clause-added : goal.returns-clause-added
returns-clause-added c =
    let old = tables_in c.self.inside.tables.entries in
    let new = tables_in c.add.new.tables.entries in
    let name = string_bytes c.args.name in
    let one = opened c.args.schema c.args.pages.pages c.args.pages.rows.listed.value in
    let added = same_added c.add.result new (created_of old) c.into_bytes.result.items name c.in_ok-table.table one (ap (λ v. v.items) c.into_bytes.ensures.value) c.in_ok-table.ensures.table c.add.ensures.added in
    subst (λ (s : Tables). OnOk c.add.result (store_of new ≡ store_of s ++ (name, table_in one) ∷ [])) c.self.view_is (store_or_added old new name one c.add.result added refl)

pub returns-clause-kept : goal.returns-clause-kept
returns-clause-kept c =
    let old = tables_in c.self.inside.tables.entries in
    let new = tables_in c.add.new.tables.entries in
    let one = opened c.args.schema c.args.pages.pages c.args.pages.rows.listed.value in
    subst (λ (s : Tables). OnErr c.add.result (store_of new ≡ store_of s)) c.self.view_is (store_or_kept old new (string_bytes c.args.name) one c.add.result c.add.ensures.kept)

pub returns-clause-pages : goal.returns-clause-pages
returns-clause-pages c =
    let old = tables_in c.self.inside.tables.entries in
    let new = tables_in c.add.new.tables.entries in
    let name = string_bytes c.args.name in
    let one = opened c.args.schema c.args.pages.pages c.args.pages.rows.listed.value in
    let added = same_added c.add.result new (created_of old) c.into_bytes.result.items name c.in_ok-table.table one (ap (λ v. v.items) c.into_bytes.ensures.value) c.in_ok-table.ensures.table c.add.ensures.added in
    subst (λ (s : Tables). AddsPages s one new) c.self.view_is (added_or_kept old new name one c.add.result added c.add.ensures.kept)
