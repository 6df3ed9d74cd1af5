-- A table that is being written.
use Rattle.std.specs.Prelude.{◌≡◌, ℕ, Bool, List, length, map}
use Rattle.row_pages.specs.Laying.{laid}
use Rattle.row_pages.specs.declared.page.PageKind.TheVariants as kind
use Rattle.key_map.specs.Merging.{Rows}
use Rattle.table_map.specs.Keyed.{first_keys}
use Rattle.table_map.specs.Table.{without_keys}
use Rattle.half_store.specs.declared.image.ImageWriter.{ImageWriter}
use Rattle.checkpoint_writer.specs.Laying.{IsLaying}
use Rattle.checkpoint_writer.specs.Stored.{HaveKeys}
use Rattle.checkpoint_writer.specs.declared.merging.TableWriter.{TableWriter}

-- these rows were laid into pages from an offset on, and the key of each page's first row is kept
pub record HasLaid (modelled : Bool) (key_of : List ℕ → List ℕ) (file : List ℕ) (start : ℕ) (image : ImageWriter) (writer : TableWriter) (rows : List (List ℕ)) : Type 0 where
  pub laying : IsLaying modelled file start image writer.rows rows
  pub kind : writer.rows.page.kind ≡ kind.Rows
  pub keys : map (λ key. key.items) writer.first_keys.items ≡ first_keys key_of (laid rows)

-- these rows were laid, each with the key under which it was given
pub record HasLaidAt (modelled : Bool) (file : List ℕ) (start : ℕ) (image : ImageWriter) (writer : TableWriter) (rows : Rows) : Type 0 where
  pub laying : IsLaying modelled file start image writer.rows (without_keys rows)
  pub kind : writer.rows.page.kind ≡ kind.Rows
  pub many : length writer.first_keys.items ≡ length (laid (without_keys rows))
  pub keys : (key_of : List ℕ → List ℕ) → HaveKeys key_of rows → map (λ key. key.items) writer.first_keys.items ≡ first_keys key_of (laid (without_keys rows))
