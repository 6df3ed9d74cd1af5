-- A table that is being written.
use Rattle.std.proofs.Common.{◌≡◌, ℕ, List, [], ◌∷◌, ◌++◌, map, Bool, true, false, sym, ap, ◌∙◌, append-nil}
use Rattle.std.specs.Global.{Vec}
use Rattle.std.proofs.lemmas.List.{map-append}
use Rattle.row_pages.specs.Laying.{laid}
use Rattle.table_map.specs.Keyed.{first_key, first_keys}
use Rattle.half_store.specs.declared.image.ImageWriter.{ImageWriter}
use Rattle.checkpoint_writer.specs.Laying.{IsLaying, key_if}
use Rattle.checkpoint_writer.specs.Writing.{HasLaid}
use Rattle.checkpoint_writer.specs.declared.merging.TableWriter.{TableWriter}
use Rattle.checkpoint_writer.specs.declared.rows.RowWriter.{RowWriter}

module _ (modelled : Bool) (key_of : List ℕ → List ℕ) (old new : List ℕ) (start : ℕ) (before after : ImageWriter) (writer : TableWriter) (rows : List (List ℕ)) (row : List ℕ) (first : Bool) (rest : RowWriter)
    (held : HasLaid modelled key_of old start before writer rows) (laying : IsLaying modelled new start after rest (rows ++ row ∷ []))
    (same_kind : rest.page.kind ≡ writer.rows.page.kind) (more : first_keys key_of (laid (rows ++ row ∷ [])) ≡ first_keys key_of (laid rows) ++ key_if first (key_of row)) where
  -- it is the first of its page
  pub with_key : (keys : Vec (Vec ℕ)) (key : Vec ℕ) → first ≡ true → keys.items ≡ writer.first_keys.items ++ key ∷ [] → key.items ≡ key_of row → HasLaid modelled key_of new start after (record { rows = rest; first_keys = keys }) (rows ++ row ∷ [])
  with_key keys key is pushed same = record {
    laying = laying;
    kind = same_kind ∙ held.kind;
    keys =
        ap (λ (l : List (Vec ℕ)). map (λ k. k.items) l) pushed
        ∙ map-append (λ (k : Vec ℕ). k.items) writer.first_keys.items (key ∷ [])
        ∙ ap (λ (k : List ℕ). map (λ (k : Vec ℕ). k.items) writer.first_keys.items ++ k ∷ []) same
        ∙ ap (λ (l : List (List ℕ)). l ++ key_of row ∷ []) held.keys
        ∙ ap (λ b. first_keys key_of (laid rows) ++ key_if b (key_of row)) (sym is)
        ∙ sym more;
  }

  -- it is not
  pub without_key : first ≡ false → HasLaid modelled key_of new start after (record { rows = rest; first_keys = writer.first_keys }) (rows ++ row ∷ [])
  without_key is = record {
    laying = laying;
    kind = same_kind ∙ held.kind;
    keys = held.keys ∙ sym (append-nil (first_keys key_of (laid rows))) ∙ ap (λ b. first_keys key_of (laid rows) ++ key_if b (key_of row)) (sym is) ∙ sym more;
  }

-- a page goes on to be filled
pub with_page : (modelled : Bool) (key_of : List ℕ → List ℕ) (old new : List ℕ) (start : ℕ) (before after : ImageWriter) (writer : TableWriter) (rows more : List (List ℕ)) (rest : RowWriter) (keys : Vec (Vec ℕ)) (key : Vec ℕ)
    → HasLaid modelled key_of old start before writer rows → IsLaying modelled new start after rest (rows ++ more) → rest.page.kind ≡ writer.rows.page.kind
    → first_keys key_of (laid (rows ++ more)) ≡ first_keys key_of (laid rows) ++ first_key key_of more ∷ [] → keys.items ≡ writer.first_keys.items ++ key ∷ [] → key.items ≡ first_key key_of more
    → HasLaid modelled key_of new start after (record { rows = rest; first_keys = keys }) (rows ++ more)
with_page modelled key_of old new start before after writer rows more rest keys key held laying same_kind are pushed same = record {
  laying = laying;
  kind = same_kind ∙ held.kind;
  keys =
      ap (λ (l : List (Vec ℕ)). map (λ k. k.items) l) pushed
      ∙ map-append (λ (k : Vec ℕ). k.items) writer.first_keys.items (key ∷ [])
      ∙ ap (λ (k : List ℕ). map (λ (k : Vec ℕ). k.items) writer.first_keys.items ++ k ∷ []) same
      ∙ ap (λ (l : List (List ℕ)). l ++ first_key key_of more ∷ []) held.keys
      ∙ sym are;
}
