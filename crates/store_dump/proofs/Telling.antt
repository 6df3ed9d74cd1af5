-- How many of a store's tables are told.
use Rattle.std.proofs.Common.{◌≡◌, ℕ, Bool, true, false, List, [], ◌∷◌, ◌++◌, Option, refl, sym, ap, ◌∙◌, subst, append_assoc}
use Rattle.std.specs.Io.KnownBytes.{Appends}
use Rattle.std.specs.List.{flat_map}
use Rattle.std.specs.Map.{values_of}
use Rattle.std.proofs.lemmas.List.{append-nil}
use Rattle.row_values.specs.Schema.{Schema}
use Rattle.tables.specs.Tables.{Store, Table}
use Rattle.paged_tables.specs.Stored.{Stored, rows_in, at_keys}
use Rattle.paged_tables.specs.TablesByName.{Tables, created_of, store_of}
use Rattle.paged_tables.proofs.FormLaws.{values_at_keys}
use Rattle.table_map.specs.Table.{without_keys}
use Rattle.store_dump.specs.Dump.{HasFront}
use Rattle.store_dump.proofs.Going.{appended, front_behind, front_of_front}

-- what a text of a table is
abbrev pub TableText : Type 0
TableText = List ℕ → Schema → List (List ℕ) → List ℕ

module _ (text : TableText) where
  -- the text of a store
  abbrev pub told_text : Store → List ℕ
  told_text store = flat_map (λ (e : List ℕ × Table). text e.0 e.1.schema (values_of e.1.rows)) store

  abbrev pub entry_text : List ℕ × Stored → List ℕ
  entry_text e = text e.0 e.1.schema (without_keys (rows_in e.1))

  -- the text of stored tables
  abbrev pub stored_text : Tables → List ℕ
  stored_text ts = flat_map (λ (e : List ℕ × Stored). text e.0 e.1.schema (without_keys (rows_in e.1))) ts

  by_shown : (e : List ℕ × Stored) (es : Tables) (b : Bool) → e.1.is_created ≡ b → stored_text (created_of es) ≡ told_text (store_of es) → stored_text (created_of (e ∷ es)) ≡ told_text (store_of (e ∷ es))
  by_shown e es true is ih =
      let values = values_at_keys e.1.schema (rows_in e.1) in
      rw is (ap (λ vs. text e.0 e.1.schema vs ++ stored_text (created_of es)) values ∙ ap (λ z. text e.0 e.1.schema (values_of (at_keys e.1.schema (rows_in e.1))) ++ z) ih)
  by_shown e es false is ih = rw is ih

  pub stored_is_shown : (es : Tables) → stored_text (created_of es) ≡ told_text (store_of es)
  stored_is_shown [] = refl
  stored_is_shown (e ∷ es) = by_shown e es e.1.is_created refl (stored_is_shown es)

  -- with the text of those that are left, what is written is all
  pub record IsTelling (all left : Tables) (before now : Option (List ℕ)) : Type 0 where
    pub written : List ℕ
    pub so_far : Appends before now written
    pub same : written ++ stored_text left ≡ stored_text all

  pub one_told : (all left : Tables) (e : List ℕ × Stored) (before now more : Option (List ℕ)) → IsTelling all (e ∷ left) before now → Appends now more (entry_text e) → IsTelling all left before more
  one_told all left e before now more held wrote = record {
    written = held.written ++ entry_text e;
    so_far = appended before now more held.written (entry_text e) held.so_far wrote;
    same = append_assoc held.written (entry_text e) (stored_text left) ∙ held.same;
  }

  pub all_told : (es left : Tables) (before now : Option (List ℕ)) (held : IsTelling (created_of es) left before now) → left ≡ [] → Appends before now (told_text (store_of es))
  all_told es left before now held none =
      subst (λ (z : List ℕ). Appends before now z) (sym (append-nil held.written) ∙ ap (λ (l : Tables). held.written ++ stored_text l) (sym none) ∙ held.same ∙ stored_is_shown es) held.so_far

  -- a table broke off
  pub broke_off : (es left : Tables) (e : List ℕ × Stored) (before now more : Option (List ℕ)) (held : IsTelling (created_of es) (e ∷ left) before now) → HasFront (entry_text e) now more → HasFront (told_text (store_of es)) before more
  broke_off es left e before now more held front =
      front_behind (told_text (store_of es)) held.written (entry_text e ++ stored_text left) before now more (held.same ∙ stored_is_shown es) held.so_far
      (front_of_front (entry_text e ++ stored_text left) (entry_text e) (stored_text left) now more refl front)
