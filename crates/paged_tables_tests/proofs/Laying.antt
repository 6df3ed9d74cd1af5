-- Tables that are laid one after another, and the disk that stays as long as it was.
use Rattle.std.proofs.Common.{◌≡◌, ◌≤◌, ◌+◌, ◌*◌, ◌++◌, ℕ, List, [], ◌∷◌, sym, ap, subst, ◌∙◌, length, append_assoc, append-nil, arith}
use Rattle.std.specs.List.Sorted.{IsStrictlySortedBy}
use Rattle.row_values.specs.Schema.{Schema}
use Rattle.table_map.specs.Table.{Table}
use Rattle.paged_tables.specs.Lending.{IsLent}
use Rattle.paged_tables.specs.declared.lending.TableRef.{TableRef}
use Rattle.table_map.specs.Stored.{Places}
use Rattle.paged_tables.specs.Stored.{AreRowsOf, Stored, laid_anew}
use Rattle.paged_tables.specs.TablesByName.{AreLaid, LieInside, Tables}

-- a table that is lent lies inside, and so do those that are left
pub lent_inside : (size : ℕ) (old new : Tables) (e : List ℕ × Stored) (lent : TableRef) → IsLent e lent → old ≡ e ∷ new → LieInside size old → lent.rows.now.places.at + 8192 * length lent.rows.now.places.keys ≤ size
lent_inside size old new e lent is first inside =
    let here : LieInside size (e ∷ new) = subst (λ (s : Tables). LieInside size s) first inside in
    subst (λ (t : Table). t.places.at + 8192 * length t.places.keys ≤ size) (sym is.rows) here.0

pub left_inside : (size : ℕ) (old new : Tables) (e : List ℕ × Stored) → old ≡ e ∷ new → LieInside size old → LieInside size new
left_inside size old new e first inside = let here : LieInside size (e ∷ new) = subst (λ (s : Tables). LieInside size s) first inside in here.1

-- ---- a table without pages and rows

pub no_rows : (schema : Schema) (rows : List (List ℕ)) → rows ≡ [] → AreRowsOf schema rows
unfolding IsStrictlySortedBy
no_rows schema rows none = subst (λ (l : List (List ℕ)). AreRowsOf schema l) (sym none) (record { forms = tt; order = tt })

pub no_pages : (size : ℕ) (p : Places) → p.at ≡ 0 → p.keys ≡ [] → p.at + 8192 * length p.keys ≤ size
no_pages size p at keys =
    let none : 0 + 8192 * 0 ≤ size = omega arith in
    subst (λ (n : ℕ). n + 8192 * length p.keys ≤ size) (sym at) (subst (λ (l : List (List ℕ)). 0 + 8192 * length l ≤ size) (sym keys) none)

-- ---- tables that are laid

module _ (P : Stored → Type 0) (all : Tables) where
  -- what is laid of the tables that are left, behind these, is laid of all
  abbrev pub LaidSoFar : List Places → Tables → Type 0
  LaidSoFar done left = (rest : List Places) → AreLaid P rest left → AreLaid P (done ++ rest) all

  pub laid_none : (done : List Places) (left : Tables) → done ≡ [] → left ≡ all → LaidSoFar done left
  laid_none done left none same rest laid = subst (λ (l : List Places). AreLaid P (l ++ rest) all) (sym none) (subst (λ (s : Tables). AreLaid P rest s) same laid)

  pub laid_more : (done next : List Places) (p : Places) (e : List ℕ × Stored) (left new : Tables) → left ≡ e ∷ new → next ≡ done ++ p ∷ [] → P (laid_anew p e.1) → LaidSoFar done left → LaidSoFar next new
  laid_more done next p e left new is more one so_far rest laid =
      subst (λ (l : List Places). AreLaid P l all) (sym (append_assoc done (p ∷ []) rest) ∙ ap (λ (l : List Places). l ++ rest) (sym more))
      (so_far (p ∷ rest) (subst (λ (l : Tables). AreLaid P (p ∷ rest) l) (sym is) (one, laid)))

  pub laid_whole : (done : List Places) (left : Tables) → left ≡ [] → LaidSoFar done left → AreLaid P done all
  laid_whole done left none so_far = subst (λ (l : List Places). AreLaid P l all) (append-nil done) (so_far [] (subst (λ (l : Tables). AreLaid P [] l) (sym none) tt))
