-- What changes leave of what is claimed.
use Rattle.std.proofs.Common.{◌≡◌, ◌⊎◌, inl, inr, ⊎_elim, ℕ, List, [], ◌∷◌, Bool, true, false, ◌&&◌, if◌then◌else◌, refl, sym, ap, subst, ◌∙◌, Option, Some, None, option_map}
use Rattle.std.specs.Prelude.{bytes_eq, is_some, unwrap_or}
use Rattle.std.specs.Map.{keys_of}
use Rattle.std.proofs.lemmas.Slice.Eq.{bytes_eq-Decides}
use Rattle.row_values.specs.Schema.{Schema}
use Rattle.row_values.specs.Row.{is_row}
use Rattle.row_values.specs.Key.{row_key}
use Rattle.tables.specs.Change.{Change, create, put, remove}
use Rattle.tables.specs.Tables.{Store, Table, apply, is_row_at, put_row, remove_row, row_of, schema_of, table_of}
use Rattle.tables.specs.Laws.{Created, NamesChange, Put, Removed, TableCreated, TablePut, TableRemoved, with_name}
use Rattle.unit_locks.specs.Claim.{Claim}
use Rattle.unit_locks.specs.Clash.{overlap}
use Rattle.unit_locks.specs.declared.access.Access.TheVariants.{Write}
use Rattle.sql_semantics.specs.Scope.{claim, star}
use Rattle.sql_semantics.specs.Frame.{Covered, HasKey, In as InFrame, InWrite, Same, Within as LiesIn}
use Rattle.serializability.specs.Words.{Apart, In}
use Rattle.serializability.specs.SqlWords.{sql_words}

pub itself : (a : List ℕ) → bytes_eq a a ≡ true
itself a = (bytes_eq-Decides a a).1 refl

pub same_bytes : (a b : List ℕ) → bytes_eq a b ≡ true → a ≡ b
same_bytes a b h = (bytes_eq-Decides a b).0 h

pub which : (b : Bool) → (b ≡ true) ⊎ (b ≡ false)
which true = inl refl
which false = inr refl

eq_flip : (a b : List ℕ) → bytes_eq a b ≡ true → bytes_eq b a ≡ true
eq_flip a b h = subst (λ (l : List ℕ). bytes_eq l a ≡ true) (same_bytes a b h) (itself a)

pub to_frame : {X : Type 0} (x : X) (xs : List X) → In x xs → InFrame x xs
to_frame x [] i = i
to_frame x (y ∷ ys) (inl same) = inl same
to_frame x (y ∷ ys) (inr i) = inr (to_frame x ys i)

pub of_frame : {X : Type 0} (x : X) (xs : List X) → InFrame x xs → In x xs
of_frame x [] i = i
of_frame x (y ∷ ys) (inl same) = inl same
of_frame x (y ∷ ys) (inr i) = inr (of_frame x ys i)

-- what a store has for good: its schemas
abbrev pub Grows : Store → Store → Type 0
Grows s t = (q : List ℕ) (schema : Schema) → schema_of s q ≡ Some schema → schema_of t q ≡ Some schema

-- the second store shows what the first one shows under the claims
pub record Shows (cs : List Claim) (s t : Store) : Type 0 where
  pub grows : Grows s t
  pub covered : (c : Claim) → In c cs → Covered c s t

-- a write claim that clashes with no claim of its table
meets : (n : List ℕ) (K : Option (List ℕ)) (c : Claim) (ds cs : List Claim) → InWrite n K ds → Apart sql_words ds cs → In c cs → bytes_eq c.table n ≡ true → overlap K c.key ≡ true → ⊥
meets n K c ds cs w apart i eq over = both (bytes_eq n c.table) (overlap K c.key) (eq_flip c.table n eq) over (apart (claim Write n K) c (of_frame (claim Write n K) ds w) i)
  where
    both : (a b : Bool) → a ≡ true → b ≡ true → (a && b) ≡ false → ⊥
    both true true p q e = cc
    both true false p q e = cc
    both false b p q e = cc

over_all : (K : Option (List ℕ)) → overlap K None ≡ true
over_all None = refl
over_all (Some k) = refl

not_then : (b : Bool) → (b ≡ true → ⊥) → b ≡ false
not_then true never = absurd (never refl)
not_then false never = refl

both_of : (a b : Bool) → (a && b) ≡ true → (a ≡ true) × (b ≡ true)
both_of true b h = (refl, h)
both_of false b h = absurd cc

-- ---- a change of the rows of one table

module _ (n : List ℕ) (s t : Store) (test : List ℕ → Bool) (new : Option (List ℕ))
    (tables : (q : List ℕ) → bytes_eq q n ≡ false → table_of t q ≡ table_of s q)
    (schemas : (q : List ℕ) → schema_of t q ≡ schema_of s q)
    (found : (q k : List ℕ) → row_of t q k ≡ (if bytes_eq q n && test k then new else row_of s q k))
    (names : keys_of t ≡ keys_of s) where
  row_stays : (q k : List ℕ) → (bytes_eq q n && test k) ≡ false → row_of s q k ≡ row_of t q k
  row_stays q k off = sym (found q k ∙ ap (λ b. if b then new else row_of s q k) off)

  same_by : (K o : Option (List ℕ)) (q : List ℕ) → (bytes_eq q n ≡ true → overlap K o ≡ true → ⊥) → ((k : List ℕ) → test k ≡ true → overlap K (Some k) ≡ true) → Same o q s t
  same_by K None q apart hits = sym (tables q (not_then (bytes_eq q n) (λ so. apart so (over_all K))))
  same_by K (Some k) q apart hits =
      (sym (schemas q), row_stays q k (not_then (bytes_eq q n && test k) (λ so. let two = both_of (bytes_eq q n) (test k) so in apart two.0 (hits k two.1))))

  foreign_rows : (K : Option (List ℕ)) (cs ds : List Claim) → InWrite n K ds → ((k : List ℕ) → test k ≡ true → overlap K (Some k) ≡ true) → Apart sql_words ds cs → Shows cs s t
  foreign_rows K cs ds w hits apart = record {
    grows = λ q schema is. schemas q ∙ is;
    covered = λ c i. record { rows = same_by K c.key c.table (λ so over. meets n K c ds cs w apart i so over) hits; names = λ z. sym names };
  }

-- ---- each kind of change

module _ (made : Created) (put_is : Put) (removed : Removed) (table_made : TableCreated) (table_put : TablePut) (table_removed : TableRemoved) (names : NamesChange) where
  abbrev empty : Schema → Table
  empty schema = record { schema = schema; rows = [] }

  grown : (n : List ℕ) (schema : Schema) (s : Store) (q : List ℕ) (sh : Schema) (b : Bool) → bytes_eq q n ≡ b → schema_of s q ≡ Some sh → (if b then Some (unwrap_or (schema_of s n) schema) else schema_of s q) ≡ Some sh
  grown n schema s q sh true eq is = ap (λ (l : List ℕ). Some (unwrap_or (schema_of s l) schema)) (sym (same_bytes q n eq)) ∙ ap (λ (o : Option Schema). Some (unwrap_or o schema)) is
  grown n schema s q sh false eq is = is

  pub grows_apply : (x : Change) (s : Store) → Grows s (apply x s)
  grows_apply (create n schema) s q sh is = (made n schema s).schemas q ∙ grown n schema s q sh (bytes_eq q n) refl is
  grows_apply (put n row) s q sh is = (put_is n row s).schemas q ∙ is
  grows_apply (remove n key) s q sh is = (removed n key s).schemas q ∙ is

  at_key : (o : Option Schema) (key row k : List ℕ) → HasKey o row key → is_row_at o row k ≡ true → bytes_eq key k ≡ true
  at_key None key row k has h = absurd has
  at_key (Some schema) key row k has h = eq_flip k key (subst (λ (l : List ℕ). bytes_eq k l ≡ true) has (both_of (is_row schema row) (bytes_eq k (row_key schema row)) h).1)

  untouched : (n : List ℕ) (schema : Schema) (s : Store) (o : Option (List ℕ)) (q : List ℕ) → bytes_eq q n ≡ false → Same o q s (apply (create n schema) s)
  untouched n schema s None q off = sym (table_made n schema s q ∙ ap (λ b. if b then Some (unwrap_or (table_of s n) (empty schema)) else table_of s q) off)
  untouched n schema s (Some k) q off = (sym ((made n schema s).schemas q ∙ ap (λ b. if b then Some (unwrap_or (schema_of s n) schema) else schema_of s q) off), sym ((made n schema s).found q k))

  -- a change in the claims of another unit
  pub foreign_change : (x : Change) (cs ds : List Claim) (s : Store) → LiesIn s x ds → Apart sql_words ds cs → Shows cs s (apply x s)
  foreign_change (create n schema) cs ds s within apart = record {
    grows = grows_apply (create n schema) s;
    covered = λ c i. record {
      rows = untouched n schema s c.key c.table (not_then (bytes_eq c.table n) (λ so. meets n None c ds cs within.0 apart i so refl));
      names = λ z. absurd (meets star None c ds cs within.1 apart i (subst (λ (l : List ℕ). bytes_eq l star ≡ true) (sym z) (itself star)) refl);
    };
  }
  foreign_change (put n row) cs ds s within apart =
      let p = put_is n row s in
      let go = λ (K : Option (List ℕ)) (w : InWrite n K ds) (hits : (k : List ℕ) → is_row_at (schema_of s n) row k ≡ true → overlap K (Some k) ≡ true).
      foreign_rows n s (apply (put n row) s) (is_row_at (schema_of s n) row) (Some row)
      (λ q off. table_put n row s q ∙ ap (λ b. if b then option_map (put_row row) (table_of s q) else table_of s q) off) p.schemas p.found (names (put n row) s) K cs ds w hits apart in
      ⊎_elim (λ all. go None all (λ k h. refl)) (λ (one : (key : List ℕ) × HasKey (schema_of s n) row key × InWrite n (Some key) ds). go (Some one.0) one.2 (λ k h. at_key (schema_of s n) one.0 row k one.1 h)) within
  foreign_change (remove n key) cs ds s within apart =
      let p = removed n key s in
      let go = λ (K : Option (List ℕ)) (w : InWrite n K ds) (hits : (k : List ℕ) → bytes_eq k key ≡ true → overlap K (Some k) ≡ true).
      foreign_rows n s (apply (remove n key) s) (λ k. bytes_eq k key) None
      (λ q off. table_removed n key s q ∙ ap (λ b. if b then option_map (remove_row key) (table_of s q) else table_of s q) off) p.schemas p.found (names (remove n key) s) K cs ds w hits apart in
      ⊎_elim (λ all. go None all (λ k h. refl)) (λ one. go (Some key) one (λ k h. eq_flip k key h)) within

  -- a table is created on both sides, or stands on both
  created_both : (n : List ℕ) (schema : Schema) (s t : Store) → table_of s n ≡ table_of t n → (o : Option (List ℕ)) (q : List ℕ) → Same o q s t → Same o q (apply (create n schema) s) (apply (create n schema) t)
  created_both n schema s t there None q same = table_made n schema s q ∙ (λ i. if bytes_eq q n then Some (unwrap_or (there i) (empty schema)) else same i) ∙ sym (table_made n schema t q)
  created_both n schema s t there (Some k) q same =
      let schemas : schema_of s n ≡ schema_of t n = ap (option_map (λ (u : Table). u.schema)) there in (
        (made n schema s).schemas q ∙ (λ i. if bytes_eq q n then Some (unwrap_or (schemas i) schema) else same.0 i) ∙ sym ((made n schema t).schemas q),
        (made n schema s).found q k ∙ same.1 ∙ sym ((made n schema t).found q k),
      )

  put_same : (n row : List ℕ) (s t : Store) (q k : List ℕ) (b : Bool) → bytes_eq q n ≡ b → schema_of s q ≡ schema_of t q
      → (if b && is_row_at (schema_of s n) row k then Some row else row_of s q k) ≡ (if b && is_row_at (schema_of t n) row k then Some row else row_of s q k)
  put_same n row s t q k true eq schemas =
      let here : schema_of s n ≡ schema_of t n = subst (λ (l : List ℕ). schema_of s l ≡ schema_of t l) (same_bytes q n eq) schemas in
      ap (λ o. if is_row_at o row k then Some row else row_of s q k) here
  put_same n row s t q k false eq schemas = refl

  put_both : (n row : List ℕ) (s t : Store) (o : Option (List ℕ)) (q : List ℕ) → Same o q s t → Same o q (apply (put n row) s) (apply (put n row) t)
  put_both n row s t None q same = table_put n row s q ∙ ap (λ o. if bytes_eq q n then option_map (put_row row) o else o) same ∙ sym (table_put n row t q)
  put_both n row s t (Some k) q same = (
    (put_is n row s).schemas q ∙ same.0 ∙ sym ((put_is n row t).schemas q),
    (put_is n row s).found q k ∙ put_same n row s t q k (bytes_eq q n) refl same.0 ∙ ap (λ o. if bytes_eq q n && is_row_at (schema_of t n) row k then Some row else o) same.1 ∙ sym ((put_is n row t).found q k),
  )

  removed_both : (n key : List ℕ) (s t : Store) (o : Option (List ℕ)) (q : List ℕ) → Same o q s t → Same o q (apply (remove n key) s) (apply (remove n key) t)
  removed_both n key s t None q same = table_removed n key s q ∙ ap (λ o. if bytes_eq q n then option_map (remove_row key) o else o) same ∙ sym (table_removed n key t q)
  removed_both n key s t (Some k) q same = (
    (removed n key s).schemas q ∙ same.0 ∙ sym ((removed n key t).schemas q),
    (removed n key s).found q k ∙ ap (λ o. if bytes_eq q n && bytes_eq k key then None else o) same.1 ∙ sym ((removed n key t).found q k),
  )

  -- a change of one's own
  pub own_change : (x : Change) (cs : List Claim) (s t : Store) → LiesIn s x cs → Shows cs s t → Shows cs (apply x s) (apply x t)
  own_change (create n schema) cs s t within shows =
      let a = made n schema s in
      let b = made n schema t in
      let there : table_of s n ≡ table_of t n = (shows.covered (claim Write n None) (of_frame (claim Write n None) cs within.0)).rows in record {
        grows = λ q sh is. b.schemas q ∙ more q sh (ap (option_map (λ (u : Table). u.schema)) there) (bytes_eq q n) (sym (a.schemas q) ∙ is);
        covered = λ c i. record {
          rows = created_both n schema s t there c.key c.table ((shows.covered c i).rows);
          names = λ z. let same = (shows.covered c i).names z in names (create n schema) s ∙ (λ i. if is_some (there i) then same i else with_name n (same i)) ∙ sym (names (create n schema) t);
        };
      }
    where
      more : (q : List ℕ) (sh : Schema) → schema_of s n ≡ schema_of t n → (b : Bool) → (if b then Some (unwrap_or (schema_of s n) schema) else schema_of s q) ≡ Some sh → (if b then Some (unwrap_or (schema_of t n) schema) else schema_of t q) ≡ Some sh
      more q sh schemas true is = ap (λ o. Some (unwrap_or o schema)) (sym schemas) ∙ is
      more q sh schemas false is = shows.grows q sh is
  own_change (put n row) cs s t within shows = record {
    grows = λ q sh is. (put_is n row t).schemas q ∙ shows.grows q sh (sym ((put_is n row s).schemas q) ∙ is);
    covered = λ c i. record {
      rows = put_both n row s t c.key c.table ((shows.covered c i).rows);
      names = λ z. names (put n row) s ∙ (shows.covered c i).names z ∙ sym (names (put n row) t);
    };
  }
  own_change (remove n key) cs s t within shows = record {
    grows = λ q sh is. (removed n key t).schemas q ∙ shows.grows q sh (sym ((removed n key s).schemas q) ∙ is);
    covered = λ c i. record {
      rows = removed_both n key s t c.key c.table ((shows.covered c i).rows);
      names = λ z. names (remove n key) s ∙ (shows.covered c i).names z ∙ sym (names (remove n key) t);
    };
  }
