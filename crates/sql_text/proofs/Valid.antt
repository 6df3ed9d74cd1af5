-- A statement that is parsed is what plain words say.
use Rattle.std.proofs.Common.{◌≡◌, ℕ, suc, ◌≤◌, List, [], ◌∷◌, length, map, Option, Some, None, Result, Ok, Err, IfOk, refl, ap, subst, arith}
use Rattle.std.specs.List.{All, Contains}
use Rattle.std.proofs.lemmas.List.Elements.{All-map}
use Rattle.sql_lex.specs.Markers.{markers_in, AreNumbered}
use Rattle.sql_lex.specs.Spelling.{capitals, IsName, AllSpelled, AllReadable}
use Rattle.sql_lex.specs.Tokens.{Lexeme, tokens}
use Rattle.sql_lex.specs.declared.terminal.Terminal.TheVariants as w
use Rattle.sql_text.specs.Checks.{refusal_of}
use Rattle.sql_text.specs.Grammar as g
use Rattle.sql_text.specs.Grammar.{IsValue, IsStatement, IsDefinition, IsKeyColumn, IsAssignment, AreListed, AreSelected, The}
use Rattle.sql_text.specs.Plain as plain
use Rattle.sql_text.specs.Text.{statement, answer_by, answer}
use Rattle.sql_text.specs.Valid as v
use Rattle.sql_text.specs.Valid.{IsValidType, IsValidColumn, IsValidLiteral, IsValidAssignment, IsValidTable, IsValidCommand, IsValidStatement, column_names, key_names}
use Rattle.sql_text.specs.declared.check.Refusal.{Refusal}
use Rattle.sql_text.specs.declared.draft.DraftColumn.{DraftColumn}
use Rattle.sql_text.specs.declared.draft.DraftKey.{DraftKey}
use Rattle.sql_text.specs.declared.draft.Draft.{Draft}
use Rattle.sql_text.specs.declared.draft.Draft.TheVariants as draft
use Rattle.sql_text.specs.declared.error.SqlError.{SqlError}
use Rattle.sql_text.specs.declared.tree.Columns.{Columns}
use Rattle.sql_text.specs.declared.tree.Columns.TheVariants as columns
use Rattle.sql_text.specs.declared.tree.Statement.{Statement}
use Rattle.sql_text.proofs.Carried.{AreGood, good_tokens, list_carry, the_carry, value_carry, filter_carry, definition_carry, key_carry, name_carry, assignment_carry}
use Rattle.sql_text.proofs.Checked.{Passed, IsPassed, all_passed}

-- ---- a list without the places

length_map : {A B : Type 0} (f : A → B) (xs : List A) → length (map f xs) ≡ length xs
length_map f [] = refl
length_map f (x ∷ xs) = ap (λ n. suc n) (length_map f xs)

names_kept : (ds : List DraftColumn) → column_names (map plain.definition ds) ≡ map (λ d. capitals d.name) ds
names_kept [] = refl
names_kept (d ∷ ds) = ap (λ u. capitals d.name ∷ u) (names_kept ds)

key_kept : (ks : List DraftKey) → key_names (map plain.key_column ks) ≡ map (λ k. capitals k.name) ks
key_kept [] = refl
key_kept (k ∷ ks) = ap (λ u. capitals k.name ∷ u) (key_kept ks)

columns_valid : (ds : List DraftColumn) → All (λ d. IsName d.name) ds → All (λ d. IsValidType (plain.column_type d.column_type)) ds → All IsValidColumn (map plain.definition ds)
columns_valid ds n f = All-map IsValidColumn plain.definition ds (λ k d below. (n k d below, f k d below))

table_valid : (table : List ℕ) (ds : List DraftColumn) (ks : List DraftKey) → IsName table → 1 ≤ length ds → All (λ d. IsName d.name) ds → 1 ≤ length ks → All (λ k. IsName k.name) ks → Passed ds ks
    → IsValidTable table (map plain.definition ds) (map plain.key_column ks)
table_valid table ds ks name some named some_key key_named p =
    let columns = length_map plain.definition ds in
    let key = length_map plain.key_column ks in
    record {
      name = name;
      some_columns = omega arith;
      at_most_64_columns = omega (arith, p.columns);
      columns = columns_valid ds named p.types;
      columns_differ = rw (names_kept ds) p.differ;
      some_key = omega arith;
      key_of_at_most_4 = omega (arith, p.key);
      key_is_named = All-map (λ k. IsName k.name) plain.key_column ks key_named;
      key_is_known = All-map (λ k. Contains (column_names (map plain.definition ds)) (capitals k.name)) plain.key_column ks (rw (names_kept ds) p.known);
      key_differs = rw (key_kept ks) p.key_differs;
    }

-- ---- statements

module _ (m : ℕ) where
  names_valid : (names : List (List ℕ)) (ts rest : List Lexeme) → g.AreNames names ts rest → AreGood m ts → v.AreNames names × AreGood m rest
  names_valid names ts rest l all = let h = list_carry m g.IsName (The w.Comma) IsName (name_carry m) (the_carry m w.Comma) names ts rest l all in ((h.0, h.1), h.2)

  listed_valid : (l : Columns) (ts rest : List Lexeme) → AreListed l ts rest → AreGood m ts → v.AreListed l × AreGood m rest
  listed_valid columns.All ts rest same all = let P : List Lexeme → Type 0 = λ u. AreGood m u in (tt, subst P same all)
  listed_valid (columns.Named names) ts rest (mid, o, (after, l, c)) all =
      let h = names_valid names mid after l (the_carry m w.Open ts mid o all) in (h.0, the_carry m w.Close after rest c h.1)

  valid : (d : Draft) (ts : List Lexeme) → IsStatement d ts → AreGood m ts → IsPassed d → IsValidCommand m (plain.command d)
  valid (draft.Create table ds ks) ts (m1, create, (m2, tab, (m3, name, (m4, opens, (m5, defs, (m6, comma, (m7, primary, (m8, word, (m9, opens', (m10, keys, closes)))))))))) all passed =
      let n = name_carry m table m2 m3 name (the_carry m w.Table m1 m2 tab (the_carry m w.Create ts m1 create all)) in
      let d = list_carry m IsDefinition (The w.Comma) (λ x. IsName x.name) (definition_carry m) (the_carry m w.Comma) ds m4 m5 defs (the_carry m w.Open m3 m4 opens n.1) in
      let behind = the_carry m w.Open m8 m9 opens' (the_carry m w.Key m7 m8 word (the_carry m w.Primary m6 m7 primary (the_carry m w.Comma m5 m6 comma d.2))) in
      let k = list_carry m IsKeyColumn (The w.Comma) (λ x. IsName x.name) (key_carry m) (the_carry m w.Comma) ks m9 m10 keys behind in
      table_valid table ds ks n.0 d.0 d.1 k.0 k.1 passed
  valid (draft.Insert table listed values) ts (m1, insert, (m2, into, (m3, name, (m4, l, (m5, word, (m6, opens, (m7, vs, closes))))))) all passed =
      let n = name_carry m table m2 m3 name (the_carry m w.Into m1 m2 into (the_carry m w.Insert ts m1 insert all)) in
      let c = listed_valid listed m3 m4 l n.1 in
      let x = list_carry m IsValue (The w.Comma) (IsValidLiteral m) (value_carry m) (the_carry m w.Comma) values m6 m7 vs (the_carry m w.Open m5 m6 opens (the_carry m w.Values m4 m5 word c.1)) in
      (n.0, c.0, x.0, x.1)
  valid (draft.Update table assignments filter) ts (m1, update, (m2, name, (m3, word, (m4, list, f)))) all passed =
      let n = name_carry m table m1 m2 name (the_carry m w.Update ts m1 update all) in
      let x = list_carry m IsAssignment (The w.Comma) (IsValidAssignment m) (assignment_carry m) (the_carry m w.Comma) assignments m3 m4 list (the_carry m w.Set m2 m3 word n.1) in
      (n.0, x.0, x.1, filter_carry m filter m4 f x.2)
  valid (draft.Delete table filter) ts (m1, delete, (m2, from, (m3, name, f))) all passed =
      let n = name_carry m table m2 m3 name (the_carry m w.From m1 m2 from (the_carry m w.Delete ts m1 delete all)) in
      (n.0, filter_carry m filter m3 f n.1)
  valid (draft.Select columns.All table filter) ts (m1, select, (m2, star, (m3, from, (m4, name, f)))) all passed =
      let n = name_carry m table m3 m4 name (the_carry m w.From m2 m3 from (the_carry m w.Star m1 m2 star (the_carry m w.Select ts m1 select all))) in
      (n.0, tt, filter_carry m filter m4 f n.1)
  valid (draft.Select (columns.Named names) table filter) ts (m1, select, (m2, l, (m3, from, (m4, name, f)))) all passed =
      let c = names_valid names m1 m2 l (the_carry m w.Select ts m1 select all) in
      let n = name_carry m table m3 m4 name (the_carry m w.From m2 m3 from c.1) in
      (n.0, (c.0, passed), filter_carry m filter m4 f n.1)

-- ---- what is answered

pub answered : (len m : ℕ) (d : Draft) (r : Option Refusal) (s : Statement) → answer_by len m d r ≡ Ok s → (r ≡ None) × (statement m d ≡ s)
answered len m d None s e = let same : statement m d ≡ s = cc in (refl, same)
answered len m d (Some r) s e = absurd (cc)

pub answer_valid : (text : List ℕ) (d : Draft) (s : Statement) → AllSpelled text (tokens text) → AllReadable (tokens text) → AreNumbered 0 (tokens text) → IsStatement d (tokens text) → answer text d ≡ Ok s → IsValidStatement s
unfolding answer
answer_valid text d s spelled readable numbered is e =
    let m = markers_in (tokens text) in
    let a = answered (length text) m d (refusal_of m d) s e in
    let p = all_passed m d a.0 in
    let P : Statement → Type 0 = λ u. IsValidStatement u in
    subst P a.1 (p.0, valid m d (tokens text) is (good_tokens text spelled readable numbered) p.1)

pub found_valid : (text : List ℕ) (r : Result Statement SqlError) → AllSpelled text (tokens text) → AllReadable (tokens text) → AreNumbered 0 (tokens text)
    → IfOk r (λ s. (d : Draft) × IsStatement d (tokens text) × (answer text d ≡ Ok s)) → IfOk r (λ s. IsValidStatement s)
found_valid text (Ok s) spelled readable numbered (d, is, e) = answer_valid text d s spelled readable numbered is e
found_valid text (Err f) spelled readable numbered h = tt
