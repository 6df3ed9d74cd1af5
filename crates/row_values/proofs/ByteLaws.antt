-- The bytes of schemas are read back, and what is read was written so.
use Rattle.std.proofs.Common.{◌==◌, ◌≡◌, ℕ, ◌<◌, zero, suc, List, [], ◌∷◌, ◌++◌, Bool, true, false, if◌then◌else◌, refl, sym, ap, subst, ◌∙◌, length, Some, None, option_map, arith, append_assoc, eqb-true, ltb-true}
use Rattle.std.specs.Option.{option_and_then}
use Rattle.std.specs.List.{flat_map, list_all}
use Rattle.drda_words.specs.Bytes.{AreBytes}
use Rattle.byteorder.specs.Endian.{big_bytes, big_number}
use Rattle.row_values.specs.declared.column.Kind.{Kind}
use Rattle.row_values.specs.declared.column.Kind.TheVariants.{SmallInt, Integer, BigInt, VarChar, VarBinary}
use Rattle.row_values.specs.Column.{Column}
use Rattle.row_values.specs.Schema.{Schema, is_column, is_limit, is_name, is_schema}
use Rattle.row_values.specs.Row.{front_of}
use Rattle.row_values.specs.Bytes.{code_of, column_after, column_at, column_bytes, columns_at, flag_at, flag_of, kind_at, name_at, name_in, named, named_at, parts_after, parts_at, schema_at, schema_bytes}
use Rattle.row_values.proofs.RowLaws.{bytes_back, front_back}
use Rattle.row_values.proofs.ValueLaws.{chained, first_true, front_is, mapped, second_true, two_written}
use Rattle.row_values.proofs.Keys.{limit_counted, schema_columns}
use Rattle.row_values.proofs.ByteSteps.{schema_found, schema_good}

-- ---- what is written is read back

named_found : (name : List ℕ) → is_name name ≡ true → name_in name ≡ Some name
unfolding name_in
named_found name h = rw h refl

pub name_back : (name rest : List ℕ) → is_name name ≡ true → name_at (named name ++ rest) ≡ Some (name, rest)
name_back name rest h =
    ap (option_and_then (λ (x : List ℕ × List ℕ). option_map (λ (n : List ℕ). (n, x.1)) (name_in x.0))) (front_back (length name) name rest refl) ∙ ap (option_map (λ (n : List ℕ). (n, rest))) (named_found name h)

kind_back : (kind : Kind) → kind_at (code_of kind) ≡ Some kind
kind_back SmallInt = refl
kind_back Integer = refl
kind_back BigInt = refl
kind_back VarChar = refl
kind_back VarBinary = refl

flag_back : (b : Bool) → flag_at (flag_of b) ≡ Some b
flag_back true = refl
flag_back false = refl

after_back : (c : Column) (rest : List ℕ) → c.limit < 65536 → column_after c.name (code_of c.kind ∷ flag_of c.is_nullable ∷ (big_bytes 2 c.limit ++ rest)) ≡ Some (c, rest)
after_back c rest small =
    ap (option_and_then (λ (kind : Kind). option_map (λ (nullable : Bool). (let s : Column = record { name = c.name; kind = kind; is_nullable = nullable; limit = big_number 2 (big_bytes 2 c.limit) } in s, rest)) (flag_at (flag_of c.is_nullable)))) (kind_back c.kind)
    ∙ ap (option_map (λ (nullable : Bool). (let s : Column = record { name = c.name; kind = c.kind; is_nullable = nullable; limit = big_number 2 (big_bytes 2 c.limit) } in s, rest))) (flag_back c.is_nullable)
    ∙ ap (λ (n : ℕ). Some (let s : Column = record { name = c.name; kind = c.kind; is_nullable = c.is_nullable; limit = n } in s, rest)) (bytes_back 2 c.limit small)

column_back : (c : Column) (rest : List ℕ) → is_column c ≡ true → column_at (column_bytes c ++ rest) ≡ Some (c, rest)
unfolding column_at
column_back c rest good =
    let small : c.limit < 65536 = ltb-true c.limit 65536 (limit_counted c.kind c.limit (second_true (is_name c.name) (is_limit c.kind c.limit) good)) in
    ap (λ (l : List ℕ). option_and_then (λ (x : List ℕ × List ℕ). column_after x.0 x.1) (name_at l)) (append_assoc (named c.name) (code_of c.kind ∷ flag_of c.is_nullable ∷ big_bytes 2 c.limit) rest)
    ∙ ap (option_and_then (λ (x : List ℕ × List ℕ). column_after x.0 x.1)) (name_back c.name (code_of c.kind ∷ flag_of c.is_nullable ∷ (big_bytes 2 c.limit ++ rest)) (first_true (is_name c.name) (is_limit c.kind c.limit) good))
    ∙ after_back c rest small

columns_back : (cs : List Column) (rest : List ℕ) → list_all is_column cs ≡ true → columns_at (length cs) (flat_map column_bytes cs ++ rest) ≡ Some (cs, rest)
columns_back [] rest good = refl
columns_back (c ∷ cs) rest good =
    ap (λ (l : List ℕ). columns_at (suc (length cs)) l) (append_assoc (column_bytes c) (flat_map column_bytes cs) rest)
    ∙ ap (option_and_then (λ (x : Column × List ℕ). option_map (λ (y : List Column × List ℕ). (x.0 ∷ y.0, y.1)) (columns_at (length cs) x.1))) (column_back c (flat_map column_bytes cs ++ rest) (first_true (is_column c) (list_all is_column cs) good))
    ∙ ap (option_map (λ (y : List Column × List ℕ). (c ∷ y.0, y.1))) (columns_back cs rest (second_true (is_column c) (list_all is_column cs) good))

pub schema_back : (s : Schema) (rest : List ℕ) → is_schema s ≡ true → schema_at (schema_bytes s ++ rest) ≡ Some (s, rest)
schema_back s rest good =
    schema_found (schema_bytes s ++ rest) (s, rest)
    (ap (λ (l : List ℕ). parts_after (length s.columns) l) (append_assoc (flat_map column_bytes s.columns) (length s.key ∷ s.key) rest)
    ∙ ap (option_and_then (λ (x : List Column × List ℕ). option_map (λ (y : List ℕ × List ℕ). (let t : Schema = record { columns = x.0; key = y.0 } in t, y.1)) (named_at x.1))) (columns_back s.columns ((length s.key ∷ s.key) ++ rest) (schema_columns s good))
    ∙ ap (option_map (λ (y : List ℕ × List ℕ). (let t : Schema = record { columns = s.columns; key = y.0 } in t, y.1))) (front_back (length s.key) s.key rest refl))
    good

-- ---- what is read was written so

pub name_is : (bytes : List ℕ) (x : List ℕ × List ℕ) → AreBytes bytes → name_at bytes ≡ Some x → (bytes ≡ named x.0 ++ x.1) × AreBytes x.1
unfolding name_in
name_is [] x all h = absurd cc
name_is (count ∷ bytes) x all h =
    let m = chained (λ (y : List ℕ × List ℕ). option_map (λ (name : List ℕ). (name, y.1)) (name_in y.0)) (front_of count bytes) x h in
    let t = mapped (λ (name : List ℕ). (name, m.0.1)) (name_in m.0.0) x m.2 in
    let name : m.0.0 ≡ x.0 = same_if (is_name m.0.0) m.0.0 t.0 t.1 ∙ ap (λ (y : List ℕ × List ℕ). y.0) t.2 in
    let left : m.0.1 ≡ x.1 = ap (λ (y : List ℕ × List ℕ). y.1) t.2 in
    let f = front_is count bytes m.0 m.1 in (
      ap (λ (n : ℕ). n ∷ bytes) (sym f.len ∙ ap length name) ∙ ap (λ (l : List ℕ). length x.0 ∷ l) (f.whole ∙ ap (λ (l : List ℕ). l ++ m.0.1) name ∙ ap (λ (l : List ℕ). x.0 ++ l) left),
      subst AreBytes left (f.rest (λ i. all (suc i))),
    )
  where
    same_if : (b : Bool) (y z : List ℕ) → (if b then Some y else None) ≡ Some z → y ≡ z
    same_if true y z h = cc
    same_if false y z h = absurd cc

kind_is : (a b c d e : Bool) (code : ℕ) (kind : Kind) → (code == 1) ≡ a → (code == 2) ≡ b → (code == 3) ≡ c → (code == 4) ≡ d → (code == 5) ≡ e
    → (if a then Some SmallInt else (if b then Some Integer else (if c then Some BigInt else (if d then Some VarChar else (if e then Some VarBinary else None))))) ≡ Some kind → code ≡ code_of kind
kind_is true b c d e code kind p q r s t h = let k : SmallInt ≡ kind = cc in eqb-true code 1 p ∙ ap code_of k
kind_is false true c d e code kind p q r s t h = let k : Integer ≡ kind = cc in eqb-true code 2 q ∙ ap code_of k
kind_is false false true d e code kind p q r s t h = let k : BigInt ≡ kind = cc in eqb-true code 3 r ∙ ap code_of k
kind_is false false false true e code kind p q r s t h = let k : VarChar ≡ kind = cc in eqb-true code 4 s ∙ ap code_of k
kind_is false false false false true code kind p q r s t h = let k : VarBinary ≡ kind = cc in eqb-true code 5 t ∙ ap code_of k
kind_is false false false false false code kind p q r s t h = absurd cc

flag_is : (a b : Bool) (byte : ℕ) (flag : Bool) → (byte == 0) ≡ a → (byte == 1) ≡ b → (if a then Some false else (if b then Some true else None)) ≡ Some flag → byte ≡ flag_of flag
flag_is true b byte flag p q h = let k : false ≡ flag = cc in eqb-true byte 0 p ∙ ap flag_of k
flag_is false true byte flag p q h = let k : true ≡ flag = cc in eqb-true byte 1 q ∙ ap flag_of k
flag_is false false byte flag p q h = absurd cc

column_rest : (name : List ℕ) (bytes : List ℕ) (x : Column × List ℕ) → AreBytes bytes → column_after name bytes ≡ Some x
    → (x.0.name ≡ name) × (bytes ≡ (code_of x.0.kind ∷ flag_of x.0.is_nullable ∷ big_bytes 2 x.0.limit) ++ x.1) × AreBytes x.1
column_rest name [] x all h = absurd cc
column_rest name (a ∷ []) x all h = absurd cc
column_rest name (a ∷ b ∷ []) x all h = absurd cc
column_rest name (a ∷ b ∷ c ∷ []) x all h = absurd cc
column_rest name (code ∷ flag ∷ high ∷ low ∷ rest) x all h =
    let m = chained (λ (kind : Kind). option_map (λ (nullable : Bool). (let s : Column = record { name = name; kind = kind; is_nullable = nullable; limit = big_number 2 (high ∷ low ∷ []) } in s, rest)) (flag_at flag)) (kind_at code) x h in
    let t = mapped (λ (nullable : Bool). (let s : Column = record { name = name; kind = m.0; is_nullable = nullable; limit = big_number 2 (high ∷ low ∷ []) } in s, rest)) (flag_at flag) x m.2 in
    let kind = kind_is (code == 1) (code == 2) (code == 3) (code == 4) (code == 5) code m.0 refl refl refl refl refl m.1 in
    let nullable = flag_is (flag == 0) (flag == 1) flag t.0 refl refl t.1 in
    let two : AreBytes (high ∷ low ∷ []) = two_bytes high low rest all in
    let limit : big_bytes 2 (big_number 2 (high ∷ low ∷ [])) ≡ high ∷ low ∷ [] = two_written (high ∷ low ∷ []) refl two in
    let P : Column × List ℕ → Type 0 = λ y. (y.0.name ≡ name) × (code ∷ flag ∷ high ∷ low ∷ rest ≡ (code_of y.0.kind ∷ flag_of y.0.is_nullable ∷ big_bytes 2 y.0.limit) ++ y.1) × AreBytes y.1 in
    subst P t.2 (refl, ap (λ (l : List ℕ). code ∷ flag ∷ (l ++ rest)) (sym limit) ∙ ap (λ (n : ℕ). n ∷ flag ∷ (big_bytes 2 (big_number 2 (high ∷ low ∷ [])) ++ rest)) kind ∙ ap (λ (n : ℕ). code_of m.0 ∷ n ∷ (big_bytes 2 (big_number 2 (high ∷ low ∷ [])) ++ rest)) nullable, λ i. all (suc (suc (suc (suc i)))))
  where
    two_bytes : (high low : ℕ) (rest : List ℕ) → AreBytes (code ∷ flag ∷ high ∷ low ∷ rest) → AreBytes (high ∷ low ∷ [])
    two_bytes high low rest all zero = all 2
    two_bytes high low rest all (suc zero) = all 3
    two_bytes high low rest all (suc (suc i)) = omega arith

column_is : (bytes : List ℕ) (x : Column × List ℕ) → AreBytes bytes → column_at bytes ≡ Some x → (bytes ≡ column_bytes x.0 ++ x.1) × AreBytes x.1
unfolding column_at
column_is bytes x all h =
    let m = chained (λ (y : List ℕ × List ℕ). column_after y.0 y.1) (name_at bytes) x h in
    let n = name_is bytes m.0 all m.1 in
    let r = column_rest m.0.0 m.0.1 x n.1 m.2 in (
      n.0 ∙ ap (λ (l : List ℕ). named m.0.0 ++ l) r.1 ∙ ap (λ (l : List ℕ). named l ++ ((code_of x.0.kind ∷ flag_of x.0.is_nullable ∷ big_bytes 2 x.0.limit) ++ x.1)) (sym r.0)
          ∙ sym (append_assoc (named x.0.name) (code_of x.0.kind ∷ flag_of x.0.is_nullable ∷ big_bytes 2 x.0.limit) x.1),
      r.2,
    )

columns_is : (n : ℕ) (bytes : List ℕ) (x : List Column × List ℕ) → AreBytes bytes → columns_at n bytes ≡ Some x → (length x.0 ≡ n) × (bytes ≡ flat_map column_bytes x.0 ++ x.1) × AreBytes x.1
columns_is zero bytes x all h =
    let same : ([], bytes) ≡ x = cc in
    let P : List Column × List ℕ → Type 0 = λ y. (length y.0 ≡ 0) × (bytes ≡ flat_map column_bytes y.0 ++ y.1) × AreBytes y.1 in
    subst P same (refl, refl, all)
columns_is (suc n) bytes x all h =
    let m = chained (λ (c : Column × List ℕ). option_map (λ (y : List Column × List ℕ). (c.0 ∷ y.0, y.1)) (columns_at n c.1)) (column_at bytes) x h in
    let t = mapped (λ (y : List Column × List ℕ). (m.0.0 ∷ y.0, y.1)) (columns_at n m.0.1) x m.2 in
    let c = column_is bytes m.0 all m.1 in
    let r = columns_is n m.0.1 t.0 c.1 t.1 in
    let P : List Column × List ℕ → Type 0 = λ y. (length y.0 ≡ suc n) × (bytes ≡ flat_map column_bytes y.0 ++ y.1) × AreBytes y.1 in
    subst P t.2 (ap suc r.0, c.0 ∙ ap (λ (l : List ℕ). column_bytes m.0.0 ++ l) r.1 ∙ sym (append_assoc (column_bytes m.0.0) (flat_map column_bytes t.0.0) t.0.1), r.2)

named_is : (bytes : List ℕ) (x : List ℕ × List ℕ) → AreBytes bytes → named_at bytes ≡ Some x → (bytes ≡ named x.0 ++ x.1) × AreBytes x.1
named_is [] x all h = absurd cc
named_is (count ∷ bytes) x all h =
    let f = front_is count bytes x h in
    (ap (λ (n : ℕ). n ∷ bytes) (sym f.len) ∙ ap (λ (l : List ℕ). length x.0 ∷ l) f.whole, f.rest (λ i. all (suc i)))

parts_are : (bytes : List ℕ) (x : Schema × List ℕ) → AreBytes bytes → parts_at bytes ≡ Some x → (bytes ≡ schema_bytes x.0 ++ x.1) × AreBytes x.1
parts_are [] x all h = absurd cc
parts_are (count ∷ bytes) x all h =
    let m = chained (λ (y : List Column × List ℕ). option_map (λ (k : List ℕ × List ℕ). (let t : Schema = record { columns = y.0; key = k.0 } in t, k.1)) (named_at y.1)) (columns_at count bytes) x h in
    let t = mapped (λ (k : List ℕ × List ℕ). (let s : Schema = record { columns = m.0.0; key = k.0 } in s, k.1)) (named_at m.0.1) x m.2 in
    let c = columns_is count bytes m.0 (λ i. all (suc i)) m.1 in
    let k = named_is m.0.1 t.0 c.2 t.1 in
    let P : Schema × List ℕ → Type 0 = λ y. (count ∷ bytes ≡ schema_bytes y.0 ++ y.1) × AreBytes y.1 in
    subst P t.2 (ap (λ (n : ℕ). n ∷ bytes) (sym c.0) ∙ ap (λ (l : List ℕ). length m.0.0 ∷ l) (c.1 ∙ ap (λ (l : List ℕ). flat_map column_bytes m.0.0 ++ l) k.0 ∙ sym (append_assoc (flat_map column_bytes m.0.0) (length t.0.0 ∷ t.0.0) t.0.1)), k.1)

pub schema_is : (bytes : List ℕ) (x : Schema × List ℕ) → AreBytes bytes → schema_at bytes ≡ Some x → (is_schema x.0 ≡ true) × (bytes ≡ schema_bytes x.0 ++ x.1) × AreBytes x.1
unfolding schema_at
schema_is bytes x all h =
    let m = chained (λ (y : Schema × List ℕ). if is_schema y.0 then Some y else None) (parts_at bytes) x h in
    let same = kept_same (is_schema m.0.0) m.0 x m.2 in
    let p = parts_are bytes m.0 all m.1 in
    let P : Schema × List ℕ → Type 0 = λ y. (bytes ≡ schema_bytes y.0 ++ y.1) × AreBytes y.1 in
    let r = subst P same p in
    (schema_good bytes x h, r.0, r.1)
  where
    kept_same : (b : Bool) (y z : Schema × List ℕ) → (if b then Some y else None) ≡ Some z → y ≡ z
    kept_same true y z h = cc
    kept_same false y z h = absurd cc
