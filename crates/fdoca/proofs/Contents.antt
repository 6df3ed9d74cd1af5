-- One value: what is one is read, and what is read is one.
use Rattle.std.proofs.Common.{◌≡◌, ℕ, ◌≤◌, List, [], ◌∷◌, ◌++◌, Bool, true, false, if◌then◌else◌, refl, sym, ap, subst, ◌∙◌, length, take, drop, nat_le, arith, Option, Some, None, option_map, length-append, eqb-true, inl, inr}
use Rattle.std.specs.Prelude.{◌==◌}
use Rattle.std.specs.Option.{option_and_then}
use Rattle.std.specs.Str.{is_utf8}
use Rattle.std.specs.Int.{Width, w16, w32, w64, cast_signed}
use Rattle.std.proofs.Math.Seq.{drop-append_seam, take-append_seam}
use Rattle.std.proofs.lemmas.Bool.Decides.{nat_tests}
use Rattle.std.proofs.lemmas.List.{length-take-le, take-append-drop}
use Rattle.byteorder.specs.Endian.{big_number}
use Rattle.drda_words.specs.Number.{word}
use Rattle.row_values.specs.Value.{Value, null, number, text, binary}
use Rattle.fdoca.specs.declared.field.Field.{Field}
use Rattle.fdoca.specs.declared.field.FieldType.{FieldType}
use Rattle.fdoca.specs.declared.field.FieldType.TheVariants.{SmallInt, Integer, BigInt, FixedBytes, FixedText, VariableBytes, VariableText}
use Rattle.fdoca.specs.Row.{IsContent, IsCounted, IsMarked, IsNumber, IsValue, IsValueOf}
use Rattle.fdoca.specs.Reading.{as_bytes, as_text, content_at, counted_at, front_of, marked_at, number_at, utf8_in, value_at}

-- a step that gave something had something to go on
pub mapped : {A B : Type 0} (f : A → B) (o : Option A) (y : B) → option_map f o ≡ Some y → (x : A) × (o ≡ Some x) × (f x ≡ y)
mapped f (Some x) y h = (x, refl, cc)
mapped f None y h = absurd cc

pub chained : {A B : Type 0} (f : A → Option B) (o : Option A) (y : B) → option_and_then f o ≡ Some y → (x : A) × (o ≡ Some x) × (f x ≡ Some y)
chained f (Some x) y h = (x, refl, h)
chained f None y h = absurd cc

-- ---- the first bytes

pub drop_front : (xs ys : List ℕ) (n : ℕ) → length xs ≡ n → drop n (xs ++ ys) ≡ ys
drop_front xs ys n is = ap (λ (m : ℕ). drop m (xs ++ ys)) (sym is) ∙ drop-append_seam xs ys

pub take_front : (xs ys : List ℕ) (n : ℕ) → length xs ≡ n → take n (xs ++ ys) ≡ xs
take_front xs ys n is = ap (λ (m : ℕ). take m (xs ++ ys)) (sym is) ∙ take-append_seam xs ys

enough : (n : ℕ) (xs ys : List ℕ) → length xs ≡ n → nat_le n (length (xs ++ ys)) ≡ true
enough n xs ys is = let sum = length-append xs ys in grind (arith, nat_tests)

front_back : (n : ℕ) (xs ys : List ℕ) → length xs ≡ n → front_of n (xs ++ ys) ≡ Some (xs, ys)
unfolding front_of
front_back n xs ys is =
    let all = enough n xs ys is in
    let one = take_front xs ys n is in
    let two = drop_front xs ys n is in
    rw (all, one, two) refl

front_cases : (b : Bool) (n : ℕ) (bytes : List ℕ) (x : List ℕ × List ℕ) → nat_le n (length bytes) ≡ b → (if b then Some (take n bytes, drop n bytes) else None) ≡ Some x → (length x.0 ≡ n) × (bytes ≡ x.0 ++ x.1)
front_cases true n bytes x is h =
    let le : n ≤ length bytes = grind (arith, nat_tests) in
    let same : (take n bytes, drop n bytes) ≡ x = cc in
    subst (λ (y : List ℕ × List ℕ). (length y.0 ≡ n) × (bytes ≡ y.0 ++ y.1)) same (length-take-le n bytes le, sym (take-append-drop n bytes))
front_cases false n bytes x is h = absurd cc

front_is : (n : ℕ) (bytes : List ℕ) (x : List ℕ × List ℕ) → front_of n bytes ≡ Some x → (length x.0 ≡ n) × (bytes ≡ x.0 ++ x.1)
unfolding front_of
front_is n bytes x h = front_cases (nat_le n (length bytes)) n bytes x refl h

-- ---- contents behind their length

chosen : {A : Type 0} (b : Bool) (x : Option A) → b ≡ true → (if b then x else None) ≡ x
chosen b x e = rw e refl

kept : {A : Type 0} (b : Bool) (x : Option A) (y : A) → (if b then x else None) ≡ Some y → (b ≡ true) × (x ≡ Some y)
kept true x y h = (refl, h)
kept false x y h = absurd cc

at_most : (n limit : ℕ) → n ≤ limit → nat_le n limit ≡ true
at_most n limit le = grind (arith, nat_tests)

is_most : (n limit : ℕ) → nat_le n limit ≡ true → n ≤ limit
is_most n limit le = grind (arith, nat_tests)

counted_back : (limit : ℕ) (bytes content rest : List ℕ) → IsCounted limit bytes content → counted_at limit (bytes ++ rest) ≡ Some (content, rest)
unfolding counted_at
counted_back limit bytes content rest h =
    let high = h.0 in
    let low = h.1 in
    let within : word high low ≤ limit = rw h.3 h.4 in
    ap (λ (b : List ℕ). counted_at limit (b ++ rest)) h.2
    ∙ chosen (nat_le (word high low) limit) (front_of (word high low) (content ++ rest)) (at_most (word high low) limit within)
    ∙ front_back (word high low) content rest (sym h.3)

counted_is : (limit : ℕ) (bytes : List ℕ) (x : List ℕ × List ℕ) → counted_at limit bytes ≡ Some x → (front : List ℕ) × (bytes ≡ front ++ x.1) × IsCounted limit front x.0
unfolding counted_at
counted_is limit [] x h = absurd cc
counted_is limit (a ∷ []) x h = absurd cc
counted_is limit (high ∷ low ∷ bytes) x h =
    let k = kept (nat_le (word high low) limit) (front_of (word high low) bytes) x h in
    let f = front_is (word high low) bytes x k.1 in
    let within : length x.0 ≤ limit = rw f.0 (is_most (word high low) limit k.0) in
    (high ∷ low ∷ x.0, ap (λ (b : List ℕ). high ∷ low ∷ b) f.1, (high, low, refl, sym f.0, within))

-- ---- values of a type

utf8_is : (bytes : List ℕ) → is_utf8 bytes ≡ true → utf8_in bytes ≡ Some bytes
utf8_is bytes h = rw h refl

utf8_same : (b : Bool) (bytes content : List ℕ) → (if b then Some bytes else None) ≡ Some content → (b ≡ true) × (bytes ≡ content)
utf8_same true bytes content h = (refl, cc)
utf8_same false bytes content h = absurd cc

as_text_back : (o : Option (List ℕ × List ℕ)) (content rest : List ℕ) → o ≡ Some (content, rest) → is_utf8 content ≡ true → as_text o ≡ Some (text content, rest)
as_text_back o content rest is utf8 = ap as_text is ∙ ap (option_map (λ (c : List ℕ). (text c, rest))) (utf8_is content utf8)

as_text_is : (o : Option (List ℕ × List ℕ)) (x : Value × List ℕ) → as_text o ≡ Some x → (content : List ℕ) × (o ≡ Some (content, x.1)) × (is_utf8 content ≡ true) × (x.0 ≡ text content)
as_text_is o x h =
    let m = chained (λ (y : List ℕ × List ℕ). option_map (λ content. (text content, y.1)) (utf8_in y.0)) o x h in
    let t = mapped (λ (content : List ℕ). (text content, m.0.1)) (utf8_in m.0.0) x m.2 in
    let u = utf8_same (is_utf8 m.0.0) m.0.0 t.0 t.1 in
    let left : m.0.1 ≡ x.1 = ap (λ (p : Value × List ℕ). p.1) t.2 in
    let value : x.0 ≡ text m.0.0 = sym (ap (λ (p : Value × List ℕ). p.0) t.2) ∙ ap text (sym u.1) in
    (m.0.0, m.1 ∙ ap (λ (l : List ℕ). Some (m.0.0, l)) left, u.0, value)

as_bytes_is : (o : Option (List ℕ × List ℕ)) (x : Value × List ℕ) → as_bytes o ≡ Some x → (content : List ℕ) × (o ≡ Some (content, x.1)) × (x.0 ≡ binary content)
as_bytes_is o x h =
    let m = mapped (λ (y : List ℕ × List ℕ). (binary y.0, y.1)) o x h in
    let left : m.0.1 ≡ x.1 = ap (λ (p : Value × List ℕ). p.1) m.2 in
    (m.0.0, m.1 ∙ ap (λ (l : List ℕ). Some (m.0.0, l)) left, sym (ap (λ (p : Value × List ℕ). p.0) m.2))

number_back : (size : ℕ) (w : Width) (bytes rest : List ℕ) (value : Value) → IsNumber size w bytes value → number_at size w (bytes ++ rest) ≡ Some (value, rest)
number_back size w bytes rest value h =
    ap (option_map (λ (x : List ℕ × List ℕ). (number (cast_signed w (big_number size x.0)), x.1))) (front_back size bytes rest h.0)
    ∙ ap (λ (v : Value). Some (v, rest)) (sym h.1)

number_is : (size : ℕ) (w : Width) (bytes : List ℕ) (x : Value × List ℕ) → number_at size w bytes ≡ Some x → (front : List ℕ) × (bytes ≡ front ++ x.1) × IsNumber size w front x.0
number_is size w bytes x h =
    let m = mapped (λ (f : List ℕ × List ℕ). (number (cast_signed w (big_number size f.0)), f.1)) (front_of size bytes) x h in
    let f = front_is size bytes m.0 m.1 in
    let left : m.0.1 ≡ x.1 = ap (λ (p : Value × List ℕ). p.1) m.2 in
    (m.0.0, f.1 ∙ ap (λ (l : List ℕ). m.0.0 ++ l) left, (f.0, sym (ap (λ (p : Value × List ℕ). p.0) m.2)))

some_value : (o : Option (Value × List ℕ)) (value other : Value) (rest : List ℕ) → o ≡ Some (other, rest) → value ≡ other → o ≡ Some (value, rest)
some_value o value other rest is same = is ∙ ap (λ (v : Value). Some (v, rest)) (sym same)

pub content_back : (of : FieldType) (limit : ℕ) (bytes rest : List ℕ) (value : Value) → IsContent of limit bytes value → content_at of limit (bytes ++ rest) ≡ Some (value, rest)
content_back SmallInt limit bytes rest value h = number_back 2 w16 bytes rest value h
content_back Integer limit bytes rest value h = number_back 4 w32 bytes rest value h
content_back BigInt limit bytes rest value h = number_back 8 w64 bytes rest value h
content_back FixedBytes limit bytes rest value h = some_value (as_bytes (front_of limit (bytes ++ rest))) value (binary bytes) rest (ap as_bytes (front_back limit bytes rest h.0)) h.1
content_back FixedText limit bytes rest value h = some_value (as_text (front_of limit (bytes ++ rest))) value (text bytes) rest (as_text_back (front_of limit (bytes ++ rest)) bytes rest (front_back limit bytes rest h.0) h.1) h.2
content_back VariableBytes limit bytes rest value h = some_value (as_bytes (counted_at limit (bytes ++ rest))) value (binary h.0) rest (ap as_bytes (counted_back limit bytes h.0 rest h.1)) h.2
content_back VariableText limit bytes rest value h = some_value (as_text (counted_at limit (bytes ++ rest))) value (text h.0) rest (as_text_back (counted_at limit (bytes ++ rest)) h.0 rest (counted_back limit bytes h.0 rest h.1) h.2) h.3

pub content_is : (of : FieldType) (limit : ℕ) (bytes : List ℕ) (x : Value × List ℕ) → content_at of limit bytes ≡ Some x → (front : List ℕ) × (bytes ≡ front ++ x.1) × IsContent of limit front x.0
content_is SmallInt limit bytes x h = number_is 2 w16 bytes x h
content_is Integer limit bytes x h = number_is 4 w32 bytes x h
content_is BigInt limit bytes x h = number_is 8 w64 bytes x h
content_is FixedBytes limit bytes x h =
    let m = as_bytes_is (front_of limit bytes) x h in
    let f = front_is limit bytes (m.0, x.1) m.1 in
    (m.0, f.1, (f.0, m.2))
content_is FixedText limit bytes x h =
    let m = as_text_is (front_of limit bytes) x h in
    let f = front_is limit bytes (m.0, x.1) m.1 in
    (m.0, f.1, (f.0, m.2, m.3))
content_is VariableBytes limit bytes x h =
    let m = as_bytes_is (counted_at limit bytes) x h in
    let f = counted_is limit bytes (m.0, x.1) m.1 in
    (f.0, f.1, (m.0, f.2, m.2))
content_is VariableText limit bytes x h =
    let m = as_text_is (counted_at limit bytes) x h in
    let f = counted_is limit bytes (m.0, x.1) m.1 in
    (f.0, f.1, (m.0, f.2, m.2, m.3))

-- ---- values of a field

marked_back : (of : FieldType) (limit : ℕ) (bytes rest : List ℕ) (value : Value) → IsMarked of limit bytes value → marked_at of limit (bytes ++ rest) ≡ Some (value, rest)
marked_back of limit bytes rest value (inl h) = ap (λ (b : List ℕ). marked_at of limit (b ++ rest)) h.0 ∙ ap (λ (v : Value). Some (v, rest)) (sym h.1)
marked_back of limit bytes rest value (inr h) = ap (λ (b : List ℕ). marked_at of limit (b ++ rest)) h.1 ∙ content_back of limit h.0 rest value h.2

marked_cases : (absent present : Bool) (of : FieldType) (limit mark : ℕ) (bytes : List ℕ) (x : Value × List ℕ) → (mark == 0xFF) ≡ absent → (mark == 0x00) ≡ present
    → (if absent then Some (null, bytes) else (if present then content_at of limit bytes else None)) ≡ Some x → (front : List ℕ) × (mark ∷ bytes ≡ front ++ x.1) × IsMarked of limit front x.0
marked_cases true present of limit mark bytes x absent_is present_is h =
    let same : mark ≡ 0xFF = eqb-true mark 0xFF absent_is in
    let found : (null, bytes) ≡ x = cc in
    (0xFF ∷ [], ap (λ (k : ℕ). k ∷ bytes) same ∙ ap (λ (p : Value × List ℕ). 0xFF ∷ p.1) found, inl (refl, sym (ap (λ (p : Value × List ℕ). p.0) found)))
marked_cases false true of limit mark bytes x absent_is present_is h =
    let same : mark ≡ 0x00 = eqb-true mark 0x00 present_is in
    let c = content_is of limit bytes x h in
    (0x00 ∷ c.0, ap (λ (k : ℕ). k ∷ bytes) same ∙ ap (λ (b : List ℕ). 0x00 ∷ b) c.1, inr (c.0, refl, c.2))
marked_cases false false of limit mark bytes x absent_is present_is h = absurd cc

marked_is : (of : FieldType) (limit : ℕ) (bytes : List ℕ) (x : Value × List ℕ) → marked_at of limit bytes ≡ Some x → (front : List ℕ) × (bytes ≡ front ++ x.1) × IsMarked of limit front x.0
marked_is of limit [] x h = absurd cc
marked_is of limit (mark ∷ bytes) x h = marked_cases (mark == 0xFF) (mark == 0x00) of limit mark bytes x refl refl h

back_by : (nullable : Bool) (of : FieldType) (limit : ℕ) (bytes rest : List ℕ) (value : Value) → IsValueOf nullable of limit bytes value
    → (if nullable then marked_at of limit (bytes ++ rest) else content_at of limit (bytes ++ rest)) ≡ Some (value, rest)
back_by true of limit bytes rest value h = marked_back of limit bytes rest value h
back_by false of limit bytes rest value h = content_back of limit bytes rest value h

pub value_back : (field : Field) (bytes rest : List ℕ) (value : Value) → IsValue field bytes value → value_at field (bytes ++ rest) ≡ Some (value, rest)
unfolding value_at
value_back field bytes rest value h = back_by field.is_nullable field.field_type field.length bytes rest value h

is_by : (nullable : Bool) (of : FieldType) (limit : ℕ) (bytes : List ℕ) (x : Value × List ℕ) → (if nullable then marked_at of limit bytes else content_at of limit bytes) ≡ Some x
    → (front : List ℕ) × (bytes ≡ front ++ x.1) × IsValueOf nullable of limit front x.0
is_by true of limit bytes x h = marked_is of limit bytes x h
is_by false of limit bytes x h = content_is of limit bytes x h

pub value_is : (field : Field) (bytes : List ℕ) (x : Value × List ℕ) → value_at field bytes ≡ Some x → (front : List ℕ) × (bytes ≡ front ++ x.1) × IsValue field front x.0
unfolding value_at
value_is field bytes x h = is_by field.is_nullable field.field_type field.length bytes x h
