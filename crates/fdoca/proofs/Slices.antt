-- The texts and bytes of a row stand at their places.
use Rattle.std.proofs.Common.{◌≡◌, inl, inr, ℕ, ◌+◌, Bool, true, false, List, [], ◌∷◌, ◌++◌, length, refl, sym, ap, subst, ◌∙◌, arith, append_assoc, length-append, Result, Ok, Err}
use Rattle.std.specs.Prelude.{IfOk, ℤ}
use Rattle.drda_words.specs.Place.{StandsAt}
use Rattle.row_values.specs.Value.{Value, null, number, text, binary}
use Rattle.row_values.proofs.RowColumns.{stands_in}
use Rattle.fdoca.specs.declared.fault.DescriptorFault.{DescriptorFault}
use Rattle.fdoca.specs.declared.field.Field.{Field}
use Rattle.fdoca.specs.declared.field.FieldType.{FieldType}
use Rattle.fdoca.specs.declared.field.FieldType.TheVariants.{SmallInt, Integer, BigInt, FixedBytes, FixedText, VariableBytes, VariableText}
use Rattle.fdoca.specs.Row.{AreValues, IsContent, IsValueOf}
use Rattle.fdoca.specs.Calls.{ReadsRow}
use Rattle.fdoca.specs.Slices.{AllStand, Stands, count_size, mark_size, number_size, size_of, value_size}

-- bytes behind others, wherever these begin
behind : (before front content after : List ℕ) → StandsAt (before ++ ((front ++ content) ++ after)) (length before + length front) content
behind before front content after =
    let same : before ++ ((front ++ content) ++ after) ≡ (before ++ front) ++ (content ++ after) =
    ap (λ (t : List ℕ). before ++ t) (append_assoc front content after) ∙ sym (append_assoc before front (content ++ after)) in
    subst (λ (at : ℕ). StandsAt (before ++ ((front ++ content) ++ after)) at content) (length-append before front)
    (stands_in (before ++ ((front ++ content) ++ after)) (before ++ front) content after same)

-- what a value's bytes are: its text or bytes behind so many others, and nothing else
record Lies (bytes : List ℕ) (of : FieldType) (value : Value) : Type 0 where
  pub stands : (before after : List ℕ) → Stands (before ++ (bytes ++ after)) (length before + count_size of) value
  pub size : (marked : Bool) → mark_size marked + length bytes ≡ size_of marked of value

number_lies : (of : FieldType) (bytes : List ℕ) (n : ℤ) (value : Value) → length bytes ≡ number_size of → value ≡ number n → Lies bytes of value
number_lies of bytes n value size is =
    subst (λ (v : Value). Lies bytes of v) (sym is) (record { stands = λ before after. tt; size = λ marked. ap (λ (k : ℕ). mark_size marked + k) size })

text_lies : (of : FieldType) (front content bytes : List ℕ) (value : Value) → length front ≡ count_size of → bytes ≡ front ++ content → value ≡ text content → Lies bytes of value
text_lies of front content bytes value size same is =
    subst (λ (v : Value). Lies bytes of v) (sym is) (subst (λ (b : List ℕ). Lies b of (text content)) (sym same) (record {
      stands = λ before after. subst (λ (k : ℕ). StandsAt (before ++ ((front ++ content) ++ after)) (length before + k) content) size (behind before front content after);
      size = λ marked. let sum = length-append front content in omega (arith, sum, size);
    }))

bytes_lie : (of : FieldType) (front content bytes : List ℕ) (value : Value) → length front ≡ count_size of → bytes ≡ front ++ content → value ≡ binary content → Lies bytes of value
bytes_lie of front content bytes value size same is =
    subst (λ (v : Value). Lies bytes of v) (sym is) (subst (λ (b : List ℕ). Lies b of (binary content)) (sym same) (record {
      stands = λ before after. subst (λ (k : ℕ). StandsAt (before ++ ((front ++ content) ++ after)) (length before + k) content) size (behind before front content after);
      size = λ marked. let sum = length-append front content in omega (arith, sum, size);
    }))

content_lies : (of : FieldType) (limit : ℕ) (bytes : List ℕ) (value : Value) → IsContent of limit bytes value → Lies bytes of value
content_lies SmallInt limit bytes value h = number_lies SmallInt bytes _ value h.0 h.1
content_lies Integer limit bytes value h = number_lies Integer bytes _ value h.0 h.1
content_lies BigInt limit bytes value h = number_lies BigInt bytes _ value h.0 h.1
content_lies FixedBytes limit bytes value h = bytes_lie FixedBytes [] bytes bytes value refl refl h.1
content_lies FixedText limit bytes value h = text_lies FixedText [] bytes bytes value refl refl h.2
content_lies VariableBytes limit bytes value (content, (high, low, same, size, short), is) = bytes_lie VariableBytes (high ∷ low ∷ []) content bytes value refl same is
content_lies VariableText limit bytes value (content, (high, low, same, size, short), u, is) = text_lies VariableText (high ∷ low ∷ []) content bytes value refl same is

-- a value of a field, between other bytes
record IsHere (bytes : List ℕ) (marked : Bool) (of : FieldType) (value : Value) : Type 0 where
  pub stands : (before after : List ℕ) → Stands (before ++ (bytes ++ after)) (length before + (mark_size marked + count_size of)) value
  pub size : length bytes ≡ size_of marked of value

null_is_here : (of : FieldType) (bytes : List ℕ) (value : Value) → bytes ≡ 0xFF ∷ [] → value ≡ null → IsHere bytes true of value
null_is_here of bytes value same is =
    subst (λ (v : Value). IsHere bytes true of v) (sym is) (record { stands = λ before after. tt; size = ap (λ (b : List ℕ). length b) same })

marked_stands : (before content after : List ℕ) (k : ℕ) (value : Value) → Stands ((before ++ (0x00 ∷ [])) ++ (content ++ after)) (length (before ++ (0x00 ∷ [])) + k) value
    → Stands (before ++ ((0x00 ∷ content) ++ after)) (length before + (1 + k)) value
marked_stands before content after k value h =
    let at : length (before ++ (0x00 ∷ [])) + k ≡ length before + (1 + k) = let sum = length-append before (0x00 ∷ []) in omega (arith, sum) in
    subst (λ (n : ℕ). Stands (before ++ ((0x00 ∷ content) ++ after)) n value) at
    (subst (λ (t : List ℕ). Stands t (length (before ++ (0x00 ∷ [])) + k) value) (append_assoc before (0x00 ∷ []) (content ++ after)) h)

value_is_here : (marked : Bool) (of : FieldType) (limit : ℕ) (bytes : List ℕ) (value : Value) → IsValueOf marked of limit bytes value → IsHere bytes marked of value
value_is_here true of limit bytes value (inl h) = null_is_here of bytes value h.0 h.1
value_is_here true of limit bytes value (inr (content, same, h)) =
    let lies = content_lies of limit content value h in
    subst (λ (b : List ℕ). IsHere b true of value) (sym same) (record {
      stands = λ before after. marked_stands before content after (count_size of) value (lies.stands (before ++ (0x00 ∷ [])) after);
      size = let one : length (0x00 ∷ content) ≡ 1 + length content = omega arith in one ∙ lies.size true;
    })
value_is_here false of limit bytes value h =
    let lies = content_lies of limit bytes value h in
    let none : (k : ℕ) → k ≡ mark_size false + k = λ k. omega arith in
    record {
      stands = λ before after. subst (λ (k : ℕ). Stands (before ++ (bytes ++ after)) (length before + k) value) (none (count_size of)) (lies.stands before after);
      size = none (length bytes) ∙ lies.size false;
    }

-- values stand where those before them end
all_stand : (fields : List Field) (before bytes : List ℕ) (values : List Value) → AreValues fields bytes values → AllStand (before ++ bytes) (length before) fields values
all_stand [] before bytes [] h = let sum = length-append before bytes in let none : length bytes ≡ 0 = ap (λ (b : List ℕ). length b) h in omega (arith, sum, none)
all_stand [] before bytes (value ∷ values) h = absurd h
all_stand (field ∷ fields) before bytes [] h = absurd h
all_stand (field ∷ fields) before bytes (value ∷ values) (front, rest, same, v, more) =
    let here = value_is_here field.is_nullable field.field_type field.length front value v in
    let at : length (before ++ front) ≡ length before + value_size field value = length-append before front ∙ ap (λ (k : ℕ). length before + k) here.size in
    let others = all_stand fields (before ++ front) rest values more in
    subst (λ (b : List ℕ). AllStand (before ++ b) (length before) (field ∷ fields) (value ∷ values)) (sym same) (
      here.stands before rest,
      subst (λ (n : ℕ). AllStand (before ++ (front ++ rest)) n fields values) at
          (subst (λ (t : List ℕ). AllStand t (length (before ++ front)) fields values) (append_assoc before front rest) others),
    )

-- so do those of a row that was read
pub read_stand : (fields : List Field) (row : List ℕ) (r : Result (List Value) DescriptorFault) → ReadsRow fields row r → IfOk r (λ values. AllStand row 1 fields values)
read_stand fields row (Ok values) (content, same, h) = subst (λ (b : List ℕ). AllStand b 1 fields values) (sym same) (all_stand fields (0x00 ∷ []) content values h)
read_stand fields row (Err e) h = tt
