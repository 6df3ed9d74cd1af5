-- Descriptors: what is one is read, and what is read is one.
use Rattle.std.proofs.Common.{◌≡◌, ℕ, zero, suc, ◌+◌, ◌-◌, ◌*◌, ◌/◌, ◌%◌, ◌<◌, ◌≤◌, List, [], ◌∷◌, ◌++◌, Bool, true, false, ◌&&◌, if◌then◌else◌, refl, sym, ap, subst, ◌∙◌, length, take, drop, nat_le, arith, Option, Some, None, option_map, append_assoc, Result, Ok, Err, eqb-true}
use Rattle.std.specs.Prelude.{◌==◌, bytes_eq, IfSome}
use Rattle.std.specs.Option.{option_and_then}
use Rattle.std.proofs.lemmas.Bool.Decides.{nat_tests}
use Rattle.std.proofs.lemmas.List.{take-append-drop}
use Rattle.drda_words.specs.Number.{word}
use Rattle.drda_words.proofs.Precedes.{same_bytes}
use Rattle.row_values.specs.Value.{Value}
use Rattle.fdoca.specs.declared.fault.DescriptorFault.{DescriptorFault}
use Rattle.fdoca.specs.declared.fault.DescriptorFault.TheVariants.{Malformed, TooManyFields, NoMemory}
use Rattle.fdoca.specs.declared.field.Field.{Field}
use Rattle.fdoca.specs.Types.{field_of}
use Rattle.fdoca.specs.Descriptor.{AreContinued, AreFields, Describes, closing, joined}
use Rattle.fdoca.specs.Row.{AreParameters, IsRow}
use Rattle.fdoca.specs.Reading.{closes, continued_by, descriptor_at, fields_at, fields_within, goes_on}
use Rattle.fdoca.specs.Calls.{GivesFields, ReadsDescriptor}
use Rattle.fdoca.proofs.Contents.{chained, mapped}
use Rattle.fdoca.proofs.Rows.{one_row}

-- ---- what is a descriptor is read

-- three bytes a field
three : (text : List ℕ) (fields : List Field) → AreFields text fields → length text ≡ 3 * length fields
three [] [] h = refl
three [] (field ∷ fields) h = absurd h
three (a ∷ []) [] h = absurd h
three (a ∷ []) (field ∷ fields) h = absurd h
three (a ∷ b ∷ []) [] h = absurd h
three (a ∷ b ∷ []) (field ∷ fields) h = absurd h
three (a ∷ b ∷ c ∷ text) [] h = absurd h
three (a ∷ b ∷ c ∷ text) (field ∷ fields) h = let rest = three text fields h.1 in omega arith

counted_by : (n count : ℕ) → n ≡ 3 + 3 * count → (nat_le 3 n && (n % 3 == 0)) ≡ true
counted_by n count is = grind (arith, nat_tests)

within_by : (b : Bool) (n count : ℕ) → b ≡ true → (n - 3) / 3 ≡ count → (if b then Some ((n - 3) / 3) else None) ≡ Some count
within_by true n count e is = ap (λ (k : ℕ). Some k) is
within_by false n count e is = absurd cc

-- the length of a triplet says how many fields it has
within_is : (n count : ℕ) → n ≡ 3 + 3 * count → fields_within n ≡ Some count
within_is n count is = within_by (nat_le 3 n && (n % 3 == 0)) n count (counted_by n count is) (omega arith)

nothing_more : (o : Option (List Field)) → o ≡ option_map (λ more. [] ++ more) o
nothing_more None = refl
nothing_more (Some fields) = refl

both : (o : Option (List Field)) (field : Field) (fields : List Field) → option_map (λ fs. field ∷ fs) (option_map (λ more. fields ++ more) o) ≡ option_map (λ more. (field ∷ fields) ++ more) o
both None field fields = refl
both (Some more) field fields = refl

-- fields of a triplet are read one after the other
fields_back : (text rest : List ℕ) (fields : List Field) → AreFields text fields → fields_at (length fields) (text ++ rest) ≡ option_map (λ more. fields ++ more) (fields_at zero rest)
fields_back [] rest [] h = nothing_more (fields_at zero rest)
fields_back [] rest (field ∷ fields) h = absurd h
fields_back (a ∷ []) rest [] h = absurd h
fields_back (a ∷ []) rest (field ∷ fields) h = absurd h
fields_back (a ∷ b ∷ []) rest [] h = absurd h
fields_back (a ∷ b ∷ []) rest (field ∷ fields) h = absurd h
fields_back (a ∷ b ∷ c ∷ text) rest [] h = absurd h
fields_back (a ∷ b ∷ c ∷ text) rest (field ∷ fields) h =
    ap (option_and_then (λ f. option_map (λ fs. f ∷ fs) (fields_at (length fields) (text ++ rest)))) h.0
    ∙ ap (option_map (λ fs. field ∷ fs)) (fields_back text rest fields h.1)
    ∙ both (fields_at zero rest) field fields

-- the closing triplet is read as the end, whatever follows
end_back : (behind : List ℕ) → fields_at zero (closing ++ behind) ≡ Some []
end_back behind = refl

continued_back : (bytes behind : List ℕ) (others : List (List Field)) → AreContinued bytes others → fields_at zero (bytes ++ (closing ++ behind)) ≡ Some (joined others)
continued_back bytes behind [] h = ap (λ (b : List ℕ). fields_at zero (b ++ (closing ++ behind))) h ∙ end_back behind
continued_back bytes behind (fields ∷ others) h =
    let front = h.0 in
    let rest = h.1 in
    let identity = h.2 in
    let triplet = h.4 in
    let text = triplet.0 in
    let size : 3 + length text ≡ 3 + 3 * length fields = let t = three text fields triplet.2 in omega arith in
    ap (λ (b : List ℕ). fields_at zero (b ++ (closing ++ behind))) (h.3 ∙ ap (λ (f : List ℕ). f ++ rest) triplet.1)
    ∙ ap (λ (o : Option ℕ). goes_on o (λ count. fields_at count ((text ++ rest) ++ (closing ++ behind))) (closes (((3 + length text) ∷ 0x7F ∷ identity ∷ text ++ rest) ++ (closing ++ behind)))) (within_is (3 + length text) (length fields) size)
    ∙ ap (fields_at (length fields)) (append_assoc text rest (closing ++ behind))
    ∙ fields_back text (rest ++ (closing ++ behind)) fields triplet.2
    ∙ ap (option_map (λ more. fields ++ more)) (continued_back rest behind others h.5)

pub description_back : (bytes : List ℕ) (fields : List Field) → Describes bytes fields → descriptor_at bytes ≡ Some fields
unfolding descriptor_at
description_back bytes fields h =
    let first = h.0 in
    let continued = h.1 in
    let behind = h.2 in
    let here = h.3 in
    let others = h.4 in
    let triplet = h.6 in
    let text = triplet.0 in
    let size : 3 + length text ≡ 3 + 3 * length here = let t = three text here triplet.2 in omega arith in
    ap descriptor_at (h.5 ∙ ap (λ (f : List ℕ). f ++ (continued ++ (closing ++ behind))) triplet.1)
    ∙ ap (option_and_then (λ count. fields_at count (text ++ (continued ++ (closing ++ behind))))) (within_is (3 + length text) (length here) size)
    ∙ fields_back text (continued ++ (closing ++ behind)) here triplet.2
    ∙ ap (option_map (λ more. here ++ more)) (continued_back continued behind others h.7)
    ∙ ap (λ (l : List Field). Some l) (sym h.8)

-- ---- what is read is a descriptor

and_both : (a b : Bool) → (a && b) ≡ true → (a ≡ true) × (b ≡ true)
and_both true b h = (refl, h)
and_both false b h = absurd cc

kept : {A : Type 0} (b : Bool) (x : Option A) (y : A) → (if b then x else None) ≡ Some y → (b ≡ true) × (x ≡ Some y)
kept true x y h = (refl, h)
kept false x y h = absurd cc

-- a triplet that has so many fields has that length
size_is : (n count : ℕ) → fields_within n ≡ Some count → n ≡ 3 + 3 * count
size_is n count h =
    let k = kept (nat_le 3 n && (n % 3 == 0)) (Some ((n - 3) / 3)) count h in
    let tests = and_both (nat_le 3 n) (n % 3 == 0) k.0 in
    let most : 3 ≤ n = grind (arith, nat_tests, tests.0) in
    let whole : n % 3 ≡ 0 = eqb-true (n % 3) 0 tests.1 in
    let many : (n - 3) / 3 ≡ count = cc in
    omega (arith, most, whole, many)

-- what was read from a place on, where so many fields of a triplet were still to come
record IsRead (left : ℕ) (bytes : List ℕ) (fields : List Field) : Type 0 where
  pub text : List ℕ
  pub continued : List ℕ
  pub behind : List ℕ
  pub here : List Field
  pub others : List (List Field)
  pub whole : bytes ≡ text ++ (continued ++ (closing ++ behind))
  pub are : AreFields text here
  pub count : length here ≡ left
  pub goes : AreContinued continued others
  pub all : fields ≡ here ++ joined others

closed_is : (bytes : List ℕ) (fields : List Field) → closes bytes ≡ Some fields → IsRead zero bytes fields
closed_is bytes fields h =
    let k = kept (bytes_eq closing (take 6 bytes)) (Some []) fields h in
    let same : take 6 bytes ≡ closing = sym (same_bytes closing (take 6 bytes) k.0) in
    let none : [] ≡ fields = cc in
    record {
      text = [];
      continued = [];
      behind = drop 6 bytes;
      here = [];
      others = [];
      whole = sym (take-append-drop 6 bytes) ∙ ap (λ (b : List ℕ). b ++ drop 6 bytes) same;
      are = tt;
      count = refl;
      goes = refl;
      all = sym none;
    }

head_is : (size what identity count : ℕ) (bytes : List ℕ) (fields : List Field) → continued_by size what ≡ Some count → IsRead count bytes fields → IsRead zero (size ∷ what ∷ identity ∷ bytes) fields
head_is size what identity count bytes fields h r =
    let k = kept (what == 0x7F) (fields_within size) count h in
    let kind : what ≡ 0x7F = eqb-true what 0x7F k.0 in
    let size_of : size ≡ 3 + 3 * count = size_is size count k.1 in
    let long : size ≡ 3 + length r.text = let t = three r.text r.here r.are in let c = r.count in omega arith in
    record {
      text = [];
      continued = (size ∷ what ∷ identity ∷ r.text) ++ r.continued;
      behind = r.behind;
      here = [];
      others = r.here ∷ r.others;
      whole = ap (λ (b : List ℕ). size ∷ what ∷ identity ∷ b) (r.whole ∙ sym (append_assoc r.text r.continued (closing ++ r.behind)));
      are = tt;
      count = refl;
      goes = (size ∷ what ∷ identity ∷ r.text, r.continued, identity, refl, (r.text, ap (λ (n : ℕ). n ∷ what ∷ identity ∷ r.text) long ∙ ap (λ (n : ℕ). (3 + length r.text) ∷ n ∷ identity ∷ r.text) kind, r.are), r.goes);
      all = r.all;
    }

field_is : (a b c left : ℕ) (bytes : List ℕ) (field : Field) (more fields : List Field) → field_of a (word b c) ≡ Some field → field ∷ more ≡ fields → IsRead left bytes more → IsRead (suc left) (a ∷ b ∷ c ∷ bytes) fields
field_is a b c left bytes field more fields h same r = record {
  text = a ∷ b ∷ c ∷ r.text;
  continued = r.continued;
  behind = r.behind;
  here = field ∷ r.here;
  others = r.others;
  whole = ap (λ (l : List ℕ). a ∷ b ∷ c ∷ l) r.whole;
  are = (h, r.are);
  count = ap suc r.count;
  goes = r.goes;
  all = sym same ∙ ap (λ (l : List Field). field ∷ l) r.all;
}

zero_is : (o : Option ℕ) (a b c : ℕ) (bytes : List ℕ) (fields : List Field) → continued_by a b ≡ o → goes_on o (λ count. fields_at count bytes) (closes (a ∷ b ∷ c ∷ bytes)) ≡ Some fields
    → ((count : ℕ) → fields_at count bytes ≡ Some fields → IsRead count bytes fields) → IsRead zero (a ∷ b ∷ c ∷ bytes) fields
zero_is None a b c bytes fields is h go = closed_is (a ∷ b ∷ c ∷ bytes) fields h
zero_is (Some count) a b c bytes fields is h go = head_is a b c count bytes fields is (go count h)

read_is : (left : ℕ) (bytes : List ℕ) (fields : List Field) → fields_at left bytes ≡ Some fields → IsRead left bytes fields
read_is left [] fields h = absurd cc
read_is left (a ∷ []) fields h = absurd cc
read_is left (a ∷ b ∷ []) fields h = absurd cc
read_is zero (a ∷ b ∷ c ∷ bytes) fields h = zero_is (continued_by a b) a b c bytes fields refl h (λ count k. read_is count bytes fields k)
read_is (suc left) (a ∷ b ∷ c ∷ bytes) fields h =
    let m = chained (λ f. option_map (λ fs. f ∷ fs) (fields_at left bytes)) (field_of a (word b c)) fields h in
    let t = mapped (λ fs. m.0 ∷ fs) (fields_at left bytes) fields m.2 in
    field_is a b c left bytes m.0 t.0 fields m.1 t.2 (read_is left bytes t.0 t.1)

pub description_is : (bytes : List ℕ) (fields : List Field) → descriptor_at bytes ≡ Some fields → Describes bytes fields
unfolding descriptor_at
description_is [] fields h = absurd cc
description_is (a ∷ []) fields h = absurd cc
description_is (a ∷ b ∷ []) fields h = absurd cc
description_is (size ∷ what ∷ identity ∷ bytes) fields h =
    let k = kept ((what == 0x76) && (identity == 0xD0)) (option_and_then (λ count. fields_at count bytes) (fields_within size)) fields h in
    let tests = and_both (what == 0x76) (identity == 0xD0) k.0 in
    let kind : what ≡ 0x76 = eqb-true what 0x76 tests.0 in
    let name : identity ≡ 0xD0 = eqb-true identity 0xD0 tests.1 in
    let m = chained (λ count. fields_at count bytes) (fields_within size) fields k.1 in
    let r = read_is m.0 bytes fields m.2 in
    let size_of : size ≡ 3 + 3 * m.0 = size_is size m.0 m.1 in
    let long : size ≡ 3 + length r.text = let t = three r.text r.here r.are in let c = r.count in omega arith in
    let head : size ∷ what ∷ identity ∷ r.text ≡ (3 + length r.text) ∷ 0x76 ∷ 0xD0 ∷ r.text =
    ap (λ (n : ℕ). n ∷ what ∷ identity ∷ r.text) long ∙ ap (λ (n : ℕ). (3 + length r.text) ∷ n ∷ identity ∷ r.text) kind ∙ ap (λ (n : ℕ). (3 + length r.text) ∷ 0x76 ∷ n ∷ r.text) name in
    (size ∷ what ∷ identity ∷ r.text, r.continued, r.behind, r.here, r.others, ap (λ (b : List ℕ). size ∷ what ∷ identity ∷ b) r.whole, (r.text, head, r.are), r.goes, r.all)

none_some : {A : Type 0} (o : Option A) (x : A) → o ≡ None → o ≡ Some x → ⊥
none_some o x e h = absurd cc

some_same : {A : Type 0} (o : Option A) (x y : A) → o ≡ Some x → o ≡ Some y → x ≡ y
some_same o x y e h = let both : Some x ≡ Some y = sym e ∙ h in cc

-- what the reader answers, by the relation
pub answer_is : (bytes : List ℕ) (result : Result (List Field) DescriptorFault) → GivesFields (descriptor_at bytes) result → ReadsDescriptor bytes result
answer_is bytes (Ok fields) h = (description_is bytes fields h.0, h.1)
answer_is bytes (Err Malformed) h = λ fields d. none_some (descriptor_at bytes) fields h (description_back bytes fields d)
answer_is bytes (Err TooManyFields) h = λ fields d. subst (λ (o : Option (List Field)). IfSome o (λ fs. 128 < length fs)) (description_back bytes fields d) h
answer_is bytes (Err NoMemory) h = λ fields d. subst (λ (o : Option (List Field)). IfSome o (λ fs. 16 < length fs)) (description_back bytes fields d) h

pub one_description : (bytes : List ℕ) (fields others : List Field) → Describes bytes fields → Describes bytes others → fields ≡ others
one_description bytes fields others h k = some_same (descriptor_at bytes) fields others (description_back bytes fields h) (description_back bytes others k)

pub one_pair : (descriptor row : List ℕ) (values others : List Value) → AreParameters descriptor row values → AreParameters descriptor row others → values ≡ others
one_pair descriptor row values others h k =
    let same : h.0 ≡ k.0 = one_description descriptor h.0 k.0 h.1 k.1 in
    one_row k.0 row values others (subst (λ (fields : List Field). IsRow fields row values) same h.2) k.2
