-- Rows: what is a row is read, and what is read is a row.
use Rattle.std.proofs.Common.{◌≡◌, ℕ, List, [], ◌∷◌, Bool, true, false, if◌then◌else◌, refl, sym, ap, subst, ◌∙◌, Option, Some, None, option_map, Result, Ok, Err, eqb-true}
use Rattle.std.specs.Prelude.{◌==◌}
use Rattle.std.specs.Option.{option_and_then}
use Rattle.row_values.specs.Value.{Value}
use Rattle.fdoca.specs.declared.fault.DescriptorFault.{DescriptorFault}
use Rattle.fdoca.specs.declared.fault.DescriptorFault.TheVariants.{Malformed, TooManyFields, NoMemory}
use Rattle.fdoca.specs.declared.field.Field.{Field}
use Rattle.fdoca.specs.Row.{AreValues, IsRow}
use Rattle.fdoca.specs.Reading.{row_at, value_at, values_at}
use Rattle.fdoca.specs.Calls.{GivesValues, ReadsRow}
use Rattle.fdoca.proofs.Contents.{chained, mapped, value_back, value_is}

pub values_back : (fields : List Field) (bytes : List ℕ) (values : List Value) → AreValues fields bytes values → values_at fields bytes ≡ Some values
values_back [] bytes [] h = ap (values_at []) h
values_back [] bytes (value ∷ values) h = absurd h
values_back (field ∷ fields) bytes [] h = absurd h
values_back (field ∷ fields) bytes (value ∷ values) h =
    ap (values_at (field ∷ fields)) h.2
    ∙ ap (option_and_then (λ (x : Value × List ℕ). option_map (λ vs. x.0 ∷ vs) (values_at fields x.1))) (value_back field h.0 h.1 value h.3)
    ∙ ap (option_map (λ vs. value ∷ vs)) (values_back fields h.1 values h.4)

pub values_is : (fields : List Field) (bytes : List ℕ) (values : List Value) → values_at fields bytes ≡ Some values → AreValues fields bytes values
values_is [] [] values h = let none : [] ≡ values = cc in subst (λ (vs : List Value). AreValues [] [] vs) none refl
values_is [] (byte ∷ bytes) values h = absurd cc
values_is (field ∷ fields) bytes values h =
    let m = chained (λ (x : Value × List ℕ). option_map (λ vs. x.0 ∷ vs) (values_at fields x.1)) (value_at field bytes) values h in
    let t = mapped (λ (vs : List Value). m.0.0 ∷ vs) (values_at fields m.0.1) values m.2 in
    let v = value_is field bytes m.0 m.1 in
    let r = values_is fields m.0.1 t.0 t.1 in
    subst (λ (vs : List Value). AreValues (field ∷ fields) bytes vs) t.2 (v.0, m.0.1, v.1, v.2, r)

pub row_back : (fields : List Field) (bytes : List ℕ) (values : List Value) → IsRow fields bytes values → row_at fields bytes ≡ Some values
unfolding row_at
row_back fields bytes values h = ap (row_at fields) h.1 ∙ values_back fields h.0 values h.2

row_cases : (b : Bool) (fields : List Field) (mark : ℕ) (bytes : List ℕ) (values : List Value) → (mark == 0x00) ≡ b → (if b then values_at fields bytes else None) ≡ Some values → IsRow fields (mark ∷ bytes) values
row_cases true fields mark bytes values is h = (bytes, ap (λ (k : ℕ). k ∷ bytes) (eqb-true mark 0x00 is), values_is fields bytes values h)
row_cases false fields mark bytes values is h = absurd cc

pub row_is : (fields : List Field) (bytes : List ℕ) (values : List Value) → row_at fields bytes ≡ Some values → IsRow fields bytes values
unfolding row_at
row_is fields [] values h = absurd cc
row_is fields (mark ∷ bytes) values h = row_cases (mark == 0x00) fields mark bytes values refl h

none_some : {A : Type 0} (o : Option A) (x : A) → o ≡ None → o ≡ Some x → ⊥
none_some o x e h = absurd cc

some_same : {A : Type 0} (o : Option A) (x y : A) → o ≡ Some x → o ≡ Some y → x ≡ y
some_same o x y e h = let both : Some x ≡ Some y = sym e ∙ h in cc

-- what the reader answers, by the relation
pub answer_is : (fields : List Field) (bytes : List ℕ) (result : Result (List Value) DescriptorFault) → GivesValues fields (row_at fields bytes) result → ReadsRow fields bytes result
answer_is fields bytes (Ok values) h = row_is fields bytes values h
answer_is fields bytes (Err Malformed) h = λ values row. none_some (row_at fields bytes) values h (row_back fields bytes values row)
answer_is fields bytes (Err TooManyFields) h = h
answer_is fields bytes (Err NoMemory) h = h

pub one_row : (fields : List Field) (bytes : List ℕ) (values others : List Value) → IsRow fields bytes values → IsRow fields bytes others → values ≡ others
one_row fields bytes values others h k = some_same (row_at fields bytes) values others (row_back fields bytes values h) (row_back fields bytes others k)
