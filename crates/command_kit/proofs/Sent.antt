-- What a descriptor and a row are read as is what they are.
use Rattle.std.proofs.Common.{◌≡◌, ◌<◌, ◌≤◌, ◌∙◌, ℕ, Bool, true, false, List, length, nat_le, Option, Some, None, Result, Ok, Err, refl, sym, ap, subst, arith, if◌then◌else◌}
use Rattle.std.specs.Option.{option_and_then}
use Rattle.std.proofs.lemmas.Bool.Decides.{nat_tests}
use Rattle.row_values.specs.Value.{Value}
use Rattle.fdoca.specs.Calls.{ReadsDescriptor, ReadsRow, most_fields}
use Rattle.fdoca.specs.Laws.{DescriptorIsFound, FoundIsDescriptor, FoundIsRow, RowIsFound}
use Rattle.fdoca.specs.Reading.{descriptor_at, row_at}
use Rattle.fdoca.specs.declared.fault.DescriptorFault.{DescriptorFault}
use Rattle.fdoca.specs.declared.fault.DescriptorFault.TheVariants.{Malformed, TooManyFields, NoMemory}
use Rattle.fdoca.specs.declared.field.Field.{Field}
use Rattle.command_kit.specs.Text.{row_of}
use Rattle.command_kit.specs.Values.{GivesValues}

-- the row of these fields, if they are few
abbrev pub row_in : List ℕ → Option (List Field) → Option (List Value)
row_in row found = option_and_then (λ fields. if nat_le (length fields) most_fields then row_at fields row else None) found

many : (fields : List Field) → most_fields < length fields → nat_le (length fields) most_fields ≡ false
many fields more = grind (arith, nat_tests)

few : (fields : List Field) → length fields ≤ most_fields → nat_le (length fields) most_fields ≡ true
few fields less = grind (arith, nat_tests)

none_where : (description row : List ℕ) → ((fields : List Field) → descriptor_at description ≡ Some fields → nat_le (length fields) most_fields ≡ false) → (o : Option (List Field)) → descriptor_at description ≡ o → row_in row o ≡ None
none_where description row h None is = refl
none_where description row h (Some fields) is = ap (λ (b : Bool). if b then row_at fields row else None) (h fields is)

-- bytes that are no descriptor of at most 128 fields
pub not_described : FoundIsDescriptor → (description row : List ℕ) (fault : DescriptorFault) (r : Result (List Value) DescriptorFault) → ReadsDescriptor description (Err fault) → r ≡ Err fault → GivesValues (row_of (Some description) (Some row)) r
not_described law description row Malformed r h is =
    subst (λ (x : Result (List Value) DescriptorFault). GivesValues (row_of (Some description) (Some row)) x) (sym is)
    (none_where description row (λ fields found. absurd (h fields (law description fields found))) (descriptor_at description) refl)
not_described law description row TooManyFields r h is =
    subst (λ (x : Result (List Value) DescriptorFault). GivesValues (row_of (Some description) (Some row)) x) (sym is)
    (none_where description row (λ fields found. many fields (h fields (law description fields found))) (descriptor_at description) refl)
not_described law description row NoMemory r h is =
    subst (λ (x : Result (List Value) DescriptorFault). GivesValues (row_of (Some description) (Some row)) x) (sym is) tt

no_row : FoundIsRow → (fields : List Field) (row : List ℕ) (o : Option (List Value)) → row_at fields row ≡ o → ReadsRow fields row (Err Malformed) → o ≡ None
no_row law fields row None is h = refl
no_row law fields row (Some values) is h = absurd (h values (law fields row values is))

-- the row of a descriptor
pub row_read : DescriptorIsFound → RowIsFound → FoundIsRow → (description row : List ℕ) (fields : List Field) (r : Result (List Value) DescriptorFault) → ReadsDescriptor description (Ok fields) → ReadsRow fields row r → GivesValues (row_of (Some description) (Some row)) r
row_read law rows values description row fields (Ok vs) h read =
    ap (row_in row) (law description fields h.0) ∙ ap (λ (b : Bool). if b then row_at fields row else None) (few fields h.1) ∙ rows fields row vs read
row_read law rows values description row fields (Err Malformed) h read =
    ap (row_in row) (law description fields h.0) ∙ ap (λ (b : Bool). if b then row_at fields row else None) (few fields h.1) ∙ no_row values fields row (row_at fields row) refl read
row_read law rows values description row fields (Err TooManyFields) h read = absurd read
row_read law rows values description row fields (Err NoMemory) h read = tt
