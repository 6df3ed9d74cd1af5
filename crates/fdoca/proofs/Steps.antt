-- One step of the reader over a descriptor, and over a row.
use Rattle.std.proofs.Common.{◌≡◌, ℕ, zero, suc, ◌+◌, ◌-◌, ◌<◌, ◌≤◌, List, [], ◌∷◌, ◌++◌, Bool, true, false, if◌then◌else◌, refl, sym, ap, subst, ◌∙◌, length, take, drop, arith, Option, Some, None, option_map, append_assoc, append-nil, length-append, add-one}
use Rattle.std.specs.Prelude.{IfSome, bytes_eq}
use Rattle.std.specs.List.{slice_get}
use Rattle.std.specs.Option.{option_and_then}
use Rattle.drda_words.specs.Number.{word}
use Rattle.drda_words.proofs.Precedes.{same_bytes}
use Rattle.row_values.specs.Value.{Value}
use Rattle.fdoca.specs.declared.field.Field.{Field}
use Rattle.fdoca.specs.Types.{field_of}
use Rattle.fdoca.specs.Descriptor.{closing}
use Rattle.fdoca.specs.Reading.{closes, continued_at, continued_by, field_at, fields_at, goes_on, value_at, values_at}

-- ---- a descriptor

-- what is read behind the fields so far
abbrev pub behind_fields : List Field → Option (List Field) → Option (List Field)
behind_fields seen more = option_map (λ fields. seen ++ fields) more

field_by : (o : Option Field) (n : ℕ) (bytes behind : List ℕ) (field : Field) → option_map {U = Field × List ℕ} (λ f. (f, bytes)) o ≡ Some (field, behind)
    → option_and_then (λ f. option_map (λ fields. f ∷ fields) (fields_at n bytes)) o ≡ option_map (λ fields. field ∷ fields) (fields_at n behind)
field_by None n bytes behind field h = absurd cc
field_by (Some f) n bytes behind field h =
    let both : (f, bytes) ≡ (field, behind) = cc in
    ap (λ (p : Field × List ℕ). option_map (λ fields. p.0 ∷ fields) (fields_at n p.1)) both

field_first : (n : ℕ) (rest behind : List ℕ) (field : Field) → field_at rest ≡ Some (field, behind) → fields_at (suc n) rest ≡ option_map (λ fields. field ∷ fields) (fields_at n behind)
unfolding field_at
field_first n [] behind field h = absurd cc
field_first n (a ∷ []) behind field h = absurd cc
field_first n (a ∷ b ∷ []) behind field h = absurd cc
field_first n (a ∷ b ∷ c ∷ bytes) behind field h = field_by (field_of a (word b c)) n bytes behind field h

nested : (seen : List Field) (field : Field) (o : Option (List Field)) → behind_fields (seen ++ field ∷ []) o ≡ behind_fields seen (option_map (λ fields. field ∷ fields) o)
nested seen field None = refl
nested seen field (Some fields) = ap (λ (l : List Field). Some l) (append_assoc seen (field ∷ []) fields)

pub field_step : (left : ℕ) (seen now : List Field) (field : Field) (rest behind : List ℕ) (whole : Option (List Field)) → 0 < left → Some (field, behind) ≡ field_at rest → now ≡ seen ++ field ∷ []
    → behind_fields seen (fields_at left rest) ≡ whole → behind_fields now (fields_at (left - 1) behind) ≡ whole
field_step zero seen now field rest behind whole some is same h = absurd (omega arith)
field_step (suc n) seen now field rest behind whole some is same h =
    let less : suc n - 1 ≡ n = omega arith in
    ap (λ (k : ℕ). behind_fields now (fields_at k behind)) less
    ∙ ap (λ (l : List Field). behind_fields l (fields_at n behind)) same
    ∙ nested seen field (fields_at n behind)
    ∙ ap (behind_fields seen) (sym (field_first n rest behind field (sym is)))
    ∙ h

none_by : (o : Option Field) (n : ℕ) (bytes : List ℕ) → option_map {U = Field × List ℕ} (λ f. (f, bytes)) o ≡ None → option_and_then (λ f. option_map (λ fields. f ∷ fields) (fields_at n bytes)) o ≡ None
none_by None n bytes h = refl
none_by (Some f) n bytes h = absurd cc

no_field : (n : ℕ) (rest : List ℕ) → field_at rest ≡ None → fields_at (suc n) rest ≡ None
unfolding field_at
no_field n [] h = refl
no_field n (a ∷ []) h = refl
no_field n (a ∷ b ∷ []) h = refl
no_field n (a ∷ b ∷ c ∷ bytes) h = none_by (field_of a (word b c)) n bytes h

pub field_none : (left : ℕ) (seen : List Field) (rest : List ℕ) (whole : Option (List Field)) → 0 < left → None ≡ field_at rest → behind_fields seen (fields_at left rest) ≡ whole → whole ≡ None
field_none zero seen rest whole some is h = absurd (omega arith)
field_none (suc n) seen rest whole some is h = sym h ∙ ap (behind_fields seen) (no_field n rest (sym is))

longer : (seen : List Field) (field : Field) (o whole : Option (List Field)) (n : ℕ) → n ≤ length seen → behind_fields (seen ++ field ∷ []) o ≡ whole → IfSome whole (λ fields. n < length fields)
longer seen field None whole n le h = subst (λ (w : Option (List Field)). IfSome w (λ fields. n < length fields)) h tt
longer seen field (Some more) whole n le h =
    let one = length-append (seen ++ field ∷ []) more in
    let two = length-append seen (field ∷ []) in
    subst (λ (w : Option (List Field)). IfSome w (λ fields. n < length fields)) h (omega arith)

head_by : (o : Option ℕ) (bytes behind : List ℕ) (count : ℕ) (otherwise : Option (List Field)) → option_map {U = ℕ × List ℕ} (λ n. (n, bytes)) o ≡ Some (count, behind) → goes_on o (λ n. fields_at n bytes) otherwise ≡ fields_at count behind
head_by None bytes behind count otherwise h = absurd cc
head_by (Some n) bytes behind count otherwise h =
    let both : (n, bytes) ≡ (count, behind) = cc in
    ap (λ (p : ℕ × List ℕ). fields_at p.0 p.1) both

head_first : (rest behind : List ℕ) (count : ℕ) → continued_at rest ≡ Some (count, behind) → fields_at zero rest ≡ fields_at count behind
unfolding continued_at
head_first [] behind count h = absurd cc
head_first (a ∷ []) behind count h = absurd cc
head_first (a ∷ b ∷ []) behind count h = absurd cc
head_first (a ∷ b ∷ c ∷ bytes) behind count h = head_by (continued_by a b) bytes behind count (closes (a ∷ b ∷ c ∷ bytes)) h

pub head_step : (left count : ℕ) (seen : List Field) (rest behind : List ℕ) (whole : Option (List Field)) → left ≤ 0 → Some (count, behind) ≡ continued_at rest
    → behind_fields seen (fields_at left rest) ≡ whole → behind_fields seen (fields_at count behind) ≡ whole
head_step zero count seen rest behind whole none is h = ap (behind_fields seen) (sym (head_first rest behind count (sym is))) ∙ h
head_step (suc n) count seen rest behind whole none is h = absurd (omega arith)

end_by : (o : Option ℕ) (bytes : List ℕ) (otherwise : Option (List Field)) → option_map {U = ℕ × List ℕ} (λ n. (n, bytes)) o ≡ None → goes_on o (λ n. fields_at n bytes) otherwise ≡ otherwise
end_by None bytes otherwise h = refl
end_by (Some n) bytes otherwise h = absurd cc

abbrev no_more : Option (List Field)
no_more = None

not_by : (b : Bool) (bytes : List ℕ) → bytes_eq closing (take 6 bytes) ≡ b → (take 6 bytes ≡ closing → ⊥) → no_more ≡ (if b then Some [] else None)
not_by true bytes is other = absurd (other (sym (same_bytes closing (take 6 bytes) is)))
not_by false bytes is other = refl

not_closing : (bytes : List ℕ) → (take 6 bytes ≡ closing → ⊥) → None ≡ closes bytes
not_closing bytes other = not_by (bytes_eq closing (take 6 bytes)) bytes refl other

at_end : (rest : List ℕ) → continued_at rest ≡ None → fields_at zero rest ≡ closes rest
unfolding continued_at
at_end [] h = refl
at_end (a ∷ []) h = not_closing (a ∷ []) (λ e. cc)
at_end (a ∷ b ∷ []) h = not_closing (a ∷ b ∷ []) (λ e. cc)
at_end (a ∷ b ∷ c ∷ bytes) h = end_by (continued_by a b) bytes (closes (a ∷ b ∷ c ∷ bytes)) h

closes_by : (b : Bool) (seen : List Field) (whole : Option (List Field)) → behind_fields seen (if b then Some [] else None) ≡ whole → (b ≡ true → whole ≡ Some seen) × (b ≡ false → whole ≡ None)
closes_by true seen whole h = (λ e. sym h ∙ ap (λ (l : List Field). Some l) (append-nil seen), λ e. absurd cc)
closes_by false seen whole h = (λ e. absurd cc, λ e. sym h)

pub closed : (left : ℕ) (seen : List Field) (rest : List ℕ) (whole : Option (List Field)) → left ≤ 0 → None ≡ continued_at rest
    → behind_fields seen (fields_at left rest) ≡ whole → (bytes_eq closing (take 6 rest) ≡ true → whole ≡ Some seen) × (bytes_eq closing (take 6 rest) ≡ false → whole ≡ None)
closed zero seen rest whole none is h = closes_by (bytes_eq closing (take 6 rest)) seen whole (ap (behind_fields seen) (sym (at_end rest (sym is))) ∙ h)
closed (suc n) seen rest whole none is h = absurd (omega arith)

-- ---- a row

drop_from : {X : Type 0} (xs : List X) (i : ℕ) (x : X) → slice_get xs i ≡ Some x → drop i xs ≡ x ∷ drop (suc i) xs
drop_from [] i x h = absurd cc
drop_from (y ∷ ys) zero x h = let same : y ≡ x = cc in rw same refl
drop_from (y ∷ ys) (suc i) x h = drop_from ys i x h

pub drop_at : {X : Type 0} (xs : List X) (i : ℕ) (x : X) → slice_get xs i ≡ Some x → drop i xs ≡ x ∷ drop (i + 1) xs
drop_at xs i x h = rw add-one (drop_from xs i x h)

-- what is read behind the values so far
abbrev pub behind_values : List Value → Option (List Value) → Option (List Value)
behind_values seen more = option_map (λ values. seen ++ values) more

nested_values : (seen : List Value) (value : Value) (o : Option (List Value)) → behind_values (seen ++ value ∷ []) o ≡ behind_values seen (option_map (λ values. value ∷ values) o)
nested_values seen value None = refl
nested_values seen value (Some values) = ap (λ (l : List Value). Some l) (append_assoc seen (value ∷ []) values)

pub value_step : (fields : List Field) (i : ℕ) (field : Field) (seen now : List Value) (value : Value) (rest behind : List ℕ) (whole : Option (List Value)) → slice_get fields i ≡ Some field
    → Some (value, behind) ≡ value_at field rest → now ≡ seen ++ value ∷ [] → behind_values seen (values_at (drop i fields) rest) ≡ whole → behind_values now (values_at (drop (i + 1) fields) behind) ≡ whole
value_step fields i field seen now value rest behind whole at is same h =
    ap (λ (l : List Value). behind_values l (values_at (drop (i + 1) fields) behind)) same
    ∙ nested_values seen value (values_at (drop (i + 1) fields) behind)
    ∙ ap (λ (o : Option (Value × List ℕ)). behind_values seen (option_and_then (λ (x : Value × List ℕ). option_map (λ vs. x.0 ∷ vs) (values_at (drop (i + 1) fields) x.1)) o)) is
    ∙ ap (λ (fs : List Field). behind_values seen (values_at fs rest)) (sym (drop_at fields i field at))
    ∙ h
