-- Values that were judged.
use Rattle.std.proofs.Common.{◌≡◌, ◌<◌, ◌-◌, ℕ, List, [], ◌∷◌, Bool, true, false, if◌then◌else◌, refl, sym, ap, ◌∙◌, length, take, drop, Option, Some, None, option_map, slice_index_or, arith}
use Rattle.std.proofs.lemmas.List.{take_all}
use Rattle.std.specs.Prelude.{IsSome, is_some}
use Rattle.std.specs.Option.{option_and_then}
use Rattle.std.specs.Str.{IsUtf8, is_utf8}
use Rattle.std.proofs.lemmas.Str.{IsUtf8-from_is_utf8}
use Rattle.row_values.specs.declared.column.Kind.{Kind}
use Rattle.row_values.specs.declared.column.Kind.TheVariants.{VarChar}
use Rattle.row_values.specs.Value.{Value, text}
use Rattle.row_values.specs.Column.{Column, fits}
use Rattle.row_values.specs.Row.{content_at, counted_at, typed_value_at, utf8_in, value_at}

kept_by : (b : Bool) (x : Value × List ℕ) → IsSome (if b then Some x else None) → Some x ≡ (if b then Some x else None)
kept_by true x h = refl
kept_by false x h = absurd cc

judged_by : (column : Column) (o : Option (Value × List ℕ)) → IsSome (option_and_then (λ x. if fits column x.0 then Some x else None) o) → o ≡ option_and_then (λ x. if fits column x.0 then Some x else None) o
judged_by column (Some x) h = kept_by (fits column x.0) x h
judged_by column None h = absurd cc

-- a value that is one of the column is one of its type
pub judged : (column : Column) (bytes : List ℕ) → IsSome (value_at column bytes) → typed_value_at column.kind bytes ≡ value_at column bytes
unfolding value_at
judged column bytes h = judged_by column (typed_value_at column.kind bytes) h

pub judged_type : (column : Column) (bytes : List ℕ) → IsSome (value_at column bytes) → IsSome (typed_value_at column.kind bytes)
judged_type column bytes h = ap is_some (judged column bytes h) ∙ h

utf8_by : (b : Bool) (content rest : List ℕ) → IsSome {T = Value × List ℕ} (option_map (λ (c : List ℕ). (text c, rest)) (if b then Some content else None)) → b ≡ true
utf8_by true content rest h = refl
utf8_by false content rest h = absurd cc

text_of_content : (bytes : List ℕ) (x : List ℕ × List ℕ) → Some x ≡ counted_at bytes → IsSome (content_at VarChar bytes) → is_utf8 x.0 ≡ true
text_of_content bytes x is h =
    utf8_by (is_utf8 x.0) x.0 x.1 (ap (λ (o : Option (List ℕ × List ℕ)). is_some {T = Value × List ℕ} (option_and_then (λ (y : List ℕ × List ℕ). option_map (λ (c : List ℕ). (text c, y.1)) (utf8_in y.0)) o)) is ∙ h)

marked : (mark : ℕ) (bytes : List ℕ) → mark ≡ 0 → typed_value_at VarChar (mark ∷ bytes) ≡ content_at VarChar bytes
marked mark bytes zero = rw zero refl

-- a text that was judged is UTF-8
pub judged_text : (kind : Kind) (bytes : List ℕ) (x : List ℕ × List ℕ) → kind ≡ VarChar → slice_index_or bytes 0 0 ≡ 0 → 0 < length bytes → Some x ≡ counted_at (take (length bytes - 1) (drop 1 bytes)) → IsSome (typed_value_at kind bytes) → IsUtf8 x.0
judged_text kind [] x type mark some is h = absurd (omega arith)
judged_text kind (m ∷ ms) x type mark some is h =
    let zero : m ≡ 0 = mark in
    let rest : take (length (m ∷ ms) - 1) ms ≡ ms = take_all (length (m ∷ ms) - 1) ms (omega arith) in
    IsUtf8-from_is_utf8 x.0 (text_of_content ms x (is ∙ ap counted_at rest) (ap is_some (sym (marked m ms zero)) ∙ ap (λ (k : Kind). is_some (typed_value_at k (m ∷ ms))) (sym type) ∙ h))
