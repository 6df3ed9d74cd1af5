-- A text's bytes are UTF-8 where the text around it is.
use Rattle.std.proofs.Common.{◌≡◌, ℕ, ◌+◌, ◌-◌, ◌<◌, List, [], ◌∷◌, ◌++◌, length, drop, slice_index, refl, sym, ap, ◌∙◌, subst, arith, length-append, length-drop}
use Rattle.std.proofs.lemmas.List.{get_or-drop}
use Rattle.std.specs.Str.{IsUtf8}
use Rattle.std.proofs.lemmas.Str.{IsUtf8-drop, IsUtf8-take, IsCharBoundary-before_ascii, IsCharBoundary-after_ascii}
use Rattle.std.proofs.Math.Seq.{take-append_seam}
use Rattle.sql_lex.specs.Spelling.{IsSpelled, AllSpelled, IsReadable, AllReadable}
use Rattle.sql_lex.specs.Tokens.{Lexeme, tokens}
use Rattle.sql_lex.specs.declared.token.Token.{Token}
use Rattle.sql_lex.specs.declared.token.Token.TheVariants as t
use Rattle.sql_lex.proofs.Spelled.{all_spelled}

at_seam : (v rest : List ℕ) (q : ℕ) → slice_index (v ++ q ∷ rest) (length v) ≡ q
at_seam [] rest q = refl
at_seam (b ∷ v) rest q = at_seam v rest q

-- the bytes between two quotes
within : (z v rest : List ℕ) → IsUtf8 z → z ≡ 39 ∷ (v ++ 39 ∷ rest) → IsUtf8 v
within z v rest u same =
    let quoted : IsUtf8 (39 ∷ (v ++ 39 ∷ rest)) = subst IsUtf8 same u in
    let all = 39 ∷ (v ++ 39 ∷ rest) in
    let first : 0 < length all = omega arith in
    let ascii : slice_index all 0 < 128 = omega arith in
    let inner : IsUtf8 (v ++ 39 ∷ rest) = IsUtf8-drop all 1 quoted (IsCharBoundary-after_ascii all 0 quoted first ascii) in
    let below : length v < length (v ++ 39 ∷ rest) = omega (arith, length-append v (39 ∷ rest)) in
    let quote : slice_index (v ++ 39 ∷ rest) (length v) < 128 = omega (arith, at_seam v rest 39) in
    subst IsUtf8 (take-append_seam v (39 ∷ rest)) (IsUtf8-take (v ++ 39 ∷ rest) (length v) inner (IsCharBoundary-before_ascii (v ++ 39 ∷ rest) (length v) below quote))

-- from a quote on a text is UTF-8
from_quote : (text rest : List ℕ) (k : ℕ) → IsUtf8 text → drop k text ≡ 39 ∷ rest → IsUtf8 (drop k text)
from_quote text rest k u same =
    let some : k < length text = begun text k rest same in
    let first : slice_index text k ≡ 39 = at_start text k rest same in
    let ascii : slice_index text k < 128 = omega arith in
    IsUtf8-drop text k u (IsCharBoundary-before_ascii text k some ascii)
  where
    begun : (z : List ℕ) (k : ℕ) (rest : List ℕ) → drop k z ≡ 39 ∷ rest → k < length z
    begun z k rest e = let n = ap length e in omega (arith, length-drop k z)

    at_start : (z : List ℕ) (k : ℕ) (rest : List ℕ) → drop k z ≡ 39 ∷ rest → slice_index z k ≡ 39
    at_start z k rest e = let i : k + 0 ≡ k = omega arith in ap (λ n. slice_index z n) (sym i) ∙ sym (get_or-drop k z 0 0) ∙ ap (λ u. slice_index u 0) e

readable : (text : List ℕ) (k : ℕ) (tok : Token) → IsUtf8 text → IsSpelled (drop k text) tok → IsReadable tok
readable text k (t.Text v) u (whole, rest, d, same, single) = within (drop k text) v rest (from_quote text (v ++ 39 ∷ rest) k u same) same
readable text k _ u s = tt

readable_all : (text : List ℕ) (ts : List Lexeme) → IsUtf8 text → AllSpelled text ts → AllReadable ts
readable_all text [] u s = tt
readable_all text (l ∷ ts) u (s, more) = (readable text (length text - l.0) l.1 u s, readable_all text ts u more)

pub all_readable : (text : List ℕ) → IsUtf8 text → AllReadable (tokens text)
all_readable text u = readable_all text (tokens text) u (all_spelled text)
