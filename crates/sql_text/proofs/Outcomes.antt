-- What a parser gives, by its parts.
use Rattle.std.proofs.Common.{◌≡◌, List, refl, ap, Ok, Err}
use Rattle.sql_lex.specs.Tokens.{Lexeme}
use Rattle.sql_text.specs.Reading.{Parser, Parsed, and_then}

pub bind_ok : {A B : Type 0} (o : Parsed A) (f : A → Parser B) (y : B) (rest : List Lexeme) → and_then o f ≡ Ok (y, rest) → (x : A × List Lexeme) × (o ≡ Ok x) × (f x.0 x.1 ≡ Ok (y, rest))
bind_ok (Ok x) f y rest e = (x, refl, e)
bind_ok (Err e') f y rest e = absurd (cc)

pub ok_parts : {A : Type 0} (p q : A × List Lexeme) (o : Parsed A) → o ≡ Ok p → o ≡ Ok q → (p.0 ≡ q.0) × (p.1 ≡ q.1)
ok_parts {A} p q o e f = let same : p ≡ q = cc in (ap (λ (r : A × List Lexeme). r.0) same, ap (λ (r : A × List Lexeme). r.1) same)
