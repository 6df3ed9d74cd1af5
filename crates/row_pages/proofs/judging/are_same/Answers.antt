-- Schemas with the same columns and the same key are the same one.
use Rattle.std.proofs.Common.{◌≡◌, ◌==◌, ◌&&◌, List, [], ◌∷◌, Bool, true, false, refl, sym, ◌∙◌, map}
use Rattle.std.specs.Prelude.{bytes_eq}
use Rattle.std.specs.String.{string_bytes}
use Rattle.std.proofs.lemmas.Bool.{eqb-true}
use Rattle.std.proofs.lemmas.Slice.Eq.{bytes_eq-Decides}
use mathlib.Core.Bool.{beq}
use lib.Pointwise.{pointwise}
use Rattle.row_values.specs.Column.{column_of}
use Rattle.row_values.specs.declared.column.Kind.{Kind}
use Rattle.row_values.specs.declared.column.Kind.TheVariants.{SmallInt, Integer, BigInt, VarChar, VarBinary}
use Rattle.row_values.specs.declared.column.Column.{Column as CodeColumn}
use Rattle.row_values.specs.contracts.column.ColumnPartialEq.TheImpl as columns
use Rattle.row_values.specs.contracts.column.KindPartialEq.TheImpl as kinds
use Rattle.row_values.proofs.ValueLaws.{first_true, second_true}
use Rattle.row_pages.proofs.judging.are_same.Goals as goal

same_kind : (a b : Kind) → kinds.eq-value.it a b ≡ true → a ≡ b
same_kind SmallInt SmallInt h = refl
same_kind Integer Integer h = refl
same_kind BigInt BigInt h = refl
same_kind VarChar VarChar h = refl
same_kind VarBinary VarBinary h = refl
same_kind a b h = absurd cc

same_bool : (a b : Bool) → beq a b ≡ true → a ≡ b
same_bool true true h = refl
same_bool false false h = refl
same_bool true false h = absurd cc
same_bool false true h = absurd cc

same_column : (a b : CodeColumn) → columns.eq-value.it a b ≡ true → column_of a ≡ column_of b
same_column a b h =
    let names = bytes_eq (string_bytes a.name) (string_bytes b.name) in
    let k = kinds.eq-value.it a.kind b.kind in
    let u = beq a.is_nullable b.is_nullable in
    let l = a.length == b.length in
    let name = (bytes_eq-Decides (string_bytes a.name) (string_bytes b.name)).0 (first_true names (k && (u && l)) h) in
    let rest = second_true names (k && (u && l)) h in
    let kind = same_kind a.kind b.kind (first_true k (u && l) rest) in
    let more = second_true k (u && l) rest in
    let nullable = same_bool a.is_nullable b.is_nullable (first_true u l more) in
    let limit = eqb-true a.length b.length (second_true u l more) in
    λ i. record { name = name i; kind = kind i; is_nullable = nullable i; limit = limit i }

same_columns : (xs ys : List CodeColumn) → pointwise columns.eq-value.it xs ys ≡ true → map column_of xs ≡ map column_of ys
same_columns [] [] h = refl
same_columns [] (y ∷ ys) h = absurd cc
same_columns (x ∷ xs) [] h = absurd cc
same_columns (x ∷ xs) (y ∷ ys) h =
    let one = same_column x y (first_true (columns.eq-value.it x y) (pointwise columns.eq-value.it xs ys) h) in
    let more = same_columns xs ys (second_true (columns.eq-value.it x y) (pointwise columns.eq-value.it xs ys) h) in
    λ i. one i ∷ more i

pub returns-then-eq : goal.returns-then-eq
returns-then-eq c same =
    let cols = sym c.columns.ensures.columns ∙ same_columns c.columns.result.now c.columns-2.result.now (sym c.if-eq.ensures) ∙ c.columns-2.ensures.columns in
    let keys = sym c.key.ensures.key ∙ (bytes_eq-Decides c.key.result.now c.key-then-eq.result.now).0 (sym c.eq-then-eq.ensures ∙ same) ∙ c.key-then-eq.ensures.key in
    λ i. record { columns = cols i; key = keys i }
