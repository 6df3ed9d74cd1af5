-- The frame law.
use Rattle.std.proofs.Common.{◌≡◌, inl, inr, ℕ, suc, List, [], ◌∷◌, refl, sym, ap, ◌∙◌, Option, Some, None, length}
use Rattle.std.specs.Prelude.{option_map, unwrap_or}
use Rattle.std.specs.Option.{option_to_list}
use Rattle.std.specs.Map.{keys_of, values_of}
use Rattle.sql_text.specs.declared.tree.Command.{Command}
use Rattle.row_values.specs.Value.{Value}
use Rattle.row_values.specs.Schema.{Schema}
use Rattle.tables.specs.Tables.{Store, Table, schema_of}
use Rattle.row_values.specs.Laws.{KeysAreOrdered}
use Rattle.unit_locks.specs.Claim.{Claim}
use Rattle.unit_locks.specs.declared.access.Access.{Access}
use Rattle.unit_locks.specs.declared.access.Access.TheVariants.{Write}
use Rattle.sql_semantics.specs.Scope.{All, Names, One, Scope, claim, claims, scope, scope_claims, star, statement_access, table_name}
use Rattle.sql_semantics.specs.Meaning.{answer}
use Rattle.sql_semantics.specs.Frame.{Agree, Covered, FrameLaw, In, claims_in, covered_answer, rows_covered, tables_covered}
use Rattle.sql_semantics.proofs.Covering.{covered_is_enough}

abbrev Covers : List Claim → Store → Store → Type 0
Covers cs s t = (c : Claim) → In c cs → Covered c s t

-- stores that agree on the claims of a scope show the same in it
same_rows : (w : Access) (n : List ℕ) (sc : Scope) (s t : Store) → Covers (scope_claims w n sc) s t → rows_covered sc n s ≡ rows_covered sc n t
same_rows w n Names s t h = refl
same_rows w n All s t h = ap (λ (o : Option Table). unwrap_or (option_map (λ (t : Table). values_of t.rows) o) []) (h (claim w n None) (inl refl)).rows
same_rows w n (One k) s t h = ap option_to_list ((h (claim w n (Some k)) (inl refl)).rows.1)

count : (s : Store) → length (keys_of s) ≡ length s
count [] = refl
count (e ∷ es) = ap suc (count es)

same_tables : (w : Access) (n : List ℕ) (sc : Scope) (s t : Store) → Covers (scope_claims w n sc) s t → tables_covered sc s ≡ tables_covered sc t
same_tables w n Names s t h =
    sym (count s) ∙ ap length ((h (claim Write star None) (inr (inl refl))).names refl) ∙ count t
same_tables w n All s t h = refl
same_tables w n (One k) s t h = refl

pub same_covered : (params : List Value) (left : ℕ) (c : Command) (s t : Store) → Agree (table_name c) (claims_in params c s) s t → covered_answer params left c s ≡ covered_answer params left c t
unfolding claims
same_covered params left c s t agree =
    let n = table_name c in
    let w = statement_access c (schema_of s n) in
    let sc = scope params c (schema_of s n) in
    ap (λ rows. answer params left c (schema_of s n) rows (tables_covered sc s)) (same_rows w n sc s t agree.covered)
    ∙ ap (answer params left c (schema_of s n) (rows_covered sc n t)) (same_tables w n sc s t agree.covered)
    ∙ ap (λ (q : Option Schema). answer params left c q (rows_covered (scope params c q) n t) (tables_covered (scope params c q) t)) agree.schema

pub frame_law : KeysAreOrdered → FrameLaw
frame_law ordered params left c s t good_s good_t agree = (
  ap (claims params c) agree.schema,
  covered_is_enough ordered params left c s good_s ∙ same_covered params left c s t agree ∙ sym (covered_is_enough ordered params left c t good_t),
)
