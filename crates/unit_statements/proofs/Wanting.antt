-- Which rows the one claim of a statement asks for.
use Rattle.std.proofs.Common.{◌≡◌, ◌≤◌, ◌<◌, ◌∙◌, ℕ, Bool, true, false, List, [], ◌∷◌, Option, None, length, get_or, refl, sym, ap, arith, if◌then◌else◌}
use Rattle.std.specs.Str.{IsUtf8, is_utf8}
use Rattle.std.proofs.lemmas.Str.{is_utf8-from_IsUtf8, IsUtf8-from_is_utf8}
use Rattle.sql_text.specs.declared.tree.Command.{Command}
use Rattle.unit_locks.specs.Claim.{Claim}
use Rattle.unit_statements.specs.Sight.{asked_by, looks_through, within_claim}

pub one_only : (claims : List Claim) (first : Claim) → 1 ≤ length claims → length claims < 2 → first ≡ get_or claims 0 first → claims ≡ first ∷ []
one_only [] first some few is = absurd (omega (arith, some))
one_only (claim ∷ []) first some few is = ap (λ (c : Claim). c ∷ []) (sym is)
one_only (claim ∷ other ∷ claims) first some few is = absurd (omega (arith, few))

pub asked_when : (command : Command) (claims : List Claim) (first : Claim) (table : List ℕ) (key : Option (List ℕ)) (asked : Option (List ℕ × Option (List ℕ))) → claims ≡ first ∷ [] → IsUtf8 first.table → table ≡ first.table → key ≡ first.key
    → within_claim (looks_through command) table key ≡ asked → asked ≡ asked_by command claims
asked_when command claims first table key asked one utf8 its_table its_key within =
    sym (ap (asked_by command) one
    ∙ ap (λ (b : Bool). if b then within_claim (looks_through command) first.table first.key else None) (is_utf8-from_IsUtf8 first.table utf8)
    ∙ ap (λ (t : List ℕ). within_claim (looks_through command) t first.key) (sym its_table)
    ∙ ap (within_claim (looks_through command) table) (sym its_key)
    ∙ within)

no_text : (command : Command) (first : Claim) (b : Bool) → is_utf8 first.table ≡ b → (IsUtf8 first.table → ⊥) → (if b then within_claim (looks_through command) first.table first.key else None) ≡ None
no_text command first true is none = absurd (none (IsUtf8-from_is_utf8 first.table is))
no_text command first false is none = refl

pub not_asked : (command : Command) (claims : List Claim) (first : Claim) → claims ≡ first ∷ [] → (IsUtf8 first.table → ⊥) → None ≡ asked_by command claims
not_asked command claims first one none = sym (ap (asked_by command) one ∙ no_text command first (is_utf8 first.table) refl none)
