-- What a text is answered, by its length and whether it is UTF-8.
use Rattle.std.proofs.Common.{◌≡◌, ◌≤◌, ℕ, Bool, true, false, List, length, nat_lt, refl, sym, ap, ◌∙◌, subst, arith, Option, Err}
use Rattle.std.specs.Prelude.{IfSome, option_map}
use Rattle.std.specs.Str.{IsUtf8, is_utf8}
use Rattle.std.proofs.lemmas.Bool.Decides.{nat_tests}
use Rattle.std.proofs.lemmas.Str.{is_utf8-from_IsUtf8, IsUtf8-from_is_utf8}
use Rattle.sql_text.specs.Text.{but_memory, reading}
use Rattle.sql_text.specs.declared.error.SqlError.{SqlError}
use Rattle.sql_text.specs.declared.error.SqlError.TheVariants as error
use Rattle.core_calls.specs.declared.sql_fault.SqlFault.{SqlFault}
use Rattle.core_calls.specs.declared.sql_fault.SqlFault.TheVariants as fault
use Rattle.command_kit.specs.Text.{statement_of, text_fault, told}

not_true : (b : Bool) → (b ≡ true → ⊥) → b ≡ false
not_true true h = absurd (h refl)
not_true false h = refl

not_long : (n : ℕ) → n ≤ 32767 → nat_lt 32767 n ≡ false
not_long n short = grind (arith, nat_tests)

pub not_utf8 : (text : List ℕ) → length text ≤ 32767 → (IsUtf8 text → ⊥) → statement_of text ≡ Err fault.Syntax
not_utf8 text short bad =
    let fits = not_long (length text) short in
    let none : is_utf8 text ≡ false = not_true (is_utf8 text) (λ is. bad (IsUtf8-from_is_utf8 text is)) in
    rw (fits, none) refl

pub is_read : (text : List ℕ) → length text ≤ 32767 → IsUtf8 text → statement_of text ≡ told (reading text)
is_read text short good =
    let fits = not_long (length text) short in
    let some = is_utf8-from_IsUtf8 text good in
    rw (fits, some) refl

-- a refusal of the reader, unless memory was wanting
pub refused_as : (text : List ℕ) (e : SqlError) (o : Option SqlFault) → o ≡ option_map text_fault (but_memory e) → statement_of text ≡ told (reading text) → IfSome (but_memory e) (λ f. reading text ≡ Err f) → IfSome o (λ f. statement_of text ≡ Err f)
refused_as text (error.SqlText at) o is read said = subst (λ (p : Option SqlFault). IfSome p (λ f. statement_of text ≡ Err f)) (sym is) (read ∙ ap told said)
refused_as text error.Limit o is read said = subst (λ (p : Option SqlFault). IfSome p (λ f. statement_of text ≡ Err f)) (sym is) (read ∙ ap told said)
refused_as text error.KeyUnknown o is read said = subst (λ (p : Option SqlFault). IfSome p (λ f. statement_of text ≡ Err f)) (sym is) (read ∙ ap told said)
refused_as text error.NoMemory o is read said = subst (λ (p : Option SqlFault). IfSome p (λ f. statement_of text ≡ Err f)) (sym is) tt
