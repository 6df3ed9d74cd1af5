-- Why a text is refused.
use Rattle.std.proofs.Common.{◌≡◌, inl, inr, ◌⊎◌, ℕ, suc, ◌≤◌, ◌<◌, ◌-◌, List, [], ◌++◌, length, Ok, Err, Result, IfErr, refl, ap, subst, arith}
use Rattle.std.proofs.lemmas.Bool.{cases_order}
use Rattle.drda_words.specs.Excuse.{Answers}
use Rattle.sql_lex.specs.Tokens.{Lexeme, tokens}
use Rattle.sql_lex.proofs.Ahead.{tokens-length}
use Rattle.sql_text.specs.Grammar.{IsCommandUnder, IsCommand}
use Rattle.sql_text.specs.Place.{SameHead, IsDead, IsDeadUnder, Begins, BeginsNone, IsStuck, IsTooDeep, IsRefused, Explains}
use Rattle.sql_text.specs.Reading.{Parsed, place}
use Rattle.sql_text.specs.Rules.{command_at, longest}
use Rattle.sql_text.specs.Text.{but_memory, answer, outcome_answer, reading}
use Rattle.sql_text.specs.declared.error.SqlError.{SqlError}
use Rattle.sql_text.specs.declared.error.SqlError.TheVariants as error
use Rattle.sql_text.specs.declared.fault.Fault.TheVariants as fault
use Rattle.sql_text.specs.declared.draft.Draft.{Draft}
use Rattle.sql_text.specs.declared.tree.Statement.{Statement}
use Rattle.sql_text.proofs.Deeper.{ReadOrDeep, command_read}
use Rattle.sql_text.proofs.OnlyRules.{command_only}
use Rattle.sql_text.proofs.Told.{GoesOn, Told}
use Rattle.sql_text.proofs.ToldRules.{tells_command, tells_deeper, command_found}

same_longest : 32767 ≡ longest
unfolding longest
same_longest = refl

dead : (front bad : List Lexeme) → ((more : List Lexeme) → SameHead bad more → command_at (front ++ more) ≡ Err (fault.Unexpected (place more))) → IsDead front bad
dead front bad stays more c short head is =
    let fits : length (front ++ more) ≤ longest = omega (arith, same_longest) in
    let e = command_only c (front ++ more) fits is in
    let s = stays more head in absurd (cc)

either : (o : Parsed Draft) (x : Draft × List Lexeme) (at : ℕ) → o ≡ Err (fault.Unexpected at) → ReadOrDeep o x → ⊥
either o x at e (inl r) = absurd (cc)
either o x at e (inr r) = absurd (cc)

dead_deeper : (front bad : List Lexeme) → ((more : List Lexeme) → SameHead bad more → command_at (front ++ more) ≡ Err (fault.Unexpected (place more))) → IsDeadUnder 66 front bad
dead_deeper front bad stays more c short head is =
    let fits : length (front ++ more) ≤ longest = omega (arith, same_longest) in
    either (command_at (front ++ more)) (c, []) (place more) (stays more head) (command_read c (front ++ more) fits is)

none : (front : List Lexeme) → ((more : List Lexeme) → command_at (front ++ more) ≡ Err fault.Deep) → BeginsNone front
none front stays more c short is =
    let fits : length (front ++ more) ≤ longest = omega (arith, same_longest) in
    let e = command_only c (front ++ more) fits is in
    let s = stays more in absurd (cc)

begins : (front : List Lexeme) → GoesOn IsCommand front → Begins front
begins front (c, more, is) = (c, more ++ [], is [])

stuck : (text : List ℕ) (left : ℕ) → Told ⊥ (suc longest) command_at IsCommand (tokens text) (Err (fault.Unexpected left)) → IsStuck text (length text - left)
stuck text left (front, bad, same, is, goes, stays) = (front, bad, same, ap (λ k. length text - k) is, begins front goes, dead front bad stays, dead_deeper front bad stays)

refused : (text : List ℕ) (x : Draft × List Lexeme) (e : SqlError) → command_at (tokens text) ≡ Ok x → answer text x.0 ≡ Err e → IsRefused text e
refused text x e o a = (x.0, command_found (tokens text) x.0 x.1 o, a)

-- what was read is explained by how it was read
by_place : (text : List ℕ) (o : Parsed Draft) (at : ℕ) → command_at (tokens text) ≡ o → Told ⊥ (suc longest) command_at IsCommand (tokens text) o → outcome_answer text o ≡ Err (error.SqlText at) → Explains text (error.SqlText at)
by_place text (Ok x) at o l e = inl (refused text x (error.SqlText at) o e)
by_place text (Err (fault.Unexpected left)) at o l e =
    let same : length text - left ≡ at = cc in
    let P : ℕ → Type 0 = λ k. IsStuck text k in
    inr (subst P same (stuck text left l))
by_place text (Err fault.Deep) at o l e = absurd (cc)
by_place text (Err fault.Memory) at o l e = absurd (cc)

too_deep : (text : List ℕ) → Told (Unit {0}) (suc longest) command_at (IsCommandUnder 66) (tokens text) (Err fault.Deep) → length text ≤ 32767 → IsTooDeep text
too_deep text deep fits =
    let small : length (tokens text) < suc longest = omega (arith, same_longest, tokens-length text) in
    let r = deep tt small in
    (r.0, r.1, r.3, (r.4.0, r.4.1 ++ [], r.4.2 []), none r.0 r.5)

by_limit : (text : List ℕ) (o : Parsed Draft) → length text ≤ 32767 → command_at (tokens text) ≡ o → Told (Unit {0}) (suc longest) command_at (IsCommandUnder 66) (tokens text) o → outcome_answer text o ≡ Err error.Limit → Explains text error.Limit
by_limit text (Ok x) fits o l e = inr (inl (refused text x error.Limit o e))
by_limit text (Err (fault.Unexpected left)) fits o l e = absurd (cc)
by_limit text (Err fault.Deep) fits o l e = inr (inr (too_deep text l fits))
by_limit text (Err fault.Memory) fits o l e = absurd (cc)

by_key : (text : List ℕ) (o : Parsed Draft) → command_at (tokens text) ≡ o → outcome_answer text o ≡ Err error.KeyUnknown → Explains text error.KeyUnknown
by_key text (Ok x) o e = refused text x error.KeyUnknown o e
by_key text (Err (fault.Unexpected left)) o e = absurd (cc)
by_key text (Err fault.Deep) o e = absurd (cc)
by_key text (Err fault.Memory) o e = absurd (cc)

pub explained : (text : List ℕ) (r : Result Statement SqlError) → Answers (λ s. s) but_memory r (reading text) → IfErr r (λ e. Explains text e)
unfolding reading
explained text (Ok s) e = tt
explained text (Err (error.SqlText at)) e = by_place text (command_at (tokens text)) at refl (tells_command.tell (tokens text)) e
explained text (Err error.Limit) e = by_length (cases_order (length text) 32767)
  where
    by_length : (length text ≡ 32767) ⊎ ((length text < 32767) ⊎ (32767 < length text)) → Explains text error.Limit
    by_length (inl same) = by_limit text (command_at (tokens text)) (omega arith) refl (tells_deeper.tell (tokens text)) e
    by_length (inr (inl fits)) = by_limit text (command_at (tokens text)) (omega arith) refl (tells_deeper.tell (tokens text)) e
    by_length (inr (inr long)) = inl long
explained text (Err error.KeyUnknown) e = by_key text (command_at (tokens text)) refl e
explained text (Err error.NoMemory) e = tt
