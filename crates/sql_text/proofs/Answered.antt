-- What a text is answered, by what it is in the grammar.
use Rattle.std.proofs.Common.{◌≡◌, ℕ, ◌≤◌, List, length, Ok, Err, Result, IfOk, refl, sym, ap, subst, ◌∙◌, arith}
use Rattle.drda_words.specs.Excuse.{Answers}
use Rattle.sql_lex.specs.Markers.{markers_in, markers_of}
use Rattle.sql_lex.specs.Tokens.{Lexeme, tokens, tokens_ahead}
use Rattle.sql_lex.proofs.Ahead.{ahead-all, tokens-length}
use Rattle.sql_lex.proofs.Numbered.{all_markers, markers_at_end}
use Rattle.sql_text.specs.Grammar.{IsStatement}
use Rattle.sql_text.specs.Reading.{Parsed, Yields}
use Rattle.sql_text.specs.Rules.{command_at, longest}
use Rattle.sql_text.specs.Text.{but_memory, refusal_error, fault_error, answer, outcome_answer, reading}
use Rattle.sql_text.specs.declared.check.Refusal.{Refusal}
use Rattle.sql_text.specs.declared.check.Refusal.TheVariants as refusal
use Rattle.sql_text.specs.declared.error.SqlError.{SqlError}
use Rattle.sql_text.specs.declared.fault.Fault.{Fault}
use Rattle.sql_text.specs.declared.fault.Fault.TheVariants as fault
use Rattle.sql_text.specs.declared.draft.Draft.{Draft}
use Rattle.sql_text.specs.declared.tree.Statement.{Statement}
use Rattle.sql_text.proofs.ToldRules.{command_found, nothing_left}
use Rattle.sql_text.proofs.OnlyRules.{command_only}

begun : (text : List ℕ) (cursor : ℕ × List ℕ) → cursor ≡ (0, text) → tokens_ahead cursor ≡ tokens text
begun text cursor e = ap tokens_ahead e ∙ ahead-all text

pub read_so : (text : List ℕ) (cursor : ℕ × List ℕ) (c : Draft) (rest : List Lexeme) → cursor ≡ (0, text) → command_at (tokens_ahead cursor) ≡ Ok (c, rest) → reading text ≡ answer text c
unfolding reading
read_so text cursor c rest start e = ap (λ ts. outcome_answer text (command_at ts)) (sym (begun text cursor start)) ∙ ap (λ o. outcome_answer text o) e

refused_so : (text : List ℕ) (cursor : ℕ × List ℕ) (f : Fault) → cursor ≡ (0, text) → command_at (tokens_ahead cursor) ≡ Err f → reading text ≡ Err (fault_error (length text) f)
unfolding reading
refused_so text cursor f start e = ap (λ ts. outcome_answer text (command_at ts)) (sym (begun text cursor start)) ∙ ap (λ o. outcome_answer text o) e

pub faulted : (text : List ℕ) (cursor : ℕ × List ℕ) (f : Fault) → cursor ≡ (0, text) → Yields (command_at (tokens_ahead cursor)) (Err f) → Answers (λ s. s) but_memory (Err (fault_error (length text) f)) (reading text)
faulted text cursor (fault.Unexpected left) start e = refused_so text cursor (fault.Unexpected left) start e
faulted text cursor fault.Deep start e = refused_so text cursor fault.Deep start e
faulted text cursor fault.Memory start e = tt

-- the place behind a statement has all markers of the text before it
pub all_counted : (text : List ℕ) (cursor rest : ℕ × List ℕ) (d : Draft) → cursor ≡ (0, text) → command_at (tokens_ahead cursor) ≡ Ok (d, tokens_ahead rest) → markers_of rest ≡ markers_of cursor → rest.0 ≡ markers_in (tokens text)
all_counted text cursor rest d start e keeps =
    sym (markers_at_end rest (nothing_left (tokens_ahead cursor) d (tokens_ahead rest) e)) ∙ keeps ∙ ap markers_of start ∙ all_markers text

-- a refusal is an answer of its own
pub is_refused : (len : ℕ) (r : Refusal) (given : Result Statement SqlError) → given ≡ Err (refusal_error len r) → Answers (λ s. s) but_memory (Err (refusal_error len r)) given
is_refused len refusal.Limit given e = e
is_refused len (refusal.Wrong left) given e = e
is_refused len refusal.KeyUnknown given e = e

by_outcome : (text : List ℕ) (o : Parsed Draft) (s : Statement) → command_at (tokens text) ≡ o → outcome_answer text o ≡ Ok s → (d : Draft) × IsStatement d (tokens text) × (answer text d ≡ Ok s)
by_outcome text (Ok x) s e a = (x.0, command_found (tokens text) x.0 x.1 e, a)
by_outcome text (Err f) s e a = absurd (cc)

pub found_in : (text : List ℕ) (r : Result Statement SqlError) → Answers (λ s. s) but_memory r (reading text) → IfOk r (λ s. (d : Draft) × IsStatement d (tokens text) × (answer text d ≡ Ok s))
unfolding reading
found_in text (Ok s) e = by_outcome text (command_at (tokens text)) s refl e
found_in text (Err f) e = tt

pub few_tokens : (text : List ℕ) → length text ≤ 32767 → length (tokens text) ≤ longest
unfolding longest
few_tokens text fits = omega (arith, tokens-length text)

pub reads_so : (text : List ℕ) (c : Draft) → length text ≤ 32767 → IsStatement c (tokens text) → reading text ≡ answer text c
unfolding reading
reads_so text c fits is = ap (λ o. outcome_answer text o) (command_only c (tokens text) (few_tokens text fits) is)

pub only_in : (text : List ℕ) (r : Result Statement SqlError) → Answers (λ s. s) but_memory r (reading text) → (c : Draft) → length text ≤ 32767 → IsStatement c (tokens text) → Answers (λ s. s) but_memory r (answer text c)
only_in text r e c fits is = let P : Result Statement SqlError → Type 0 = λ given. Answers (λ s. s) but_memory r given in subst P (reads_so text c fits is) e
