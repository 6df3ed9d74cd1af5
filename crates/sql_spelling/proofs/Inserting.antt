-- A row is written as the statement that inserts it.
use Rattle.std.proofs.Common.{◌≡◌, ℕ, ◌≤◌, ◌<◌, true, List, [], ◌∷◌, ◌++◌, length, None, Ok, refl, arith}
use Rattle.std.specs.Prelude.{codes}
use Rattle.sql_lex.specs.Tokens.{Lexeme}
use Rattle.sql_lex.specs.declared.terminal.Terminal.TheVariants as w
use Rattle.sql_lex.specs.declared.token.Token.TheVariants as t
use Rattle.sql_text.specs.Checks.{refusal_of}
use Rattle.sql_text.specs.Grammar.{Tree, ◌⨾◌, The, Is, IsList, IsValue}
use Rattle.sql_text.specs.Plain as plain
use Rattle.sql_text.specs.Reading.{as_verb, verb_at}
use Rattle.sql_text.specs.Rules.{longest, value_at, values_at, listed_at, insert_at, command_at}
use Rattle.sql_text.specs.declared.tree.Columns.TheVariants as columns
use Rattle.sql_text.specs.declared.tree.Literal.{Literal}
use Rattle.sql_text.proofs.Only.{again, the_again, name_again, Lacks, lacks, is_length, list_only}
use Rattle.sql_text.proofs.OnlyRules.{is_apart, value_only, value_shorter, end_only}
use Rattle.row_values.specs.Value.{Value}
use Rattle.row_values.specs.Schema.{is_name}
use Rattle.sql_spelling.specs.Text.{value_text, separated, insert_text}
use Rattle.sql_spelling.specs.Meant.{IsFree, inserted}
use Rattle.sql_spelling.proofs.Lists.{Standing, some_listed}
use Rattle.sql_spelling.proofs.Names.{name_written}
use Rattle.sql_spelling.proofs.Values.{IsLiteralOf, AreWhole, values_written, literals_are}
use Rattle.sql_spelling.proofs.Writing.{Writes, next, blank, opened, close, insert, into, values}

-- INSERT INTO the table, of these values
abbrev pub Whole : List ℕ → List Value → List Lexeme → List Lexeme → Type 0
Whole name vs =
    The w.Insert ⨾ (The w.Into ⨾ (Is (t.Name name) ⨾ (The w.Values ⨾ (The w.Open ⨾ (Standing IsValue IsLiteralOf vs ⨾ The w.Close)))))

-- ---- the statement is read

values_again : (ls : List Literal) (ts rest : List Lexeme) → length ts ≤ longest → Lacks w.Comma rest → IsList IsValue (The w.Comma) ls ts rest → values_at ts ≡ Ok (ls, rest)
unfolding values_at
values_again ls ts rest fits stops list = list_only value_at w.Comma IsValue (λ _. Unit {0}) value_shorter (λ v us vs _ _ r. value_only v us vs r) (λ us vs b. tt) ls ts rest fits tt stops list

all_listed : (ts : List Lexeme) → Lacks w.Open ts → listed_at ts ≡ Ok (columns.All, ts)
unfolding listed_at
all_listed ts stops = rw stops refl

pub is_inserted : (name : List ℕ) (vs : List Value) (ts : List Lexeme) → length ts ≤ longest → Whole name vs ts [] → (d : Tree) × (command_at ts ≡ Ok (d, [])) × (plain.command d ≡ inserted name vs) × (refusal_of 0 d ≡ None)
unfolding command_at verb_at insert_at refusal_of
is_inserted name vs ts fits (m1, first, (m2, in_to, (m3, n, (m4, vals, (m5, brace, (m6, (ls, are, list), shut)))))) =
    let room : length m5 ≤ longest = omega (arith, is_length _ ts m1 first, is_length _ m1 m2 in_to, is_length _ m2 m3 n, is_length _ m3 m4 vals, is_length _ m4 m5 brace) in
    let same = literals_are ls vs are in
    rw (
      again as_verb (t.Fixed w.Insert) _ ts m1 refl first,
      the_again w.Into m1 m2 in_to,
      name_again name m2 m3 n,
      all_listed m3 (lacks w.Open (t.Fixed w.Values) m3 m4 (is_apart w.Values w.Open refl) vals),
      the_again w.Values m3 m4 vals,
      the_again w.Open m4 m5 brace,
      values_again ls m5 m6 room (lacks w.Comma (t.Fixed w.Close) m6 [] (is_apart w.Close w.Comma refl) shut) list,
      the_again w.Close m6 [] shut,
      end_only,
    ) (_, refl, rw same refl, refl)

-- ---- the text is of it

pub insert_written : (name : List ℕ) (vs : List Value) → is_name name ≡ true → IsFree name → 0 < length vs → AreWhole vs → Writes (Whole name vs) (insert_text name vs)
unfolding insert_text
insert_written name vs is free some whole =
    next (codes "INSERT") (32 ∷ (codes "INTO " ++ (name ++ (codes " VALUES (" ++ (separated value_text vs ++ codes ")"))))) insert (λ rest e. refl)
    (blank (next (codes "INTO") (32 ∷ (name ++ (codes " VALUES (" ++ (separated value_text vs ++ codes ")")))) into (λ rest e. refl)
    (blank (next name (32 ∷ (codes "VALUES (" ++ (separated value_text vs ++ codes ")"))) (name_written name is free) (λ rest e. refl)
    (blank (next (codes "VALUES") (32 ∷ (codes "(" ++ (separated value_text vs ++ codes ")"))) values (λ rest e. refl)
    (blank (opened (next (separated value_text vs) (codes ")") (some_listed IsValue IsLiteralOf value_text vs some (values_written vs whole)) (λ rest e. refl) close)))))))))
