-- What is written is of a rule of the grammar.
use Rattle.std.proofs.Common.{◌≡◌, ℕ, true, List, [], ◌∷◌, ◌++◌, refl, sym, ap, ◌∙◌, subst, append_assoc}
use Rattle.std.specs.Prelude.{codes}
use Rattle.std.specs.Char.{is_ascii_alphabetic}
use Rattle.std.specs.List.{list_all}
use Rattle.sql_lex.specs.Markers.{markers_in}
use Rattle.sql_lex.specs.Terminal.{words}
use Rattle.sql_lex.specs.Tokens.{Lexeme, goes_on, named}
use Rattle.sql_lex.specs.declared.terminal.Terminal.{Terminal}
use Rattle.sql_lex.specs.declared.terminal.Terminal.TheVariants as w
use Rattle.sql_lex.specs.declared.token.Token.TheVariants as t
use Rattle.sql_text.specs.Grammar.{◌⨾◌, Nothing, The}
use Rattle.sql_spelling.proofs.Cutting.{lexed, Ends, word_cut, open_cut, close_cut, comma_cut}

-- whatever follows that does not go on with it, the text is of the rule, and has no marker
pub record Writes (R : List Lexeme → List Lexeme → Type 0) (a : List ℕ) : Type 0 where
  pub reads : (rest : List ℕ) → Ends rest → R (lexed (a ++ rest)) (lexed rest)
  pub marks : (rest : List ℕ) → Ends rest → markers_in (lexed (a ++ rest)) ≡ markers_in (lexed rest)

-- what stands in front of it may be a token that goes on
abbrev pub Parts : List ℕ → Type 0
Parts a = (rest : List ℕ) → Ends rest → Ends (a ++ rest)

-- ---- one behind another

pub nothing : Writes Nothing []
nothing = record { reads = λ rest e. refl; marks = λ rest e. refl }

pub blank : {R : List Lexeme → List Lexeme → Type 0} {a : List ℕ} → Writes R a → Writes R (32 ∷ a)
blank x = record { reads = λ rest e. x.reads rest e; marks = λ rest e. x.marks rest e }

pub next : {R S : List Lexeme → List Lexeme → Type 0} (a b : List ℕ) → Writes R a → Parts b → Writes S b → Writes (R ⨾ S) (a ++ b)
next {R} {S} a b x parts y = record {
  reads = λ rest e.
      let P : List ℕ → Type 0 = λ u. (R ⨾ S) (lexed u) (lexed rest) in
      subst P (sym (append_assoc a b rest)) (lexed (b ++ rest), x.reads (b ++ rest) (parts rest e), y.reads rest e);
  marks = λ rest e. ap (λ u. markers_in (lexed u)) (append_assoc a b rest) ∙ x.marks (b ++ rest) (parts rest e) ∙ y.marks rest e;
}

-- ---- signs

module _ {S : List Lexeme → List Lexeme → Type 0} {b : List ℕ} (y : Writes S b) where
  pub opened : Writes (The w.Open ⨾ S) (40 ∷ b)
  opened = record {
    reads = λ rest e. (lexed (b ++ rest), (_, open_cut (b ++ rest)), y.reads rest e);
    marks = λ rest e. ap markers_in (open_cut (b ++ rest)) ∙ y.marks rest e;
  }

  pub comma : Writes (The w.Comma ⨾ S) (44 ∷ b)
  comma = record {
    reads = λ rest e. (lexed (b ++ rest), (_, comma_cut (b ++ rest)), y.reads rest e);
    marks = λ rest e. ap markers_in (comma_cut (b ++ rest)) ∙ y.marks rest e;
  }

  pub closed : Writes (The w.Close ⨾ S) (41 ∷ b)
  closed = record {
    reads = λ rest e. (lexed (b ++ rest), (_, close_cut (b ++ rest)), y.reads rest e);
    marks = λ rest e. ap markers_in (close_cut (b ++ rest)) ∙ y.marks rest e;
  }

pub close : Writes (The w.Close) (41 ∷ [])
close = record { reads = λ rest e. (_, close_cut rest); marks = λ rest e. ap markers_in (close_cut rest) }

-- ---- words

word : (b : ℕ) (z : List ℕ) (v : Terminal) → is_ascii_alphabetic b ≡ true → list_all goes_on z ≡ true → named (b ∷ z) ≡ t.Fixed v → Writes (The v) (b ∷ z)
word b z v letter all same = record {
  reads = λ rest e. (_, word_cut b z rest (t.Fixed v) letter all same refl e);
  marks = λ rest e. ap markers_in (word_cut b z rest (t.Fixed v) letter all same refl e);
}

pub create : Writes (The w.Create) (codes "CREATE")
unfolding named words
create = word _ _ w.Create refl refl refl

pub table : Writes (The w.Table) (codes "TABLE")
unfolding named words
table = word _ _ w.Table refl refl refl

pub primary : Writes (The w.Primary) (codes "PRIMARY")
unfolding named words
primary = word _ _ w.Primary refl refl refl

pub key : Writes (The w.Key) (codes "KEY")
unfolding named words
key = word _ _ w.Key refl refl refl

pub bars : Writes (The w.Not) (codes "NOT")
unfolding named words
bars = word _ _ w.Not refl refl refl

pub null_word : Writes (The w.Null) (codes "NULL")
unfolding named words
null_word = word _ _ w.Null refl refl refl

pub small_int : Writes (The w.SmallInt) (codes "SMALLINT")
unfolding named words
small_int = word _ _ w.SmallInt refl refl refl

pub integer : Writes (The w.Integer) (codes "INTEGER")
unfolding named words
integer = word _ _ w.Integer refl refl refl

pub big_int : Writes (The w.BigInt) (codes "BIGINT")
unfolding named words
big_int = word _ _ w.BigInt refl refl refl

pub var_char : Writes (The w.VarChar) (codes "VARCHAR")
unfolding named words
var_char = word _ _ w.VarChar refl refl refl

pub var_binary : Writes (The w.VarBinary) (codes "VARBINARY")
unfolding named words
var_binary = word _ _ w.VarBinary refl refl refl

pub insert : Writes (The w.Insert) (codes "INSERT")
unfolding named words
insert = word _ _ w.Insert refl refl refl

pub into : Writes (The w.Into) (codes "INTO")
unfolding named words
into = word _ _ w.Into refl refl refl

pub values : Writes (The w.Values) (codes "VALUES")
unfolding named words
values = word _ _ w.Values refl refl refl
