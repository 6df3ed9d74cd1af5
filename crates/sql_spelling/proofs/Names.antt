-- Names are written as they are kept.
use Rattle.std.proofs.Common.{◌≡◌, ℕ, suc, Bool, true, false, ◌&&◌, List, [], ◌∷◌, length, None, find, refl, sym, ap, ◌∙◌, arith}
use Rattle.std.specs.Prelude.{nat_le}
use Rattle.std.specs.Char.{is_ascii_alphabetic, to_ascii_uppercase}
use Rattle.std.specs.List.{list_all}
use Rattle.std.proofs.lemmas.Bool.Decides.{nat_tests}
use Rattle.sql_lex.specs.Markers.{markers_in}
use Rattle.sql_lex.specs.Spelling.{capitals}
use Rattle.sql_lex.specs.Terminal.{spelling, words}
use Rattle.sql_lex.specs.Tokens.{goes_on, is_spelled, named}
use Rattle.sql_lex.specs.declared.terminal.Terminal.{Terminal}
use Rattle.sql_lex.specs.declared.terminal.Terminal.TheVariants as w
use Rattle.sql_lex.specs.declared.token.Token.TheVariants as t
use Rattle.sql_text.specs.Grammar.{Is}
use Rattle.sql_text.proofs.Names.{same_capitals}
use Rattle.row_values.specs.Schema.{is_capital, goes_on_name, is_name}
use Rattle.sql_spelling.specs.Meant.{IsFree}
use Rattle.sql_spelling.proofs.Cutting.{word_cut}
use Rattle.sql_spelling.proofs.Writing.{Writes}

both : (a b : Bool) → (a && b) ≡ true → (a ≡ true) × (b ≡ true)
both true b e = (refl, e)
both false b e = absurd (cc)

-- ---- capitals

stays : (c : ℕ) → goes_on_name c ≡ true → to_ascii_uppercase c ≡ c
stays c e = grind (arith, nat_tests)

capital_stays : (c : ℕ) → is_capital c ≡ true → to_ascii_uppercase c ≡ c
capital_stays c e = grind (arith, nat_tests)

rest_stays : (z : List ℕ) → list_all goes_on_name z ≡ true → capitals z ≡ z
rest_stays [] e = refl
rest_stays (c ∷ z) e = let k = both (goes_on_name c) (list_all goes_on_name z) e in rw (stays c k.0, rest_stays z k.1) refl

-- a name is in capitals
pub name_stays : (name : List ℕ) → is_name name ≡ true → capitals name ≡ name
name_stays [] e = absurd (cc)
name_stays (c ∷ z) e =
    let k = both (is_capital c && list_all goes_on_name z) (nat_le (length z) 29) e in
    let l = both (is_capital c) (list_all goes_on_name z) k.0 in
    rw (capital_stays c l.0, rest_stays z l.1) refl

own_capitals : (v : Terminal) → capitals (spelling v) ≡ spelling v
own_capitals w.Create = refl
own_capitals w.Table = refl
own_capitals w.Primary = refl
own_capitals w.Key = refl
own_capitals w.Not = refl
own_capitals w.Null = refl
own_capitals w.SmallInt = refl
own_capitals w.Integer = refl
own_capitals w.Int = refl
own_capitals w.BigInt = refl
own_capitals w.VarChar = refl
own_capitals w.VarBinary = refl
own_capitals w.Insert = refl
own_capitals w.Into = refl
own_capitals w.Values = refl
own_capitals w.Update = refl
own_capitals w.Set = refl
own_capitals w.Where = refl
own_capitals w.Delete = refl
own_capitals w.From = refl
own_capitals w.Select = refl
own_capitals w.Or = refl
own_capitals w.And = refl
own_capitals w.Is = refl
own_capitals w.Open = refl
own_capitals w.Close = refl
own_capitals w.Comma = refl
own_capitals w.Star = refl
own_capitals w.Plus = refl

-- ---- names are no words

by_same : (name : List ℕ) (v : Terminal) (b : Bool) → is_spelled name v ≡ b → is_name name ≡ true → IsFree name → b ≡ false
by_same name v true e is free = absurd (free v (sym (name_stays name is) ∙ same_capitals name (spelling v) e ∙ own_capitals v))
by_same name v false e is free = refl

none_passes : {X : Type 0} (p : X → Bool) (xs : List X) → ((x : X) → p x ≡ false) → find p xs ≡ None
none_passes p [] none = refl
none_passes p (x ∷ xs) none = rw (none x) (none_passes p xs none)

short : (n : ℕ) → nat_le n 29 ≡ true → nat_le (suc n) 30 ≡ true
short n e = grind (arith, nat_tests)

goes_on_so : (c : ℕ) → goes_on_name c ≡ true → goes_on c ≡ true
goes_on_so c e = grind (arith, nat_tests)

all_go_on : (z : List ℕ) → list_all goes_on_name z ≡ true → list_all goes_on z ≡ true
all_go_on [] e = refl
all_go_on (c ∷ z) e = let k = both (goes_on_name c) (list_all goes_on_name z) e in rw (goes_on_so c k.0) (all_go_on z k.1)

letter : (c : ℕ) → is_capital c ≡ true → is_ascii_alphabetic c ≡ true
letter c e = grind (arith, nat_tests)

named_itself : (c : ℕ) (z : List ℕ) → is_name (c ∷ z) ≡ true → IsFree (c ∷ z) → named (c ∷ z) ≡ t.Name (c ∷ z)
unfolding named
named_itself c z is free =
    let k = both (is_capital c && list_all goes_on_name z) (nat_le (length z) 29) is in
    let none : find (is_spelled (c ∷ z)) words ≡ None = none_passes (is_spelled (c ∷ z)) words (λ v. by_same (c ∷ z) v (is_spelled (c ∷ z) v) refl is free) in
    rw (none, short (length z) k.1) refl

pub name_written : (name : List ℕ) → is_name name ≡ true → IsFree name → Writes (Is (t.Name name)) name
name_written [] is free = absurd (cc)
name_written (c ∷ z) is free =
    let k = both (is_capital c && list_all goes_on_name z) (nat_le (length z) 29) is in
    let l = both (is_capital c) (list_all goes_on_name z) k.0 in
    record {
      reads = λ rest e. (_, word_cut c z rest (t.Name (c ∷ z)) (letter c l.0) (all_go_on z l.1) (named_itself c z is free) refl e);
      marks = λ rest e. ap markers_in (word_cut c z rest (t.Name (c ∷ z)) (letter c l.0) (all_go_on z l.1) (named_itself c z is free) refl e);
    }
