-- Two tokens of fixed spelling are the same where their numbers are.
use Rattle.std.proofs.Common.{◌≡◌, true, List, [], ◌∷◌, Some, refl, sym, ap, ◌∙◌, arith}
use Rattle.std.specs.Prelude.{slice_get}
use Rattle.std.proofs.lemmas.Bool.Decides.{nat_tests}
use Rattle.sql_lex.specs.declared.terminal.Terminal.{Terminal}
use Rattle.sql_lex.specs.declared.terminal.Terminal.TheVariants as w
use Rattle.sql_lex.specs.Terminal.{number, is_same}

every : List Terminal
every = w.Create ∷ w.Table ∷ w.Primary ∷ w.Key ∷ w.Not ∷ w.Null ∷ w.SmallInt ∷ w.Integer ∷ w.Int ∷ w.BigInt ∷ w.VarChar ∷ w.VarBinary ∷ w.Insert ∷ w.Into ∷ w.Values ∷ w.Update ∷ w.Set ∷ w.Where ∷ w.Delete ∷ w.From ∷ w.Select ∷ w.Or ∷ w.And ∷ w.Is ∷ w.Open ∷ w.Close ∷ w.Comma ∷ w.Star ∷ w.Plus ∷ []

back : (a : Terminal) → slice_get every (number a) ≡ Some a
unfolding every
back w.Create = refl
back w.Table = refl
back w.Primary = refl
back w.Key = refl
back w.Not = refl
back w.Null = refl
back w.SmallInt = refl
back w.Integer = refl
back w.Int = refl
back w.BigInt = refl
back w.VarChar = refl
back w.VarBinary = refl
back w.Insert = refl
back w.Into = refl
back w.Values = refl
back w.Update = refl
back w.Set = refl
back w.Where = refl
back w.Delete = refl
back w.From = refl
back w.Select = refl
back w.Or = refl
back w.And = refl
back w.Is = refl
back w.Open = refl
back w.Close = refl
back w.Comma = refl
back w.Star = refl
back w.Plus = refl

pub same_is : (a b : Terminal) → is_same a b ≡ true → a ≡ b
unfolding is_same
same_is a b e =
    let n : number a ≡ number b = grind (arith, nat_tests) in
    let s : Some a ≡ Some b = sym (back a) ∙ ap (λ k. slice_get every k) n ∙ back b in cc

pub same_again : (a : Terminal) → is_same a a ≡ true
unfolding is_same
same_again a = grind (arith, nat_tests)
