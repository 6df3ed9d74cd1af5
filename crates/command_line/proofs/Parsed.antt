-- What a parse of the words answers.
use Rattle.std.proofs.Common.{◌≡◌, ◌∙◌, refl, sym, ap, true, List, [], ◌∷◌, Option, inl, inr}
use Rattle.clap.proofs.OnLiterals.{clap_on_literals}
use Rattle.clap.specs.Words.{App, HasKind, IsAmong, Kinds, Row, Text, fault_of, is_simple, is_simple_and_free, kind_of, subcommand_of}
use Rattle.clap.specs.declared.error.Error.{Error}
use Rattle.clap.specs.declared.error.kind.ErrorKind.{ErrorKind}
use Rattle.clap.specs.declared.error.kind.ErrorKind.TheVariants as kind
use Rattle.command_line.specs.Grammar.{drdad, faults, given}

free : is_simple_and_free drdad ≡ true
unfolding clap_on_literals
free = refl

simple : is_simple drdad ≡ true
unfolding clap_on_literals
simple = refl

pub no_faults : (app : App) (words : List Text) → app ≡ drdad → (is_simple_and_free app ≡ true → fault_of app words ≡ []) → faults words ≡ []
unfolding faults
no_faults app words is h = ap (λ a. fault_of a words) (sym is) ∙ h (ap is_simple_and_free is ∙ free)

pub given_is : (app : App) (words : List Text) (found : Option (Text × List Row)) → app ≡ drdad → (is_simple app ≡ true → found ≡ subcommand_of app words) → found ≡ given words
unfolding given
given_is app words found is h = h (ap is_simple is ∙ simple) ∙ ap (λ a. subcommand_of a words) is

some_kind : (kind : ErrorKind) (kinds : Kinds) → IsAmong kind kinds → kinds ≡ [] → ⊥
some_kind kind [] among none = among
some_kind kind (k ∷ ks) among none = absurd (cc)

among_some : (kinds : Kinds) (error : Error) → (kind_of error ≡ kind.OutOfMemory → ⊥) → HasKind kinds error → kinds ≡ [] → ⊥
among_some kinds error apart (inl out) none = apart out
among_some kinds error apart (inr among) none = some_kind (kind_of error) kinds among none

pub some_faults : (app : App) (words : List Text) (error : Error) → app ≡ drdad → (kind_of error ≡ kind.OutOfMemory → ⊥) → (is_simple_and_free app ≡ true → HasKind (fault_of app words) error) → faults words ≡ [] → ⊥
unfolding faults
some_faults app words error is apart h none = among_some (fault_of app words) error apart (h (ap is_simple_and_free is ∙ free)) (ap (λ a. fault_of a words) is ∙ none)
