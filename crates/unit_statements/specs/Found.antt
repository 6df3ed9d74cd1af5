-- What a question of a unit comes to over its view.
use Rattle.std.specs.Prelude.{◌≡◌, ℕ, true, false, List, Option, Some, None, map}
use Rattle.row_values.specs.Value.{Value}
use Rattle.sql_text.specs.declared.tree.Command.{Command}
use Rattle.tables.specs.Change.{Change}
use Rattle.tables.specs.ChangeView.{change_of}
use Rattle.tables.specs.Tables.{Store}
use Rattle.unit_locks.specs.Claim.{Claim}
use Rattle.sql_semantics.specs.Frame.{changes_of, claims_in, covered_answer}
use Rattle.core_calls.specs.Answer.{Answer, answer_of}
use Rattle.core_model.specs.Units.{clashes}
use Rattle.core_model.specs.Asked.{Question, answer_to, changes_by, claims_of, meant}
use Rattle.unit_statements.specs.declared.finding.Found.{Found}

-- this is claimed, answered and changed; no claim clashes with those of the other units
pub record IsFound (others claimed : List Claim) (told : Answer) (changed : List Change) (f : Found) : Type 0 where
  pub claims : f.claims.items ≡ claimed
  pub free : clashes f.claims.items others ≡ false
  pub answer : answer_of f.answer ≡ told
  pub changes : map change_of f.changes.items ≡ changed

-- nothing is found where some claim clashes
abbrev pub Finds : Option Found → List Claim → List Claim → Answer → List Change → Type 0
Finds None others claimed told changed = clashes claimed others ≡ true
Finds (Some f) others claimed told changed = IsFound others claimed told changed f

-- by what the question claims, is answered and changes over a store
abbrev pub FindsOver : Option Found → List Claim → Question → ℕ → Store → Type 0
FindsOver found others q left v = Finds found others (claims_of q v) (answer_to q left v) (changes_by q left v)

-- by what a statement does that is no description
abbrev pub FindsIn : Option Found → List Claim → List Value → ℕ → Command → Store → Type 0
FindsIn found others params left c v = Finds found others (claims_in params c v) (meant (covered_answer params left c v)) (changes_of (covered_answer params left c v))
