-- What a statement comes to, however it is asked, and what a description claims.
use Rattle.std.proofs.Common.{◌≡◌, ℕ, Bool, List, Option, false, [], ◌∷◌, None, refl}
use Rattle.row_values.specs.Value.{Value}
use Rattle.sql_text.specs.declared.tree.Command.{Command}
use Rattle.sql_text.specs.declared.tree.Command.TheVariants as command
use Rattle.sql_text.specs.declared.tree.Statement.{Statement}
use Rattle.tables.specs.Applied.{apply_all}
use Rattle.tables.specs.Change.{Change}
use Rattle.tables.specs.Tables.{Store}
use Rattle.unit_locks.specs.Claim.{Claim}
use Rattle.unit_locks.specs.declared.access.Access.TheVariants.{Read}
use Rattle.sql_semantics.specs.Frame.{claims_in}
use Rattle.sql_semantics.specs.Scope.{claim, claims, scope, table_name}
use Rattle.core_model.specs.Asked.{claims_of, is_create}
use Rattle.unit_statements.specs.declared.finding.Found.{Found}
use Rattle.unit_statements.specs.declared.question.QuestionKind.{QuestionKind}
use Rattle.unit_statements.specs.declared.question.QuestionKind.TheVariants.{Query, Run}
use Rattle.unit_statements.specs.Found.{FindsIn, FindsOver}
use Rattle.unit_statements.specs.Given.{IsGiven}
use Rattle.unit_statements.specs.Question.{asked_as}

-- of a table that is not there, any statement but a creation claims to read all
pub absent_read : (c : Command) → is_create c ≡ false → claims [] c None ≡ claim Read (table_name c) None ∷ []
unfolding claims scope
absent_read (command.Create table definitions key) e = absurd cc
absent_read (command.Insert table named values) e = refl
absent_read (command.Update table assignments filter) e = refl
absent_read (command.Delete table filter) e = refl
absent_read (command.Select named table filter) e = refl

-- run or a query, a statement claims the same, and comes to the same
pub claims_as : (kind : QuestionKind) (s : Statement) (params : List Value) (v : Store) → claims_of (asked_as kind s params) v ≡ claims_in params s.command v
claims_as Run s params v = refl
claims_as Query s params v = refl

module _ {R : Type 0} (is_told : Bool) (reads : R → R → Type 0) (store : Store) (before after : R) (found : Option Found) (others : List Claim) (params : List Value) (left : ℕ) (s : Statement) (changes : List Change) where
  pub found_as : (kind : QuestionKind) → IsGiven is_told reads store before after (λ given. FindsIn found others params left s.command (apply_all changes given))
      → IsGiven is_told reads store before after (λ given. FindsOver found others (asked_as kind s params) left (apply_all changes given))
  found_as Run is = is
  found_as Query is = is
