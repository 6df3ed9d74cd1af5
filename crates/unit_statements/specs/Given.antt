-- What is told of a statement over the tables that it is given.
use Rattle.std.specs.Prelude.{◌≡◌, ◌⊎◌, ℕ, Bool, List, map}
use Rattle.row_values.specs.Value.{Value}
use Rattle.sql_text.specs.declared.tree.Command.{Command}
use Rattle.tables.specs.ChangeView.{change_of}
use Rattle.tables.specs.Tables.{Store}
use Rattle.sql_semantics.specs.Frame.{changes_of, covered_answer}
use Rattle.small_sql.specs.Bound.{IsBound}
use Rattle.small_sql.specs.declared.bound.Bound.{Bound}
use Rattle.core_calls.specs.Answer.{Answer, answer_of}
use Rattle.core_model.specs.Asked.{Clashes, Done, Outcome, Question, TooMany, Unfit, answer_in, meant}
use Rattle.core_model.specs.Events.{asked_of}
use Rattle.core_model.specs.Units.{Held, Owner, set_unit}
use Rattle.ahead_view.specs.Given.{StandsFor}
use Rattle.unit_statements.specs.declared.reply.Reply.{Reply}

-- It is told over a store where nothing was read, else over tables that stand for those of the store.
pub record IsGiven {R : Type 0} (is_told : Bool) (reads : R → R → Type 0) (store : Store) (before after : R) (Told : Store → Type 0) : Type 0 where
  pub given : Store
  pub read : ((given ≡ store) × (after ≡ before)) ⊎ (StandsFor is_told given store × reads before after)
  pub told : Told given

-- what a bound statement is answered and changes over a store
pub record IsReplied (bound : Bound) (left : ℕ) (v : Store) (r : Reply) : Type 0 where
  pub answer_is : (params : List Value) (c : Command) → IsBound params c bound → answer_of r.answer ≡ meant (covered_answer params left c v)
  pub changes_are : (params : List Value) (c : Command) → IsBound params c bound → map change_of r.changes.items ≡ changes_of (covered_answer params left c v)

-- the units once a question of an owner has come out so
abbrev pub units_after : List Held → Owner → Outcome → List Held
units_after units o (Unfit f) = units
units_after units o Clashes = units
units_after units o TooMany = units
units_after units o (Done a u) = set_unit o u units

-- what an owner's question is answered, and what it makes of the units, over a committed store
pub record IsAsked (o : Owner) (q : Question) (old new : List Held) (told : Answer) (committed : Store) : Type 0 where
  pub answer_is : told ≡ answer_in (asked_of (record { store = committed; units = old }) o q)
  pub units_are : new ≡ units_after old o (asked_of (record { store = committed; units = old }) o q)
