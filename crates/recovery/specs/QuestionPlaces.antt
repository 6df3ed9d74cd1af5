-- Where the changes of questions have their places.
use Rattle.std.specs.Prelude.{◌≡◌, ℕ, true, false, List, None}
use Rattle.std.specs.List.{AllByRecursion}
use Rattle.tables.specs.Change.{Change}
use Rattle.tables.specs.Tables.{Store}
use Rattle.tables.specs.View.{is_store}
use Rattle.unit_locks.specs.Claims.{In}
use Rattle.unit_locks.specs.declared.access.Access.TheVariants.{Write}
use Rattle.sql_semantics.specs.Scope.{claim, star}
use Rattle.core_model.specs.Asked.{Question, changes_by, claims_of}
use Rattle.unit_records.specs.Records.{IsChange}
use Rattle.recovery.specs.Durable.{have_places}
use Rattle.recovery.specs.Places.{creates_none}

-- what a question changes has its places in what it sees, and can be written
pub record ArePlaced (changes : List Change) (v : Store) : Type 0 where
  pub places : have_places changes v ≡ true
  pub good : AllByRecursion IsChange changes

abbrev pub ChangesHavePlaces : Type 0
ChangesHavePlaces = (q : Question) (left : ℕ) (v : Store) → is_store v ≡ true → ArePlaced (changes_by q left v) v

-- a question that creates a table claims to write all names
abbrev pub CreationsClaimNames : Type 0
CreationsClaimNames = (q : Question) (left : ℕ) (v : Store) → is_store v ≡ true → creates_none (changes_by q left v) ≡ false → In (claim Write star None) (claims_of q v)
