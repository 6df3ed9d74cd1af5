-- Statements as units run them: what the law of serial order is about.
use Rattle.std.specs.Prelude.{◌≡◌, ℕ, ◌-◌, nat_lt, List, [], ◌∷◌, length, Option, Some, None, true}
use Rattle.std.specs.List.{flat_map}
use Rattle.sql_text.specs.declared.tree.Command.{Command}
use Rattle.row_values.specs.Value.{Value}
use Rattle.row_values.specs.Schema.{Schema}
use Rattle.tables.specs.Change.{Change, change_bytes}
use Rattle.tables.specs.Tables.{Store, apply, schema_of}
use Rattle.tables.specs.View.{is_sound, is_store}
use Rattle.unit_locks.specs.Claim.{Claim}
use Rattle.unit_locks.specs.Clash.{clash}
use Rattle.unit_locks.specs.Claims.{all_added}
use Rattle.unit_locks.specs.declared.access.Access.TheVariants.{Read}
use Rattle.core_calls.specs.declared.sql_fault.SqlFault.{SqlFault}
use Rattle.sql_semantics.specs.Scope.{claim, table_name}
use Rattle.sql_semantics.specs.Meaning.{Answer as Meant, Refused, meaning}
use Rattle.sql_semantics.specs.Frame.{Within as LiesIn, changes_of, claims_in}
use Rattle.serializability.specs.Words.{Words}

pub data Call : Type 0 where
  -- a statement with the values of its markers
  Run : List Value → Command → Call
  -- a statement that is described
  Describe : Command → Call
  -- what its text and its parameters alone refuse
  Unfit : SqlFault → Call

pub data Answer : Type 0 where
  Told : Meant → Answer
  -- a description tells nothing but what follows from the text and the table's schema, or its absence
  Seen : Option Schema → Answer

-- a table that is there is described without a claim, since it stays and its schema with it
abbrev pub described_claims : List ℕ → Option Schema → List Claim
described_claims table None = claim Read table None ∷ []
described_claims table (Some schema) = []

-- how many bytes of changes a unit may still make
abbrev pub bytes_left : List Change → ℕ
bytes_left xs = 1048576 - length (flat_map change_bytes xs)

abbrev pub call_claims : Call → Store → List Claim
call_claims (Run params c) s = claims_in params c s
call_claims (Describe c) s = described_claims (table_name c) (schema_of s (table_name c))
call_claims (Unfit f) s = []

abbrev pub call_answer : Call → ℕ → Store → Answer
call_answer (Run params c) left s = Told (meaning params left c s)
call_answer (Describe c) left s = Seen (schema_of s (table_name c))
call_answer (Unfit f) left s = Told (Refused f)

abbrev pub call_changes : Call → ℕ → Store → List Change
call_changes (Run params c) left s = changes_of (meaning params left c s)
call_changes (Describe c) left s = []
call_changes (Unfit f) left s = []

-- in a write claim, as statements of SQL claim; and what a creation creates has a name and a schema
pub record Within (s : Store) (x : Change) (cs : List Claim) : Type 0 where
  pub lies : LiesIn s x cs
  pub sound : is_sound x ≡ true

abbrev pub sql_words : Words
sql_words = record {
  Store = Store;
  Change = Change;
  Claim = Claim;
  Call = Call;
  Answer = Answer;
  apply = apply;
  clash = clash;
  added = all_added;
  is_full = λ cs. nat_lt 65535 (length cs);
  claims = call_claims;
  answer = λ call xs s. call_answer call (bytes_left xs) s;
  changes = λ call xs s. call_changes call (bytes_left xs) s;
  Sound = λ s. is_store s ≡ true;
  Within = Within;
}
