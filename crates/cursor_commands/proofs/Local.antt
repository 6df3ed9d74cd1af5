-- The sections of other names stay.
use Rattle.std.proofs.Common.{◌≡◌, ◌≢◌, ℕ, List, Option, None, Some, Result, Ok, Err, unwrap_or, refl, ◌∙◌}
use Rattle.sql_text.specs.declared.tree.Statement.{Statement}
use Rattle.row_values.specs.Value.{Value}
use Rattle.core_calls.specs.Answer.{Answer, closed, count, device_failed, done, full, in_doubt, in_global, input, no_memory, output, refused, rows, xa}
use Rattle.core_calls.specs.declared.sql_fault.SqlFault.{SqlFault}
use Rattle.drda_commands.specs.Values.{DescribedData, block_size_in, described_data_in, query_instance_in}
use Rattle.sections.specs.Cursors.{after_open, meant_cursor, opening_fault, section_of}
use Rattle.sections.specs.declared.fault.OpenFault.{OpenFault}
use Rattle.sections.specs.declared.fault.OpenFault.TheVariants.{NoInstance, NotPrepared, QueryOpen}
use Rattle.sections.specs.Kept.{Cursor}
use Rattle.sections.specs.Laws as sections
use Rattle.command_kit.specs.declared.statements.Statements.{Statements}
use Rattle.cursor_commands.specs.Blocks.{rows_in_block}
use Rattle.cursor_commands.specs.Commands as commands
use Rattle.cursor_commands.specs.Laws.{ClosingIsLocal, FetchingIsLocal, LeavesOthers, OpeningIsLocal}

-- of the cursor that is meant, if any
fetched_one : sections.AdvancingIsLocal → (rdb : List ℕ) (k : Statements) (name : List ℕ) (size : Option ℕ) (o : Option Cursor) (other : List ℕ) → name ≢ other
    → section_of other (commands.fetched_at rdb k name size o).statements.sections ≡ section_of other k.sections
fetched_one local rdb k name size None other apart = refl
fetched_one local rdb k name size (Some cursor) other apart =
    local k.sections name other (rows_in_block cursor.rows cursor.place (unwrap_or size cursor.block_size)) (unwrap_or size cursor.block_size) apart

closed_one : sections.ClosingIsLocal → (rdb : List ℕ) (k : Statements) (name : List ℕ) (o : Option Cursor) (other : List ℕ) → name ≢ other
    → section_of other (commands.closed_at rdb k name o).statements.sections ≡ section_of other k.sections
closed_one local rdb k name None other apart = refl
closed_one local rdb k name (Some cursor) other apart = local k.sections name other apart

answered_one : sections.OpeningIsLocal → sections.AdvancingIsLocal → (rdb : List ℕ) (k : Statements) (name : List ℕ) (size : ℕ) (answer : Answer) (other : List ℕ) → name ≢ other
    → section_of other (commands.after_query rdb k name size answer).statements.sections ≡ section_of other k.sections
answered_one opening advancing rdb k name size (rows l) other apart =
    advancing (after_open name l size k.sections) name other (rows_in_block l 0 size) size apart ∙ opening k.sections name other l size apart
answered_one opening advancing rdb k name size (refused r) other apart = refl
answered_one opening advancing rdb k name size (count n) other apart = refl
answered_one opening advancing rdb k name size (output columns) other apart = refl
answered_one opening advancing rdb k name size (input types) other apart = refl
answered_one opening advancing rdb k name size done other apart = refl
answered_one opening advancing rdb k name size in_global other apart = refl
answered_one opening advancing rdb k name size (xa code) other apart = refl
answered_one opening advancing rdb k name size (in_doubt xids) other apart = refl
answered_one opening advancing rdb k name size no_memory other apart = refl
answered_one opening advancing rdb k name size (full need room) other apart = refl
answered_one opening advancing rdb k name size device_failed other apart = refl
answered_one opening advancing rdb k name size closed other apart = refl

asked_one : sections.OpeningIsLocal → sections.AdvancingIsLocal → (rdb : List ℕ) (k : Statements) (name : List ℕ) (size : ℕ) (q : Result (Statement × List Value) SqlFault)
    → LeavesOthers name k (commands.asked rdb k name size q)
asked_one opening advancing rdb k name size (Err f) = λ other apart. refl
asked_one opening advancing rdb k name size (Ok q) = λ answer other apart. answered_one opening advancing rdb k name size answer other apart

opened_one : sections.OpeningIsLocal → sections.AdvancingIsLocal → (rdb : List ℕ) (k : Statements) (name : List ℕ) (size : ℕ) (parameters : Option DescribedData) (o : Option OpenFault)
    → LeavesOthers name k (commands.opened_unless rdb o k name size parameters)
opened_one opening advancing rdb k name size parameters None = asked_one opening advancing rdb k name size (commands.query_in parameters (section_of name k.sections))
opened_one opening advancing rdb k name size parameters (Some NotPrepared) = λ other apart. refl
opened_one opening advancing rdb k name size parameters (Some QueryOpen) = λ other apart. refl
opened_one opening advancing rdb k name size parameters (Some NoInstance) = λ other apart. refl

pub opening_local : sections.OpeningIsLocal → sections.AdvancingIsLocal → OpeningIsLocal
opening_local opening advancing rdb given k =
    opened_one opening advancing rdb k (commands.name_in given) (unwrap_or (block_size_in given) 0) (described_data_in given) (opening_fault (commands.name_in given) k.sections)

pub fetching_local : sections.AdvancingIsLocal → FetchingIsLocal
fetching_local local rdb given k =
    λ other apart. fetched_one local rdb k (commands.name_in given) (block_size_in given) (meant_cursor (commands.name_in given) (query_instance_in given) k.sections) other apart

pub closing_local : sections.ClosingIsLocal → ClosingIsLocal
closing_local local rdb given k =
    λ other apart. closed_one local rdb k (commands.name_in given) (meant_cursor (commands.name_in given) (query_instance_in given) k.sections) other apart
