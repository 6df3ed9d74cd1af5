-- What follows from what the commands on cursors do.
use Rattle.std.specs.Prelude.{◌≡◌, ◌≢◌, ℕ, ◌+◌, ◌==◌, Bool, true, List, [], ◌∷◌, ◌++◌, length, Option, None, Some, IsSome}
use Rattle.std.specs.List.{flat_map}
use Rattle.ddm_objects.specs.declared.code_point.TheConstants.{QRYDTA}
use Rattle.ddm_objects.specs.Writing.{spelled}
use Rattle.sqlam_replies.specs.Rows.{rows_text}
use Rattle.core_calls.specs.Answer.{Answer, rows}
use Rattle.tables.specs.RowList.{RowList}
use Rattle.drda_commands.specs.declared.table.Command.{Command}
use Rattle.drda_commands.specs.declared.table.Command.TheVariants.{Clsqry, Cntqry, Opnqry}
use Rattle.drda_commands.specs.Given.{Given}
use Rattle.drda_commands.specs.Values.{query_instance_in}
use Rattle.sections.specs.Cursors.{cursor_of, opening_fault, section_of}
use Rattle.sections.specs.Kept.{Cursor}
use Rattle.sqlam_replies.specs.Reply.{Reply, object}
use Rattle.command_kit.specs.declared.statements.Statements.{Statements}
use Rattle.command_kit.specs.Doing.{Doing, Done, answered, asking, finished}
use Rattle.cursor_commands.specs.Commands.{after_query, doing, fetched, is_held_in, name_in}
use Rattle.cursor_commands.specs.Replies.{end_of_query, query_opened, rows_description}

-- ---- who is asked

abbrev pub AsksNobody : Doing → Type 0
AsksNobody (finished d) = Unit {0}
AsksNobody (asking call then) = ⊥

abbrev pub FetchingAsksNobody : Type 0
FetchingAsksNobody = (rdb : List ℕ) (given : Given) (k : Statements) → AsksNobody (doing rdb Cntqry given k)

abbrev pub ClosingAsksNobody : Type 0
ClosingAsksNobody = (rdb : List ℕ) (given : Given) (k : Statements) → AsksNobody (doing rdb Clsqry given k)

-- ---- what stays

-- whatever is answered, the sections of other names are as they were
abbrev pub LeavesOthers : List ℕ → Statements → Doing → Type 0
LeavesOthers name k (finished d) = (other : List ℕ) → name ≢ other → section_of other d.statements.sections ≡ section_of other k.sections
LeavesOthers name k (asking call then) = (answer : Answer) (other : List ℕ) → name ≢ other → section_of other (then answer).statements.sections ≡ section_of other k.sections

abbrev pub IsLocal : Command → Type 0
IsLocal command = (rdb : List ℕ) (given : Given) (k : Statements) → LeavesOthers (name_in given) k (doing rdb command given k)

abbrev pub OpeningIsLocal : Type 0
OpeningIsLocal = IsLocal Opnqry

abbrev pub FetchingIsLocal : Type 0
FetchingIsLocal = IsLocal Cntqry

abbrev pub ClosingIsLocal : Type 0
ClosingIsLocal = IsLocal Clsqry

-- ---- what is sent

-- CNTQRYs one after another: what is kept in the end, and all replies
abbrev pub fetched_in_turn : List ℕ → Statements → List Given → Done
fetched_in_turn rdb k [] = answered k []
fetched_in_turn rdb k (given ∷ givens) =
    answered (fetched_in_turn rdb (fetched rdb k given).statements givens).statements
    ((fetched rdb k given).replies ++ (fetched_in_turn rdb (fetched rdb k given).statements givens).replies)

-- each means the cursor of this section, by no other number than its own
abbrev pub is_number : ℕ → Option ℕ → Bool
is_number number None = true
is_number number (Some instance) = instance == number

abbrev pub AllMean : List ℕ → ℕ → List Given → Type 0
AllMean name number [] = Unit {0}
AllMean name number (given ∷ givens) = (name_in given ≡ name) × (is_number number (query_instance_in given) ≡ true) × AllMean name number givens

-- the section's cursor is open before each of them, and closed behind the last
abbrev pub IsReadBy : List ℕ → List ℕ → Statements → List Given → Type 0
IsReadBy rdb name k [] = cursor_of name k.sections ≡ None
IsReadBy rdb name k (given ∷ givens) = IsSome (cursor_of name k.sections) × IsReadBy rdb name (fetched rdb k given).statements givens

-- QRYDTA with each of these, and the end of the query behind them
abbrev pub sent_in_turn : List (List ℕ) → List Reply
sent_in_turn [] = end_of_query
sent_in_turn (text ∷ texts) = object (spelled QRYDTA text) ∷ sent_in_turn texts

-- CNTQRYs that read a cursor to its end send each of its remaining rows once, in their order, and ENDQRYRM behind
-- the last one alone
abbrev pub FetchesSendAllRows : Type 0
FetchesSendAllRows =
    (rdb : List ℕ) (k : Statements) (name : List ℕ) (cursor : Cursor) (givens : List Given)
    → cursor_of name k.sections ≡ Some cursor → AllMean name cursor.instance givens → IsReadBy rdb name k givens
    → (texts : List (List ℕ)) × ((fetched_in_turn rdb k givens).replies ≡ sent_in_turn texts)
    × (flat_map (λ text. text) texts ≡ rows_text cursor.rows cursor.place (length cursor.rows.rows))

-- so OPNQRY and the CNTQRYs behind it, if any, send each row of the query once
abbrev pub QueriesSendAllRows : Type 0
QueriesSendAllRows =
    (rdb : List ℕ) (k : Statements) (name : List ℕ) (size : ℕ) (l : RowList) (givens : List Given)
    → opening_fault name k.sections ≡ None → AllMean name (k.sections.openings + 1) givens → IsReadBy rdb name (after_query rdb k name size (rows l)).statements givens
    → (texts : List (List ℕ))
    × ((after_query rdb k name size (rows l)).replies ++ (fetched_in_turn rdb (after_query rdb k name size (rows l)).statements givens).replies
    ≡ query_opened (is_held_in (section_of name k.sections)) (k.sections.openings + 1) ∷ rows_description l ∷ sent_in_turn texts)
    × (flat_map (λ text. text) texts ≡ rows_text l 0 (length l.rows))
