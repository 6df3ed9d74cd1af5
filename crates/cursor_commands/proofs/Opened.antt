-- A cursor that was just opened, and what its first block is.
use Rattle.std.proofs.Common.{Result, Ok, Err, ◌≡◌, ℕ, ◌+◌, Bool, nat_le, List, [], ◌∷◌, ◌++◌, length, Option, None, Some, sym, ap, subst, refl, ◌∙◌, if◌then◌else◌, ◌==◌, arith}
use Rattle.std.specs.Prelude.{option_map}
use Rattle.std.specs.Option.{option_and_then}
use Rattle.tables.specs.RowList.{RowList}
use Rattle.sections.specs.Blocks.{IsBlockOf, IsNextBlock, after_advance}
use Rattle.sections.specs.Cursors.{after_open, fault_in, is_meant, meant_cursor, opening_fault, section_of, with_cursor}
use Rattle.sections.specs.Kept.{Cursor, Section, Sections}
use Rattle.sections.specs.declared.cursor.Block.{Block}
use Rattle.sections.proofs.Looking.{here}
use Rattle.sql_text.specs.declared.tree.Statement.{Statement}
use Rattle.row_values.specs.Value.{Value}
use Rattle.core_calls.specs.Answer.{Answer}
use Rattle.core_calls.specs.Call.{Call}
use Rattle.core_calls.specs.declared.sql_fault.SqlFault.{SqlFault}
use Rattle.command_kit.specs.Done.{IsAnswered, WasDone}
use Rattle.cursor_commands.specs.Asking.{WasQueried}
use Rattle.sqlam_replies.specs.Reply.{Reply}
use Rattle.command_kit.specs.declared.statements.Statements.{Statements}
use Rattle.cursor_commands.specs.Blocks.{rows_in_block}
use Rattle.cursor_commands.specs.Commands.{after_query, asked, ending, is_held_in, opened_with}
use Rattle.cursor_commands.specs.Replies.{query_opened, rows_description, some_rows}
use Rattle.cursor_commands.proofs.Counting.{one_block}

-- the cursor that is opened
abbrev pub fresh : RowList → ℕ → ℕ → Option Section → Cursor
fresh l size instance section = record { rows = l; place = 0; instance = instance; is_held = is_held_in section; block_size = size }

in_section : (l : RowList) (size instance openings : ℕ) (section : Option Section) → fault_in section openings ≡ None
    → option_and_then (λ (c : Cursor). if is_meant None c then Some c else None) (option_and_then (λ (s : Section). s.cursor) (option_map (with_cursor l instance size) section)) ≡ Some (fresh l size instance section)
in_section l size instance openings None free = absurd (cc free)
in_section l size instance openings (Some section) free = refl

pub meant : (name : List ℕ) (s : Sections) (l : RowList) (size : ℕ) → opening_fault name s ≡ None
    → meant_cursor name None (after_open name l size s) ≡ Some (fresh l size (s.openings + 1) (section_of name s))
meant name s l size free =
    ap (λ (o : Option Section). option_and_then (λ (c : Cursor). if is_meant None c then Some c else None) (option_and_then (λ (x : Section). x.cursor) o)) (here name (with_cursor l (s.openings + 1) size) s.sections)
    ∙ in_section l size (s.openings + 1) s.openings (section_of name s) free

same_cursor : (a b : Cursor) (o : Option Cursor) → o ≡ Some a → o ≡ Some b → b ≡ a
same_cursor a b o x y = cc

first_is : (name : List ℕ) (s mid : Sections) (l : RowList) (size : ℕ) (block : Block) → opening_fault name s ≡ None → mid ≡ after_open name l size s → IsNextBlock mid name None None block
    → IsBlockOf (fresh l size (s.openings + 1) (section_of name s)) None block
first_is name s mid l size block free is next =
    let at : meant_cursor name None mid ≡ Some (fresh l size (s.openings + 1) (section_of name s)) = ap (meant_cursor name None) is ∙ meant name s l size free in
    subst (λ (c : Cursor). IsBlockOf c None block) (same_cursor (fresh l size (s.openings + 1) (section_of name s)) next.cursor (meant_cursor name None mid) at next.meant) next.block_of

pub opened_size : (name : List ℕ) (s mid : Sections) (l : RowList) (size : ℕ) (block : Block) → opening_fault name s ≡ None → mid ≡ after_open name l size s → IsNextBlock mid name None None block
    → block.size ≡ size
opened_size name s mid l size block free is next = (first_is name s mid l size block free is next).size_is

pub is_open : (name : List ℕ) (s mid : Sections) (l : RowList) (size : ℕ) → opening_fault name s ≡ None → mid ≡ after_open name l size s → meant_cursor name None mid ≡ None → ⊥
is_open name s mid l size free is none =
    let at : meant_cursor name None mid ≡ Some (fresh l size (s.openings + 1) (section_of name s)) = ap (meant_cursor name None) is ∙ meant name s l size free in
    absurd (cc (sym none ∙ at))

-- the replies with the first block
told : (held : Bool) (instance : ℕ) (l : RowList) (count : ℕ) (place : ℕ) (is_last : Bool) → List Reply
told held instance l count place is_last =
    query_opened held instance ∷ rows_description l ∷ (if count == 0 then [] else some_rows l place count ∷ []) ++ ending is_last

pub opened : (k : Statements) (name : List ℕ) (mid : Sections) (l : RowList) (size : ℕ) (block : Block) → opening_fault name k.sections ≡ None → mid ≡ after_open name l size k.sections
    → IsNextBlock mid name None None block → (after : Sections) → after ≡ after_advance name block.count size mid → (instance : ℕ) → instance ≡ k.sections.openings + 1
    → (before now : List Reply)
    → now ≡ before ++ (query_opened block.is_held instance ∷ rows_description block.rows.now ∷ (if block.count == 0 then [] else some_rows block.rows.now block.start block.count ∷ []) ++ ending block.is_last)
    → IsAnswered (opened_with k name size l (rows_in_block l 0 size)) (record k { sections = after }) before now
unfolding told
opened k name mid l size block free is next after moved instance numbered before now said =
    let of = first_is name k.sections mid l size block free is next in
    let n = rows_in_block l 0 size in
    let count : block.count ≡ n = one_block l 0 block.size block.count of.whole ∙ ap (rows_in_block l 0) of.size_is in
    let held : Bool = is_held_in (section_of name k.sections) in
    let none : 0 + n ≡ n = omega arith in
    let last : block.is_last ≡ nat_le (length l.rows) n = of.last ∙ ap (λ (c : ℕ). nat_le (length l.rows) (0 + c)) count ∙ ap (nat_le (length l.rows)) none in
    let all : told block.is_held instance block.rows.now block.count block.start block.is_last ≡ told held (k.sections.openings + 1) l n 0 (nat_le (length l.rows) n) =
    ap (λ (b : Bool). told b instance block.rows.now block.count block.start block.is_last) of.held
    ∙ ap (λ (i : ℕ). told held i block.rows.now block.count block.start block.is_last) numbered
    ∙ ap (λ (r : RowList). told held (k.sections.openings + 1) r block.count block.start block.is_last) of.rows
    ∙ ap (λ (c : ℕ). told held (k.sections.openings + 1) l c block.start block.is_last) count
    ∙ ap (λ (p : ℕ). told held (k.sections.openings + 1) l n p block.is_last) of.start
    ∙ ap (told held (k.sections.openings + 1) l n 0) last in
    let there : after ≡ after_advance name n size (after_open name l size k.sections) =
    moved ∙ ap (λ (c : ℕ). after_advance name c size mid) count ∙ ap (after_advance name n size) is in
    record { kept = ap (λ (s : Sections). record k { sections = s }) there; replied = said ∙ ap (λ (rs : List Reply). before ++ rs) all }

-- a query that was asked, and what its answer makes
pub concluded : {A : Type 0} (asks : A → Call → Answer → A → Type 0) (rdb : List ℕ) (k : Statements) (name : List ℕ) (size : ℕ) (q : Result (Statement × List Value) SqlFault) (answer : Answer) (old new : A)
    (after : Statements) (before mid now : List Reply) → WasQueried asks q answer old new → mid ≡ before → IsAnswered (after_query rdb k name size answer) after mid now
    → WasDone asks (asked rdb k name size q) old new after before now
concluded asks rdb k name size (Err f) answer old new after before mid now is same answered = absurd is
concluded asks rdb k name size (Ok q) answer old new after before mid now is same answered =
    record { answer = answer; asked = is; answered = subst (λ (rs : List Reply). IsAnswered (after_query rdb k name size answer) after rs now) same answered }
