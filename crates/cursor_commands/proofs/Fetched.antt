-- The block that a cursor sends is the one of the definition.
use Rattle.std.proofs.Common.{◌≡◌, ℕ, List, ◌∷◌, ◌++◌, Option, unwrap_or, sym, ap, subst, ◌∙◌}
use Rattle.drda_commands.specs.Given.{Given}
use Rattle.drda_commands.specs.Values.{block_size_in, query_instance_in}
use Rattle.sections.specs.Blocks.{IsNextBlock, after_advance, ends_behind}
use Rattle.sections.specs.Cursors.{meant_cursor}
use Rattle.sections.specs.Kept.{Cursor, Sections}
use Rattle.sections.specs.declared.cursor.Block.{Block}
use Rattle.command_kit.specs.Doing.{Done}
use Rattle.command_kit.specs.Done.{IsAnswered}
use Rattle.sqlam_replies.specs.Reply.{Reply}
use Rattle.command_kit.specs.declared.statements.Statements.{Statements}
use Rattle.cursor_commands.specs.Blocks.{rows_in_block}
use Rattle.cursor_commands.specs.Commands.{ending, fetched, fetched_at, name_in}
use Rattle.cursor_commands.specs.Replies.{some_rows}
use Rattle.cursor_commands.proofs.Counting.{one_block}

block_sent : (rdb : List ℕ) (k : Statements) (name : List ℕ) (instance size : Option ℕ) (block : Block) → IsNextBlock k.sections name instance size block
    → (after : Sections) → after ≡ after_advance name block.count block.size k.sections
    → (before now : List Reply) → now ≡ before ++ (some_rows block.rows.now block.start block.count ∷ ending block.is_last)
    → IsAnswered (fetched_at rdb k name size (meant_cursor name instance k.sections)) (record k { sections = after }) before now
block_sent rdb k name instance size block next after is before now told =
    let cursor = next.cursor in
    let of = next.block_of in
    let asked = unwrap_or size cursor.block_size in
    let n = rows_in_block cursor.rows cursor.place asked in
    let count : block.count ≡ n = one_block cursor.rows cursor.place block.size block.count of.whole ∙ ap (rows_in_block cursor.rows cursor.place) of.size_is in
    let moved : after ≡ after_advance name n asked k.sections =
    is ∙ ap (λ (c : ℕ). after_advance name c block.size k.sections) count ∙ ap (λ (z : ℕ). after_advance name n z k.sections) of.size_is in
    let rows_are : some_rows block.rows.now block.start block.count ≡ some_rows cursor.rows cursor.place n =
    ap (λ l. some_rows l block.start block.count) of.rows ∙ ap (λ (p : ℕ). some_rows cursor.rows p block.count) of.start ∙ ap (λ (c : ℕ). some_rows cursor.rows cursor.place c) count in
    let end_is : ending block.is_last ≡ ending (ends_behind cursor n) = ap ending (of.last ∙ ap (ends_behind cursor) count) in
    let replies : now ≡ before ++ (some_rows cursor.rows cursor.place n ∷ ending (ends_behind cursor n)) =
    told ∙ ap (λ (r : Reply). before ++ (r ∷ ending block.is_last)) rows_are ∙ ap (λ (rs : List Reply). before ++ (some_rows cursor.rows cursor.place n ∷ rs)) end_is in
    subst (λ (o : Option Cursor). IsAnswered (fetched_at rdb k name size o) (record k { sections = after }) before now) (sym next.meant)
    (record { kept = ap (λ (s : Sections). record k { sections = s }) moved; replied = replies })

pub fetched_by : (rdb : List ℕ) (k : Statements) (given : Given) (name : List ℕ) (instance size : Option ℕ) (block : Block)
    → name ≡ name_in given → instance ≡ query_instance_in given → size ≡ block_size_in given → IsNextBlock k.sections name instance size block
    → (after : Sections) → after ≡ after_advance name block.count block.size k.sections
    → (before now : List Reply) → now ≡ before ++ (some_rows block.rows.now block.start block.count ∷ ending block.is_last)
    → IsAnswered (fetched rdb k given) (record k { sections = after }) before now
fetched_by rdb k given name instance size block named numbered sized next after is before now told =
    let same : fetched_at rdb k name size (meant_cursor name instance k.sections) ≡ fetched rdb k given =
    ap (λ (n : List ℕ). fetched_at rdb k n size (meant_cursor n instance k.sections)) named
    ∙ ap (λ (i : Option ℕ). fetched_at rdb k (name_in given) size (meant_cursor (name_in given) i k.sections)) numbered
    ∙ ap (λ (z : Option ℕ). fetched_at rdb k (name_in given) z (meant_cursor (name_in given) (query_instance_in given) k.sections)) sized in
    subst (λ (d : Done). IsAnswered d (record k { sections = after }) before now) same (block_sent rdb k name instance size block next after is before now told)
