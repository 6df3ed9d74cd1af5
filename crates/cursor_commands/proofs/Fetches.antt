-- CNTQRYs that read a cursor to its end.
use Rattle.std.proofs.Common.{◌≡◌, ℕ, ◌+◌, ◌<◌, ◌≤◌, ◌==◌, Bool, true, false, cond, List, [], ◌∷◌, ◌++◌, length, take, drop, nat_le, Option, None, Some, unwrap_or, refl, sym, ap, ◌∙◌, arith, append-nil, length-drop, take_all, drop-drop, if◌then◌else◌}
use Rattle.std.specs.Prelude.{IsSome, bytes_eq, option_map}
use Rattle.std.specs.List.{flat_map}
use Rattle.std.specs.Option.{option_and_then}
use Rattle.std.specs.Map.{lookup}
use Rattle.std.proofs.lemmas.Grind.{flat_map-append}
use Rattle.std.proofs.lemmas.List.{take-append-drop}
use Rattle.std.proofs.lemmas.Bool.Decides.{nat_tests}
use borrow.Author.Tests.{leb-false, leb-true}
use Rattle.core_calls.specs.Answer as core
use Rattle.tables.specs.RowList.{RowList}
use Rattle.sqlam_replies.specs.Rows.{answered, rows_text}
use Rattle.drda_commands.specs.Given.{Given}
use Rattle.drda_commands.specs.Values.{block_size_in, query_instance_in}
use Rattle.sections.specs.Blocks.{advanced, after_advance, ends_behind, section_advanced}
use Rattle.sections.specs.Cursors.{after_open, cursor_of, fault_in, is_meant, meant_cursor, opening_fault, section_of, with_cursor}
use Rattle.sections.specs.Kept.{Cursor, Section, Sections}
use Rattle.sections.proofs.Looking.{cursor_in, here}
use Rattle.command_kit.specs.Doing.{Done}
use Rattle.sqlam_replies.specs.Reply.{Reply}
use Rattle.command_kit.specs.declared.statements.Statements.{Statements}
use Rattle.cursor_commands.specs.Blocks.{rows_in_block}
use Rattle.cursor_commands.specs.Commands.{after_query, ending, fetched, fetched_at, is_held_in, name_in, sent_block}
use Rattle.cursor_commands.specs.Replies.{end_of_query, query_opened, rows_description, some_rows}
use Rattle.cursor_commands.specs.Laws.{AllMean, FetchesSendAllRows, IsReadBy, QueriesSendAllRows, fetched_in_turn, is_number, sent_in_turn}
use Rattle.cursor_commands.proofs.Counting.{is_block}
use Rattle.cursor_commands.proofs.Opened.{fresh}

-- ---- rows

rest_is : (rows : RowList) (place n : ℕ) → length rows.rows ≤ place + n → rows_text rows place n ≡ flat_map (answered rows) (drop place rows.rows)
rest_is rows place n le =
    let all = length-drop place rows.rows in
    ap (flat_map (answered rows)) (take_all n (drop place rows.rows) (omega (arith, all, le)))

all_is : (rows : RowList) (place : ℕ) → rows_text rows place (length rows.rows) ≡ flat_map (answered rows) (drop place rows.rows)
all_is rows place = rest_is rows place (length rows.rows) (omega arith)

split_at : (rows : RowList) (place n : ℕ) → rows_text rows place n ++ flat_map (answered rows) (drop (place + n) rows.rows) ≡ flat_map (answered rows) (drop place rows.rows)
split_at rows place n =
    ap (λ (xs : List (List ℕ)). rows_text rows place n ++ flat_map (answered rows) xs) (sym (drop-drop n place rows.rows))
    ∙ sym (flat_map-append (answered rows) (take n (drop place rows.rows)) (drop n (drop place rows.rows)))
    ∙ ap (flat_map (answered rows)) (take-append-drop n (drop place rows.rows))

joined : (rows : RowList) (place n : ℕ) (rest : List ℕ) → rest ≡ rows_text rows (place + n) (length rows.rows) → rows_text rows place n ++ rest ≡ rows_text rows place (length rows.rows)
joined rows place n rest is = ap (λ (xs : List ℕ). rows_text rows place n ++ xs) (is ∙ all_is rows (place + n)) ∙ split_at rows place n ∙ sym (all_is rows place)

-- ---- one CNTQRY

abbrev size_for : Given → Cursor → ℕ
size_for given cursor = unwrap_or (block_size_in given) cursor.block_size

abbrev count_for : Given → Cursor → ℕ
count_for given cursor = rows_in_block cursor.rows cursor.place (size_for given cursor)

meant_by : (instance : Option ℕ) (cursor : Cursor) → is_number cursor.instance instance ≡ true → is_meant instance cursor ≡ true
meant_by None cursor is = refl
meant_by (Some i) cursor is = is

meant_in : (instance : Option ℕ) (cursor : Cursor) (o : Option Cursor) → o ≡ Some cursor → is_number cursor.instance instance ≡ true → option_and_then (λ (c : Cursor). if is_meant instance c then Some c else None) o ≡ Some cursor
meant_in instance cursor o is numbered =
    ap (option_and_then (λ (c : Cursor). if is_meant instance c then Some c else None)) is ∙ ap (λ (b : Bool). if b then Some cursor else None) (meant_by instance cursor numbered)

one_sent : (rdb : List ℕ) (k : Statements) (name : List ℕ) (given : Given) (cursor : Cursor) → cursor_of name k.sections ≡ Some cursor → name_in given ≡ name → is_number cursor.instance (query_instance_in given) ≡ true
    → fetched rdb k given ≡ sent_block k name cursor (size_for given cursor)
one_sent rdb k name given cursor is named meant =
    ap (λ (n : List ℕ). fetched_at rdb k n (block_size_in given) (meant_cursor n (query_instance_in given) k.sections)) named
    ∙ ap (fetched_at rdb k name (block_size_in given)) (meant_in (query_instance_in given) cursor (cursor_of name k.sections) is meant)

moved_in : (count size : ℕ) (cursor : Cursor) (o : Option Section) → cursor_in o ≡ Some cursor → cursor_in (option_map (section_advanced count size) o) ≡ advanced count size cursor
moved_in count size cursor None is = absurd (cc is)
moved_in count size cursor (Some section) is = ap (option_and_then (advanced count size)) is

moved : (name : List ℕ) (s : Sections) (count size : ℕ) (cursor : Cursor) → cursor_of name s ≡ Some cursor → cursor_of name (after_advance name count size s) ≡ advanced count size cursor
moved name s count size cursor is = ap cursor_in (here name (section_advanced count size) s.sections) ∙ moved_in count size cursor (lookup (bytes_eq name) s.sections) is

-- the cursor behind it
behind : (rdb : List ℕ) (k : Statements) (name : List ℕ) (given : Given) (cursor : Cursor) → cursor_of name k.sections ≡ Some cursor → name_in given ≡ name → is_number cursor.instance (query_instance_in given) ≡ true
    → cursor_of name (fetched rdb k given).statements.sections ≡ advanced (count_for given cursor) (size_for given cursor) cursor
behind rdb k name given cursor is named meant =
    ap (λ (d : Done). cursor_of name d.statements.sections) (one_sent rdb k name given cursor is named meant)
    ∙ moved name k.sections (count_for given cursor) (size_for given cursor) cursor is

-- ---- all of them

abbrev next_of : ℕ → ℕ → Cursor → Cursor
next_of count size cursor = record cursor { place = cursor.place + count; block_size = size }

-- what is to be shown of CNTQRYs from here on
abbrev Reads : List ℕ → Statements → Cursor → List Given → Type 0
Reads rdb k cursor givens =
    (texts : List (List ℕ)) × ((fetched_in_turn rdb k givens).replies ≡ sent_in_turn texts) × (flat_map (λ (text : List ℕ). text) texts ≡ rows_text cursor.rows cursor.place (length cursor.rows.rows))

no_cursor : (o : Option Cursor) → o ≡ None → IsSome o → ⊥
no_cursor None is there = absurd (cc there)
no_cursor (Some c) is there = absurd (cc is)

still_open : (o : Option Cursor) (cursor : Cursor) → o ≡ Some cursor → o ≡ None → ⊥
still_open o cursor is none = absurd (cc (sym is ∙ none))

-- behind the end there are no more of them
none_more : (rdb : List ℕ) (name : List ℕ) (k : Statements) (givens : List Given) → cursor_of name k.sections ≡ None → IsReadBy rdb name k givens → (fetched_in_turn rdb k givens).replies ≡ []
none_more rdb name k [] none read = refl
none_more rdb name k (given ∷ givens) none read = absurd (no_cursor (cursor_of name k.sections) none read.0)

pub all_read : (rdb : List ℕ) (k : Statements) (name : List ℕ) (cursor : Cursor) (givens : List Given) → cursor_of name k.sections ≡ Some cursor → AllMean name cursor.instance givens → IsReadBy rdb name k givens
    → Reads rdb k cursor givens
all_read rdb k name cursor [] is mean read = absurd (still_open (cursor_of name k.sections) cursor is read)
all_read rdb k name cursor (given ∷ givens) is mean read =
    by (ends_behind cursor (count_for given cursor)) refl (behind rdb k name given cursor is mean.0 mean.1)
    (λ next at means. all_read rdb (fetched rdb k given).statements name next givens at means read.1)
  where
    by : (b : Bool) → ends_behind cursor (count_for given cursor) ≡ b
        → cursor_of name (fetched rdb k given).statements.sections ≡ cond b None (Some (next_of (count_for given cursor) (size_for given cursor) cursor))
        → ((next : Cursor) → cursor_of name (fetched rdb k given).statements.sections ≡ Some next → AllMean name next.instance givens → Reads rdb (fetched rdb k given).statements next givens)
        → Reads rdb k cursor (given ∷ givens)
    by true ended left more =
        let text : List ℕ = rows_text cursor.rows cursor.place (count_for given cursor) in
        let sent = one_sent rdb k name given cursor is mean.0 mean.1 in
        let block : Reply = some_rows cursor.rows cursor.place (count_for given cursor) in
        let replied : (fetched_in_turn rdb k (given ∷ givens)).replies ≡ sent_in_turn (text ∷ []) =
        ap (λ (rs : List Reply). (fetched rdb k given).replies ++ rs) (none_more rdb name (fetched rdb k given).statements givens left read.1)
        ∙ append-nil (fetched rdb k given).replies
        ∙ ap (λ (d : Done). d.replies) sent
        ∙ ap (λ (b : Bool). block ∷ ending b) ended in
        let whole : flat_map (λ (t : List ℕ). t) (text ∷ []) ≡ rows_text cursor.rows cursor.place (length cursor.rows.rows) =
        append-nil text ∙ rest_is cursor.rows cursor.place (count_for given cursor) (leb-true _ _ ended) ∙ sym (all_is cursor.rows cursor.place) in
        (text ∷ [], replied, whole)
    by false ended left more =
        let text : List ℕ = rows_text cursor.rows cursor.place (count_for given cursor) in
        let next : Cursor = next_of (count_for given cursor) (size_for given cursor) cursor in
        let sent = one_sent rdb k name given cursor is mean.0 mean.1 in
        let block : Reply = some_rows cursor.rows cursor.place (count_for given cursor) in
        let rest = more next left mean.2 in
        let others : List Reply = (fetched_in_turn rdb (fetched rdb k given).statements givens).replies in
        let replied : (fetched_in_turn rdb k (given ∷ givens)).replies ≡ sent_in_turn (text ∷ rest.0) =
        ap (λ (d : Done). d.replies ++ others) sent ∙ ap (λ (b : Bool). (block ∷ ending b) ++ others) ended ∙ ap (λ (rs : List Reply). block ∷ rs) rest.1 in
        (text ∷ rest.0, replied, joined cursor.rows cursor.place (count_for given cursor) (flat_map (λ (t : List ℕ). t) rest.0) rest.2)

pub send_all : FetchesSendAllRows
send_all = all_read

-- ---- with the block of OPNQRY in front

-- what is to be shown of a query
abbrev Queried : List ℕ → Statements → List ℕ → ℕ → RowList → List Given → Type 0
Queried rdb k name size l givens =
    (texts : List (List ℕ))
    × ((after_query rdb k name size (core.rows l)).replies ++ (fetched_in_turn rdb (after_query rdb k name size (core.rows l)).statements givens).replies
    ≡ query_opened (is_held_in (section_of name k.sections)) (k.sections.openings + 1) ∷ rows_description l ∷ sent_in_turn texts)
    × (flat_map (λ (text : List ℕ). text) texts ≡ rows_text l 0 (length l.rows))

-- the block in front, where it is all, and where more follows
first_all : (l : RowList) (n : ℕ) (b : Bool) → (n == 0) ≡ b → length l.rows ≤ n
    → (texts : List (List ℕ)) × ((if b then [] else some_rows l 0 n ∷ []) ++ end_of_query ≡ sent_in_turn texts) × (flat_map (λ (text : List ℕ). text) texts ≡ rows_text l 0 (length l.rows))
first_all l n true none le =
    let zero_is : n ≡ 0 = grind (arith, nat_tests, none) in
    let empty : length l.rows ≡ 0 = omega (arith, le, zero_is) in
    ([], refl, sym (ap (λ (m : ℕ). rows_text l 0 m) empty))
first_all l n false some le =
    let reaches : length l.rows ≤ 0 + n = omega (arith, le) in
    (rows_text l 0 n ∷ [], refl, append-nil (rows_text l 0 n) ∙ rest_is l 0 n reaches ∙ sym (all_is l 0))

some_left : (l : RowList) (n size : ℕ) → n ≡ rows_in_block l 0 size → n < length l.rows → (n == 0) ≡ false
some_left l n size is lt =
    let any = (is_block l 0 size).some in
    let all = length-drop 0 l.rows in
    let there : 0 < length (drop 0 l.rows) = omega (arith, all, lt) in
    let one = any there in
    let positive : 0 < n = omega (arith, is, one) in
    grind (arith, nat_tests, positive)

opened_at : (k : Statements) (name : List ℕ) (size : ℕ) (l : RowList) → opening_fault name k.sections ≡ None
    → cursor_of name (after_open name l size k.sections) ≡ Some (fresh l size (k.sections.openings + 1) (section_of name k.sections))
opened_at k name size l free = ap cursor_in (here name (with_cursor l (k.sections.openings + 1) size) k.sections.sections) ∙ by (section_of name k.sections) free
  where
    by : (o : Option Section) → fault_in o k.sections.openings ≡ None → cursor_in (option_map (with_cursor l (k.sections.openings + 1) size) o) ≡ Some (fresh l size (k.sections.openings + 1) o)
    by None fault = absurd (cc fault)
    by (Some section) fault = refl

pub query_read : QueriesSendAllRows
query_read rdb k name size l givens free mean read =
    by (ends_behind (fresh l size (k.sections.openings + 1) (section_of name k.sections)) (rows_in_block l 0 size)) refl
    (moved name (after_open name l size k.sections) (rows_in_block l 0 size) size (fresh l size (k.sections.openings + 1) (section_of name k.sections)) (opened_at k name size l free))
  where
    by : (b : Bool) → ends_behind (fresh l size (k.sections.openings + 1) (section_of name k.sections)) (rows_in_block l 0 size) ≡ b
        → cursor_of name (after_query rdb k name size (core.rows l)).statements.sections
        ≡ cond b None (Some (next_of (rows_in_block l 0 size) size (fresh l size (k.sections.openings + 1) (section_of name k.sections))))
        → Queried rdb k name size l givens
    by true ended left =
        let n : ℕ = rows_in_block l 0 size in
        let head : Reply = query_opened (is_held_in (section_of name k.sections)) (k.sections.openings + 1) in
        let after : Done = after_query rdb k name size (core.rows l) in
        let reach : length l.rows ≤ 0 + n = leb-true _ _ ended in
        let le : length l.rows ≤ n = omega (arith, reach) in
        let told_end : nat_le (length l.rows) n ≡ true = grind (arith, nat_tests, le) in
        let all = first_all l n (n == 0) refl le in
        let replied : after.replies ++ (fetched_in_turn rdb after.statements givens).replies ≡ head ∷ rows_description l ∷ sent_in_turn all.0 =
        ap (λ (rs : List Reply). after.replies ++ rs) (none_more rdb name after.statements givens left read)
        ∙ append-nil after.replies
        ∙ ap (λ (b : Bool). head ∷ rows_description l ∷ (if n == 0 then [] else some_rows l 0 n ∷ []) ++ ending b) told_end
        ∙ ap (λ (rs : List Reply). head ∷ rows_description l ∷ rs) all.1 in
        (all.0, replied, all.2)
    by false ended left =
        let n : ℕ = rows_in_block l 0 size in
        let head : Reply = query_opened (is_held_in (section_of name k.sections)) (k.sections.openings + 1) in
        let after : Done = after_query rdb k name size (core.rows l) in
        let next : Cursor = next_of n size (fresh l size (k.sections.openings + 1) (section_of name k.sections)) in
        let over : 0 + n < length l.rows = leb-false _ _ ended in
        let lt : n < length l.rows = omega (arith, over) in
        let told_more : nat_le (length l.rows) n ≡ false = grind (arith, nat_tests, lt) in
        let some : (n == 0) ≡ false = some_left l n size refl lt in
        let rest = all_read rdb after.statements name next givens left mean read in
        let others : List Reply = (fetched_in_turn rdb after.statements givens).replies in
        let replied : after.replies ++ others ≡ head ∷ rows_description l ∷ sent_in_turn (rows_text l 0 n ∷ rest.0) =
        ap (λ (b : Bool). (head ∷ rows_description l ∷ (if n == 0 then [] else some_rows l 0 n ∷ []) ++ ending b) ++ others) told_more
        ∙ ap (λ (b : Bool). (head ∷ rows_description l ∷ (if b then [] else some_rows l 0 n ∷ []) ++ []) ++ others) some
        ∙ ap (λ (rs : List Reply). head ∷ rows_description l ∷ some_rows l 0 n ∷ rs) rest.1 in
        (rows_text l 0 n ∷ rest.0, replied, joined l 0 n (flat_map (λ (t : List ℕ). t) rest.0) rest.2)
