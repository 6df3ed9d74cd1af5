-- Reading a cursor to its end.
use Rattle.std.proofs.Common.{◌≡◌, ℕ, ◌+◌, ◌-◌, ◌≤◌, ◌<◌, Bool, true, false, cond, List, [], ◌∷◌, ◌++◌, length, take, drop, Option, None, Some, refl, sym, ap, ◌∙◌, arith, length-drop, append-nil, take_all, drop-drop}
use Rattle.std.specs.List.{flat_map}
use Rattle.std.proofs.lemmas.Grind.{flat_map-append}
use Rattle.std.proofs.lemmas.List.{take-append-drop}
use borrow.Author.Tests.{leb-true, leb-false}
use Rattle.sqlam_replies.specs.Rows.{answered, rows_text}
use Rattle.tables.specs.RowList.{RowList}
use Rattle.sections.specs.Blocks.{ends_behind}
use Rattle.sections.specs.Fetching.{Sends, Sent, sent_text}
use Rattle.sections.specs.Kept.{Cursor}

-- all that remains from a place on
rest_is : (rows : RowList) (place n : ℕ) → length rows.rows ≤ place + n → rows_text rows place n ≡ flat_map (answered rows) (drop place rows.rows)
rest_is rows place n le =
    let all = length-drop place rows.rows in
    ap (flat_map (answered rows)) (take_all n (drop place rows.rows) (omega (arith, all, le)))

-- so many rows, and then the rest
split_at : (rows : RowList) (place n : ℕ) → rows_text rows place n ++ flat_map (answered rows) (drop (place + n) rows.rows) ≡ flat_map (answered rows) (drop place rows.rows)
split_at rows place n =
    let front = take n (drop place rows.rows) in
    ap (λ xs. rows_text rows place n ++ flat_map (answered rows) xs) (sym (drop-drop n place rows.rows))
    ∙ sym (flat_map-append (answered rows) front (drop n (drop place rows.rows)))
    ∙ ap (flat_map (answered rows)) (take-append-drop n (drop place rows.rows))

none_left : (block : Sent) (blocks : List Sent) (place : ℕ) (rows : RowList) → Sends None blocks None → sent_text rows place blocks ≡ []
none_left block [] place rows h = refl
none_left block (b ∷ blocks) place rows h = absurd h

sends_rest : (cursor : Cursor) (blocks : List Sent) → Sends (Some cursor) blocks None → sent_text cursor.rows cursor.place blocks ≡ flat_map (answered cursor.rows) (drop cursor.place cursor.rows.rows)
sends_rest cursor [] h = absurd cc
sends_rest cursor (block ∷ blocks) h = by (ends_behind cursor block.1) refl h.1 (λ next. sends_rest next blocks)
  where
    next_of : Cursor
    next_of = record cursor { place = cursor.place + block.1; block_size = block.0 }

    by : (b : Bool) → ends_behind cursor block.1 ≡ b → Sends (cond b None (Some next_of)) blocks None
        → ((next : Cursor) → Sends (Some next) blocks None → sent_text next.rows next.place blocks ≡ flat_map (answered next.rows) (drop next.place next.rows.rows))
        → rows_text cursor.rows cursor.place block.1 ++ sent_text cursor.rows (cursor.place + block.1) blocks ≡ flat_map (answered cursor.rows) (drop cursor.place cursor.rows.rows)
    by true is sends more =
        ap (λ xs. rows_text cursor.rows cursor.place block.1 ++ xs) (none_left block blocks (cursor.place + block.1) cursor.rows sends)
        ∙ append-nil _
        ∙ rest_is cursor.rows cursor.place block.1 (leb-true _ _ is)
    by false is sends more =
        ap (λ xs. rows_text cursor.rows cursor.place block.1 ++ xs) (more next_of sends) ∙ split_at cursor.rows cursor.place block.1

pub sends_all : (cursor : Cursor) (blocks : List Sent) → Sends (Some cursor) blocks None → sent_text cursor.rows cursor.place blocks ≡ rows_text cursor.rows cursor.place (length cursor.rows.rows)
sends_all cursor blocks h = sends_rest cursor blocks h ∙ sym (rest_is cursor.rows cursor.place (length cursor.rows.rows) (omega arith))

none_sent : (blocks : List Sent) (left : Option Cursor) → Sends None blocks left → length blocks ≡ 0
none_sent [] left h = refl
none_sent (b ∷ blocks) left h = absurd h

pub ends_soon : (cursor : Cursor) (blocks : List Sent) (left : Option Cursor) → Sends (Some cursor) blocks left → length blocks ≤ (length cursor.rows.rows - cursor.place) + 1
ends_soon cursor [] left h = omega arith
ends_soon cursor (block ∷ blocks) left h = by (ends_behind cursor block.1) refl h.1 (λ next. ends_soon next blocks left)
  where
    next_of : Cursor
    next_of = record cursor { place = cursor.place + block.1; block_size = block.0 }

    by : (b : Bool) → ends_behind cursor block.1 ≡ b → Sends (cond b None (Some next_of)) blocks left
        → ((next : Cursor) → Sends (Some next) blocks left → length blocks ≤ (length next.rows.rows - next.place) + 1)
        → length (block ∷ blocks) ≤ (length cursor.rows.rows - cursor.place) + 1
    by true is sends more = let none = none_sent blocks left sends in omega (arith, none)
    by false is sends more =
        let lt : cursor.place + block.1 < length cursor.rows.rows = leb-false _ _ is in
        let all = length-drop cursor.place cursor.rows.rows in
        let some : 0 < block.1 = h.0.some (omega (arith, lt, all)) in
        let le = more next_of sends in
        omega (arith, lt, some, le)
