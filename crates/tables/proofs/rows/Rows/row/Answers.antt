-- There is an end for each row.
use Rattle.std.proofs.Common.{ap, arith, length}
use Rattle.tables.proofs.Pieces.{pieces_count}
use Rattle.tables.proofs.rows.Rows.row.Goals as goal

pub piece-requires-clause-inside : goal.piece-requires-clause-inside
piece-requires-clause-inside c =
    let count = pieces_count 0 c.self.inside.ends.items c.self.inside.bytes.items in
    let same = ap length c.self.view_is in
    let size = ap length c.as_slice-2.ensures.value in
    let lt = c.requires in
    omega (arith, count, same, size, lt)
