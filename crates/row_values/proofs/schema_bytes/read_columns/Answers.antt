-- A column is read, or none, and then there are not so many.
use Rattle.std.proofs.Common.{◌+◌, ◌-◌, ℕ, List, ap, map, sym, ◌∙◌, arith}
use Rattle.row_values.specs.Column.{Column, column_of}
use Rattle.row_values.specs.Bytes.{columns_at}
use Rattle.row_values.proofs.ByteSteps.{before, columns_go, columns_stop, pushed}
use Rattle.row_values.proofs.schema_bytes.read_columns.Goals as goal

pub returns-in_default : goal.returns-in_default
returns-in_default c =
    let lt = c.loop-test.true in
    sym c.loop.invariant ∙ columns_stop (map column_of c.loop.columns.items) (c.args.count - c.loop.counter) (c.args.count - (c.loop.counter + 1)) c.loop.rest.now (omega arith) c.in_default.ensures

pub loop-preserved : goal.loop-preserved
loop-preserved c =
    let lt = c.loop-test.true in
    let schema : Column = record { name = c.in-Some.name.now; kind = c.in-Some.kind; is_nullable = c.in-Some.is_nullable; limit = c.in-Some.length } in
    let more = pushed c.loop.columns.items c.push.new.self.items _ schema c.in_ok-push.ensures.items
    (ap (λ (n : List ℕ). let s : Column = record { name = n; kind = c.in-Some.kind; is_nullable = c.in-Some.is_nullable; limit = c.in-Some.length } in s) c.in_ok-name.ensures.ok) in
    ap (λ (cs : List Column). before cs (columns_at (c.args.count - (c.loop.counter + 1)) c.in-Some.after.now)) more
    ∙ columns_go (map column_of c.loop.columns.items) (c.args.count - c.loop.counter) (c.args.count - (c.loop.counter + 1)) c.loop.rest.now (schema, c.in-Some.after.now) (omega arith) c.in-Some.ensures
    ∙ c.loop.invariant
