use Rattle.std.proofs.Common.{sym, ◌∙◌, arith}
use Rattle.xa_calls.specs.Xid.{begins_with_xid, xid_length}
use Rattle.xa_calls.proofs.Reading.{found, none_there, tested, untested}
use Rattle.xa_calls.proofs.xid.Xid.read.Goals as goal

pub returns-in-Some-clause-ok : goal.returns-in-Some-clause-ok
returns-in-Some-clause-ok c =
    let text = c.args.text.now in
    let t = tested (begins_with_xid text) (xid_length text) c.in-Some.length (sym c.length_in.ensures ∙ c.in-Some.is) in
    let f = found text (λ i. omega (arith, c.type_inv.text i)) t.0 in
    rw (c.holding.ensures, ← t.1) ((f.parts, f.are, f.written), (f.rest, f.split))

pub returns-in-None-clause-err : goal.returns-in-None-clause-err
returns-in-None-clause-err c =
    let text = c.args.text.now in
    none_there text (untested (begins_with_xid text) (xid_length text) (sym c.length_in.ensures ∙ c.in-None.is))
