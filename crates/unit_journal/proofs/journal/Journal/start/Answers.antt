use Rattle.std.proofs.Common.{arith}
use Rattle.drda_disk.proofs.Moments.{weaker}
use Rattle.drda_disk.proofs.Parts.{Torn-wider}
use Rattle.unit_journal.proofs.Spelling.{started}
use Rattle.unit_journal.proofs.journal.Journal.start.Goals as goal

pub returns-in_err-write_through-clause-any_moment : goal.returns-in_err-write_through-clause-any_moment
returns-in_err-write_through-clause-any_moment g c only =
    weaker _ _ _ _ (c.write_through.ensures.any_moment only) (λ image torn. Torn-wider c.args.region.at 1 c.args.region.at c.args.region.length _ image (omega arith) (omega arith) torn)

pub returns-in_err-write_through-clause-others : goal.returns-in_err-write_through-clause-others
returns-in_err-write_through-clause-others g c = Torn-wider c.args.region.at 1 c.args.region.at c.args.region.length _ _ (omega arith) (omega arith) c.write_through.ensures.others

pub returns-clause-empty : goal.returns-clause-empty
returns-clause-empty g c honest = record {
  modelled_disk = honest;
  durable = c.in_ok-write_through.ensures.durable;
  stands = started c.args.region _ _ c.requires.place.some c.requires.place.inside (c.in_ok-write_through.ensures.written honest);
  next = omega arith;
}

pub returns-clause-any_moment : goal.returns-clause-any_moment
returns-clause-any_moment g c only =
    weaker _ _ _ _ (c.write_through.ensures.any_moment only) (λ image torn. Torn-wider c.args.region.at 1 c.args.region.at c.args.region.length _ image (omega arith) (omega arith) torn)

pub returns-clause-others : goal.returns-clause-others
returns-clause-others g c = Torn-wider c.args.region.at 1 c.args.region.at c.args.region.length _ _ (omega arith) (omega arith) c.write_through.ensures.others
