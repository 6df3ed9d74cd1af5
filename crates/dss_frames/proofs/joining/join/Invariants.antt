use Rattle.std.proofs.Common.{◌≡◌, ◌≤◌, ◌-◌, List, drop, vec_len}
use Rattle.drda_words.specs.Place.{part}
use Rattle.dss_frames.specs.Dss.{Dss, AreDsss}
use Rattle.dss_frames.proofs.Commands.{AllSoFar}
use Rattle.dss_frames.proofs.joining.join.Given as goal

abbrev pub invariant-joining : goal.invariant-joining
invariant-joining l = record {
  down : l.to ≤ l.from;
  before : l.from ≤ l.end;
  above : l.start ≤ l.to;
  len : vec_len l.buf ≡ vec_len l.fn.buf;
  kept : drop l.end l.buf.items ≡ drop l.end l.fn.buf.items;
  joined : (dsss : List Dss) → AreDsss (part l.fn.buf.items l.start l.fn.size) dsss → AllSoFar l.fn.buf.items l.buf.items l.start l.from l.to l.end dsss;
}

abbrev pub decreases-joining : goal.decreases-joining
decreases-joining l = l.end - l.from
