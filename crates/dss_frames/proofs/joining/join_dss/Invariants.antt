use Rattle.std.proofs.Common.{◌≡◌, ◌≤◌, ◌<◌, ◌+◌, ◌-◌, ◌++◌, ℕ, List, drop, length, vec_len}
use Rattle.dss_frames.specs.Dss.{Dss, IsDss}
use Rattle.dss_frames.proofs.Joins.{JoinsSoFar}
use Rattle.dss_frames.proofs.joining.join_dss.Given as goal

abbrev pub invariant-joining : goal.invariant-joining
invariant-joining l = record {
  down : l.behind ≤ l.next;
  before : l.next ≤ l.end;
  above : l.to + 6 ≤ l.behind;
  further : l.from < l.next;
  len : vec_len l.buf ≡ vec_len l.fn.buf;
  kept : drop l.end l.buf.items ≡ drop l.end l.fn.buf.items;
  joined : (dss : Dss) (part after : List ℕ) → drop l.from l.fn.buf.items ≡ part ++ after → l.from + length part ≤ l.end → IsDss part dss
      → JoinsSoFar l.fn.buf.items l.buf.items l.from l.to l.next l.behind l.more dss part after;
}

abbrev pub decreases-joining : goal.decreases-joining
decreases-joining l = l.end - l.next
