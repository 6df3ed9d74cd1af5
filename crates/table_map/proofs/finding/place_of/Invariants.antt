use Rattle.std.proofs.Common.{◌≡◌, [], map, ◌-◌, ◌<◌, ◌≤◌, length, get_or, Less}
use Rattle.key_map.specs.Slots.{by_bytes}
use Rattle.table_map.proofs.finding.place_of.Given as goal

abbrev pub invariant-loop-low : goal.invariant-loop-low
invariant-loop-low l = record {
  between : l.low ≤ l.high;
  within : l.high ≤ length l.keys;
  behind : 0 < l.low → by_bytes l.key (get_or (map (λ k. k.items) l.keys) (l.low - 1) []) ≡ Less → ⊥;
  before : l.high < length l.keys → by_bytes l.key (get_or (map (λ k. k.items) l.keys) l.high []) ≡ Less;
}

abbrev pub decreases-loop-low : goal.decreases-loop-low
decreases-loop-low l = l.high - l.low
