use Rattle.std.proofs.Common.{rules, ◌≡◌, ℕ, List, ap, ◌∙◌, get_or}
use Rattle.std.specs.Prelude.{bytes_eq, position, slice_set}
use Rattle.recovery.specs.Durable.{turned}
use Rattle.recovery.specs.Replay.{doubt_in, doubts_in}
use Rattle.recovery.specs.declared.prepared.PreparedUnit.{PreparedUnit}
use Rattle.recovery.proofs.Doubting.{unit_there, unit_turned}
use Rattle.recovery.proofs.prepared.replace_at.Goals as goal

pub returns-clause-unit : goal.returns-clause-unit
returns-clause-unit c =
    let units = c.args.units.now.items in
    let at : c.replace.result ≡ get_or units c.args.place c.replace.result = search rules in
    unit_there c.args.xid.now units c.args.place c.replace.result c.requires.place at

pub returns-clause-turned : goal.returns-clause-turned
returns-clause-turned c =
    let units = c.args.units.now.items in
    let place : position (λ (u : PreparedUnit). bytes_eq c.args.unit.xid u.xid) units ≡ _ = ap (λ (x : List ℕ). position (λ (u : PreparedUnit). bytes_eq x u.xid) units) c.requires.same ∙ c.requires.place in
    ap (λ (u : PreparedUnit). doubts_in (slice_set units c.args.place u)) c.replace.ensures.after
    ∙ unit_turned c.args.unit units c.args.place place
    ∙ ap (λ (x : List ℕ). turned (doubts_in units) x (doubt_in c.args.unit).1) c.requires.same
