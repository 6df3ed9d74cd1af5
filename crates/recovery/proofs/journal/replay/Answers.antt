-- The next record leads on, or the records stop at its gate.
use Rattle.std.proofs.Common.{List, sym, subst, Ok, Err}
use Rattle.unit_journal.specs.Record.{entries_of}
use Rattle.unit_journal.specs.declared.record.Record.{Record}
use Rattle.unit_records.proofs.Lengths.{first_left}
use Rattle.paged_tables.specs.PagedTables.{store_in}
use Rattle.paged_tables.specs.TablesByName.{PagesStay}
use Rattle.paged_tables.proofs.Pages.{and_stay, pages_stay_themselves}
use Rattle.recovery.specs.Durable.{Durable}
use Rattle.recovery.specs.Known.{AreKnown}
use Rattle.recovery.specs.Replay.{durable_of, pages_of}
use Rattle.recovery.specs.Journal.{Leads, Replays, StopsAt}
use Rattle.recovery.specs.declared.journal.ReplayError.TheVariants.{Damaged}
use Rattle.recovery.proofs.Leading.{finds, known_nowhere, leads_nowhere, stops_behind, stops_here}
use Rattle.recovery.proofs.journal.replay.Goals as goal

pub loop-left-init : goal.loop-left-init
loop-left-init c = record {
  pages = subst (PagesStay c.args.checkpoint.tables) (sym c.over-state.ensures.pages) (pages_stay_themselves c.args.checkpoint.tables);
  known = λ here. here;
  leads = λ d here. subst (λ (s : Durable). Leads s (entries_of c.args.records.now) d) c.over-state.ensures.durable here;
  stops = λ at here. subst (λ (s : Durable). StopsAt c.args.layout s c.args.records.now at) c.over-state.ensures.durable here;
}

pub loop-left-preserved : goal.loop-left-preserved
loop-left-preserved c =
    let first = first_left c.loop-left.left.now c.entry-item.result c.in-len1-up.len_at_least c.entry-item.is in
    let old = durable_of c.loop-left.state in
    let new = durable_of c.read_and_step.new.state in
    record {
      pages = and_stay c.args.checkpoint.tables (pages_of c.loop-left.state) (pages_of c.read_and_step.new.state) c.loop-left.invariant.pages c.read_and_step.ensures.pages;
      known = λ rest. c.loop-left.invariant.known (subst (λ (l : List Record). AreKnown c.args.layout (entries_of l)) (sym first) (c.in-Ok.ensures.goes.0, rest));
      leads = λ d rest. c.loop-left.invariant.leads d (subst (λ (l : List Record). Leads old (entries_of l) d) (sym first) (new, c.in-Ok.ensures.goes.1, rest));
      stops = λ at rest. c.loop-left.invariant.stops at (subst (λ (l : List Record). StopsAt c.args.layout old l at) (sym first) (stops_behind c.args.layout old new c.entry-item.result _ at c.in-Ok.ensures.goes.0 c.in-Ok.ensures.goes.1 rest));
    }

pub returns-in-Err-Damaged-clause-replays : goal.returns-in-Err-Damaged-clause-replays
returns-in-Err-Damaged-clause-replays c =
    let first = first_left c.loop-left.left.now c.entry-item.result c.in-len1-up.len_at_least c.entry-item.is in
    let old = durable_of c.loop-left.state in
    let at = c.entry-item.result.at in
    let none = rw c.in-Err-Damaged.field-0-is at c.in-Err-Damaged.ensures.goes in
    c.loop-left.invariant.stops at (subst (λ (l : List Record). StopsAt c.args.layout old l at) (sym first) (stops_here c.args.layout old c.entry-item.result _ none))

pub returns-in-Err-Damaged-clause-finds : goal.returns-in-Err-Damaged-clause-finds
returns-in-Err-Damaged-clause-finds c =
    let first = first_left c.loop-left.left.now c.entry-item.result c.in-len1-up.len_at_least c.entry-item.is in
    let old = durable_of c.loop-left.state in
    let at = c.entry-item.result.at in
    let none = rw c.in-Err-Damaged.field-0-is at c.in-Err-Damaged.ensures.goes in
    let told = c.loop-left.invariant.stops at (subst (λ (l : List Record). StopsAt c.args.layout old l at) (sym first) (stops_here c.args.layout old c.entry-item.result _ none)) in
    finds c.records_lead_one_way.ensures.one c.records_lead_one_way.ensures.damage c.args.layout (store_in c.args.checkpoint) c.args.records.now (Err (Damaged at)) told

pub returns-clause-replays : goal.returns-clause-replays
returns-clause-replays c = (
  c.loop-left.invariant.known (known_nowhere c.args.layout c.loop-left.left.now c.in_default.len_below),
  c.loop-left.invariant.leads (durable_of c.loop-left.state) (leads_nowhere (durable_of c.loop-left.state) c.loop-left.left.now c.in_default.len_below),
)

pub returns-clause-finds : goal.returns-clause-finds
returns-clause-finds c =
    let told : Replays c.args.layout (store_in c.args.checkpoint) c.args.records.now (Ok c.loop-left.state) = (
      c.loop-left.invariant.known (known_nowhere c.args.layout c.loop-left.left.now c.in_default.len_below),
      c.loop-left.invariant.leads (durable_of c.loop-left.state) (leads_nowhere (durable_of c.loop-left.state) c.loop-left.left.now c.in_default.len_below),
    ) in
    finds c.records_lead_one_way.ensures.one c.records_lead_one_way.ensures.damage c.args.layout (store_in c.args.checkpoint) c.args.records.now (Ok c.loop-left.state) told
