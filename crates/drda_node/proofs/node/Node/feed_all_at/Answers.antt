use Rattle.std.proofs.Common.{◌≡◌, Some, map, slice_get, slice_set, refl, ap, ◌∙◌, sym, subst}
use Rattle.session_commands.specs.Settings.{Settings}
use Rattle.conversation.specs.Attended.{attended_by}
use Rattle.conversation.specs.Pieces as pieces
use Rattle.drda_node.specs.Asking.{asked_after, asks, core_of}
use Rattle.drda_node.specs.Machine.{Machine}
use Rattle.drda_node.specs.Feeding.{shown_held}
use Rattle.drda_node.specs.Hearing.{attended_at}
use Rattle.drda_node.specs.declared.slot.Slot.{Slot}
use Rattle.drda_node.specs.Register.{machine, number_of, shown}
use Rattle.drda_node.proofs.Placed.{hears_there, still_there}
use Rattle.drda_node.proofs.Rows.{below_view, open_shows, same_machine, shows_open, view_at, view_kept, view_set}
use Rattle.drda_node.proofs.node.Node.feed_all_at.Goals as goal

pub returns-clause-hears : goal.returns-clause-hears
returns-clause-hears g c =
    let old = machine c.args.self.now in
    let items = c.args.self.now.places.items in
    let place = c.index_mut.result.now in
    let new = c.feed_all.new.self in
    let asker = c.feed_all.new.asker in
    let (h, here) = c.requires in
    let is : shown place ≡ Some h = ap shown c.index_mut.ensures.value ∙ view_at shown items c.args.place place (Some h) here in
    let shows = open_shows place (shows_open place h is) in
    let settings : place.front.settings ≡ c.args.self.now.settings = ap (λ (p : Slot). p.front.settings) c.index_mut.ensures.value ∙ c.args.self.now.alike c.args.place place (below_view shown items c.args.place (Some h) here) in
    let was : slice_get old.row c.args.place ≡ Some (Some (shown_held place.front)) = here ∙ ap (λ o. Some o) (sym is ∙ shows) in
    let now : Machine = record { settings = old.settings; row = map shown (slice_set items c.args.place new); given = old.given; core = core_of g.D.Disk.is_modelled asker } in
    let row : now ≡ attended_at old c.args.place (attended_by new.front (core_of g.D.Disk.is_modelled asker)) =
    same_machine old.settings (map shown (slice_set items c.args.place new)) (slice_set old.row c.args.place (Some (shown_held new.front))) old.given old.given (core_of g.D.Disk.is_modelled asker) (core_of g.D.Disk.is_modelled asker)
    (view_set shown items c.args.place new (Some (shown_held new.front)) (open_shows new c.feed_all.ensures.open)) refl refl in
    hears_there old now c.args.place (shown_held place.front) (attended_by new.front (core_of g.D.Disk.is_modelled asker)) was row c.feed_all.result c.args.piece.now c.args.out.now.items c.feed_all.new.out.items
    (subst (λ (v : Settings). pieces.HearsPiece (asks c.args.place) v (attended_by place.front (asked_after g.D.Disk.is_modelled c.args.self.now.calls.listed c.args.self.now.core)) c.args.piece.now c.args.out.now.items c.feed_all.result (attended_by new.front (core_of g.D.Disk.is_modelled asker)) c.feed_all.new.out.items) settings
    c.feed_all.ensures.hears)

pub returns-clause-there : goal.returns-clause-there
returns-clause-there g c =
    let old = machine c.args.self.now in
    let items = c.args.self.now.places.items in
    let place = c.index_mut.result.now in
    let new = c.feed_all.new.self in
    let asker = c.feed_all.new.asker in
    let (h, here) = c.requires in
    let now : Machine = record { settings = old.settings; row = map shown (slice_set items c.args.place new); given = old.given; core = core_of g.D.Disk.is_modelled asker } in
    let row : now ≡ attended_at old c.args.place (attended_by new.front (core_of g.D.Disk.is_modelled asker)) =
    same_machine old.settings (map shown (slice_set items c.args.place new)) (slice_set old.row c.args.place (Some (shown_held new.front))) old.given old.given (core_of g.D.Disk.is_modelled asker) (core_of g.D.Disk.is_modelled asker)
    (view_set shown items c.args.place new (Some (shown_held new.front)) (open_shows new c.feed_all.ensures.open)) refl refl in
    still_there old now c.args.place h (attended_by new.front (core_of g.D.Disk.is_modelled asker)) here row

pub returns-clause-numbers : goal.returns-clause-numbers
returns-clause-numbers g c =
    let place = c.index_mut.result.now in
    view_kept number_of c.args.self.now.places.items c.args.place place c.feed_all.new.self (c.feed_all.ensures.number ∙ ap number_of c.index_mut.ensures.value)
