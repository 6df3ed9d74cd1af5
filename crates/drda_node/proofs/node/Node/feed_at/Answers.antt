use Rattle.std.proofs.Common.{◌≡◌, Some, refl, ap, ◌∙◌, sym, subst}
use Rattle.session_commands.specs.Settings.{Settings}
use Rattle.conversation.specs.Attended.{attended_by}
use Rattle.conversation.specs.Feeding.{Takes}
use Rattle.drda_node.specs.Feeding.{shown_held}
use Rattle.drda_node.specs.Asking.{asked_after, asks, core_of}
use Rattle.drda_node.specs.declared.slot.Slot.{Slot}
use Rattle.drda_node.specs.Register.{shown, number_of}
use Rattle.drda_node.proofs.Rows.{below_view, view_at, view_set, view_kept, shows_open, open_shows, same_machine}
use Rattle.drda_node.proofs.node.Node.feed_at.Goals as goal

pub returns-clause-feeds : goal.returns-clause-feeds
returns-clause-feeds g c =
    let items = c.args.self.now.places.items in
    let place = c.index_mut.result.now in
    let new = c.feed.new.self in
    let (h, here) = c.requires in
    let is : shown place ≡ Some h = ap shown c.index_mut.ensures.value ∙ view_at shown items c.args.place place (Some h) here in
    let shows = open_shows place (shows_open place h is) in
    let settings : place.front.settings ≡ c.args.self.now.settings = ap (λ (p : Slot). p.front.settings) c.index_mut.ensures.value ∙ c.args.self.now.alike c.args.place place (below_view shown items c.args.place (Some h) here) in
    record {
      before = shown_held place.front;
      after = attended_by new.front (core_of g.D.Disk.is_modelled c.feed.new.asker);
      was = here ∙ ap (λ o. Some o) (sym is ∙ shows);
      row = same_machine c.args.self.now.settings _ _ _ _ _ _ (view_set shown items c.args.place new (Some (shown_held new.front)) (open_shows new c.feed.ensures.open)) refl refl;
      takes = subst (λ (v : Settings). Takes (asks c.args.place) v (attended_by place.front (asked_after g.D.Disk.is_modelled c.args.self.now.calls.listed c.args.self.now.core)) c.args.piece.now c.args.out.now.items c.feed.result (attended_by new.front (core_of g.D.Disk.is_modelled c.feed.new.asker)) c.feed.new.out.items) settings c.feed.ensures.takes;
    }

pub returns-clause-numbers : goal.returns-clause-numbers
returns-clause-numbers g c =
    let place = c.index_mut.result.now in
    view_kept number_of c.args.self.now.places.items c.args.place place c.feed.new.self (c.feed.ensures.number ∙ ap number_of c.index_mut.ensures.value)
