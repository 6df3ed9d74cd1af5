use Rattle.std.proofs.Common.{◌≡◌, List, Option, Some, refl, slice_get, sym, subst, ◌∙◌, inr}
use Rattle.core_history.specs.declared.count.Count.{Count}
use Rattle.core_history.specs.declared.wish.Wish.{Wish}
use Rattle.core_history.specs.Books.{Told}
use Rattle.core_history.specs.Gathered.{AreApart, AreMembers, Gathers, MakesTogether, count_at}
use Rattle.core_history.proofs.Opening.{gathers_on, still}
use Rattle.core_history.proofs.book.Book.make_together.Goals as goal

pub invariant_of-self-in_default : goal.invariant_of-self-in_default
invariant_of-self-in_default g c =
    let inside = c.self.inside in
    still g.D.Disk.is_modelled g.D.Disk.life inside.core inside.opening.value c.ask_together.new.core inside.calls.listed inside.places.items inside.left.items inside.next
    c.calls_go_on.ensures c.self.invariant (c.ask_together.ensures.none c.in_default.is) c.ask_together.ensures.journaled

pub list_all-requires-clause-known : goal.list_all-requires-clause-known
list_all-requires-clause-known g c at member stands =
    let there = c.choose.ensures.members c.if-not-choose.false at member (subst (λ (ws : List Wish). slice_get ws at ≡ Some member) (c.deref-2.ensures.value ∙ c.ask_together.ensures.members) stands) in
    record { counted = subst (λ (ps : List (Option Count)). slice_get ps member.place ≡ Some (Some (count_at member))) c.deref.ensures.value there.known; numbered = there.numbered }

pub invariant_of-self-2 : goal.invariant_of-self-2
invariant_of-self-2 g c =
    let inside = c.self.inside in
    let members = c.deref-2.result.now in
    let f = c.in-Some.has_failed in
    let same : members ≡ c.choose.new.self.members.items = c.deref-2.ensures.value ∙ c.ask_together.ensures.members in
    let together = subst (λ (ws : List Wish). MakesTogether g.D.Disk.life inside.core ws f c.ask_together.new.core) (sym same) c.in-Some.ensures.some in
    gathers_on g.D.Disk.is_modelled g.D.Disk.life c.answers_are_serial.ensures.lead_on inside.core inside.opening.value c.ask_together.new.core inside.calls.listed c.list_all.new.calls.listed inside.places.items c.list_all.new.places.items inside.left.items
    c.list_all.new.left.items inside.next members f c.list_all.ensures.listed.calls c.list_all.ensures.places_stay c.list_all.ensures.left_stay (c.list_all.ensures.counted inside.next) (c.list_all.ensures.are_left inside.next) c.list_all.ensures.failures
    c.calls_go_on.ensures c.self.invariant together c.ask_together.ensures.journaled

pub returns-clause-gathers : goal.returns-clause-gathers
returns-clause-gathers g c =
    let inside = c.self.inside in
    let members = c.deref-2.result.now in
    let f = c.in-Some.has_failed in
    let chosen = c.if-not-choose.false in
    let same : members ≡ c.choose.new.self.members.items = c.deref-2.ensures.value ∙ c.ask_together.ensures.members in
    let book : Told g.row.D.Denot = record { core = inside.core; opening = inside.opening.value; calls = inside.calls.listed; places = inside.places.items; left = inside.left.items; next = inside.next } in
    let new : Told g.row.D.Denot =
    record { core = c.ask_together.new.core; opening = inside.opening.value; calls = c.list_all.new.calls.listed; places = c.list_all.new.places.items; left = c.list_all.new.left.items; next = inside.next } in
    inr
    (subst (λ (b : Told g.row.D.Denot). Gathers {D = g.row.D.Denot} g.D.Disk.life b c.args.wishes.now new) c.self.view_is
    (record {
      members = members;
      each = subst (λ (ws : List Wish). AreMembers inside.places.items c.args.wishes.now ws) (sym same)
          (subst (λ (ps : List (Option Count)). AreMembers ps c.args.wishes.now c.choose.new.self.members.items) c.deref.ensures.value (c.choose.ensures.members chosen));
      apart = subst (λ (ws : List Wish). AreApart ws) (sym same) (c.choose.ensures.apart chosen);
      has_failed = f;
      core = subst (λ (ws : List Wish). MakesTogether g.D.Disk.life inside.core ws f c.ask_together.new.core) (sym same) c.in-Some.ensures.some;
      calls = c.list_all.ensures.listed.calls;
      places = c.list_all.ensures.listed.places;
      left = c.list_all.ensures.listed.left;
      opening = refl;
      next = refl;
    }))
