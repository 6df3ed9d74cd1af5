use Rattle.std.proofs.Common.{◌≡◌, ◌<◌, ◌+◌, ◌^◌, Bool, true, false, length, refl, sym, subst, ap, ◌∙◌, arith}
use Rattle.std.specs.Prelude.{IfOk, OnErr}
use Rattle.drda_node.specs.declared.node.Node.{Node}
use Rattle.drda_node.specs.Machine.{is_full}
use Rattle.drda_node.specs.Register.{shown, machine, numbers, Opens}
use Rattle.drda_node.proofs.Rows.{length_view, full_when, not_full}
use Rattle.drda_node.proofs.node.Node.open_conversation.Goals as goal

not_true : (b : Bool) → (b ≡ true → ⊥) → b ≡ false
not_true true no_such = absurd (no_such refl)
not_true false no_such = refl

pub returns-then-is_free-clause-opened : goal.returns-then-is_free-clause-opened
returns-then-is_free-clause-opened g c =
    subst (λ (n : Node _ _). IfOk c.open_at.result (λ id. Opens (machine n) (numbers n) id (machine c.open_at.new.self) (numbers c.open_at.new.self))) c.loop-place.invariant.same c.open_at.ensures.opened

pub returns-then-is_free-clause-refused : goal.returns-then-is_free-clause-refused
returns-then-is_free-clause-refused g c =
    subst (λ (n : Node _ _). OnErr c.open_at.result (machine c.open_at.new.self ≡ machine n)) c.loop-place.invariant.same c.open_at.ensures.refused

pub returns-then-is_free-clause-none_given : goal.returns-then-is_free-clause-none_given
returns-then-is_free-clause-none_given g c =
    subst (λ (n : Node _ _). OnErr c.open_at.result (numbers c.open_at.new.self ≡ numbers n)) c.loop-place.invariant.same c.open_at.ensures.none_given

pub returns-then-is_free-clause-too_many : goal.returns-then-is_free-clause-too_many
returns-then-is_free-clause-too_many g c =
    let free = c.is_free.ensures.0 c.if-is_free.true in (
      λ many. absurd (c.open_at.ensures.not_full many),
      λ full. absurd (not_full (machine c.loop-place.self).row c.loop-place.place free (subst (λ (n : Node _ _). is_full (machine n) ≡ true) (sym c.loop-place.invariant.same) full)),
    )

pub returns-clause-refused : goal.returns-clause-refused
returns-clause-refused g c = ap machine c.loop-place.invariant.same

pub returns-clause-none_given : goal.returns-clause-none_given
returns-clause-none_given g c = ap numbers c.loop-place.invariant.same

pub returns-clause-too_many : goal.returns-clause-too_many
returns-clause-too_many g c =
    let count : length (machine c.loop-place.self).row ≡ 64 = length_view shown c.loop-place.self.places.items ∙ c.loop-place.self.sixty_four in
    let full = full_when (machine c.loop-place.self).row (λ k below free. let under : k < c.loop-place.place = omega (arith, below, count, c.loop-place-test.false) in c.loop-place.invariant.taken k under free) in (
      λ many. subst (λ (n : Node _ _). is_full (machine n) ≡ true) c.loop-place.invariant.same full,
      λ all. refl,
    )

pub returns-then-is_free-clause-no_memory : goal.returns-then-is_free-clause-no_memory
returns-then-is_free-clause-no_memory g c =
    let free = c.is_free.ensures.0 c.if-is_free.true in
    let same = c.loop-place.invariant.same in (
      λ none. (
        subst (λ (n : Node _ _). is_full (machine n) ≡ false) same (not_true (is_full (machine c.loop-place.self)) (λ full. not_full (machine c.loop-place.self).row c.loop-place.place free full)),
        subst (λ (n : Node _ _). (machine n).given + 1 ≡ 2 ^ 64) same (c.open_at.ensures.no_memory.0 none),
      ),
      λ last. c.open_at.ensures.no_memory.1 (subst (λ (n : Node _ _). (machine n).given + 1 ≡ 2 ^ 64) (sym same) last.1),
    )

pub returns-clause-no_memory : goal.returns-clause-no_memory
returns-clause-no_memory g c =
    let count : length (machine c.loop-place.self).row ≡ 64 = length_view shown c.loop-place.self.places.items ∙ c.loop-place.self.sixty_four in
    let full = full_when (machine c.loop-place.self).row (λ k below free. let under : k < c.loop-place.place = omega (arith, below, count, c.loop-place-test.false) in c.loop-place.invariant.taken k under free) in (
      λ none. absurd (cc none),
      λ last. let both : true ≡ false = sym (subst (λ (n : Node _ _). is_full (machine n) ≡ true) c.loop-place.invariant.same full) ∙ last.0 in absurd (cc both),
    )
