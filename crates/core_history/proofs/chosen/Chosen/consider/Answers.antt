use Rattle.std.proofs.Common.{◌≡◌, ◌∷◌, ◌++◌, [], ℕ, List, Some, slice_get, if◌then◌else◌, refl, sym, subst, ap, ◌∙◌}
use Rattle.core_history.specs.declared.wish.Wish.{Wish}
use Rattle.core_history.specs.Gathered.{AreApart, AreMembers}
use Rattle.core_history.proofs.Members.{one_apart_more, one_member_more}
use Rattle.core_history.proofs.chosen.Chosen.consider.Goals as goal

pub returns-clause-members : goal.returns-clause-members
returns-clause-members g c ok wishes at asked are =
    let places = c.args.places.now in
    let old = c.args.self.now.members.items in
    let w = c.args.wish.now in
    let pushed : c.push.new.self.items ≡ old ++ w ∷ [] = c.push.ensures.items ∙ ap (λ b. if b then old ++ w ∷ [] else old) c.if-is_err.ensures.negation in
    subst (λ (ws : List Wish). AreMembers places wishes ws) (sym pushed)
    (one_member_more places wishes old w are (record { asked = (at, asked); known = c.if-not-is_known.ensures.known refl; numbered = c.if-not-is_known.ensures.numbered refl }))

pub returns-clause-apart : goal.returns-clause-apart
returns-clause-apart g c ok apart =
    let old = c.args.self.now.members.items in
    let w = c.args.wish.now in
    let pushed : c.push.new.self.items ≡ old ++ w ∷ [] = c.push.ensures.items ∙ ap (λ b. if b then old ++ w ∷ [] else old) c.if-is_err.ensures.negation in
    let never = subst (λ (ws : List Wish). (at : ℕ) (v : Wish) → slice_get ws at ≡ Some v → v.place ≡ w.place → ⊥) c.deref.ensures.value (c.if-is_there.ensures refl) in
    subst (λ (ws : List Wish). AreApart ws) (sym pushed) (one_apart_more old w apart never)
