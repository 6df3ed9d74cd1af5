use Rattle.std.proofs.Common.{◌≡◌, ◌≤◌, ◌<◌, ◌+◌, ℕ, List, length, take, drop, refl, sym, subst, ◌∙◌, arith}
use Rattle.std.proofs.lemmas.List.{take_rest}
use Rattle.conversation.specs.declared.fed.FedState.{FedState}
use Rattle.conversation.specs.declared.fed.FedState.TheVariants.{Later}
use Rattle.conversation.specs.Attended.{attended_by}
use Rattle.conversation.specs.Feeding.{Takes}
use Rattle.session_commands.specs.Settings.{Settings}
use Rattle.conversation.proofs.Pieces.{IsUnderWay, starts, stays_closed, stops, ends_so, goes_on}
use Rattle.conversation.proofs.Stepping.{within_piece}
use Rattle.conversation.proofs.feeding.feed.Goals as goal

below : (a b : ℕ) → a ≤ b → (a ≡ b → ⊥) → a < b
below a b le apart = omega (arith, le, apart)

pub returns-then-is_closed-clause-takes : goal.returns-then-is_closed-clause-takes
returns-then-is_closed-clause-takes g c = stays_closed g.A.Ask.asks c.args.front.now c.args.asker.now c.args.piece.now c.args.out.now.items c.requires (sym c.is_closed.ensures ∙ c.if-is_closed.true)

pub pieces-init : goal.pieces-init
pieces-init g c = record {
  settled = c.requires;
  settings = refl;
  under_way = starts g.A.Ask.asks c.args.front.now c.args.asker.now c.args.piece.now c.args.out.now.items c.requires (sym c.is_closed.ensures ∙ c.if-is_closed.false);
}

pub returns-in_default-clause-takes : goal.returns-in_default-clause-takes
returns-in_default-clause-takes g c =
    let settings = c.args.front.now.settings in
    let old = attended_by c.args.front.now c.args.asker.now in
    let between = attended_by c.pieces.front c.pieces.asker in
    subst (λ (z : List ℕ). Takes g.A.Ask.asks settings old c.args.piece.now c.args.out.now.items (record { taken = c.pieces.taken; state = Later }) between z) (sym c.reserve.ensures.items)
    (stops g.A.Ask.asks settings old c.args.piece.now c.args.out.now.items c.pieces.taken between c.pieces.out.items c.pieces.invariant.under_way)

pub returns-then-taken-piece-clause-takes : goal.returns-then-taken-piece-clause-takes
returns-then-taken-piece-clause-takes g c =
    let asks = g.A.Ask.asks in
    let old = attended_by c.args.front.now c.args.asker.now in
    let between = attended_by c.pieces.front c.pieces.asker in
    let new = attended_by c.hand_on-fed.new.front c.hand_on-fed.new.asker in
    let piece = c.args.piece.now in
    let fed = c.hand_on-fed.result in
    let settings = c.args.front.now.settings in
    let out = c.args.out.now.items in
    let out1 = c.reserve.new.self.items in
    let out2 = c.hand_on-fed.new.out.items in
    let takes = subst (λ (v : Settings). Takes asks v between (take fed.taken (drop c.pieces.taken piece)) out1 fed new out2) c.pieces.invariant.settings (rw take_rest at c.hand_on-fed.ensures.takes) in
    let under_way = subst (λ (z : List ℕ). IsUnderWay asks settings old piece out c.pieces.taken between z) (sym c.reserve.ensures.items) c.pieces.invariant.under_way in
    subst (λ (s : FedState). Takes asks settings old piece out (record { taken = c.pieces.taken + fed.taken; state = s }) new out2) c.in-Open.is
    (ends_so asks settings c.stays_read.ensures.fault old between new piece out out1 out2 c.pieces.taken fed under_way takes c.hand_on-fed.ensures.stuck (λ e. c.if-taken-piece.true))

pub pieces-preserved : goal.pieces-preserved
pieces-preserved g c =
    let asks = g.A.Ask.asks in
    let old = attended_by c.args.front.now c.args.asker.now in
    let between = attended_by c.pieces.front c.pieces.asker in
    let new = attended_by c.hand_on-fed.new.front c.hand_on-fed.new.asker in
    let piece = c.args.piece.now in
    let fed = c.hand_on-fed.result in
    let settings = c.args.front.now.settings in
    let out = c.args.out.now.items in
    let out1 = c.reserve.new.self.items in
    let out2 = c.hand_on-fed.new.out.items in
    let takes = subst (λ (v : Settings). Takes asks v between (take fed.taken (drop c.pieces.taken piece)) out1 fed new out2) c.pieces.invariant.settings (rw take_rest at c.hand_on-fed.ensures.takes) in
    let under_way = subst (λ (z : List ℕ). IsUnderWay asks settings old piece out c.pieces.taken between z) (sym c.reserve.ensures.items) c.pieces.invariant.under_way in
    record {
      settled = c.hand_on-fed.ensures.settled;
      settings = c.hand_on-fed.ensures.settings ∙ c.pieces.invariant.settings;
      under_way = goes_on asks settings c.stays_read.ensures.fault old between new piece out out1 out2 c.pieces.taken fed under_way takes c.in-Open.is
          (below (c.pieces.taken + fed.taken) (length piece) (within_piece piece c.pieces.taken fed.taken fed.taken c.pieces.invariant.under_way.within takes.within) c.if-taken-piece.false);
    }

pub returns-in_default-state : goal.returns-in_default-state
returns-in_default-state g c =
    let asks = g.A.Ask.asks in
    let old = attended_by c.args.front.now c.args.asker.now in
    let between = attended_by c.pieces.front c.pieces.asker in
    let new = attended_by c.hand_on-fed.new.front c.hand_on-fed.new.asker in
    let piece = c.args.piece.now in
    let fed = c.hand_on-fed.result in
    let settings = c.args.front.now.settings in
    let out = c.args.out.now.items in
    let out1 = c.reserve.new.self.items in
    let out2 = c.hand_on-fed.new.out.items in
    let takes = subst (λ (v : Settings). Takes asks v between (take fed.taken (drop c.pieces.taken piece)) out1 fed new out2) c.pieces.invariant.settings (rw take_rest at c.hand_on-fed.ensures.takes) in
    let under_way = subst (λ (z : List ℕ). IsUnderWay asks settings old piece out c.pieces.taken between z) (sym c.reserve.ensures.items) c.pieces.invariant.under_way in
    record {
      settled = c.hand_on-fed.ensures.settled;
      settings = c.hand_on-fed.ensures.settings ∙ c.pieces.invariant.settings;
      takes = ends_so asks settings c.stays_read.ensures.fault old between new piece out out1 out2 c.pieces.taken fed under_way takes c.hand_on-fed.ensures.stuck (λ e. absurd (c.in_default-state.not-Open e));
    }
