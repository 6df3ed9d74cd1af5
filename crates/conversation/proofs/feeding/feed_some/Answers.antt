use Rattle.std.proofs.Common.{◌≡◌, ◌+◌, ℕ, List, [], length, take, ap, sym, subst, ◌∙◌, refl, inl, inr, arith, rules}
use Rattle.std.proofs.lemmas.List.{take_rest}
use Rattle.core_calls.specs.Answer.{Answer}
use Rattle.core_calls.specs.Call.{Call}
use Rattle.session_commands.specs.Settings.{Settings}
use Rattle.conversation.specs.Held.{Held}
use Rattle.conversation.specs.declared.fed.FedState.{FedState}
use Rattle.conversation.specs.declared.fed.FedState.TheVariants.{Later}
use Rattle.conversation.specs.declared.fed.Heard.TheVariants as heard_as
use Rattle.conversation.specs.declared.fed.HeardSome.{HeardSome}
use Rattle.conversation.specs.Attended.{Attended, attended_by}
use Rattle.conversation.specs.Hearing.{IsShortReply}
use Rattle.conversation.specs.Feeding.{Told, bytes_behind}
use Rattle.conversation.specs.Pieces.{HearsPiece}
use Rattle.conversation.proofs.Stepping.{told_start, within_piece}
use Rattle.conversation.proofs.Listening.{all, further, last, part, said_behind}
use Rattle.conversation.proofs.feeding.feed_some.Goals as goal

-- whoever is asked has rested
rested : {A : Type 0} (asks : A → Call → Answer → A → Type 0) (settings : Settings) (a : Attended A) (front : Held) (asker asker' : A) (piece out out' : List ℕ) (so_far told : HeardSome)
    → told ≡ so_far → asker' ≡ asker → HearsPiece asks settings a (take so_far.taken piece) out so_far.heard (attended_by front asker) out'
    → HearsPiece asks settings a (take told.taken piece) out told.heard (attended_by front asker') out'
rested asks settings a front asker asker' piece out out' so_far told is same heard =
    subst (λ (r : HeardSome). HearsPiece asks settings a (take r.taken piece) out r.heard (attended_by front asker') out') (sym is)
    (subst (λ (x : _). HearsPiece asks settings a (take so_far.taken piece) out so_far.heard (attended_by front x) out') (sym same) heard)

pub feeding-init : goal.feeding-init
feeding-init g c = record {
  within = omega arith;
  settled = c.requires;
  settings = refl;
  heard = told_start g.A.Ask.asks c.args.front.now c.args.asker.now c.args.out.now.items c.requires;
}

pub returns-in_default-clause-hears : goal.returns-in_default-clause-hears
returns-in_default-clause-hears g c =
    let asks = g.A.Ask.asks in
    let settings = c.args.front.now.settings in
    let a = attended_by c.args.front.now c.args.asker.now in
    let b = attended_by c.feeding.front c.feeding.asker in
    let piece = c.args.piece.now in
    let out = c.args.out.now.items in
    let told = subst (λ (z : List ℕ). Told asks settings a (take c.feeding.at piece) out [] b z) (sym c.reserve.ensures.items) c.feeding.invariant.heard in
    rested asks settings a c.feeding.front c.feeding.asker c.so_far.new.asker piece out c.reserve.new.self.items _ c.so_far.result c.so_far.ensures.told c.so_far.ensures.rests
    (part asks settings a b (take c.feeding.at piece) out c.reserve.new.self.items Later told (inl refl))

pub returns-then-at-piece-clause-hears : goal.returns-then-at-piece-clause-hears
returns-then-at-piece-clause-hears g c =
    let asks = g.A.Ask.asks in
    let settings = c.args.front.now.settings in
    let a = attended_by c.args.front.now c.args.asker.now in
    let b = attended_by c.feeding.front c.feeding.asker in
    let new = attended_by c.hand_on-fed.new.front c.hand_on-fed.new.asker in
    let piece = c.args.piece.now in
    let fed = c.hand_on-fed.result in
    let out = c.args.out.now.items in
    let out1 = c.reserve.new.self.items in
    let out2 = c.hand_on-fed.new.out.items in
    let count = c.feeding.at + fed.taken in
    let told : Told asks settings a (take count piece) out (bytes_behind fed.state) new out2 =
    further asks settings c.stays_read.ensures.fault a b new piece out c.feeding.out.items out1 out2 c.feeding.at fed c.feeding.front.settings c.feeding.invariant.settings c.reserve.ensures.items c.feeding.invariant.heard (rw take_rest at c.hand_on-fed.ensures.takes) in
    rested asks settings a c.hand_on-fed.new.front c.hand_on-fed.new.asker c.so_far-then-at-piece.new.asker piece out out2 _ c.so_far-then-at-piece.result c.so_far-then-at-piece.ensures.told c.so_far-then-at-piece.ensures.rests
    (all asks settings a new (take count piece) out out2 fed.taken fed.state told c.hand_on-fed.ensures.takes.state c.in-Open.is)

pub feeding-preserved-in-Open : goal.feeding-preserved-in-Open
feeding-preserved-in-Open g c =
    let asks = g.A.Ask.asks in
    let settings = c.args.front.now.settings in
    let a = attended_by c.args.front.now c.args.asker.now in
    let b = attended_by c.feeding.front c.feeding.asker in
    let new = attended_by c.hand_on-fed.new.front c.hand_on-fed.new.asker in
    let piece = c.args.piece.now in
    let fed = c.hand_on-fed.result in
    let out = c.args.out.now.items in
    let out1 = c.reserve.new.self.items in
    let out2 = c.hand_on-fed.new.out.items in
    let count = c.feeding.at + fed.taken in
    let told : Told asks settings a (take count piece) out (bytes_behind fed.state) new out2 =
    further asks settings c.stays_read.ensures.fault a b new piece out c.feeding.out.items out1 out2 c.feeding.at fed c.feeding.front.settings c.feeding.invariant.settings c.reserve.ensures.items c.feeding.invariant.heard (rw take_rest at c.hand_on-fed.ensures.takes) in
    record {
      within = within_piece piece c.feeding.at _ fed.taken c.feeding.invariant.within c.hand_on-fed.ensures.within;
      settled = c.hand_on-fed.ensures.settled;
      settings = c.hand_on-fed.ensures.settings ∙ c.feeding.invariant.settings;
      heard = subst (λ (s : FedState). Told asks settings a (take count piece) out (bytes_behind s) new out2) c.in-Open.is told;
    }

pub returns-in-Closed-clause-hears : goal.returns-in-Closed-clause-hears
returns-in-Closed-clause-hears g c =
    let asks = g.A.Ask.asks in
    let settings = c.args.front.now.settings in
    let a = attended_by c.args.front.now c.args.asker.now in
    let b = attended_by c.feeding.front c.feeding.asker in
    let new = attended_by c.hand_on-fed.new.front c.hand_on-fed.new.asker in
    let piece = c.args.piece.now in
    let fed = c.hand_on-fed.result in
    let out = c.args.out.now.items in
    let out1 = c.reserve.new.self.items in
    let out2 = c.hand_on-fed.new.out.items in
    let count = c.feeding.at + fed.taken in
    let told : Told asks settings a (take count piece) out (bytes_behind fed.state) new out2 =
    further asks settings c.stays_read.ensures.fault a b new piece out c.feeding.out.items out1 out2 c.feeding.at fed c.feeding.front.settings c.feeding.invariant.settings c.reserve.ensures.items c.feeding.invariant.heard (rw take_rest at c.hand_on-fed.ensures.takes) in
    rested asks settings a c.hand_on-fed.new.front c.hand_on-fed.new.asker c.so_far-in-Closed.new.asker piece out out2 _ c.so_far-in-Closed.result c.so_far-in-Closed.ensures.told c.so_far-in-Closed.ensures.rests
    (last asks settings c.stays_read.ensures.fault a new (take count piece) out out2 fed.taken fed.state told c.hand_on-fed.ensures.takes.state c.in-Closed.is)

pub returns-in-Later-clause-hears : goal.returns-in-Later-clause-hears
returns-in-Later-clause-hears g c =
    let asks = g.A.Ask.asks in
    let settings = c.args.front.now.settings in
    let a = attended_by c.args.front.now c.args.asker.now in
    let b = attended_by c.feeding.front c.feeding.asker in
    let new = attended_by c.hand_on-fed.new.front c.hand_on-fed.new.asker in
    let piece = c.args.piece.now in
    let fed = c.hand_on-fed.result in
    let out = c.args.out.now.items in
    let out1 = c.reserve.new.self.items in
    let out2 = c.hand_on-fed.new.out.items in
    let count = c.feeding.at + fed.taken in
    let told : Told asks settings a (take count piece) out (bytes_behind fed.state) new out2 =
    further asks settings c.stays_read.ensures.fault a b new piece out c.feeding.out.items out1 out2 c.feeding.at fed c.feeding.front.settings c.feeding.invariant.settings c.reserve.ensures.items c.feeding.invariant.heard (rw take_rest at c.hand_on-fed.ensures.takes) in
    rested asks settings a c.hand_on-fed.new.front c.hand_on-fed.new.asker c.so_far-in-Later.new.asker piece out out2 _ c.so_far-in-Later.result c.so_far-in-Later.ensures.told c.so_far-in-Later.ensures.rests
    (part asks settings a new (take count piece) out out2 fed.state told (inl (ap bytes_behind c.in-Later.is)))

pub feeding-preserved : goal.feeding-preserved
feeding-preserved g c =
    let asks = g.A.Ask.asks in
    let settings = c.args.front.now.settings in
    let a = attended_by c.args.front.now c.args.asker.now in
    let b = attended_by c.feeding.front c.feeding.asker in
    let new = attended_by c.hand_on-fed.new.front c.hand_on-fed.new.asker in
    let piece = c.args.piece.now in
    let fed = c.hand_on-fed.result in
    let out = c.args.out.now.items in
    let out1 = c.reserve.new.self.items in
    let out2 = c.hand_on-fed.new.out.items in
    let count = c.feeding.at + fed.taken in
    let told : Told asks settings a (take count piece) out (bytes_behind fed.state) new out2 =
    further asks settings c.stays_read.ensures.fault a b new piece out c.feeding.out.items out1 out2 c.feeding.at fed c.feeding.front.settings c.feeding.invariant.settings c.reserve.ensures.items c.feeding.invariant.heard (rw take_rest at c.hand_on-fed.ensures.takes) in
    record {
      within = within_piece piece c.feeding.at _ fed.taken c.feeding.invariant.within c.hand_on-fed.ensures.within;
      settled = c.hand_on-fed.ensures.settled;
      settings = c.hand_on-fed.ensures.settings ∙ c.feeding.invariant.settings;
      heard = said_behind asks settings a new (take count piece) out out2 _ _ fed.state told (ap bytes_behind c.in-Short.is) c.in-Ok-extend_from_slice.ensures.items;
    }

pub returns-in-Err-clause-hears : goal.returns-in-Err-clause-hears
returns-in-Err-clause-hears g c =
    let asks = g.A.Ask.asks in
    let settings = c.args.front.now.settings in
    let a = attended_by c.args.front.now c.args.asker.now in
    let b = attended_by c.feeding.front c.feeding.asker in
    let new = attended_by c.hand_on-fed.new.front c.hand_on-fed.new.asker in
    let piece = c.args.piece.now in
    let fed = c.hand_on-fed.result in
    let out = c.args.out.now.items in
    let out1 = c.reserve.new.self.items in
    let out2 = c.hand_on-fed.new.out.items in
    let count = c.feeding.at + fed.taken in
    let told : Told asks settings a (take count piece) out (bytes_behind fed.state) new out2 =
    further asks settings c.stays_read.ensures.fault a b new piece out c.feeding.out.items out1 out2 c.feeding.at fed c.feeding.front.settings c.feeding.invariant.settings c.reserve.ensures.items c.feeding.invariant.heard (rw take_rest at c.hand_on-fed.ensures.takes) in
    let behind : bytes_behind fed.state ≡ c.in-Short.reply = ap bytes_behind c.in-Short.is in
    let short : length c.in-Short.reply ≡ 16 = search rules in
    rested asks settings a c.hand_on-fed.new.front c.hand_on-fed.new.asker c.so_far-in-Err.new.asker piece out c.extend_from_slice.new.self.items _ c.so_far-in-Err.result c.so_far-in-Err.ensures.told c.so_far-in-Err.ensures.rests
    (subst (λ (z : List ℕ). HearsPiece asks settings a (take count piece) out heard_as.NoMemory new z) (sym c.in-Err.ensures.items)
    (part asks settings a new (take count piece) out out2 fed.state told (inr (subst (λ (z : List ℕ). IsShortReply z) (sym behind) short))))
