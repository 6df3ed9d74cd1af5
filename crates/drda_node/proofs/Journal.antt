-- What calls leave on the disk, one after another.
use Rattle.std.proofs.Common.{◌≡◌, Bool, false, sym, ap, subst, inl, inr}
use Rattle.std.specs.Prelude.{IsTrue}
use Rattle.drda_disk.specs.Disk.{Life}
use Rattle.recovery.specs.Journaled.{CallsGoOn, IsDurable, OnDisk, shown_on}
use Rattle.drda_node.specs.declared.asker.CoreAsker.{CoreAsker}
use Rattle.drda_node.specs.Asking.{IsJournaled}
use Rattle.drda_node.proofs.Askers.{IsAskedSome}

module _ {D : Type 0} (modelled : Bool) (life : D → Life) (go_on : CallsGoOn life) where
  -- no call
  pub none : (s : OnDisk D) → (IsTrue modelled → s.is_failed ≡ false → IsDurable (shown_on life s)) → IsJournaled modelled life s s
  none s durable = go_on.none modelled s durable

  -- some calls, and some more
  pub more : (a b c : OnDisk D) → IsJournaled modelled life a b → IsJournaled modelled life b c → IsJournaled modelled life a c
  more a b c p q = go_on.both modelled a b c p q

  -- none, and what is the same behind them
  pub none_to : (a b : OnDisk D) → b ≡ a → (IsTrue modelled → a.is_failed ≡ false → IsDurable (shown_on life a)) → IsJournaled modelled life a b
  none_to a b same durable = subst (λ (s : OnDisk D). IsJournaled modelled life a s) (sym same) (none a durable)

-- none or some
pub of_some : {D : Type 0} (modelled : Bool) (life : D → Life) → CallsGoOn life → (old new : CoreAsker D)
    → (IsTrue modelled → old.core.now.is_failed ≡ false → IsDurable (shown_on life old.core.now)) → IsAskedSome modelled life old new → IsJournaled modelled life old.core.now new.core.now
of_some {D} modelled life go_on old new durable (inl same) = none_to modelled life go_on old.core.now new.core.now (ap (λ (a : CoreAsker D). a.core.now) same) durable
of_some modelled life go_on old new durable (inr journaled) = journaled
