-- A broken chain is silent.
use Rattle.std.proofs.Common.{◌≡◌, ◌⊎◌, ℕ, Bool, true, false, List, [], ◌∷◌, ◌++◌, sym, ap, ◌∙◌, inl, inr}
use Rattle.core_calls.specs.Call.{Call}
use Rattle.core_calls.specs.Answer.{Answer}
use Rattle.dss_frames.specs.Dss.{Dss}
use Rattle.conversation.specs.Done.{Does, DoesAll, Exchanges, IsExcused}
use Rattle.conversation.specs.Exchange.{goes_on, passed_over}
use Rattle.conversation.specs.Laws.{BrokenChainsAreSilent, AllGoOn}
use Rattle.session_commands.specs.Settings.{Settings}
use Rattle.conversation.specs.Standing.{Standing}

both : {P : Type 0} (b : Bool) → b ≡ true → b ≡ false → P
both b so not = let clash : true ≡ false = sym so ∙ not in absurd (cc clash)

module _ {A : Type 0} (asks : A → Call → Answer → A → Type 0) where
  by_outcome : (settings : Settings) (s next : Standing A) (request : Dss) (objects : List Dss) (bytes : List ℕ) → s.session.is_broken ≡ true
      → Exchanges asks settings s (request ∷ objects) bytes next ⊎ IsExcused s (request ∷ objects) bytes next
      → (bytes ≡ []) × (next ≡ record s { session = passed_over s.session (goes_on (request ∷ objects)) })
  by_outcome settings s next request objects bytes broken (inl (inl p)) = (p.silent, p.same)
  by_outcome settings s next request objects bytes broken (inl (inr d)) = both s.session.is_broken broken d.not_broken
  by_outcome settings s next request objects bytes broken (inr e) = both s.session.is_broken broken e.not_broken

  does_broken : (settings : Settings) (s next : Standing A) (request : Dss) (objects : List Dss) (bytes : List ℕ) → s.session.is_broken ≡ true
      → Does asks settings s (request ∷ objects) bytes next → (bytes ≡ []) × (next ≡ record s { session = passed_over s.session (goes_on (request ∷ objects)) })
  does_broken settings s next request objects bytes broken d = by_outcome settings s next request objects bytes broken d.does

  at_end : (settings : Settings) (s next : Standing A) (request : Dss) (objects : List Dss) (bytes : List ℕ)
      → s.session.is_broken ≡ true → goes_on (request ∷ objects) ≡ false → Does asks settings s (request ∷ objects) bytes next
      → (bytes ≡ []) × (next ≡ record s { session = record s.session { is_broken = false } })
  at_end settings s next request objects bytes broken last does =
      let it = does_broken settings s next request objects bytes broken does in
      (it.0, it.1 ∙ ap (λ (b : Bool). let t : Standing A = record s { session = passed_over s.session b } in t) last)

  silent : (settings : Settings) (commands : List (List Dss)) (s last : Standing A) (bytes : List ℕ)
      → s.session.is_broken ≡ true → AllGoOn commands → DoesAll asks settings s commands bytes last → (bytes ≡ []) × (last ≡ s)
  silent settings [] s last bytes broken on d = d
  silent settings ([] ∷ commands) s last bytes broken on d = let none = on.0 in absurd (cc none)
  silent settings ((request ∷ objects) ∷ commands) s last bytes broken on d =
      let it = does_broken settings s d.2 request objects d.0 broken d.3 in
      let same : d.2 ≡ s = it.1 ∙ ap (λ (b : Bool). let t : Standing A = record s { session = passed_over s.session b } in t) (on.0 ∙ sym broken) in
      let more = silent settings commands d.2 last d.1 (ap (λ (t : Standing A). t.session.is_broken) same ∙ broken) on.1 d.5 in
      (d.4 ∙ ap (λ (z : List ℕ). z ++ d.1) it.0 ∙ more.0, more.1 ∙ same)

  pub chains_are_silent : BrokenChainsAreSilent asks
  chains_are_silent = record {
    before_its_end = λ settings s last commands bytes. silent settings commands s last bytes;
    at_its_end = at_end;
  }
