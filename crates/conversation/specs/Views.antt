-- What the types of the code show.
use Rattle.std.specs.Prelude.{◌≡◌, ℕ, List, ◌++◌, Result, Ok, Err}
use Rattle.dss_frames.specs.Dss.{Dss}
use Rattle.core_calls.specs.Call.{Call}
use Rattle.core_calls.specs.Answer as core
use Rattle.drda_commands.specs.declared.judging.Accepted as rust_accepted
use Rattle.drda_commands.specs.declared.refusal.Refusal.{Refusal}
use Rattle.drda_commands.specs.Judge.{Accepted}
use Rattle.drda_commands.specs.Views.{accepted_of}
use Rattle.conversation.specs.declared.chain.Link.{Link}
use Rattle.conversation.specs.declared.exchange.Exchanged.{Exchanged}
use Rattle.conversation.specs.declared.exchange.Exchanged.TheVariants.{Done, Short}
use Rattle.conversation.specs.declared.state.State.{State}
use Rattle.conversation.specs.Exchange.{Plan}
use Rattle.conversation.specs.Done.{Exchanges, IsExcused, IsFollowed}
use Rattle.session_commands.specs.Settings.{Settings}
use Rattle.conversation.specs.Standing.{Standing}

-- what the judge says
abbrev pub verdict_of : Result rust_accepted.Accepted Refusal → Result Accepted Refusal
verdict_of (Ok accepted) = Ok (accepted_of accepted)
verdict_of (Err refusal) = Err refusal

abbrev pub standing_of : {A : Type 0} → State → A → Standing A
standing_of state asked = record { session = state.session; statements = state.statements; asked = asked }

module _ {A : Type 0} (asks : A → Call → core.Answer → A → Type 0) where
  -- a plan was followed, and what is sent was appended
  abbrev pub Appends : Plan → Link → Standing A → List ℕ → Standing A → List ℕ → Type 0
  Appends plan link s out s' out' = (bytes : List ℕ) × IsFollowed asks plan link s bytes s' × (out' ≡ out ++ bytes)

  -- what became of a command: it was done and its replies appended, or it found no memory, which a command
  -- of a broken chain does not ask for
  abbrev pub ComesTo : Settings → Standing A → List Dss → List ℕ → Exchanged → Standing A → List ℕ → Type 0
  ComesTo settings s command out Done s' out' = (bytes : List ℕ) × Exchanges asks settings s command bytes s' × (out' ≡ out ++ bytes)
  ComesTo settings s command out (Short bytes) s' out' = IsExcused s command bytes s' × (out' ≡ out)
