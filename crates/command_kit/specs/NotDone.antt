-- The reply to a call that was not done, whichever call it was.
use Rattle.std.specs.Prelude.{[], ◌∷◌}
use Rattle.core_calls.specs.Answer.{Answer, full, no_memory, refused}
use Rattle.core_calls.specs.Refusal.{fault_of}
use Rattle.sqlam_replies.specs.Reply.{Reply}
use Rattle.command_kit.specs.Reply.{agent_failed, fault_card, resource_limit}
use Rattle.command_kit.specs.Statements.{Statements}
use Rattle.command_kit.specs.Doing.{Done, answered}

-- the reply to a call that was not done, or whose answer is another call's
abbrev pub refusal_reply : Answer → Reply
refusal_reply (refused refusal) = fault_card (fault_of refusal)
refusal_reply no_memory = resource_limit
refusal_reply (full need room) = resource_limit
refusal_reply _ = agent_failed

-- and nothing else changes
abbrev pub not_done : Statements → Answer → Done
not_done k answer = answered k (refusal_reply answer ∷ [])
