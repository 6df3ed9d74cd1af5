-- The reply that each SQLCARD is.
use Rattle.sqlam_replies.specs.Reply.{Reply}
use Rattle.command_kit.specs.Reply.{count_card, fault_card, null_card}
use Rattle.command_kit.specs.declared.card.Card.{Card}
use Rattle.command_kit.specs.declared.card.Card.TheVariants as is

abbrev pub card_reply : Card → Reply
card_reply is.Null = null_card
card_reply (is.Fault fault) = fault_card fault
card_reply (is.Count is_search count) = count_card is_search count
