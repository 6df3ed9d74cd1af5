-- Replies are single objects, each in a DSS.
use Rattle.std.proofs.Common.{◌≡◌, ◌+◌, ℕ, Bool, true, false, List, [], ◌∷◌, ◌++◌, refl, sym, ap, ◌∙◌, if◌then◌else◌, append-nil}
use Rattle.std.specs.Int.{w16, to_be_bytes}
use Rattle.std.specs.Prelude.{ℤ, neg_ℤ, pos}
use Rattle.ddm_objects.specs.declared.code_point.TheConstants.{SVRCOD, RSCLMTRM, AGNPRMRM}
use Rattle.ddm_objects.specs.Objects.{Obj}
use Rattle.ddm_objects.specs.Writing.{spelled, Trees, NoTrees, Scalar, text_of}
use Rattle.dss_frames.specs.Writing.{written}
use Rattle.core_calls.specs.Answer as core
use Rattle.core_calls.specs.Answer.{full, no_memory, refused}
use Rattle.core_calls.specs.Refusal.{fault_of}
use Rattle.core_calls.specs.SqlFault.{diagnosis}
use Rattle.core_calls.specs.declared.sql_fault.SqlFault.{SqlFault}
use Rattle.sqlam_replies.specs.Message.{Message, error, objects, permanent_damage}
use Rattle.sqlam_replies.specs.Sqlcard.{sqlca, sqlcard}
use Rattle.command_kit.specs.Doing.{Doing, asking, finished}
use Rattle.command_kit.specs.NotDone.{not_done}
use Rattle.sqlam_replies.specs.Reply.{Reply, message, object}
use Rattle.command_kit.specs.Reply.{agent_failed, fault_card, null_card, resource_limit}
use Rattle.command_kit.specs.declared.statements.Statements.{Statements}
use Rattle.conversation.specs.Exchange.{chain_bits, in_dsss}
use Rattle.conversation.specs.Laws.{AreSentObjects, Card, IsOneTree, SentContainer, SentMessage, SentObject, SentValues, Values, bits_before, code_point, sent_bytes, tree_of, type_of}

-- ---- replies

-- the reply is one object
abbrev pub IsSent : Reply → Type 0
IsSent reply = (sent : SentObject) × (reply.dss_type ≡ type_of sent) × (reply.text ≡ text_of (tree_of sent))

abbrev pub is_container : SentObject → Bool
is_container (SentValues kind values) = false
is_container sent = true

-- and one with trees of objects in it
abbrev pub IsTree : Reply → Type 0
IsTree reply = (sent : IsSent reply) × (is_container sent.0 ≡ true)

abbrev pub trees_in : List Obj → Trees
trees_in [] = NoTrees
trees_in (o ∷ os) = Scalar o.code o.value (trees_in os)

pub objects_are_trees : (os : List Obj) → objects os ≡ text_of (trees_in os)
objects_are_trees [] = refl
objects_are_trees (o ∷ os) = ap (λ (z : List ℕ). spelled o.code o.value ++ z) (objects_are_trees os)

-- with the other parameters as trees
pub message_of_trees : (m : Message) (others : Trees) → objects m.parameters ≡ text_of others → IsTree (message m)
message_of_trees m others are =
    let severity : List ℕ = spelled SVRCOD (to_be_bytes w16 m.severity) in
    ((SentMessage m.code m.severity others, refl, ap (λ (z : List ℕ). spelled m.code (severity ++ z)) are ∙ sym (append-nil (spelled m.code (severity ++ text_of others)))), refl)

pub message_tree : (m : Message) → IsTree (message m)
message_tree m = message_of_trees m (trees_in m.parameters) (objects_are_trees m.parameters)

pub container_tree : (code : ℕ) (text : List ℕ) (inside : Trees) → text ≡ text_of inside → IsTree (object (spelled code text))
container_tree code text inside are = ((SentContainer code inside, refl, ap (λ (z : List ℕ). spelled code z) are ∙ sym (append-nil (spelled code (text_of inside)))), refl)

pub values_sent : (kind : Values) (values : List ℕ) → IsSent (object (spelled (code_point kind) values))
values_sent kind values = (SentValues kind values, refl, sym (append-nil (spelled (code_point kind) values)))

pub card_sent : (code : ℤ) (state : List ℕ) (count : ℕ) → IsSent (object (sqlcard code state count))
card_sent code state count = values_sent Card (sqlca code state count)

pub null_sent : IsSent null_card
null_sent = values_sent Card (0xFF ∷ [])

pub fault_sent : (fault : SqlFault) → IsSent (fault_card fault)
fault_sent fault = card_sent (neg_ℤ (pos (diagnosis fault).number)) (diagnosis fault).state 0

pub limit_tree : IsTree resource_limit
limit_tree = message_tree (record { code = RSCLMTRM; severity = error; parameters = [] })

failed_tree : IsTree agent_failed
failed_tree = message_tree (record { code = AGNPRMRM; severity = permanent_damage; parameters = [] })

-- ---- lists of replies

abbrev pub AllSent : List Reply → Type 0
AllSent [] = Unit {0}
AllSent (reply ∷ replies) = IsSent reply × AllSent replies

pub one_sent : (reply : Reply) → IsSent reply → AllSent (reply ∷ [])
one_sent reply sent = (sent, tt)

pub either_sent : (b : Bool) (x y : List Reply) → AllSent x → AllSent y → AllSent (if b then x else y)
either_sent true x y p q = p
either_sent false x y p q = q

pub both_sent : (x y : List Reply) → AllSent x → AllSent y → AllSent (x ++ y)
both_sent [] y p q = q
both_sent (reply ∷ x) y p q = (p.0, both_sent x y p.1 q)

-- whatever is answered
abbrev pub SendsObjects : Doing → Type 0
SendsObjects (finished d) = AllSent d.replies
SendsObjects (asking call next) = (answer : core.Answer) → AllSent (next answer).replies

pub either_doing : (b : Bool) (x y : Doing) → SendsObjects x → SendsObjects y → SendsObjects (if b then x else y)
either_doing true x y p q = p
either_doing false x y p q = q

pub not_done_sent : (k : Statements) (answer : core.Answer) → AllSent (not_done k answer).replies
not_done_sent k (refused refusal) = (fault_sent (fault_of refusal), tt)
not_done_sent k no_memory = (limit_tree.0, tt)
not_done_sent k (full need room) = (limit_tree.0, tt)
not_done_sent k answer = (failed_tree.0, tt)

-- ---- DSSs

abbrev objects_of : (replies : List Reply) → AllSent replies → List SentObject
objects_of [] all = []
objects_of (reply ∷ replies) all = all.0.0 ∷ objects_of replies all.1

same_bits : (is_chained : Bool) (replies : List Reply) (all : AllSent replies) → chain_bits is_chained replies ≡ bits_before is_chained (objects_of replies all)
same_bits is_chained [] all = refl
same_bits is_chained (reply ∷ replies) all = refl

same_bytes : (correlator : ℕ) (is_chained : Bool) (replies : List Reply) (all : AllSent replies) → in_dsss correlator is_chained replies ≡ sent_bytes correlator is_chained (objects_of replies all)
same_bytes correlator is_chained [] all = refl
same_bytes correlator is_chained (reply ∷ replies) all =
    let others : List SentObject = objects_of replies all.1 in
    let bits : ℕ = bits_before is_chained others in
    ap (λ (n : ℕ). written (n + reply.dss_type) correlator reply.text ++ in_dsss correlator is_chained replies) (same_bits is_chained replies all.1)
    ∙ ap (λ (n : ℕ). written (bits + n) correlator reply.text ++ in_dsss correlator is_chained replies) all.0.1
    ∙ ap (λ (z : List ℕ). written (bits + type_of all.0.0) correlator z ++ in_dsss correlator is_chained replies) all.0.2
    ∙ ap (λ (z : List ℕ). written (bits + type_of all.0.0) correlator (text_of (tree_of all.0.0)) ++ z) (same_bytes correlator is_chained replies all.1)

pub replies_are_objects : (correlator : ℕ) (is_chained : Bool) (replies : List Reply) → AllSent replies → AreSentObjects correlator is_chained (in_dsss correlator is_chained replies)
replies_are_objects correlator is_chained replies all = (objects_of replies all, same_bytes correlator is_chained replies all)

one_container : (format correlator : ℕ) (sent : SentObject) (bytes : List ℕ) → is_container sent ≡ true → bytes ≡ written format correlator (text_of (tree_of sent)) → IsOneTree bytes
one_container format correlator (SentMessage code severity others) bytes container is =
    record { format = format; correlator = correlator; code = code; inside = Scalar SVRCOD (to_be_bytes w16 severity) others; bytes_are = is }
one_container format correlator (SentContainer code inside) bytes container is =
    record { format = format; correlator = correlator; code = code; inside = inside; bytes_are = is }
one_container format correlator (SentValues kind values) bytes container is = absurd (cc container)

pub one_tree : (format correlator : ℕ) (reply : Reply) (bytes : List ℕ) → IsTree reply → bytes ≡ written format correlator reply.text → IsOneTree bytes
one_tree format correlator reply bytes tree is =
    one_container format correlator tree.0.0 bytes tree.1 (is ∙ ap (λ (z : List ℕ). written format correlator z) tree.0.2)
