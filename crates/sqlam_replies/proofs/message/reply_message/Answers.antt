use Rattle.std.proofs.Common.{rules, ◌≡◌, ℕ, ◌+◌, ◌<◌, Bool, List, [], ◌∷◌, ◌++◌, sym, ap, subst, ◌∙◌, length}
use Rattle.std.specs.Prelude.{OnErr, OnOk, vec_capacity, vec_len}
use Rattle.std.specs.Int.{to_be_bytes, w16, w64}
use Rattle.ddm_objects.specs.declared.code_point.TheConstants.{LMTBLKPRC, OPNQRYRM, QRYINSID, QRYPRCTYP, SQLCSRHLD}
use Rattle.sqlam_replies.specs.declared.message.ReplyMessage.{ReplyMessage}
use Rattle.sqlam_replies.specs.declared.message.ReplyMessage.TheVariants.{QueryOpened}
use Rattle.sqlam_replies.specs.Message.{held_mark, message_of, message_text, scalar}
use Rattle.sqlam_replies.proofs.message.reply_message.Goals as goal

abbrev opened : ℕ → Bool → ℕ → List ℕ
opened severity is_held instance =
    message_text (record { code = OPNQRYRM; severity = severity; parameters = scalar QRYPRCTYP (to_be_bytes w16 LMTBLKPRC) ∷ scalar SQLCSRHLD (held_mark is_held ∷ []) ∷ scalar QRYINSID (to_be_bytes w64 instance) ∷ [] })

opened_is : (m : ReplyMessage) (is_held : Bool) (instance severity : ℕ) → m ≡ QueryOpened is_held instance → severity ≡ (message_of m).severity → opened severity is_held instance ≡ message_text (message_of m)
opened_is m is_held instance severity is same =
    ap (λ s. opened s is_held instance) (same ∙ ap (λ x. (message_of x).severity) is) ∙ ap (λ x. message_text (message_of x)) (sym is)

pub returns-in-QueryOpened-clause-ok : goal.returns-in-QueryOpened-clause-ok
returns-in-QueryOpened-clause-ok c =
    let is : c.args.message ≡ QueryOpened c.in-QueryOpened.is_held c.in-QueryOpened.instance = search rules in
    let same = opened_is c.args.message c.in-QueryOpened.is_held c.in-QueryOpened.instance c.severity-severity.result is c.severity-severity.ensures in
    subst (λ t. OnOk c.put_opened.result (c.put_opened.new.out.items ≡ c.args.out.now.items ++ t)) same c.put_opened.ensures.ok

pub returns-in-QueryOpened-clause-full : goal.returns-in-QueryOpened-clause-full
returns-in-QueryOpened-clause-full c =
    let is : c.args.message ≡ QueryOpened c.in-QueryOpened.is_held c.in-QueryOpened.instance = search rules in
    let same = opened_is c.args.message c.in-QueryOpened.is_held c.in-QueryOpened.instance c.severity-severity.result is c.severity-severity.ensures in
    subst (λ t. OnErr c.put_opened.result (vec_capacity c.args.out.now < vec_len c.args.out.now + length t)) same c.put_opened.ensures.full
