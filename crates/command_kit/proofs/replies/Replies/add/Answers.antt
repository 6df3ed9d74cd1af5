-- The text lies behind those of the others, and its length is what the list of bytes has grown by.
use Rattle.std.proofs.Common.{◌-◌, ap, ◌∙◌}
use Rattle.command_kit.specs.Replies.{Replies}
use Rattle.command_kit.proofs.Adding.{added, grown, grown_short, one_more, still_whole}
use Rattle.command_kit.proofs.replies.Replies.add.Goals as goal

pub invariant_of-self : goal.invariant_of-self
invariant_of-self g c =
    let is = added c.self.inside.heads.items c.push.new.self.items c.self.inside.text.items c.write.new.out.items c.kind.result c.severity.result c.len-start.result c.len.result (g.T.ReplyText.reply c.args.reply.now)
    c.self.invariant c.in-Ok-push.ensures.items c.in-Ok.ensures.ok c.kind.ensures c.severity.ensures (c.len-start.ensures ∙ c.self.inside.text.ok.0) (c.len.ensures ∙ c.write.new.out.ok.0) in
    still_whole c.self.inside.heads.items c.push.new.self.items c.self.inside.text.items c.write.new.out.items (record { kind = c.kind.result; severity = c.severity.result; length = c.len.result - c.len-start.result }) (g.T.ReplyText.reply c.args.reply.now) is

pub returns-clause-list : goal.returns-clause-list
returns-clause-list g c =
    let is = added c.self.inside.heads.items c.push.new.self.items c.self.inside.text.items c.write.new.out.items c.kind.result c.severity.result c.len-start.result c.len.result (g.T.ReplyText.reply c.args.reply.now)
    c.self.invariant c.in-Ok-push.ensures.items c.in-Ok.ensures.ok c.kind.ensures c.severity.ensures (c.len-start.ensures ∙ c.self.inside.text.ok.0) (c.len.ensures ∙ c.write.new.out.ok.0) in
    one_more c.self.inside.heads.items c.push.new.self.items c.self.inside.text.items c.write.new.out.items (record { kind = c.kind.result; severity = c.severity.result; length = c.len.result - c.len-start.result }) (g.T.ReplyText.reply c.args.reply.now) c.args.self.now.list is (ap (λ (r : Replies). r.list) c.self.view_is)

pub returns-clause-size : goal.returns-clause-size
returns-clause-size g c =
    let is = added c.self.inside.heads.items c.push.new.self.items c.self.inside.text.items c.write.new.out.items c.kind.result c.severity.result c.len-start.result c.len.result (g.T.ReplyText.reply c.args.reply.now)
    c.self.invariant c.in-Ok-push.ensures.items c.in-Ok.ensures.ok c.kind.ensures c.severity.ensures (c.len-start.ensures ∙ c.self.inside.text.ok.0) (c.len.ensures ∙ c.write.new.out.ok.0) in
    let all = one_more c.self.inside.heads.items c.push.new.self.items c.self.inside.text.items c.write.new.out.items (record { kind = c.kind.result; severity = c.severity.result; length = c.len.result - c.len-start.result }) (g.T.ReplyText.reply c.args.reply.now) c.args.self.now.list is (ap (λ (r : Replies). r.list) c.self.view_is) in
    grown c.replies_add_up.ensures.sum c.args.self.now.list _ (g.T.ReplyText.reply c.args.reply.now) (g.T.ReplyText.most c.args.reply.now) all c.in-Ok.ensures.short

pub returns-clause-short : goal.returns-clause-short
returns-clause-short g c =
    let is = added c.self.inside.heads.items c.push.new.self.items c.self.inside.text.items c.write.new.out.items c.kind.result c.severity.result c.len-start.result c.len.result (g.T.ReplyText.reply c.args.reply.now)
    c.self.invariant c.in-Ok-push.ensures.items c.in-Ok.ensures.ok c.kind.ensures c.severity.ensures (c.len-start.ensures ∙ c.self.inside.text.ok.0) (c.len.ensures ∙ c.write.new.out.ok.0) in
    let all = one_more c.self.inside.heads.items c.push.new.self.items c.self.inside.text.items c.write.new.out.items (record { kind = c.kind.result; severity = c.severity.result; length = c.len.result - c.len-start.result }) (g.T.ReplyText.reply c.args.reply.now) c.args.self.now.list is (ap (λ (r : Replies). r.list) c.self.view_is) in
    grown_short c.replies_add_up.ensures.sum c.replies_add_up.ensures.segment c.args.self.now.list _ (g.T.ReplyText.reply c.args.reply.now) (g.T.ReplyText.most c.args.reply.now) all c.in-Ok.ensures.short
