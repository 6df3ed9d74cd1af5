use Rattle.std.proofs.Common.{rules, ◌+◌, ◌++◌, length, refl, subst, sym, arith}
use Rattle.drda_disk.specs.Region.{SameOutside}
use Rattle.drda_disk.proofs.Parts.{Torn-wider}
use Rattle.drda_disk.proofs.Moments.{Only-stays}
use Rattle.unit_journal.specs.Record.{AreShort}
use Rattle.unit_journal.proofs.Laying.{short_all}
use Rattle.unit_journal.proofs.Staging.{opening, was_opened_before}
use Rattle.unit_journal.proofs.staged.Staged.open_ahead.Goals as goal

pub returns-in_err-write_through-clause-adds : goal.returns-in_err-write_through-clause-adds
returns-in_err-write_through-clause-adds g c =
    let life = g.D.Disk.life in
    let old = c.args.self.now in
    let stays = c.sync_unless.ensures.stays in
    record {
      ok = search rules;
      any_moment = λ es u.
          let short : AreShort c.args.group.now = short_all c.args.group.now (omega arith) in
          opening g.D.Disk.is_modelled (life c.args.disk.now) (life c.sync_unless.new.disk) old es c.args.group.now u c.requires.ahead stays c.bytes-len.result.now c.bytes-len.ensures.bytes short (omega arith)
          (life c.write_through.new.disk) (c.write_through.ensures.any_moment (c.in_ok-sync_unless.ensures.durable u.rest));
      others = subst (λ l. SameOutside old.journal.region l (life c.write_through.new.disk).seen) stays.same (Torn-wider old.journal.next 1 old.journal.region.at old.journal.region.length _ _ (omega arith) (omega arith) c.write_through.ensures.others);
      full = search rules;
      cause = search rules;
      takes = search rules;
    }

pub returns-clause-adds : goal.returns-clause-adds
returns-clause-adds g c =
    let life = g.D.Disk.life in
    let old = c.args.self.now in
    let stays = c.sync_unless.ensures.stays in
    record {
      ok = λ es u.
          let short : AreShort c.args.group.now = short_all c.args.group.now (omega arith) in
          was_opened_before g.D.Disk.is_modelled (life c.args.disk.now) (life c.sync_unless.new.disk) old es c.args.group.now u c.requires.ahead stays c.bytes-len.result.now c.bytes-len.ensures.bytes short (omega arith)
          (life c.write_through.new.disk) _ (c.in_ok-write_through.ensures.written u.modelled_disk) c.in_ok-write_through.ensures.durable refl refl c.take.ensures.value c.take.ensures.after;
      any_moment = λ es u.
          let short : AreShort c.args.group.now = short_all c.args.group.now (omega arith) in
          opening g.D.Disk.is_modelled (life c.args.disk.now) (life c.sync_unless.new.disk) old es c.args.group.now u c.requires.ahead stays c.bytes-len.result.now c.bytes-len.ensures.bytes short (omega arith)
          (life c.write_through.new.disk) (c.write_through.ensures.any_moment (c.in_ok-sync_unless.ensures.durable u.rest));
      others = subst (λ l. SameOutside old.journal.region l (life c.write_through.new.disk).seen) stays.same (Torn-wider old.journal.next 1 old.journal.region.at old.journal.region.length _ _ (omega arith) (omega arith) c.write_through.ensures.others);
      full = search rules;
      cause = search rules;
      takes = search rules;
    }
