use Rattle.std.proofs.Common.{◌+◌, length, rules, arith}
use Rattle.drda_disk.proofs.Parts.{Torn-wider, Torn-trans}
use Rattle.unit_journal.specs.Record.{AreShort}
use Rattle.unit_journal.proofs.Laying.{short_all}
use Rattle.unit_journal.proofs.Appending.{length-bytes, length-laid-append, first, second, settled}
use Rattle.unit_journal.proofs.journal.Journal.append_behind.Goals as goal

pub returns-in_err-write_through-clause-adds : goal.returns-in_err-write_through-clause-adds
returns-in_err-write_through-clause-adds g c gs is = record {
  ok = search rules;
  any_moment = λ es s.
      let n = length-bytes gs _ is in
      let short : AreShort gs = short_all gs (omega arith) in
      first g.D.Disk.is_modelled (g.D.Disk.life c.args.disk.now) c.args.self.now es gs s c.args.bytes.now is (omega arith) short (g.D.Disk.life c.write_through.new.disk) (c.write_through.ensures.any_moment s.durable);
  others = Torn-wider (c.args.self.now.next + 1) (length c.args.bytes.now) c.args.self.now.region.at c.args.self.now.region.length _ _ (omega arith) (omega arith) c.write_through.ensures.others;
  full = search rules;
  cause = search rules;
  takes = search rules;
}

pub returns-in_err-write_through-2-clause-adds : goal.returns-in_err-write_through-2-clause-adds
returns-in_err-write_through-2-clause-adds g c gs is = record {
  ok = search rules;
  any_moment = λ es s.
      let n = length-bytes gs _ is in
      let short : AreShort gs = short_all gs (omega arith) in
      second g.D.Disk.is_modelled (g.D.Disk.life c.args.disk.now) c.args.self.now es gs s c.args.bytes.now is (omega arith) short (g.D.Disk.life c.write_through.new.disk)
      (c.in_ok-write_through.ensures.written s.modelled_disk) (g.D.Disk.life c.write_through-2.new.disk) (c.write_through.ensures.any_moment s.durable) (c.write_through-2.ensures.any_moment c.in_ok-write_through.ensures.durable);
  others =
      let one = Torn-wider (c.args.self.now.next + 1) (length c.args.bytes.now) c.args.self.now.region.at c.args.self.now.region.length _ _ (omega arith) (omega arith) c.write_through.ensures.others in
      let two = Torn-wider c.args.self.now.next 1 c.args.self.now.region.at c.args.self.now.region.length _ _ (omega arith) (omega arith) c.write_through-2.ensures.others in
      Torn-trans _ _ _ _ _ one two;
  full = search rules;
  cause = search rules;
  takes = search rules;
}

pub returns-clause-adds : goal.returns-clause-adds
returns-clause-adds g c gs is = record {
  ok = λ es s.
      let n = length-bytes gs _ is in
      let short : AreShort gs = short_all gs (omega arith) in
      record {
        modelled_disk = s.modelled_disk;
        durable = c.in_ok-write_through-2.ensures.durable;
        stands = settled g.D.Disk.is_modelled (g.D.Disk.life c.args.disk.now) c.args.self.now es gs s c.args.bytes.now is (omega arith) short (g.D.Disk.life c.write_through.new.disk)
            (c.in_ok-write_through.ensures.written s.modelled_disk) (g.D.Disk.life c.write_through-2.new.disk) (c.in_ok-write_through-2.ensures.written s.modelled_disk);
        next = omega (arith, s.next, length-laid-append es gs);
      };
  any_moment = λ es s.
      let n = length-bytes gs _ is in
      let short : AreShort gs = short_all gs (omega arith) in
      second g.D.Disk.is_modelled (g.D.Disk.life c.args.disk.now) c.args.self.now es gs s c.args.bytes.now is (omega arith) short (g.D.Disk.life c.write_through.new.disk)
      (c.in_ok-write_through.ensures.written s.modelled_disk) (g.D.Disk.life c.write_through-2.new.disk) (c.write_through.ensures.any_moment s.durable) (c.write_through-2.ensures.any_moment c.in_ok-write_through.ensures.durable);
  others =
      let one = Torn-wider (c.args.self.now.next + 1) (length c.args.bytes.now) c.args.self.now.region.at c.args.self.now.region.length _ _ (omega arith) (omega arith) c.write_through.ensures.others in
      let two = Torn-wider c.args.self.now.next 1 c.args.self.now.region.at c.args.self.now.region.length _ _ (omega arith) (omega arith) c.write_through-2.ensures.others in
      Torn-trans _ _ _ _ _ one two;
  full = search rules;
  cause = search rules;
  takes = search rules;
}
