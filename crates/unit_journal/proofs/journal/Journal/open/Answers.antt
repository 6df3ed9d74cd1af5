use Rattle.std.proofs.Common.{◌≡◌, ◌+◌, ◌<◌, ◌++◌, ◌∷◌, [], ℕ, List, length, sym, ◌∙◌, subst, arith, rules}
use Rattle.std.specs.Prelude.{Vec, Result, Err}
use Rattle.std.specs.declared.alloc.Global.{Global}
use Rattle.drda_disk.proofs.Moments.{Stays-trans, Only-stays}
use Rattle.unit_journal.specs.Open.{IsAt}
use Rattle.unit_journal.specs.Opened.{ReadsRegion}
use Rattle.unit_journal.specs.declared.record.Record.{Record}
use Rattle.unit_journal.specs.declared.journal.Journal.{Journal}
use Rattle.unit_journal.specs.declared.errors.OpenError.{OpenError}
use Rattle.unit_journal.proofs.Opening.{ReadSoFar, read_more, read_all, opened, next_some, next_none, next_error, whole_by, found_by}
use Rattle.unit_journal.proofs.journal.Journal.open.Goals as goal

pub returns-in_err-record-clause-reads : goal.returns-in_err-record-clause-reads
returns-in_err-record-clause-reads g c honest =
    let same : c.from_residual.result ≡ Err c.in_err-record.field-0.0 = search rules in
    let P : Result (Journal × Vec Record Global) OpenError → Type 0 = λ r. ReadsRegion c.args.region g.D.Disk.is_modelled (g.D.Disk.life c.args.disk.now).seen (g.D.Disk.life c.read_record.new.disk) r in
    subst P (sym same) (next_error c.args.region g.D.Disk.is_modelled (g.D.Disk.life c.args.disk.now).seen (g.D.Disk.life c.loop-records.disk).seen (g.D.Disk.life c.read_record.new.disk) c.loop-records.at c.loop-records.records.items c.in_err-record.field-0.0
    c.loop-records.invariant.stays.same (c.loop-records.invariant.so_far honest) c.loop-records.invariant.high c.requires.place.inside (c.in_err-record.ensures.next honest))

pub returns-in_err-record-clause-whole : goal.returns-in_err-record-clause-whole
returns-in_err-record-clause-whole g c es honest s =
    whole_by c.args.region g.D.Disk.is_modelled (g.D.Disk.life c.args.disk.now).seen (g.D.Disk.life c.read_record.new.disk) es c.from_residual.result s (returns-in_err-record-clause-reads g c honest)

pub loop-records-preserved : goal.loop-records-preserved
loop-records-preserved g c = record {
  low = omega arith;
  high = let room : c.loop-records.at + 6 + length c.in-Some.record.body.items < c.args.region.at + c.args.region.length = search rules in let len : c.len.result ≡ length c.in-Some.record.body.items = search rules in omega (arith, room, len);
  stays = Stays-trans _ _ _ c.loop-records.invariant.stays c.read_record.ensures.stays;
  faults = c.in_ok-record.ensures.cause ∙ c.loop-records.invariant.faults;
  durable = Only-stays _ _ c.read_record.ensures.stays c.loop-records.invariant.durable;
  so_far = λ honest.
      let image = (g.D.Disk.life c.args.disk.now).seen in
      let r = c.in-Some.record in
      let len : c.len.result ≡ length r.body.items = search rules in
      let pushed : c.push.new.self.items ≡ c.loop-records.records.items ++ r ∷ [] = search rules in
      let here : IsAt image c.loop-records.at r =
      next_some image (g.D.Disk.life c.loop-records.disk).seen c.loop-records.at (c.args.region.at + c.args.region.length) _ r c.loop-records.invariant.stays.same c.in-Some.is (c.in_ok-record.ensures.next honest) in
      let P : ℕ → List Record → Type 0 = λ n rs. ReadSoFar image c.args.region.at (c.loop-records.at + (6 + n)) rs in
      subst (λ n. P n c.push.new.self.items) (sym len) (subst (λ (rs : List Record). P (length r.body.items) rs) (sym pushed)
      (read_more image c.args.region.at c.loop-records.at c.loop-records.records.items r (c.loop-records.invariant.so_far honest) here));
}

pub returns-clause-reads : goal.returns-clause-reads
returns-clause-reads g c honest =
    let image = (g.D.Disk.life c.args.disk.now).seen in
    let so_far = c.loop-records.invariant.so_far honest in
    let shut = next_none image (g.D.Disk.life c.loop-records.disk).seen c.loop-records.at (c.args.region.at + c.args.region.length) _ c.loop-records.invariant.stays.same c.in_default.is (c.in_ok-record.ensures.next honest) in
    let stands = read_all c.args.region image c.loop-records.at c.loop-records.records.items so_far c.loop-records.invariant.high c.requires.place.inside shut in
    (stands, opened g.D.Disk.is_modelled (g.D.Disk.life c.read_record.new.disk) image _ c.loop-records.records honest (Only-stays _ _ c.read_record.ensures.stays c.loop-records.invariant.durable) (c.read_record.ensures.stays.same ∙ c.loop-records.invariant.stays.same) so_far stands)

pub returns-clause-found : goal.returns-clause-found
returns-clause-found g c es honest s =
    found_by c.args.region g.D.Disk.is_modelled (g.D.Disk.life c.args.disk.now).seen (g.D.Disk.life c.read_record.new.disk) es _ s (returns-clause-reads g c honest)
