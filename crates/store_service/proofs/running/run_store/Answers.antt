use Rattle.counted_streams.specs.Counts.{sink_of, source_of}
use Rattle.store_service.proofs.Stores.{SerialLaws, refused_so, runs_over}
use Rattle.store_service.proofs.running.run_store.Goals as goal

pub returns-in-Ok-clause-runs : goal.returns-in-Ok-clause-runs
returns-in-Ok-clause-runs g c name d store =
    let laws : SerialLaws = record {
      begin = c.openings_begin_histories.ensures.images;
      noted = c.calls_are_histories.ensures.noted;
      lead = c.machines_are_serial.ensures.lead;
      openings = c.machines_are_serial.ensures.openings;
      serial = c.machines_are_serial.ensures.serial;
    } in
    runs_over g.D.Disk.is_modelled g.D.Disk.life g.D.Disk.syncs c.openings_begin_histories.ensures.sound c.openings_are_kept.ensures laws name d c.args.user.now c.args.password.now c.args.disk store c.in-Ok.core
    (c.in-Ok.ensures.opens name d store.modelled_is store.opens) (c.in-Ok.ensures.found store.modelled_is) c.in-Ok.ensures.first c.in-Ok.ensures.stays c.in-Ok.ensures.cause
    (g.R.Read.remaining (source_of c.args.reader.now)) (g.W.Write.contents (sink_of c.args.writer.now)) (g.W.Write.contents (sink_of c.run_core.new.writer)) c.run_core.result.0 c.run_core.result.1 c.run_core.ensures.runs

pub returns-in-Err-clause-runs : goal.returns-in-Err-clause-runs
returns-in-Err-clause-runs g c name d store = refused_so g.D.Disk.life g.D.Disk.syncs name c.args.disk c.in-Err.refused (c.in-Err.ensures.opens name d store.modelled_is store.opens) c.in-Err.ensures.first c.in-Err.ensures.stays c.in-Err.ensures.cause (g.W.Write.contents (sink_of c.args.writer.now))
