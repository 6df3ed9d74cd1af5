use Rattle.std.proofs.Common.{Err, inl, refl}
use Rattle.counted_streams.specs.Counts.{source_of}
use Rattle.command_line.specs.Job.{plain_login}
use Rattle.store_service.proofs.Stores.{SerialLaws}
use Rattle.store_files.proofs.Found.{opens_still}
use Rattle.drda_program.proofs.Ran.{piped_file}
use Rattle.drda_program.proofs.records.answer_file.Goals as goal

pub returns-in-Ok : goal.returns-in-Ok
returns-in-Ok g c =
    let laws : SerialLaws = record {
      begin = c.openings_begin_histories.ensures.images;
      noted = c.calls_are_histories.ensures.noted;
      lead = c.machines_are_serial.ensures.lead;
      openings = c.machines_are_serial.ensures.openings;
      serial = c.machines_are_serial.ensures.serial;
    } in
    piped_file g.F.Disk.Disk.is_modelled g.F.Disk.Disk.life g.F.StoreFiles.calls c.openings_begin_histories.ensures.sound c.openings_are_kept.ensures laws g.F.Disk.Disk.syncs c.args.path.now (plain_login c.args.login) c.args.files.now _
    (g.R.Read.remaining (source_of c.args.reader.now)) _ _ c.answer_records.result c.in-Ok.core c.in-Ok.ensures c.answer_records.ensures

pub returns-in-Err : goal.returns-in-Err
returns-in-Err g c =
    inl (c.in-Err.fault, refl, inl (opens_still g.F.Disk.Disk.is_modelled g.F.Disk.Disk.life g.F.StoreFiles.calls g.F.Disk.Disk.syncs c.args.files.now c.args.path.now (Err c.in-Err.fault) _ c.in-Err.ensures), refl)
