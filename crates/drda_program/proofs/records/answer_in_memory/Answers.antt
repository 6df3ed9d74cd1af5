use Rattle.command_line.specs.Job.{plain_login}
use Rattle.store_service.proofs.Stores.{SerialLaws}
use Rattle.drda_program.proofs.Piping.{not_piped, piped}
use Rattle.drda_program.proofs.records.answer_in_memory.Goals as goal

pub returns-in-Ok : goal.returns-in-Ok
returns-in-Ok g c =
    let laws : SerialLaws = record {
      begin = c.openings_begin_histories.ensures.images;
      noted = c.calls_are_histories.ensures.noted;
      lead = c.machines_are_serial.ensures.lead;
      openings = c.machines_are_serial.ensures.openings;
      serial = c.machines_are_serial.ensures.serial;
    } in
    piped c.openings_begin_histories.ensures.sound c.openings_are_kept.ensures laws c.args.rdb.now (plain_login c.args.login) _ _ _ _ c.in-Ok.core c.in-Ok.ensures c.answer_records.ensures

pub returns-in-Err : goal.returns-in-Err
returns-in-Err g c = not_piped c.args.rdb.now (plain_login c.args.login) _ _ c.in-Err.fault c.in-Err.ensures
