use Rattle.core_history.proofs.Opening.{opens}
use Rattle.core_history.proofs.book.Book.open.Goals as goal

pub invariant_of-result : goal.invariant_of-result
invariant_of-result g c =
    opens g.D.Disk.is_modelled g.D.Disk.life c.answers_are_serial.ensures.lead_on c.args.core c.of.result.value c.none.result.listed c.in-Ok.places.items c.in-Ok-free_places.left.items c.of.ensures c.none.ensures c.in-Ok.ensures c.in-Ok-free_places.ensures
    (c.calls_go_on.ensures.none g.D.Disk.is_modelled c.args.core c.is_durable.ensures)
