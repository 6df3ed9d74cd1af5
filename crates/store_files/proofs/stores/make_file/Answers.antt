use Rattle.store_files.proofs.Zeros.{unmarked}
use Rattle.store_files.proofs.stores.make_file.Goals as goal

pub returns-in-Ok-make_on-clause-made : goal.returns-in-Ok-make_on-clause-made
returns-in-Ok-make_on-clause-made g c = record {
  made = c.in-Ok.disk;
  created = c.in-Ok.ensures.call;
  disk = c.make_on.new.disk;
  sized = c.in-Ok-make_on.ensures.sized;
  only = λ m. (c.in-Ok-make_on.ensures.made m).0;
  store = λ m. (c.in-Ok-make_on.ensures.made m).1;
  moments = λ m. c.make_on.ensures.moments m (unmarked (g.F.Disk.Disk.life c.in-Ok.disk) c.args.size (c.in-Ok.ensures.zeros m) (c.in-Ok.ensures.durable m));
}
