use Rattle.drda_disk.proofs.count.FaultCount.new.Given as goal

abbrev pub ghost-of : goal.ghost-of
ghost-of a = 0
