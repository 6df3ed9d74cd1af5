use Rattle.ddm_objects.proofs.Nesting.{written_appends, text_reads_back}
use Rattle.ddm_objects.proofs.laws.nesting_reads_back.Goals as goal

pub returns : goal.returns
returns c = λ trees. record { appends = written_appends trees; reads = text_reads_back trees }
