use Rattle.checkpoint_writer.proofs.EntryBytes.{entry_back}
use Rattle.checkpoint_writer.proofs.entry.entries_have_their_bytes.Goals as goal

pub returns : goal.returns
returns c = entry_back
