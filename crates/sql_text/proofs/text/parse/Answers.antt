use Rattle.sql_text.proofs.Answered.{found_in, only_in}
use Rattle.sql_text.proofs.Explained.{explained}
use Rattle.sql_text.proofs.Sliced.{found_sliced}
use Rattle.sql_text.proofs.Valid.{found_valid}
use Rattle.sql_text.proofs.text.parse.Goals as goal

pub returns-clause-found : goal.returns-clause-found
returns-clause-found c = rw (← c.as_bytes-bytes.ensures.value) (found_in c.as_bytes-bytes.result.now c.read.result c.read.ensures)

pub returns-clause-only : goal.returns-clause-only
returns-clause-only c = rw (← c.as_bytes-bytes.ensures.value) (only_in c.as_bytes-bytes.result.now c.read.result c.read.ensures)

pub returns-clause-refused : goal.returns-clause-refused
returns-clause-refused c = rw (← c.as_bytes-bytes.ensures.value) (explained c.as_bytes-bytes.result.now c.read.result c.read.ensures)

pub returns-clause-valid : goal.returns-clause-valid
returns-clause-valid c =
    let text = c.args.text.now in
    found_valid text c.read.result (c.tokens_are_spelled_so.ensures text) (c.texts_are_utf8.ensures text c.utf8.text) (c.markers_are_numbered.ensures text) (returns-clause-found c)

pub returns-clause-places : goal.returns-clause-places
returns-clause-places c =
    let text = c.args.text.now in
    found_sliced text c.read.result (c.parts_stand_in_the_text.ensures text) (c.tokens_lie_apart.ensures text) (returns-clause-found c)
