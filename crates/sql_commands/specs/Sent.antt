-- Behind PRPSQLSTT: what is to be prepared.
use Rattle.sections.specs.Kept.{Preparation}
use Rattle.sql_commands.specs.declared.preparing.Preparing.{Preparing}

abbrev pub preparation_of : Preparing → Preparation
preparation_of p = record { name = p.name.now; statement = p.statement.now; is_held = p.is_held }
