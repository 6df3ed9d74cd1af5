use Rattle.std.proofs.Common.{◌≡◌, rules, length}
use Rattle.std.proofs.lemmas.Nat.{be_bytes_4}
use Rattle.std.specs.Int.{w32, from_be_bytes}
use Rattle.unit_journal.proofs.Reading.{four_small}
use Rattle.unit_journal.proofs.open.number_of.Goals as goal

pub returns-clause-bytes : goal.returns-clause-bytes
returns-clause-bytes c =
    let size : length c.args.bytes ≡ 4 = search rules in
    let number : c.from_be_bytes.result ≡ from_be_bytes w32 c.args.bytes = search rules in
    be_bytes_4 c.args.bytes c.from_be_bytes.result size (four_small c.args.bytes size (search rules) (search rules) (search rules) (search rules)) number
