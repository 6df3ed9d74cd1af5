use Rattle.cursor_commands.proofs.Fetched.{fetched_by}
use Rattle.drda_commands.specs.Views.{given_of}
use Rattle.cursor_commands.proofs.fetching.fetch.Goals as goal

pub returns-clause-ok : goal.returns-clause-ok
returns-clause-ok c =
    fetched_by c.args.rdb.now c.args.statements.now (given_of c.args.accepted.given) c.section_name-name.result.now c.query_instance.result c.block_size.result c.in-Ok.block
    c.section_name-name.ensures.name c.query_instance.ensures c.block_size.ensures c.in-Ok.ensures.next c.advance.new.self c.advance.ensures c.args.replies.now.list c.add_block.new.replies.list c.in_ok-add_block.ensures.ok
