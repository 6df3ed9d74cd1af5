-- What a conversation asks of the core.
use Rattle.std.specs.Prelude.{List, Option, map}
use Rattle.std.specs.Result.{result_ok}
use Rattle.sql_text.specs.declared.tree.Statement.{Statement}
use Rattle.row_values.specs.Value.{Value, value_of}
use Rattle.xa_calls.specs.declared.request.Request.{Request}
use Rattle.core_calls.specs.declared.call.Side.{Side}
use Rattle.core_calls.specs.declared.call.CoreCall.{CoreCall}
use Rattle.core_calls.specs.declared.call.CoreCall.TheVariants as core

pub data Call : Type 0 where
  -- a statement with the values of its markers
  run : Statement → List Value → Call
  query : Statement → List Value → Call
  describe : Statement → Side → Call
  commit : Call
  roll_back : Call
  -- None names no XA call
  xa : Option Request → Call
  lost : Call

abbrev pub call_of : CoreCall → Call
call_of (core.Run statement parameters) = run statement.now (map value_of parameters.now)
call_of (core.Query statement parameters) = query statement.now (map value_of parameters.now)
call_of (core.Describe statement side) = describe statement.now side
call_of core.Commit = commit
call_of core.RollBack = roll_back
call_of (core.Xa request) = xa (result_ok request)
call_of core.Lost = lost
