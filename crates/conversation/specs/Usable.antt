-- Which answers a command can use that asks a call: by any other one it closes its conversation (AGNPRMRM).
use Rattle.std.specs.Prelude.{Bool, true, false, Option, Some, None}
use Rattle.xa_calls.specs.declared.request.Request.{Request}
use Rattle.xa_calls.specs.declared.request.Request.TheVariants as request
use Rattle.core_calls.specs.Call as call
use Rattle.core_calls.specs.Call.{Call}
use Rattle.core_calls.specs.Answer.{Answer, count, done, full, in_doubt, in_global, input, no_memory, output, refused, rows, xa}

-- a refusal, and that there was no memory or no room, whatever was asked
abbrev pub is_usable_anyway : Answer → Bool
is_usable_anyway (refused refusal) = true
is_usable_anyway no_memory = true
is_usable_anyway (full need room) = true
is_usable_anyway _ = false

abbrev pub is_count : Answer → Bool
is_count (count n) = true
is_count answer = is_usable_anyway answer

abbrev pub are_rows : Answer → Bool
are_rows (rows l) = true
are_rows answer = is_usable_anyway answer

-- of either side
abbrev pub is_description : Answer → Bool
is_description (output columns) = true
is_description (input types) = true
is_description answer = is_usable_anyway answer

abbrev pub is_end : Answer → Bool
is_end done = true
is_end in_global = true
is_end answer = is_usable_anyway answer

abbrev pub is_code : Answer → Bool
is_code (xa code) = true
is_code answer = is_usable_anyway answer

abbrev pub are_in_doubt : Answer → Bool
are_in_doubt (in_doubt xids) = true
are_in_doubt answer = is_usable_anyway answer

abbrev pub is_xa_answer : Option Request → Answer → Bool
is_xa_answer (Some request.Recover) answer = are_in_doubt answer
is_xa_answer (Some (request.Branch verb xid)) answer = is_code answer
is_xa_answer None answer = is_code answer

-- a loss, for which no command asks, is done as an end is
abbrev pub is_usable : Call → Answer → Bool
is_usable (call.run s values) answer = is_count answer
is_usable (call.query s values) answer = are_rows answer
is_usable (call.describe s side) answer = is_description answer
is_usable call.commit answer = is_end answer
is_usable call.roll_back answer = is_end answer
is_usable (call.xa r) answer = is_xa_answer r answer
is_usable call.lost answer = is_end answer
