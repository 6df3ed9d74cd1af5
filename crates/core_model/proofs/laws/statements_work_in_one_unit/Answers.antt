use Rattle.core_model.proofs.Asking.{refusals_change_nothing, refusals_make_no_change, statements_stay, unfit_is_refused, work_is_where_joined}
use Rattle.core_model.proofs.laws.statements_work_in_one_unit.Goals as goal

pub returns-clause-stay : goal.returns-clause-stay
returns-clause-stay c = statements_stay

pub returns-clause-refused : goal.returns-clause-refused
returns-clause-refused c = refusals_change_nothing

pub returns-clause-unchanged : goal.returns-clause-unchanged
returns-clause-unchanged c = refusals_make_no_change

pub returns-clause-joined : goal.returns-clause-joined
returns-clause-joined c = work_is_where_joined

pub returns-clause-unfit : goal.returns-clause-unfit
returns-clause-unfit c = unfit_is_refused
