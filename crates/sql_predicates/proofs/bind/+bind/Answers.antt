-- The meaning of each kind of part.
use Rattle.sql_predicates.proofs.Meanings.{all_means, all_of_one, any_means, any_of_one, group_means, not_means}
use Rattle.sql_predicates.proofs.bind.+bind.Goals as goal

pub bound-returns-in_ok-tests-in-Any-clause-meaning : goal.bound-returns-in_ok-tests-in-Any-clause-meaning
bound-returns-in_ok-tests-in-Any-clause-meaning t c =
    any_means _ _ _ c.as_slice-parts.result.now c.args.predicate.now c.in_ok-tests-in-Any.tests c.as_slice-parts.ensures c.in-Any.is c.in_ok-tests-in-Any.ensures.meaning

pub bound-returns-in_ok-tests-in-All-clause-meaning : goal.bound-returns-in_ok-tests-in-All-clause-meaning
bound-returns-in_ok-tests-in-All-clause-meaning t c =
    all_means _ _ _ c.as_slice-parts-in-All.result.now c.args.predicate.now c.in_ok-tests-in-All.tests c.as_slice-parts-in-All.ensures c.in-All.is c.in_ok-tests-in-All.ensures.meaning

pub bound-returns-in_ok-new-in-Not-clause-meaning : goal.bound-returns-in_ok-new-in-Not-clause-meaning
bound-returns-in_ok-new-in-Not-clause-meaning t c =
    not_means _ _ _ c.get.result.now c.args.predicate.now c.in_ok-test-in-Not.test c.in_ok-new-in-Not.field-0 c.get.ensures c.in-Not.is c.in_ok-new-in-Not.ensures c.in_ok-test-in-Not.ensures.meaning

pub bound-returns-in_ok-test-in-Group-clause-meaning : goal.bound-returns-in_ok-test-in-Group-clause-meaning
bound-returns-in_ok-test-in-Group-clause-meaning t c =
    group_means _ _ _ c.get-in-Group.result.now c.args.predicate.now c.in_ok-test-in-Group.test c.get-in-Group.ensures c.in-Group.is c.in_ok-test-in-Group.ensures.meaning

-- of one part alone
pub bound-returns-in-len1-clause-meaning : goal.bound-returns-in-len1-clause-meaning
bound-returns-in-len1-clause-meaning t c =
    any_of_one _ _ _ c.as_slice-parts.result.now c.part-item.result c.args.predicate.now c.in_ok-test-in-Any.test c.as_slice-parts.ensures c.in-len1.len_at_least c.in-len1.len_below c.part-item.is c.in-Any.is c.in_ok-test-in-Any.ensures.meaning

pub bound-returns-in-len1-parts-clause-meaning : goal.bound-returns-in-len1-parts-clause-meaning
bound-returns-in-len1-parts-clause-meaning t c =
    all_of_one _ _ _ c.as_slice-parts-in-All.result.now c.part-item-then-parts-lt2-2.result c.args.predicate.now c.in_ok-test-in-All.test c.as_slice-parts-in-All.ensures c.in-len1-parts.len_at_least c.in-len1-parts.len_below c.part-item-then-parts-lt2-2.is c.in-All.is c.in_ok-test-in-All.ensures.meaning
