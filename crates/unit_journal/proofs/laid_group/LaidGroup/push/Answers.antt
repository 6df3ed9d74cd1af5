use Rattle.std.proofs.Common.{List, ◌∷◌, ◌++◌, [], ◌∙◌, ap}
use Rattle.unit_journal.specs.Record.{Entry}
use Rattle.unit_journal.specs.LaidRecord.{entry_in}
use Rattle.unit_journal.proofs.LaidGroups.{pushed_are, pushed_is_laid}
use Rattle.unit_journal.proofs.laid_group.LaidGroup.push.Goals as goal

pub invariant_of-self-2 : goal.invariant_of-self-2
invariant_of-self-2 c = pushed_is_laid (entry_in c.args.next.now) _ _ _ c.self.invariant c.bytes.ensures.short c.bytes.ensures.bytes c.in_ok-put_behind.ensures.ok

pub returns-clause-ok : goal.returns-clause-ok
returns-clause-ok c =
    pushed_are (entry_in c.args.next.now) _ _ _ c.self.invariant c.bytes.ensures.short c.bytes.ensures.bytes c.in_ok-put_behind.ensures.ok
    ∙ ap (λ (l : List Entry). l ++ entry_in c.args.next.now ∷ []) c.self.view_is
