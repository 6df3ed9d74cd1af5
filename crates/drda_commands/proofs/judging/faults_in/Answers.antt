use Rattle.std.proofs.Common.{◌≡◌, ◌∙◌, List, Ok, Err, sym, ap, subst}
use Rattle.std.specs.Prelude.{MatchOption}
use Rattle.std.specs.List.{list_any}
use Rattle.drda_commands.specs.Given.{Given, nothing}
use Rattle.drda_commands.specs.Judge.{item_missing, item_twice, none_bad}
use Rattle.drda_commands.specs.Tables.{items_for}
use Rattle.drda_commands.specs.Views.{given_of}
use Rattle.drda_commands.specs.declared.refusal.Refusal.TheVariants.{ValueNotSupported}
use Rattle.drda_commands.specs.declared.table.Item.{Item}
use Rattle.drda_commands.proofs.Alone.{none_comes_twice, none_is_bad, required_are_missing}
use Rattle.drda_commands.proofs.judging.faults_in.Goals as goal

pub returns-then-is_empty-clause-twice : goal.returns-then-is_empty-clause-twice
returns-then-is_empty-clause-twice c =
    let alone : given_of c.args.given.now ≡ nothing = c.is_empty.ensures.0 c.if-is_empty.true in
    sym (ap (λ (given : Given). list_any (item_twice given) (items_for c.args.command)) alone ∙ none_comes_twice (items_for c.args.command))

pub returns-then-is_empty-clause-missing : goal.returns-then-is_empty-clause-missing
returns-then-is_empty-clause-missing c =
    let alone : given_of c.args.given.now ≡ nothing = c.is_empty.ensures.0 c.if-is_empty.true in
    c.requires_any.ensures ∙ sym (ap (λ (given : Given). list_any (item_missing given) (items_for c.args.command)) alone ∙ required_are_missing (items_for c.args.command))

pub returns-then-is_empty-clause-bad : goal.returns-then-is_empty-clause-bad
returns-then-is_empty-clause-bad c =
    let alone : given_of c.args.given.now ≡ nothing = c.is_empty.ensures.0 c.if-is_empty.true in
    ap (λ (given : Given). none_bad c.args.unicode (items_for c.args.command) given) alone ∙ none_is_bad c.args.unicode (items_for c.args.command)

pub returns-clause-twice : goal.returns-clause-twice
returns-clause-twice c = c.faults_of.ensures.twice ∙ ap (λ (items : List Item). list_any (item_twice (given_of c.args.given.now)) items) c.items_of.ensures

pub returns-clause-missing : goal.returns-clause-missing
returns-clause-missing c = c.faults_of.ensures.missing ∙ ap (λ (items : List Item). list_any (item_missing (given_of c.args.given.now)) items) c.items_of.ensures

pub returns-clause-bad : goal.returns-clause-bad
returns-clause-bad c =
    subst (λ (items : List Item). MatchOption c.faults_of.result.bad (none_bad c.args.unicode items (given_of c.args.given.now) ≡ Ok tt) (λ code. none_bad c.args.unicode items (given_of c.args.given.now) ≡ Err (ValueNotSupported code))) c.items_of.ensures c.faults_of.ensures.bad
