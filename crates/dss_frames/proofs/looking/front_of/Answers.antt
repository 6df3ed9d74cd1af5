use Rattle.std.proofs.Common.{List, ℕ, [], length, sym, subst}
use Rattle.dss_frames.specs.Lending.{KeepsToFirst}
use Rattle.dss_frames.specs.Progress.{IsAt}
use Rattle.dss_frames.proofs.Fronts.{none, as_far_as_wanted, as_wanted, behind_command, with_command, without_command}
use Rattle.dss_frames.proofs.Steps.{place_more}
use Rattle.dss_frames.proofs.looking.front_of.Goals as goal

pub look-requires : goal.look-requires
look-requires c = place_more [] c.args.piece.now c.args.place (subst (λ (b : List ℕ). IsAt b c.args.place) (none c.args.bytes.now (sym c.if-is_empty.ensures)) c.requires)

pub returns-in-Ok-Command-clause-first : goal.returns-in-Ok-Command-clause-first
returns-in-Ok-Command-clause-first c = λ un.
    let has = rw c.in-Ok-Command.field-0-is at c.in-Ok-Command.ensures in
    rw (none c.args.bytes.now (sym c.if-is_empty.ensures), c.in-Ok-Command.size-is) (with_command c.args.piece.now c.in-Ok-Command.size has).0

pub returns-in-Ok-Command-clause-far : goal.returns-in-Ok-Command-clause-far
returns-in-Ok-Command-clause-far c = λ un.
    let has = rw c.in-Ok-Command.field-0-is at c.in-Ok-Command.ensures in
    rw (none c.args.bytes.now (sym c.if-is_empty.ensures), c.in-Ok-Command.size-is) (with_command c.args.piece.now c.in-Ok-Command.size has).1

pub returns-in-Ok-Command-clause-place : goal.returns-in-Ok-Command-clause-place
returns-in-Ok-Command-clause-place c =
    let has = rw c.in-Ok-Command.field-0-is at c.in-Ok-Command.ensures in
    rw (none c.args.bytes.now (sym c.if-is_empty.ensures), c.behind_command.ensures, c.in-Ok-Command.size-is) (behind_command c.args.piece.now c.in-Ok-Command.size has)

pub returns-in-Ok-Nothing-clause-first : goal.returns-in-Ok-Nothing-clause-first
returns-in-Ok-Nothing-clause-first c = λ un.
    let found = rw c.in-Ok-Nothing.field-0-is at c.in-Ok-Nothing.ensures in
    subst (λ (b : List ℕ). KeepsToFirst b c.args.piece.now (length c.args.piece.now)) (sym (none c.args.bytes.now (sym c.if-is_empty.ensures))) (without_command c.args.piece.now found.0)

pub returns-clause-first : goal.returns-clause-first
returns-clause-first c = λ un. as_wanted c.args.bytes.now c.args.piece.now c.wanted.result c.min.result c.min.ensures (c.wanted.ensures.exact un) un

pub returns-clause-far : goal.returns-clause-far
returns-clause-far c = λ un. as_far_as_wanted c.args.bytes.now c.args.piece.now c.wanted.result c.min.result c.min.ensures (c.wanted.ensures.exact un)
