-- What has become of a command, in the words of what is kept and replied behind it.
use Rattle.std.proofs.Common.{◌≡◌, Bool, true, false, if◌then◌else◌, None, List, sym, subst}
use Rattle.core_calls.specs.Answer.{Answer}
use Rattle.core_calls.specs.Call.{Call}
use Rattle.sections.specs.Cursors.{after_prepare}
use Rattle.sections.specs.Kept.{Preparation, Sections}
use Rattle.command_kit.specs.declared.statements.Statements.{Statements}
use Rattle.command_kit.specs.Doing.{Doing}
use Rattle.command_kit.specs.Done.{WasDone}
use Rattle.sqlam_replies.specs.Reply.{Reply}
use Rattle.sql_commands.specs.Commands.{unprepared, with_prepared}

module _ {A : Type 0} (asks : A → Call → Answer → A → Type 0) (d : Doing) (old new : A) (before same after : List Reply) (is_same : before ≡ same) where
  -- described or not, the statements are the same
  pub done_both : (k : Statements) (r : Bool) → WasDone asks d old new (if r then k else k) before after → WasDone asks d old new k same after
  done_both k true h = subst (λ (b : List Reply). WasDone asks d old new k b after) is_same h
  done_both k false h = subst (λ (b : List Reply). WasDone asks d old new k b after) is_same h

  -- the statement for which room was made is prepared
  pub done_prepared : (k : Statements) (p : Preparation) (r : Bool) (kept : Sections) → r ≡ true → kept ≡ after_prepare p k.sections
      → WasDone asks d old new (if r then with_prepared k p else unprepared k) before after → WasDone asks d old new (record k { sections = kept }) same after
  done_prepared k p true kept is e h =
      subst (λ (s : Sections). WasDone asks d old new (record k { sections = s }) same after) (sym e)
      (subst (λ (b : List Reply). WasDone asks d old new (with_prepared k p) b after) is_same h)
  done_prepared k p false kept is e h = absurd cc

  -- or given up
  pub done_unprepared : (k : Statements) (p : Preparation) (r : Bool) (kept : Sections) → r ≡ false → kept ≡ record k.sections { reserved = None }
      → WasDone asks d old new (if r then with_prepared k p else unprepared k) before after → WasDone asks d old new (record k { sections = kept }) same after
  done_unprepared k p true kept is e h = absurd cc
  done_unprepared k p false kept is e h =
      subst (λ (s : Sections). WasDone asks d old new (record k { sections = s }) same after) (sym e)
      (subst (λ (b : List Reply). WasDone asks d old new (unprepared k) b after) is_same h)
