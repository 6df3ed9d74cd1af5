use Rattle.std.proofs.Common.{rules, ◌≡◌, ◌++◌, ℕ, List, refl, sym, ap, ◌∙◌, append_assoc}
use Rattle.ddm_objects.specs.declared.code_point.TheConstants.{SRVCLSNM, SRVNAM, SRVRLSLV}
use Rattle.ddm_objects.specs.Writing.{spelled}
use Rattle.session_commands.specs.declared.reply.TheConstants.{SERVER_NAME, SERVER_CLASS, RELEASE_LEVEL, SERVER_NAMES}
use Rattle.session_commands.proofs.Appending.{ok_so}
use Rattle.session_commands.proofs.reply.write_server_names.Goals as goal

joined : SERVER_NAMES ≡ spelled SRVCLSNM SERVER_CLASS ++ (spelled SRVNAM SERVER_NAME ++ spelled SRVRLSLV RELEASE_LEVEL)
unfolding spelled
joined = refl

parts : (old new : List ℕ) → new ≡ old ++ SERVER_NAMES → new ≡ ((old ++ spelled SRVCLSNM SERVER_CLASS) ++ spelled SRVNAM SERVER_NAME) ++ spelled SRVRLSLV RELEASE_LEVEL
parts old new is =
    is ∙ ap (λ (z : List ℕ). old ++ z) joined ∙ sym (append_assoc old (spelled SRVCLSNM SERVER_CLASS) (spelled SRVNAM SERVER_NAME ++ spelled SRVRLSLV RELEASE_LEVEL))
    ∙ sym (append_assoc (old ++ spelled SRVCLSNM SERVER_CLASS) (spelled SRVNAM SERVER_NAME) (spelled SRVRLSLV RELEASE_LEVEL))

pub returns-clause-ok : goal.returns-clause-ok
returns-clause-ok c = ok_so c.extend_from_slice.result (parts c.args.out.now.items c.extend_from_slice.new.self.items) (search rules)
