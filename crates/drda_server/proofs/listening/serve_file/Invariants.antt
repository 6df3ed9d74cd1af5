use Rattle.std.proofs.Common.{◌≡◌}
use Rattle.drda_server.proofs.listening.serve_file.Given as goal

-- the core that is served is the one that was opened
abbrev pub ghosts-serve_core : goal.ghosts-serve_core
ghosts-serve_core g a = record { is = λ c. c ≡ a.core }
