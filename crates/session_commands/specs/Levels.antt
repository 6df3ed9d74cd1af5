-- The managers of both sides and their levels (DRDA V5 volume 3, MGRLVLLS and "Manager-Level Number"):
-- the requester names those that it wants, and the server answers each with the level that it gives.
use Rattle.std.specs.Prelude.{ℕ, ◌==◌, min, false, List, [], ◌∷◌, ◌++◌, if◌then◌else◌}
use Rattle.std.specs.Int.{w16, to_be_bytes}
use Rattle.drda_words.specs.Number.{word}
use Rattle.ddm_objects.specs.declared.code_point.TheConstants.{AGENT, SQLAM, RDB, SECMGR, CMNTCPIP, XAMGR, UNICODEMGR}
use Rattle.session_commands.specs.declared.session.Agreed.{Agreed}

-- the highest level that is given, 0 for a manager that is not here
abbrev pub highest : ℕ → ℕ
highest manager =
    if manager == AGENT then 7 else if manager == SQLAM then 7 else if manager == RDB then 7
    else if manager == SECMGR then 7 else if manager == CMNTCPIP then 5 else if manager == XAMGR then 7 else 0

-- The level that is answered: the smaller one of the asked and the highest. Of UNICODEMGR the level is
-- a CCSID, and 1208 alone is given.
unfoldable pub level_for : ℕ → ℕ → ℕ
level_for manager asked =
    if manager == UNICODEMGR then (if asked == 1208 then 1208 else 0) else min asked (highest manager)

-- the answer to a list of managers and levels, of two bytes each: the same managers in the same order
abbrev pub levels_for : List ℕ → List ℕ
levels_for (a ∷ b ∷ c ∷ d ∷ more) = a ∷ b ∷ [] ++ to_be_bytes w16 (level_for (word a b) (word c d)) ++ levels_for more
levels_for rest = []

unfoldable pub agreed_on : Agreed → ℕ → ℕ → Agreed
agreed_on agreed manager level =
    if manager == UNICODEMGR then record { unicode = level == 1208; xa = agreed.xa }
    else if manager == XAMGR then record { unicode = agreed.unicode; xa = level } else agreed

-- What is agreed after such a list, from what was agreed before it: of a manager that is named twice
-- the last one counts.
abbrev pub agreed_after : Agreed → List ℕ → Agreed
agreed_after agreed (a ∷ b ∷ c ∷ d ∷ more) = agreed_after (agreed_on agreed (word a b) (level_for (word a b) (word c d))) more
agreed_after agreed rest = agreed

abbrev pub nothing_agreed : Agreed
nothing_agreed = record { unicode = false; xa = 0 }
