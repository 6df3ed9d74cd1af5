-- The units in doubt of a store, as text: a line for each, with its XID's words and how it was decided heuristically, where it was.
use Rattle.std.specs.Prelude.{◌≡◌, ℕ, true, List, [], ◌∷◌, ◌++◌, map, codes, Option, Some, None}
use Rattle.std.specs.List.{flat_map}
use Rattle.std.specs.Ordering.{nat_cmp}
use Rattle.std.specs.Cmp.Lexicographic.{slice_cmp}
use Rattle.std.specs.Map.{keys_of}
use Rattle.drda_words.specs.Order.{rises}
use Rattle.command_line.specs.Spelling.{xid_text}
use Rattle.xa_manager.specs.declared.branch.Branch.{Branch}
use Rattle.xa_manager.specs.declared.due.Decision.{Decision}
use Rattle.xa_manager.specs.declared.due.Decision.TheVariants.{Commit, RollBack}
use Rattle.xa_manager.specs.Branch.{in_doubt_xids, state_of}
use Rattle.recovery.specs.Part.{outcome_at}
use Rattle.recovery.specs.Durable.{Doubt, Durable}
use Rattle.recovery.specs.Opens.{OpensTo}

-- what is listed of a unit in doubt: its XID, and how it was decided heuristically, where it was
abbrev pub Listed : Type 0
Listed = List ℕ × Option Decision

-- those of a table of branches, ascending by the bytes of their XIDs
abbrev pub listed_of : List Branch → List ℕ → Listed
listed_of branches xid = (xid, outcome_at (state_of branches xid))

abbrev pub listed_in : List Branch → List Listed
listed_in branches = map (listed_of branches) (in_doubt_xids branches)

-- what is listed of an XID that waits for its transaction manager
abbrev pub listed_as : List ℕ × Doubt → Listed
listed_as e = (e.0, e.1.outcome)

-- these are listed of the units in doubt of the state that an image opens to, ascending by the bytes of their XIDs
pub record AreDoubts (doubts : List Listed) (image : List ℕ) : Type 0 where
  pub name : List ℕ
  pub state : Durable
  pub opens : OpensTo name state image
  pub listed : doubts ≡ map listed_as state.doubts
  pub rising : rises (slice_cmp nat_cmp) (keys_of state.doubts) ≡ true

-- the fourth word, with the blank in front of it
abbrev pub outcome_word : Option Decision → List ℕ
outcome_word None = []
outcome_word (Some Commit) = codes " committed"
outcome_word (Some RollBack) = codes " rolledback"

abbrev pub doubt_line : Listed → List ℕ
doubt_line doubt = xid_text doubt.0 ++ (outcome_word doubt.1 ++ 10 ∷ [])

abbrev pub doubt_text : List Listed → List ℕ
doubt_text doubts = flat_map doubt_line doubts
