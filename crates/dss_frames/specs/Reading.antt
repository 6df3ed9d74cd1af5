-- The reading of a whole text: commands, and then what may still become one, or the one fault.
use Rattle.std.specs.Prelude.{◌≡◌, ◌⊎◌, ℕ, List, [], ◌∷◌}
use Rattle.dss_frames.specs.declared.fault.FrameFault.{FrameFault}
use Rattle.dss_frames.specs.Dss.{Dss}
use Rattle.dss_frames.specs.Fault.{FaultAt, BeginsWith, IsUnfinished}

-- how a text ends: bytes that may still become a command, or a fault
pub data End : Type 0 where
  unfinished : List ℕ → End
  faulty : FrameFault → End

abbrev pub EndsAt : List ℕ → End → Type 0
EndsAt bytes (unfinished rest) = (bytes ≡ rest) × IsUnfinished rest
EndsAt bytes (faulty fault) = FaultAt bytes fault

-- the text is these commands, and then its end
abbrev pub ReadsAs : List ℕ → List (List Dss) → End → Type 0
ReadsAs text [] end = EndsAt text end
ReadsAs text (command ∷ commands) end = (rest : List ℕ) × BeginsWith text command rest × ReadsAs rest commands end

-- a reading of a text, and there is no other
pub record HasOneReading (text : List ℕ) : Type 0 where
  pub commands : List (List Dss)
  pub end : End
  pub reads : ReadsAs text commands end
  pub only_commands : (others : List (List Dss)) (other : End) → ReadsAs text others other → others ≡ commands
  pub only_end : (others : List (List Dss)) (other : End) → ReadsAs text others other → other ≡ end

-- what stands in front of a text: a command, and no other; or a fault, and no other; or neither
pub record StandsOnce (bytes : List ℕ) : Type 0 where
  pub something : ((command : List Dss) × (rest : List ℕ) × BeginsWith bytes command rest) ⊎ (((fault : FrameFault) × FaultAt bytes fault) ⊎ IsUnfinished bytes)
  pub one_command : (command other : List Dss) (rest remains : List ℕ) → BeginsWith bytes command rest → BeginsWith bytes other remains → (command ≡ other) × (rest ≡ remains)
  pub one_fault : (fault other : FrameFault) → FaultAt bytes fault → FaultAt bytes other → fault ≡ other
  pub not_both : (command : List Dss) (rest : List ℕ) (fault : FrameFault) → BeginsWith bytes command rest → FaultAt bytes fault → ⊥
