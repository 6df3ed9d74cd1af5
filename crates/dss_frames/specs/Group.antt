-- How a command lies in the reader's buffer once its continuations are joined: each DSS with three
-- bytes for the length of its contents, its format byte, its correlator, and its contents.
use Rattle.std.specs.Prelude.{ℕ, zero, suc, ◌+◌, ◌*◌, List, [], ◌∷◌, length, take, drop, Option, Some, None}
use Rattle.dss_frames.specs.declared.group.Group.{Group}
use Rattle.dss_frames.specs.declared.group.Dss as parts
use Rattle.drda_words.specs.Number.{word}
use Rattle.dss_frames.specs.Dss.{Dss}

-- the DSSs that lie there, at most so many
abbrev pub dsss_in : ℕ → List ℕ → List Dss
dsss_in zero text = []
dsss_in (suc most) (high ∷ middle ∷ low ∷ format ∷ c ∷ d ∷ text) =
    let count = 65536 * high + word middle low in
    record { format = format; correlator = word c d; contents = take count text } ∷ dsss_in most (drop count text)
dsss_in (suc most) text = []

abbrev pub joined_dsss : List ℕ → List Dss
joined_dsss text = dsss_in (length text) text

-- the command that is lent
abbrev pub command_of : Group → List Dss
command_of group = joined_dsss group.text.now

-- what a part of it shows
abbrev pub dss_of : parts.Dss → Dss
dss_of dss = record { format = dss.format.byte; correlator = dss.correlator; contents = dss.contents.now }

-- the first of them
abbrev pub first_dss : List ℕ → Option Dss
first_dss (high ∷ middle ∷ low ∷ format ∷ c ∷ d ∷ text) =
    Some (record { format = format; correlator = word c d; contents = take (65536 * high + word middle low) text })
first_dss text = None
