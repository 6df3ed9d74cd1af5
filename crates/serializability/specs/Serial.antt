-- The law of serial order: what was committed in a run, run again with the units alone, one after another
-- in the order of commit.
use Rattle.std.specs.Prelude.{◌≡◌, Bool, true, false, List, [], ◌∷◌}
use Rattle.serializability.specs.Words.{Words, AllWithin}
use Rattle.serializability.specs.Events.{Work, idle, view, Done, asked, kept, UnitMap, Entry, Ended, Moment, run, start}

-- over this store and with no other unit, u becomes v by these calls, with these answers
abbrev pub Alone : (w : Words) → w.Store → Work w → List (Entry w) → Work w → Type 0
Alone w s u [] v = u ≡ v
Alone w s u (e ∷ es) v = (asked w [] s u e.call ≡ Done e.answer (kept w s u e.call)) × Alone w s (kept w s u e.call) es v

abbrev pub Unless : Bool → Type 0 → Type 0
Unless true X = Unit {0}
Unless false X = X

-- the committed units, each alone, lead from the one store to the other; of one that the opening found in
-- doubt no calls are known
abbrev pub Serially : (w : Words) → w.Store → List (Ended w) → w.Store → Type 0
Serially w s [] t = s ≡ t
Serially w s (e ∷ es) t = Unless e.is_found (Alone w s (idle w) e.log e.work) × Serially w (view w s e.work) es t

-- the changes of each unit lie in what it claims to write
abbrev pub AllLie : (w : Words) (k : UnitMap w) → w.Store → k.Units → Type 0
AllLie w k s units = (o : k.Owner) → AllWithin w s (k.unit_of o units).changes (k.unit_of o units).claims

-- whatever happens after an opening, the committed units had the answers and the changes that they have one
-- after another, and the store that this leads to is the committed one
abbrev pub SerialOrder : (w : Words) → UnitMap w → Type 0
SerialOrder w k =
    (s : w.Store) (units : k.Units) (moments : List (Moment w k)) → w.Sound s → AllLie w k s units
    → (let m = run w k moments (start w k s units) in Serially w s m.ended m.store)
