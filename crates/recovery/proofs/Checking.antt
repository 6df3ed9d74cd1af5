-- Answers that pass checks: nothing is changed where one fails.
use Rattle.std.proofs.Common.{◌≡◌, ℕ, List, [], Bool, true, false, refl, Option, Some, None, length, Ok, Err}
use Rattle.std.specs.Prelude.{nat_le}
use Rattle.std.specs.List.{flat_map}
use Rattle.tables.specs.Change.{Change, change_bytes}
use Rattle.tables.specs.Tables.{Store}
use Rattle.sql_semantics.specs.Checked.{Checked, and_then, if_none, unless}
use Rattle.sql_semantics.specs.Meaning.{Answer, Changes, answered, within_room}
use Rattle.sql_semantics.specs.Frame.{changes_of}
use Rattle.core_calls.specs.declared.sql_fault.SqlFault.{SqlFault}
use Rattle.core_calls.specs.declared.sql_fault.SqlFault.TheVariants as fault
use Rattle.recovery.specs.QuestionPlaces.{ArePlaced}

-- ---- what the checks give

pub ok_inside : {A : Type 0} (x y : A) → ◌≡◌ {A = Checked A} (Ok x) (Ok y) → x ≡ y
ok_inside x y h = cc

not_ok : {A : Type 0} (e : SqlFault) (x : A) → ◌≡◌ {A = Checked A} (Err e) (Ok x) → ⊥
not_ok e x h = absurd cc

pub unless_ok : {A : Type 0} (b : Bool) (e : SqlFault) (go : Checked A) (y : A) → unless b e go ≡ Ok y → (b ≡ true) × (go ≡ Ok y)
unless_ok true e go y h = (refl, h)
unless_ok false e go y h = absurd (not_ok e y h)

pub then_ok : {A B : Type 0} (r : Checked A) (f : A → Checked B) (y : B) → and_then r f ≡ Ok y → (x : A) × (r ≡ Ok x) × (f x ≡ Ok y)
then_ok (Ok x) f y h = (x, refl, h)
then_ok (Err e) f y h = absurd (not_ok e y h)

-- ---- answers

pub nothing : (v : Store) → ArePlaced [] v
nothing v = record { places = refl; good = tt }

abbrev pub Makes : Store → Checked Answer → Type 0
Makes v r = ArePlaced (changes_of (answered r)) v

pub make_if : (v : Store) (b : Bool) (e : SqlFault) (go : Checked Answer) → (b ≡ true → Makes v go) → Makes v (unless b e go)
make_if v true e go h = h refl
make_if v false e go h = nothing v

pub make_none : (v : Store) (o : Option SqlFault) (go : Checked Answer) → Makes v go → Makes v (if_none o go)
make_none v None go h = h
make_none v (Some e) go h = nothing v

pub make_then : {A : Type 0} (v : Store) (r : Checked A) (f : A → Checked Answer) → ((y : A) → r ≡ Ok y → Makes v (f y)) → Makes v (and_then r f)
make_then v (Ok y) f h = h y refl
make_then v (Err e) f h = nothing v

pub make_room : (v : Store) (left : ℕ) (xs : List Change) (n : ℕ) → ArePlaced xs v → Makes v (within_room left xs n)
make_room v left xs n h = make_if v (nat_le (length (flat_map change_bytes xs)) left) fault.LimitReached (Ok (Changes xs n)) (λ room. h)
