-- Tables that are put one behind another.
use Rattle.std.proofs.Common.{◌≡◌, ◌⊎◌, ℕ, ◌+◌, ◌*◌, true, false, ◌&&◌, List, [], ◌∷◌, ◌++◌, Result, Ok, Err, IfOk, ◌≤◌, map, arith, refl, sym, ap, subst, ◌∙◌, append_assoc, Ordering, Less, Equal, Greater}
use Rattle.std.specs.List.{AllByRecursion, list_all}
use Rattle.std.specs.Map.{keys_of}
use Rattle.std.specs.Ordering.{match_ordering, nat_cmp}
use Rattle.std.specs.Cmp.Lexicographic.{nat_list_cmp_total, slice_cmp}
use Rattle.std.proofs.lemmas.Bool.{and_parts}
use Rattle.drda_words.specs.Order.{rises}
use Rattle.row_values.specs.Schema.{is_name}
use Rattle.row_values.proofs.ValueLaws.{first_true}
use Rattle.key_map.specs.Slots.{by_bytes}
use Rattle.tables.specs.Tables.{Store, Table}
use Rattle.tables.specs.View.{is_store, is_table}
use Rattle.half_store.specs.declared.active.Active.{Active}
use Rattle.store_check.specs.Checkpoint.{forms, store_on}
use Rattle.store_check.specs.Half.{HalfPages, IsWholeHalf, LiesBehind, LiesBelow, NotesTable, TableRows, entry_in, pages_of}
use Rattle.store_check.specs.Listed.{is_before, names_rise}
use Rattle.store_check.specs.declared.half.CheckedTable.{CheckedTable}
use Rattle.store_check.specs.declared.errors.CheckError.{CheckError}
use Rattle.store_check.specs.declared.errors.CheckError.TheVariants.{NoMemory, DeviceFailed, Damaged}
use Rattle.store_check.specs.Reading.{DamagedOnly}
use Rattle.store_check.proofs.ReadBack.{lie_below}
use Rattle.paged_tables.specs.PagedTables.{store_in}
use Rattle.paged_tables.specs.TablesByName.{AddsPages, AreOnPages, ComesLast, LieInside, LieOutside, Tables, store_of}
use Rattle.paged_tables.specs.declared.store.PagedTables.{PagedTables}
use Rattle.paged_checkpoints.specs.Opening.{OpensCheckpoint, StandsIn, StandsOutside, name_in, noted_table, opened_of}
use Rattle.paged_checkpoints.proofs.Beside.{half_outside}

-- ---- names that rise

less_is : (o : Ordering) → match_ordering o true false false ≡ true → o ≡ Less
less_is Less h = refl
less_is Equal h = absurd cc
less_is Greater h = absurd cc

lower : (q n : List ℕ) (cs : List CheckedTable) → by_bytes q n ≡ Less → AllByRecursion (λ c. by_bytes n (name_in c) ≡ Less) cs → AllByRecursion (λ c. by_bytes q (name_in c) ≡ Less) cs
lower q n [] less all = tt
lower q n (c ∷ cs) less all = (nat_list_cmp_total.trans q n (name_in c) less all.0, lower q n cs less all.1)

-- the first name comes before all others
above : (c : CheckedTable) (cs : List CheckedTable) → names_rise (map entry_in (c ∷ cs)) ≡ true → AllByRecursion (λ d. by_bytes (name_in c) (name_in d) ≡ Less) cs
above c [] rise = tt
above c (d ∷ cs) rise =
    let parts = and_parts (is_before (entry_in c) (map entry_in (d ∷ cs))) (names_rise (map entry_in (d ∷ cs))) rise in
    let less = less_is (by_bytes (name_in c) (name_in d)) parts.0 in
    (less, lower (name_in c) (name_in d) cs less (above d cs parts.1))

behind_one_more : (store : Store) (x : List ℕ × Table) (name : List ℕ) → ComesLast name store → by_bytes x.0 name ≡ Less → ComesLast name (store ++ x ∷ [])
behind_one_more [] x name last less = (less, tt)
behind_one_more (e ∷ store) x name last less = (last.0, behind_one_more store x name last.1 less)

-- names behind those of a store, and behind one more
all_behind : (store : Store) (x : List ℕ × Table) (cs : List CheckedTable) → AllByRecursion (λ c. ComesLast (name_in c) store) cs → AllByRecursion (λ c. by_bytes x.0 (name_in c) ≡ Less) cs → AllByRecursion (λ c. ComesLast (name_in c) (store ++ x ∷ [])) cs
all_behind store x [] last less = tt
all_behind store x (c ∷ cs) last less = (behind_one_more store x (name_in c) last.0 less.0, all_behind store x cs last.1 less.1)

none_behind : (cs : List CheckedTable) → AllByRecursion (λ c. ComesLast {X = Table} (name_in c) []) cs
none_behind [] = tt
none_behind (c ∷ cs) = (tt, none_behind cs)

-- ---- names of a store

all_named : (cs : List CheckedTable) → list_all (λ (e : List ℕ × Table). is_name e.0 && is_table e.1) (map noted_table cs) ≡ true → AllByRecursion (λ c. is_name (name_in c) ≡ true) cs
all_named [] good = tt
all_named (c ∷ cs) good =
    let parts = and_parts (is_name (name_in c) && is_table (noted_table c).1) (list_all (λ (e : List ℕ × Table). is_name e.0 && is_table e.1) (map noted_table cs)) good in
    (first_true (is_name (name_in c)) (is_table (noted_table c).1) parts.0, all_named cs parts.1)

-- ---- table after table

-- With the tables that are left those that are there make all.
pub record IsUnderWay (all left : List CheckedTable) (tables : Tables) : Type 0 where
  pub store : store_of tables ++ map noted_table left ≡ map noted_table all
  pub good : AllByRecursion (NotesTable forms) left
  pub rise : names_rise (map entry_in left) ≡ true
  pub last : AllByRecursion (λ c. ComesLast (name_in c) (store_of tables)) left
  pub named : is_store (map noted_table all) ≡ true → AllByRecursion (λ c. is_name (name_in c) ≡ true) left
  pub stand : (file : List ℕ) → AllByRecursion (StandsIn file) all → AreOnPages file tables × AllByRecursion (StandsIn file) left
  pub inside : (size : ℕ) → AllByRecursion (LiesBelow size) all → LieInside size tables × AllByRecursion (LiesBelow size) left
  pub apart : (from end : ℕ) → AllByRecursion (StandsOutside from end) all → LieOutside from end tables × AllByRecursion (StandsOutside from end) left

pub none_added : (all left : List CheckedTable) (tables : Tables) → left ≡ all → tables ≡ [] → AllByRecursion (NotesTable forms) all → names_rise (map entry_in all) ≡ true → IsUnderWay all left tables
none_added all left tables same none good rise = subst (λ (l : List CheckedTable). IsUnderWay all l tables) (sym same) (subst (λ (t : Tables). IsUnderWay all all t) (sym none) (record {
  store = refl;
  good = good;
  rise = rise;
  last = none_behind all;
  named = λ h. all_named all (first_true (list_all (λ (e : List ℕ × Table). is_name e.0 && is_table e.1) (map noted_table all)) (rises (slice_cmp nat_cmp) (keys_of (map noted_table all))) h);
  stand = λ file h. (tt, h);
  inside = λ size h. (tt, h);
  apart = λ from end h. (tt, h);
}))

pub one_added : (all : List CheckedTable) (c : CheckedTable) (more : List CheckedTable) (old new : Tables) → IsUnderWay all (c ∷ more) old → store_of new ≡ store_of old ++ noted_table c ∷ [] → AddsPages old (opened_of c) new → IsUnderWay all more new
one_added all c more old new so added pages = record {
  store = ap (λ (s : Store). s ++ map noted_table more) added ∙ append_assoc (store_of old) (noted_table c ∷ []) (map noted_table more) ∙ so.store;
  good = so.good.1;
  rise = rest_rise c more so.rise;
  last = subst (λ (s : Store). AllByRecursion (λ d. ComesLast (name_in d) s) more) (sym added) (all_behind (store_of old) (noted_table c) more so.last.1 (above c more so.rise));
  named = λ h. (so.named h).1;
  stand = λ file h. let was = so.stand file h in (pages.stand file was.0 was.1.0, was.1.1);
  inside = λ size h. let was = so.inside size h in (pages.inside size was.0 was.1.0, was.1.1);
  apart = λ from end h. let was = so.apart from end h in (pages.apart from end was.0 was.1.0, was.1.1);
}
  where
    rest_rise : (c : CheckedTable) (more : List CheckedTable) → names_rise (map entry_in (c ∷ more)) ≡ true → names_rise (map entry_in more) ≡ true
    rest_rise c more rise = (and_parts (is_before (entry_in c) (map entry_in more)) (names_rise (map entry_in more)) rise).1

-- ---- what is told of the half

-- a half that is whole was opened
pub all_opened : (image : List ℕ) (half : HalfPages) (cs : List CheckedTable) (ts : List TableRows) (result : Result PagedTables CheckError) → IsWholeHalf forms image half ts → map noted_table cs ≡ store_on ts → AllByRecursion (StandsIn image) cs
    → IfOk result (λ tables. store_in tables ≡ map noted_table cs) → IfOk result (λ tables. (file : List ℕ) → AllByRecursion (StandsIn file) cs → AreOnPages file tables.tables) → DamagedOnly ⊥ result → OpensCheckpoint image half result
all_opened image half cs ts (Ok tables) whole same stand store pages told = (record { tables = ts; whole = whole; is = store ∙ same }, pages image stand)
all_opened image half cs ts (Err NoMemory) whole same stand store pages told = tt
all_opened image half cs ts (Err DeviceFailed) whole same stand store pages told = tt
all_opened image half cs ts (Err (Damaged here)) whole same stand store pages told = absurd told

pub all_inside : (end : ℕ) (cs : List CheckedTable) (result : Result PagedTables CheckError) → AllByRecursion (LiesBelow end) cs → IfOk result (λ tables. (size : ℕ) → AllByRecursion (LiesBelow size) cs → LieInside size tables.tables)
    → IfOk result (λ tables. (size : ℕ) → end ≤ size → LieInside size tables.tables)
all_inside end cs (Ok tables) below lie = λ size le. lie size (lie_below end size le cs below)
all_inside end cs (Err e) below lie = tt

stand_outside : (a : Active) (from end : ℕ) (cs : List CheckedTable) → 8192 * a.pages ≤ a.region.at → (a.region.at ≤ from) ⊎ (end + 8192 * a.pages ≤ a.region.at) → AllByRecursion (LiesBelow a.region.at) cs → AllByRecursion (LiesBehind (pages_of a).at) cs → AllByRecursion (StandsOutside from end) cs
stand_outside a from end [] fits away below behind = tt
stand_outside a from end (c ∷ cs) fits away below behind =
    (half_outside a from end (opened_of c) fits away (record { first = behind.0; last = omega (arith, fits, below.0) }), stand_outside a from end cs fits away below.1 behind.1)

pub all_apart : (a : Active) (cs : List CheckedTable) (result : Result PagedTables CheckError) → 8192 * a.pages ≤ a.region.at → AllByRecursion (LiesBelow a.region.at) cs → AllByRecursion (LiesBehind (pages_of a).at) cs → IfOk result (λ tables. (from end : ℕ) → AllByRecursion (StandsOutside from end) cs → LieOutside from end tables.tables)
    → IfOk result (λ tables. (from end : ℕ) → (a.region.at ≤ from) ⊎ (end + 8192 * a.pages ≤ a.region.at) → LieOutside from end tables.tables)
all_apart a cs (Ok tables) fits below behind lie = λ from end away. lie from end (stand_outside a from end cs fits away below behind)
all_apart a cs (Err e) fits below behind lie = tt
