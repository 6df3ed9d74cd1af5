-- What holds of objects and their texts.
use Rattle.std.specs.Prelude.{◌≡◌, ◌≢◌, ℕ, ◌+◌, ◌<◌, ◌≤◌, ◌^◌, ◌↔◌, List, [], ◌++◌, length, Some, None, Ok, Err}
use Rattle.drda_words.specs.Bytes.{AreBytes}
use Rattle.ddm_objects.specs.declared.fault.ObjFault.{ObjFault}
use Rattle.ddm_objects.specs.Objects.{Obj, IsObject, Begins, AreObjects}
use Rattle.ddm_objects.specs.Reading.{object_at, walk, walk_end, walk_stop, walk_past}
use Rattle.ddm_objects.specs.Writing.{spelled, Writing, Trees, text_of, AreTrees, CanBeWritten, written, appended}

-- a text is cut into objects in one way at most
abbrev pub IsCutOnce : Type 0
IsCutOnce = (bytes : List ℕ) (objects others : List Obj) → AreObjects bytes objects → AreObjects bytes others → objects ≡ others

-- an object at the front of bytes is read, and what is read is an object at the front
abbrev pub ReadsObjects : Type 0
ReadsObjects = (bytes rest : List ℕ) (o : Obj) → AreBytes bytes → (object_at bytes ≡ Ok (o, rest)) ↔ ((front : List ℕ) × IsObject front o × (bytes ≡ front ++ rest))

-- the walk over a text goes object by object
pub record WalksOn : Type 0 where
  pub at_end : walk [] ≡ walk_end
  pub past : (bytes rest : List ℕ) (o : Obj) → object_at bytes ≡ Ok (o, rest) → walk bytes ≡ walk_past o (walk rest)
  pub stopped : (bytes : List ℕ) (f : ObjFault) → bytes ≢ [] → object_at bytes ≡ Err f → walk bytes ≡ walk_stop f

-- the walk over bytes without fault is their cut into objects, and a walk that ends in a fault has read the
-- objects before it
pub record WalksTheCut : Type 0 where
  pub cut : (bytes : List ℕ) (objects : List Obj) → AreBytes bytes → AreObjects bytes objects ↔ (walk bytes ≡ record { objects = objects; fault = None })
  pub fault : (bytes : List ℕ) (objects : List Obj) (f : ObjFault) → AreBytes bytes
      → (walk bytes ≡ record { objects = objects; fault = Some f }) ↔ ((rest : List ℕ) × Begins bytes objects rest × (rest ≢ []) × (object_at rest ≡ Err f))

-- what a writer spells is that object, in 4 bytes more than its data, or 12 at most where there are many
pub record SpellsObjects : Type 0 where
  pub object : (code : ℕ) (value : List ℕ) → code < 2 ^ 16 → length value < 2 ^ 64 → IsObject (spelled code value) (record { code = code; value = value })
  pub plain : (code : ℕ) (value : List ℕ) → length value ≤ 32763 → length (spelled code value) ≡ length value + 4
  pub at_most : (code : ℕ) (value : List ℕ) → length (spelled code value) ≤ length value + 12

-- what the calls that write trees append is their text, and it reads back as those trees
pub record ReadsBack (trees : Trees) : Type 0 where
  pub appends : (w : Writing) → written trees w ≡ appended (text_of trees) w
  pub reads : CanBeWritten trees → AreTrees (text_of trees) trees
