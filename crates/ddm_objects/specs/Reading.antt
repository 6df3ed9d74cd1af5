-- How a text is read as objects, and which fault ends the reading. DRDA V5 volume 3 (DDM), SYNERRCD.
use Rattle.std.specs.Prelude.{ℕ, zero, suc, ◌-◌, List, [], ◌∷◌, ◌++◌, length, take, drop, filter, Option, Some, None, Result, Ok, Err, nat_lt, ◌==◌, if◌then◌else◌}
use Rattle.std.specs.Int.{w16, w64, from_be_bytes}
use Rattle.ddm_objects.specs.declared.fault.ObjFault.{ObjFault}
use Rattle.ddm_objects.specs.declared.fault.ObjFault.TheVariants.{LengthBelowFour, PastContainer, ExtendedLength}
use Rattle.ddm_objects.specs.Objects.{Obj}

-- the data of so many bytes, and what follows: as much as the length says has to be there
abbrev pub value_at : ℕ → ℕ → List ℕ → Result (Obj × List ℕ) ObjFault
value_at code size bytes = if nat_lt (length bytes) size then Err PastContainer else Ok (record { code = code; value = take size bytes }, drop size bytes)

-- a text that begins with a length of two bytes, for so many bytes of data
unfoldable pub plain_at : ℕ → List ℕ → Result (Obj × List ℕ) ObjFault
plain_at size (a ∷ b ∷ c ∷ d ∷ bytes) = value_at (from_be_bytes w16 (c ∷ d ∷ [])) size bytes
plain_at size bytes = Err PastContainer

-- a text that begins with 8008, 800A or 800C: the length of its data follows the code point, in 4, 6 or 8 bytes
unfoldable pub extended4_at : List ℕ → Result (Obj × List ℕ) ObjFault
extended4_at (a ∷ b ∷ c ∷ d ∷ e ∷ f ∷ g ∷ h ∷ bytes) = value_at (from_be_bytes w16 (c ∷ d ∷ [])) (from_be_bytes w64 (0 ∷ 0 ∷ 0 ∷ 0 ∷ e ∷ f ∷ g ∷ h ∷ [])) bytes
extended4_at bytes = Err PastContainer

unfoldable pub extended6_at : List ℕ → Result (Obj × List ℕ) ObjFault
extended6_at (a ∷ b ∷ c ∷ d ∷ e ∷ f ∷ g ∷ h ∷ i ∷ j ∷ bytes) = value_at (from_be_bytes w16 (c ∷ d ∷ [])) (from_be_bytes w64 (0 ∷ 0 ∷ e ∷ f ∷ g ∷ h ∷ i ∷ j ∷ [])) bytes
extended6_at bytes = Err PastContainer

unfoldable pub extended8_at : List ℕ → Result (Obj × List ℕ) ObjFault
extended8_at (a ∷ b ∷ c ∷ d ∷ e ∷ f ∷ g ∷ h ∷ i ∷ j ∷ k ∷ l ∷ bytes) = value_at (from_be_bytes w16 (c ∷ d ∷ [])) (from_be_bytes w64 (e ∷ f ∷ g ∷ h ∷ i ∷ j ∷ k ∷ l ∷ [])) bytes
extended8_at bytes = Err PastContainer

-- The object that a text begins with and what follows it, or why none is there: a length that can't be is
-- told from its two bytes, before anything else is looked at.
unfoldable pub object_at : List ℕ → Result (Obj × List ℕ) ObjFault
object_at (a ∷ b ∷ bytes) =
    let n = from_be_bytes w16 (a ∷ b ∷ []) in
    if nat_lt n 4 then Err LengthBelowFour
    else if nat_lt n 0x8000 then plain_at (n - 4) (a ∷ b ∷ bytes)
    else if n == 0x8008 then extended4_at (a ∷ b ∷ bytes)
    else if n == 0x800A then extended6_at (a ∷ b ∷ bytes)
    else if n == 0x800C then extended8_at (a ∷ b ∷ bytes)
    else Err ExtendedLength
object_at bytes = Err PastContainer

-- the objects of a text from its beginning on, up to its end or to the first fault by place
pub record Walk : Type 0 where
  pub objects : List Obj
  pub fault : Option ObjFault

-- nothing is left; a fault stands first; an object stands first, and the walk goes on behind it
abbrev pub walk_end : Walk
walk_end = record { objects = []; fault = None }

abbrev pub walk_stop : ObjFault → Walk
walk_stop f = record { objects = []; fault = Some f }

abbrev pub walk_past : Obj → Walk → Walk
walk_past o w = record { objects = o ∷ w.objects; fault = w.fault }

-- objects stand before a walk
abbrev pub walk_behind : List Obj → Walk → Walk
walk_behind objects w = record { objects = objects ++ w.objects; fault = w.fault }

abbrev pub walk_on : Result (Obj × List ℕ) ObjFault → (List ℕ → Walk) → Walk
walk_on (Ok x) go = walk_past x.0 (go x.1)
walk_on (Err f) go = walk_stop f

-- the walk over at most so many objects
abbrev pub walk_within : ℕ → List ℕ → Walk
walk_within n [] = walk_end
walk_within zero (b ∷ bytes) = walk_stop PastContainer
walk_within (suc n) (b ∷ bytes) = walk_on (object_at (b ∷ bytes)) (walk_within n)

-- the walk over a whole text, which has no more objects than bytes
unfoldable pub walk : List ℕ → Walk
walk bytes = walk_within (length bytes) bytes

-- the objects with a code point
abbrev pub with_code : ℕ → List Obj → List Obj
with_code code objects = filter (λ o. o.code == code) objects
