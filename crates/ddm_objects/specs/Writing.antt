-- How objects are written, one in the other. DRDA V5 volume 3 (DDM), "Data Stream Structures".
use Rattle.std.specs.Prelude.{◌≡◌, ℕ, ◌<◌, ◌^◌, List, [], ◌∷◌, ◌++◌, length, nat_le, nat_lt, if◌then◌else◌}
use Rattle.ddm_objects.specs.Objects.{Obj, Form, Plain, Extended4, Extended8, heading, IsObject}

-- the form that a writer takes for data of so many bytes: the plain one wherever it has room
abbrev pub form_for : ℕ → Form
form_for size = if nat_le size 32763 then Plain else if nat_lt size 0x1_0000_0000 then Extended4 else Extended8

-- the text of an object as a writer spells it
unfoldable pub spelled : ℕ → List ℕ → List ℕ
spelled code value = heading (form_for (length value)) code (length value) ++ value

-- what stands in place of a container's heading until it is closed
abbrev pub unset : List ℕ
unset = 0 ∷ 0 ∷ 0 ∷ 0 ∷ []

-- What has been written: a text, and behind it the containers that are open, the innermost first, each
-- with what it holds so far.
pub record Writing : Type 0 where
  pub text : List ℕ
  pub containers : List Obj

abbrev pub nothing_yet : Writing
nothing_yet = record { text = []; containers = [] }

-- a container is opened
abbrev pub opened : ℕ → Writing → Writing
opened code w = record { text = w.text; containers = record { code = code; value = [] } ∷ w.containers }

-- bytes are appended to the text, or to the innermost container that is open
abbrev pub append_to : List ℕ → List Obj → List ℕ → Writing
append_to text [] bytes = record { text = text ++ bytes; containers = [] }
append_to text (o ∷ os) bytes = record { text = text; containers = record { code = o.code; value = o.value ++ bytes } ∷ os }

abbrev pub appended : List ℕ → Writing → Writing
appended bytes w = append_to w.text w.containers bytes

-- the innermost container is closed: its text is appended to what is around it
abbrev pub close_in : List ℕ → List Obj → Writing
close_in text [] = record { text = text; containers = [] }
close_in text (o ∷ os) = append_to text os (spelled o.code o.value)

abbrev pub closed : Writing → Writing
closed w = close_in w.text w.containers

-- Trees of objects, side by side: none; or a first one, a scalar with its bytes or a container with the
-- trees in it, and the trees beside it.
pub data Trees : Type 0 where
  NoTrees : Trees
  Scalar : ℕ → List ℕ → Trees → Trees
  Container : ℕ → Trees → Trees → Trees

-- their text
abbrev pub text_of : Trees → List ℕ
text_of NoTrees = []
text_of (Scalar code value beside) = spelled code value ++ text_of beside
text_of (Container code inside beside) = spelled code (text_of inside) ++ text_of beside

-- the bytes are those trees: the data of each container are in turn a list of objects
abbrev pub AreTrees : List ℕ → Trees → Type 0
AreTrees bytes NoTrees = bytes ≡ []
AreTrees bytes (Scalar code value beside) = (front : List ℕ) × (after : List ℕ) × IsObject front (record { code = code; value = value }) × (bytes ≡ front ++ after) × AreTrees after beside
AreTrees bytes (Container code inside beside) =
    (front : List ℕ) × (after : List ℕ) × (value : List ℕ) × IsObject front (record { code = code; value = value }) × AreTrees value inside × (bytes ≡ front ++ after) × AreTrees after beside

-- what a writer can write: code points of two bytes, and data whose length has at most 64 bits
abbrev pub CanBeWritten : Trees → Type 0
CanBeWritten NoTrees = Unit {0}
CanBeWritten (Scalar code value beside) = (code < 2 ^ 16) × (length value < 2 ^ 64) × CanBeWritten beside
CanBeWritten (Container code inside beside) = (code < 2 ^ 16) × (length (text_of inside) < 2 ^ 64) × CanBeWritten inside × CanBeWritten beside

-- what stands after the calls that write the trees, from left to right: each container is opened, filled
-- and closed
abbrev pub written : Trees → Writing → Writing
written NoTrees w = w
written (Scalar code value beside) w = written beside (appended (spelled code value) w)
written (Container code inside beside) w = written beside (closed (written inside (opened code w)))
