-- What a command brought: the text of its parameters, and the contents of its object DSSs, each a list
-- of objects (DRDA V5 volume 3, "Data Stream Structures").
use Rattle.std.specs.Prelude.{ℕ, ◌+◌, ◌==◌, Bool, true, false, ◌&&◌, List, [], ◌∷◌, length, map, Option, Some, None, if◌then◌else◌}
use Rattle.std.specs.Option.{option_map}
use Rattle.ddm_objects.specs.Objects.{Obj}
use Rattle.ddm_objects.specs.Reading.{walk}
use Rattle.dss_frames.specs.Dss.{Dss}
use Rattle.drda_commands.specs.declared.table.Command.{Command}
use Rattle.drda_commands.specs.declared.table.ItemKind.{ItemKind}
use Rattle.drda_commands.specs.declared.table.ItemKind.TheVariants.{Parameter, DataObject}
use Rattle.drda_commands.specs.declared.table.Form.{Form}
use Rattle.drda_commands.specs.declared.table.Form.TheVariants.{ManagerLevels, AnyBytes, Bytes, BlockSize, Boolean, SqldaType, SyncType, DefinitionName, DefinitionOverrides, StatementTexts, DescribedData}
use Rattle.drda_commands.specs.declared.table.Item.{Item}
use Rattle.drda_commands.specs.declared.refusal.SyntaxError.{SyntaxError}
use Rattle.drda_commands.specs.declared.refusal.SyntaxError.TheVariants.{InObject, MalformedText}
use Rattle.drda_commands.specs.Tables.{items_for}
use Rattle.drda_commands.specs.Texts.{Texts, texts_in}

-- the contents of DSSs
abbrev pub contents_of : List Dss → List (List ℕ)
contents_of dsss = map (λ d. d.contents) dsss

pub record Given : Type 0 where
  pub parameters : List ℕ
  pub objects : List (List ℕ)

-- a command that comes alone
abbrev pub nothing : Given
nothing = record { parameters = []; objects = [] }

-- how often a code point stands there, and its data where it stands once
pub data Occurs : Type 0 where
  never : Occurs
  once : List ℕ → Occurs
  twice : Occurs

-- its data, where it stands once
abbrev pub value_of : Occurs → Option (List ℕ)
value_of never = None
value_of (once value) = Some value
value_of twice = None

abbrev pub seen_again : Occurs → List ℕ → Occurs
seen_again never value = once value
seen_again (once other) value = twice
seen_again twice value = twice

-- from what was seen before, on over these objects
abbrev pub seen_in : ℕ → Occurs → List Obj → Occurs
seen_in code before [] = before
seen_in code before (o ∷ os) = seen_in code (if o.code == code then seen_again before o.value else before) os

abbrev pub seen_in_texts : ℕ → Occurs → List (List ℕ) → Occurs
seen_in_texts code before [] = before
seen_in_texts code before (text ∷ texts) = seen_in_texts code (seen_in code before (walk text).objects) texts

-- where a code point may stand
abbrev pub found_at : ItemKind → ℕ → Given → Occurs
found_at Parameter code given = seen_in code never (walk given.parameters).objects
found_at DataObject code given = seen_in_texts code never given.objects

-- among the objects that a container's data are
abbrev pub found_inside : ℕ → List ℕ → Occurs
found_inside code value = seen_in code never (walk value).objects

-- how many data objects came
abbrev pub count_in : List (List ℕ) → ℕ
count_in [] = 0
count_in (text ∷ texts) = length (walk text).objects + count_in texts

-- ---- faults, the first by place

abbrev pub or_else : Option SyntaxError → Option SyntaxError → Option SyntaxError
or_else (Some fault) later = Some fault
or_else None later = later

-- a list of objects is judged as one
abbrev pub objects_fault : List ℕ → Option SyntaxError
objects_fault value = option_map InObject (walk value).fault

abbrev pub texts_fault : Option Texts → Option SyntaxError
texts_fault (Some texts) = None
texts_fault None = Some MalformedText

-- What is judged of an item's data where it stands: a container's objects, and that the texts of a statement
-- have their form.
abbrev pub own_fault : Form → List ℕ → Option SyntaxError
own_fault ManagerLevels value = None
own_fault AnyBytes value = None
own_fault (Bytes least greatest) value = None
own_fault BlockSize value = None
own_fault Boolean value = None
own_fault SqldaType value = None
own_fault SyncType value = None
own_fault DefinitionName value = None
own_fault DefinitionOverrides value = objects_fault value
own_fault StatementTexts value = texts_fault (texts_in value)
own_fault DescribedData value = objects_fault value

abbrev pub is_at : ItemKind → ItemKind → Bool
is_at Parameter Parameter = true
is_at DataObject DataObject = true
is_at kind other = false

-- the data of an object that stands at such a place, by the form that they have among these items; an object
-- that is none of them is not judged
abbrev pub fault_inside : List Item → ItemKind → Obj → Option SyntaxError
fault_inside [] kind o = None
fault_inside (item ∷ items) kind o = if is_at item.kind kind && (item.code == o.code) then own_fault item.form o.value else fault_inside items kind o

-- an object's own fault, then those of its data, then those behind it
abbrev pub fault_among : (Obj → Option SyntaxError) → List Obj → Option SyntaxError → Option SyntaxError
fault_among inside [] last = last
fault_among inside (o ∷ os) last = or_else (inside o) (fault_among inside os last)

abbrev pub fault_in : (Obj → Option SyntaxError) → List ℕ → Option SyntaxError
fault_in inside text = fault_among inside (walk text).objects (objects_fault text)

abbrev pub fault_in_texts : (Obj → Option SyntaxError) → List (List ℕ) → Option SyntaxError
fault_in_texts inside [] = None
fault_in_texts inside (text ∷ texts) = or_else (fault_in inside text) (fault_in_texts inside texts)

-- the parameters come before the data objects
abbrev pub first_fault : Command → Given → Option SyntaxError
first_fault command given =
    or_else (fault_in (fault_inside (items_for command) Parameter) given.parameters) (fault_in_texts (fault_inside (items_for command) DataObject) given.objects)
