-- What an accepted command brings, item by item (DRDA V5 volume 3, the parameters and data objects by name).
use Rattle.std.specs.Prelude.{ℕ, ◌==◌, ◌%◌, Bool, false, List, [], ◌∷◌, Option, Some, None, if◌then◌else◌}
use Rattle.std.specs.Option.{option_and_then, option_map}
use Rattle.std.specs.Int.{w32, w64, from_be_bytes}
use Rattle.ddm_objects.specs.declared.code_point.TheConstants.{PKGNAMCSN, RTNSQLDA, TYPSQLDA, QRYBLKSZ, QRYINSID, SYNCTYPE, SQLSTT, SQLATTR, SQLDTA, FDODSC, FDODTA}
use Rattle.drda_commands.specs.declared.table.ItemKind.{ItemKind}
use Rattle.drda_commands.specs.declared.table.ItemKind.TheVariants.{Parameter, DataObject}
use Rattle.drda_commands.specs.declared.values.DescribedSide.{DescribedSide}
use Rattle.drda_commands.specs.declared.values.DescribedSide.TheVariants.{Columns, Parameters}
use Rattle.drda_commands.specs.Given.{Given, value_of, found_at, found_inside}
use Rattle.drda_commands.specs.Texts.{text_in}

-- the data of an item that came once
abbrev pub brought : ItemKind → ℕ → Given → Option (List ℕ)
brought kind code given = value_of (found_at kind code given)

-- PKGNAMCSN as it came
abbrev pub section_in : Given → Option (List ℕ)
section_in given = brought Parameter PKGNAMCSN given

-- of the texts of SQLSTT, and of SQLATTR, the one that counts
abbrev pub statement_in : Given → Option (List ℕ)
statement_in given = option_and_then text_in (brought DataObject SQLSTT given)

abbrev pub attributes_in : Given → Option (List ℕ)
attributes_in given = option_and_then text_in (brought DataObject SQLATTR given)

-- RTNSQLDA is F1; where it does not come, it is F0
abbrev pub is_true : Option (List ℕ) → Bool
is_true (Some (b ∷ [])) = b == 0xF1
is_true value = false

abbrev pub wants_description : Given → Bool
wants_description given = is_true (brought Parameter RTNSQLDA given)

-- TYPSQLDA: the odd ones describe the parameters, the even ones the columns; where it does not come, it is 00
abbrev pub side_of : Option (List ℕ) → DescribedSide
side_of (Some (b ∷ [])) = if b % 2 == 1 then Parameters else Columns
side_of value = Columns

abbrev pub side_in : Given → DescribedSide
side_in given = side_of (brought Parameter TYPSQLDA given)

-- numbers of one, four and eight bytes
abbrev pub number1 : List ℕ → Option ℕ
number1 (a ∷ []) = Some a
number1 value = None

abbrev pub number4 : List ℕ → Option ℕ
number4 (a ∷ b ∷ c ∷ d ∷ []) = Some (from_be_bytes w32 (a ∷ b ∷ c ∷ d ∷ []))
number4 value = None

abbrev pub number8 : List ℕ → Option ℕ
number8 (a ∷ b ∷ c ∷ d ∷ e ∷ f ∷ g ∷ h ∷ []) = Some (from_be_bytes w64 (a ∷ b ∷ c ∷ d ∷ e ∷ f ∷ g ∷ h ∷ []))
number8 value = None

abbrev pub block_size_in : Given → Option ℕ
block_size_in given = option_and_then number4 (brought Parameter QRYBLKSZ given)

abbrev pub query_instance_in : Given → Option ℕ
query_instance_in given = option_and_then number8 (brought Parameter QRYINSID given)

abbrev pub sync_type_in : Given → Option ℕ
sync_type_in given = option_and_then number1 (brought Parameter SYNCTYPE given)

-- the description and the values of parameters, where they stand in SQLDTA
pub record DescribedData : Type 0 where
  pub description : Option (List ℕ)
  pub values : Option (List ℕ)

abbrev pub described_by : List ℕ → DescribedData
described_by value = record { description = value_of (found_inside FDODSC value); values = value_of (found_inside FDODTA value) }

-- none where no SQLDTA comes
abbrev pub described_data_in : Given → Option DescribedData
described_data_in given = option_map described_by (brought DataObject SQLDTA given)
