-- Columns, and which values fit them.
use Rattle.std.specs.Prelude.{ℕ, pos, negsuc, Bool, true, false, List, length, Option, Some, None, is_none, ◌&&◌, nat_le, int_le}
use Rattle.std.specs.String.{string_bytes}
use Rattle.row_values.specs.declared.column.Kind.{Kind}
use Rattle.row_values.specs.declared.column.Kind.TheVariants.{SmallInt, Integer, BigInt, VarChar, VarBinary}
use Rattle.row_values.specs.declared.column.Misfit.{Misfit}
use Rattle.row_values.specs.declared.column.Misfit.TheVariants.{WrongClass, IsNull, OutOfRange, TooLong}
use Rattle.row_values.specs.declared.column.Column.{Column as CodeColumn}
use Rattle.row_values.specs.Value.{Value, null, number, text, binary, is_value}

-- what a schema says of a column; limit: the most bytes of a text or of bytes, 0 for numbers
pub record Column : Type 0 where
  pub name : List ℕ
  pub kind : Kind
  pub is_nullable : Bool
  pub limit : ℕ

abbrev pub column_of : CodeColumn → Column
column_of c = record { name = string_bytes c.name; kind = c.kind; is_nullable = c.is_nullable; limit = c.length }

abbrev pub within : Bool → Misfit → Option Misfit
within true misfit = None
within false misfit = Some misfit

-- why a value that is not NULL can't stand in a column of this type and length
abbrev pub misfit_in : Kind → ℕ → Value → Option Misfit
misfit_in SmallInt limit (number n) = within (int_le (negsuc 32767) n && int_le n (pos 32767)) OutOfRange
misfit_in Integer limit (number n) = within (int_le (negsuc 2147483647) n && int_le n (pos 2147483647)) OutOfRange
misfit_in BigInt limit (number n) = within (int_le (negsuc 9223372036854775807) n && int_le n (pos 9223372036854775807)) OutOfRange
misfit_in VarChar limit (text bytes) = within (nat_le (length bytes) limit) TooLong
misfit_in VarBinary limit (binary bytes) = within (nat_le (length bytes) limit) TooLong
misfit_in kind limit value = Some WrongClass

-- the first reason why a value doesn't fit a column; NULL is of every class
abbrev pub misfit_of : Column → Value → Option Misfit
misfit_of column null = within column.is_nullable IsNull
misfit_of column (number n) = misfit_in column.kind column.limit (number n)
misfit_of column (text bytes) = misfit_in column.kind column.limit (text bytes)
misfit_of column (binary bytes) = misfit_in column.kind column.limit (binary bytes)

-- the value fits the column
abbrev pub fits : Column → Value → Bool
fits column value = is_none (misfit_of column value) && is_value value
