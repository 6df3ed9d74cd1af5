-- A section's parameters are described.
use Rattle.std.proofs.Common.{◌≡◌, ◌≤◌, true, List, [], ◌∷◌, length, nat_le, refl, arith}
use Rattle.std.specs.List.{list_all}
use Rattle.std.proofs.lemmas.Bool.Decides.{nat_tests}
use Rattle.std.proofs.lemmas.List.{length-map}
use Rattle.row_values.specs.Column.{Column}
use Rattle.row_values.proofs.ValueLaws.{both_true}
use Rattle.core_calls.specs.declared.described.ParameterType.{ParameterType}
use Rattle.sqlam_replies.specs.Sqldard.{are_described}
use Rattle.command_kit.specs.Reply.{parameter_column, parameter_columns}

-- a parameter has no name
names_short : (types : List ParameterType) → list_all (λ (c : Column). nat_le (length c.name) 30) (parameter_columns types) ≡ true
names_short [] = refl
names_short (t ∷ ts) = names_short ts

pub parameters_described : (types : List ParameterType) → length types ≤ 128 → are_described (parameter_columns types) ≡ true
parameters_described types few =
    let count : length (parameter_columns types) ≡ length types = length-map types parameter_column in
    let within : nat_le (length (parameter_columns types)) 128 ≡ true = grind (arith, nat_tests) in
    both_true _ _ within (names_short types)
