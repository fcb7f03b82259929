-- Passes by which chains publish.
use Rattle.std.specs.Prelude.{◌≡◌, IsSome}
use Rattle.ibc_root_table.specs.Passes.{TableName, Sight}

-- a chain's own pass of the table
abbrev pub IsOwnPassOf : TableName → Sight → Type 0
IsOwnPassOf table pass = (pass.table ≡ table) × IsSome pass.own
