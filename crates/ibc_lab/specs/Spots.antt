-- Lines and columns of a text, from 1.
use Rattle.std.specs.Prelude.{ℕ, ◌+◌, Bool, ◌&&◌, ◌==◌, nat_le, nat_lt, [], ◌∷◌, if◌then◌else◌}
use Rattle.ibc_ids.specs.Texts.{Text}
use Rattle.ibc_lab.specs.declared.position.Spot.{Spot}

-- a byte that goes on with a character in UTF-8
abbrev pub is_continuation : ℕ → Bool
is_continuation c = nat_le 128 c && nat_lt c 192

-- behind a text that begins at a line and a column: a line feed begins a line, and each other character is a column
abbrev pub spot_after : ℕ → ℕ → Text → Spot
spot_after line column [] = record { line = line; column = column }
spot_after line column (c ∷ cs) =
    if c == 10 then spot_after (line + 1) 1 cs
    else (if is_continuation c then spot_after line column cs else spot_after line (column + 1) cs)

abbrev pub spot_of : Text → Spot
spot_of before = spot_after 1 1 before
