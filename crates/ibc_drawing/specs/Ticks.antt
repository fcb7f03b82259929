-- Where the blocks of chains end in a picture.
use Rattle.std.specs.Prelude.{ℕ, Bool, ◌==◌, ◌&&◌, List, find, option_map, reverse, unwrap_or}
use Rattle.ibc_drawing.specs.declared.canvas.Tick.{Tick}

-- the end of this chain's block of this height
abbrev pub is_tick : ℕ → ℕ → Tick → Bool
is_tick chain height tick = (tick.chain == chain) && (tick.height == height)

-- how far down the last such end stands, or where there is none
abbrev pub end_of_block : ℕ → ℕ → List Tick → ℕ → ℕ
end_of_block chain height ticks otherwise =
    unwrap_or (option_map (λ (tick : Tick). tick.y) (find (is_tick chain height) (reverse ticks))) otherwise

-- the end of a block, so far down
abbrev pub new_tick : ℕ → ℕ → ℕ → Tick
new_tick chain height y = record { chain = chain; height = height; y = y }
