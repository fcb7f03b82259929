-- What stands in chunks.
use Rattle.std.specs.Prelude.{◌≡◌, List, [], ◌∷◌, ◌++◌, length, map, Vec}
use Rattle.std.specs.List.{All}
use Rattle.std.specs.Arc.{arc_value}
use Rattle.std.specs.declared.alloc.Global.{Global}
use Rattle.std.specs.declared.sync.Arc.{Arc}
use Rattle.ibc_forest.specs.declared.node.ArenaNode.{ArenaNode}

-- what each chunk has
abbrev pub chunk_items : {A : Type 0} → List (Arc (Vec A Global) Global) → List (List A)
chunk_items {A} chunks = map (λ (chunk : Arc (Vec A Global) Global). (arc_value chunk).items) chunks

-- what the chunks of each group have
abbrev pub groups_items : List (Arc (Vec (Arc (Vec ArenaNode Global) Global) Global) Global) → List (List (List ArenaNode))
groups_items groups = map (λ (group : Arc (Vec (Arc (Vec ArenaNode Global) Global) Global) Global). chunk_items (arc_value group).items) groups

-- one after another
abbrev pub concatenated : {A : Type 0} → List (List A) → List A
concatenated [] = []
concatenated (chunk ∷ chunks) = chunk ++ concatenated chunks

abbrev pub AreFull : {A : Type 0} → List (List A) → Type 0
AreFull {A} chunks = All (λ (chunk : List A). length chunk ≡ 128) chunks
