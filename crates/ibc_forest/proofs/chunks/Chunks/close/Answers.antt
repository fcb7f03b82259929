-- The open group is one more full one.
use Rattle.std.proofs.Common.{◌≡◌, ◌∷◌, ◌++◌, [], List, refl, ap, ap₂, ◌∙◌, Vec}
use Rattle.std.specs.Arc.{arc_value}
use Rattle.std.specs.declared.alloc.Global.{Global}
use Rattle.std.specs.declared.sync.Arc.{Arc}
use Rattle.ibc_forest.specs.declared.node.ArenaNode.{ArenaNode}
use Rattle.ibc_forest.specs.Shelves.{chunk_items, groups_items, concatenated}
use Rattle.ibc_forest.proofs.InChunks.{closed_same, group_more}
use Rattle.ibc_forest.proofs.chunks.Chunks.close.Goals as goal

pub returns-in-Ok : goal.returns-in-Ok
returns-in-Ok c =
    let groups = c.self.inside.groups.items in
    let begun = c.self.inside.begun.items in
    let items = λ (v : Vec (Arc (Vec ArenaNode Global) Global) Global). v.items in
    let its : (arc_value c.in-Ok.group).items ≡ begun = ap items (c.in-Ok.ensures.ok ∙ c.replace-begun.ensures.value) in
    let after : c.push_reserved.new.self.items ≡ groups ++ c.in-Ok.group ∷ [] = c.push_reserved.ensures.items ∙ ap (λ xs. xs ++ c.in-Ok.group ∷ []) c.reserve.ensures.items in
    let none : c.replace-begun.new.dest.items ≡ [] = ap items c.replace-begun.ensures.after ∙ c.new.ensures.items in
    ap₂ (λ (all : List (List (List ArenaNode))) (rest : List (Arc (Vec ArenaNode Global) Global)). concatenated all ++ chunk_items rest)
    (group_more groups c.push_reserved.new.self.items c.in-Ok.group begun its after) none
    ∙ closed_same (groups_items groups) (groups_items groups ++ chunk_items begun ∷ []) (chunk_items begun) refl
    ∙ c.self.view_is
