-- The open chunk is one more full one.
use Rattle.std.proofs.Common.{◌≡◌, ◌∷◌, ◌++◌, [], List, refl, ap, ap₂, ◌∙◌, Vec}
use Rattle.std.specs.declared.alloc.Global.{Global}
use Rattle.ibc_forest.specs.declared.node.ArenaNode.{ArenaNode}
use Rattle.ibc_forest.specs.Shelves.{concatenated}
use Rattle.ibc_forest.proofs.InChunks.{closed_same}
use Rattle.ibc_forest.proofs.shelf.close.Goals as goal

pub returns-in-Ok-clause-same : goal.returns-in-Ok-clause-same
returns-in-Ok-clause-same c =
    let items = λ (v : Vec ArenaNode Global). v.items in
    let full = c.args.full.now in
    let begun = c.args.begun.now.items in
    let none : c.replace-chunk.new.dest.items ≡ [] = ap items c.replace-chunk.ensures.after ∙ c.new.ensures.items in
    ap₂ (λ (chunks : List (List ArenaNode)) (rest : List ArenaNode). concatenated chunks ++ rest)
    (c.in-Ok.ensures.ok ∙ ap (λ (v : Vec ArenaNode Global). full ++ v.items ∷ []) c.replace-chunk.ensures.value) none
    ∙ closed_same full (full ++ begun ∷ []) begun refl
