-- What is only read stays as it is.
use Rattle.std.proofs.Common.{◌∙◌, refl}
use Rattle.sqlite.specs.State.{State}
use Rattle.sqlite.specs.Held.{Held}
use Rattle.ibc_node.specs.declared.node.Node.{Node}
use Rattle.ibc_node.proofs.Staying.{keeps_same, keeps_on}
use Rattle.ibc_node_lines.specs.Desks.{IsOnlyRead}

module _ {S : Type 0} (shows : Held S → State) where
  pub read_same : (node : Node S) → IsOnlyRead shows node node
  read_same node = record { beside = keeps_same shows node; world = refl; end = refl; marks = refl }

  pub read_on : (a b c : Node S) → IsOnlyRead shows a b → IsOnlyRead shows b c → IsOnlyRead shows a c
  read_on a b c one two = record {
    beside = keeps_on shows a b c one.beside two.beside;
    world = two.world ∙ one.world;
    end = two.end ∙ one.end;
    marks = two.marks ∙ one.marks;
  }
