-- The forms of the items of a list that has a fixed number of them.
use Rattle.std.specs.Prelude.{List, [], ◌∷◌}
use Rattle.ibc_lab.specs.declared.fault.Tuple.{Tuple}
use Rattle.ibc_lab.specs.declared.fault.Tuple.TheVariants as tuple
use Rattle.ibc_lab.specs.declared.leaf.Leaf.{Leaf}
use Rattle.ibc_lab.specs.declared.leaf.Leaf.TheVariants as leaf
use Rattle.ibc_lab.specs.declared.text_form.TextForm.TheVariants as text

abbrev pub parts_of : Tuple → List Leaf
parts_of tuple.Pair = leaf.Known ∷ leaf.Known ∷ []
parts_of tuple.Packet =
    leaf.Known ∷ leaf.Text text.Port ∷ leaf.Text text.Channel ∷ leaf.Number 0 18446744073709551615 ∷ []
parts_of tuple.Token = leaf.Text text.Denom ∷ leaf.Text text.Amount ∷ []
parts_of tuple.Balance = leaf.Text text.User ∷ leaf.Text text.BaseDenom ∷ leaf.Text text.Amount ∷ []
