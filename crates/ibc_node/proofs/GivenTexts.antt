-- Where a genesis is given, it is compared.
use Rattle.std.proofs.Common.{◌≡◌, true, false, ℕ, List, Option, Some, None, sym, ◌∙◌}
use Rattle.std.proofs.lemmas.Bool.{false≢true}
use Rattle.std.proofs.lemmas.Slice.Eq.{bytes_eq-Decides}
use Rattle.ibc_node.specs.Nodes.{is_given, IsGiven}

pub given_is : (genesis : Option (List ℕ)) (text : List ℕ) → is_given genesis text ≡ true → IsGiven genesis text
given_is None text is = tt
given_is (Some given) text is = (bytes_eq-Decides given text).0 is

pub given_is_not : (genesis : Option (List ℕ)) (text : List ℕ) → is_given genesis text ≡ false → IsGiven genesis text → ⊥
given_is_not None text other given = absurd (false≢true (sym other))
given_is_not (Some given) text other is = absurd (false≢true (sym other ∙ (bytes_eq-Decides given text).1 is))
