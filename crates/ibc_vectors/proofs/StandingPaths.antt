-- Where a path has a value, there is a pair.
use Rattle.std.proofs.Common.{◌≡◌, ◌<◌, true, [], ◌∷◌, length, sym, ap, ◌∙◌, arith, Option, Some, None}
use Rattle.std.specs.Prelude.{option_map, is_some}
use Rattle.std.proofs.lemmas.Bool.{false≢true}
use Rattle.ibc_ids.specs.Texts.{Text, text_cmp}
use Rattle.ibc_ids.specs.Maps.{at}
use Rattle.ibc_merkle.specs.Tree.{Pairs}

some_there : (key : Text) (pairs : Pairs) → is_some (at text_cmp key pairs) ≡ true → 0 < length pairs
some_there key [] there = absurd (false≢true there)
some_there key (pair ∷ pairs) there = omega arith

kept_there : {A : Type 0} (found : Option A) (f : A → Text) → is_some found ≡ true → is_some (option_map f found) ≡ true
kept_there None f there = there
kept_there (Some x) f there = there

pub found_there : {A : Type 0} (found : Option A) (f : A → Text) (key : Text) (pairs : Pairs) → option_map f found ≡ at text_cmp key pairs → is_some found ≡ true → 0 < length pairs
found_there found f key pairs is there = some_there key pairs (sym (ap is_some is) ∙ kept_there found f there)
