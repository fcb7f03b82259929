-- The names of ends with one end more.
use Rattle.std.proofs.Common.{◌≡◌, refl, ap, List, [], ◌∷◌, ◌++◌}
use Rattle.ibc_law_checks.specs.declared.ends.EndNotes.{EndNotes}
use Rattle.ibc_law_checks.specs.MadeEnds.{end_names}

pub ends_push : (ends : List EndNotes) (more : EndNotes)
    → end_names (ends ++ more ∷ []) ≡ end_names ends ++ (more.chain, more.port, more.channel) ∷ []
ends_push [] more = refl
ends_push (first ∷ ends) more = ap (λ names. (first.chain, first.port, first.channel) ∷ names) (ends_push ends more)
