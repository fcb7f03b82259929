-- Copies share what they have.
use Rattle.std.proofs.Common.{◌++◌, sym, ap, ap₂, ◌∙◌, subst}
use Rattle.ibc_forest.specs.Shelves.{concatenated, AreFull}
use Rattle.ibc_forest.proofs.InChunks.{same_chunks, same_groups}
use Rattle.ibc_forest.proofs.chunks.Chunks.snapshot.Goals as goal

pub invariant_of-result : goal.invariant_of-result
invariant_of-result c = subst AreFull (sym (same_groups c.self.inside.groups.items c.in_ok-groups.groups.items c.in_ok-groups.ensures.cases.0)) c.self.invariant

pub returns : goal.returns
returns c =
    ap₂ ◌++◌ (ap concatenated (same_groups c.self.inside.groups.items c.in_ok-groups.groups.items c.in_ok-groups.ensures.cases.0))
    (same_chunks c.self.inside.begun.items c.in_ok-begun.begun.items c.in_ok-begun.ensures.cases.0)
    ∙ c.self.view_is
