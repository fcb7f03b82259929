use Rattle.std.proofs.Common.{◌≡◌, ◌+◌, ◌++◌, ℕ, take, drop}
use Rattle.ibc_path_store.specs.GapChanges.{standing, with_replacement}
use Rattle.ibc_path_store.proofs.touched.place_of.Given as goal

abbrev pub invariant-loop-i : goal.invariant-loop-i
invariant-loop-i l =
    record {
      counted : standing (take l.i l.gaps) + l.before ≡ l.index;
      rest : (come : ℕ) → with_replacement l.gaps l.index l.gone come ≡ take l.i l.gaps ++ with_replacement (drop l.i l.gaps) l.before l.gone come;
    }
