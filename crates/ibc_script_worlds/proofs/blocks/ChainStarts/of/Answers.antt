use Rattle.std.proofs.Common.{◌≡◌, ◌∙◌, List, [], ◌∷◌, ap, length, map, refl, arith}
use Rattle.std.proofs.lemmas.List.{take_all}
use Rattle.ibc_machine.specs.chain.Genesis.{ChainState, chain_state}
use Rattle.ibc_machine.specs.declared.genesis.ChainStart.{ChainStart}
use Rattle.ibc_script_worlds.proofs.blocks.ChainStarts.of.Goals as goal

same_times : (starts : List ChainStart) → map (λ (start : ChainStart). start.time) starts ≡ map (λ (chain : ChainState). chain.time) (map chain_state starts)
same_times [] = refl
same_times (start ∷ starts) = ap (λ times. start.time ∷ times) (same_times starts)

pub returns : goal.returns
returns c =
    let starts = c.args.genesis.now.chains.items in (
      refl,
      c.loop-start.invariant ∙ ap (map (λ (start : ChainStart). start.time)) (take_all c.loop-start.start-index starts (omega (arith, c.loop-start-test.false, ap length c.deref-start-items.ensures.value))) ∙ same_times starts,
    )
