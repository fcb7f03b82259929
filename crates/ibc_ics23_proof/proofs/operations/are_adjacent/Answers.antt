-- The turns of what is left of both paths.
use Rattle.std.proofs.Common.{◌≡◌, true, not, ◌&&◌, ◌-◌, take, sym, ap, ap₂, ◌∙◌, arith}
use Rattle.std.specs.Bool.{beq}
use Rattle.std.specs.List.{list_all}
use Rattle.ibc_merkle.specs.Proofs.{goes_left, are_adjacent}
use Rattle.ibc_ics23_proof.proofs.PathTurns.{turns_of, none_right, parts_here}
use Rattle.ibc_ics23_proof.proofs.operations.are_adjacent.Goals as goal

pub returns-else-rights-gt0 : goal.returns-else-rights-gt0
returns-else-rights-gt0 c =
    let left = turns_of (take c.loop-lefts.lefts c.args.left.now) in
    sym (sym c.loop-lefts.invariant.parts
    ∙ ap (λ rights. are_adjacent left (turns_of (take rights c.args.right.now))) (let e : c.loop-lefts.rights ≡ 0 = omega arith in e)
    ∙ none_right left)

pub returns-then-left_turn-goes_left : goal.returns-then-left_turn-goes_left
returns-then-left_turn-goes_left c =
    let first = c.index-left-lefts.result in
    let second = c.index-right-rights.result in
    let apart : not (beq (goes_left first) (goes_left second)) ≡ true = sym (ap₂ (λ a b. not (beq a b)) c.goes_left-left_turn.ensures c.goes_left.ensures) ∙ c.if-left_turn-goes_left.true in
    let parts = parts_here c.args.left.now c.args.right.now c.loop-lefts.lefts c.loop-lefts.rights first second (omega arith) c.loop-lefts.invariant.left_within (omega arith) c.loop-lefts.invariant.right_within c.index-left-lefts.is c.index-right-rights.is apart in
    let below = list_all (λ operation. not (goes_left operation)) (take (c.loop-lefts.lefts - 1) c.args.left.now) && list_all goes_left (take (c.loop-lefts.rights - 1) c.args.right.now) in
    c.lead_to_neighbours.ensures ∙ ap (λ turn. turn && below) c.goes_left-left_turn.ensures ∙ sym parts ∙ c.loop-lefts.invariant.parts
