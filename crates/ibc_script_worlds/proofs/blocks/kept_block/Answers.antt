use Rattle.std.proofs.Common.{◌∙◌, None, Some, arith, inl, inr, length, subst, sym, ℕ}
use Rattle.ibc_script_worlds.specs.EndedBlocks.{IsLastIn, ends_of}
use Rattle.ibc_script_worlds.proofs.FoundBlocks.{as_many, future_height, kept_height, nothing_kept, passed_height}
use Rattle.ibc_script_worlds.proofs.blocks.kept_block.Goals as goal

pub returns-in_err-place : goal.returns-in_err-place
returns-in_err-place c counted =
    let ends = ends_of c.args.history.now in
    let none = subst (IsLastIn ends 0 (length c.args.history.now)) c.in_err-place.was c.last_ended.ensures in
    c.from_residual.ensures
    ∙ nothing_kept c.args.start c.args.window c.args.height ends (subst (λ (n : ℕ). IsLastIn ends 0 n None) (sym (as_many c.args.history.now)) none)

pub returns-then-height-saturating_sub : goal.returns-then-height-saturating_sub
returns-then-height-saturating_sub c counted =
    let ends = ends_of c.args.history.now in
    let last = subst (λ (n : ℕ). IsLastIn ends 0 n (Some (c.in_ok-place.place, c.in_ok-place.last))) (sym (as_many c.args.history.now)) c.in_ok-place.ensures in
    elim c.then-height-saturating_sub.either [
      | inl passed ↦
          passed_height c.args.start c.args.window c.args.height ends c.in_ok-place.place c.in_ok-place.last last counted (omega (arith, passed))
      | inr kept ↦
          let begun = kept.0 in
          future_height c.args.start c.args.window c.args.height ends c.in_ok-place.place c.in_ok-place.last last counted (omega (arith, begun)) kept.1
    ]

pub returns : goal.returns
returns c counted =
    let ends = ends_of c.args.history.now in
    let last = subst (λ (n : ℕ). IsLastIn ends 0 n (Some (c.in_ok-place.place, c.in_ok-place.last))) (sym (as_many c.args.history.now)) c.in_ok-place.ensures in
    kept_height c.args.start c.args.window c.args.height ends c.in_ok-place.place c.in_ok-place.last last c.block_at.result counted (omega arith)
    (c.block_at.ensures counted c.in_ok-place.ensures.3)
