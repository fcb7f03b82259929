use Rattle.std.proofs.Common.{◌-◌, ◌∙◌, sym, ap, arith, ◌≡◌, ℕ}
use Rattle.ibc_token_data.specs.Cutting.{is_row}
use Rattle.ibc_token_data.proofs.Rows.{seen_so_far, no_row, falls, row_ends, row_breaks, row_goes_on, no_more}
use Rattle.ibc_token_data.proofs.cutting.is_row.Goals as goal

pub returns-in_default : goal.returns-in_default
returns-in_default c =
    let left = c.loop-left.left in
    let last = c.loop-left.last.now in
    let rest = c.loop-left.rest.now in
    let so_far = seen_so_far c.args.text.now last rest left (omega (arith, c.loop-left-test.true)) c.loop-left.invariant.so_far in
    sym (so_far ∙ no_row (left - 1) last rest c.in_default.ensures)

pub returns-then-not-is_before : goal.returns-then-not-is_before
returns-then-not-is_before c =
    let left = c.loop-left.left in
    let last = c.loop-left.last.now in
    let rest = c.loop-left.rest.now in
    let so_far = seen_so_far c.args.text.now last rest left (omega (arith, c.loop-left-test.true)) c.loop-left.invariant.so_far in
    sym (so_far ∙ falls (left - 1) last rest _ c.in-Some.denom.now c.in-Some.next.now c.in-Some.ensures c.if-not-is_before.ensures)

pub returns-then-is_text : goal.returns-then-is_text
returns-then-is_text c =
    let left = c.loop-left.left in
    let last = c.loop-left.last.now in
    let rest = c.loop-left.rest.now in
    let so_far = seen_so_far c.args.text.now last rest left (omega (arith, c.loop-left-test.true)) c.loop-left.invariant.so_far in
    sym (so_far ∙ row_ends (left - 1) last rest _ c.in-Some.denom.now c.in-Some.next.now c.in-Some.ensures c.if-not-is_before.ensures c.if-is_text.ensures)

pub returns-in_default-behind : goal.returns-in_default-behind
returns-in_default-behind c =
    let left = c.loop-left.left in
    let last = c.loop-left.last.now in
    let rest = c.loop-left.rest.now in
    let so_far = seen_so_far c.args.text.now last rest left (omega (arith, c.loop-left-test.true)) c.loop-left.invariant.so_far in
    sym (so_far ∙ row_breaks (left - 1) last rest _ c.in-Some.denom.now c.in-Some.next.now c.in-Some.ensures c.if-not-is_before.ensures c.if-is_text.ensures c.in_default-behind.ensures)

pub loop-left-preserved : goal.loop-left-preserved
loop-left-preserved c =
    let left = c.loop-left.left in
    let last = c.loop-left.last.now in
    let rest = c.loop-left.rest.now in
    let so_far = seen_so_far c.args.text.now last rest left (omega (arith, c.loop-left-test.true)) c.loop-left.invariant.so_far in
    record {
      so_far = so_far ∙ row_goes_on (left - 1) last rest _ c.in-Some.denom.now c.in-Some.next.now c.in-Some.ensures c.if-not-is_before.ensures c.if-is_text.ensures c.in-Some-behind.next.now c.in-Some-behind.ensures;
    }

pub returns : goal.returns
returns c =
    let none : c.loop-left.left ≡ 0 = omega (arith, c.loop-left-test.false) in
    sym (c.loop-left.invariant.so_far ∙ ap (λ (n : ℕ). is_row n c.loop-left.last.now c.loop-left.rest.now) none ∙ no_more c.loop-left.last.now c.loop-left.rest.now)
