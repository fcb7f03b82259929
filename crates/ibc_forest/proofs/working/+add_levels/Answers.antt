-- One row more, below the rows above it.
use Rattle.std.proofs.Common.{◌≡◌, ◌/◌, ◌<◌, length, take, refl, sym, ap, ◌∙◌, subst, arith}
use Rattle.ibc_forest.proofs.Climbing.{if_ok}
use Rattle.ibc_forest.proofs.KnownRows.{KnownRow, known_part, known_above, next_front}
use Rattle.ibc_forest.proofs.Pairing.{above_some}
use Rattle.ibc_forest.proofs.Workings.{raised_more}
use Rattle.ibc_forest.proofs.working.+add_levels.Goals as goal

pub returns-clause-levels : goal.returns-clause-levels
returns-clause-levels t c =
    let row = c.args.row in
    let more : 1 < length row.items = let l : row.len ≡ length row.items = row.ok.0 in let k : c.len.result ≡ row.len = c.len.ensures in let some = c.requires.some in let other = c.if-len-eq1.false in omega arith in
    if_ok c.add_levels.result _ _
    (λ _ raised. raised_more c.args.arena.now.trees c.row_above.new.arena.trees c.add_levels.new.arena.trees row c.in_ok-above.above c.as_slice.result.now
    c.args.rows.now.items c.push-2.new.self.items c.add_levels.new.rows.items c.requires.stand c.as_slice.ensures.value more c.in_ok-above.ensures.level c.in_ok-above.ensures.stand
    c.in_ok-above.ensures.grows c.add_levels.ensures.grows c.in_ok-push-2.ensures.items raised)
    c.add_levels.ensures.levels

pub row_above-requires-clause-stand : goal.row_above-requires-clause-stand
row_above-requires-clause-stand t c =
    (subst (λ row. KnownRow c.args.arena.now.trees row c.first_part-known.result.now) (sym c.as_slice.ensures.value)
    (known_part c.args.arena.now.trees c.args.before.now c.rows_behind-behind.result.now c.args.row.items c.first_of.result.now c.first_part-known.result.now c.args.front c.requires.before
    c.requires.there c.requires.front c.rows_behind-behind.ensures c.first_of.ensures c.first_part-known.ensures)).stand

pub row_above-requires-clause-few : goal.row_above-requires-clause-few
row_above-requires-clause-few t c =
    (subst (λ row. KnownRow c.args.arena.now.trees row c.first_part-known.result.now) (sym c.as_slice.ensures.value)
    (known_part c.args.arena.now.trees c.args.before.now c.rows_behind-behind.result.now c.args.row.items c.first_of.result.now c.first_part-known.result.now c.args.front c.requires.before
    c.requires.there c.requires.front c.rows_behind-behind.ensures c.first_of.ensures c.first_part-known.ensures)).few

pub row_above-requires-clause-known : goal.row_above-requires-clause-known
row_above-requires-clause-known t c =
    (subst (λ row. KnownRow c.args.arena.now.trees row c.first_part-known.result.now) (sym c.as_slice.ensures.value)
    (known_part c.args.arena.now.trees c.args.before.now c.rows_behind-behind.result.now c.args.row.items c.first_of.result.now c.first_part-known.result.now c.args.front c.requires.before
    c.requires.there c.requires.front c.rows_behind-behind.ensures c.first_of.ensures c.first_part-known.ensures)).level

pub add_levels-requires : goal.add_levels-requires
add_levels-requires t c =
    let row = c.args.row in
    let before = c.args.arena.now.trees in
    let after = c.row_above.new.arena.trees in
    let above = c.in_ok-above.above.items in
    let known = c.first_part-known.result.now in
    let more : 1 < length row.items = let l : row.len ≡ length row.items = row.ok.0 in let k : c.len.result ≡ row.len = c.len.ensures in let some = c.requires.some in let other = c.if-len-eq1.false in omega arith in
    let same = ap length c.as_slice.ensures.value in
    let half = c.in_ok-above.ensures.half in
    let many = above_some before after c.as_slice.result.now above c.in_ok-above.ensures.level in (
      omega arith,
      (
        c.in_ok-above.ensures.stand,
        (
          omega arith,
          (
            known_above before after c.args.before.now c.rows_behind-behind.result.now c.in_ok-above.ensures.grows c.requires.before c.rows_behind-behind.ensures,
            (
              c.in_ok-above.ensures.longer,
              next_front (c.args.front / 2) (length known) above c.first_of.result.now known c.first_part-known.ensures refl c.in_ok-above.ensures.front ∙ ap (take (length known)) c.first_of.ensures,
            ),
          ),
        ),
      ),
    )
