use Rattle.std.proofs.Common.{◌≡◌, ◌+◌, ◌%◌, arith, refl}
use Rattle.ibc_lanes.proofs.Vectors.{lane_word}
use Rattle.ibc_lanes.proofs.block.next_words.Goals as goal

pub returns-clause-value : goal.returns-clause-value
returns-clause-value c j lt =
    let window = c.args.window.now in
    let at : c.args.place % 16 ≡ c.args.place = omega arith in
    rw (
      c.sum-words.ensures j lt,
      c.sum.ensures j lt,
      c.sum-late.ensures j lt,
      c.small_sigmas1.ensures j lt,
      c.small_sigmas0.ensures j lt,
      at,
      lane_word window j ((c.args.place + 14) % 16),
      lane_word window j ((c.args.place + 9) % 16),
      lane_word window j ((c.args.place + 1) % 16),
      lane_word window j c.args.place,
    ) refl
