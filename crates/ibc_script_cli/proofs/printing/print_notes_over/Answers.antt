use Rattle.std.proofs.Common.{◌∷◌, ◌∙◌, ◌+◌, ℕ, ap, drop, subst, sym}
use Rattle.std.proofs.lemmas.List.{drop_more}
use Rattle.std.proofs.lemmas.Result.{err_from_is_err_and}
use Rattle.std.specs.Io.KnownBytes.{Appends}
use Rattle.ibc_script_cli.specs.Runs.{IsCut, note_line, numbered_lines}
use Rattle.ibc_script_cli.proofs.Writing.{wrote_more, wrote_part}
use Rattle.ibc_script_cli.proofs.printing.print_notes_over.Goals as goal

pub returns-in_err-print-clause-written : goal.returns-in_err-print-clause-written
returns-in_err-print-clause-written g c =
    let p = err_from_is_err_and c.from_residual.result c.from_residual.ensures.1 in rw p.1
    (wrote_part (λ i. numbered_lines c.args.chain.now c.args.channel.now (i + 1) (drop i c.args.notes.now)) c.loop-bytes.bytes-index (note_line c.args.chain.now c.args.channel.now (c.loop-bytes.bytes-index + 1) c.bytes-item.result) (g.W.Write.contents c.args.output.now) (g.W.Write.contents c.loop-bytes.output) (g.W.Write.contents c.print.new.output) (ap (λ l. numbered_lines c.args.chain.now c.args.channel.now (c.loop-bytes.bytes-index + 1) l) (drop_more c.args.notes.now c.loop-bytes.bytes-index c.bytes-item.result c.loop-bytes-test.true ∙ ap (λ x. x ∷ drop (c.loop-bytes.bytes-index + 1) c.args.notes.now) (sym c.bytes-item.is))) c.loop-bytes.invariant.wrote (subst (λ (n : ℕ). IsCut (g.W.Write.contents c.loop-bytes.output) (g.W.Write.contents c.print.new.output) (note_line c.args.chain.now c.args.channel.now (n + 1) c.bytes-item.result)) c.loop-bytes.invariant.counted c.in_err-print.ensures.written))

pub loop-bytes-preserved : goal.loop-bytes-preserved
loop-bytes-preserved g c =
    record {
      counted = ap (λ n. n + 1) c.loop-bytes.invariant.counted;
      wrote = wrote_more (λ i. numbered_lines c.args.chain.now c.args.channel.now (i + 1) (drop i c.args.notes.now)) c.loop-bytes.bytes-index (note_line c.args.chain.now c.args.channel.now (c.loop-bytes.bytes-index + 1) c.bytes-item.result) (g.W.Write.contents c.args.output.now) (g.W.Write.contents c.loop-bytes.output) (g.W.Write.contents c.print.new.output) (ap (λ l. numbered_lines c.args.chain.now c.args.channel.now (c.loop-bytes.bytes-index + 1) l) (drop_more c.args.notes.now c.loop-bytes.bytes-index c.bytes-item.result c.loop-bytes-test.true ∙ ap (λ x. x ∷ drop (c.loop-bytes.bytes-index + 1) c.args.notes.now) (sym c.bytes-item.is))) c.loop-bytes.invariant.wrote (subst (λ (n : ℕ). Appends (g.W.Write.contents c.loop-bytes.output) (g.W.Write.contents c.print.new.output) (note_line c.args.chain.now c.args.channel.now (n + 1) c.bytes-item.result)) c.loop-bytes.invariant.counted c.in_ok-print.ensures.written);
    }
