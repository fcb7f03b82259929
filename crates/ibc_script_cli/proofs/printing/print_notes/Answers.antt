use Rattle.std.proofs.Common.{◌∷◌, ◌∙◌, ◌+◌, List, ap, drop, map, subst, sym}
use Rattle.std.proofs.lemmas.List.{drop_more}
use Rattle.std.proofs.lemmas.Result.{err_from_is_err_and}
use Rattle.ibc_ids.specs.Texts.{Text}
use Rattle.std.specs.Io.KnownBytes.{Appends}
use Rattle.ibc_script_cli.specs.Balances.{notes_of}
use Rattle.ibc_script_cli.specs.Runs.{IsCut, note_lines, numbered_lines}
use Rattle.ibc_script_cli.proofs.Writing.{wrote_more, wrote_part}
use Rattle.ibc_script_cli.proofs.printing.print_notes.Goals as goal

pub returns-in_err-print_notes_over-clause-written : goal.returns-in_err-print_notes_over-clause-written
returns-in_err-print_notes_over-clause-written g c =
    let p = err_from_is_err_and c.from_residual.result c.from_residual.ensures.1 in rw p.1
    (wrote_part (λ i. note_lines c.args.chain.now (map notes_of (drop i c.args.channels.now))) c.loop-channel.channel-index (numbered_lines c.args.chain.now c.loop-channel-item.result.0 1 c.loop-channel-item.result.1.items) (g.W.Write.contents c.args.output.now) (g.W.Write.contents c.loop-channel.output) (g.W.Write.contents c.print_notes_over.new.output) (ap (λ l. note_lines c.args.chain.now (map notes_of l)) (drop_more c.args.channels.now c.loop-channel.channel-index c.loop-channel-item.result c.loop-channel-test.true ∙ ap (λ x. x ∷ drop (c.loop-channel.channel-index + 1) c.args.channels.now) (sym c.loop-channel-item.is))) c.loop-channel.invariant (subst (λ (n : List Text). IsCut (g.W.Write.contents c.loop-channel.output) (g.W.Write.contents c.print_notes_over.new.output) (numbered_lines c.args.chain.now c.loop-channel-item.result.0 1 n)) c.as_slice.ensures.value c.in_err-print_notes_over.ensures.written))

pub loop-channel-preserved : goal.loop-channel-preserved
loop-channel-preserved g c =
    wrote_more (λ i. note_lines c.args.chain.now (map notes_of (drop i c.args.channels.now))) c.loop-channel.channel-index (numbered_lines c.args.chain.now c.loop-channel-item.result.0 1 c.loop-channel-item.result.1.items) (g.W.Write.contents c.args.output.now) (g.W.Write.contents c.loop-channel.output) (g.W.Write.contents c.print_notes_over.new.output) (ap (λ l. note_lines c.args.chain.now (map notes_of l)) (drop_more c.args.channels.now c.loop-channel.channel-index c.loop-channel-item.result c.loop-channel-test.true ∙ ap (λ x. x ∷ drop (c.loop-channel.channel-index + 1) c.args.channels.now) (sym c.loop-channel-item.is))) c.loop-channel.invariant (subst (λ (n : List Text). Appends (g.W.Write.contents c.loop-channel.output) (g.W.Write.contents c.print_notes_over.new.output) (numbered_lines c.args.chain.now c.loop-channel-item.result.0 1 n)) c.as_slice.ensures.value c.in_ok-print_notes_over.ensures.written)
