-- One entry after another is read.
use Rattle.std.proofs.Common.{◌+◌, ◌∙◌, [], ◌∷◌, ◌++◌, add-zero, ap, arith, length-append, map, string_bytes, sym}
use Rattle.sqlite.specs.Held.{state}
use Rattle.ibc_journal.specs.Entries.{item}
use Rattle.ibc_node_lines.specs.OtherLines.{item_text}
use Rattle.ibc_node_lines.specs.QuestionAnswers.{item_texts}
use Rattle.ibc_node_lines.proofs.OnlyRead.{read_same, read_on}
use Rattle.ibc_node_lines.proofs.Asked.{item_texts_more}
use Rattle.ibc_node_lines.proofs.questions.kept_texts.Goals as goal

pub places-init : goal.places-init
places-init g c = record {
  read = read_same (state g.S.Store) c.args.desk.now.node;
  kept = ([], ap (map string_bytes) c.new-texts.ensures.items, add-zero c.args.from);
}

pub places-preserved : goal.places-preserved
places-preserved g c =
    let kept = c.places.invariant.kept in
    let from = c.args.from in
    let it = item c.in-Some.entry in
    let more = c.in_ok-add_kept-in-Some.ensures ∙ ap (λ l. l ++ item_text c.places.place it ∷ []) kept.1 ∙ ap (λ n. item_texts from kept.0 ++ item_text n it ∷ []) (sym kept.2) ∙ sym (item_texts_more from kept.0 it) in
    let counted = kept.2 in
    let longer = length-append kept.0 (it ∷ []) in
    record {
      read = read_on (state g.S.Store) c.args.desk.now.node c.places.desk.node c.entry_at.new.self c.places.invariant.read
          (record { beside = c.in_ok-entry.ensures.keeps; world = c.entry_at.ensures.world; end = c.entry_at.ensures.end; marks = c.entry_at.ensures.marks });
      kept = (kept.0 ++ it ∷ [], more, omega (arith, counted, longer));
    }

pub returns-in-None-clause-read : goal.returns-in-None-clause-read
returns-in-None-clause-read g c =
    read_on (state g.S.Store) c.args.desk.now.node c.places.desk.node c.entry_at.new.self c.places.invariant.read
    (record { beside = c.in_ok-entry.ensures.keeps; world = c.entry_at.ensures.world; end = c.entry_at.ensures.end; marks = c.entry_at.ensures.marks })

pub returns-in-None-clause-kept : goal.returns-in-None-clause-kept
returns-in-None-clause-kept g c = (c.places.invariant.kept.0, c.places.invariant.kept.1)

pub returns-clause-read : goal.returns-clause-read
returns-clause-read g c = c.places.invariant.read

pub returns-clause-kept : goal.returns-clause-kept
returns-clause-kept g c = (c.places.invariant.kept.0, c.places.invariant.kept.1)
