-- What is written through the loan of a channel's notes is inserted in the map.
use Rattle.std.proofs.Common.{sym, ap, ◌∙◌}
use Rattle.std.specs.BTreeMap.{is_at}
use Rattle.std.specs.Map.{set_value}
use Rattle.std.proofs.lemmas.Map.Steps.{set_value_same}
use Rattle.std.proofs.lemmas.Result.{err_from_is_err_and}
use Rattle.ibc_ids.specs.Texts.{text_cmp}
use Rattle.ibc_ids.specs.Maps.{with}
use Rattle.ibc_ids.proofs.Texts.{text_cmp_total}
use Rattle.ibc_ids.proofs.Maps.{set_value-with}
use Rattle.ibc_note.proofs.notes.Notes.add.Goals as goal

pub returns-in_err-push-clause-unchanged : goal.returns-in_err-push-clause-unchanged
returns-in_err-push-clause-unchanged c =
    let entries = c.self.inside.notes.entries in
    let written = (c.get_mut.follows.holds c.push.new.self).0 in
    let same = c.in_err-push.ensures.unchanged in
    let stays = ap (λ list. set_value (is_at (text_cmp c.args.channel.now)) entries list) same in
    let p = err_from_is_err_and c.from_residual.result c.from_residual.ensures.1 in
    rw (p.1) (written ∙ stays ∙ set_value_same (is_at (text_cmp c.args.channel.now)) entries c.in-Some.list.now (sym c.in-Some.ensures.value) ∙ c.self.view_is)

pub returns-in-Some-clause-ok : goal.returns-in-Some-clause-ok
returns-in-Some-clause-ok c =
    let entries = c.self.inside.notes.entries in
    let channel = c.args.channel.now in
    let there = sym c.in-Some.ensures.value in
    let written = (c.get_mut.follows.holds c.push.new.self).0 in
    let inserted = set_value-with text_cmp text_cmp_total channel c.in-Some.list.now c.push.new.self entries c.in-Some.ensures.ordered there in
    let joined = ap (λ list. with text_cmp channel list entries) c.in_ok-push.ensures.ok in
    rw (← c.self.view_is, there) (written ∙ inserted ∙ joined)
