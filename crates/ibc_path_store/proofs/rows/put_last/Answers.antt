-- The pairs behind its place move behind the last one that waits.
use Rattle.std.proofs.Common.{◌≡◌, ◌+◌, ◌-◌, ◌++◌, true, take, drop, sym, ap, ◌∙◌, subst, arith}
use Rattle.std.proofs.lemmas.List.{take-take}
use Rattle.std.specs.FinMap.{is_sorted}
use Rattle.ibc_ids.specs.Texts.{Text, text_cmp}
use Rattle.ibc_merkle.specs.Tree.{Pairs}
use Rattle.ibc_path_store.proofs.Standing.{Cut, found_at, missed_at, cut_found, cut_missed}
use Rattle.ibc_path_store.proofs.Turning.{Turned, turned}
use Rattle.ibc_path_store.proofs.rows.put_last.Goals as goal
use Rattle.ibc_path_store.proofs.rows.put_last.Goals.{in-Ok, in-Err}

sorted : (c : goal.After-entries-1) → is_sorted text_cmp (take c.args.settled c.args.entries.now) ≡ true
sorted c =
    ap (is_sorted text_cmp) (sym (take-take c.args.settled (c.args.settled + c.args.waiting) c.args.entries.now (omega arith))) ∙ c.requires.rows.placed

cut : (c : goal.After-entries-1) → Cut (take c.args.settled c.args.entries.now) c.key.result.now c.match-search.place
cut c =
    let row : Pairs = take c.args.settled c.args.entries.now in
    let key : Text = c.key.result.now in
    elim c.match-search.branch [
      | in-Ok w ↦ subst (Cut row key) (sym w.place-is) (cut_found row key w.in-Ok.place (found_at row key w.in-Ok.place (sorted c) w.in-Ok.ensures.found w.in-Ok.ensures.here))
      | in-Err w ↦ subst (Cut row key) (sym w.place-is) (cut_missed row key w.in-Err.place (missed_at row key w.in-Err.place w.in-Err.ensures.within w.in-Err.ensures.gap))
    ]

its : (c : goal.After-entries-1)
    → Turned c.args.entries.now
    (take c.match-search.place c.args.entries.now ++ (c.rotate_left.new.self ++ drop (c.args.settled + c.args.waiting - c.match-search.place) (drop c.match-search.place c.args.entries.now)))
    c.args.settled c.args.waiting c.match-search.place
its c =
    turned c.args.entries.now c.rotate_left.new.self c.args.settled c.args.waiting c.match-search.place c.index-shared-end.result c.requires.some c.requires.there c.index-shared-end.is
    (subst (λ (key : Text). Cut (take c.args.settled c.args.entries.now) key c.match-search.place) c.key.ensures (cut c)) c.requires.rows c.rotate_left.ensures.after

pub returns-clause-rows : goal.returns-clause-rows
returns-clause-rows c = (its c).rows

pub returns-clause-same : goal.returns-clause-same
returns-clause-same c = (its c).same
