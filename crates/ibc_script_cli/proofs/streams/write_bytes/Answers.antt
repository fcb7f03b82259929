use Rattle.std.proofs.Common.{◌≡◌, ◌∙◌, ℕ, ◌-◌, List, ◌++◌, length, take, drop, sym, ap, append_assoc, take-append-drop}
use Rattle.std.proofs.lemmas.List.{take_rest}
use Rattle.ibc_script_cli.proofs.Writing.{appends_both, appends_kept}
use Rattle.ibc_script_cli.proofs.streams.write_bytes.Goals as goal
use Rattle.ibc_script_cli.proofs.streams.write_bytes.Goals.{in-Ok, in-Err}

moves_front : (all done rest : List ℕ) (n : ℕ) → all ≡ done ++ rest → all ≡ (done ++ take n rest) ++ take (length rest - n) (drop n rest)
moves_front all done rest n e =
    e ∙ ap (λ l. done ++ l) (sym (take-append-drop n rest)) ∙ sym (append_assoc done (take n rest) (drop n rest))
    ∙ ap (λ l. (done ++ take n rest) ++ l) (sym (take_rest rest n))

pub loop-turn-preserved : goal.loop-turn-preserved
loop-turn-preserved g c =
    let (done, split, appended) = c.loop-turn.invariant in
    let rest = c.loop-turn.rest.now in
    let before = g.W.Write.contents c.args.output.now in
    let mid = g.W.Write.contents c.loop-turn.output in
    let after = g.W.Write.contents c.write.new.self in
    elim c.match-write.branch [
      | in-Ok w ↦
          let n = w.in-Ok.taken in (
            done ++ take n rest,
            moves_front c.args.bytes.now done rest n split ∙ ap (λ l. (done ++ take n rest) ++ l) (sym (ap (λ r. r.now) w.rest-is)),
            appends_both before mid after done (take n rest) appended w.in-Ok.ensures.bytes,
          )
      | in-Err w ↦ (done, split ∙ ap (λ l. done ++ l) (sym (ap (λ r. r.now) w.rest-is)), appends_kept before mid after done appended w.in-Err.ensures.bytes)
    ]
