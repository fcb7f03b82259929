use Rattle.std.proofs.Common.{◌≡◌, ℕ, ◌<◌, ◌+◌, List, length, take, Option, None, Some, IfSome, IfOk, OnOk, OnErr, Result, Ok, Err, ap, ◌∙◌, arith, inl, inr, subst, take_all}
use Rattle.std.proofs.lemmas.Result.{err_from_is_err_and}
use Rattle.ibc_script.specs.ScriptValues.{IsScriptText, ScriptContent, content_of}
use Rattle.ibc_script_cli.specs.declared.words.Command.{Command}
use Rattle.ibc_script_cli.specs.declared.words.Command.TheVariants.{Race, Run}
use Rattle.ibc_script_cli.proofs.Writing.{keeps_same}
use Rattle.std.proofs.lemmas.List.{length-take}
use Rattle.ibc_script_cli.proofs.program.drive.Goals as goal

-- what isn't refused has no more than the most bytes
few : {T E : Type 0} (r : Result T E) (x : T) (e : E) (most n : ℕ) → (most < n → r ≡ Err e) → r ≡ Ok x → n < most + 1
few r x e most n refused ok = grind arith

-- an input of which fewer bytes were read than the limit has no more
whole : (known : Option (List ℕ)) (limit : ℕ) (bytes : List ℕ) → IfSome known (λ xs. bytes ≡ take limit xs) → length bytes < limit
    → IfSome known (λ xs. length xs < limit)
whole None limit bytes reads short = tt
whole (Some xs) limit bytes reads short = let cut = ap length reads ∙ length-take limit xs in omega arith

-- what was read of a script is all that the input has
whole_input : (known : Option (List ℕ)) (bytes : List ℕ) (content : ScriptContent) → IfSome known (λ xs. bytes ≡ take 1048577 xs) → IsScriptText bytes content
    → IfSome known (λ xs. IsScriptText xs content)
whole_input None bytes content reads is = tt
whole_input (Some xs) bytes content reads is =
    let short = is.0 in
    let cut = ap length reads ∙ length-take 1048577 xs in
    subst (λ (b : List ℕ). IsScriptText b content) (reads ∙ take_all 1048577 xs (omega (arith, short, cut))) is

whatever : {T E : Type 0} (r : Result T E) (P : Type 0) → P → IfOk r (λ _. P)
whatever (Ok x) P p = p
whatever (Err e) P p = tt

pub returns-in-Run-clause-too_long : goal.returns-in-Run-clause-too_long
returns-in-Run-clause-too_long g c =
    let same : length c.as_slice.result.now ≡ length c.in_ok-bytes.bytes.items = cc in
    let short : length c.as_slice.result.now < 1048577 = few c.read_script.result c.in_ok-script.script _ 1048576 (length c.as_slice.result.now) c.read_script.ensures.too_long c.in_ok-script.was in
    whatever c.run_script.result _ (whole (g.R.Read.remaining c.args.input) 1048577 c.in_ok-bytes.bytes.items c.in_ok-bytes.ensures.bytes (omega arith))

pub returns-clause-too_long : goal.returns-clause-too_long
returns-clause-too_long g c =
    let same : length c.as_slice.result.now ≡ length c.in_ok-bytes.bytes.items = cc in
    let short : length c.as_slice.result.now < 1048577 = few c.read_script.result c.in_ok-script.script _ 1048576 (length c.as_slice.result.now) c.read_script.ensures.too_long c.in_ok-script.was in
    whatever c.race_script.result _ (whole (g.R.Read.remaining c.args.input) 1048577 c.in_ok-bytes.bytes.items c.in_ok-bytes.ensures.bytes (omega arith))

-- the lines of a run
on_ok : {T E : Type 0} (r : Result T E) (P Q : Type 0) → (P → Q) → OnOk r P → OnOk r Q
on_ok (Ok v) P Q f p = f p
on_ok (Err e) P Q f p = tt

on_err : {T E : Type 0} (r : Result T E) (P Q : Type 0) → (P → Q) → OnErr r P → OnErr r Q
on_err (Ok v) P Q f p = tt
on_err (Err e) P Q f p = f p

no_race : (asked : Option Command) (found : Command) (n : ℕ) → asked ≡ Some found → found ≡ Race n → asked ≡ Some Run → ⊥
no_race asked found n first race run = absurd cc

pub returns-in_err-command-clause-begun : goal.returns-in_err-command-clause-begun
returns-in_err-command-clause-begun g c =
    let p = err_from_is_err_and c.from_residual.result c.from_residual.ensures.1 in rw p.1 (λ is. inl (keeps_same (g.W.Write.contents c.args.output.now)))

pub returns-in_err-bytes-clause-begun : goal.returns-in_err-bytes-clause-begun
returns-in_err-bytes-clause-begun g c =
    let p = err_from_is_err_and c.from_residual-in_err-bytes.result c.from_residual-in_err-bytes.ensures.1 in rw p.1 (λ is. inl (keeps_same (g.W.Write.contents c.args.output.now)))

pub returns-in_err-script-clause-begun : goal.returns-in_err-script-clause-begun
returns-in_err-script-clause-begun g c =
    let p = err_from_is_err_and c.from_residual-in_err-script.result c.from_residual-in_err-script.ensures.1 in rw p.1 (λ is. inl (keeps_same (g.W.Write.contents c.args.output.now)))

pub returns-in-Run-clause-lines : goal.returns-in-Run-clause-lines
returns-in-Run-clause-lines g c =
    let same : c.as_slice.result.now ≡ c.in_ok-bytes.bytes.items = cc in
    let input = whole_input (g.R.Read.remaining c.args.input) c.in_ok-bytes.bytes.items (content_of c.in_ok-script.script) c.in_ok-bytes.ensures.bytes
    (subst (λ (b : List ℕ). IsScriptText b (content_of c.in_ok-script.script)) same c.in_ok-script.ensures.script) in
    λ is. on_ok c.run_script.result _ _ (λ ran. (c.in_ok-script.script, input, ran)) c.run_script.ensures.ran

pub returns-in-Run-clause-begun : goal.returns-in-Run-clause-begun
returns-in-Run-clause-begun g c =
    let same : c.as_slice.result.now ≡ c.in_ok-bytes.bytes.items = cc in
    let input = whole_input (g.R.Read.remaining c.args.input) c.in_ok-bytes.bytes.items (content_of c.in_ok-script.script) c.in_ok-bytes.ensures.bytes
    (subst (λ (b : List ℕ). IsScriptText b (content_of c.in_ok-script.script)) same c.in_ok-script.ensures.script) in
    λ is. on_err c.run_script.result _ _ (λ stopped. elim stopped [ inl kept ↦ inl kept | inr begun ↦ inr (c.in_ok-script.script, input, begun) ]) c.run_script.ensures.stopped

pub returns-clause-lines : goal.returns-clause-lines
returns-clause-lines g c =
    λ is. absurd (no_race _ _ _ c.in_ok-command.ensures.asked c.in-Race.is is)

pub returns-clause-begun : goal.returns-clause-begun
returns-clause-begun g c =
    λ is. absurd (no_race _ _ _ c.in_ok-command.ensures.asked c.in-Race.is is)

-- the lines of a race

no_run : (asked : Option Command) (found : Command) (n : ℕ) → asked ≡ Some found → found ≡ Run → asked ≡ Some (Race n) → ⊥
no_run asked found n first run race = absurd cc

pub returns-in_err-command-clause-race_begun : goal.returns-in_err-command-clause-race_begun
returns-in_err-command-clause-race_begun g c =
    let p = err_from_is_err_and c.from_residual.result c.from_residual.ensures.1 in rw p.1 (λ n is. inl (keeps_same (g.W.Write.contents c.args.output.now)))

pub returns-in_err-bytes-clause-race_begun : goal.returns-in_err-bytes-clause-race_begun
returns-in_err-bytes-clause-race_begun g c =
    let p = err_from_is_err_and c.from_residual-in_err-bytes.result c.from_residual-in_err-bytes.ensures.1 in rw p.1 (λ n is. inl (keeps_same (g.W.Write.contents c.args.output.now)))

pub returns-in_err-script-clause-race_begun : goal.returns-in_err-script-clause-race_begun
returns-in_err-script-clause-race_begun g c =
    let p = err_from_is_err_and c.from_residual-in_err-script.result c.from_residual-in_err-script.ensures.1 in rw p.1 (λ n is. inl (keeps_same (g.W.Write.contents c.args.output.now)))

pub returns-in-Run-clause-race_lines : goal.returns-in-Run-clause-race_lines
returns-in-Run-clause-race_lines g c = λ n is. absurd (no_run _ _ n c.in_ok-command.ensures.asked c.in-Run.is is)

pub returns-in-Run-clause-race_begun : goal.returns-in-Run-clause-race_begun
returns-in-Run-clause-race_begun g c = λ n is. absurd (no_run _ _ n c.in_ok-command.ensures.asked c.in-Run.is is)

pub returns-clause-race_lines : goal.returns-clause-race_lines
returns-clause-race_lines g c =
    let same : c.as_slice.result.now ≡ c.in_ok-bytes.bytes.items = cc in
    let input = whole_input (g.R.Read.remaining c.args.input) c.in_ok-bytes.bytes.items (content_of c.in_ok-script.script) c.in_ok-bytes.ensures.bytes
    (subst (λ (b : List ℕ). IsScriptText b (content_of c.in_ok-script.script)) same c.in_ok-script.ensures.script) in
    λ n is. on_ok c.race_script.result _ _ (λ raced. (c.in_ok-script.script, input, raced)) c.race_script.ensures.raced

pub returns-clause-race_begun : goal.returns-clause-race_begun
returns-clause-race_begun g c =
    let same : c.as_slice.result.now ≡ c.in_ok-bytes.bytes.items = cc in
    let input = whole_input (g.R.Read.remaining c.args.input) c.in_ok-bytes.bytes.items (content_of c.in_ok-script.script) c.in_ok-bytes.ensures.bytes
    (subst (λ (b : List ℕ). IsScriptText b (content_of c.in_ok-script.script)) same c.in_ok-script.ensures.script) in
    λ n is. on_err c.race_script.result _ _ (λ stopped. elim stopped [ inl kept ↦ inl kept | inr begun ↦ inr (c.in_ok-script.script, input, begun) ]) c.race_script.ensures.stopped
