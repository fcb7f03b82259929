-- A run or a race that has ended, and the text that it wrote.
use Rattle.std.proofs.Common.{◌⊎◌, inr, List, [], Option, Result, Ok, Err, IsOk, OnErr, OnOk, refl, sym}
use Rattle.std.specs.Io.KnownBytes.{Keeps}
use Rattle.ibc_ids.specs.Texts.{Text}
use Rattle.ibc_machine.specs.chain.Genesis.{GenesisState, genesis_state}
use Rattle.ibc_script.specs.declared.script.Script.{Script}
use Rattle.ibc_script.specs.declared.script.Step.{Step}
use Rattle.ibc_script_cli.specs.Program.{HasBegun, HasRaced, HasRacedInPart, HasRun, acts_for, audit_text}
use Rattle.ibc_script_cli.specs.Runs.{Reached, Runs, WritesText}
use Rattle.ibc_script_cli.specs.ScriptChains.{ScriptChains}
use Rattle.ibc_script_cli.specs.declared.racing.RaceAudit.{RaceAudit}
use Rattle.ibc_script_cli.proofs.Writing.{appends_kept}

module _ {C : Type 0} (begins : GenesisState → C → Type 0) (keeps : C → Type 0) (chains : ScriptChains C) (script : Script) (start end : C)
    (before mid after : Option Text) (begun : begins (genesis_state script.genesis) start) (stays : Keeps mid after) where
  -- what was done up to the end was written
  whole : Reached chains script.names.items (acts_for script) start before [] end mid → keeps end → HasRun begins keeps chains script before after
  whole r kept = (r.text, (start, end, r.count, begun, kept, r.reaches), appends_kept before mid after r.text r.appends stays)

  pub has_run : {T U E F : Type 0} (ran : Result T E) (result : Result U F) → Runs chains script.names.items (acts_for script) ran start before end mid → keeps end
      → OnOk result (IsOk ran) → OnOk result (HasRun begins keeps chains script before after)
  has_run ran (Err fault) runs kept ok = tt
  has_run (Ok x) (Ok y) runs kept ok = whole runs kept
  has_run (Err e) (Ok y) runs kept ok = absurd cc

  pub has_begun : {T U E F : Type 0} (ran : Result T E) (result : Result U F) → Runs chains script.names.items (acts_for script) ran start before end mid
      → OnErr result (HasBegun begins chains script before after)
  has_begun ran (Ok y) runs = tt
  has_begun (Ok x) (Err fault) runs =
      (runs.text, (start, end, runs.count, [], begun, runs.reaches), appends_kept before mid after runs.text runs.appends stays)
  has_begun (Err e) (Err fault) stops =
      let r = stops.reached in
      (r.text, (start, stops.new, r.count, stops.left, begun, r.reaches), appends_kept before mid after r.text r.appends stays)

module _ (raced : GenesisState → List Step → RaceAudit → Type 0) (script : Script) (audit : RaceAudit)
    (told : raced (genesis_state script.genesis) script.steps.items audit) (before after : Option Text) where
  pub has_raced : {T E : Type 0} (result : Result T E) → WritesText result before after (audit_text script.names.items audit)
      → OnOk result (HasRaced raced script before after)
  has_raced (Ok x) has = (audit_text script.names.items audit, (audit, told, refl), has)
  has_raced (Err fault) part = tt

  pub has_raced_in_part : {T E : Type 0} (result : Result T E) → WritesText result before after (audit_text script.names.items audit)
      → OnErr result (HasRacedInPart raced script before after)
  has_raced_in_part (Ok x) has = tt
  has_raced_in_part (Err fault) (done, rest, is, has) = (done, (rest, (audit, told, sym is)), has)

pub or_in_part : {T E : Type 0} (result : Result T E) (P Q : Type 0) → OnErr result Q → OnErr result (P ⊎ Q)
or_in_part (Ok x) P Q is = tt
or_in_part (Err fault) P Q is = inr is
