-- What each event keeps, a step keeps.
use Rattle.std.proofs.Common.{◌≡◌, ℕ, zero, suc, List, [], ◌∷◌, ◌++◌, Option, Some, None, Result, Ok, Err, OnOk, inl, inr, refl, sym, subst}
use Rattle.sqlite.specs.State.{State}
use Rattle.sqlite.specs.Held.{Held}
use Rattle.ibc_ids.specs.Texts.{Text}
use Rattle.ibc_machine.specs.declared.event.Event.{Event}
use Rattle.ibc_machine.specs.declared.event.Event.TheVariants as event
use Rattle.ibc_machine.specs.declared.reply.Reply.{Reply}
use Rattle.ibc_wire.specs.declared.messages.Message.{Message}
use Rattle.ibc_script.specs.declared.draft.Draft.{Draft}
use Rattle.ibc_script.specs.declared.event_kind.EventKind.{EventKind}
use Rattle.ibc_script.specs.declared.event_kind.EventKind.TheVariants as kind
use Rattle.ibc_script.specs.declared.script.Step.{Step}
use Rattle.ibc_script.specs.declared.script.Step.TheVariants as step
use Rattle.ibc_script_cli.specs.ScriptChains.{ScriptChains}
use Rattle.ibc_script_cli.specs.Runs.{Act, SendsIfMade, Submits, EndsBy, TakesTurn, TakesStep, Does, Reaches, Runs, asking_acts}
use Rattle.ibc_script_cli.specs.Runs.Act.{Take, Open, SendPlans, Send, TellBalances, TellNotes, Write}
use Rattle.ibc_script_cli.specs.declared.opening.Handshake.{Handshake}
use Rattle.ibc_script_cli.specs.declared.opening.HandshakeSide.{HandshakeSide}
use Rattle.ibc_node.specs.declared.node.Node.{Node}
use Rattle.ibc_node_lines.specs.declared.desk.Desk.{Desk}
use Rattle.ibc_node_lines.specs.Desks.{desk_chains, RunsStep}

module _ {C : Type 0} (chains : ScriptChains C) (names : List Text) (Kept : C → C → Type 0) (same : (c : C) → Kept c c) (further : (a b c : C) → Kept a b → Kept b c → Kept a c)
    (each : (a b : C) (asked : Event) (given : Reply) → chains.asked a asked given b → Kept a b) where
  stays : (a b : C) → b ≡ a → Kept a b
  stays a b is = subst (Kept a) (sym is) (same a)

  sends : (a b : C) (on : ℕ) (made : Option Message) (answer : Option Reply) → SendsIfMade chains a on made answer b → Kept a b
  sends a b on None answer (none, is) = stays a b is
  sends a b on (Some m) answer (given, asked, is) = each a b (event.Message on m) given asked

  submits : (a b : C) (on : ℕ) (d : Draft) (answer : Option Reply) → Submits chains a on d answer b → Kept a b
  submits a b on d answer s = sends a b on s.0 answer s.2

  ends : (a b : C) (on : ℕ) (time : Option ℕ) (answer : Option Reply) → EndsBy chains a on time answer b → Kept a b
  ends a b on time answer e = each a b (event.Block on e.1.0) e.0 e.1.2

  turns_keep : (side : HandshakeSide) (k : EventKind) (turns : List (HandshakeSide × EventKind)) (o : Handshake) (a : C) (next : List Act) (b : C) → TakesTurn chains names side k turns o a next b → Kept a b
  turns_keep side kind.Block turns o a next b t = ends a b _ None t.0 t.1
  turns_keep side (kind.Message k) turns o a next b t = elim t [
    | inl none ↦ stays a b none.2
    | inr some ↦ submits a b _ some.0 some.1 some.3
  ]

  steps_keep : (s : Step) (a : C) (next : List Act) (b : C) → TakesStep chains names s a next b → Kept a b
  steps_keep (step.Message on d) a next b t = submits a b on d t.0 t.1
  steps_keep (step.Block on time) a next b t = ends a b on time t.0 t.1
  steps_keep (step.Root on height) a next b t = stays a b t.2
  steps_keep (step.Prove on height key) a next b t = stays a b t.2
  steps_keep (step.Totals on channel denom) a next b t = stays a b t.2
  steps_keep (step.Open first second app) a next b t = stays a b t.0
  steps_keep (step.Relay first second turns) a next b t = stays a b t.0

  acts_keep : (it : Act) (a : C) (written : Text) (next : List Act) (b : C) → Does chains names it a written next b → Kept a b
  acts_keep (Take s) a written next b d = steps_keep s a next b d.1
  acts_keep (Open [] o) a written next b d = stays a b d.2
  acts_keep (Open ((side, k) ∷ turns) o) a written next b d = turns_keep side k turns o a next b d.1
  acts_keep (SendPlans first second) a written next b d = stays a b d.3
  acts_keep (Send on m) a written next b d = each a b (event.Message on m) d.0 d.1
  acts_keep (TellBalances on) a written next b d = stays a b d.3
  acts_keep (TellNotes on) a written next b d = stays a b d.3
  acts_keep (Write text) a written next b d = stays a b d.3

  reaches_keep : (n : ℕ) (acts : List Act) (a : C) (text : Text) (left : List Act) (b : C) → Reaches chains names n acts a text left b → Kept a b
  reaches_keep zero acts a text left b r = stays a b r.2
  reaches_keep (suc n) [] a text left b r = absurd r
  reaches_keep (suc n) (it ∷ acts) a text left b (written, rest, next, mid, does, on, is) = further a mid b (acts_keep it a written next mid does) (reaches_keep n (next ++ acts) mid rest left b on)

  pub runs_keep : {T E : Type 0} (acts : List Act) (result : Result T E) (a : C) (before : Option Text) (b : C) (after : Option Text) → Runs chains names acts result a before b after → OnOk result (Kept a b)
  runs_keep acts (Ok x) a before b after r = reaches_keep r.count acts a r.text [] b r.reaches
  runs_keep acts (Err fault) a before b after r = tt

-- what was run of a step on a desk ran on its node
pub step_run : {S T E : Type 0} (shows : Held S → State) (names : List Text) (log_place : ℕ) (asked : Step) (result : Result T E) (a b : Desk S) (before after : Option Text) (old : Node S)
    → Runs (desk_chains shows) names (asking_acts asked) result a before b after → a.node ≡ old → a.told.items ≡ [] → a.log_place ≡ log_place
    → OnOk result (RunsStep shows names log_place asked old b.told.items b.node)
step_run shows names log_place asked (Ok x) a b before after old ran begins none by = record {
  before = a;
  after = b;
  begins = begins;
  none = none;
  by = by;
  ends = refl;
  all = refl;
  count = ran.count;
  text = ran.text;
  reaches = ran.reaches;
}
step_run shows names log_place asked (Err fault) a b before after old ran begins none by = tt
