-- What is done of one act, by what was asked and told.
use Rattle.std.proofs.Common.{◌≡◌, ℕ, List, [], ◌∷◌, Option, None, Some, Result, Ok, Err, IfOk, refl, inl, inr, subst, sym}
use Rattle.ibc_ids.specs.Texts.{Text}
use Rattle.ibc_machine.specs.declared.event.Event.TheVariants as event
use Rattle.ibc_machine.specs.declared.reply.Effect.{Effect}
use Rattle.ibc_machine.specs.declared.reply.Reply.{Reply}
use Rattle.ibc_wire.specs.Kinds.{kind_of}
use Rattle.ibc_wire.specs.declared.messages.Message.{Message}
use Rattle.ibc_wire.specs.declared.messages.MessageKind.{MessageKind}
use Rattle.ibc_script.specs.EventKinds.{draft_kind}
use Rattle.ibc_script.specs.declared.draft.Draft.{Draft}
use Rattle.ibc_script.specs.declared.event_kind.EventKind.{EventKind}
use Rattle.ibc_script.specs.declared.event_kind.EventKind.TheVariants as kind
use Rattle.ibc_ids.specs.declared.key.Key.{Key}
use Rattle.ibc_script.specs.declared.script.Step.{Step}
use Rattle.ibc_script.specs.declared.script.Step.TheVariants as step
use Rattle.ibc_script_cli.specs.Opening.{own_of, turn_draft}
use Rattle.ibc_script_cli.specs.Runs.{Act, EndsBy, IsTold, Reached, Runs, RunsTo, Submits, WritesText, answer_line, asking_acts, given_by, opened}
use Rattle.ibc_script_cli.specs.Runs.Act.{Open, Send, Take}
use Rattle.ibc_script_cli.specs.ScriptChains.{ScriptChains}
use Rattle.ibc_script_cli.specs.declared.opening.Handshake.{Handshake}
use Rattle.ibc_script_cli.specs.declared.opening.HandshakeSide.{HandshakeSide}
use Rattle.ibc_script_cli.proofs.Reaching.{leads, told_as, told_text}

-- an answer is printed
pub is_told : {C E : Type 0} (asked : Option Reply → C → Type 0) (line : Option Reply → Text) (result : Result (Option Effect) E) (new : C) (before after : Option Text)
    (answer : Option Reply) → asked answer new → WritesText result before after (line answer) → IfOk result (λ given. given ≡ given_by answer)
    → IsTold asked line result new before after
is_told asked line (Ok given) new before after answer is has same = (answer, is, same, has)
is_told asked line (Err fault) new before after answer is part same = inr (answer, new, is, part)

module _ {C : Type 0} (chains : ScriptChains C) (names : List Text) where
  pub block_turn : {E : Type 0} (side : HandshakeSide) (turns : List (HandshakeSide × EventKind)) (o : Handshake) (old : C) (result : Result (Option Effect) E) (new : C)
      (before after : Option Text) → IsTold (EndsBy chains old (own_of side o).chain None) (answer_line names (own_of side o).chain kind.Block) result new before after
      → RunsTo chains names (opened turns side o) (Open ((side, kind.Block) ∷ turns) o ∷ []) result old before new after
  block_turn side turns o old result new before after =
      told_as chains names (EndsBy chains old (own_of side o).chain None) (answer_line names (own_of side o).chain kind.Block) (Open ((side, kind.Block) ∷ turns) o)
      (opened turns side o) old (λ answer mid is. (refl, (answer, is, refl))) result new before after

  pub message_turn : {E : Type 0} (side : HandshakeSide) (k : MessageKind) (turns : List (HandshakeSide × EventKind)) (o : Handshake) (old : C)
      (result : Result (Option Effect) E) (new : C) (before after : Option Text) (d : Draft) → turn_draft side k o ≡ Some d
      → IsTold (Submits chains old (own_of side o).chain d) (answer_line names (own_of side o).chain (kind.Message (draft_kind d))) result new before after
      → RunsTo chains names (opened turns side o) (Open ((side, kind.Message k) ∷ turns) o ∷ []) result old before new after
  message_turn side k turns o old result new before after d drafted =
      told_as chains names (Submits chains old (own_of side o).chain d) (answer_line names (own_of side o).chain (kind.Message (draft_kind d)))
      (Open ((side, kind.Message k) ∷ turns) o) (opened turns side o) old (λ answer mid is. (refl, inr (d, answer, drafted, is, refl))) result new before after

  pub no_turn : (side : HandshakeSide) (k : MessageKind) (turns : List (HandshakeSide × EventKind)) (o : Handshake) (old : C) (output : Option Text)
      → turn_draft side k o ≡ None → Reached chains names (Open ((side, kind.Message k) ∷ turns) o ∷ []) old output [] old output
  no_turn side k turns o old output none = leads chains names (Open ((side, kind.Message k) ∷ turns) o) [] [] (refl, inl (none, refl, refl))

  pub message_step : {E : Type 0} (on : ℕ) (d : Draft) (old : C) (result : Result (Option Effect) E) (new : C) (before after : Option Text)
      → IsTold (Submits chains old on d) (answer_line names on (kind.Message (draft_kind d))) result new before after
      → Runs chains names (Take (step.Message on d) ∷ []) result old before new after
  message_step on d old result new before after =
      told_as chains names (Submits chains old on d) (answer_line names on (kind.Message (draft_kind d))) (Take (step.Message on d)) (λ _. []) old
      (λ answer mid is. (refl, (answer, is, refl))) result new before after

  pub block_step : {E : Type 0} (on : ℕ) (time : Option ℕ) (old : C) (result : Result (Option Effect) E) (new : C) (before after : Option Text)
      → IsTold (EndsBy chains old on time) (answer_line names on kind.Block) result new before after
      → Runs chains names (Take (step.Block on time) ∷ []) result old before new after
  block_step on time old result new before after =
      told_as chains names (EndsBy chains old on time) (answer_line names on kind.Block) (Take (step.Block on time)) (λ _. []) old
      (λ answer mid is. (refl, (answer, is, refl))) result new before after

  pub sent : {T E : Type 0} (on : ℕ) (m : Message) (old mid : C) (result : Result T E) (before after : Option Text) (given : Reply)
      → chains.asked old (event.Message on m) given mid → WritesText result before after (answer_line names on (kind.Message (kind_of m)) (Some given))
      → Runs chains names (Send on m ∷ []) result old before mid after
  sent on m old mid result before after given asked =
      told_text chains names result (Send on m) old mid before after (answer_line names on (kind.Message (kind_of m)) (Some given)) (given, asked, refl, refl)

-- ---- by what the code has found

is_block : (k : EventKind) → ((m : MessageKind) → k ≡ kind.Message m → ⊥) → k ≡ kind.Block
is_block kind.Block other = refl
is_block (kind.Message m) other = absurd (other m refl)

module _ {C E : Type 0} (chains : ScriptChains C) (names : List Text) (side : HandshakeSide) (turns : List (HandshakeSide × EventKind)) (o : Handshake) (old : C)
    (result : Result (Option Effect) E) (new : C) (before after : Option Text) (on : ℕ) (its : on ≡ (own_of side o).chain) (found : EventKind) where
  pub block_taken : ((m : MessageKind) → found ≡ kind.Message m → ⊥) → IsTold (EndsBy chains old on None) (answer_line names on kind.Block) result new before after
      → RunsTo chains names (opened turns side o) (Open ((side, found) ∷ turns) o ∷ []) result old before new after
  block_taken other told =
      subst (λ (k : EventKind). RunsTo chains names (opened turns side o) (Open ((side, k) ∷ turns) o ∷ []) result old before new after) (sym (is_block found other))
      (block_turn chains names side turns o old result new before after
      (subst (λ (n : ℕ). IsTold (EndsBy chains old n None) (answer_line names n kind.Block) result new before after) its told))

  pub message_taken : (k : MessageKind) (d : Draft) → found ≡ kind.Message k → turn_draft side k o ≡ Some d
      → IsTold (Submits chains old on d) (answer_line names on (kind.Message (draft_kind d))) result new before after
      → RunsTo chains names (opened turns side o) (Open ((side, found) ∷ turns) o ∷ []) result old before new after
  message_taken k d is drafted told =
      subst (λ (k' : EventKind). RunsTo chains names (opened turns side o) (Open ((side, k') ∷ turns) o ∷ []) result old before new after) (sym is)
      (message_turn chains names side k turns o old result new before after d drafted
      (subst (λ (n : ℕ). IsTold (Submits chains old n d) (answer_line names n (kind.Message (draft_kind d))) result new before after) its told))

-- ---- other steps

asks_all : (s : Step) → ((on height : ℕ) → s ≡ step.Root on height → ⊥) → ((on height : ℕ) (key : Key) → s ≡ step.Prove on height key → ⊥)
    → ((on : ℕ) (channel denom : Text) → s ≡ step.Totals on channel denom → ⊥) → asking_acts s ≡ Take s ∷ []
asks_all (step.Message on d) root prove totals = refl
asks_all (step.Block on time) root prove totals = refl
asks_all (step.Root on height) root prove totals = absurd (root on height refl)
asks_all (step.Prove on height key) root prove totals = absurd (prove on height key refl)
asks_all (step.Totals on channel denom) root prove totals = absurd (totals on channel denom refl)
asks_all (step.Open first second app) root prove totals = refl
asks_all (step.Relay first second turns) root prove totals = refl

pub taken_whole : {C T E : Type 0} (chains : ScriptChains C) (names : List Text) (s : Step) (result : Result T E) (old new : C) (before after : Option Text)
    → ((on height : ℕ) → s ≡ step.Root on height → ⊥) → ((on height : ℕ) (key : Key) → s ≡ step.Prove on height key → ⊥)
    → ((on : ℕ) (channel denom : Text) → s ≡ step.Totals on channel denom → ⊥) → Runs chains names (asking_acts s) result old before new after
    → Runs chains names (Take s ∷ []) result old before new after
taken_whole chains names s result old new before after root prove totals runs =
    subst (λ (l : List Act). Runs chains names l result old before new after) (asks_all s root prove totals) runs
