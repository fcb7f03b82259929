-- A run of a script: its acts in turn, what each of them asks the chains for, and what it writes.
use Rattle.std.specs.Prelude.{◌≡◌, ◌⊎◌, ℕ, zero, suc, ◌+◌, codes, List, [], ◌∷◌, ◌++◌, map, slice_get, Option, None, Some, option_map, decimal, Result, Ok, Err}
use Rattle.std.specs.Global.{Vec}
use Rattle.std.specs.List.{flat_map, range_with_len}
use Rattle.std.specs.Option.{unwrap_or}
use Rattle.std.specs.Io.KnownBytes.{Appends}
use Rattle.base64.specs.Engines.{standard}
use Rattle.base64.specs.GeneralPurpose.{encode_of}
use Rattle.ibc_ids.specs.Texts.{Text}
use Rattle.ibc_ids.specs.declared.account.Account.{Account}
use Rattle.ibc_ids.specs.declared.refusal.Refusal.{Refusal}
use Rattle.ibc_machine.specs.declared.event.Event.TheVariants as event
use Rattle.ibc_machine.specs.declared.reply.Effect.{Effect}
use Rattle.ibc_machine.specs.declared.reply.Reply.{Reply}
use Rattle.ibc_machine.specs.declared.totals.Totals.{Totals}
use Rattle.ibc_machine.specs.ics20.Bank.{Balances}
use Rattle.ibc_wire.specs.Kinds.{kind_of}
use Rattle.ibc_wire.specs.declared.messages.Message.{Message}
use Rattle.ibc_script.specs.EventKinds.{draft_kind, kind_name_of}
use Rattle.ibc_script.specs.declared.draft.Draft.{Draft}
use Rattle.ibc_script.specs.declared.event_kind.EventKind.{EventKind}
use Rattle.ibc_script.specs.declared.event_kind.EventKind.TheVariants as kind
use Rattle.ibc_script.specs.declared.script.Step.{Step}
use Rattle.ibc_script.specs.declared.script.Step.TheVariants as step
use Rattle.ibc_script_cli.specs.Balances.{holding_of, notes_of}
use Rattle.ibc_script_cli.specs.Completing.{IsProofBytesAt, MakesMessage}
use Rattle.ibc_script_cli.specs.Lines.{digits_of, reply_words, spaced_words, totals_words}
use Rattle.ibc_script_cli.specs.Opening.{effect_given_by, new_party, own_of, turn_draft, turns_of_open, with_effect_at}
use Rattle.ibc_script_cli.specs.ScriptChains.{ScriptChains}
use Rattle.ibc_script_cli.specs.declared.chains.CommittedBlock.{CommittedBlock}
use Rattle.ibc_script_cli.specs.declared.opening.Handshake.{Handshake}
use Rattle.ibc_script_cli.specs.declared.opening.HandshakeSide.{HandshakeSide}

-- what is left to be done of a script
pub data Act : Type 0 where
  -- a step is taken
  Take : Step → Act
  -- the rest of an `open`: its turns, and what the two chains have given so far
  Open : List (HandshakeSide × EventKind) → Handshake → Act
  -- each of two chains is sent what relayers plan for it
  SendPlans : ℕ → ℕ → Act
  -- a chain is sent a message
  Send : ℕ → Message → Act
  -- the balances of a chain are told, and its notes
  TellBalances : ℕ → Act
  TellNotes : ℕ → Act
  -- a text is written
  Write : Text → Act

-- ---- lines

abbrev pub name_of : List Text → ℕ → Text
name_of names chain = unwrap_or (slice_get names chain) []

-- words, with the line feed behind them
abbrev pub line_of : List Text → Text
line_of words = spaced_words words ++ codes "\n"

-- what a chain answered; `none` where something that the message needs isn't there
abbrev pub answer_words : Option Reply → List Text
answer_words None = codes "none" ∷ []
answer_words (Some given) = reply_words given

abbrev pub answer_line : List Text → ℕ → EventKind → Option Reply → Text
answer_line names on k answer = line_of (name_of names on ∷ kind_name_of k ∷ answer_words answer)

-- what a height has
abbrev pub height_line : List Text → ℕ → Text → ℕ → Option Text → Text
height_line names on what height bytes =
    line_of (name_of names on ∷ what ∷ decimal height ∷ digits_of bytes ∷ [])

abbrev pub totals_line : List Text → ℕ → Text → Text → Result Totals Refusal → Text
totals_line names on channel denom totals =
    line_of (name_of names on ∷ codes "totals" ∷ totals_words channel denom totals)

abbrev pub balance_line : Text → (Text × Text) × ℕ → Text
balance_line chain ((account, denom), amount) =
    line_of (codes "balance" ∷ chain ∷ account ∷ denom ∷ decimal amount ∷ [])

abbrev pub balance_lines : Text → Balances → Text
balance_lines chain balances = flat_map (balance_line chain) balances

abbrev pub note_line : Text → Text → ℕ → Text → Text
note_line chain channel n note =
    line_of (codes "note" ∷ chain ∷ channel ∷ decimal n ∷ encode_of standard note ∷ [])

-- the notes that came over a channel, with their numbers from this one on
abbrev pub numbered_lines : Text → Text → ℕ → List Text → Text
numbered_lines chain channel n [] = []
numbered_lines chain channel n (note ∷ notes) = note_line chain channel n note ++ numbered_lines chain channel (n + 1) notes

abbrev pub note_lines : Text → List (Text × List Text) → Text
note_lines chain notes = flat_map (λ entry. numbered_lines chain entry.0 1 entry.1) notes

-- ---- what is asked

module _ {C : Type 0} (chains : ScriptChains C) where
  -- a message is sent, where there is one
  abbrev pub SendsIfMade : C → ℕ → Option Message → Option Reply → C → Type 0
  SendsIfMade old on None answer new = (answer ≡ None) × (new ≡ old)
  SendsIfMade old on (Some m) answer new =
      (given : Reply) × chains.asked old (event.Message on m) given new × (answer ≡ Some given)

  -- the chain is sent the message that the step's becomes as the chains stand, and answers; `none` where it becomes none
  abbrev pub Submits : C → ℕ → Draft → Option Reply → C → Type 0
  Submits old on d answer new =
      (made : Option Message) × MakesMessage (chains.answers old) on d made × SendsIfMade old on made answer new

  -- the next block's time: the one that is given, and else the working block's
  abbrev pub IsNextTime : C → ℕ → Option ℕ → ℕ → Type 0
  IsNextTime old on None next_time = (chains.answers old).working_time on next_time
  IsNextTime old on (Some time) next_time = next_time ≡ time

  -- the chain's block is ended, or refused
  abbrev pub Ends : C → ℕ → Option ℕ → Reply → C → Type 0
  Ends old on time given new =
      (next_time : ℕ) × IsNextTime old on time next_time × chains.asked old (event.Block on next_time) given new

  abbrev pub EndsBy : C → ℕ → Option ℕ → Option Reply → C → Type 0
  EndsBy old on time answer new = (given : Reply) × Ends old on time given new × (answer ≡ Some given)

-- ---- what follows

-- the turns of a `relay`: both chains end their blocks, and then each is sent what is planned for it
abbrev pub relay_acts : ℕ → ℕ → ℕ → List Act
relay_acts first second zero = []
relay_acts first second (suc turns) =
    Take (step.Block first None) ∷ Take (step.Block second None) ∷ SendPlans first second ∷ relay_acts first second turns

-- what an accepted event gave
abbrev pub given_by : Option Reply → Option Effect
given_by None = None
given_by (Some answer) = effect_given_by answer

-- an `open` goes on after an event that is accepted; else the rest is left out
abbrev pub opened : List (HandshakeSide × EventKind) → HandshakeSide → Handshake → Option Effect → List Act
opened turns side o None = []
opened turns side o (Some given) = Open turns (with_effect_at side given o) ∷ []

-- what stays to be written
abbrev pub unwritten : Text → List Act
unwritten [] = []
unwritten (byte ∷ bytes) = Write (byte ∷ bytes) ∷ []

-- An act is done: these bytes are written, and these acts come in its place.
module _ {C : Type 0} (chains : ScriptChains C) (names : List Text) where
  -- a turn of an `open`; where it names something that no chain has given, the rest is left out
  abbrev pub TakesTurn : HandshakeSide → EventKind → List (HandshakeSide × EventKind) → Handshake → C → List Act → C → Type 0
  TakesTurn side kind.Block turns o old next new =
      (answer : Option Reply) × EndsBy chains old (own_of side o).chain None answer new
      × (next ≡ Write (answer_line names (own_of side o).chain kind.Block answer) ∷ opened turns side o (given_by answer))
  TakesTurn side (kind.Message k) turns o old next new =
      ((turn_draft side k o ≡ None) × (next ≡ []) × (new ≡ old))
      ⊎ ((d : Draft) × (answer : Option Reply) × (turn_draft side k o ≡ Some d)
      × Submits chains old (own_of side o).chain d answer new
      × (next ≡ Write (answer_line names (own_of side o).chain (kind.Message (draft_kind d)) answer) ∷ opened turns side o (given_by answer)))

  abbrev pub TakesStep : Step → C → List Act → C → Type 0
  TakesStep (step.Message on d) old next new =
      (answer : Option Reply) × Submits chains old on d answer new
      × (next ≡ Write (answer_line names on (kind.Message (draft_kind d)) answer) ∷ [])
  TakesStep (step.Block on time) old next new =
      (answer : Option Reply) × EndsBy chains old on time answer new
      × (next ≡ Write (answer_line names on kind.Block answer) ∷ [])
  TakesStep (step.Root on height) old next new =
      (found : Option CommittedBlock) × (chains.answers old).block on height found × (new ≡ old)
      × (next ≡ Write (height_line names on (codes "root") height (option_map (λ b. b.root) found)) ∷ [])
  TakesStep (step.Prove on height key) old next new =
      (proof : Option Text) × IsProofBytesAt (chains.answers old) (record { chain = on; height = height }) key proof
      × (new ≡ old) × (next ≡ Write (height_line names on (codes "prove") height proof) ∷ [])
  TakesStep (step.Totals on channel denom) old next new =
      (totals : Result Totals Refusal) × (chains.answers old).totals on channel denom totals × (new ≡ old)
      × (next ≡ Write (totals_line names on channel denom totals) ∷ [])
  TakesStep (step.Open first second app) old next new =
      (new ≡ old)
      × (next ≡ Open turns_of_open (record { application = app; first = new_party first; second = new_party second }) ∷ [])
  TakesStep (step.Relay first second turns) old next new = (new ≡ old) × (next ≡ relay_acts first second turns)

  abbrev pub Does : Act → C → Text → List Act → C → Type 0
  Does (Take s) old written next new = (written ≡ []) × TakesStep s old next new
  Does (Open [] o) old written next new = (written ≡ []) × (next ≡ []) × (new ≡ old)
  Does (Open ((side, k) ∷ turns) o) old written next new = (written ≡ []) × TakesTurn side k turns o old next new
  Does (SendPlans first second) old written next new =
      (plans : List Message × List Message) × (chains.answers old).plans first second plans × (written ≡ []) × (new ≡ old)
      × (next ≡ map (Send second) plans.0 ++ map (Send first) plans.1)
  Does (Send on m) old written next new =
      (given : Reply) × chains.asked old (event.Message on m) given new × (written ≡ [])
      × (next ≡ Write (answer_line names on (kind.Message (kind_of m)) (Some given)) ∷ [])
  Does (TellBalances on) old written next new =
      (balances : Balances) × (chains.answers old).balances on balances × (written ≡ []) × (new ≡ old)
      × (next ≡ Write (balance_lines (name_of names on) balances) ∷ [])
  Does (TellNotes on) old written next new =
      (notes : List (Text × List Text)) × (chains.answers old).notes on notes × (written ≡ []) × (new ≡ old)
      × (next ≡ Write (note_lines (name_of names on) notes) ∷ [])
  Does (Write text) old written next new =
      (rest : Text) × (text ≡ written ++ rest) × (next ≡ unwritten rest) × (new ≡ old)

  -- So many acts were done, one after another: this was written, and these are left.
  abbrev pub Reaches : ℕ → List Act → C → Text → List Act → C → Type 0
  Reaches zero acts old text left new = (text ≡ []) × (left ≡ acts) × (new ≡ old)
  Reaches (suc n) [] old text left new = ⊥
  Reaches (suc n) (act ∷ acts) old text left new =
      (written rest : Text) × (next : List Act) × (mid : C) × Does act old written next mid
      × Reaches n (next ++ acts) mid rest left new × (text ≡ written ++ rest)

-- ---- what a call does of a run

-- a beginning of a text is written
abbrev pub IsCut : Option Text → Option Text → Text → Type 0
IsCut old new text = (written rest : Text) × (text ≡ written ++ rest) × Appends old new written

-- a text is written, or a beginning of it where the call fails
abbrev pub WritesText : {T E : Type 0} → Result T E → Option Text → Option Text → Text → Type 0
WritesText (Ok x) old new text = Appends old new text
WritesText (Err fault) old new text = IsCut old new text

-- the same of an output, by what it holds
abbrev pub Emits : {T E W : Type 0} → (W → Option Text) → Result T E → W → W → Text → Type 0
Emits contents result old new text = WritesText result (contents old) (contents new) text

-- the lines of what the accounts of a chain have
abbrev pub held_text : Text → List (Account × Text × ℕ) → Text
held_text chain balances = balance_lines chain (map holding_of balances)

-- the lines of the notes that came over a chain's channels
abbrev pub note_text : Text → List (Text × Vec Text) → Text
note_text chain channels = note_lines chain (map notes_of channels)

-- A chain was asked, and its answer is told: the line is written, and what the accepted event gave is given back. Where
-- the call fails, nothing is written yet, or a beginning of the line.
abbrev pub IsTold : {C E : Type 0} → (Option Reply → C → Type 0) → (Option Reply → Text)
    → Result (Option Effect) E → C → Option Text → Option Text → Type 0
IsTold asked line (Ok given) new before after =
    (answer : Option Reply) × asked answer new × (given ≡ given_by answer) × Appends before after (line answer)
IsTold {C} asked line (Err fault) new before after =
    Appends before after [] ⊎ ((answer : Option Reply) × (mid : C) × asked answer mid × IsCut before after (line answer))

module _ {C : Type 0} (chains : ScriptChains C) (names : List Text) where
  -- acts were done and others are left, and an output has what was written meanwhile
  pub record Reached (acts : List Act) (old : C) (before : Option Text) (left : List Act) (new : C) (after : Option Text) : Type 0 where
    pub count : ℕ
    pub text : Text
    pub reaches : Reaches chains names count acts old text left new
    pub appends : Appends before after text

  -- acts were stopped on the way
  pub record StopsIn (acts : List Act) (old : C) (before after : Option Text) : Type 0 where
    pub left : List Act
    pub new : C
    pub reached : Reached acts old before left new after

  -- acts are done up to those that the call's value tells, or they are stopped where it fails
  abbrev pub RunsTo : {T E : Type 0} → (T → List Act) → List Act → Result T E → C → Option Text → C → Option Text → Type 0
  RunsTo left acts (Ok x) old before new after = Reached acts old before (left x) new after
  RunsTo left acts (Err fault) old before new after = StopsIn acts old before after

  -- acts are done, or they are stopped where the call fails
  abbrev pub Runs : {T E : Type 0} → List Act → Result T E → C → Option Text → C → Option Text → Type 0
  Runs acts result old before new after = RunsTo (λ _. []) acts result old before new after

-- what is done of a step where replies alone count: one that only looks at what the chains have is passed over
abbrev pub asking_acts : Step → List Act
asking_acts (step.Root on height) = []
asking_acts (step.Prove on height key) = []
asking_acts (step.Totals on channel denom) = []
asking_acts s = Take s ∷ []

-- what is done for a script: its steps in turn, and then the balances and the notes of all chains are told
abbrev pub acts_of : List Step → ℕ → List Act
acts_of steps chains =
    map Take steps ++ (map TellBalances (range_with_len 0 chains) ++ map TellNotes (range_with_len 0 chains))
