-- What a run of the program is: a run of a script on the chains that its genesis begins, or a race, and the text that it writes.
use Rattle.std.specs.Prelude.{◌≡◌, ◌⊎◌, ℕ, List, [], ◌++◌, length, map, slice_get, take, Option, IfSome, Result, Err}
use Rattle.std.specs.Global.{Vec}
use Rattle.std.specs.Io.KnownBytes.{Appends, Keeps}
use Rattle.std.specs.List.{flat_map, range_with_len}
use Rattle.std.specs.Option.{option_map_or}
use Rattle.ibc_ids.specs.Texts.{Text}
use Rattle.ibc_ids.specs.declared.account.Account.{Account}
use Rattle.ibc_machine.specs.chain.Genesis.{GenesisState, genesis_state}
use Rattle.ibc_machine.specs.ics20.Bank.{Balances}
use Rattle.ibc_script.specs.Faults.{IsRunFault}
use Rattle.ibc_script.specs.ScriptValues.{IsScriptText, content_of}
use Rattle.ibc_script.specs.declared.fault.Fault.{Fault}
use Rattle.ibc_script.specs.declared.fault.Fault.TheVariants.{BadArguments, BadScript, NoMemory}
use Rattle.ibc_script.specs.declared.script.Script.{Script}
use Rattle.ibc_script.specs.declared.script.Step.{Step}
use Rattle.ibc_script_cli.specs.Balances.{holding_of, notes_of}
use Rattle.ibc_script_cli.specs.Runs.{Act, Reaches, acts_of, balance_lines, name_of, note_lines}
use Rattle.ibc_script_cli.specs.ScriptChains.{ScriptChains}
use Rattle.ibc_script_cli.specs.declared.racing.RaceAudit.{RaceAudit}

-- the bytes of an input are this script, where they are known
abbrev pub IsInput : Option Text → Script → Type 0
IsInput known script = IfSome known (λ text. IsScriptText text (content_of script))

-- what is read of an input: all of it, or one byte more than a script may have
abbrev pub IsReadOf : Option Text → Vec ℕ → Type 0
IsReadOf known = λ bytes. IfSome known (λ text. bytes.items ≡ take 1048577 text)

-- ---- texts

-- all that is done for a script
abbrev pub acts_for : Script → List Act
acts_for script = acts_of script.steps.items (length script.names.items)

-- the text of a whole run: all acts of the script were done, from chains that its genesis begins
abbrev pub IsRunText : {C : Type 0} → (GenesisState → C → Type 0) → (C → Type 0) → ScriptChains C → Script → Text → Type 0
IsRunText {C} begins keeps chains script text =
    (start end : C) × (count : ℕ) × begins (genesis_state script.genesis) start × keeps end
    × Reaches chains script.names.items count (acts_for script) start text [] end

-- the text of a run that was stopped: some acts were left
abbrev pub IsRunBeginning : {C : Type 0} → (GenesisState → C → Type 0) → ScriptChains C → Script → Text → Type 0
IsRunBeginning {C} begins chains script text =
    (start mid : C) × (count : ℕ) × (left : List Act) × begins (genesis_state script.genesis) start
    × Reaches chains script.names.items count (acts_for script) start text left mid

-- ---- texts of races

-- what an audit tells of a chain
abbrev pub audited_balances : RaceAudit → ℕ → Balances
audited_balances audit on =
    option_map_or (λ (list : Vec (Account × Text × ℕ)). map holding_of list.items) (slice_get audit.balances.items on) []

abbrev pub audited_notes : RaceAudit → ℕ → List (Text × List Text)
audited_notes audit on =
    option_map_or (λ (list : Vec (Text × Vec Text)). map notes_of list.items) (slice_get audit.notes.items on) []

-- the lines of what the accounts of a chain of this name have, as an audit tells it
abbrev pub held_on : Text → RaceAudit → ℕ → Text
held_on name audit on = balance_lines name (audited_balances audit on)

-- the lines of its notes
abbrev pub note_on : Text → RaceAudit → ℕ → Text
note_on name audit on = note_lines name (audited_notes audit on)

-- the lines of the chains from this one on, so many
abbrev pub audited_balance_lines : List Text → RaceAudit → ℕ → ℕ → Text
audited_balance_lines names audit on many =
    flat_map (λ chain. balance_lines (name_of names chain) (audited_balances audit chain)) (range_with_len on many)

abbrev pub audited_note_lines : List Text → RaceAudit → ℕ → ℕ → Text
audited_note_lines names audit on many =
    flat_map (λ chain. note_lines (name_of names chain) (audited_notes audit chain)) (range_with_len on many)

-- the lines of what the accounts of all chains have
abbrev pub all_held : List Text → RaceAudit → Text
all_held names audit = audited_balance_lines names audit 0 (length names)

-- the lines of the notes of all chains
abbrev pub all_noted : List Text → RaceAudit → Text
all_noted names audit = audited_note_lines names audit 0 (length names)

-- the balances of all chains, and then the notes
abbrev pub audit_text : List Text → RaceAudit → Text
audit_text names audit = audited_balance_lines names audit 0 (length names) ++ audited_note_lines names audit 0 (length names)

-- what an audit tells at the end of a race of which this is so
abbrev pub IsRaceText : (GenesisState → List Step → RaceAudit → Type 0) → Script → Text → Type 0
IsRaceText raced script text =
    (audit : RaceAudit) × raced (genesis_state script.genesis) script.steps.items audit
    × (text ≡ audit_text script.names.items audit)

-- a beginning of that
abbrev pub IsRaceBeginning : (GenesisState → List Step → RaceAudit → Type 0) → Script → Text → Type 0
IsRaceBeginning raced script text = (rest : Text) × IsRaceText raced script (text ++ rest)

-- ---- outputs

-- An output has more by such a text. Where its bytes are known, as those of a `Vec`, they are those before and then the text.
abbrev pub HasMore : (Text → Type 0) → Option Text → Option Text → Type 0
HasMore IsText before after = (text : Text) × IsText text × Appends before after text

-- an output has the lines of a run of the script
abbrev pub HasRun : {C : Type 0} → (GenesisState → C → Type 0) → (C → Type 0) → ScriptChains C → Script
    → Option Text → Option Text → Type 0
HasRun begins keeps chains script before after = HasMore (IsRunText begins keeps chains script) before after

-- an output has a beginning of the lines of a run of the script
abbrev pub HasBegun : {C : Type 0} → (GenesisState → C → Type 0) → ScriptChains C → Script → Option Text → Option Text → Type 0
HasBegun begins chains script before after = HasMore (IsRunBeginning begins chains script) before after

-- an output has what an audit tells at the end of a race of the script, or a beginning of it
abbrev pub HasRaced : (GenesisState → List Step → RaceAudit → Type 0) → Script → Option Text → Option Text → Type 0
HasRaced raced script before after = HasMore (IsRaceText raced script) before after

abbrev pub HasRacedInPart : (GenesisState → List Step → RaceAudit → Type 0) → Script → Option Text → Option Text → Type 0
HasRacedInPart raced script before after = HasMore (IsRaceBeginning raced script) before after

-- the same of an output by what it holds: it gains what an audit tells
abbrev pub PrintsRace : {W : Type 0} → (GenesisState → List Step → RaceAudit → Type 0) → Script → (W → Option Text) → W → W → Type 0
PrintsRace raced script contents old new = HasRaced raced script (contents old) (contents new)

-- it is kept, or it gains a beginning of that
abbrev pub PrintsRaceInPart : {W : Type 0} → (GenesisState → List Step → RaceAudit → Type 0) → Script → (W → Option Text) → W → W → Type 0
PrintsRaceInPart raced script contents old new =
    Keeps (contents old) (contents new) ⊎ HasRacedInPart raced script (contents old) (contents new)

-- ---- inputs

-- the input is a script, and an output has the lines of a run of it
abbrev pub HasRunInput : {C : Type 0} → (GenesisState → C → Type 0) → (C → Type 0) → ScriptChains C → Option Text
    → Option Text → Option Text → Type 0
HasRunInput begins keeps chains input before after =
    (script : Script) × IsInput input script × HasRun begins keeps chains script before after

-- an output is kept, or the input is a script, and the output has a beginning of the lines of a run of it
abbrev pub HasBegunInput : {C : Type 0} → (GenesisState → C → Type 0) → ScriptChains C → Option Text → Option Text → Option Text → Type 0
HasBegunInput begins chains input before after =
    Keeps before after ⊎ ((script : Script) × IsInput input script × HasBegun begins chains script before after)

-- the input is a script, and an output has what an audit tells at the end of a race of it
abbrev pub HasRacedInput : (GenesisState → List Step → RaceAudit → Type 0) → Option Text → Option Text → Option Text → Type 0
HasRacedInput raced input before after = (script : Script) × IsInput input script × HasRaced raced script before after

-- an output is kept, or it has a beginning of that
abbrev pub HasRacedInputInPart : (GenesisState → List Step → RaceAudit → Type 0) → Option Text → Option Text → Option Text → Type 0
HasRacedInputInPart raced input before after =
    Keeps before after ⊎ ((script : Script) × IsInput input script × HasRacedInPart raced script before after)

-- ---- faults

-- a fault of a run; or no chains begin as the script says, and the output stays as it was
abbrev pub IsFaultOfRun : {W : Type 0} → W → W → Fault → Type 0
IsFaultOfRun before after = λ fault. IsRunFault fault ⊎ ((fault ≡ BadScript) × (after ≡ before))

-- the words are refused, or there is no memory
abbrev pub RefusesWords : {T : Type 0} → Result T Fault → Type 0
RefusesWords result = (result ≡ Err BadArguments) ⊎ (result ≡ Err NoMemory)
