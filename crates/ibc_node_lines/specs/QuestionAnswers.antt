-- What questions are answered, as the world stands.
use Rattle.std.specs.Prelude.{◌≡◌, ◌+◌, ◌++◌, ◌&&◌, ℕ, Bool, true, codes, List, [], ◌∷◌, map, Option, slice_get, is_some, Result, Ok, Err}
use Rattle.std.specs.Option.{option_map_or}
use Rattle.hex.specs.Hex.{encode_lower}
use Rattle.ibc_ids.specs.Texts.{Text}
use Rattle.ibc_ids.specs.declared.refusal.Refusal.{Refusal}
use Rattle.ibc_merkle.specs.declared.proof.Proof.{Proof}
use Rattle.ibc_machine.specs.declared.totals.Totals.{Totals}
use Rattle.ibc_wire.specs.Fields.{bytes_of}
use Rattle.ibc_wire.specs.Messages.{message_fields}
use Rattle.ibc_wire.specs.declared.messages.Message.{Message}
use Rattle.ibc_refinement.specs.World.{WorldState}
use Rattle.ibc_journal.specs.Tables.{JournalItem}
use Rattle.ibc_world_core.specs.WorldAudits.{balances_of}
use Rattle.ibc_script.specs.declared.script.Step.{Step}
use Rattle.ibc_script.specs.declared.script.Step.TheVariants as step
use Rattle.ibc_script_cli.specs.Completing.{IsEncoding}
use Rattle.ibc_script_worlds.specs.WorldChains.{by_ledger, plans_of, proof_in, value_in, TellsTotals}
use Rattle.ibc_node.specs.declared.node.Node.{Node}
use Rattle.ibc_node.specs.Nodes.{node_end, node_world}
use Rattle.ibc_node_lines.specs.declared.request.NodeQuestion.{NodeQuestion}
use Rattle.ibc_node_lines.specs.declared.request.NodeQuestion.TheVariants as question
use Rattle.ibc_node_lines.specs.OtherLines.{balances_text, entries_text, found_text, item_text, named_list, totals_text, IsUnansweredText}
use Rattle.ibc_node_lines.specs.Told.{joined}

-- the question that a step is which only looks at what chains have, or the step, where it is another
abbrev pub question_of_step : Step → Result NodeQuestion Step
question_of_step (step.Message on draft) = Err (step.Message on draft)
question_of_step (step.Block on time) = Err (step.Block on time)
question_of_step (step.Root on height) = Ok (question.Root on height)
question_of_step (step.Prove on height k) = Ok (question.Proof on height k)
question_of_step (step.Totals on channel denom) = Ok (question.Totals on channel denom)
question_of_step (step.Open first second app) = Err (step.Open first second app)
question_of_step (step.Relay first second turns) = Err (step.Relay first second turns)

-- whether the world has this chain
abbrev pub is_chain_of : WorldState → ℕ → Bool
is_chain_of world chain = is_some (slice_get world.ledgers chain)

-- whether the world has the chains that a question names
abbrev pub has_chains_of : WorldState → NodeQuestion → Bool
has_chains_of world question.Entries = true
has_chains_of world (question.Kept from) = true
has_chains_of world (question.Balances chain) = is_chain_of world chain
has_chains_of world (question.Standing chain k) = is_chain_of world chain
has_chains_of world (question.Root chain height) = is_chain_of world chain
has_chains_of world (question.Proof chain height k) = is_chain_of world chain
has_chains_of world (question.Totals chain channel denom) = is_chain_of world chain
has_chains_of world (question.Plan from to) = is_chain_of world from && is_chain_of world to

-- the encoding of a proof that was found, in hex, or that there is none
abbrev pub IsProofText : Option Proof → Text → Type 0
IsProofText found text = (bytes : Option Text) × IsEncoding found bytes × (text ≡ found_text (codes "proof") bytes)

-- what a channel has, or why there is no answer
abbrev pub IsTotalsText : Result Totals Refusal → Text → Type 0
IsTotalsText (Ok totals) text = text ≡ totals_text totals
IsTotalsText (Err refusal) text = IsUnansweredText refusal text

-- who holds how much of what on a chain
abbrev pub holdings_of : WorldState → ℕ → Text
holdings_of world chain = balances_text (option_map_or balances_of (slice_get world.ledgers chain) [])

-- a message in hex, between quotes
abbrev pub quoted_text : Text → Text
quoted_text digits = codes "\"" ++ (digits ++ codes "\"")

abbrev pub message_text : Message → Text
message_text message = quoted_text (encode_lower (bytes_of (message_fields message)))

abbrev pub plan_text : List Message → Text
plan_text messages = named_list (codes "plan") (joined (map message_text messages))

-- what relayers would send from a chain to another
abbrev pub plan_of : WorldState → ℕ → ℕ → Text
plan_of world from to = plan_text (plans_of (slice_get world.ledgers from) (slice_get world.ledgers to)).0

-- the texts of entries as the journal has them, of which the first has this place
abbrev pub item_texts : ℕ → List JournalItem → List Text
item_texts place [] = []
item_texts place (it ∷ items) = item_text place it ∷ item_texts (place + 1) items

-- entries from a place on are told
abbrev pub IsKeptText : ℕ → Text → Type 0
IsKeptText from text = (items : List JournalItem) × (text ≡ named_list (codes "kept") (joined (item_texts from items)))

-- a root is told, or that there is none
abbrev pub IsRootText : Text → Type 0
IsRootText text = (root : Option Text) × (text ≡ found_text (codes "root") root)

-- What a question is answered, where the world keeps so many entries. Which root, and which entries the journal has, isn't said.
abbrev pub AnswersIn : WorldState → ℕ → NodeQuestion → Text → Type 0
AnswersIn world count question.Entries text = text ≡ entries_text count
AnswersIn world count (question.Kept from) text = IsKeptText from text
AnswersIn world count (question.Balances chain) text = text ≡ holdings_of world chain
AnswersIn world count (question.Standing chain k) text = text ≡ found_text (codes "value") (by_ledger (value_in k) world chain)
AnswersIn world count (question.Root chain height) text = IsRootText text
AnswersIn world count (question.Proof chain height k) text = IsProofText (by_ledger (proof_in height k) world chain) text
AnswersIn world count (question.Totals chain channel denom) text =
    (totals : Result Totals Refusal) × TellsTotals world chain channel denom totals × IsTotalsText totals text
AnswersIn world count (question.Plan from to) text = text ≡ plan_of world from to

-- what it is answered of a node
abbrev pub AnswersQuestion : {S : Type 0} → Node S → NodeQuestion → Text → Type 0
AnswersQuestion node asked text = AnswersIn (node_world node) (node_end node).place asked text
