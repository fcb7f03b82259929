-- The lines that the program prints, without their line feeds.
use Rattle.std.specs.Prelude.{◌≡◌, ℕ, codes, List, [], ◌∷◌, ◌++◌, map, ◌&&◌, nat_le, if◌then◌else◌, Option, None, Some, option_map, Result, Ok, Err, String, string_bytes}
use Rattle.std.specs.Borrow.{Bor}
use Rattle.std.specs.Fmt.{decimal}
use Rattle.std.specs.declared.alloc.Global.{Global}
use Rattle.hex.specs.Hex.{encode_lower}
use Rattle.base64.specs.Engines.{standard}
use Rattle.base64.specs.GeneralPurpose.{encode_of}
use Rattle.ibc_ids.specs.Texts.{Text}
use Rattle.ibc_ids.specs.Paths.{account_text}
use Rattle.ibc_ids.specs.Refusals.{number_of}
use Rattle.ibc_ids.specs.declared.refusal.Refusal.{Refusal}
use Rattle.ibc_machine.specs.declared.reply.Effect.{Effect}
use Rattle.ibc_machine.specs.declared.reply.Effect.TheVariants as effect
use Rattle.ibc_machine.specs.declared.reply.Reply.{Reply}
use Rattle.ibc_machine.specs.declared.reply.Reply.TheVariants as reply
use Rattle.ibc_machine.specs.declared.totals.Totals.{Totals}
use Rattle.ibc_script.specs.EventKinds.{kind_name_of}
use Rattle.ibc_script_cli.specs.declared.line.Line.{Line}
use Rattle.ibc_script_cli.specs.declared.line.Line.TheVariants as printed

-- words with a blank between any two
abbrev pub spaced_words : List Text → Text
spaced_words [] = []
spaced_words (word ∷ []) = word
spaced_words (word ∷ next ∷ words) = word ++ (codes " " ++ spaced_words (next ∷ words))

-- a text is a line of these words
abbrev pub IsLine : List Text → String Global → Type 0
IsLine words = λ text. string_bytes text ≡ spaced_words words

-- a byte of an acknowledgement as it is printed: `?` where it is no printable ASCII
abbrev pub printed_byte : ℕ → ℕ
printed_byte c = if nat_le 0x20 c && nat_le c 0x7e then c else 63

-- the bytes of an acknowledgement as they are printed
abbrev pub printed_bytes : Text → Text
printed_bytes bytes = map printed_byte bytes

-- what an accepted event gives
abbrev pub effect_words : Effect → List Text
effect_words effect.None = []
effect_words (effect.Client id) = id ∷ []
effect_words (effect.Connection id) = id ∷ []
effect_words (effect.Channel id) = id ∷ []
effect_words (effect.Sent sequence) = decimal sequence ∷ []
effect_words (effect.Ack bytes) = map printed_byte bytes ∷ []
effect_words (effect.Block height root) = decimal height ∷ []

abbrev pub reply_words : Reply → List Text
reply_words (reply.Ok given) = codes "ok" ∷ effect_words given
reply_words (reply.No refusal) = codes "no" ∷ decimal (number_of refusal) ∷ []

-- bytes in base64
abbrev pub base64_of : Text → Text
base64_of bytes = encode_of standard bytes

-- a refusal, by its number
abbrev pub refusal_words : Refusal → List Text
refusal_words refusal = codes "no" ∷ decimal (number_of refusal) ∷ []

-- bytes in lower-case hexadecimal, or `none`
abbrev pub digits_of : Option Text → Text
digits_of None = codes "none"
digits_of (Some bytes) = encode_lower bytes

-- the same of bytes behind a reference
abbrev pub hex_of : Option (Bor Text) → Text
hex_of bytes = digits_of (option_map (λ b. b.now) bytes)

-- what a channel has of a denomination, or the number of the refusal
abbrev pub totals_words : Text → Text → Result Totals Refusal → List Text
totals_words channel denom (Ok t) =
    channel ∷ denom ∷ decimal t.escrow ∷ decimal t.vouchers ∷ decimal t.out ∷ decimal t.back ∷ []
totals_words channel denom (Err refusal) = codes "no" ∷ decimal (number_of refusal) ∷ []

-- the answer to a question for totals
abbrev pub totals_answer : Text → Text → Result Totals Refusal → List Text
totals_answer channel denom totals = codes "totals" ∷ totals_words channel denom totals

-- the four numbers of totals
abbrev pub four_totals : Totals → List Text
four_totals t = decimal t.escrow ∷ decimal t.vouchers ∷ decimal t.out ∷ decimal t.back ∷ []

-- the words of a channel's totals, with these numbers
abbrev pub totals_front : Text → Text → Text → List Text → List Text
totals_front chain channel denom numbers = chain ∷ codes "totals" ∷ channel ∷ denom ∷ numbers

-- the words of what an account holds, by the account's text
abbrev pub held_words : Text → Text → Text → ℕ → List Text
held_words chain account denom amount = codes "balance" ∷ chain ∷ account ∷ denom ∷ decimal amount ∷ []

-- the words of a note, by its number on its channel and its encoding
abbrev pub note_words : Text → Text → ℕ → Text → List Text
note_words chain channel index encoded = codes "note" ∷ chain ∷ channel ∷ decimal index ∷ encoded ∷ []

-- the words of a line
abbrev pub line_words : Line → List Text
line_words (printed.Reply chain kind answer) = chain.now ∷ kind_name_of kind ∷ reply_words answer.now
line_words (printed.Missing chain kind) = chain.now ∷ kind_name_of kind ∷ codes "none" ∷ []
line_words (printed.Balance chain account denom amount) =
    codes "balance" ∷ chain.now ∷ account_text account.now ∷ denom.now ∷ decimal amount ∷ []
line_words (printed.Note chain channel index bytes) =
    codes "note" ∷ chain.now ∷ channel.now ∷ decimal index ∷ encode_of standard bytes.now ∷ []
line_words (printed.Root chain height root) =
    chain.now ∷ codes "root" ∷ decimal height ∷ digits_of (option_map (λ r. r.now) root) ∷ []
line_words (printed.Prove chain height proof) =
    chain.now ∷ codes "prove" ∷ decimal height ∷ digits_of (option_map (λ p. p.now) proof) ∷ []
line_words (printed.Totals chain channel denom totals) =
    chain.now ∷ codes "totals" ∷ totals_words channel.now denom.now totals

-- the text of a line
abbrev pub line : Line → Text
line printed_line = spaced_words (line_words printed_line)
