-- Lines and their entries.
use Rattle.std.proofs.Common.{◌≡◌, ◌∙◌, ℕ, ap, Bool, Bor, List, None, Option, Some, Result, Ok, Err, IfOk, IsTrue, length, map, option_and_then, option_map, refl, slice_get, subst, sym}
use Rattle.std.proofs.lemmas.List.{length-map}
use Rattle.std.proofs.lemmas.Option.{slice_get-map, slice_get_past, slice_get_read}
use Rattle.std.specs.Option.{option_map_or}
use Rattle.std.specs.Slice.{IsItemAt}
use Rattle.ibc_ids.specs.Texts.{Text}
use Rattle.ibc_ids.specs.declared.refusal.Refusal.{Refusal}
use Rattle.ibc_ledger.specs.LedgerModel.{abstract_entry}
use Rattle.ibc_ledger.specs.declared.entry.StampedEntry.{StampedEntry as KeptEntry}
use Rattle.ibc_machine.specs.declared.entry.Entry.{Entry}
use Rattle.ibc_machine.specs.ledger.Ledgers.{Ledger}
use Rattle.ibc_machine.specs.ledger.Replay.{StampedEntry}
use Rattle.ibc_script_cli.specs.Runs.{name_of}
use Rattle.ibc_explain.specs.EntryLines.{IsLineOf, entries_of, entry_at, named_line}
use Rattle.ibc_explain.specs.declared.places.EntryPlace.{EntryPlace}

-- a line that is that of an entry is so by the entry's place
pub line_of_entry : (names : List Text) (ledgers : List Ledger) (text : Text) (place : EntryPlace) (name : Text) (e : Entry) (result : Result Bool Refusal)
    → entry_at ledgers place ≡ Some e → name ≡ name_of names place.chain → IfOk result (λ is. IsTrue is → text ≡ named_line name e)
    → IfOk result (λ is. IsTrue is → IsLineOf names ledgers text place)
line_of_entry names ledgers text place name e (Ok is) there named fact = λ t. (e, there, fact t ∙ ap (λ (n : Text). named_line n e) named)
line_of_entry names ledgers text place name e (Err refusal) there named fact = tt

-- ---- entries at places

-- the entry behind so many others
pub entry_behind : (history : List KeptEntry) (i : ℕ) (found : Option (Bor KeptEntry)) (kept : Bor KeptEntry) → found ≡ Some kept → IsItemAt history i found
    → Some kept.now.entry ≡ option_map (λ (e : KeptEntry). e.entry) (slice_get history i)
entry_behind history i found kept is at =
    let it : IsItemAt history i (Some kept) = subst (λ (o : Option (Bor KeptEntry)). IsItemAt history i o) is at in
    sym (ap (option_map (λ (e : KeptEntry). e.entry)) (slice_get_read history (length history) i kept.now refl it.3.0 it.1))

pub no_entry_behind : (history : List KeptEntry) (i : ℕ) (found : Option (Bor KeptEntry)) → found ≡ None → IsItemAt history i found
    → None ≡ option_map (λ (e : KeptEntry). e.entry) (slice_get history i)
no_entry_behind history i found is at =
    let it : IsItemAt history i None = subst (λ (o : Option (Bor KeptEntry)). IsItemAt history i o) is at in
    sym (ap (option_map (λ (e : KeptEntry). e.entry)) (slice_get_past history i it.3))

both_maps : (o : Option KeptEntry)
    → option_map (λ (e : StampedEntry). e.entry) (option_map abstract_entry o) ≡ option_map (λ (e : KeptEntry). e.entry) o
both_maps None = refl
both_maps (Some e) = refl

-- what a ledger that is there has at an index stands at that place
pub entry_found : (ledgers : List Ledger) (place : EntryPlace) (ledger : Ledger) (history : List KeptEntry) (found : Option Entry)
    → Some ledger ≡ slice_get ledgers place.chain → map abstract_entry history ≡ ledger.history
    → found ≡ option_map (λ (e : KeptEntry). e.entry) (slice_get history place.index) → found ≡ entry_at ledgers place
entry_found ledgers place ledger history found there is at =
    at ∙ sym (both_maps (slice_get history place.index))
    ∙ ap (option_map (λ (e : StampedEntry). e.entry)) (sym (slice_get-map abstract_entry history place.index) ∙ ap (λ (h : List StampedEntry). slice_get h place.index) is)
    ∙ ap (λ (o : Option Ledger). option_map (λ (e : StampedEntry). e.entry) (option_and_then (λ (l : Ledger). slice_get l.history place.index) o)) there

pub no_entry : (ledgers : List Ledger) (place : EntryPlace) → None ≡ slice_get ledgers place.chain → None ≡ entry_at ledgers place
no_entry ledgers place none =
    ap (λ (o : Option Ledger). option_map (λ (e : StampedEntry). e.entry) (option_and_then (λ (l : Ledger). slice_get l.history place.index) o)) none

-- a ledger that is there has as many entries as its history is long
pub as_many_entries : (ledgers : List Ledger) (chain : ℕ) (ledger : Ledger) (history : List KeptEntry) → Some ledger ≡ slice_get ledgers chain
    → map abstract_entry history ≡ ledger.history → length history ≡ entries_of ledgers chain
as_many_entries ledgers chain ledger history there is =
    sym (length-map history abstract_entry) ∙ ap length is
    ∙ ap (λ (o : Option Ledger). option_map_or (λ (l : Ledger). length l.history) o 0) there

pub no_entries : (ledgers : List Ledger) (chain : ℕ) → None ≡ slice_get ledgers chain → 0 ≡ entries_of ledgers chain
no_entries ledgers chain none = ap (λ (o : Option Ledger). option_map_or (λ (l : Ledger). length l.history) o 0) none
