-- The packet that is taken out is the one that was found.
use Rattle.std.proofs.Common.{◌≡◌, ◌<◌, ℕ, Option, Some, None, List, length, sym, ap, ◌∙◌, arith, slice_get}
use Rattle.std.specs.Prelude.{option_and_then, position, remove}
use Rattle.std.specs.Option.{option_map_or}
use Rattle.std.proofs.lemmas.List.Quantifiers.{position-Some}
use Rattle.std.proofs.lemmas.Option.{slice_get_read}
use Rattle.ibc_run_notes.specs.Flights.{is_flight}
use Rattle.ibc_run_notes.specs.declared.flights.Flight.{Flight}
use Rattle.ibc_run_notes.proofs.flights.taken_out.Goals as goal

-- some packet
any_flight : Flight
any_flight = record { end = 0; to = 0; sequence = 0; timeout_height = 0; timeout_time = 0 }

pub remove-requires : goal.remove-requires
remove-requires c =
    let list : List Flight = c.as_slice.result.now in
    let here : c.in-Some.place < length list =
    (position-Some (is_flight c.args.end c.args.sequence) list c.in-Some.place any_flight (sym c.place_of.ensures ∙ c.in-Some.is)).0 in
    omega (arith, here, c.as_slice.ensures.len)

pub returns-in-Some-clause-taken : goal.returns-in-Some-clause-taken
returns-in-Some-clause-taken c =
    let test = is_flight c.args.end c.args.sequence in
    let list : List Flight = c.as_slice.result.now in
    let flights : List Flight = c.args.flights.now.items in
    let found : position test flights ≡ Some c.in-Some.place = ap (position test) (sym c.as_slice.ensures.value) ∙ sym c.place_of.ensures ∙ c.in-Some.is in
    let here : c.in-Some.place < length list = (position-Some test list c.in-Some.place any_flight (sym c.place_of.ensures ∙ c.in-Some.is)).0 in
    let there = slice_get_read flights (length list) c.in-Some.place c.remove.result (ap length c.as_slice.ensures.value) here c.remove.ensures.value in
    sym there ∙ sym (ap (option_and_then (slice_get flights)) found)

pub returns-in-Some-clause-rest : goal.returns-in-Some-clause-rest
returns-in-Some-clause-rest c =
    let test = is_flight c.args.end c.args.sequence in
    let flights : List Flight = c.args.flights.now.items in
    let found : position test flights ≡ Some c.in-Some.place = ap (position test) (sym c.as_slice.ensures.value) ∙ sym c.place_of.ensures ∙ c.in-Some.is in
    c.remove.ensures.items ∙ sym (ap (λ (place : Option ℕ). option_map_or (remove flights) place flights) found)

pub returns-in-None-clause-taken : goal.returns-in-None-clause-taken
returns-in-None-clause-taken c =
    let test = is_flight c.args.end c.args.sequence in
    let flights : List Flight = c.args.flights.now.items in
    let none : position test flights ≡ None = ap (position test) (sym c.as_slice.ensures.value) ∙ sym c.place_of.ensures ∙ c.in-None.is in
    sym (ap (option_and_then (slice_get flights)) none)

pub returns-in-None-clause-rest : goal.returns-in-None-clause-rest
returns-in-None-clause-rest c =
    let test = is_flight c.args.end c.args.sequence in
    let flights : List Flight = c.args.flights.now.items in
    let none : position test flights ≡ None = ap (position test) (sym c.as_slice.ensures.value) ∙ sym c.place_of.ensures ∙ c.in-None.is in
    sym (ap (λ (place : Option ℕ). option_map_or (remove flights) place flights) none)
