-- The further laws in a computed run of two chains, each by its test; and all but one by one test.
use Rattle.std.proofs.Common.{◌≡◌, ℕ, Bool, true, refl, subst, List, [], ◌∷◌, Some, inl, inr, ◌==◌, ◌||◌, eqb-true, slice_get, codes}
use Rattle.std.specs.List.{list_all}
use Rattle.ibc_machine.specs.chain.Genesis.{GenesisState}
use Rattle.ibc_machine.specs.chain.Machine.{World}
use Rattle.ibc_laws.specs.Runs.{WorldStep, all_of, FurtherLaw, HoldsOf, ReceivedAsSent, TakenAsWritten, SettledAsSent, ReceivedInTime, AcknowledgedInOrder, ClosedIsSilent, TakenOfPeer, PeersAgree, Supplies, Payments, Notes}
use Rattle.ibc_laws.proofs.basics.PassedTests.{either}
use Rattle.ibc_laws.proofs.basics.Lists.{lemma_got_contains}
use Rattle.ibc_laws.proofs.basics.ListPlaces.{some_is}
use Rattle.ibc_laws.proofs.basics.ListTests.{lemma_passes}
use Rattle.ibc_laws.proofs.wrong.EachEnd.{each_end, each_pair}
use Rattle.ibc_laws.proofs.wrong.TestedPackets.{received_as_sent, lemma_received_as_sent, taken_as_written, lemma_taken_as_written, settles_as_sent, lemma_settles_as_sent, comes_in_time, lemma_comes_in_time, acknowledges_in_order, lemma_acknowledges_in_order, finds_none_closed, lemma_finds_none_closed, takes_of_peers, lemma_takes_of_peers, agree, lemma_agree}
use Rattle.ibc_laws.proofs.wrong.TestedTokens.{keeps_supplies, lemma_keeps_supplies, pays_as_named, lemma_pays_as_named}
use Rattle.ibc_laws.proofs.wrong.TestedNotes.{keeps_notes, lemma_keeps_notes}

-- ---- each law by its test; vouchers are asked for over first channels

abbrev pub passes : FurtherLaw → GenesisState → List WorldStep → World → Bool
passes ReceivedAsSent genesis steps world = each_pair world (received_as_sent (all_of steps))
passes TakenAsWritten genesis steps world = each_pair world (taken_as_written (all_of steps))
passes SettledAsSent genesis steps world = settles_as_sent world (all_of steps)
passes ReceivedInTime genesis steps world = list_all comes_in_time steps
passes AcknowledgedInOrder genesis steps world = each_end world (acknowledges_in_order (all_of steps))
passes ClosedIsSilent genesis steps world = list_all finds_none_closed steps
passes TakenOfPeer genesis steps world = takes_of_peers world (all_of steps)
passes PeersAgree genesis steps world = each_pair world agree
passes Supplies genesis steps world = keeps_supplies genesis world (codes "channel-0")
passes Payments genesis steps world = pays_as_named genesis steps world
passes Notes genesis steps world = keeps_notes steps world

lemma_holds : (law : FurtherLaw) (genesis : GenesisState) (steps : List WorldStep) (world : World) → passes law genesis steps world ≡ true
    → HoldsOf law genesis steps world
lemma_holds ReceivedAsSent genesis steps world passed = lemma_received_as_sent world (all_of steps) passed
lemma_holds TakenAsWritten genesis steps world passed = lemma_taken_as_written world (all_of steps) passed
lemma_holds SettledAsSent genesis steps world passed = lemma_settles_as_sent world (all_of steps) passed
lemma_holds ReceivedInTime genesis steps world passed = lemma_comes_in_time steps passed
lemma_holds AcknowledgedInOrder genesis steps world passed = lemma_acknowledges_in_order world (all_of steps) passed
lemma_holds ClosedIsSilent genesis steps world passed = lemma_finds_none_closed steps passed
lemma_holds TakenOfPeer genesis steps world passed = lemma_takes_of_peers world (all_of steps) passed
lemma_holds PeersAgree genesis steps world passed = lemma_agree world passed
lemma_holds Supplies genesis steps world passed = lemma_keeps_supplies genesis world (codes "channel-0") passed
lemma_holds Payments genesis steps world passed = lemma_pays_as_named genesis steps world passed
lemma_holds Notes genesis steps world passed = lemma_keeps_notes steps world passed

-- ---- the laws in a list

abbrev pub every_law : List FurtherLaw
every_law = ReceivedAsSent ∷ TakenAsWritten ∷ SettledAsSent ∷ ReceivedInTime ∷ AcknowledgedInOrder ∷ ClosedIsSilent ∷ TakenOfPeer ∷ PeersAgree
    ∷ Supplies ∷ Payments ∷ Notes ∷ []

-- a law's place there
abbrev pub place_of : FurtherLaw → ℕ
place_of ReceivedAsSent = 0
place_of TakenAsWritten = 1
place_of SettledAsSent = 2
place_of ReceivedInTime = 3
place_of AcknowledgedInOrder = 4
place_of ClosedIsSilent = 5
place_of TakenOfPeer = 6
place_of PeersAgree = 7
place_of Supplies = 8
place_of Payments = 9
place_of Notes = 10

lemma_at_place : (law : FurtherLaw) → slice_get every_law (place_of law) ≡ Some law
lemma_at_place ReceivedAsSent = refl
lemma_at_place TakenAsWritten = refl
lemma_at_place SettledAsSent = refl
lemma_at_place ReceivedInTime = refl
lemma_at_place AcknowledgedInOrder = refl
lemma_at_place ClosedIsSilent = refl
lemma_at_place TakenOfPeer = refl
lemma_at_place PeersAgree = refl
lemma_at_place Supplies = refl
lemma_at_place Payments = refl
lemma_at_place Notes = refl

lemma_same_law : (a b : FurtherLaw) → (place_of a == place_of b) ≡ true → a ≡ b
lemma_same_law a b same =
    some_is (subst (λ (n : ℕ). slice_get every_law n ≡ Some a) (eqb-true (place_of a) (place_of b) same) (lemma_at_place a)) (lemma_at_place b)

-- ---- all but one

abbrev pub passes_unless : FurtherLaw → GenesisState → List WorldStep → World → FurtherLaw → Bool
passes_unless law genesis steps world other = (place_of other == place_of law) || passes other genesis steps world

abbrev pub passes_all_but : FurtherLaw → GenesisState → List WorldStep → World → Bool
passes_all_but law genesis steps world = list_all (passes_unless law genesis steps world) every_law

pub lemma_others_hold : (law : FurtherLaw) (genesis : GenesisState) (steps : List WorldStep) (world : World) → passes_all_but law genesis steps world ≡ true
    → (other : FurtherLaw) → ¬ (other ≡ law) → HoldsOf other genesis steps world
lemma_others_hold law genesis steps world all other apart =
    elim (either (place_of other == place_of law) (passes other genesis steps world)
    (lemma_passes (passes_unless law genesis steps world) every_law other all (lemma_got_contains every_law (place_of other) other (lemma_at_place other)))) [
      | inl same ↦ absurd (apart (lemma_same_law other law same))
      | inr passed ↦ lemma_holds other genesis steps world passed
    ]
