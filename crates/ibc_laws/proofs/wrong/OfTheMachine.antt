-- The further laws, as they are said of the run of any machine, hold of every run of the machine itself. Every run of it
-- has the steps that they are said of.
use Rattle.std.proofs.Common.{◌≡◌, zero, suc, ◌<◌, refl, ap, sym, ◌∙◌, subst, List, [], ◌∷◌, ◌++◌, length, arith, append_assoc, Contains}
use Rattle.ibc_machine.specs.chain.Genesis.{GenesisState}
use Rattle.ibc_machine.specs.chain.Machine.{World}
use Rattle.ibc_machine.specs.promises.Histories.{Happened}
use Rattle.ibc_machine.specs.promises.Laws.{IsPast}
use Rattle.ibc_laws.specs.Moments.{IsMoment}
use Rattle.ibc_laws.specs.Runs.{WorldStep, EachPastHasSteps, FurtherLaw, ReceivedAsSent, TakenAsWritten, SettledAsSent, ReceivedInTime, AcknowledgedInOrder, ClosedIsSilent, TakenOfPeer, PeersAgree, Supplies, Payments, Notes, HoldsOf, HoldOfTheMachine, all_of}
use Rattle.ibc_laws.proofs.steps.Moments.{lemma_each_moment}
use Rattle.ibc_laws.proofs.packets.ReceivedWasSent.{lemma_received_was_sent}
use Rattle.ibc_laws.proofs.packets.TakenAsWritten.{lemma_taken_as_written}
use Rattle.ibc_laws.proofs.ends.SettledWasSent.{lemma_settled_was_sent}
use Rattle.ibc_laws.proofs.ends.ReceivedInTime.{lemma_received_in_time}
use Rattle.ibc_laws.proofs.ends.AcknowledgedInOrder.{lemma_acknowledged_in_order}
use Rattle.ibc_laws.proofs.ends.ClosedIsSilent.{lemma_closed_is_silent}
use Rattle.ibc_laws.proofs.ends.TakenOfPeer.{lemma_taken_of_peer}
use Rattle.ibc_laws.proofs.ends.PeersAgree.{lemma_peers_agree}
use Rattle.ibc_laws.proofs.tokens.Supplies.{lemma_supply_stays, lemma_no_voucher_without_escrow}
use Rattle.ibc_laws.proofs.tokens.WhoIsPaid.{lemma_who_pays, lemma_who_is_paid, lemma_each_balance}
use Rattle.ibc_laws.proofs.notes.StoredNotes.{lemma_notes_are_received, lemma_notes_stay, lemma_notes_were_sent}

-- ---- the steps of a past

module _ (genesis : GenesisState) (happened : List Happened) (world : World) (past : IsPast genesis happened world) where
  abbrev HasItsMoment : WorldStep → Type 0
  HasItsMoment step = (before : List Happened) × IsMoment genesis happened world before step.1 step.0 step.2

  record StepsOf (rest : List Happened) : Type 0 where
    steps : List WorldStep
    all : all_of steps ≡ rest
    each : (step : WorldStep) → Contains steps step → HasItsMoment step

  lemma_one_more : (first : WorldStep) (steps : List WorldStep) → HasItsMoment first → ((step : WorldStep) → Contains steps step → HasItsMoment step)
      → (step : WorldStep) → Contains (first ∷ steps) step → HasItsMoment step
  lemma_one_more first steps own each step (zero, lt, e) = subst HasItsMoment e own
  lemma_one_more first steps own each step (suc k, lt, e) = each step (k, (let l : suc k < length (first ∷ steps) = lt in omega arith), e)

  lemma_steps_behind : (before rest : List Happened) → happened ≡ before ++ rest → StepsOf rest
  lemma_steps_behind before [] is = record { steps = []; all = refl; each = λ step among. absurd (let lt = among.1 in omega arith) }
  lemma_steps_behind before (h ∷ rest) is =
      let moment = lemma_each_moment genesis happened world before h rest past is in
      let behind = lemma_steps_behind (before ++ h ∷ []) rest (is ∙ sym (append_assoc before (h ∷ []) rest)) in
      record {
        steps = (moment.0, h, moment.1) ∷ behind.steps;
        all = ap (λ hs. h ∷ hs) behind.all;
        each = lemma_one_more (moment.0, h, moment.1) behind.steps (before, moment.2) behind.each;
      }

pub lemma_each_past_has_steps : EachPastHasSteps
lemma_each_past_has_steps genesis happened world past =
    let all = lemma_steps_behind genesis happened world past [] happened refl in
    (all.steps, record { all = all.all; each = all.each })

-- ---- the laws

pub lemma_hold_of_the_machine : HoldOfTheMachine
lemma_hold_of_the_machine law genesis happened world steps past moments =
    go law (subst (λ (hs : List Happened). IsPast genesis hs world) (sym moments.all) past)
  where
    go : (law : FurtherLaw) → IsPast genesis (all_of steps) world → HoldsOf law genesis steps world
    go ReceivedAsSent past = λ e f mine p peers own has. lemma_received_was_sent genesis (all_of steps) world e f past peers mine p own has
    go TakenAsWritten past = λ e f p ack peers has. lemma_taken_as_written genesis (all_of steps) world e f past peers p ack has
    go SettledAsSent past = lemma_settled_was_sent genesis (all_of steps) world past
    go ReceivedInTime past = λ step among.
        let m = moments.each step among in lemma_received_in_time genesis happened world m.0 step.1 step.0 step.2 m.1
    go AcknowledgedInOrder past = lemma_acknowledged_in_order genesis (all_of steps) world past
    go ClosedIsSilent past = λ step among.
        let m = moments.each step among in lemma_closed_is_silent genesis happened world m.0 step.1 step.0 step.2 m.1
    go TakenOfPeer past = lemma_taken_of_peer genesis (all_of steps) world past
    go PeersAgree past = λ e f mine theirs peers own other. lemma_peers_agree genesis (all_of steps) world e f past peers mine theirs own other
    go Supplies past = record {
      stays = λ chain denom base. lemma_supply_stays genesis (all_of steps) world chain denom past base;
      backed = λ chain denom some. lemma_no_voucher_without_escrow genesis (all_of steps) world chain denom past some;
    }
    go Payments past = record {
      who_pays = λ step chain user denom among is.
          let m = moments.each step among in lemma_who_pays genesis happened world m.0 step.1 step.0 step.2 chain user denom m.1 is;
      who_is_paid = λ step chain user denom among is.
          let m = moments.each step among in lemma_who_is_paid genesis happened world m.0 step.1 step.0 step.2 chain user denom m.1 is;
      each_balance = λ chain user denom is. lemma_each_balance genesis (all_of steps) world chain user denom past is;
    }
    go Notes past = record {
      are_received = λ chain channel. lemma_notes_are_received genesis (all_of steps) world chain channel past;
      stay = λ step chain channel among.
          let m = moments.each step among in lemma_notes_stay genesis happened world m.0 step.1 step.0 step.2 chain channel m.1;
      were_sent = λ e f mine peers port own. lemma_notes_were_sent genesis (all_of steps) world e f past peers mine port own;
    }
