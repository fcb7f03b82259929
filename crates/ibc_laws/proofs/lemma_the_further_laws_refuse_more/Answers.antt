use Rattle.ibc_laws.proofs.wrong.OfTheMachine.{lemma_each_past_has_steps, lemma_hold_of_the_machine}
use Rattle.ibc_laws.proofs.wrong.Forged.{lemma_forged}
use Rattle.ibc_laws.proofs.wrong.Unwritten.{lemma_unwritten}
use Rattle.ibc_laws.proofs.wrong.Reworded.{lemma_reworded}
use Rattle.ibc_laws.proofs.wrong.Late.{lemma_late}
use Rattle.ibc_laws.proofs.wrong.LeftOut.{lemma_left_out}
use Rattle.ibc_laws.proofs.wrong.Woken.{lemma_woken}
use Rattle.ibc_laws.proofs.wrong.Peerless.{lemma_peerless}
use Rattle.ibc_laws.proofs.wrong.TwoVersions.{lemma_two_versions}
use Rattle.ibc_laws.proofs.wrong.Gifts.{lemma_gifts}
use Rattle.ibc_laws.proofs.wrong.Robbed.{lemma_robbed}
use Rattle.ibc_laws.proofs.wrong.Misdirected.{lemma_misdirected}
use Rattle.ibc_laws.proofs.wrong.Misrefunded.{lemma_misrefunded}
use Rattle.ibc_laws.proofs.wrong.OtherNote.{lemma_other_note}
use Rattle.ibc_laws.proofs.lemma_the_further_laws_refuse_more.Goals as goal

pub returns : goal.returns
returns c = record {
  steps_of_the_machine = lemma_each_past_has_steps;
  of_the_machine = lemma_hold_of_the_machine;
  forged = lemma_forged;
  unwritten = lemma_unwritten;
  reworded = lemma_reworded;
  late = lemma_late;
  left_out = lemma_left_out;
  woken = lemma_woken;
  peerless = lemma_peerless;
  two_versions = lemma_two_versions;
  gifts = lemma_gifts;
  robbed = lemma_robbed;
  misdirected = lemma_misdirected;
  misrefunded = lemma_misrefunded;
  other_note = lemma_other_note;
}
