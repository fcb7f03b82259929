-- What the checks and the application say is what becomes of the message.
use Rattle.ibc_records.proofs.TakenPackets.{refused_message, close_refused, close_given, time_out_taken}
use Rattle.ibc_records.proofs.timing_out_on_close.timeout_on_close_with.Goals as goal

pub returns-in_err-judge : goal.returns-in_err-judge
returns-in_err-judge g c = λ chain chains seen state knowledge.
    refused_message _ c.args.records.now c.args.app.now c.from_residual.result c.from_residual.ensures.1 (close_refused _ _ _ _ _ _ (c.in_err-judge.ensures.judged chain chains seen state knowledge))

pub returns : goal.returns
returns g c = λ chain chains seen state knowledge.
    time_out_taken g.A.App.times_out c.args.records.now c.args.app.now c.args.message.now.packet _ c.in_ok-judge.field-0.now
    (close_given _ _ _ _ _ _ _ (c.in_ok-judge.ensures.judged chain chains seen state knowledge)) c.in_ok-judge.ensures.there
    c.time_out.result c.time_out.new.self c.time_out.new.app c.time_out.ensures.ok c.time_out.ensures.err c.time_out.ensures.unchanged
