-- Nothing is written before the journal has it.
use Rattle.std.proofs.Common.{[], ◌++◌, inl, inr, refl, sym, ap, ◌∙◌, subst, append-nil}
use Rattle.sqlite.specs.Held.{state}
use Rattle.ibc_node.specs.Nodes.{TellsOn}
use Rattle.ibc_node.proofs.Told.{tells_same}
use Rattle.ibc_node_lines.specs.Told.{answers_in}
use Rattle.ibc_node_lines.proofs.serving.Server.settle.Goals as goal

pub returns-in_err-settle-clause-told : goal.returns-in_err-settle-clause-told
returns-in_err-settle-clause-told g c genesis items rest beside clean = inl refl

pub returns-in_err-write_told-clause-told : goal.returns-in_err-write_told-clause-told
returns-in_err-write_told-clause-told g c genesis items rest beside clean = inr (c.in_ok-settle.ensures.committed genesis items rest beside clean)

pub returns-clause-told : goal.returns-clause-told
returns-clause-told g c genesis items rest beside clean = inr (c.in_ok-settle.ensures.committed genesis items rest beside clean)

pub returns-clause-written : goal.returns-clause-written
returns-clause-written g c = c.in_ok-write_told.ensures

pub returns-clause-serves : goal.returns-clause-serves
returns-clause-serves g c =
    let shows = state g.S.Store in
    let old = c.args.self.now.desk.node in
    let new = c.settle.new.self in
    let told = c.args.self.now.told.items in
    let written = c.in_ok-write_told.ensures in
    record {
      lines = told;
      text = written.0;
      texts = written.1;
      written = written.2;
      more = [];
      order = ap (λ l. told ++ l) c.clear.ensures.items;
      fair = tt;
      tells = subst (λ l. TellsOn shows old (answers_in told) new (answers_in l)) (sym (ap (λ l. told ++ l) c.clear.ensures.items ∙ append-nil told))
          (tells_same shows old new (answers_in told) c.in_ok-settle.ensures.keeps);
    }
