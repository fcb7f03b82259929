use Rattle.ibc_ledger.proofs.Common.{refl, sym, subst, IfSome, height_of, reading_fits, TableName, host_with, ◌≡◌, true}
use Rattle.ibc_ledger.proofs.host_state.HostState.update_client.Goals as goal

pub returns-clause-answer : goal.returns-clause-answer
returns-clause-answer c =
    let updated = c.update-updated.result in
    record {
      same = refl;
      result = updated.result;
      told = c.of_nothing.ensures;
      updated = λ state. c.update-updated.ensures.answer (host_with c.args.self.now.number c.args.self.now.chains c.args.self.now.records) state;
      looks = c.update-updated.ensures.looks;
      fits = subst (λ (table : TableName). IfSome updated.reading (λ r. reading_fits table.shape.window (height_of c.args.message.now.header.chain c.update-updated.new.pass.seen) c.args.message.now.header.height r ≡ true)) (sym c.requires)
          c.update-updated.ensures.fits;
      was_so = c.update-updated.ensures.read;
    }
