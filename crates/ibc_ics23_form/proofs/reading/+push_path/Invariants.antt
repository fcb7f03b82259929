use Rattle.ibc_ics23_form.proofs.reading.+push_path.Given as goal

abbrev pub decreases-push_path : goal.decreases-push_path
decreases-push_path l = l.most
