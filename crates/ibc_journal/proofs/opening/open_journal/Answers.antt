use Rattle.sqlite.specs.WalFiles.{image_at}
use Rattle.sqlite.specs.Files.{file_state}
use Rattle.ibc_journal.proofs.Restarted.{finds_journal}
use Rattle.ibc_journal.proofs.opening.open_journal.Goals as goal

pub returns-in-Ok-clause-found : goal.returns-in-Ok-clause-found
returns-in-Ok-clause-found g c clean =
    finds_journal (image_at g.S.Start) (file_state c.in-Ok.conn) (c.in-Ok.ensures.opened clean).0 (c.in-Ok.ensures.found clean)
