-- The bytes spell the message, so it has its form.
use Rattle.ibc_node.proofs.keeping.spell_message.Goals as goal

pub returns-clause-ok : goal.returns-clause-ok
returns-clause-ok c = c.in_ok-bytes.ensures.ok.0
