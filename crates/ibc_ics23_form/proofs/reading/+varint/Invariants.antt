use Rattle.ibc_ics23_form.proofs.reading.+varint.Given as goal

abbrev pub decreases-varint : goal.decreases-varint
decreases-varint l = l.more
