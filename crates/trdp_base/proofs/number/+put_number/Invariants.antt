use Rattle.trdp_base.proofs.number.+put_number.Given as goal

abbrev pub decreases-put_number : goal.decreases-put_number
decreases-put_number l = l.number
