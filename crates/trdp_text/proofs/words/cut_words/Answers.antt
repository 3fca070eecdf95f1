use Rattle.std.proofs.Common.{rules}
use Rattle.std.proofs.lemmas.Bool.{eqb-true}
use Rattle.trdp_text.proofs.ReadLemmas.Words.{more_cut, last_cut, full_cut}
use Rattle.trdp_text.proofs.words.cut_words.Goals as goal

pub loop-rest-preserved : goal.loop-rest-preserved
loop-rest-preserved c =
    more_cut 15 c.loop-rest.words.items _ c.in-Some.word _ c.in-Some.behind.now _
    c.push.ensures.items c.in-Some.ensures c.loop-rest.invariant

pub returns-in-None : goal.returns-in-None
returns-in-None c =
    last_cut 15 c.loop-rest.words.items _ c.loop-rest.rest _ c.push-in-None.ensures.items
    c.in-None.ensures c.is_full.ensures.fits (search rules) c.loop-rest.invariant

pub returns : goal.returns
returns c =
    full_cut 15 c.loop-rest.words.items c.loop-rest.rest.now _ (eqb-true _ 15 (search rules))
    c.loop-rest.invariant
