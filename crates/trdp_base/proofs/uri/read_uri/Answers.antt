use Rattle.std.proofs.Common.{refl, rules}
use Rattle.std.proofs.lemmas.Bool.{false≢true}
use Rattle.trdp_base.proofs.HexLemmas.{no_text}
use Rattle.trdp_base.proofs.UriLemmas.{too_long, uri_alone}
use Rattle.trdp_base.proofs.uri.read_uri.Goals.{then-text-via-then-text}
use Rattle.trdp_base.proofs.uri.read_uri.Goals.{then-text-via-else-text+then-not-is_in_pairs}
use Rattle.trdp_base.proofs.uri.read_uri.Goals as goal

pub returns-then-text-clause-bad : goal.returns-then-text-clause-bad
returns-then-text-clause-bad c =
    let dash = c.if-is_dash.ensures.1 in (
      refl,
      λ uri. elim c.then-text.branch [
        | then-text-via-then-text w ↦ too_long c.args.text.now uri.0 w.if-text.true uri.1 uri.3
        | then-text-via-else-text+then-not-is_in_pairs w ↦
            let pairs = w.if-not-is_in_pairs.ensures.1 in
            no_text c.args.text.now (λ e. false≢true (dash e))
            (λ e. false≢true (pairs e)) (uri.0, uri.2, uri.3)
      ],
    )

pub returns-then-text-clause-found : goal.returns-then-text-clause-found
returns-then-text-clause-found c = λ uri good fits e.
    absurd ((returns-then-text-clause-bad c).1 (uri, good, fits, e))

pub returns-clause-found : goal.returns-clause-found
returns-clause-found c = λ uri good fits e.
    let read = c.uri_of_pairs.ensures in
    let found = uri_alone c.args.text.now uri c.uri_of_pairs.result
    (c.if-not-is_in_pairs.ensures.0 refl) read.value read.bytes read.none good fits e in
    rw found at c.ok_or.ensures.value

pub returns-then-is_dash-clause-value : goal.returns-then-is_dash-clause-value
returns-then-is_dash-clause-value c = search rules

pub returns-then-is_dash-clause-found : goal.returns-then-is_dash-clause-found
returns-then-is_dash-clause-found c = search rules
