use Rattle.std.proofs.Common.{refl, rules}
use Rattle.std.proofs.lemmas.Bool.{false≢true}
use Rattle.trdp_base.proofs.HexLemmas.{no_text, read_alone, pairs_are_text}
use Rattle.trdp_base.proofs.hex.read_hex_into.Goals as goal

pub returns-then-not-is_in_pairs-clause-bad : goal.returns-then-not-is_in_pairs-clause-bad
returns-then-not-is_in_pairs-clause-bad c =
    let dash = c.if-is_dash.ensures.1 in
    let pairs = c.if-not-is_in_pairs.ensures.1 in (
      λ _ hex. no_text c.args.text.now (λ e. false≢true (dash e)) (λ e. false≢true (pairs e)) hex,
      λ _. refl,
    )

pub returns-clause-found : goal.returns-clause-found
returns-clause-found c = λ bytes fits e.
    let pairs = c.if-not-is_in_pairs.ensures.0 refl in
    read_alone c.args.text.now _ bytes pairs c.in_ok-read_pairs.ensures.pairs
    c.in_ok-read_pairs.ensures.bytes fits e

pub returns-then-not-is_in_pairs-clause-succeeds : goal.returns-then-not-is_in_pairs-clause-succeeds
returns-then-not-is_in_pairs-clause-succeeds c = λ hex _.
    let dash = c.if-is_dash.ensures.1 in
    let pairs = c.if-not-is_in_pairs.ensures.1 in
    absurd (no_text c.args.text.now (λ e. false≢true (dash e)) (λ e. false≢true (pairs e)) hex)

pub returns-in_err-read_pairs-clause-bad : goal.returns-in_err-read_pairs-clause-bad
returns-in_err-read_pairs-clause-bad c =
    let pairs = c.if-not-is_in_pairs.ensures.0 refl in
    (λ same _. search rules, λ none. absurd (none (pairs_are_text c.args.text.now pairs)))

pub returns-clause-bad : goal.returns-clause-bad
returns-clause-bad c =
    let pairs = c.if-not-is_in_pairs.ensures.0 refl in
    (λ same _. search rules, λ none. absurd (none (pairs_are_text c.args.text.now pairs)))
