-- Lists that are reported, one addition after another.
-- For all lemmas on what is asked of sockets, of a folder, of connections and at a link, and on
-- what is written to a stream.
-- By cases on whether the lists are reported.
use Rattle.std.proofs.Common.{◌++◌, List, [], Option, Some, None, sym, ◌∙◌, ap, append_assoc}
use Rattle.std.proofs.Common.{append-nil}
use Rattle.trdp_base.specs.Reported.{TellsMore}

-- nothing was added
pub adds_none : {X : Type 0} (told : Option (List X)) → TellsMore told told []
adds_none None = tt
adds_none (Some xs) = sym (append-nil xs)

-- what was added, and then what was added to that
pub adds_both : {X : Type 0} (a b c : Option (List X)) (xs ys : List X) → TellsMore a b xs
    → TellsMore b c ys → TellsMore a c (xs ++ ys)
adds_both a b None xs ys p q = tt
adds_both a None (Some zs) xs ys p q = absurd q
adds_both None (Some ws) (Some zs) xs ys p q = absurd p
adds_both (Some vs) (Some ws) (Some zs) xs ys p q =
    q ∙ ap (λ l. l ++ ys) p ∙ append_assoc vs xs ys
