-- What came and went at a link, one thing after another.
-- For `Link::miss`, and for all lemmas on visits, turns and tellings.
-- By: what is carried by two things one after another is both of it, in that order.
use Rattle.std.proofs.Common.{◌≡◌, zero, suc, ◌+◌, ◌-◌, ◌^◌, min, ℕ, Bool, List, []}
use Rattle.std.proofs.Common.{◌++◌, length, map, Option, refl, sym, ◌∙◌}
use Rattle.std.proofs.Common.{ap, subst, arith, length-append}
use Rattle.std.specs.Prelude.{filter}
use Rattle.std.proofs.lemmas.List.{map-append}
use Rattle.std.proofs.lemmas.List.Elements.{filter-append}
use Rattle.trdp_base.proofs.ReportedLemmas.{adds_none, adds_both}
use Rattle.trdp_daemon.specs.declared.link.Link.{Link}
use Rattle.trdp_daemon.specs.declared.totals.Totals.{Totals}
use Rattle.trdp_base.specs.Reported.{TellsMore}
use Rattle.trdp_wire.specs.Told.{Taking, Give, has_come, has_failed}
use Rattle.trdp_daemon.specs.Counting.{counted, totals_after}
use Rattle.trdp_daemon.specs.Effects.{Telling, silence, both}
use Rattle.trdp_daemon.specs.Links.{Carries}

counted_both : (n a b : ℕ) → counted (counted n a) b ≡ counted n (a + b)
counted_both n zero b = let same : b ≡ 0 + b = omega arith in ap (counted n) same
counted_both n (suc a) b =
    let next : suc (a + b) ≡ suc a + b = omega arith in
    counted_both (min (n + 1) (2 ^ 64 - 1)) a b ∙ ap (counted n) next

so_many_in : {X : Type 0} (p : X → Bool) (xs ys : List X)
    → length (filter p (xs ++ ys)) ≡ length (filter p xs) + length (filter p ys)
so_many_in p xs ys = ap length (filter-append p xs ys) ∙ length-append (filter p xs) (filter p ys)

counted_more : {X : Type 0} (p : X → Bool) (n : ℕ) (xs ys : List X)
    → counted (counted n (length (filter p xs))) (length (filter p ys))
    ≡ counted n (length (filter p (xs ++ ys)))
counted_more p n xs ys = counted_both n (length (filter p xs)) (length (filter p ys))
    ∙ ap (counted n) (sym (so_many_in p xs ys))

pub totals_both : (t : Totals) (ts us : List Taking) (gs hs : List Give) (m n : ℕ)
    → totals_after (totals_after t ts gs m) us hs n ≡ totals_after t (ts ++ us) (gs ++ hs) (m + n)
totals_both t ts us gs hs m n =
    let taken = counted_more (λ x. has_come x.arrived) t.taken ts us in
    let unread = counted_more (λ x. has_failed x.arrived) t.unread ts us in
    let lost = counted_more (λ x. x.failed) t.lost gs hs in
    let offered = counted_both t.offered (length gs) (length hs)
    ∙ ap (counted t.offered) (sym (length-append gs hs)) in
    let memory = counted_both t.memory m n in
    cc

-- nothing came and went
pub carries_none : {W : Type 0} (takings_in : W → Option (List Taking))
    (gives_in : W → Option (List Give)) (l : Link W) → Carries takings_in gives_in l l [] silence
carries_none takings_in gives_in l = record {
  gives = [];
  offers = refl;
  takes = adds_none (takings_in l.wire);
  given = adds_none (gives_in l.wire);
  totals = refl;
}

-- one thing after another
unfoldable pub carries_both : {W : Type 0} {takings_in : W → Option (List Taking)}
    {gives_in : W → Option (List Give)} {a b c : Link W} {ts us : List Taking} {x y : Telling}
    → Carries takings_in gives_in a b ts x → Carries takings_in gives_in b c us y
    → Carries takings_in gives_in a c (ts ++ us) (both x y)
carries_both {W} {takings_in} {gives_in} {a} {b} {c} {ts} {us} {x} {y} p q = record {
  gives = p.gives ++ q.gives;
  offers = map-append (λ g. g.offer) p.gives q.gives
      ∙ ap (λ l. l ++ map (λ g. g.offer) q.gives) p.offers ∙ ap (λ l. x.offers ++ l) q.offers;
  takes =
      adds_both (takings_in a.wire) (takings_in b.wire) (takings_in c.wire) ts us p.takes q.takes;
  given = adds_both (gives_in a.wire) (gives_in b.wire)
      (gives_in c.wire) p.gives q.gives p.given q.given;
  totals = q.totals ∙ ap (λ t. totals_after t us q.gives y.missed) p.totals
      ∙ totals_both a.totals ts us p.gives q.gives x.missed y.missed;
}

-- the same takes and offers
unfoldable pub carries_as : {W : Type 0} {takings_in : W → Option (List Taking)}
    {gives_in : W → Option (List Give)} {a b : Link W} {ts us : List Taking} {x y : Telling}
    → Carries takings_in gives_in a b ts x → ts ≡ us → x ≡ y
    → Carries takings_in gives_in a b us y
carries_as {W} {takings_in} {gives_in} {a} {b} {ts} {us} {x} {y} p takes is = record {
  gives = p.gives;
  offers = p.offers ∙ ap (λ t. t.offers) is;
  takes = subst (λ (l : List Taking). TellsMore (takings_in a.wire) (takings_in b.wire) l)
      takes p.takes;
  given = p.given;
  totals = p.totals ∙ ap (λ l. totals_after a.totals l p.gives x.missed) takes
      ∙ ap (λ t. totals_after a.totals us p.gives t.missed) is;
}
