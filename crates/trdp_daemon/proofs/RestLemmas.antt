-- Turns with rests between them, one after another.
-- For `Daemon::attend` and `timed_turn`.
-- By a loop's invariant: the turns so far are early, and a rest changes nothing of them.
use Rattle.std.proofs.Common.{◌≡◌, suc, ◌+◌, ◌<◌, ◌≤◌, ℕ, List, [], ◌∷◌, ◌++◌, Option, refl, sym}
use Rattle.std.proofs.Common.{◌∙◌, ap, subst, map, length, arith, append_assoc, ◌||◌, false}
use Rattle.std.proofs.Common.{nat_le, ◌⊎◌, inl, inr, ◌^◌, ◌-◌}
use Rattle.std.specs.List.{list_any, flat_map}
use Rattle.std.proofs.lemmas.List.{map-append}
use Rattle.std.proofs.lemmas.List.Folds.{list_any-append}
use Rattle.trdp_dataset.specs.Configs.{ConfigModel}
use Rattle.trdp_base.specs.Reported.{TellsMore}
use Rattle.trdp_wire.specs.Told.{Taking, Give}
use Rattle.trdp_daemon.specs.Daemons.{DaemonState, TakesTurns, HasServed}
use Rattle.trdp_daemon.specs.Turns.{Turn, takings_of}
use Rattle.trdp_daemon.specs.Resting.{Rests, TakesTurnAt, TakesEarly, TakesLast, AttendsUntil}
use Rattle.trdp_daemon.specs.Resting.{RestsBehind, ServesUntil, reading_behind, last_reading}
use Rattle.trdp_daemon.specs.declared.link.Link.{Link}
use Rattle.trdp_wire.specs.declared.port.Port.{Port}
use Rattle.trdp_daemon.specs.declared.service.Service.{Service}
use Rattle.trdp_wire.specs.Ports.{ports_of}
use Rattle.trdp_daemon.specs.Services.{TakesTurn}
use Rattle.trdp_daemon.proofs.DaemonLemmas.{daemon_of, one_turn, no_turns, turns_both, served_on}
use Rattle.trdp_daemon.proofs.DaemonLemmas.{served, from_first}

-- the reading of the last of some turns is that of the turn that was added
behind_push : (reading : ℕ) (turns : List Turn) (turn : Turn)
    → reading_behind reading (turns ++ turn ∷ []) ≡ turn.reading
behind_push reading [] turn = refl
behind_push reading (first ∷ turns) turn = behind_push first.reading turns turn

-- turns before some turns have no part in the last reading
behind_more : (reading : ℕ) (turns more : List Turn) → 0 < length more
    → reading_behind reading (turns ++ more) ≡ last_reading more
behind_more reading turns [] some = absurd (omega (arith, some))
behind_more reading [] (turn ∷ more) some = refl
behind_more reading (first ∷ turns) (turn ∷ more) some =
    behind_more first.reading turns (turn ∷ more) some

-- the same where these turns were added after others
last_push : {reading : ℕ} (first turns : List Turn) (turn : Turn) (more : List Turn)
    → more ≡ turn ∷ [] → turn.reading ≡ reading
    → reading ≡ last_reading (first ++ (turns ++ more))
last_push first turns turn more one same =
    sym (ap (λ l. last_reading (first ++ (turns ++ l))) one
    ∙ ap last_reading (sym (append_assoc first turns (turn ∷ [])))
    ∙ behind_push 0 (first ++ turns) turn ∙ same)

-- one turn, with its reading
pub turn_at : {W C : Type 0} {takings_in : W → Option (List Taking)}
    {gives_in : W → Option (List Give)} {readings_in : C → Option (List ℕ)}
    (s t : Service) (a b : Link W) (x y : C) (ports : List Port) (reading : ℕ)
    → ports ≡ ports_of s.node.config → t.node.config ≡ s.node.config
    → TellsMore (readings_in x) (readings_in y) (reading ∷ [])
    → TakesTurn takings_in gives_in s t a b ports reading
    → TakesTurnAt takings_in gives_in readings_in reading (daemon_of s a x) (daemon_of t b y)
unfolding one_turn
turn_at s t a b x y ports reading named config read p = record {
  taken = one_turn s t a b x y ports reading named config read p;
  turn = p.turn;
  turn_is = refl;
  reading_is = p.reading_is;
}

-- a rest after turns changes nothing of them
unfoldable turns_rest : {W C : Type 0} {takings_in : W → Option (List Taking)}
    {gives_in : W → Option (List Give)} {rested_in : W → W → ℕ → Type 0}
    {readings_in : C → Option (List ℕ)}
    {n reading until : ℕ} {a b c : DaemonState W C}
    → TakesTurns takings_in gives_in readings_in n a b
    → Rests takings_in gives_in rested_in reading until b c
    → TakesTurns takings_in gives_in readings_in n a c
turns_rest {W} {C} {takings_in} {gives_in} {readings_in = readings_in} {n} {a} {b} {c} p q = record {
  turns = p.turns;
  gives = p.gives;
  count = p.count;
  ports = p.ports;
  read = subst (λ (k : C). TellsMore (readings_in a.clock) (readings_in k)
      (map (λ t. t.reading) p.turns)) (sym q.clock) p.read;
  took = subst (λ (l : Option (List Taking)).
      TellsMore (takings_in a.wire) l (flat_map takings_of p.turns)) (sym q.takes_nothing) p.took;
  gave = subst (λ (l : Option (List Give)). TellsMore (gives_in a.wire) l p.gives)
      (sym q.gives_nothing) p.gave;
  offers = p.offers;
  service = q.service ∙ p.service;
  config = ap (λ s. s.node.config) q.service ∙ p.config;
  totals = q.totals ∙ p.totals;
  counted = p.counted;
}

-- that many early turns, each with a rest after it, and the reading of the last
pub record Attended {W C : Type 0} (takings_in : W → Option (List Taking))
    (gives_in : W → Option (List Give)) (rested_in : W → W → ℕ → Type 0)
    (readings_in : C → Option (List ℕ))
    (until n reading : ℕ) (old new : DaemonState W C) : Type 0 where
  pub early : TakesEarly takings_in gives_in readings_in until n old new
  pub rested : RestsBehind takings_in gives_in rested_in readings_in until n old new
  pub reading_is : reading ≡ last_reading early.taken.turns

-- no turn was taken
pub attended_none : {W C : Type 0} (takings_in : W → Option (List Taking))
    (gives_in : W → Option (List Give)) (rested_in : W → W → ℕ → Type 0)
    (readings_in : C → Option (List ℕ)) (until : ℕ)
    (d : DaemonState W C) → Attended takings_in gives_in rested_in readings_in until 0 0 d d
unfolding no_turns
attended_none takings_in gives_in rested_in readings_in until d = record {
  early = record { taken = no_turns takings_in gives_in readings_in d; early = refl };
  rested = refl;
  reading_is = refl;
}

-- one more early turn
unfoldable early_more : {W C : Type 0} {takings_in : W → Option (List Taking)}
    {gives_in : W → Option (List Give)} {readings_in : C → Option (List ℕ)}
    {until n reading : ℕ} {a b c : DaemonState W C}
    → TakesEarly takings_in gives_in readings_in until n a b
    → TakesTurnAt takings_in gives_in readings_in reading b c → nat_le until reading ≡ false
    → TakesEarly takings_in gives_in readings_in until (n + 1) a c
unfolding turns_both
early_more {until = until} p q late =
    let before = map (λ turn. turn.reading) p.taken.turns in
    let behind = map (λ turn. turn.reading) q.taken.turns in
    record {
      taken = turns_both p.taken q.taken;
      early = ap (list_any (nat_le until))
          (map-append (λ turn. turn.reading) p.taken.turns q.taken.turns)
          ∙ list_any-append (nat_le until) before behind
          ∙ ap (λ b. b || list_any (nat_le until) behind) p.early
          ∙ ap (λ l. list_any (nat_le until) (map (λ turn. turn.reading) l)) q.turn_is
          ∙ ap (λ r. nat_le until r || false) q.reading_is
          ∙ ap (λ b. b || false) late;
    }

-- early turns, and a rest after them
unfoldable early_rest : {W C : Type 0} {takings_in : W → Option (List Taking)}
    {gives_in : W → Option (List Give)} {rested_in : W → W → ℕ → Type 0}
    {readings_in : C → Option (List ℕ)}
    {until n reading : ℕ} {a b c : DaemonState W C}
    → TakesEarly takings_in gives_in readings_in until n a b
    → Rests takings_in gives_in rested_in reading until b c
    → TakesEarly takings_in gives_in readings_in until n a c
unfolding turns_rest
early_rest p q = record { taken = turns_rest p.taken q; early = p.early }

-- one more early turn and its rest
rests_more : {W C : Type 0} {takings_in : W → Option (List Taking)}
    {gives_in : W → Option (List Give)} {rested_in : W → W → ℕ → Type 0}
    {readings_in : C → Option (List ℕ)}
    {until reading : ℕ} (n : ℕ) (a b c d : DaemonState W C)
    → RestsBehind takings_in gives_in rested_in readings_in until n a b → reading < until
    → TakesTurnAt takings_in gives_in readings_in reading b c
    → Rests takings_in gives_in rested_in reading until c d
    → RestsBehind takings_in gives_in rested_in readings_in until (n + 1) a d
rests_more {takings_in = takings_in} {gives_in} {rested_in} {readings_in} {until} {reading}
    n a b c d p early turn rest =
    let next : suc n ≡ n + 1 = omega arith in
    subst (λ (k : ℕ). RestsBehind takings_in gives_in rested_in readings_in until k a d) next
    (b, p, record { reading = reading; early = early; turned = c; turn = turn; rest = rest })

-- the same of all that was attended
pub attended_more : {W C : Type 0} {takings_in : W → Option (List Taking)}
    {gives_in : W → Option (List Give)} {rested_in : W → W → ℕ → Type 0}
    {readings_in : C → Option (List ℕ)}
    {until n before reading : ℕ} {a b c d : DaemonState W C}
    → Attended takings_in gives_in rested_in readings_in until n before a b
    → TakesTurnAt takings_in gives_in readings_in reading b c
    → nat_le until reading ≡ false → reading < until
    → Rests takings_in gives_in rested_in reading until c d
    → Attended takings_in gives_in rested_in readings_in until (n + 1) reading a d
unfolding early_more early_rest turns_rest turns_both
attended_more {n = n} {a = a} {b} {c} {d} p turn late early rest = record {
  early = early_rest (early_more p.early turn late) rest;
  rested = rests_more n a b c d p.rested early turn rest;
  reading_is =
      last_push [] p.early.taken.turns turn.turn turn.taken.turns turn.turn_is turn.reading_is;
}

-- a daemon that has served goes on by what was attended, by its end
by_end : {W C : Type 0} {takings_in : W → Option (List Taking)}
    {gives_in : W → Option (List Give)} {readings_in : C → Option (List ℕ)}
    {config : ConfigModel} {lease : Option ℕ} {wire : W} {clock : C} {until reading n k : ℕ}
    {a b c : DaemonState W C}
    (h : HasServed takings_in gives_in readings_in config lease wire clock n a)
    (p : TakesEarly takings_in gives_in readings_in until k a b)
    → TakesLast takings_in gives_in readings_in until reading b c
    ⊎ ((k ≡ 2 ^ 64 - 1) × (c ≡ b) × (reading ≡ last_reading p.taken.turns))
    → ServesUntil takings_in gives_in readings_in config lease wire clock n h.turns h.gives
    until reading c
unfolding turns_both served_on served from_first
by_end {until = until} {k = k} h p (inl last) =
    let turn = last.takes in
    record {
      m = k + 1;
      served = served_on h (turns_both p.taken turn.taken);
      more = p.taken.turns ++ turn.taken.turns;
      more_gives = p.taken.gives ++ turn.taken.gives;
      turns_are = refl;
      gives_are = refl;
      ends = record {
        early = p.taken.turns;
        are_early = p.early;
        last = inl (
          turn.turn,
          ap (λ l. p.taken.turns ++ l) turn.turn_is,
          subst (λ (r : ℕ). until ≤ r) (sym turn.reading_is) last.come,
        );
      };
      reading_is =
          last_push h.turns p.taken.turns turn.turn turn.taken.turns turn.turn_is turn.reading_is;
    }
by_end {W} {C} {takings_in} {gives_in} {readings_in} {config} {lease} {wire} {clock} {until}
    {reading}
    {n} {k} h p (inr all) =
    let some : 0 < length p.taken.turns = omega (arith, p.taken.count, all.0) in
    subst (λ (d : DaemonState W C). ServesUntil takings_in gives_in readings_in config lease wire
    clock
    n h.turns h.gives until reading d) (sym all.1) (record {
      m = k;
      served = served_on h p.taken;
      more = p.taken.turns;
      more_gives = p.taken.gives;
      turns_are = refl;
      gives_are = refl;
      ends = record {
        early = p.taken.turns;
        are_early = p.early;
        last = inr (refl, p.taken.count ∙ all.0);
      };
      reading_is = all.2 ∙ sym (behind_more 0 h.turns p.taken.turns some);
    })

-- a daemon that has served goes on by what was attended
pub served_until : {W C : Type 0} {takings_in : W → Option (List Taking)}
    {gives_in : W → Option (List Give)} {rested_in : W → W → ℕ → Type 0}
    {readings_in : C → Option (List ℕ)}
    {config : ConfigModel} {lease : Option ℕ} {wire : W} {clock : C} {until reading n : ℕ}
    {a b : DaemonState W C}
    (h : HasServed takings_in gives_in readings_in config lease wire clock n a)
    → AttendsUntil takings_in gives_in rested_in readings_in until reading a b
    → ServesUntil takings_in gives_in readings_in config lease wire clock n h.turns h.gives
    until reading b
served_until h p = by_end h p.early p.last
