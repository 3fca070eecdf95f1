-- What is asked of sockets, one after another.
-- For the functions of `opening`, and for the rests of `RestingWire`.
-- By: the calls that were made first, and then the others, up to the one that was refused.
use Rattle.std.proofs.Common.{◌≡◌, ℕ, List, [], ◌∷◌, ◌++◌, Option, Some, None}
use Rattle.std.proofs.Common.{refl, sym, ◌∙◌, ap, append_assoc, append-nil, subst, map}
use Rattle.std.proofs.lemmas.List.{map-append}
use Rattle.trdp_wire.specs.declared.bind_fault.BindFault.{BindFault}
use Rattle.trdp_wire.specs.declared.port.Port.{Port}
use Rattle.std.specs.Prelude.{Result, Ok, Err}
use Rattle.std.specs.Result.{IsErrAnd}
use Rattle.trdp_base.specs.declared.place.Place.{Place}
use Rattle.trdp_dataset.specs.Configs.{ConfigModel}
use Rattle.trdp_wire.specs.Ports.{place_of_port}
use Rattle.trdp_wire.specs.Sockets.{SocketCall, Binds, Watches, MadeInTurn, StopsAtOne}
use Rattle.trdp_wire.specs.Sockets.{refused_call, fault_of_result, socket_of, bind_of, ttl_of}
use Rattle.trdp_wire.specs.Sockets.{watch_of}
use Rattle.trdp_base.specs.Reported.{TellsMore}
use Rattle.trdp_base.proofs.ReportedLemmas.{adds_none, adds_both}

-- calls that were made before those among which one was refused
pub stops_behind : (fault : BindFault) (before calls : List SocketCall)
    (a b c : Option (List SocketCall))
    → TellsMore a b before → StopsAtOne calls fault b c → StopsAtOne (before ++ calls) fault a c
stops_behind fault before calls a b c first p = record {
  granted = before ++ p.granted;
  last = p.last;
  behind = p.behind;
  calls_are = ap (λ l. before ++ l) p.calls_are
      ∙ sym (append_assoc before p.granted (p.last ∷ p.behind));
  made = subst (λ (l : List SocketCall). TellsMore a c l)
      (sym (append_assoc before p.granted (refused_call fault p.last ∷ [])))
      (adds_both a b c before (p.granted ++ refused_call fault p.last ∷ []) first p.made);
}

-- calls that would have followed
pub stops_before : (fault : BindFault) (calls more : List SocketCall)
    (a b : Option (List SocketCall))
    → StopsAtOne calls fault a b → StopsAtOne (calls ++ more) fault a b
stops_before fault calls more a b p = record {
  granted = p.granted;
  last = p.last;
  behind = p.behind ++ more;
  calls_are = ap (λ l. l ++ more) p.calls_are
      ∙ append_assoc p.granted (p.last ∷ p.behind) more;
  made = p.made;
}

-- what was asked for these ports, of which more come
pub record Asked (f : Port → SocketCall) (all : List Port) (a b : Option (List SocketCall))
    (rest : List Port) : Type 0 where
  pub done : List Port
  pub told : TellsMore a b (map f done)
  pub whole : done ++ rest ≡ all

-- these too
pub asked_more : (f : Port → SocketCall) (all ports rest : List Port)
    (a b c : Option (List SocketCall))
    → Asked f all a b (ports ++ rest) → TellsMore b c (map f ports) → Asked f all a c rest
asked_more f all ports rest a b c so_far more = record {
  done = so_far.done ++ ports;
  told = subst (λ (l : List SocketCall). TellsMore a c l) (sym (map-append f so_far.done ports))
      (adds_both a b c (map f so_far.done) (map f ports) so_far.told more);
  whole = append_assoc so_far.done ports rest ∙ so_far.whole;
}

-- or one of these was refused
pub asked_stops : (f : Port → SocketCall) (all ports rest : List Port) (fault : BindFault)
    (a b c : Option (List SocketCall)) → Asked f all a b (ports ++ rest)
    → StopsAtOne (map f ports) fault b c → StopsAtOne (map f all) fault a c
asked_stops f all ports rest fault a b c so_far stop =
    let behind = stops_before fault (map f ports) (map f rest) b c stop in
    let whole = stops_behind fault (map f so_far.done) (map f ports ++ map f rest) a b c
    so_far.told behind in
    let calls : map f so_far.done ++ (map f ports ++ map f rest) ≡ map f all =
    ap (λ l. map f so_far.done ++ l) (sym (map-append f ports rest))
    ∙ sym (map-append f so_far.done (ports ++ rest)) ∙ ap (map f) so_far.whole in
    subst (λ (l : List SocketCall). StopsAtOne l fault a c) calls whole

-- all were asked
pub asked_all : (f : Port → SocketCall) (all : List Port) (a b : Option (List SocketCall))
    → Asked f all a b [] → TellsMore a b (map f all)
asked_all f all a b p = subst (λ (l : List Port). TellsMore a b (map f l)) whole p.told
  where
    whole : p.done ≡ all
    whole = sym (append-nil p.done) ∙ p.whole

-- one call
pub bind_made : (old new : Option (List SocketCall)) (config : ConfigModel) (port : Port) (s : ℕ)
    (place : Place) (ttl : Option ℕ) (result : Result (Unit {0}) BindFault)
    → s ≡ socket_of config.groups port → place ≡ place_of_port config port
    → ttl ≡ ttl_of config port
    → TellsMore old new (Binds s place ttl (fault_of_result result) ∷ [])
    → MadeInTurn (bind_of config port ∷ []) (fault_of_result result) old new
bind_made old new config port s place ttl result at here far told = by_result result
    (subst (λ (n : ℕ). TellsMore old new
    (Binds n (place_of_port config port) (ttl_of config port) (fault_of_result result) ∷ [])) at
    (subst (λ (p : Place). TellsMore old new
    (Binds s p (ttl_of config port) (fault_of_result result) ∷ [])) here
    (subst (λ (t : Option ℕ). TellsMore old new (Binds s place t (fault_of_result result) ∷ []))
    far told)))
  where
    by_result : (r : Result (Unit {0}) BindFault)
        → TellsMore old new (Binds (socket_of config.groups port) (place_of_port config port)
        (ttl_of config port) (fault_of_result r) ∷ [])
        → MadeInTurn (bind_of config port ∷ []) (fault_of_result r) old new
    by_result (Ok x) made = made
    by_result (Err fault) made = record {
      granted = [];
      last = bind_of config port;
      behind = [];
      calls_are = refl;
      made = made;
    }

pub watch_made : (old new : Option (List SocketCall)) (config : ConfigModel) (port : Port) (s : ℕ)
    (result : Result (Unit {0}) BindFault)
    → s ≡ socket_of config.groups port → TellsMore old new (Watches s (fault_of_result result) ∷ [])
    → MadeInTurn (watch_of config port ∷ []) (fault_of_result result) old new
watch_made old new config port s result at told = by_result result
    (subst (λ (n : ℕ). TellsMore old new (Watches n (fault_of_result result) ∷ [])) at told)
  where
    by_result : (r : Result (Unit {0}) BindFault)
        → TellsMore old new (Watches (socket_of config.groups port) (fault_of_result r) ∷ [])
        → MadeInTurn (watch_of config port ∷ []) (fault_of_result r) old new
    by_result (Ok x) made = made
    by_result (Err fault) made = record {
      granted = [];
      last = watch_of config port;
      behind = [];
      calls_are = refl;
      made = made;
    }

-- what a `?` answers at a call that was refused
pub stops_with : (calls : List SocketCall) (a b : Option (List SocketCall))
    (result : Result (Unit {0}) BindFault) (fault : BindFault)
    → IsErrAnd result (λ f. f ≡ fault) → StopsAtOne calls fault a b
    → MadeInTurn calls (fault_of_result result) a b
stops_with calls a b (Ok x) fault same stop = absurd same
stops_with calls a b (Err f) fault same stop =
    subst (λ (g : BindFault). StopsAtOne calls g a b) (sym same) stop

-- calls that were made, and those after them
pub made_behind : (before calls : List SocketCall) (fault : Option BindFault)
    (a b c : Option (List SocketCall))
    → TellsMore a b before → MadeInTurn calls fault b c → MadeInTurn (before ++ calls) fault a c
made_behind before calls None a b c first then_these = adds_both a b c before calls first then_these
made_behind before calls (Some fault) a b c first then_these =
    stops_behind fault before calls a b c first then_these

-- before the first port
pub asked_first : (f : Port → SocketCall) (all : List Port) (a : Option (List SocketCall))
    → Asked f all a a all
asked_first f all a = record { done = []; told = adds_none a; whole = refl }
