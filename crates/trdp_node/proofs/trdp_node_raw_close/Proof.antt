-- `trdp_node_raw_close` makes an `Owned` of the node's pointer and of what lies there, and hands it to `close`.
use Rattle.std.proofs.Common.{◌≡◌, ℕ, List, [], ◌∷◌, ◌++◌, refl, sym, ap, ◌∙◌, subst}
use mir.Syntax.{impl, tnil, dnil}
use mir.Raw.{raw as bare}
use mir.Val.{Val, vptr, vunit}
use base.Logic.{SProp, ent, id⊢, fst∗, never}
use base.Fml.{ftrue}
use prog.Wp.{WpFn}
use types.Logic.{sem}
use types.Kit.{‵, raw, ◌⊛◌, some, later, ◌$◌, ◌∵◌, !, qed, by, move, keep, drop, split, join, fsplit, fjoin, pick, suffices, use1, use2, await, feq_l, feq_i}
use types.Run.{of_opd, unit_lit, no_more, and_then, returns, enter}
use types.ByLocal.{alloc_all, pass_all, free_all, look_at, get, sets, lands_as}
use types.Part.{agg}
use contract.Running.{tables}
use denote.Exit.{yes}
use denote.RattleType.{RattleType, owns}
use denote.Memory.{lone}
use denote.Builtin.{RawPtr, unit}
use denote.Signature.{types_at, plain}
use denote.RawPtr.{Ptr, block_ptr, null_ptr, ptr_val, in_a_block}
use denote.Steps.{nothing, only}
use denote.Triple.Clauses.{Lasts, lasts, at_exit}
use denote.Triple.Spec.{triple_of}
use denote.Triple.Call.{calls_at}
use denote.Triple.Walked.{Stays, stay_dropped, walk_of, Goes-dropped}
use Rattle.core.proofs.atomic.Steps.{fm}
use Rattle.core.proofs.alloc.Calls.{Al, handle_tells}
use Rattle.std.specs.contracts.alloc.Global as heap
use Rattle.std.proofs.alloc.Global.TheLaws as heap_laws
use Rattle.std.specs.contracts.impls.GlobalAllocator.TheImpl.{ghosts}
use Rattle.std_alloc.specs.Box.Ownership.{box_owns}
use Rattle.std.proofs.raw_atomic.Walks.{proved_at, leaves}
use Rattle.trdp_node.specs.contracts.held.HeldNode as node
use Rattle.trdp_node.proofs.Owning.{both, Owned, owned_good, owned_in}
use Rattle.trdp_node.specs.contracts.close as g
use Rattle.trdp_node.proofs.close.Met.{met}
use Rattle.trdp_node.specs.contracts.trdp_node_raw_close as f
use Rattle.trdp_node.proofs.trdp_node_raw_close.Statement.{statement}
use Rattle.trdp_node.proofs.trdp_node_raw_close.Code as code

pub trdp_node_raw_close_spec : {M : Type 1} → statement M
trdp_node_raw_close_spec 𝓤 𝓛 𝓜 𝓡 wired =
    let H = 𝓛.H in let 𝓣 = tables 𝓤 H 𝓜 𝓡 𝓡.env in let Z : RattleType = heap.the_row in let LZ = heap_laws.the_row_laws in let R : RattleType = node.the_row in
    let al : Al = record { row = Z; laws = LZ; g = ghosts; d = impl [] tnil dnil; drops = impl [] tnil dnil } in
    let En = f.ended in let c = f.clauses 𝓛 𝓜.mem 𝓡.returns in let fn = code.function in
    let hs : Stays En.signature.params En.kept = (stay_dropped (plain (λ _. Z)) yes, (stay_dropped (plain (λ _. RawPtr)) yes, tt)) in
    let G = triple_of 𝓛 g.signature (g.spec 𝓛 𝓜.mem 𝓡.returns) in
    proved_at 𝓛 En hs c 𝓜 𝓡
    (Goes-dropped 𝓛 0 (plain (λ _. Z)) yes (λ κs x w. refl), (Goes-dropped 𝓛 0 (plain (λ _. RawPtr)) yes (λ κs x w. refl), tt))
    f.Key.name fn (code.unfolded 𝓤 H 𝓜 𝓡 wired) (λ z are.
    let κs = z.0.0 in let qs = z.0.1 in let Post : Val → SProp 𝓤 = (walk_of 𝓛 En hs c).post z in let Run : List Val → SProp 𝓤 = λ ws. WpFn 𝓤 H 𝓣.C 𝓣.Λ fn ws Post in
    let a = z.0.3.0 in let p : Ptr = z.0.3.1.0 in let value = z.1 in let toks = ‵ ftrue in
    qed 𝓛 ((toks ⊛ ‵ (owns (types_at En.signature.params κs) z.0.3 z.0.4)) ∷ ‵ (box_owns (ghosts.dealloc_token a) R p value) ∷ []) ∵ split ! $ move ! (1 ∷ []) $ fsplit ! $
    handle_tells al ! a z.0.4.0 (λ h eh fits. move ! (1 ∷ []) $ fsplit ! $ feq_l ! (λ ep.
    drop ! $
    -- [the parameters from the last; the allocator; the tokens; the node's memory]
    move ! (2 ∷ []) $
    in_a_block ! p (λ q. box_owns (ghosts.dealloc_token a) R q value) (fst∗ 𝓤 (never 𝓤) (sem 𝓛 (ghosts.dealloc_token a (bare (lone R.mir)) null_ptr))) (λ b k e. move ! (0 ∷ 1 ∷ []) $
    owned_in R Z LZ ghosts ! b k h a value $
    let held : (Owned R Z LZ ghosts).Denot = record { at = block_ptr b k; alloc = a; value = value } in let word : Val = both (vptr b k) h in let typed = owned_good R Z LZ ghosts b k h fits in
    let y : G.Ghost = ((κs, qs, z.0.2, (held, tt), (word ∷ [], tt)), tt) in
    let us : List Val = h ∷ vptr b k ∷ ([]) in
    let ws : us ≡ z.0.4.0 ++ (z.0.4.1.0 ++ ([])) = sym (λ i. eh i ++ ((ep ∙ ap (λ (q : Ptr). ptr_val q ∷ []) e) i ++ ([]))) in
    nothing ! $ move ! (1 ∷ 0 ∷ []) $ fjoin ! $ move ! (1 ∷ 0 ∷ []) $ join ! $ nothing ! $ move ! (1 ∷ 0 ∷ []) $ use2 𝓛 (raw (G.pre y)) (id⊢ 𝓤 _) $
    suffices ! (Run us) (subst (λ (xs : List Val). ent 𝓤 (Run us) (Run xs)) ws (id⊢ 𝓤 (Run us))) $
    enter ! 𝓣.C 𝓣.Λ fn us Post $ alloc_all ! (λ l. pass_all ! refl (fits, ((tt, tt), tt)) $
    sets ! (of_opd ! (get ! refl)) refl (tt, tt) $
    sets ! (agg ! (and_then ! (get ! refl) (and_then ! (get ! refl) (no_more !)))) refl typed $
    calls_at ! (fm 𝓛 𝓜 𝓡) G (met 𝓤 𝓛 𝓜 𝓡 (code.calls-trdp_node::close 𝓡.env wired)) y (and_then ! (get ! refl) (no_more !)) (λ v.
    use1 𝓛 (later (some (λ (r : Unit {0}). (toks ⊛ ‵ (unit.own_val r (v ∷ []))) ⊛ some (λ (ls : Lasts g.ended κs y.0.3). ‵ (lasts g.ended κs y.0.3 ls) ⊛ raw ((g.clauses 𝓛 𝓜.mem 𝓡.returns κs y.0.3).ensures tt r (at_exit g.ended κs y.0.3 ls)))))) (id⊢ 𝓤 (G.post y v)) $
    await ! tt $ pick ! (λ r. split ! $ split ! $ move ! (1 ∷ []) $ feq_l ! (λ is_unit. lands_as ! (ap only is_unit) refl (tt, tt) $ move ! (1 ∷ []) $ pick ! (λ ls. split ! $ move ! (1 ∷ []) $ drop ! $
    drop ! $
    sets ! (of_opd ! (unit_lit !)) refl (tt, tt) $
    returns ! (look_at ! 0 refl) $ free_all ! refl $ feq_i ! _ (vunit ∷ []) _ refl $
    nothing ! $ nothing ! $ fjoin ! $ nothing ! $ fjoin ! $ nothing ! $ keep ! (3 ∷ 1 ∷ 2 ∷ 0 ∷ []) $
    by ! (leaves 𝓛 En hs c z vunit tt (tt, (tt, tt)) (tt, (tt, tt))))))))))))
