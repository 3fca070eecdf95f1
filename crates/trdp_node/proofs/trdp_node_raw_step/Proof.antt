-- `trdp_node_raw_step` lends the node at its pointer to `step`, and has it back.
-- Written by walks.py.
use Rattle.std.proofs.Common.{◌≡◌, ℕ, List, [], ◌∷◌, ◌++◌, refl, sym, ap, ◌∙◌, subst, MutBor, w64}
use base.Fraction.{full_share}
use base.Fml.{ftrue, flft, flent, GName}
use base.Logic.{SProp, ent, sep, emp, id⊢, ex_i, fst∗, never}
use contract.Monad.{fact, fact_i}
use contract.Running.{tables}
use denote.Builtin.{RawPtr, unit, u8, usize}
use denote.Exit.{yes}
use denote.Lend.{lends_ref, ref_back}
use denote.Memory.{lone, mem}
use denote.RattleType.{RattleType, owns}
use denote.RawPtr.{Ptr, block_ptr, null_ptr, ptr_val, in_a_block}
use denote.Ref.{MutRef, mut_vals, ShrRef, shr_vals}
use denote.Signature.{types_at, plain, shr_ref_to, shr_slice_of}
use denote.Slice.{ShrSlice, shr_slice_vals}
use denote.Steps.{nothing, only, heard}
use denote.Triple.Call.{calls_at}
use denote.Triple.Clauses.{Lasts, lasts, at_exit}
use denote.Triple.Spec.{triple_of}
use denote.Triple.Walked.{Stays, stay_dropped, gave_ref, walk_of, Goes-dropped, Goes-gave_ref}
use mir.Raw.{raw as bare}
use mir.Syntax.{impl, tnil, dnil, named}
use mir.Val.{Val, vptr, vunit, vint}
use prog.Wp.{WpFn}
use types.ByLocal.{alloc_all, pass_all, free_all, look_at, get, through, sets, lands_as}
use types.Kit.{‵, raw, ◌⊛◌, some, later, ◌$◌, ◌∵◌, !, qed, by, move, keep, drop, split, join, fsplit, fjoin, pick, suffices, use0, use1, use2, use3, await, feq_l, feq_i, rewrite}
use types.Logic.{sem}
use types.Run.{of_opd, addr, stop, unit_lit, no_more, and_then, returns, enter}
use types.SemTy.{Body}
use types.Tokens.{lft_new, lft_end}
use Rattle.core.proofs.alloc.Calls.{Al, handle_tells}
use Rattle.core.proofs.atomic.Steps.{fm}
use Rattle.std.proofs.raw_atomic.Walks.{proved_at, leaves}
use Rattle.std.specs.contracts.impls.GlobalAllocator.TheImpl.{ghosts}
use Rattle.std_alloc.specs.Box.Ownership.{box_owns}
use Rattle.std.specs.contracts.alloc.Global as heap
use Rattle.std.proofs.alloc.Global.TheLaws as heap_laws
use Rattle.trdp_node.specs.Outcomes.{Steps}
use Rattle.trdp_node.specs.contracts.held.HeldNode as node
use Rattle.trdp_node.specs.contracts.event.EventNumbers as row0
use Rattle.trdp_node.specs.contracts.results.Done as row2
use Rattle.trdp_node.specs.contracts.step as g
use Rattle.trdp_node.proofs.step.Met.{met}
use Rattle.trdp_node.specs.contracts.trdp_node_raw_step as f
use Rattle.trdp_node.proofs.trdp_node_raw_step.Statement.{statement}
use Rattle.trdp_node.proofs.trdp_node_raw_step.Code as code

pub trdp_node_raw_step_spec : {M : Type 1} → statement M
trdp_node_raw_step_spec 𝓤 𝓛 𝓜 𝓡 wired =
    let H = 𝓛.H in let 𝓣 = tables 𝓤 H 𝓜 𝓡 𝓡.env in
    let Z : RattleType = heap.the_row in let LZ = heap_laws.the_row_laws in let R : RattleType = node.the_row in
    let al : Al = record { row = Z; laws = LZ; g = ghosts; d = impl [] tnil dnil; drops = impl [] tnil dnil } in
    let En = f.ended in let c = f.clauses 𝓛 𝓜.mem 𝓡.returns in let fn = code.function in
    let hs : Stays En.signature.params En.kept = (stay_dropped (plain (λ _. Z)) yes, (stay_dropped (plain (λ _. RawPtr)) yes, (stay_dropped (shr_ref_to (0 ∷ []) tt (plain (λ _. row0.the_row))) yes, (stay_dropped (shr_slice_of (1 ∷ []) tt (plain (λ _. u8))) yes, (gave_ref (2 ∷ []) tt (plain (λ _. row2.the_row)), tt))))) in
    let G = triple_of 𝓛 g.signature (g.spec 𝓛 𝓜.mem 𝓡.returns) in
    proved_at 𝓛 En hs c 𝓜 𝓡
    (Goes-dropped 𝓛 3 (plain (λ _. Z)) yes (λ κs x w. refl), (Goes-dropped 𝓛 3 (plain (λ _. RawPtr)) yes (λ κs x w. refl), (Goes-dropped 𝓛 3 (shr_ref_to (0 ∷ []) tt (plain (λ _. row0.the_row))) yes (λ κs x w. refl), (Goes-dropped 𝓛 3 (shr_slice_of (1 ∷ []) tt (plain (λ _. u8))) yes (λ κs x w. refl), (Goes-gave_ref 𝓛 3 2 tt (plain (λ _. row2.the_row)), tt)))))
    f.Key.name fn (code.unfolded 𝓤 H 𝓜 𝓡 wired) (λ z are.
    let κs = z.0.0 in let qs = z.0.1 in let Post : Val → SProp 𝓤 = (walk_of 𝓛 En hs c).post z in
    let Run : List Val → SProp 𝓤 = λ ws. WpFn 𝓤 H 𝓣.C 𝓣.Λ fn ws Post in
    let a = z.0.3.0 in let p : Ptr = z.0.3.1.0 in let value = z.1 in let toks = ‵ (flft κs.0 qs.0) ⊛ ‵ (flft κs.1.0 qs.1.0) ⊛ ‵ (flft κs.1.1.0 qs.1.1.0) ⊛ ‵ ftrue in
    let x0 = z.0.3.1.1.0 in
    let x1 = z.0.3.1.1.1.0 in
    let x2 = z.0.3.1.1.1.1.0 in
    let r0 : RattleType = ShrRef (named 0) κs.0 row0.the_row in
    let r1 : RattleType = ShrSlice (named 1) κs.1.0 u8 in
    let r2 : RattleType = MutRef (named 2) κs.1.1.0 row2.the_row in
    let e0 : z.0.4.1.1.0 ≡ shr_vals x0 = are.1.1.0.0 in
    let e1 : z.0.4.1.1.1.0 ≡ shr_slice_vals x1 = are.1.1.1.0.0.0 in
    let e2 : z.0.4.1.1.1.1.0 ≡ mut_vals x2 = are.1.1.1.1.0.0 in
    -- the parameters, taken apart; then the node's memory, which is a block
    qed 𝓛 ((toks ⊛ ‵ (owns (types_at En.signature.params κs) z.0.3 z.0.4)) ∷ ‵ (box_owns (ghosts.dealloc_token a) R p value) ∷ []) ∵
    split ! $ move ! (1 ∷ []) $ fsplit ! $
    handle_tells al ! a z.0.4.0 (λ h eh fits. move ! (1 ∷ []) $ fsplit ! $ feq_l ! (λ ep.
    fsplit ! $ rewrite ! 0 (λ (xs : List Val). ‵ (r0.own_val x0 xs)) e0 refl $ move ! (1 ∷ []) $
    fsplit ! $ rewrite ! 0 (λ (xs : List Val). ‵ (r1.own_val x1 xs)) e1 refl $ move ! (1 ∷ []) $
    fsplit ! $ rewrite ! 0 (λ (xs : List Val). ‵ (r2.own_val x2 xs)) e2 refl $ move ! (1 ∷ []) $
    drop ! $ move ! (5 ∷ []) $
    in_a_block ! p (λ q. box_owns (ghosts.dealloc_token a) R q value) (fst∗ 𝓤 (never 𝓤) (sem 𝓛 (ghosts.dealloc_token a (bare (lone R.mir)) null_ptr))) (λ b k e.
    -- the statements that make a reference of the pointer
    let us : List Val = h ∷ vptr b k ∷ (shr_vals x0 ++ (shr_slice_vals x1 ++ (mut_vals x2 ++ ([])))) in
    let ws : us ≡ z.0.4.0 ++ (z.0.4.1.0 ++ (z.0.4.1.1.0 ++ (z.0.4.1.1.1.0 ++ (z.0.4.1.1.1.1.0 ++ ([]))))) = sym (λ i. eh i ++ ((ep ∙ ap (λ (q : Ptr). ptr_val q ∷ []) e) i ++ (e0 i ++ (e1 i ++ (e2 i ++ ([])))))) in
    suffices ! (Run us) (subst (λ (xs : List Val). ent 𝓤 (Run us) (Run xs)) ws (id⊢ 𝓤 (Run us))) $
    enter ! 𝓣.C 𝓣.Λ fn us Post $ alloc_all ! (λ l. pass_all ! refl (fits, ((tt, tt), ((tt, tt), ((tt, (tt, (record { fits = are.1.1.1.0.0.1.0 }, tt))), ((tt, tt), tt))))) $
    sets ! (of_opd ! (get ! refl)) refl (tt, tt) $ sets ! (addr ! (through ! refl (stop !))) refl (tt, tt) $
    sets ! (addr ! (through ! refl (stop !))) refl (tt, tt) $ sets ! (addr ! (through ! refl (stop !))) refl (tt, tt) $
    -- the loan of the node; its context is the loan, the lender's part, the loan's token, the right to free, the
    -- parameters from the last, the allocator, the tokens
    fsplit ! $ lft_new ! tt (λ α. move ! (1 ∷ []) $ let lent = λ (γ : GName). ‵ (flent (α ∷ []) (Body (mem R) b k γ)) in
    use1 𝓛 (later (some (λ (γ : GName). ‵ ((MutRef (named 0) (α ∷ []) R).own_val (record { ref_ptr = (b, k); ghost_name = γ; now = value }) (vptr b k ∷ [])) ⊛ lent γ))) (lends_ref 𝓛 R (named 0) (α ∷ []) value b k) $
    await ! tt $ pick ! (λ γ. split ! $
    let self : MutBor R.Denot = record { ref_ptr = (b, k); ghost_name = γ; now = value } in let all = ‵ (flft (α ∷ []) full_share) ⊛ toks in
    let y : G.Ghost = (((α ∷ [], κs), (full_share, qs), tt, (self, (x0, (x1, (x2, tt)))), (vptr b k ∷ [], (shr_vals x0, (shr_slice_vals x1, (mut_vals x2, tt))))), tt) in
    move ! (0 ∷ 4 ∷ 5 ∷ 6 ∷ []) $ nothing ! $ move ! (2 ∷ 0 ∷ []) $ fjoin ! $ move ! (2 ∷ 0 ∷ []) $ fjoin ! $ move ! (2 ∷ 0 ∷ []) $ fjoin ! $ move ! (1 ∷ 0 ∷ []) $ fjoin ! $
    move ! (2 ∷ 5 ∷ []) $ join ! $ join ! $ nothing ! $ move ! (1 ∷ 0 ∷ []) $ use2 𝓛 (raw (G.pre y)) (id⊢ 𝓤 _) $
    -- the call, and what it ensures
    calls_at ! (fm 𝓛 𝓜 𝓡) G (met 𝓤 𝓛 𝓜 𝓡 (code.calls-trdp_node::step 𝓡.env wired)) y (and_then ! (get ! refl) (and_then ! (get ! refl) (and_then ! (get ! refl) (and_then ! (get ! refl) (no_more !))))) (λ v.
    use1 𝓛 (later (some (λ (r : Unit {0}). (all ⊛ ‵ (unit.own_val r (v ∷ []))) ⊛ some (λ (ls : Lasts g.ended y.0.0 y.0.3). ‵ (lasts g.ended y.0.0 y.0.3 ls) ⊛ raw ((g.clauses 𝓛 𝓜.mem 𝓡.returns y.0.0 y.0.3).ensures tt r (at_exit g.ended y.0.0 y.0.3 ls)))))) (id⊢ 𝓤 (G.post y v)) $
    await ! tt $ pick ! (λ r. split ! $ split ! $ move ! (1 ∷ []) $ feq_l ! (λ is_unit. lands_as ! (ap only is_unit) refl (tt, tt) $ move ! (1 ∷ []) $
    pick ! (λ ls. split ! $ move ! (1 ∷ []) $
    let after = ls.0 in let written = ls.1.1.1.0 in let Did : R.Denot → Type 0 = λ (x : R.Denot). Steps value x x0.now x1.now written in
    heard ! (Did after) (λ did.
    -- the end of the loan: the node's memory is whole again
    fsplit ! $ fsplit ! $ move ! (1 ∷ []) $ drop ! $ move ! (1 ∷ []) $ fsplit ! $ drop ! $ fsplit ! $ drop ! $ fsplit ! $ move ! (1 ∷ []) $ drop ! $
    move ! (2 ∷ []) $ split ! $ lft_end ! tt $ move ! (0 ∷ 4 ∷ 3 ∷ []) $
    use3 𝓛 (later (‵ ((mem R).own_at after b k))) (ref_back 𝓛 R (α ∷ []) γ after b k) $ await ! tt $
    move ! (0 ∷ 3 ∷ []) $ fjoin ! $ rewrite ! 0 (λ (q : Ptr). ‵ (box_owns (ghosts.dealloc_token a) R q after)) (sym e) refl $
    use0 𝓛 (raw (fact 𝓤 (Did after))) (fact_i 𝓤 (Did after) (emp 𝓤) did) $ move ! (1 ∷ 0 ∷ []) $
    use2 𝓛 (raw ((c κs z.0.3).ensures z.1 tt (at_exit En κs z.0.3 (tt, (tt, (tt, (tt, (ls.1.1.1.0, tt)))))))) (ex_i 𝓤 (λ x. sep 𝓤 (sem 𝓛 (box_owns (ghosts.dealloc_token a) R p x)) (fact 𝓤 (Did x))) after) $
    -- the return
    sets ! (of_opd ! (unit_lit !)) refl (tt, tt) $ returns ! (look_at ! 0 refl) $ free_all ! refl $ feq_i ! _ (vunit ∷ []) _ refl $
    nothing ! $ move ! (4 ∷ 0 ∷ []) $ fjoin ! $ nothing ! $ fjoin ! $ nothing ! $ fjoin ! $ nothing ! $ fjoin ! $ nothing ! $ fjoin ! $ keep ! (3 ∷ 0 ∷ 1 ∷ 2 ∷ []) $
    by ! (leaves 𝓛 En hs c z vunit tt (tt, (tt, (tt, (tt, (ls.1.1.1.0, tt))))) (tt, (tt, (tt, (tt, (tt, tt))))))))))))))))))
