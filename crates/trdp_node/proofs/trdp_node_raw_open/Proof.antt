-- `trdp_node_raw_open` writes the pointer that `open` returns, and hands on what lies there.
use Rattle.std.proofs.Common.{◌≡◌, List, [], ◌∷◌, ◌++◌, refl, sym, ap, subst}
use base.Fml.{ftrue, flft}
use base.Logic.{SProp, ent, sep, emp, id⊢, ex_i}
use contract.Monad.{fact, fact_i}
use contract.Running.{tables}
use denote.Builtin.{RawPtr, unit, u8}
use denote.Exit.{yes}
use denote.RattleType.{RattleType, owns}
use denote.RawPtr.{Ptr, ptr_val}
use denote.Ref.{MutRef, mut_vals}
use denote.Signature.{types_at, plain, shr_slice_of}
use denote.Slice.{ShrSlice, shr_slice_vals}
use denote.Steps.{nothing, only, heard}
use denote.Triple.Call.{calls_at}
use denote.Triple.Clauses.{Lasts, lasts, at_exit}
use denote.Triple.Spec.{triple_of}
use denote.Triple.Walked.{Stays, stay_dropped, gave_ref, walk_of, Goes-dropped, Goes-gave_ref}
use mir.Syntax.{impl, tnil, dnil, named}
use mir.Val.{Val, vunit}
use prog.Wp.{WpFn}
use types.ByLocal.{alloc_all, pass_all, free_all, look_at, get, get_in, through, sets, lands_as}
use types.Kit.{‵, raw, ◌⊛◌, some, later, ◌$◌, ◌∵◌, !, qed, by, move, keep, drop, split, join, fsplit, fjoin, pick, suffices, use0, use1, use2, await, feq_l, feq_i, rewrite}
use types.Logic.{sem}
use types.Part.{sub, whole}
use types.Run.{of_opd, addr, fld, stop, unit_lit, no_more, and_then, returns, enter}
use Rattle.core.proofs.alloc.Calls.{Al, handle_tells}
use Rattle.core.proofs.atomic.Steps.{Ptr-Good, fm}
use Rattle.std.proofs.raw_atomic.Walks.{proved_at, leaves}
use Rattle.std.specs.contracts.impls.GlobalAllocator.TheImpl.{ghosts}
use Rattle.std.specs.contracts.alloc.Global as heap
use Rattle.std.proofs.alloc.Global.TheLaws as heap_laws
use Rattle.trdp_node.specs.Openings.{TellsOpening}
use Rattle.trdp_node.specs.Owning.{owns_if}
use Rattle.trdp_node.specs.contracts.held.HeldNode as node
use Rattle.trdp_node.specs.contracts.owned.OwnedOrNull as or_null
use Rattle.trdp_node.specs.contracts.results.Fault as fault
use Rattle.trdp_node.proofs.Owning.{or_null_good, or_null_out}
use Rattle.trdp_node.specs.contracts.open as g
use Rattle.trdp_node.proofs.open.Met as opened
use Rattle.trdp_node.specs.contracts.put_pointer as k
use Rattle.trdp_node.proofs.put_pointer.Met as written
use Rattle.trdp_node.specs.contracts.trdp_node_raw_open as f
use Rattle.trdp_node.proofs.trdp_node_raw_open.Statement.{statement}
use Rattle.trdp_node.proofs.trdp_node_raw_open.Code as code

pub trdp_node_raw_open_spec : {M : Type 1} → statement M
trdp_node_raw_open_spec 𝓤 𝓛 𝓜 𝓡 wired =
    let H = 𝓛.H in let 𝓣 = tables 𝓤 H 𝓜 𝓡 𝓡.env in
    let Z : RattleType = heap.the_row in let LZ = heap_laws.the_row_laws in let R : RattleType = node.the_row in
    let P : RattleType = or_null.the_row R Z ghosts in let F : RattleType = fault.the_row in
    let al : Al = record { row = Z; laws = LZ; g = ghosts; d = impl [] tnil dnil; drops = impl [] tnil dnil } in
    let En = f.ended in let c = f.clauses 𝓛 𝓜.mem 𝓡.returns in let fn = code.function in
    let hs : Stays En.signature.params En.kept = (stay_dropped (plain (λ _. Z)) yes, (stay_dropped (shr_slice_of (0 ∷ []) tt (plain (λ _. u8))) yes, (gave_ref (1 ∷ []) tt (plain (λ _. RawPtr)), (gave_ref (2 ∷ []) tt (plain (λ _. F)), tt)))) in
    let G = triple_of 𝓛 g.signature (g.spec 𝓛 𝓜.mem 𝓡.returns) in let K = triple_of 𝓛 k.signature (k.spec 𝓛 𝓜.mem 𝓡.returns) in
    proved_at 𝓛 En hs c 𝓜 𝓡
    (Goes-dropped 𝓛 3 (plain (λ _. Z)) yes (λ κs x w. refl), (Goes-dropped 𝓛 3 (shr_slice_of (0 ∷ []) tt (plain (λ _. u8))) yes (λ κs x w. refl), (Goes-gave_ref 𝓛 3 1 tt (plain (λ _. RawPtr)), (Goes-gave_ref 𝓛 3 2 tt (plain (λ _. F)), tt))))
    f.Key.name fn (code.unfolded 𝓤 H 𝓜 𝓡 wired) (λ z are.
    let κs = z.0.0 in let qs = z.0.1 in let Post : Val → SProp 𝓤 = (walk_of 𝓛 En hs c).post z in
    let Run : List Val → SProp 𝓤 = λ ws. WpFn 𝓤 H 𝓣.C 𝓣.Λ fn ws Post in
    let a = z.0.3.0 in let bytes = z.0.3.1.0 in let at = z.0.3.1.1.0 in let told = z.0.3.1.1.1.0 in
    let own = ‵ (flft κs.0 qs.0) in let lent = ‵ (flft κs.1.0 qs.1.0) in let rest = ‵ (flft κs.1.1.0 qs.1.1.0) ⊛ ‵ ftrue in
    let toks = own ⊛ lent ⊛ rest in let asked = raw ((c κs z.0.3).requires z.1) in
    let r0 : RattleType = ShrSlice (named 0) κs.0 u8 in let r1 : RattleType = MutRef (named 1) κs.1.0 RawPtr in let r2 : RattleType = MutRef (named 2) κs.1.1.0 F in
    let e0 : z.0.4.1.0 ≡ shr_slice_vals bytes = are.1.0.0.0 in let e1 : z.0.4.1.1.0 ≡ mut_vals at = are.1.1.0.0 in let e2 : z.0.4.1.1.1.0 ≡ mut_vals told = are.1.1.1.0.0 in
    -- the parameters, taken apart
    qed 𝓛 ((toks ⊛ ‵ (owns (types_at En.signature.params κs) z.0.3 z.0.4)) ∷ asked ∷ []) ∵
    split ! $ move ! (1 ∷ []) $ fsplit ! $
    handle_tells al ! a z.0.4.0 (λ h eh fits. move ! (1 ∷ []) $
    fsplit ! $ rewrite ! 0 (λ (xs : List Val). ‵ (r0.own_val bytes xs)) e0 refl $ move ! (1 ∷ []) $
    fsplit ! $ rewrite ! 0 (λ (xs : List Val). ‵ (r1.own_val at xs)) e1 refl $ move ! (1 ∷ []) $
    fsplit ! $ rewrite ! 0 (λ (xs : List Val). ‵ (r2.own_val told xs)) e2 refl $ move ! (1 ∷ []) $ drop ! $
    -- [the fault; the pointer's place; the bytes; the allocator; the tokens; nothing]
    let us : List Val = h ∷ (shr_slice_vals bytes ++ (mut_vals at ++ (mut_vals told ++ []))) in
    let ws : us ≡ z.0.4.0 ++ (z.0.4.1.0 ++ (z.0.4.1.1.0 ++ (z.0.4.1.1.1.0 ++ []))) = sym (λ i. eh i ++ (e0 i ++ (e1 i ++ (e2 i ++ [])))) in
    suffices ! (Run us) (subst (λ (xs : List Val). ent 𝓤 (Run us) (Run xs)) ws (id⊢ 𝓤 (Run us))) $
    enter ! 𝓣.C 𝓣.Λ fn us Post $ alloc_all ! (λ l. pass_all ! refl (fits, ((tt, (tt, (record { fits = are.1.0.0.1.0 }, tt))), ((tt, tt), ((tt, tt), tt)))) $
    sets ! (addr ! (through ! refl (stop !))) refl (tt, tt) $
    -- the call of `open`
    let y : G.Ghost = (((κs.0, (κs.1.1.0, tt)), (qs.0, (qs.1.1.0, tt)), tt, (a, (bytes, (told, tt))), (h ∷ [], (shr_slice_vals bytes, (mut_vals told, tt)))), tt) in
    move ! (4 ∷ []) $ split ! $ move ! (1 ∷ []) $ split ! $ move ! (2 ∷ 1 ∷ []) $ join ! $
    move ! (2 ∷ 4 ∷ 5 ∷ []) $ nothing ! $ move ! (1 ∷ 0 ∷ []) $ fjoin ! $ move ! (1 ∷ 0 ∷ []) $ fjoin ! $ move ! (1 ∷ 0 ∷ []) $ fjoin ! $
    move ! (1 ∷ 0 ∷ []) $ join ! $ nothing ! $ move ! (1 ∷ 0 ∷ []) $ use2 𝓛 (raw (G.pre y)) (id⊢ 𝓤 _) $
    calls_at ! (fm 𝓛 𝓜 𝓡) G (opened.met 𝓤 𝓛 𝓜 𝓡 (code.calls-trdp_node::open 𝓡.env wired)) y (and_then ! (get ! refl) (and_then ! (get ! refl) (and_then ! (get ! refl) (no_more !)))) (λ u.
    use1 𝓛 (later (some (λ (r : P.Denot). ((own ⊛ rest) ⊛ ‵ (P.own_val r (u ∷ []))) ⊛ some (λ (ls : Lasts g.ended y.0.0 y.0.3). ‵ (lasts g.ended y.0.0 y.0.3 ls) ⊛ raw ((g.clauses 𝓛 𝓜.mem 𝓡.returns y.0.0 y.0.3).ensures tt r (at_exit g.ended y.0.0 y.0.3 ls)))))) (id⊢ 𝓤 (G.post y u)) $
    await ! tt $ pick ! (λ r. split ! $ split ! $ move ! (1 ∷ []) $
    or_null_out R Z LZ ghosts ! r (u ∷ []) (λ h' eu fits'.
    lands_as ! (ap only eu) refl (or_null_good R Z LZ ghosts r.at h' fits') $
    sets ! (of_opd ! (get_in ! (fld ! refl (stop !)) (sub ! 0 refl (whole !)))) refl (Ptr-Good r.at) $
    sets ! (addr ! (through ! refl (stop !))) refl (tt, tt) $ sets ! (of_opd ! (get ! refl)) refl (Ptr-Good r.at) $
    -- [what lies there; the allocator; the tokens; the fault's last value; the other token; the pointer's place; nothing]
    move ! (3 ∷ []) $ pick ! (λ ls. split ! $ move ! (1 ∷ []) $ heard ! (TellsOpening bytes.now ls.1.1.0 r.at r.value) (λ tells.
    fsplit ! $ drop ! $ fsplit ! $ drop ! $ fsplit ! $ move ! (1 ∷ []) $ drop ! $
    -- the call of `put_pointer`
    let x : K.Ghost = (((κs.1.0, tt), (qs.1.0, tt), tt, (at, (r.at, tt)), (mut_vals at, (ptr_val r.at ∷ [], tt))), tt) in
    move ! (5 ∷ []) $ feq_i ! (List Val) (ptr_val r.at ∷ []) (ptr_val r.at ∷ []) refl $ nothing ! $ move ! (1 ∷ 0 ∷ []) $ fjoin ! $ move ! (1 ∷ 0 ∷ []) $ fjoin ! $
    nothing ! $ move ! (6 ∷ 0 ∷ []) $ join ! $ join ! $ nothing ! $ move ! (1 ∷ 0 ∷ []) $ use2 𝓛 (raw (K.pre x)) (id⊢ 𝓤 _) $
    calls_at ! (fm 𝓛 𝓜 𝓡) K (written.met 𝓤 𝓛 𝓜 𝓡 (code.calls-trdp_node::put_pointer 𝓡.env wired)) x (and_then ! (get ! refl) (and_then ! (get ! refl) (no_more !))) (λ v.
    use1 𝓛 (later (some (λ (w : Unit {0}). ((lent ⊛ ‵ ftrue) ⊛ ‵ (unit.own_val w (v ∷ []))) ⊛ some (λ (ms : Lasts k.ended x.0.0 x.0.3). ‵ (lasts k.ended x.0.0 x.0.3 ms) ⊛ raw ((k.clauses 𝓛 𝓜.mem 𝓡.returns x.0.0 x.0.3).ensures tt w (at_exit k.ended x.0.0 x.0.3 ms)))))) (id⊢ 𝓤 (K.post x v)) $
    await ! tt $ pick ! (λ w. split ! $ split ! $ move ! (1 ∷ []) $ feq_l ! (λ is_unit. lands_as ! (ap only is_unit) refl (tt, tt) $ move ! (1 ∷ []) $
    pick ! (λ ms. split ! $ move ! (1 ∷ []) $ heard ! (ms.0 ≡ r.at) (λ put.
    fsplit ! $ move ! (1 ∷ []) $ drop ! $
    -- [the pointer's last value; its token; the fault's last value; what lies there; the allocator; the other tokens; nothing]
    let Did : P.Denot → Type 0 = λ d. TellsOpening bytes.now ls.1.1.0 ms.0 d.value in
    let did : Did r = subst (λ (p : Ptr). TellsOpening bytes.now ls.1.1.0 p r.value) (sym put) tells in
    move ! (3 ∷ []) $ rewrite ! 0 (λ (p : Ptr). ‵ (owns_if (ghosts.dealloc_token a) R p r.value)) (sym put) refl $
    use0 𝓛 (raw (fact 𝓤 (Did r))) (fact_i 𝓤 (Did r) (emp 𝓤) did) $ move ! (1 ∷ 0 ∷ []) $
    use2 𝓛 (raw ((c κs z.0.3).ensures z.1 tt (at_exit En κs z.0.3 (tt, (tt, (ms.0, (ls.1.1.0, tt))))))) (ex_i 𝓤 (λ held. sep 𝓤 (sem 𝓛 (owns_if (ghosts.dealloc_token a) R ms.0 held)) (fact 𝓤 (TellsOpening bytes.now ls.1.1.0 ms.0 held))) r.value) $
    -- the return
    sets ! (of_opd ! (unit_lit !)) refl (tt, tt) $ returns ! (look_at ! 0 refl) $ free_all ! refl $ feq_i ! _ (vunit ∷ []) _ refl $
    nothing ! $ move ! (5 ∷ 0 ∷ []) $ fjoin ! $ move ! (3 ∷ 0 ∷ []) $ fjoin ! $ nothing ! $ fjoin ! $ nothing ! $ fjoin ! $
    move ! (5 ∷ []) $ split ! $ move ! (5 ∷ []) $ split ! $ move ! (1 ∷ []) $ drop ! $ move ! (0 ∷ 2 ∷ []) $ join ! $ move ! (1 ∷ 0 ∷ []) $ join ! $
    keep ! (0 ∷ 1 ∷ 2 ∷ 3 ∷ []) $
    by ! (leaves 𝓛 En hs c z vunit tt (tt, (tt, (ms.0, (ls.1.1.0, tt)))) (tt, (tt, (tt, (tt, tt))))))))))))))))))
