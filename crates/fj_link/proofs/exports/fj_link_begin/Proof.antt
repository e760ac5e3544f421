-- The new job is moved into the caller's room.
use Rattle.std.proofs.Common.{[], ◌∷◌, ◌++◌, refl}
use Rattle.std.proofs.raw_atomic.Walks.{proved}
use base.Fraction.{full_share}
use base.Logic.{id⊢, sep}
use base.Fml.{ftrue}
use lib.Dec.{T}
use mir.Syntax.{Ty}
use mir.Val.{Val, has_ty, WT, vunit}
use borrow.Table.OneValue.{part_in}
use contract.Monad.{fact}
use contract.Running.{tables}
use prog.Wp.{WpFn}
use types.Logic.{sem}
use types.Kit.{‵, raw, ◌⊛◌, some, later, prop, ◌$◌, ◌∵◌, !, qed, done, move, keep, drop, use1, use2, split, join, pick, await, regoal, suffices, group, frame, feq_i, show}
use types.Run.{enter, of_opd, unit_lit, assigns, init, stop, no_more, and_then, returns}
use types.ByLocal.{alloc_all, pass_all, free_all, look_at, get, through, sets, lands_as}
use denote.Exit.{yes}
use denote.Param.{layout}
use denote.RawPtr.{Ptr, RawPtr, block_ptr, lies_at, room_at, in_a_block, rawptr_vals, rawptr_Tells}
use denote.Signature.{plain}
use denote.Steps.{nothing, heard, peeks}
use denote.Laws.{Is, shows}
use denote.Triple.Call.{calls_at}
use denote.Triple.Clauses.{Lasts, lasts}
use denote.Triple.Spec.{triple_of}
use denote.Triple.Walked.{Stays, walk_of, says, stay_dropped, Goes-dropped, ends_at}
use denote.Triple.Table.{framed}
use Rattle.std.specs.contracts.alloc.Global.{the_row as Heap}
use Rattle.std.proofs.alloc.Global.TheLaws as heap_laws
use Rattle.fj_link.specs.Calls.{IsMade}
use Rattle.fj_link.specs.declared.handle.Handle.{Handle}
use Rattle.fj_link.specs.contracts.handle.Handle.{the_row as R}
use Rattle.fj_link.proofs.handle.Handle.TheLaws.{the_row_laws}
use Rattle.fj_link.specs.contracts.handle.made as g
use Rattle.fj_link.proofs.handle.made.Met.{met}
use Rattle.fj_link.specs.contracts.exports.fj_link_begin as f
use Rattle.fj_link.proofs.exports.fj_link_begin.Statement.{statement}
use Rattle.fj_link.proofs.exports.fj_link_begin.Code as code

abbrev stayed : Stays f.ended.signature.params f.ended.kept
stayed = (stay_dropped _ yes, (stay_dropped _ yes, tt))

pub fj_link_begin_spec : {M : Type 1} → statement M
fj_link_begin_spec 𝓤 𝓛 𝓜 𝓡 wired =
    let c = f.clauses 𝓛 𝓜.mem 𝓡.returns in let W = walk_of 𝓛 f.ended stayed c in let 𝓣 = tables 𝓤 𝓛.H 𝓜 𝓡 𝓡.env in
    proved 𝓛 f.ended stayed c 𝓜 𝓡 (Goes-dropped 𝓛 0 (plain (λ _. Heap)) yes (λ κs x w. refl), (Goes-dropped 𝓛 0 (plain (λ _. RawPtr)) yes (λ κs x w. refl), tt))
    f.Key.name code.function (code.unfolded 𝓤 𝓛.H 𝓜 𝓡 wired)
    (λ κs. (λ h. heap_laws.the_told.val h ∷ [], (rawptr_vals, tt))) (λ κs. (heap_laws.the_told.tells, (rawptr_Tells, tt))) (λ κs qs bounds a _ are.
    let hv : Val = heap_laws.the_told.val a.0 in
    let y : Ptr → W.Ghost = λ p. ((κs, qs, bounds, (a.0, (p, tt)), (hv ∷ [], (rawptr_vals p, tt))), tt) in
    let τ : Ty = layout R in
    let G = triple_of 𝓛 g.signature (g.spec 𝓛 𝓜.mem 𝓡.returns) in
    let th : T (has_ty (layout Heap) hv) × WT hv = ((heap_laws.the_row_laws.lawful 𝓛).typed a.0 (hv ∷ []) are.0).0 in
    qed 𝓛 ((‵ ftrue ⊛ (‵ (Heap.own_val a.0 (hv ∷ [])) ⊛ ‵ (RawPtr.own_val a.1.0 (rawptr_vals a.1.0)) ⊛ ‵ ftrue)) ∷ ‵ (room_at R a.1.0) ∷ []) ∵
    split ! $ drop ! $ split ! $ move ! (1 ∷ []) $ drop ! $ move ! (1 ∷ []) $
    in_a_block ! a.1.0 (λ p. room_at R p) (id⊢ 𝓤 _) (λ b o e.
    regoal ! (λ p. prop (WpFn 𝓤 𝓛.H 𝓣.C 𝓣.Λ code.function ((hv ∷ []) ++ (rawptr_vals p ++ [])) (W.post (y p)))) e refl $
    enter ! _ _ _ _ _ $ alloc_all ! (λ l. pass_all ! refl (th, ((tt, tt), tt)) $
    sets ! (of_opd ! (get ! refl)) refl (tt, tt) $
    -- [the room; the allocator; the locals]
    let z : G.Ghost = ((tt, tt, tt, (a.0, tt), (hv ∷ [], tt)), tt) in
    nothing ! $ move ! (2 ∷ 0 ∷ []) $ join ! $ nothing ! $ join ! $ nothing ! $ move ! (1 ∷ 0 ∷ []) $ use2 𝓛 (raw (G.pre z)) (id⊢ 𝓤 _) $
    calls_at ! (framed 𝓤 𝓛.H 𝓜 𝓣) G (met 𝓤 𝓛 𝓜 𝓡 (code.calls-fj_link::handle::made 𝓡.env wired)) z
    (and_then ! (get ! refl) (no_more !)) (λ u.
    use1 𝓛 (later (some (λ (r : Handle). (‵ ftrue ⊛ ‵ (R.own_val r (u ∷ []))) ⊛
    some (λ (ws : Lasts g.ended tt z.0.3). ‵ (lasts g.ended tt z.0.3 ws) ⊛ raw (fact 𝓤 (IsMade r)))))) (id⊢ 𝓤 _) $
    await ! tt $ pick ! (λ r. split ! $ split ! $ move ! (1 ∷ []) $
    peeks ! R (Is R) (shows 𝓛 R) r (u ∷ []) (λ isr.
    let t : T (has_ty τ u) × WT u = ((the_row_laws.lawful 𝓛).typed r (u ∷ []) isr).0 in
    lands_as ! refl refl t $
    -- [the job; nothing; what is said of it; the room]
    move ! (2 ∷ []) $ pick ! (λ ws. split ! $ move ! (1 ∷ []) $ heard ! _ (λ new.
    -- [nothing; the job; nothing; the room; the locals]
    assigns ! (of_opd ! (get ! refl)) (through ! refl (stop !)) (init ! 3 refl t) $
    sets ! (of_opd ! (unit_lit !)) refl (tt, tt) $
    returns ! (look_at ! 0 refl) $ free_all ! refl $ keep ! (3 ∷ 1 ∷ []) $
    use2 𝓛 (‵ (lies_at R full_share (block_ptr b o) r)) (part_in 𝓛 R refl full_share r b o u) $
    suffices ! _ (ends_at 𝓛 f.ended stayed c (y (block_ptr b o)) vunit tt (tt, (tt, tt)) (tt, (tt, tt))) $
    feq_i ! _ (vunit ∷ []) _ refl $ nothing ! $ nothing ! $ join ! $ nothing ! $ join ! $ nothing ! $ group ! 3 $ frame ! $
    show ! (λ (after : Handle). sep 𝓤 (sem 𝓛 (lies_at R full_share (block_ptr b o) after)) (fact 𝓤 (IsMade after))) r $ says ! new $ done !))))))))
