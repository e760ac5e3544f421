-- The job is moved out of the caller's room.
use Rattle.std.proofs.Common.{ℕ, [], ◌∷◌, ◌++◌, refl, w32}
use Rattle.std.proofs.raw_atomic.Walks.{proved}
use base.Fraction.{full_share}
use base.Logic.{id⊢}
use base.Fml.{ftrue, fat}
use lib.Dec.{T}
use mir.Syntax.{Ty}
use mir.Val.{Val, has_ty, WT}
use borrow.Table.OneValue.{part_out}
use contract.Monad.{fact}
use contract.Running.{tables}
use prog.Wp.{WpFn}
use types.Kit.{‵, raw, ◌⊛◌, some, later, prop, ◌$◌, ◌∵◌, !, qed, done, move, keep, drop, use1, use2, split, join, pick, await, regoal, suffices, group, frame}
use types.Run.{enter, of_opd, load, look, stop, no_more, and_then, returns}
use types.ByLocal.{alloc_all, pass_all, free_all, look_at, get, through, sets, lands_as}
use denote.Builtin.{u32}
use denote.Exit.{yes}
use denote.Plain.{uint_Lawful}
use denote.Param.{layout}
use denote.RawPtr.{Ptr, RawPtr, block_ptr, lies_at, room_at, in_a_block, rawptr_vals, rawptr_Tells}
use denote.Signature.{plain}
use denote.Steps.{nothing, heard, peeks}
use denote.Laws.{Is, shows}
use denote.Triple.Call.{calls_at}
use denote.Triple.Clauses.{Lasts, lasts}
use denote.Triple.Entry.{on_entry}
use denote.Triple.Spec.{triple_of}
use denote.Triple.Walked.{Stays, walk_of, says, stay_dropped, Goes-dropped, ends_at}
use denote.Triple.Table.{framed}
use Rattle.fj_link.specs.Calls.{Ended}
use Rattle.fj_link.specs.contracts.handle.Handle.{the_row as R}
use Rattle.fj_link.proofs.handle.Handle.TheLaws.{the_row_laws}
use Rattle.fj_link.specs.contracts.handle.ended as g
use Rattle.fj_link.proofs.handle.ended.Met.{met}
use Rattle.fj_link.specs.contracts.exports.fj_link_end as f
use Rattle.fj_link.proofs.exports.fj_link_end.Statement.{statement}
use Rattle.fj_link.proofs.exports.fj_link_end.Code as code

abbrev stayed : Stays f.ended.signature.params f.ended.kept
stayed = (stay_dropped _ yes, tt)

pub fj_link_end_spec : {M : Type 1} → statement M
fj_link_end_spec 𝓤 𝓛 𝓜 𝓡 wired =
    let c = f.clauses 𝓛 𝓜.mem 𝓡.returns in let W = walk_of 𝓛 f.ended stayed c in let 𝓣 = tables 𝓤 𝓛.H 𝓜 𝓡 𝓡.env in
    proved 𝓛 f.ended stayed c 𝓜 𝓡 (Goes-dropped 𝓛 0 (plain (λ _. RawPtr)) yes (λ κs x w. refl), tt)
    f.Key.name code.function (code.unfolded 𝓤 𝓛.H 𝓜 𝓡 wired)
    (λ κs. (rawptr_vals, tt)) (λ κs. (rawptr_Tells, tt)) (λ κs qs bounds a job are.
    let y : Ptr → W.Ghost = λ p. ((κs, qs, bounds, (p, tt), (rawptr_vals p, tt)), job) in
    let τ : Ty = layout R in
    let G = triple_of 𝓛 g.signature (g.spec 𝓛 𝓜.mem 𝓡.returns) in
    qed 𝓛 (raw (on_entry 𝓛 f.signature κs qs a (y a.0).0.4) ∷ ‵ (lies_at R full_share a.0 job) ∷ []) ∵ drop ! $
    in_a_block ! a.0 (λ p. lies_at R full_share p job) (id⊢ 𝓤 _) (λ b o e.
    regoal ! (λ p. prop (WpFn 𝓤 𝓛.H 𝓣.C 𝓣.Λ code.function (rawptr_vals p ++ []) (W.post (y p)))) e refl $
    use1 𝓛 (some (λ (v : Val). ‵ (fat full_share τ b o v) ⊛ ‵ (R.own_val job (v ∷ [])))) (part_out 𝓛 R refl full_share job b o) $ pick ! (λ v. split ! $ move ! (1 ∷ []) $
    peeks ! R (Is R) (shows 𝓛 R) job (v ∷ []) (λ is.
    let t : T (has_ty τ v) × WT v = ((the_row_laws.lawful 𝓛).typed job (v ∷ []) is).0 in
    enter ! _ _ _ _ _ $ alloc_all ! (λ l. pass_all ! refl ((tt, tt), tt) $
    sets ! (of_opd ! (get ! refl)) refl (tt, tt) $
    sets ! (of_opd ! (load ! (through ! refl (stop !)) (look ! 1 refl))) refl t $
    let z : G.Ghost = ((tt, tt, tt, (job, tt), (v ∷ [], tt)), tt) in
    nothing ! $ move ! (1 ∷ 0 ∷ []) $ join ! $ nothing ! $ join ! $ nothing ! $ move ! (1 ∷ 0 ∷ []) $ use2 𝓛 (raw (G.pre z)) (id⊢ 𝓤 _) $
    calls_at ! (framed 𝓤 𝓛.H 𝓜 𝓣) G (met 𝓤 𝓛 𝓜 𝓡 (code.calls-fj_link::handle::ended 𝓡.env wired)) z
    (and_then ! (get ! refl) (no_more !)) (λ u.
    use1 𝓛 (later (some (λ (r : ℕ). (‵ ftrue ⊛ ‵ (u32.own_val r (u ∷ []))) ⊛
    some (λ (ws : Lasts g.ended tt z.0.3). ‵ (lasts g.ended tt z.0.3 ws) ⊛ raw (fact 𝓤 (Ended job r)))))) (id⊢ 𝓤 _) $
    await ! tt $ pick ! (λ r. split ! $ split ! $ move ! (1 ∷ []) $
    peeks ! u32 (Is u32) (shows 𝓛 u32) r (u ∷ []) (λ isr. lands_as ! refl refl ((uint_Lawful 𝓛 w32).typed r _ isr).0 $
    move ! (2 ∷ []) $ pick ! (λ ws. split ! $ move ! (1 ∷ []) $ heard ! _ (λ over.
    -- [nothing; the result; nothing; the room]
    returns ! (look_at ! 0 refl) $ free_all ! refl $ keep ! (1 ∷ 3 ∷ []) $
    suffices ! _ (ends_at 𝓛 f.ended stayed c (y (block_ptr b o)) u r (tt, tt) (tt, tt)) $
    move ! (1 ∷ []) $ use1 𝓛 (‵ (room_at R (block_ptr b o))) (𝓛.laws.at_room τ b o v) $ move ! (1 ∷ []) $
    nothing ! $ nothing ! $ join ! $ nothing ! $ group ! 3 $ frame ! $ says ! over $ done !))))))))))
