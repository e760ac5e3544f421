-- The job behind the handle is lent to `values` for a lifetime made for the call, and comes back.
use Rattle.std.proofs.Common.{ℕ, [], ◌∷◌, ◌++◌, refl, w32}
use Rattle.std.proofs.raw_atomic.Walks.{proved}
use base.Fraction.{full_share}
use base.Logic.{id⊢, sep}
use base.Fml.{ftrue, fsep, fex, fauth, flft, flent}
use mir.Syntax.{named}
use mir.Val.{vptr}
use contract.Monad.{fact}
use contract.Running.{tables}
use prog.Wp.{WpFn}
use types.Logic.{sem}
use types.Kit.{‵, raw, ◌⊛◌, some, later, prop, ◌$◌, ◌∵◌, !, qed, done, move, keep, drop, use1, use2, use3, split, join, fsplit, fjoin, feq_l, flt_i, flt_l, pick, await, regoal, suffices, frame, group, show}
use types.Run.{from, fld, hop, enter, of_opd, addr, stop, no_more, and_then, returns}
use types.Part.{agg, sub, whole}
use types.ByLocal.{get_in, look_in_at, alloc_all, pass_all, free_all, look_at, get, through, sets, lands_as}
use types.Tokens.{lft_new, lft_end}
use denote.Builtin.{i64, u32}
use denote.Slice.{MutSlice, mut_slice_vals, mut_slice_Tells}
use denote.Exit.{yes}
use denote.Lend.{lends_ref, ref_back}
use denote.Memory.{mem}
use denote.Plain.{uint_vals, uint_Tells, uint_Lawful}
use denote.RawPtr.{Ptr, RawPtr, block_ptr, lies_at, in_a_block, rawptr_vals, rawptr_Tells}
use denote.Ref.{MutRef}
use denote.Signature.{plain}
use denote.Steps.{nothing, heard, peeks}
use denote.Laws.{Is, shows}
use denote.Triple.Call.{calls_at}
use denote.Triple.Clauses.{Lasts, lasts}
use denote.Triple.Spec.{triple_of}
use denote.Triple.Walked.{Stays, walk_of, says, stay_dropped, Goes-dropped, gave_slice, Goes-gave_slice, ends_at}
use denote.Triple.Table.{framed}
use Rattle.fj_link.specs.Calls.{Gives}
use Rattle.fj_link.specs.declared.handle.Handle.{Handle}
use Rattle.fj_link.specs.contracts.handle.Handle.{the_row as R}
use Rattle.fj_link.specs.contracts.handle.values as g
use Rattle.fj_link.proofs.handle.values.Met.{met}
use Rattle.fj_link.specs.contracts.exports.fj_link_values as f
use Rattle.fj_link.proofs.exports.fj_link_values.Statement.{statement}
use Rattle.fj_link.proofs.exports.fj_link_values.Code as code

abbrev stayed : Stays f.ended.signature.params f.ended.kept
stayed = (stay_dropped _ yes, (stay_dropped _ yes, (gave_slice (0 ∷ []) tt (plain (λ _. i64)), tt)))

pub fj_link_values_spec : {M : Type 1} → statement M
fj_link_values_spec 𝓤 𝓛 𝓜 𝓡 wired =
    let c = f.clauses 𝓛 𝓜.mem 𝓡.returns in let W = walk_of 𝓛 f.ended stayed c in let 𝓣 = tables 𝓤 𝓛.H 𝓜 𝓡 𝓡.env in
    proved 𝓛 f.ended stayed c 𝓜 𝓡 (Goes-dropped 𝓛 1 (plain (λ _. RawPtr)) yes (λ κs x w. refl), (Goes-dropped 𝓛 1 (plain (λ _. u32)) yes (λ κs x w. refl), (Goes-gave_slice 𝓛 1 0 tt (plain (λ _. i64)), tt)))
    f.Key.name code.function (code.unfolded 𝓤 𝓛.H 𝓜 𝓡 wired)
    (λ κs. (rawptr_vals, (uint_vals w32, (mut_slice_vals, tt)))) (λ κs. (rawptr_Tells, (uint_Tells w32, (mut_slice_Tells (named 0) κs.0 i64, tt)))) (λ κs qs bounds a job are.
    let x = a.1.0 in let text = a.1.1.0 in let κ₀ = κs.0 in let q = qs.0 in
    let y : Ptr → W.Ghost = λ p. ((κs, qs, bounds, (p, (x, (text, tt))), (rawptr_vals p, (uint_vals w32 x, (mut_slice_vals text, tt)))), job) in
    qed 𝓛 (((‵ (flft κ₀ q) ⊛ ‵ ftrue) ⊛ ‵ (RawPtr.own_val a.0 (rawptr_vals a.0)) ⊛ ‵ (u32.own_val x (uint_vals w32 x)) ⊛ ‵ ((MutSlice (named 0) κ₀ i64).own_val text (mut_slice_vals text)) ⊛ ‵ ftrue) ∷ ‵ (lies_at R full_share a.0 job) ∷ []) ∵
    split ! $ split ! $ move ! (2 ∷ []) $ split ! $ drop ! $ split ! $ move ! (1 ∷ []) $ split ! $
    -- [the body; nothing; the identifier; its token; nothing; the session]
    fsplit ! $ fsplit ! $ move ! (1 ∷ []) $ fsplit ! $ flt_l ! (λ fits. flt_l ! (λ roomy. flt_i ! _ _ roomy $ flt_i ! _ _ fits $ fjoin ! $ move ! (1 ∷ 0 ∷ []) $ fjoin ! $ fjoin ! $
    keep ! (5 ∷ 0 ∷ 3 ∷ 2 ∷ []) $
    -- [the session; the body; its token; the identifier]
    in_a_block ! a.0 (λ p. lies_at R full_share p job) (id⊢ 𝓤 _) (λ b o e.
    regoal ! (λ p. prop (WpFn 𝓤 𝓛.H 𝓣.C 𝓣.Λ code.function (rawptr_vals p ++ ((uint_vals w32 x) ++ (mut_slice_vals text ++ []))) (W.post (y p)))) e refl $
    let G = triple_of 𝓛 g.signature (g.spec 𝓛 𝓜.mem 𝓡.returns) in
    enter ! _ _ _ _ _ $ alloc_all ! (λ l. pass_all ! refl ((tt, tt), ((tt, record { fits = are.1.0.1 }), ((tt, (tt, (record { fits = fits }, tt))), tt))) $
    -- at as *mut Job
    sets ! (of_opd ! (get ! refl)) refl (tt, tt) $
    -- &mut *p
    sets ! (addr ! (through ! refl (stop !))) refl (tt, tt) $
    -- [the job; the locals]
    -- &mut *out
    sets ! (addr ! (from ! (fld ! refl (hop ! (look_in_at ! 3 (sub ! 0 refl (whole !))) (stop !))))) refl (tt, tt) $
    sets ! (agg ! (and_then ! (get ! refl) (and_then ! (get_in ! (fld ! refl (stop !)) (sub ! 1 refl (whole !))) (no_more !)))) refl (tt, (tt, (record { fits = fits }, tt))) $
    lft_new ! tt (λ α. let κ = α ∷ [] in move ! (1 ∷ []) $
    use1 𝓛 (later (some (λ (γ : ℕ). ‵ ((MutRef (named 0) κ R).own_val (record { ref_ptr = (b, o); ghost_name = γ; now = job }) (vptr b o ∷ [])) ⊛ ‵ (flent κ (fex R.Denot (λ h. fsep ((mem R).own_at h b o) (fauth γ (R.coded.code h))))))))
    (lends_ref 𝓛 R (named 0) κ job b o) $ await ! tt $ pick ! (λ γ. split ! $
    -- [the loan; what is lent; the token of α; the locals]
    let z : G.Ghost = (((κ, (κ₀, tt)), (full_share, (q, tt)), tt, (record { ref_ptr = (b, o); ghost_name = γ; now = job }, (x, (text, tt))), (vptr b o ∷ [], (uint_vals w32 x, (mut_slice_vals text, tt)))), tt) in
    nothing ! $ move ! (4 ∷ 0 ∷ []) $ join ! $ move ! (5 ∷ 0 ∷ []) $ join ! $ move ! (1 ∷ 0 ∷ []) $ join ! $
    nothing ! $ move ! (4 ∷ 0 ∷ []) $ join ! $ move ! (3 ∷ 0 ∷ []) $ join ! $ join ! $ nothing ! $ move ! (1 ∷ 0 ∷ []) $ use2 𝓛 (raw (G.pre z)) (id⊢ 𝓤 _) $
    calls_at ! (framed 𝓤 𝓛.H 𝓜 𝓣) G (met 𝓤 𝓛 𝓜 𝓡 (code.calls-fj_link::handle::values 𝓡.env wired)) z
    (and_then ! (get ! refl) (and_then ! (get ! refl) (and_then ! (get ! refl) (no_more !)))) (λ v.
    use1 𝓛 (later (some (λ (r : ℕ). ((‵ (flft κ full_share) ⊛ ‵ (flft κ₀ q) ⊛ ‵ ftrue) ⊛ ‵ (u32.own_val r (v ∷ []))) ⊛
    some (λ (ws : Lasts g.ended z.0.0 z.0.3). ‵ (lasts g.ended z.0.0 z.0.3 ws) ⊛ raw (fact 𝓤 (Gives job x ws.0 ws.1.1.0 r)))))) (id⊢ 𝓤 _) $
    await ! tt $ pick ! (λ r. split ! $ split ! $ split ! $ lft_end ! tt $ move ! (2 ∷ []) $
    peeks ! u32 (Is u32) (shows 𝓛 u32) r (v ∷ []) (λ is. lands_as ! refl refl ((uint_Lawful 𝓛 w32).typed r _ is).0 $
    move ! (3 ∷ []) $ pick ! (λ ws. split ! $ move ! (1 ∷ []) $ heard ! _ (λ added. fsplit ! $ fsplit ! $
    -- [the loan's last value; its borrow; the others' last values; the result; α is over; the buffer's token; what is lent]
    move ! (2 ∷ []) $ fsplit ! $ move ! (1 ∷ []) $ fsplit ! $ fsplit ! $ fsplit ! $ move ! (1 ∷ []) $ feq_l ! (λ long. fjoin ! $
    -- [the buffer; nothing; nothing; the loan's last value; its borrow; the result; α is over; the token; what is lent]
    move ! (6 ∷ 8 ∷ 3 ∷ []) $ use3 𝓛 (later (‵ ((mem R).own_at ws.0 b o))) (ref_back 𝓛 R κ γ ws.0 b o) $ await ! tt $
    returns ! (look_at ! 0 refl) $ free_all ! refl $ keep ! (5 ∷ 6 ∷ 0 ∷ 1 ∷ []) $
    suffices ! _ (ends_at 𝓛 f.ended stayed c (y (block_ptr b o)) v r (tt, (tt, (ws.1.1.0, tt))) (tt, (tt, (long, tt)))) $
    nothing ! $ move ! (4 ∷ 0 ∷ []) $ join ! $ nothing ! $ join ! $ nothing ! $ join ! $ move ! (2 ∷ 0 ∷ 1 ∷ []) $ group ! 3 $ frame ! $
    show ! (λ (after : Handle). sep 𝓤 (sem 𝓛 (lies_at R full_share (block_ptr b o) after)) (fact 𝓤 (Gives job x after ws.1.1.0 r))) ws.0 $ says ! added $ done !)))))))))))))
