use Rattle.std.proofs.Common.{◌≡◌, ◌+◌, ◌&&◌, max, min, ltb, sym, ap, ◌∙◌}
use Rattle.std.proofs.lemmas.Bool.{eq-eqb, ne_eqb}
use Rattle.fj_store.proofs.RunLemmas.{meet_is}
use Rattle.fj_store.proofs.run.Run.meets.Goals as goal

pub returns-then-self-other : goal.returns-then-self-other
returns-then-self-other c =
    let a = c.args.self in
    let b = c.args.other in
    let first : c.from.result ≡ max a.first b.first = c.from.ensures ∙ c.max-first.ensures in
    let end : c.min-end.result ≡ min (a.first + a.count) (b.first + b.count) =
    c.min-end.ensures ∙ ap (λ n. min n c.end-2.result) c.end.ensures ∙ ap (min (a.first + a.count)) c.end-2.ensures in
    ap (λ n. ltb n c.min-end.result) first ∙ ap (ltb (max a.first b.first)) end
    ∙ ap (λ t. t && ltb (max a.first b.first) (min (a.first + a.count) (b.first + b.count))) (sym (eq-eqb a.var b.var c.if-self-other.true))
    ∙ sym (meet_is b.var b.first b.count a.var a.first a.count)

pub returns-else-self-other : goal.returns-else-self-other
returns-else-self-other c =
    let a = c.args.self in
    let b = c.args.other in
    let differ = ne_eqb a.var b.var c.if-self-other.false in
    differ ∙ ap (λ t. t && ltb (max a.first b.first) (min (a.first + a.count) (b.first + b.count))) (sym differ)
    ∙ sym (meet_is b.var b.first b.count a.var a.first a.count)
