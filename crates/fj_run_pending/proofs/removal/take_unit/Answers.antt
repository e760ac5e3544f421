use Rattle.std.proofs.Common.{◌≡◌, ◌+◌, ◌-◌, ◌++◌, not, Bool, length, filter, take, drop, ap, ◌∙◌, arith}
use Rattle.fj_book.proofs.SiftLemmas.{turned_back}
use Rattle.fj_run_pending.specs.declared.held.Held.{Held}
use Rattle.fj_run_pending.specs.declared.pick.Pick.TheVariants.{OfUnit}
use Rattle.fj_run_pending.specs.Waits.{picks}
use Rattle.fj_run_pending.proofs.Idle.{own_behind, others_behind}
use Rattle.fj_run_pending.proofs.Parting.{all_part, turned_front}
use Rattle.fj_run_pending.proofs.removal.take_unit.Goals as goal

pub returns-then-told_count-len-clause-told : goal.returns-then-told_count-len-clause-told
returns-then-told_count-len-clause-told c =
    let hs = c.args.helds.now.items in
    let all : length (filter (picks (OfUnit c.args.unit)) hs) ≡ length hs = omega (arith, c.args.helds.now.ok, c.count_of-told_count.ensures, c.len.ensures, c.if-told_count-len.true, ap length (own_behind c.args.unit c.args.from hs c.requires.none)) in
    ap (λ d. d.items) c.replace.ensures.value ∙ (all_part (picks (OfUnit c.args.unit)) hs all).0

pub returns-then-told_count-len-clause-left : goal.returns-then-told_count-len-clause-left
returns-then-told_count-len-clause-left c =
    let hs = c.args.helds.now.items in
    let all : length (filter (picks (OfUnit c.args.unit)) hs) ≡ length hs = omega (arith, c.args.helds.now.ok, c.count_of-told_count.ensures, c.len.ensures, c.if-told_count-len.true, ap length (own_behind c.args.unit c.args.from hs c.requires.none)) in
    ap (λ d. d.items) c.replace.ensures.after ∙ c.new.ensures.items ∙ (all_part (picks (OfUnit c.args.unit)) hs all).1

pub returns-clause-told : goal.returns-clause-told
returns-clause-told c =
    let own : Held → Bool = picks (OfUnit c.args.unit) in
    let hs = c.args.helds.now.items in
    let n = c.len-2.result - c.args.from in
    let all : n + c.args.from ≡ length hs = omega (arith, c.args.helds.now.ok, c.len-2.ensures, c.requires.from) in
    c.part.ensures.told ∙ ap (λ l. filter own (take n l)) c.rotate_left.ensures.items ∙ ap (filter own) (turned_front hs c.args.from n all) ∙ own_behind c.args.unit c.args.from hs c.requires.none

pub returns-clause-left : goal.returns-clause-left
returns-clause-left c =
    let other : Held → Bool = λ h. not (picks (OfUnit c.args.unit) h) in
    let hs = c.args.helds.now.items in
    let n = c.len-2.result - c.args.from in
    let all : n + c.args.from ≡ length hs = omega (arith, c.args.helds.now.ok, c.len-2.ensures, c.requires.from) in
    c.part.ensures.left ∙ ap (λ l. drop n l ++ filter other (take n l)) c.rotate_left.ensures.items ∙ turned_back other hs c.args.from n all ∙ others_behind c.args.unit c.args.from hs c.requires.none
