use Rattle.std.proofs.Common.{◌≡◌, ℕ, false, rules, sym, ap, ◌∙◌}
use Rattle.std.proofs.lemmas.Int.{to_z-of_z}
use mir.Val.{to_z, of_z}
use mir.Syntax.{w64}
use Rattle.std.specs.Prelude.{ℤ, if◌then◌else◌}
use Rattle.fj_connect.specs.Linked.{connection_of}
use Rattle.fj_connect.specs.Spot.{size_ended}
use Rattle.fj_connect.specs.declared.spot.Spot.{Spot}
use Rattle.fj_perform.specs.Front.{counted, starts, follows, byte_within}
use Rattle.fj_perform.proofs.Starting.{begins_with_byte}
use Rattle.fj_perform.proofs.start.begins_at.Goals as goal

pub returns-in-Some-pos-clause-start : goal.returns-in-Some-pos-clause-start
returns-in-Some-pos-clause-start g c = λ t.
    let now = c.args.connection.now in
    let spec = c.args.spec.now in
    let old = connection_of g.F.FileStore.bytes c.args.connection.now in
    let size = g.F.FileStore.size c.args.connection.now.file in
    let byte = c.in-Some-pos.byte in
    let before : now.spot.after_end ≡ false = ap (λ (s : Spot). s.after_end) (sym c.spot.ensures.value) ∙ c.if-spot.false in
    let same : to_z w64 (of_z w64 c.in-Some-pos.byte) ≡ c.in-Some-pos.byte = search (rules, to_z-of_z) in
    let given : c.at_byte.result ≡ byte_within c.size_for.result (counted byte) = c.at_byte.ensures ∙ ap (λ (z : ℤ). byte_within c.size_for.result (counted z)) same in
    let there : c.at_byte.result ≡ byte_within (if spec.input then size_ended now.spot size else size) (counted byte) =
    given ∙ ap (λ (n : ℕ). byte_within n (counted c.in-Some-pos.byte)) c.size_for.ensures.size in
    ap (starts (follows spec.input old)) there ∙ begins_with_byte spec old size byte c.spot.ensures.placed (c.size_for.ensures.bytes t) before c.in_default.is c.in-Some-pos.is
