-- The modes of a unit's connection stay.
use Rattle.std.proofs.Common.{◌≡◌, Option, Some, None, refl, ap, ◌∙◌}
use Rattle.fj_modes.specs.declared.modes.Modes.{Modes}
use Rattle.fj_connect.specs.Connection.{Connection}
use Rattle.fj_bay.specs.Bay.{Bay}
use Rattle.fj_bay.specs.Jobs.{Moving, move, attach, detach, resume}
use Rattle.fj_bay.specs.Serving.{serve, moved_in, attached, detached}
use Rattle.fj_bay.proofs.BayProofs.{keeps_its_connection}
use Rattle.fj_unit.specs.Unit.{Unit, given}
use Rattle.fj_unit.specs.Statements.{modes_of}

abbrev modes_at : Option Connection → Option Modes
modes_at o = modes_of (record { connection = o; halt = None })

moved_keeps : (bay : Bay) (t : Moving) (o : Option Connection) → bay.connection ≡ o → modes_of (serve bay (move t)).engine ≡ modes_at o
unfolding serve
moved_keeps bay t None e = ap (λ x. modes_of (moved_in bay x t).engine) e ∙ ap modes_at e
moved_keeps bay t (Some c) e =
    let k = keeps_its_connection bay c (move t) e (λ place is. absurd (cc)) in
    ap modes_at k.there ∙ ap Some (k.modes (λ edit is. absurd (cc)))

pub modes_moved : (u new : Unit) (t : Moving) → new ≡ given u (move t) → modes_of new.bay ≡ modes_of u.bay
modes_moved u new t e = ap (λ (v : Unit). modes_of v.bay) e ∙ moved_keeps u.bay t u.bay.connection refl

pub modes_resumed : (u new : Unit) → new ≡ given u resume → modes_of new.bay ≡ modes_of u.bay
unfolding serve
modes_resumed u new e = ap (λ (v : Unit). modes_of v.bay) e

attached_at : (bay : Bay) (c : Connection) (o : Option Connection) → bay.connection ≡ o → o ≡ None → modes_of (serve bay (attach (Some c))).engine ≡ Some c.modes
unfolding serve
attached_at bay c None e none = ap (λ x. modes_of (attached bay x (Some c)).engine) e
attached_at bay c (Some d) e none = absurd (cc)

stands_at : (bay : Bay) (c : Connection) (o : Option Connection) (m : Modes) → bay.connection ≡ o → modes_at o ≡ Some m
    → modes_of (serve bay (attach (Some c))).engine ≡ Some m
unfolding serve
stands_at bay c None m e is = absurd (cc)
stands_at bay c (Some d) m e is = ap (λ x. modes_of (attached bay x (Some c)).engine) e ∙ ap modes_at e ∙ is

no_connection : (o : Option Connection) → modes_at o ≡ None → o ≡ None
no_connection None e = refl
no_connection (Some c) e = absurd (cc)

detached_at : (bay : Bay) (o : Option Connection) → bay.connection ≡ o → modes_of (serve bay (detach None)).engine ≡ None
unfolding serve
detached_at bay None e = ap (λ x. modes_of (detached bay x None).engine) e ∙ ap modes_at e
detached_at bay (Some c) e = ap (λ x. modes_of (detached bay x None).engine) e

pub modes_attached : (u new : Unit) (c : Connection) → new ≡ given u (attach (Some c)) → modes_of u.bay ≡ None → modes_of new.bay ≡ Some c.modes
modes_attached u new c e none = ap (λ (v : Unit). modes_of v.bay) e ∙ attached_at u.bay c u.bay.connection refl (no_connection u.bay.connection none)

pub modes_detached : (u new : Unit) → new ≡ given u (detach None) → modes_of new.bay ≡ None
modes_detached u new e = ap (λ (v : Unit). modes_of v.bay) e ∙ detached_at u.bay u.bay.connection refl

pub modes_stand : (u new : Unit) (c : Connection) (m : Modes) → new ≡ given u (attach (Some c)) → modes_of u.bay ≡ Some m → modes_of new.bay ≡ Some m
modes_stand u new c m e is = ap (λ (v : Unit). modes_of v.bay) e ∙ stands_at u.bay c u.bay.connection m refl is
