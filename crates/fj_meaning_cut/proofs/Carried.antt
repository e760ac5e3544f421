-- What a job that is carried out at a slot makes of the connection there.
use Rattle.std.proofs.Common.{◌≡◌, ℕ, List, Option, Some, None, slice_get, refl, sym, ap, ◌∙◌, subst, inl, inr}
use Rattle.std.specs.Prelude.{IfSome}
use Rattle.std.proofs.lemmas.Bool.Decides.{eqb_tells}
use Rattle.fj_connect.specs.Connection.{Connection}
use Rattle.fj_connect.specs.Positions.{ended}
use Rattle.fj_bay.specs.Bay.{Bay}
use Rattle.fj_bay.specs.Jobs.{Job, Looked, attach, detach, move, go, change, flush, look, resume}
use Rattle.fj_bay.specs.Serving.{serve, attached, detached, looked}
use Rattle.fj_bay.specs.BayLaws.{KeepsConnection}
use Rattle.fj_bay.proofs.BayProofs.{keeps_its_connection}
use Rattle.fj_meaning_jobs.specs.Desks.{Desk, carry, carry_at, outcome, connection_in}
use Rattle.fj_meaning_jobs.specs.Desking.{connection_at}
use Rattle.fj_meaning_jobs.specs.Forgetting.{bay_at}
use Rattle.fj_meaning_jobs.proofs.Carrying.{carry_other, serves_at}

pub connection_of_bay : (o : Option Desk) (b : Bay) → bay_at o ≡ Some b → connection_at o ≡ b.connection
connection_of_bay None b e = cc
connection_of_bay (Some d) b e = let same : d.bay ≡ b = cc in ap (λ (x : Bay). x.connection) same

-- the connection at a slot
abbrev pub there : List Desk → ℕ → Option Connection
there ds slot = connection_at (slice_get ds slot)

there_then : (ds : List Desk) (slot : ℕ) (job : Job) (bay : Bay) → bay_at (slice_get ds slot) ≡ Some bay → there (carry ds slot job) slot ≡ (serve bay job).engine.connection
there_then ds slot job bay e = connection_of_bay (slice_get (carry ds slot job) slot) (serve bay job).engine (serves_at ds slot job bay e).reaches.here

-- a slot that has this connection
record Full (ds : List Desk) (slot : ℕ) (c : Connection) : Type 0 where
  bay : Bay
  has : bay.connection ≡ Some c
  is : bay_at (slice_get ds slot) ≡ Some bay

full_at : (ds : List Desk) (slot : ℕ) (c : Connection) → there ds slot ≡ Some c → Full ds slot c
full_at ds slot c e = by (slice_get ds slot) refl e
  where
    by : (o : Option Desk) → slice_get ds slot ≡ o → connection_at o ≡ Some c → Full ds slot c
    by None f e = cc
    by (Some d) f e = record { bay = d.bay; has = e; is = ap bay_at f }

-- ---- jobs that leave what is seen of the connection as it is

abbrev pub Idles : {T : Type 0} → (Option Connection → T) → Job → Type 0
Idles f job = (bay : Bay) → f (serve bay job).engine.connection ≡ f bay.connection

module _ {T : Type 0} (f : Option Connection → T) where
  pub resume_idles : Idles f resume
  unfolding serve
  resume_idles bay = refl

  pub flush_idles : Idles f flush
  unfolding serve
  flush_idles bay = refl

  pub look_idles : (place : Option Looked) → Idles f (look place)
  unfolding serve
  look_idles place bay = ap f (by bay.connection)
    where
      by : (o : Option Connection) → (looked bay o place).engine.connection ≡ bay.connection
      by None = refl
      by (Some c) = refl

  pub idle_there : (ds : List Desk) (slot : ℕ) (job : Job) → Idles f job → (k : ℕ) → f (there (carry ds slot job) k) ≡ f (there ds k)
  idle_there ds slot job h k = elim (eqb_tells k slot) [
    | inl a ↦ ap (λ j. f (there (carry ds slot job) j)) a.1 ∙ here (slice_get ds slot) refl ∙ sym (ap (λ j. f (there ds j)) a.1)
    | inr a ↦ ap (λ o. f (connection_at o)) (carry_other ds slot job k a.1)
  ]
    where
      here : (o : Option Desk) → slice_get ds slot ≡ o → f (there (carry ds slot job) slot) ≡ f (there ds slot)
      here None e = ap (λ o. f (connection_at (slice_get (carry_at o ds slot job) slot))) e
      here (Some d) e = ap f (there_then ds slot job d.bay (ap bay_at e)) ∙ h d.bay ∙ sym (ap (λ o. f (connection_at o)) e)

-- ---- the connection goes out

pub gone_there : (ds : List Desk) (slot : ℕ) (c : Connection) → there ds slot ≡ Some c → there (carry ds slot (detach None)) slot ≡ None
unfolding serve
gone_there ds slot c e = let f = full_at ds slot c e in there_then ds slot (detach None) f.bay f.is ∙ ap (λ o. (detached f.bay o None).engine.connection) f.has

pub came_out : (ds : List Desk) (slot : ℕ) (c : Connection) → there ds slot ≡ Some c → connection_in (outcome ds slot (detach None)).0 ≡ Some (ended c)
unfolding serve
came_out ds slot c e =
    let f = full_at ds slot c e in
    ap (λ o. connection_in o.0) (serves_at ds slot (detach None) f.bay f.is).outcome_is ∙ ap (λ o. connection_in (detached f.bay o None).job) f.has

-- ---- the connection is under this name, if there is one

module _ (P : List ℕ → Type 0) where
  abbrev pub IfThere : Option Connection → Type 0
  IfThere o = IfSome o (λ c. P c.name)

  kept : (bay : Bay) (c : Connection) (job : Job) → KeepsConnection bay c job → P c.name → IfThere (serve bay job).engine.connection
  kept bay c job k h = subst IfThere (sym k.there) (subst P (sym k.named) h)

  served : (bay : Bay) (c : Connection) (job : Job) → bay.connection ≡ Some c → P c.name → IfThere (serve bay job).engine.connection
  unfolding serve
  served bay c (attach brought) e h = kept bay c (attach brought) (keeps_its_connection bay c (attach brought) e (λ place q. cc)) h
  served bay c (detach place) e h = subst (λ o. IfThere (detached bay o place).engine.connection) (sym e) tt
  served bay c (move t) e h = kept bay c (move t) (keeps_its_connection bay c (move t) e (λ place q. cc)) h
  served bay c (go how) e h = kept bay c (go how) (keeps_its_connection bay c (go how) e (λ place q. cc)) h
  served bay c (change edit) e h = kept bay c (change edit) (keeps_its_connection bay c (change edit) e (λ place q. cc)) h
  served bay c flush e h = kept bay c flush (keeps_its_connection bay c flush e (λ place q. cc)) h
  served bay c (look place) e h = kept bay c (look place) (keeps_its_connection bay c (look place) e (λ at q. cc)) h
  served bay c resume e h = kept bay c resume (keeps_its_connection bay c resume e (λ place q. cc)) h

  pub named_there : (ds : List Desk) (slot : ℕ) (job : Job) (c : Connection) → there ds slot ≡ Some c → P c.name → IfThere (there (carry ds slot job) slot)
  named_there ds slot job c e h = let f = full_at ds slot c e in subst IfThere (sym (there_then ds slot job f.bay f.is)) (served f.bay c job f.has h)

  pub brought_there : (ds : List Desk) (slot : ℕ) (c : Connection) → there ds slot ≡ None → P c.name → IfThere (there (carry ds slot (attach (Some c))) slot)
  unfolding serve
  brought_there ds slot c e h = by (slice_get ds slot) refl e
    where
      by : (o : Option Desk) → slice_get ds slot ≡ o → connection_at o ≡ None → IfThere (there (carry ds slot (attach (Some c))) slot)
      by None f none = subst IfThere (sym (ap (λ o. connection_at (slice_get (carry_at o ds slot (attach (Some c))) slot)) f ∙ ap connection_at f)) tt
      by (Some d) f none =
          subst IfThere (sym (there_then ds slot (attach (Some c)) d.bay (ap bay_at f) ∙ ap (λ o. (attached d.bay o (Some c)).engine.connection) none)) h
