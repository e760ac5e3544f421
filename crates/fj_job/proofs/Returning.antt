-- What closing leaves, once the connection that was kept went back.
use Rattle.std.proofs.Common.{◌≡◌, inl, inr, ℕ, ◌≤◌, Bool, true, false, List, [], ◌∷◌, Option, Some, None, IfSome, Result, OnOk, refl, sym, ap, ◌∙◌, subst, arith}
use Rattle.std.specs.Prelude.{◌||◌}
use Rattle.std.specs.FinSet as set
use Rattle.std.specs.Str.{bytes_eq}
use Rattle.std.proofs.lemmas.Slice.Eq.{bytes_eq-Decides}
use Rattle.fj_outside.specs.Holdings.{Holdings, SameAt}
use Rattle.fj_outside.specs.declared.errors.Stop.{Stop}
use Rattle.fj_connect.specs.Linked.{Linked}
use Rattle.fj_slot.specs.Ledger.{Ledger}
use Rattle.fj_slot.specs.Serving.{Meaning}
use Rattle.fj_slot.specs.Sound.{IsSound}
use Rattle.fj_world.specs.Rack.{Rack}
use Rattle.fj_bay.specs.Bay.{Bay}
use Rattle.fj_bay.specs.Jobs.{Job, Answer}
use Rattle.fj_meaning_jobs.specs.Core.{Connected, has_name}
use Rattle.fj_meaning_jobs.specs.Desks.{Desk}
use Rattle.fj_meaning_jobs.specs.Desking.{all_left}
use Rattle.fj_meaning_turns.specs.Executing.{HoldsDesks}
use Rattle.fj_meaning_turns.specs.Serving.{over_bays}
use Rattle.fj_run_units.specs.Names.{stands, left_of}
use Rattle.fj_run_units.specs.Files.{files_of}
use Rattle.fj_run_units.specs.Returning.{IsAsDue}
use Rattle.fj_run_items.specs.declared.lost.Lost.{Lost}
use Rattle.fj_run_end.specs.Closing.{AreAsDue, AreSeated, AreNamed, IfClear, OthersRun, names_left}
use Rattle.fj_run_end.specs.Finding.{IsLeftBehind, OfEach, AreSpared}
use Rattle.fj_run_end.specs.Fitting.{FitUnits}
use Rattle.fj_run_end.specs.Holding.{HoldUnits}
use Rattle.fj_run_end.specs.Losing.{is_memory}
use Rattle.fj_run_end.proofs.Names.{all_out, all_out_but, none_left, none_left_but, still_stands}
use Rattle.fj_job.specs.Executing.{AreClosed}
use Rattle.fj_job.specs.Fitting.{kept_name, IsOther, AreOut}
use Rattle.fj_job.proofs.Leading.{rose_later}
use Rattle.fj_job.proofs.Leaving.{due_wider}
use Rattle.fj_job.proofs.Settling.{AnswersFirst, where_ok}

-- ---- names

-- the units fit, whatever was kept
pub fits : {E J A F : Type 0} (meaning : Meaning E J A Bay Job Answer) (rack : Rack E J A) (names : List (List ℕ)) (us : List Connected) (kept : Option (Linked F)) → HoldUnits meaning rack us → AreOut (kept_name kept) names us
    → FitUnits meaning rack names us
fits meaning rack names us None held out = record { held = held; out = all_out names us out }
fits meaning rack names us (Some c) held out = record { held = held; out = all_out_but names c.name us out.others }

-- a unit's file is not the one that was kept
apart : {F : Type 0} (names : List (List ℕ)) (us : List Connected) (kept : Option (Linked F)) → AreOut (kept_name kept) names us → (name : List ℕ) → has_name us name ≡ true → IsOther kept name
apart names us None out name has = tt
apart names us (Some c) out name has = λ same. absurd (let z : false ≡ true = sym out.free ∙ ap (has_name us) same ∙ has in cc)

-- the names of units came off, and then that one: none is left
pub names_gone : {F : Type 0} (names mid last : List (List ℕ)) (us : List Connected) (kept : Option (Linked F)) → AreOut (kept_name kept) names us → mid ≡ names_left us names → (kept ≡ None → last ≡ mid)
    → IfSome kept (λ c. stands mid c.name ≡ true → last ≡ left_of mid c.name) → last ≡ []
names_gone names mid last us None out off nothing one = nothing refl ∙ off ∙ none_left names us out
names_gone names mid last us (Some c) out off nothing one =
    let there : stands mid c.name ≡ true = ap (λ (ns : List (List ℕ)). stands ns c.name) off ∙ still_stands names us c.name out.free ∙ out.out in
    one there ∙ ap (λ (ns : List (List ℕ)). left_of ns c.name) off ∙ none_left_but names c.name us out.others

-- ---- what holds of each unit

or_true : (a b : Bool) → b ≡ true → (a || b) ≡ true
or_true true b e = refl
or_true false b e = e

-- where it is so of every file that a unit has
of_each_on : {X : Type 0} (us : List Connected) (all : List X) (P Q : Connected → X → Type 0) → ((u : Connected) → has_name us u.name ≡ true → (x : X) → P u x → Q u x) → OfEach us all P → OfEach us all Q
of_each_on [] all P Q f h = tt
of_each_on (u ∷ us) all P Q f h = (
  (h.0.0, h.0.1, f u (ap (λ b. b || has_name us u.name) ((bytes_eq-Decides u.name u.name).1 refl)) h.0.0 h.0.2),
  of_each_on us all P Q (λ v has x p. f v (or_true (bytes_eq v.name u.name) (has_name us v.name) has) x p) h.1,
)

-- a file that is found as it was, where the disk's own number may rise further
behind_wider : {E J A : Type 0} (l : Ledger E J A) (start : Bay) (jobs : List Job) (name : List ℕ) (found other : Option (List ℕ)) (before half after : ℕ) → half ≤ after → found ≡ other → IsLeftBehind l start jobs name found before half
    → IsLeftBehind l start jobs name other before after
behind_wider l start jobs name found other before half after wide same h =
    subst (λ (o : Option (List ℕ)). IsLeftBehind l start jobs name o before after) same (record {
      some = h.some;
      from = h.from;
      stopped = h.stopped;
      gone = λ s. elim (h.gone s) [ inl none ↦ inl none | inr rose ↦ inr (rose_later before half after rose wide) ];
    })

-- ---- what is left of files

module _ {E J A F : Type 0} (meaning : Meaning E J A Bay Job Answer) (rack : Rack E J A) (names : List (List ℕ)) (us : List Connected) (kept : Option (Linked F)) (out : AreOut (kept_name kept) names us)
    (was between now : Holdings) (before half after : ℕ) (wide : half ≤ after) (same : (name : List ℕ) → IsOther kept name → SameAt between now name) (still : kept ≡ None → now ≡ between)
    (lost : Option Lost) (closed given : Result (Unit {0}) Stop) (result : Result (Unit {0}) Lost) (answer : AnswersFirst lost closed given result) where
  pub closes : now.in_use ≡ set.empty
      → ((desks : List Desk) → HoldsDesks meaning rack desks → AreSeated desks us → OnOk closed (files_of between ≡ all_left desks us (files_of was)))
      → (is_memory closed ≡ false → (desks : List Desk) → HoldsDesks meaning rack desks → AreSeated desks us → AreNamed desks us → AreAsDue before half between (all_left desks us (files_of was)))
      → (is_memory closed ≡ false → IfClear between us rack.slots (λ l. l.halt ≡ None)) → OthersRun us rack.slots
      → OfEach us rack.slots (λ u l. (s : Bay) (ts : List Job) → IsSound (over_bays meaning) s ts l → IsLeftBehind l s ts u.name (files_of between u.name) before half)
      → AreSpared us was between → AreClosed meaning rack us kept was now before after result
  closes in_use files due running others found spared = record {
    in_use = in_use;
    files = λ ok none desks h seats. ap files_of (still none) ∙ where_ok closed tt _ (answer.ok ok).1 (files desks h seats);
    due = λ told desks h seats named name other clear.
        let s = same name other in
        subst (λ (o : Option (List ℕ)). IsAsDue before after o (all_left desks us (files_of was) name)) (sym s.0)
        (due_wider before before half after (files_of between name) (all_left desks us (files_of was) name) (omega arith) wide (due (answer.want told) desks h seats named name (sym s.2 ∙ clear)));
    running = λ told. of_each_on us rack.slots (λ u l. set.contains between.hurt u.name ≡ false → l.halt ≡ None) (λ u l. set.contains now.hurt u.name ≡ false → l.halt ≡ None)
        (λ u has l p clear. p (sym (same u.name (apart names us kept out u.name has)).2 ∙ clear)) (running (answer.want told));
    others = others;
    found = of_each_on us rack.slots _ _ (λ u has l p s ts sound.
        behind_wider l s ts u.name (files_of between u.name) (files_of now u.name) before half after wide (sym (same u.name (apart names us kept out u.name has)).0) (p s ts sound)) found;
    spared = λ name none other. let one = spared name none in let two = same name other in (two.0 ∙ one.0, two.1 ∙ one.1, two.2 ∙ one.2);
  }
