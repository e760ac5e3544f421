-- A unit whose connection goes out.
use Rattle.std.proofs.Common.{◌≡◌, ◌⊎◌, ℕ, Bool, true, false, not, List, ◌++◌, Option, Some, None, refl, sym, ap, ◌∙◌, subst, inl, inr}
use Rattle.std.specs.Prelude.{◌==◌, if◌then◌else◌}
use Rattle.std.specs.Str.{bytes_eq}
use Rattle.std.proofs.lemmas.Bool.Decides.{eqb_tells}
use Rattle.fj_value.specs.declared.condition.Condition.TheVariants.{Error}
use Rattle.fj_connect.specs.Connection.{Connection}
use Rattle.fj_connect.specs.Positions.{ended}
use Rattle.fj_bay.specs.Jobs.{detach}
use Rattle.fj_bay.proofs.Keeping.{ended_kept}
use Rattle.fj_meaning.specs.State.{Files}
use Rattle.fj_meaning_jobs.specs.Core.{Core, Connected, connected_at, without_connected}
use Rattle.fj_meaning_jobs.specs.Desks.{Desk, carry, outcome, connection_in}
use Rattle.fj_meaning_jobs.specs.Desking.{connection_at, all_left}
use Rattle.fj_meaning_jobs.specs.Doing.{Doing, finishes}
use Rattle.fj_meaning_jobs.specs.Acting.{keeps, left, disconnected, once_out}
use Rattle.fj_meaning_jobs.proofs.Apart.{Each, each_both, each_filter, each_imp, apart_filter}
use Rattle.fj_meaning_jobs.proofs.Carrying.{carry_other, carry_later}
use Rattle.fj_meaning_jobs.proofs.Closing.{comes_out}
use Rattle.fj_meaning_cut.proofs.Through.{over, through, through_same, one_same, one_filter, parted}
use Rattle.fj_meaning_cut.proofs.Units.{each_all, each_at, alone, others_differ, none_had}
use Rattle.fj_meaning_cut.proofs.Carried.{there, gone_there, came_out}
use Rattle.fj_meaning_cut.proofs.Touching.{IsHome, home_same, touch, at, Other, spared, left_is, all_is, Stand}

other_left : (name n : List ℕ) (o : Option Connection) (keep : Bool) (files : Files) → bytes_eq name n ≡ false → left n o keep files name ≡ files name
other_left name n None keep files e = refl
other_left name n (Some c) true files e = ap (λ b. if b then Some c.bytes else files name) e
other_left name n (Some c) false files e = ap (λ b. if b then None else files name) e

module _ (name : List ℕ) (ds : List Desk) (us : List Connected) (u : Connected) (s : Stand name ds us) (found : connected_at us u.number ≡ Some u) where
  abbrev behind : List Desk
  behind = carry ds u.slot (detach None)

  abbrev others : List Connected
  others = without_connected u.number us

  home : IsHome ds u
  home = each_at (IsHome ds) us u.number u s.homes found

  -- its connection comes out
  pub gone_out : (P : Doing → Type 0) (core : Core) (keep : Bool) (next : Core → Doing)
      → (let o = outcome ds u.slot (detach None) in P (next (disconnected core u keep o)) → P (once_out core u keep next o))
  gone_out P core keep next h =
      let o = outcome ds u.slot (detach None) in
      subst (λ b. P (if b then next (disconnected core u keep o) else finishes core (Error 1))) (sym (comes_out u o (ended home.it) (came_out ds u.slot home.it home.is) ((ended_kept home.it).named ∙ sym home.named))) h

  at_others : Each (λ x. at name behind x ≡ at name ds x) others
  at_others =
      each_imp (λ (x : Connected). x.slot ≡ u.slot → ⊥) (λ x. at name behind x ≡ at name ds x) others (λ x ne. ap (λ o. touch name (connection_at o)) (carry_other ds u.slot (detach None) x.slot ne)) (others_differ us u s.slots found)

  pub gone_stand : Stand name behind others
  gone_stand = record {
    homes = each_both (IsHome ds) (λ (x : Connected). x.slot ≡ u.slot → ⊥) (IsHome behind) others (λ x h ne. home_same ds behind x (ap connection_at (carry_other ds u.slot (detach None) x.slot ne)) h)
        (each_filter (IsHome ds) (λ (x : Connected). not (x.number == u.number)) us s.homes) (others_differ us u s.slots found);
    slots = apart_filter (λ x. x.slot) (λ (x : Connected). not (x.number == u.number)) us s.slots;
    numbers = apart_filter (λ x. x.number) (λ (x : Connected). not (x.number == u.number)) us s.numbers;
    one = one_same (at name behind) (at name ds) others at_others (one_filter (at name ds) (λ (x : Connected). not (x.number == u.number)) us s.one);
    empty = λ k d. elim (eqb_tells k u.slot) [
      | inl a ↦ ap (there behind) a.1 ∙ gone_there ds u.slot home.it home.is
      | inr a ↦ ap connection_at (carry_other ds u.slot (detach None) k a.1) ∙ s.empty k (none_had us u s.numbers found k d a.1)
    ];
    sixteen = (carry_later ds u.slot (detach None)).long ∙ s.sixteen;
  }

  -- the file, were the others closed then
  others_left : (files now : Files) → now name ≡ over (at name ds u) (files name) → all_left behind others now name ≡ all_left ds us files name
  others_left files now e =
      all_is name behind others now
      ∙ through_same (at name behind) (at name ds) others (now name) at_others
      ∙ ap (through (at name ds) others) e
      ∙ sym (ap (λ l. through (at name ds) (l ++ others) (files name)) (alone us u.number u s.numbers found))
      ∙ parted (at name ds) (λ (x : Connected). x.number == u.number) (λ (x : Connected). not (x.number == u.number)) us (files name) s.one
      (each_all (λ (x : Connected). not (x.number == u.number) ≡ not (x.number == u.number)) us (λ x. refl))
      ∙ sym (all_is name ds us files)

  -- it is kept or removed as closing all units does, or is another one
  pub gone_left : (files : Files) (keep : Bool) → (keep ≡ keeps u) ⊎ Other name u.name
      → all_left behind others (left u.name (connection_in (outcome ds u.slot (detach None)).0) keep files) name ≡ all_left ds us files name
  gone_left files keep (inl e) =
      others_left files (left u.name (connection_in (outcome ds u.slot (detach None)).0) keep files)
      (ap (λ o. left u.name o keep files name) (came_out ds u.slot home.it home.is)
      ∙ ap (λ k. left u.name (Some (ended home.it)) k files name) (e ∙ ap not home.scratch)
      ∙ ap (λ n. left n (Some (ended home.it)) (not home.it.modes.scratch) files name) home.named
      ∙ left_is name (Some home.it) files
      ∙ ap (λ o. over (touch name o) (files name)) (sym home.is))
  gone_left files keep (inr other) =
      others_left files (left u.name (connection_in (outcome ds u.slot (detach None)).0) keep files)
      (other_left name u.name (connection_in (outcome ds u.slot (detach None)).0) keep files other
      ∙ sym (ap (λ o. over o (files name)) (ap (touch name) home.is ∙ spared name home.it (subst (Other name) home.named other))))
