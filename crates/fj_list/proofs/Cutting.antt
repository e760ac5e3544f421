-- Delimited constants over several records.
use Rattle.std.proofs.Common.{◌≡◌, ℕ, Bool, true, false, cond, eqb, List, [], ◌∷◌, ◌++◌, Option, Some, None, sym, subst, refl, arith, append_assoc, append-nil}
use Rattle.std.proofs.lemmas.Bool.Decides.{nat_tests}
use Rattle.std.specs.List.{flat_map}
use Rattle.fj_list.specs.ListText.{doubled}
use Rattle.fj_list.specs.Stream.{Stream}
use Rattle.fj_list.specs.Grammar as grammar
use Rattle.fj_list.specs.Grammar.{NoMark, Delimiting}
use Rattle.fj_list.specs.Cuts.{characters, over_records, ConstantsMayBeCut}

same_character : (c mark : ℕ) → eqb c mark ≡ true → c ≡ mark
same_character c mark e = grind (arith, nat_tests)

other_character : (c mark : ℕ) → eqb c mark ≡ false → c ≡ mark → ⊥
other_character c mark e is = grind (arith, nat_tests)

-- characters in front of what is left of a constant
in_front : (mark : ℕ) (piece rest : List ℕ) (s : Stream) (o : Option Stream) → Delimiting mark rest s o → Delimiting mark (piece ++ rest) (characters (doubled mark piece) ++ s) o
in_front mark [] rest s o h = h
in_front mark (c ∷ cs) rest s o h = put (eqb c mark) refl (in_front mark cs rest s o h) where
  put : (b : Bool) → eqb c mark ≡ b → Delimiting mark (cs ++ rest) (characters (doubled mark cs) ++ s) o → Delimiting mark (c ∷ (cs ++ rest)) (characters (cond b (c ∷ c ∷ []) (c ∷ []) ++ doubled mark cs) ++ s) o
  put true e more =
      let is = same_character c mark e in
      subst (λ d. Delimiting mark (d ∷ (cs ++ rest)) (Some c ∷ Some c ∷ (characters (doubled mark cs) ++ s)) o) (sym is) (grammar.doubled c c is is more)
  put false e more = grammar.inside c (other_character c mark e) more

whole : (mark : ℕ) (piece : List ℕ) (pieces : List (List ℕ)) (t : Stream) → NoMark mark t → Delimiting mark (flat_map (λ (p : List ℕ). p) (piece ∷ pieces)) (over_records mark piece pieces ++ (Some mark ∷ t)) (Some t)
whole mark piece [] t none = in_front mark piece [] (Some mark ∷ t) (Some t) (grammar.closing mark refl none)
whole mark piece (next ∷ pieces) t none =
    let rest = flat_map (λ (p : List ℕ). p) (next ∷ pieces) in
    let later = over_records mark next pieces in
    subst (λ (s : Stream). Delimiting mark (piece ++ rest) s (Some t)) (sym (append_assoc (characters (doubled mark piece)) (None ∷ later) (Some mark ∷ t)))
    (in_front mark piece rest (None ∷ (later ++ (Some mark ∷ t))) (Some t) (grammar.record_end (whole mark next pieces t none)))

pub may_be_cut : ConstantsMayBeCut
may_be_cut mark piece pieces t = record {
  whole = λ none. whole mark piece pieces t none;
  between_marks =
      let closed = in_front mark piece [] (Some mark ∷ None ∷ Some mark ∷ t) (Some (None ∷ Some mark ∷ t)) (grammar.closing mark refl tt) in
      subst (λ (cs : List ℕ). Delimiting mark cs (characters (doubled mark piece) ++ (Some mark ∷ None ∷ Some mark ∷ t)) (Some (None ∷ Some mark ∷ t))) (append-nil piece) closed;
}
