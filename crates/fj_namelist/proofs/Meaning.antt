-- A group's text is read as its assignments.
use Rattle.std.proofs.Common.{◌≡◌, ◌≢◌, ℕ, suc, ◌+◌, Bool, true, false, ◌&&◌, not, cond, eqb, List, [], ◌∷◌, ◌++◌, length, take, drop, Option, Some, None, sym, ap, subst, ◌∙◌, refl, inl, inr, arith}
use Rattle.std.proofs.lemmas.Bool.{cases_Bool}
use Rattle.std.proofs.lemmas.Bool.Decides.{nat_tests}
use Rattle.std.proofs.Math.Seq.{take-append_seam, drop-append_seam}
use Rattle.std.proofs.lemmas.List.{take-append-drop}
use Rattle.std.specs.List.{list_all, position_or_len, prefix_len}
use Rattle.fj_value.specs.declared.condition.Condition.{Condition}
use Rattle.fj_value.specs.declared.condition.Condition.TheVariants.{Fine, Error}
use Rattle.fj_list.specs.Stream.{Stream, stream, records_behind, is_blank, is_no_blank}
use Rattle.fj_list.specs.ListInput.{Outcome}
use Rattle.fj_list.specs.Grammar.{IsBlank, Finish}
use Rattle.fj_list.proofs.GrammarLaws.{blank_true, blank_or}
use Rattle.fj_list.proofs.StreamLaws.{records_behind-stream}
use Rattle.fj_namelist.specs.declared.token.State.TheVariants.{Between}
use Rattle.fj_namelist.specs.declared.place.GroupPlace.TheVariants as place
use Rattle.fj_namelist.specs.Names.{same_name}
use Rattle.fj_namelist.specs.Tokens.{Lexed, Group}
use Rattle.fj_namelist.specs.GroupInput.{Result, tokens_taken, group_read}
use Rattle.fj_namelist.specs.GroupReadAgain.{in_name, IsName}
use Rattle.fj_namelist.specs.Heading.{heading, heading_in, text_in, is_passed, behind_name, named, missing}
use Rattle.fj_namelist.specs.Grammar as text
use Rattle.fj_list.specs.Cuts.{characters}
use Rattle.fj_namelist.specs.Grammar.{Gap, Named, Values, Assignment, Assignments, BeginsBlank, IsGroupText}
use Rattle.fj_namelist.specs.Understood.{GroupTextIsRead, GroupTextHasOneMeaning, IsOtherText, GroupsNeedHeadings}
use Rattle.fj_namelist.proofs.Words.{one_more}
use Rattle.fj_namelist.proofs.Ahead.{ahead, prepended, lines_ahead}
use Rattle.fj_namelist.proofs.Pieces.{end_step}
use Rattle.fj_namelist.proofs.Parts.{characters_append}
use Rattle.fj_namelist.proofs.Assigning.{Parsed, parsed, finish_of, name_character, all_both, Means, assignments_mean}

-- the record with the first text
record IsHeaded (group : List ℕ) (lines : List (List ℕ)) (c : ℕ) (u : Stream) : Type 0 where
  rest : List ℕ
  others : List (List ℕ)
  is : u ≡ stream (rest ∷ others)
  heads : heading group lines ≡ heading_in others (behind_name group (c ∷ rest))

comment_passed : (cs : List ℕ) (lines : List (List ℕ)) (s t : Stream) → s ≡ stream (cs ∷ lines) → text.Comment s t → t ≡ stream lines
comment_passed [] lines _ t e text.ends = cc
comment_passed [] lines _ t e (text.goes_on c more) = absurd (cc)
comment_passed (c ∷ cs) lines _ t e text.ends = absurd (cc)
comment_passed (c ∷ cs) lines _ t e (text.goes_on {s} d more) = let on : s ≡ stream (cs ∷ lines) = cc in comment_passed cs lines s t on more

blank_text : (c : ℕ) (cs : List ℕ) → is_blank c ≡ true → text_in (c ∷ cs) ≡ text_in cs
blank_text c cs e =
    let n = prefix_len (λ x. not (is_no_blank x)) cs in
    ap (λ b. drop (cond (not (not b)) (1 + n) 0) (c ∷ cs)) e ∙ ap (λ k. drop k (c ∷ cs)) (one_more n)

blank_headed : (group : List ℕ) (c : ℕ) (cs : List ℕ) (lines : List (List ℕ)) → is_blank c ≡ true → heading group ((c ∷ cs) ∷ lines) ≡ heading group (cs ∷ lines)
blank_headed group c cs lines e = ap (λ (x : List ℕ). cond (is_passed x) (heading group lines) (heading_in lines (behind_name group x))) (blank_text c cs e)

text_headed : (group : List ℕ) (c : ℕ) (cs : List ℕ) (lines : List (List ℕ)) → is_blank c ≡ false → eqb c 33 ≡ false → heading group ((c ∷ cs) ∷ lines) ≡ heading_in lines (behind_name group (c ∷ cs))
text_headed group c cs lines e e' =
    let n = prefix_len (λ x. not (is_no_blank x)) cs in
    let first : text_in (c ∷ cs) ≡ c ∷ cs = ap (λ b. drop (cond (not (not b)) (1 + n) 0) (c ∷ cs)) e in
    ap (λ (x : List ℕ). cond (is_passed x) (heading group lines) (heading_in lines (behind_name group x))) first
    ∙ ap (λ b. cond b (heading group lines) (heading_in lines (behind_name group (c ∷ cs)))) e'

-- how a record is passed over
record Passes (s : Stream) (group : List ℕ) (lines : List (List ℕ)) : Type 0 where
  left : List (List ℕ)
  is : s ≡ stream left
  same : heading group lines ≡ heading group left

blank_passes : (group : List ℕ) (x : Option ℕ) (s : Stream) (lines : List (List ℕ)) → IsBlank x → x ∷ s ≡ stream lines → Passes s group lines
blank_passes group x s [] is e = absurd (cc)
blank_passes group x s ([] ∷ lines) is e = let on : s ≡ stream lines = cc in record { left = lines; is = on; same = refl }
blank_passes group None s ((c ∷ cs) ∷ lines) is e = absurd (cc)
blank_passes group (Some d) s ((c ∷ cs) ∷ lines) is e =
    let same : d ≡ c = cc in
    let on : s ≡ stream (cs ∷ lines) = cc in
    record { left = cs ∷ lines; is = on; same = blank_headed group c cs lines (ap is_blank (sym same) ∙ blank_true d is) }

comment_passes : (group : List ℕ) (c : ℕ) (s t : Stream) (lines : List (List ℕ)) → c ≡ 33 → text.Comment s t → Some c ∷ s ≡ stream lines → Passes t group lines
comment_passes group c s t [] is comment e = absurd (cc)
comment_passes group c s t ([] ∷ lines) is comment e = absurd (cc)
comment_passes group c s t ((d ∷ cs) ∷ lines) is comment e =
    let same : d ≡ 33 = cc in
    let line : s ≡ stream (cs ∷ lines) = cc in
    record { left = lines; is = comment_passed cs lines s t line comment; same = ap (λ (x : ℕ). heading group ((x ∷ cs) ∷ lines)) same }

headed : (group : List ℕ) (fresh : Bool) (s v : Stream) (c : ℕ) (u : Stream) (lines : List (List ℕ)) → Gap fresh s v → v ≡ Some c ∷ u → is_blank c ≡ false → eqb c 33 ≡ false → s ≡ stream lines → IsHeaded group lines c u
headed group fresh s _ c u [] text.nothing e first first' e' = absurd (cc)
headed group fresh s _ c u ([] ∷ lines) text.nothing e first first' e' = absurd (cc)
headed group fresh s _ c u ((d ∷ cs) ∷ lines) text.nothing e first first' e' =
    let same : d ≡ c = cc in
    let rest : u ≡ stream (cs ∷ lines) = cc in
    record { rest = cs; others = lines; is = rest; heads = ap (λ (x : ℕ). heading group ((x ∷ cs) ∷ lines)) same ∙ text_headed group c cs lines first first' }
headed group fresh _ v c u lines (text.blank {s} x is more) e first first' e' =
    let p = blank_passes group x s lines is e' in
    let h = headed group true s v c u p.left more e first first' p.is in
    record { rest = h.rest; others = h.others; is = h.is; heads = p.same ∙ h.heads }
headed group _ _ v c u lines (text.comment {s} {t} d is comment more) e first first' e' =
    let p = comment_passes group d s t lines is comment e' in
    let h = headed group true t v c u p.left more e first first' p.is in
    record { rest = h.rest; others = h.others; is = h.is; heads = p.same ∙ h.heads }

-- no text at all
unheaded : (group : List ℕ) (fresh : Bool) (s v : Stream) (lines : List (List ℕ)) → Gap fresh s v → v ≡ [] → s ≡ stream lines → heading group lines ≡ missing
unheaded group fresh s _ [] text.nothing e e' = refl
unheaded group fresh s _ ([] ∷ lines) text.nothing e e' = absurd (cc)
unheaded group fresh s _ ((c ∷ cs) ∷ lines) text.nothing e e' = absurd (cc)
unheaded group fresh _ v lines (text.blank {s} x is more) e e' = let p = blank_passes group x s lines is e' in p.same ∙ unheaded group true s v p.left more e p.is
unheaded group _ _ v lines (text.comment {s} {t} d is comment more) e e' = let p = comment_passes group d s t lines is comment e' in p.same ∙ unheaded group true t v p.left more e p.is

-- what stands behind the group's name
record IsBehind (name rest : List ℕ) (others : List (List ℕ)) (t : Stream) : Type 0 where
  more : List ℕ
  is : rest ≡ name ++ more
  then : t ≡ stream (more ∷ others)

behind_of : (name rest : List ℕ) (others : List (List ℕ)) (t : Stream) → characters name ++ t ≡ stream (rest ∷ others) → IsBehind name rest others t
behind_of [] rest others t e = record { more = rest; is = refl; then = e }
behind_of (c ∷ name) [] others t e = absurd (cc)
behind_of (c ∷ name) (d ∷ rest) others t e =
    let same : c ≡ d = cc in
    let on : characters name ++ t ≡ stream (rest ∷ others) = cc in
    let h = behind_of name rest others t on in
    record { more = h.more; is = ap (λ (xs : List ℕ). d ∷ xs) h.is ∙ ap (λ x. x ∷ (name ++ h.more)) (sym same); then = h.then }

name_to_blank : (name more : List ℕ) (others : List (List ℕ)) → list_all in_name name ≡ true → BeginsBlank (stream (more ∷ others)) → position_or_len is_blank (name ++ more) ≡ length name
name_to_blank [] [] others e is = refl
name_to_blank [] (c ∷ cs) others e is = ap (λ b. cond (not b) (1 + prefix_len (λ x. not (is_blank x)) cs) 0) (blank_true c is)
name_to_blank (c ∷ name) more others e is =
    let p = all_both c name e in
    let n = prefix_len (λ x. not (is_blank x)) (name ++ more) in
    ap (λ b. cond (not b) (1 + n) 0) (name_character true c p.0).blank ∙ one_more n ∙ ap suc (name_to_blank name more others p.1 is)

name_behind : (group name rest : List ℕ) (others : List (List ℕ)) (t : Stream) → same_name name group ≡ true → IsName name → BeginsBlank t → (h : IsBehind name rest others t) → behind_name group (38 ∷ rest) ≡ Some h.more
name_behind group name rest others t same is blank h =
    let w = name ++ h.more in
    let width = name_to_blank name h.more others is.all (subst BeginsBlank h.then blank) in
    let by : List ℕ → List ℕ → Option (List ℕ) = λ a b. cond (true && same_name a group) (Some b) None in
    ap (λ (xs : List ℕ). behind_name group (38 ∷ xs)) h.is
    ∙ ap (λ k. by (take k w) (drop k w)) width
    ∙ ap (λ (a : List ℕ). by a (drop (length name) w)) (take-append_seam name h.more)
    ∙ ap (λ (b : List ℕ). by name b) (drop-append_seam name h.more)
    ∙ ap (λ b. cond (true && b) (Some h.more) None) same

-- behind the name a blank follows, and so a comment may begin behind it
blank_first : (comma : Bool) (e : Condition) (t : Stream) → BeginsBlank t → ahead comma e (Between true) t ≡ ahead comma e (Between false) t
blank_first comma e [] is = absurd is
blank_first comma e (x ∷ t) is = ap (λ (l : Lexed). prepended l.tokens (ahead comma e l.state t)) (end_step comma true x is ∙ sym (end_step comma false x is))

-- what a text is behind its heading
record IsText (comma : Bool) (group : List ℕ) (lines : List (List ℕ)) (all : List Assignment) (f : Finish) (u : Stream) : Type 0 where
  more : List ℕ
  others : List (List ℕ)
  at_name : heading group lines ≡ named more others
  means : Means comma true (stream (more ∷ others)) all f u

-- behind the name a blank follows, and so a comment may begin behind it
from_blank : (comma : Bool) (t : Stream) (all : List Assignment) (f : Finish) (u : Stream) → BeginsBlank t → Means comma false t all f u → Means comma true t all f u
from_blank comma t all f u blank m = record { tokens = m.tokens; is_ahead = λ e. blank_first comma e t blank ∙ m.is_ahead e; calm = m.calm; takes = m.takes; parses = m.parses; finishes = m.finishes }

text_of : (comma : Bool) (group : List ℕ) (lines : List (List ℕ)) (all : List Assignment) (f : Finish) (u : Stream) → IsGroupText comma group (stream lines) all f u → IsText comma group lines all f u
text_of comma group lines _ _ _ (text.group_text {t} {u} {all} {f} name same is gap blank h) =
    let start = headed group true (stream lines) (Some 38 ∷ (characters name ++ t)) 38 (characters name ++ t) lines gap refl refl refl refl in
    let behind = behind_of name start.rest start.others t start.is in
    record {
      more = behind.more;
      others = start.others;
      at_name = start.heads ∙ ap (heading_in start.others) (name_behind group name start.rest start.others t same is blank behind);
      means = subst (λ (x : Stream). Means comma true x all f u) behind.then (from_blank comma t all f u blank (assignments_mean comma false t all f u h));
    }

pub text_read : GroupTextIsRead
text_read comma group lines all f u h members cells ending counted =
    let it = text_of comma group lines all f u h in
    let means = it.means in
    ap (group_read comma ending members cells) it.at_name
    ∙ ap (λ (g : Group). outcome g (tokens_taken members place.Due 0 g.tokens cells)) (lines_ahead comma ending (Between true) (it.more ∷ it.others) refl ∙ means.is_ahead ending)
    ∙ ap (λ (r : Result). record { cells = r.cells; condition = r.condition; left = records_behind u }) (means.takes members ending counted place.Due cells) where
      outcome : Group → Result → Outcome
      outcome g r = record { cells = r.cells; condition = r.condition; left = g.left }

pub one_meaning : GroupTextHasOneMeaning
one_meaning comma group lines all all' f f' u u' h h' =
    let it = text_of comma group lines all f u h in
    let it' = text_of comma group lines all' f' u' h' in
    let same : named it.more it.others ≡ named it'.more it'.others = sym it.at_name ∙ it'.at_name in
    let more : it.more ≡ it'.more = cc in
    let others : it.others ≡ it'.others = cc in
    let streams : stream (it.more ∷ it.others) ≡ stream (it'.more ∷ it'.others) = ap (λ (x : List ℕ). stream (x ∷ it.others)) more ∙ ap (λ (ls : List (List ℕ)). stream (it'.more ∷ ls)) others in
    let groups = sym (it.means.is_ahead Fine) ∙ ap (ahead comma Fine (Between true)) streams ∙ it'.means.is_ahead Fine in
    let tokens : it.means.tokens Fine ≡ it'.means.tokens Fine = ap (λ (g : Group). g.tokens) groups in (
      ap (λ (r : Parsed). r.all) (sym (it.means.parses Fine true) ∙ ap (parsed 0 true) tokens ∙ it'.means.parses Fine true),
      sym (it.means.finishes Fine) ∙ ap finish_of tokens ∙ it'.means.finishes Fine,
      ap (λ (g : Group). g.left) groups,
    )

-- another text in the place of the heading
blank_or_end : (cs : List ℕ) (others : List (List ℕ)) → BeginsBlank (stream (drop (position_or_len is_blank cs) cs ∷ others))
blank_or_end [] others = tt
blank_or_end (c ∷ cs) others = go (is_blank c) refl (blank_or_end cs others) where
  n : ℕ
  n = prefix_len (λ x. not (is_blank x)) cs

  go : (b : Bool) → is_blank c ≡ b → BeginsBlank (stream (drop (prefix_len (λ x. not (is_blank x)) cs) cs ∷ others)) → BeginsBlank (stream (drop (cond (not b) (1 + prefix_len (λ x. not (is_blank x)) cs) 0) (c ∷ cs) ∷ others))
  go true e h = blank_or c e
  go false e h = subst (λ k. BeginsBlank (stream (drop k (c ∷ cs) ∷ others))) (sym (one_more (prefix_len (λ x. not (is_blank x)) cs))) h

no_name : (group : List ℕ) (c : ℕ) (rest : List ℕ) (others : List (List ℕ)) (s : Stream) → s ≡ stream (rest ∷ others) → IsOtherText group c s → behind_name group (c ∷ rest) ≡ None
no_name group c rest others s is h = go (eqb c 38) (same_name (take n rest) group) refl refl where
  n : ℕ
  n = position_or_len is_blank rest

  whole : s ≡ characters (take (position_or_len is_blank rest) rest) ++ stream (drop (position_or_len is_blank rest) rest ∷ others)
  whole =
      let k = position_or_len is_blank rest in
      is ∙ ap (λ (x : List ℕ). characters x ++ (None ∷ stream others)) (sym (take-append-drop k rest)) ∙ characters_append (take k rest) (drop k rest) (None ∷ stream others)

  ampersand : (c : ℕ) → eqb c 38 ≡ true → c ≡ 38
  ampersand c e = grind (arith, nat_tests)

  go : (a b : Bool) → eqb c 38 ≡ a → same_name (take (position_or_len is_blank rest) rest) group ≡ b → cond (a && b) (Some (drop (position_or_len is_blank rest) rest)) None ≡ None
  go true true e e' = absurd (h.other (ampersand c e) (take (position_or_len is_blank rest) rest) (stream (drop (position_or_len is_blank rest) rest ∷ others)) whole e' (blank_or_end rest others))
  go true false e e' = refl
  go false b e e' = refl

no_blank_first : (c : ℕ) → (IsBlank (Some c) → ⊥) → is_blank c ≡ false
no_blank_first c h = elim (cases_Bool (is_blank c)) [
  | inl e ↦ absurd (h (blank_or c e))
  | inr e ↦ e
]

no_comment_first : (c : ℕ) → c ≢ 33 → eqb c 33 ≡ false
no_comment_first c h = grind (arith, nat_tests)

pub need_headings : GroupsNeedHeadings
need_headings comma group lines members cells ending = record {
  no_text = λ gap. ap (group_read comma ending members cells) (unheaded group true (stream lines) [] lines gap refl refl);
  other_text = λ c s gap h.
      let it = headed group true (stream lines) (Some c ∷ s) c s lines gap refl (no_blank_first c h.blank) (no_comment_first c h.comment) refl in
      ap (group_read comma ending members cells) (it.heads ∙ ap (heading_in it.others) (no_name group c it.rest it.others s it.is h))
      ∙ ap (λ (ls : List (List ℕ)). record { cells = cells; condition = Error 22; left = ls }) (sym (ap records_behind it.is ∙ records_behind-stream it.rest it.others));
}
