-- What is written of a transfer, in its statement.
use Rattle.std.proofs.Common.{◌≡◌, ℕ, true, List, Option, Some, None, refl, sym, ◌∙◌, subst}
use Rattle.fj_format.specs.declared.item.FormatItem.{FormatItem}
use Rattle.fj_statement.specs.declared.statement.Statement.TheVariants as statement
use Rattle.fj_syntax.specs.declared.written.Format.{Format}
use Rattle.fj_syntax.specs.declared.written.Format.TheVariants as format
use Rattle.fj_syntax.specs.declared.written.Transfer.{Transfer}
use Rattle.fj_syntax.proofs.Holding.{bound, passed, some_is}
use Rattle.fj_names.specs.declared.operand.Meant.{Meant}
use Rattle.fj_names.specs.declared.scope.Scope.{Scope}
use Rattle.fj_names.specs.declared.transfer.Parts.{Parts}
use Rattle.fj_names.specs.Giving.{optional}
use Rattle.fj_names.specs.Meaning.{IsFormatOf, literal_of, meaning}
use Rattle.fj_names.specs.Scope.{members}
use Rattle.fj_names.specs.Transfer.{is_allowed, parts, control_of, assembled, transferred}
use Rattle.fj_names.specs.Units.{suits_unit, transfer_unit, unit_named}
use Rattle.fj_names.proofs.StatementSound.{IsMade, made_is}
use Rattle.fj_word_laws.specs.Transfers.{Stands, IsControlled, group, explicit, listed, unformatted, IsTransferOf, TransfersKeep}

stands : {A B : Type 0} (f : A → Option B) (a : Option A) (b : Option B) → optional f a ≡ Some b → Stands f a b
stands f None None h = tt
stands f None (Some b) h = cc
stands f (Some a) b h = let y = bound (f a) (λ y. Some (Some y)) b h in subst (Stands f (Some a)) (some_is (Some y.0) b y.2) y.1

-- a group excludes a format
controlled : (s : Scope) (t : Transfer) (g : Option (List ℕ)) (vars : Option (List ℕ)) (f : Option Format) (items : Option (List FormatItem)) → t.group ≡ g → t.format ≡ f
    → optional (members s) g ≡ Some vars → IsFormatOf (literal_of f) items → IsControlled s t (control_of g vars f items)
controlled s t (Some name) None f items tg tf h is = let y = bound (members s name) (λ y. Some (Some y)) None h in let e : Some (Some y.0) ≡ Some None = y.2 in cc
controlled s t (Some name) (Some vars) f items tg tf h is = let y = bound (members s name) (λ y. Some (Some y)) (Some vars) h in let e : Some (Some y.0) ≡ Some (Some vars) = y.2 in group tg (y.1 ∙ cc)
controlled s t None vars None None tg tf h is = unformatted tg tf
controlled s t None vars None (Some items) tg tf h is = absurd is
controlled s t None vars (Some format.Asterisk) None tg tf h is = listed tg tf
controlled s t None vars (Some format.Asterisk) (Some items) tg tf h is = absurd is
controlled s t None vars (Some (format.Literal text)) None tg tf h is = absurd is
controlled s t None vars (Some (format.Literal text)) (Some items) tg tf h is = explicit tg tf is

unit_is : (s : Scope) (t : Transfer) (p : Parts) → unit_named s t.unit ≡ Some p.unit → suits_unit p.unit t ≡ true → transfer_unit s t ≡ Some p.unit
unfolding transfer_unit
unit_is s t p h suits = cc

kept : (s : Scope) (t : Transfer) (items : Option (List FormatItem)) (p : Parts) (ms : List Meant) → IsFormatOf (literal_of t.format) items → IsMade s t p ms → IsTransferOf s t (assembled items t p)
kept s t items p ms is made = record {
  input = refl;
  unit = unit_is s t p made.unit made.suited;
  control = controlled s t t.group p.group t.format items refl refl made.group is;
  advance = refl;
  asynchronous = refl;
  blank = refl;
  decimal = refl;
  delim = refl;
  pad = refl;
  sign = refl;
  rec = stands _ t.rec p.rec made.rec;
  pos = stands _ t.pos p.pos made.pos;
  id = stands _ t.id p.id made.id;
  size = stands _ t.size p.size made.size;
  iostat = stands _ t.iostat p.iostat made.iostat;
  items = (ms, made.each_is, sym made.items);
}

pub transfers_keep : TransfersKeep
unfolding meaning transferred
transfers_keep s t m h =
    let p = bound (parts s t) _ m h.is in
    let passes = passed (is_allowed h.items t) (Some (statement.Transfer (assembled h.items t p.0))) m p.2 in
    let made = made_is s t p.0 p.1 in
    (assembled h.items t p.0, sym (some_is _ m passes.1), kept s t h.items p.0 made.0 h.format made.1)
