-- Worked cases of the definitions.
use Rattle.std.proofs.Common.{◌≡◌, [], ◌∷◌, codes, None, refl, lit≤, lit<}
use Rattle.fj_value.specs.declared.edit.Edit.TheVariants.{Int, Chars, General}
use Rattle.fj_format.specs.declared.item.FormatItem.TheVariants as item
use Rattle.fj_format.specs.declared.place.Radix.TheVariants.{Ten}
use Rattle.fj_format.specs.declared.symbol.Letter.TheVariants.{I}
use Rattle.fj_format.specs.declared.symbol.Symbol.TheVariants.{Digit, Open, Close, Comma, Other}
use Rattle.fj_format.specs.Marks.{symbol, string, outside}
use Rattle.fj_format.specs.Grammar.{letter, number, stop, digit, no_least, no_width, comma, plain, counted, integer, characters, general_alone, skip, group, items, unlimited, none, some, format, IsFormat}
use Rattle.fj_format.specs.Unfolding.{edit, right, pass}
use Rattle.fj_format.proofs.UnfoldingLaws.{written_out-Field, written_out-Group, written_out-Skip, written_out-Unlimited}

-- Blanks and case have no effect outside strings; a doubled delimiter is one character.
one_text : outside (codes "( i5 ,'it''s A' )") ≡ symbol Open ∷ letter I ∷ symbol (Digit 5) ∷ symbol Comma ∷ string (codes "it's A") ∷ symbol Close ∷ []
one_text = refl

-- Two strings with a blank between them are two; a string without an end is no string.
two_texts : outside (codes "'a' 'b") ≡ string (codes "a") ∷ symbol Other ∷ []
two_texts = refl

-- (I12, x, 2(A)) and what stands behind it
one_format : IsFormat (codes "(I12, x, 2(A)) rest") (item.Field 1 (Int 12 None) ∷ item.Skip 1 ∷ item.Group 2 (item.Field 1 (Chars None) ∷ []) ∷ [])
one_format =
    format (items (plain (integer Ten (number 1 (digit 2 stop) (lit≤ tt) (lit≤ tt)) no_least))
    (some comma (items (plain skip)
    (some comma (items (counted (number 2 stop (lit≤ tt) (lit≤ tt)) (group (lit< tt) (items (plain (characters no_width)) none))) none)))))

-- one pass of it
one_pass : pass (item.Field 1 (Int 12 None) ∷ item.Skip 1 ∷ item.Group 2 (item.Field 1 (Chars None) ∷ []) ∷ []) ≡
    edit (Int 12 None) ∷ right 1 ∷ edit (Chars None) ∷ edit (Chars None) ∷ []
one_pass = simp (written_out-Field, written_out-Skip, written_out-Group)

-- (A, * (g0)) and what stands behind it
open_format : IsFormat (codes "(A, * (g0)) rest") (item.Field 1 (Chars None) ∷ item.Unlimited (item.Field 1 (General 0 0) ∷ []) ∷ [])
open_format =
    format (items (plain (characters no_width))
    (some comma (unlimited refl (items (plain (general_alone (number 0 stop (lit≤ tt) (lit≤ tt)))) none) (simp written_out-Field))))

-- one pass of it
open_pass : pass (item.Field 1 (Chars None) ∷ item.Unlimited (item.Field 1 (General 0 0) ∷ []) ∷ []) ≡ edit (Chars None) ∷ edit (General 0 0) ∷ []
open_pass = simp (written_out-Field, written_out-Unlimited)
