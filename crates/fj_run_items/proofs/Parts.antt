-- Pieces of items.
use Rattle.std.proofs.Common.{◌≡◌, Bool, true, false, List, [], ◌∷◌, ◌++◌, length, map, All, refl, sym, ap, ◌∙◌}
use Rattle.std.specs.List.{list_any}
use Rattle.std.proofs.lemmas.Bool.{false≢true}
use Rattle.std.proofs.lemmas.List.Elements.{All-head, All-tail}
use Rattle.fj_value.specs.declared.kind.Kind.{Kind}
use Rattle.fj_value.specs.declared.value.Value.{Value}
use Rattle.fj_value.specs.declared.place.Place.{Place}
use Rattle.fj_statement.specs.Sound.{IsVariable}
use Rattle.fj_statement.specs.declared.deck.Variable.{Variable}
use Rattle.fj_statement.specs.declared.statement.Operand.{Operand}
use Rattle.fj_statement.specs.declared.statement.Operand.TheVariants as operand
use Rattle.fj_store.specs.declared.piece.Piece.{Piece}
use Rattle.fj_store.specs.declared.piece.Piece.TheVariants.{Places, Own}
use Rattle.fj_store.specs.declared.run.Run.{Run}
use Rattle.fj_store.specs.Pieces.{size_of}
use Rattle.fj_store.specs.Places.{places_of}
use Rattle.fj_store.proofs.PlaceLemmas.{length-counted_from}
use Rattle.fj_meaning.specs.Items.{operand_places}
use Rattle.fj_run_items.specs.Gathering.{IsPiece, ArePieces, count_of}

-- ---- one piece

abbrev IsRun : List Place → Piece → Type 0
IsRun ps piece = (run : Run) × (piece ≡ Places run) × (places_of run ≡ ps)

run_count : (ps : List Place) (piece : Piece) → IsRun ps piece → size_of piece ≡ length ps
run_count ps piece h = ap size_of h.1 ∙ sym (length-counted_from h.0.var h.0.first h.0.count) ∙ ap length h.2

pub piece_count : (variables : List Variable) (item : Operand) (piece : Piece) → IsPiece variables item piece → size_of piece ≡ count_of variables item
piece_count variables (operand.Literal kind value) piece h = ap size_of h
piece_count variables (operand.One p) piece h = run_count (operand_places variables (operand.One p)) piece h
piece_count variables (operand.Whole var) piece h = run_count (operand_places variables (operand.Whole var)) piece h

-- ---- all pieces

abbrev AreRuns : List Piece → Type 0
AreRuns pieces = (runs : List Run) × (pieces ≡ map Places runs)

run_before : (ps : List Place) (piece : Piece) (pieces : List Piece) → IsRun ps piece → AreRuns pieces → AreRuns (piece ∷ pieces)
run_before ps piece pieces h rest = (h.0 ∷ rest.0, ap (λ p. p ∷ pieces) h.1 ∙ ap (λ xs. Places h.0 ∷ xs) rest.1)

-- those of variables are runs
pub runs_are : (variables : List Variable) (items : List Operand) (pieces : List Piece) → ArePieces variables items pieces → All IsVariable items → AreRuns pieces
runs_are variables [] [] h all = ([], refl)
runs_are variables [] (p ∷ ps) h all = absurd h
runs_are variables (x ∷ xs) [] h all = absurd h
runs_are variables (operand.Literal kind value ∷ items) (piece ∷ pieces) h all = absurd (All-head IsVariable (operand.Literal kind value) items all)
runs_are variables (operand.One p ∷ items) (piece ∷ pieces) h all =
    run_before (operand_places variables (operand.One p)) piece pieces h.0 (runs_are variables items pieces h.1 (All-tail IsVariable (operand.One p) items all))
runs_are variables (operand.Whole var ∷ items) (piece ∷ pieces) h all =
    run_before (operand_places variables (operand.Whole var)) piece pieces h.0 (runs_are variables items pieces h.1 (All-tail IsVariable (operand.Whole var) items all))

abbrev is_own : Piece → Bool
is_own (Places run) = false
is_own (Own kind value) = true

none_own : (runs : List Run) → list_any is_own (map Places runs) ≡ false
none_own [] = refl
none_own (run ∷ runs) = none_own runs

some_own : (runs : List Run) (kind : Kind) (v : Value) (rest : List Piece) → list_any is_own (map Places runs ++ Own kind v ∷ rest) ≡ true
some_own [] kind v rest = refl
some_own (run ∷ runs) kind v rest = some_own runs kind v rest

-- a value of its own is not among runs
pub no_own : (runs all : List Run) (kind : Kind) (v : Value) (rest : List Piece) → map Places runs ++ Own kind v ∷ rest ≡ map Places all → ⊥
no_own runs all kind v rest e = false≢true (sym (none_own all) ∙ sym (ap (list_any is_own) e) ∙ some_own runs kind v rest)
