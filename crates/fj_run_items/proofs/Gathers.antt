-- Pieces of items, and the cells of these.
use Rattle.std.proofs.Common.{◌≡◌, ℕ, ◌+◌, ◌<◌, ◌≤◌, List, [], ◌∷◌, ◌++◌, length, map, take, get_or, All, refl, sym, ap, subst, ◌∙◌, arith, append_assoc, append-nil, length-append}
use Rattle.std.specs.List.{flat_map}
use Rattle.std.proofs.lemmas.List.{map-append, take_more}
use Rattle.std.proofs.lemmas.List.Elements.{All-push}
use Rattle.fj_value.specs.declared.place.Place.{Place}
use Rattle.fj_value.specs.declared.value.Cell.{Cell}
use Rattle.fj_moved.specs.declared.moved.Moved.{Moved}
use Rattle.fj_store.specs.declared.piece.Piece.{Piece}
use Rattle.fj_store.specs.declared.piece.Piece.TheVariants.{Places}
use Rattle.fj_store.specs.declared.run.Run.{Run}
use Rattle.fj_store.specs.Pieces.{own_cell, cells_from, cells_in, size_of, sizes}
use Rattle.fj_store.specs.Places.{places_of, places_in}
use Rattle.fj_store.specs.Storage.{Storage, cell_at, values_of}
use Rattle.fj_store.specs.Variables.{Variables, moved_of}
use Rattle.fj_store.proofs.PlaceLemmas.{length-counted_from}
use Rattle.fj_store.proofs.StoreLemmas.{whole}
use Rattle.fj_statement.specs.declared.deck.Variable.{Variable}
use Rattle.fj_statement.specs.declared.statement.Operand.{Operand}
use Rattle.fj_statement.specs.declared.statement.Operand.TheVariants as operand
use Rattle.fj_statement.specs.declared.statement.Control.{Control}
use Rattle.fj_statement.specs.declared.statement.Control.TheVariants as control
use Rattle.fj_statement.specs.declared.statement.Transfer.{Transfer}
use Rattle.fj_meaning.specs.Items as plain
use Rattle.fj_meaning.specs.Needs.{group_places}
use Rattle.fj_meaning.specs.Transfers.{moved_in}
use Rattle.fj_run_items.specs.Gathering.{IsPiece, ArePieces, IsGathered, all_items, members_in}
use Rattle.fj_run_items.specs.Kinds.{kinds_of}
use Rattle.fj_run_items.specs.declared.collection.Gathered.{Gathered}
use Rattle.fj_meaning.proofs.Stored.{kind_is}
use Rattle.fj_run_items.proofs.Values.{read_is}

-- ---- one piece more

pieces_push : (variables : List Variable) (items : List Operand) (pieces : List Piece) (item : Operand) (piece : Piece) → ArePieces variables items pieces → IsPiece variables item piece
    → ArePieces variables (items ++ item ∷ []) (pieces ++ piece ∷ [])
pieces_push variables [] [] item piece h is = (is, tt)
pieces_push variables [] (p ∷ ps) item piece h is = absurd h
pieces_push variables (x ∷ xs) [] item piece h is = absurd h
pieces_push variables (x ∷ xs) (p ∷ ps) item piece h is = (h.0, pieces_push variables xs ps item piece h.1 is)

sizes_push : (pieces : List Piece) (piece : Piece) → sizes (pieces ++ piece ∷ []) ≡ sizes pieces + size_of piece
sizes_push [] piece = omega arith
sizes_push (p ∷ pieces) piece = ap (λ n. size_of p + n) (sizes_push pieces piece) ∙ (let e : size_of p + (sizes pieces + size_of piece) ≡ (size_of p + sizes pieces) + size_of piece = omega arith in e)

pub one_more : (variables : List Variable) (items : List Operand) (item : Operand) (piece : Piece) (old new : Gathered) → IsGathered variables items old → IsPiece variables item piece
    → new.pieces.items ≡ old.pieces.items ++ piece ∷ [] → new.size ≡ old.size + size_of piece → IsGathered variables (items ++ item ∷ []) new
one_more variables items item piece old new g is pushed sized =
    let P : List Piece → Type 0 = λ ps. ArePieces variables (items ++ item ∷ []) ps in
    record {
      pieces = subst P (sym pushed) (pieces_push variables items old.pieces.items item piece g.pieces is);
      size = ap sizes pushed ∙ sizes_push old.pieces.items piece ∙ ap (λ n. n + size_of piece) g.size ∙ sym sized;
    }

pub none_yet : (variables : List Variable) (g : Gathered) → g.pieces.items ≡ [] → g.size ≡ 0 → IsGathered variables [] g
none_yet variables g none zero_size =
    let P : List Piece → Type 0 = λ ps. ArePieces variables [] ps in
    record { pieces = subst P (sym none) tt; size = ap sizes none ∙ sym zero_size }

-- items one behind another
pub items_step : (variables : List Variable) (before items : List Operand) (i : ℕ) (item : Operand) (g : Gathered) → i < length items → item ≡ get_or items i item
    → IsGathered variables ((before ++ take i items) ++ item ∷ []) g → IsGathered variables (before ++ take (i + 1) items) g
items_step variables before items i item g low is h =
    let P : List Operand → Type 0 = λ xs. IsGathered variables xs g in
    subst P (append_assoc before (take i items) (item ∷ []) ∙ ap (λ xs. before ++ xs) (ap (λ x. take i items ++ x ∷ []) is ∙ sym (take_more items i item low))) h

-- ---- the cells of pieces

pub cell_same : (variables : List Variable) (s : Storage) (p : Place) → s.kinds ≡ kinds_of variables → cell_at s p ≡ plain.cell_at variables (values_of s) p
cell_same variables s p kinds =
    ap (λ k. let c : Cell = record { place = p; kind = k; value = (cell_at s p).value } in c) (kind_is variables s.kinds p.var kinds)
    ∙ ap (λ v. let c : Cell = record { place = p; kind = plain.kind_of variables p.var; value = v } in c) (sym (read_is s p))

pub cells_same : (variables : List Variable) (s : Storage) (ps : List Place) → s.kinds ≡ kinds_of variables → map (cell_at s) ps ≡ map (plain.cell_at variables (values_of s)) ps
cells_same variables s [] kinds = refl
cells_same variables s (p ∷ ps) kinds =
    ap (λ c. c ∷ map (cell_at s) ps) (cell_same variables s p kinds) ∙ ap (λ cs. plain.cell_at variables (values_of s) p ∷ cs) (cells_same variables s ps kinds)

run_cells : (variables : List Variable) (s : Storage) (n : ℕ) (ps : List Place) (piece : Piece) (pieces : List Piece) (more : List Cell) → s.kinds ≡ kinds_of variables
    → (run : Run) × (piece ≡ Places run) × (places_of run ≡ ps) → cells_from s n pieces ≡ more → cells_from s n (piece ∷ pieces) ≡ map (plain.cell_at variables (values_of s)) ps ++ more
run_cells variables s n ps piece pieces more kinds h rest =
    ap (λ p. cells_from s n (p ∷ pieces)) h.1
    ∙ ap (λ xs. map (cell_at s) xs ++ cells_from s n pieces) h.2
    ∙ ap (λ cs. cs ++ cells_from s n pieces) (cells_same variables s ps kinds)
    ∙ ap (λ cs. map (plain.cell_at variables (values_of s)) ps ++ cs) rest

pieces_cells : (variables : List Variable) (s : Storage) (n : ℕ) (items : List Operand) (pieces : List Piece) → s.kinds ≡ kinds_of variables → ArePieces variables items pieces
    → cells_from s n pieces ≡ plain.cells_from variables (values_of s) n items
pieces_cells variables s n [] [] kinds h = refl
pieces_cells variables s n [] (p ∷ ps) kinds h = absurd h
pieces_cells variables s n (x ∷ xs) [] kinds h = absurd h
pieces_cells variables s n (operand.Literal kind value ∷ items) (piece ∷ pieces) kinds h =
    ap (λ p. cells_from s n (p ∷ pieces)) h.0 ∙ ap (λ cs. own_cell n kind value ∷ cs) (pieces_cells variables s (n + 1) items pieces kinds h.1)
pieces_cells variables s n (operand.One place ∷ items) (piece ∷ pieces) kinds h =
    run_cells variables s n (place ∷ []) piece pieces (plain.cells_from variables (values_of s) n items) kinds h.0 (pieces_cells variables s n items pieces kinds h.1)
pieces_cells variables s n (operand.Whole var ∷ items) (piece ∷ pieces) kinds h =
    run_cells variables s n (plain.places_of variables var) piece pieces (plain.cells_from variables (values_of s) n items) kinds h.0 (pieces_cells variables s n items pieces kinds h.1)

whole_cells : (variables : List Variable) (vars : Variables) (n : ℕ) (vs : List ℕ) → plain.cells_from variables vars n (map operand.Whole vs) ≡ map (plain.cell_at variables vars) (flat_map (plain.places_of variables) vs)
whole_cells variables vars n [] = refl
whole_cells variables vars n (v ∷ vs) =
    ap (λ cs. map (plain.cell_at variables vars) (plain.places_of variables v) ++ cs) (whole_cells variables vars n vs)
    ∙ sym (map-append (plain.cell_at variables vars) (plain.places_of variables v) (flat_map (plain.places_of variables) vs))

with_members : (variables : List Variable) (vars : Variables) (n : ℕ) (items : List Operand) (vs : List ℕ)
    → plain.cells_from variables vars n (items ++ map operand.Whole vs) ≡ plain.cells_from variables vars n items ++ map (plain.cell_at variables vars) (flat_map (plain.places_of variables) vs)
with_members variables vars n [] vs = whole_cells variables vars n vs
with_members variables vars n (operand.Literal kind value ∷ items) vs = ap (λ cs. own_cell n kind value ∷ cs) (with_members variables vars (n + 1) items vs)
with_members variables vars n (operand.One place ∷ items) vs =
    ap (λ cs. plain.cell_at variables vars place ∷ cs) (with_members variables vars n items vs)
with_members variables vars n (operand.Whole var ∷ items) vs =
    let f : List Place → List Cell = map (plain.cell_at variables vars) in
    ap (λ cs. f (plain.places_of variables var) ++ cs) (with_members variables vars n items vs)
    ∙ sym (append_assoc (f (plain.places_of variables var)) (plain.cells_from variables vars n items) (f (flat_map (plain.places_of variables) vs)))

all_cells : (variables : List Variable) (vars : Variables) (items : List Operand) (c : Control)
    → plain.cells_from variables vars 1 (items ++ members_in c) ≡ plain.cells_from variables vars 1 items ++ map (plain.cell_at variables vars) (group_places variables c)
all_cells variables vars items control.Unformatted = with_members variables vars 1 items []
all_cells variables vars items (control.Explicit f) = with_members variables vars 1 items []
all_cells variables vars items control.Listed = with_members variables vars 1 items []
all_cells variables vars items (control.Group name vs) = with_members variables vars 1 items vs

pub cells_are : (variables : List Variable) (s : Storage) (t : Transfer) (g : Gathered) → s.kinds ≡ kinds_of variables → IsGathered variables (all_items t) g
    → cells_in s g.pieces.items ≡ plain.cells_of variables (values_of s) t.items ++ map (plain.cell_at variables (values_of s)) (group_places variables t.control)
cells_are variables s t g kinds h = pieces_cells variables s 1 (all_items t) g.pieces.items kinds h.pieces ∙ all_cells variables (values_of s) t.items t.control

pub moved_is : (variables : List Variable) (s : Storage) (t : Transfer) (g : Gathered) (moved : Moved) → s.kinds ≡ kinds_of variables → IsGathered variables (all_items t) g
    → moved ≡ moved_of (cells_in s g.pieces.items) → moved ≡ moved_in variables (values_of s) t
moved_is variables s t g moved kinds h made = made ∙ ap moved_of (cells_are variables s t g kinds h)

-- ---- one operand alone, and no group

pub alone : (variables : List Variable) (t : Transfer) (slice : List Operand) (item : Operand) (run : Run) → slice ≡ t.items → length slice ≡ 1 → item ≡ get_or slice 0 item → members_in t.control ≡ [] → IsPiece variables item (Places run)
    → ArePieces variables (all_items t) (Places run ∷ [])
alone variables t slice item run same one is none h =
    let P : List Operand → Type 0 = λ xs. ArePieces variables xs (Places run ∷ []) in
    let Q : Operand → Type 0 = λ x. IsPiece variables x (Places run) in
    subst P (only slice item one ∙ same ∙ sym (append-nil t.items) ∙ ap (λ xs. t.items ++ xs) (sym none)) (subst Q is h, tt)
  where
    only : (xs : List Operand) (x : Operand) → length xs ≡ 1 → get_or xs 0 x ∷ [] ≡ xs
    only [] x one = absurd (omega (arith, one))
    only (y ∷ []) x one = refl
    only (y ∷ z ∷ zs) x one = absurd (omega (arith, one))

pub alone_is : (variables : List Variable) (s : Storage) (t : Transfer) (run : Run) → s.kinds ≡ kinds_of variables → ArePieces variables (all_items t) (Places run ∷ []) → moved_of (map (cell_at s) (places_of run)) ≡ moved_in variables (values_of s) t
alone_is variables s t run kinds h =
    ap moved_of (sym (append-nil (map (cell_at s) (places_of run))) ∙ pieces_cells variables s 1 (all_items t) (Places run ∷ []) kinds h ∙ all_cells variables (values_of s) t.items t.control)

-- ---- pieces that are runs alone

pub run_cells_are : (s : Storage) (n : ℕ) (runs : List Run) → cells_from s n (map Places runs) ≡ map (cell_at s) (places_in runs)
run_cells_are s n [] = refl
run_cells_are s n (run ∷ runs) = ap (λ cs. map (cell_at s) (places_of run) ++ cs) (run_cells_are s n runs) ∙ sym (map-append (cell_at s) (places_of run) (places_in runs))

pub run_sizes : (runs : List Run) → sizes (map Places runs) ≡ length (places_in runs)
run_sizes [] = refl
run_sizes (run ∷ runs) =
    let long : length (places_of run ++ places_in runs) ≡ length (places_of run) + length (places_in runs) = length-append (places_of run) (places_in runs) in
    let count : length (places_of run) ≡ run.count = length-counted_from run.var run.first run.count in
    let rest = run_sizes runs in omega (arith, long, count, rest)

pub run_more : (runs : List Run) (run : Run) (all items rest : List Piece) → items ≡ Places run ∷ rest → map Places runs ++ items ≡ all → map Places (runs ++ run ∷ []) ++ rest ≡ all
run_more runs run all items rest e so_far =
    ap (λ ps. ps ++ rest) (map-append Places runs (run ∷ [])) ∙ append_assoc (map Places runs) (Places run ∷ []) rest ∙ ap (λ ps. map Places runs ++ ps) (sym e) ∙ so_far

-- ---- one element more

pub all_more : {A : Type 0} → (P : A → Type 0) (xs : List A) (i : ℕ) (x : A) → i < length xs → x ≡ get_or xs i x → All P (take i xs) → P x → All P (take (i + 1) xs)
all_more {A} P xs i x low is so_far this =
    let Q : List A → Type 0 = λ ys. All P ys in
    subst Q (sym (take_more xs i x low)) (All-push P (take i xs) (get_or xs i x) so_far (subst P is this))

pub all_more_at : {A : Type 0} → (P : A → Type 0) (xs : List A) (i : ℕ) (d : A) → i < length xs → All P (take i xs) → P (get_or xs i d) → All P (take (i + 1) xs)
all_more_at {A} P xs i d low so_far this =
    let Q : List A → Type 0 = λ ys. All P ys in
    subst Q (sym (take_more xs i d low)) (All-push P (take i xs) (get_or xs i d) so_far this)

pub all_taken : {A : Type 0} → (P : A → Type 0) (xs : List A) (i : ℕ) → length xs ≤ i → All P (take i xs) → All P xs
all_taken {A} P xs i past h = let Q : List A → Type 0 = λ ys. All P ys in subst Q (whole xs i past) h

-- ---- the ends

pub no_members : (variables : List Variable) (t : Transfer) (g : Gathered) (slice : List Operand) → members_in t.control ≡ [] → slice ≡ t.items → IsGathered variables slice g → IsGathered variables (all_items t) g
no_members variables t g slice none same h =
    let P : List Operand → Type 0 = λ xs. IsGathered variables xs g in
    subst P (same ∙ sym (append-nil t.items) ∙ ap (λ xs. t.items ++ xs) (sym none)) h

pub group_members : (variables : List Variable) (t : Transfer) (g : Gathered) (items : List Operand) (slice vars : List ℕ) → members_in t.control ≡ map operand.Whole vars → items ≡ t.items → slice ≡ vars
    → IsGathered variables (items ++ map operand.Whole slice) g → IsGathered variables (all_items t) g
group_members variables t g items slice vars members same same_vars h =
    let P : List Operand → Type 0 = λ xs. IsGathered variables xs g in
    subst P (ap (λ xs. xs ++ map operand.Whole slice) same ∙ ap (λ vs. t.items ++ map operand.Whole vs) same_vars ∙ ap (λ xs. t.items ++ xs) (sym members)) h
