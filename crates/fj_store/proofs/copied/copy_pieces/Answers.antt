use Rattle.std.proofs.Common.{◌≡◌, ◌∷◌, ◌+◌, refl, ap, subst, ◌∙◌, ℕ, arith}
use Rattle.fj_store.specs.declared.piece.Piece.{Piece}
use Rattle.fj_store.specs.declared.piece.Piece.TheVariants.{Places, Own}
use Rattle.fj_store.specs.Pieces.{sizes, own_cell}
use Rattle.fj_store.specs.Storage.{storage}
use Rattle.fj_store.specs.Taking.{HasRoom, items_in, values_in}
use Rattle.fj_store.proofs.TakingLemmas.{room_less, marks_of_own}
use Rattle.fj_store.proofs.CopyLemmas.{places_step, own_step, size_step, unused_run, unused_own}
use Rattle.fj_store.proofs.copied.copy_pieces.Goals as goal

pub copy_run-requires-clause-room : goal.copy_run-requires-clause-room
copy_run-requires-clause-room c =
    let e : c.copying.pieces.items ≡ Places c.in-Places.run' ∷ c.pop_front.new.self.items = c.in-Some.ensures.items ∙ ap (λ (p : Piece). p ∷ c.pop_front.new.self.items) c.in-Places.is in
    let size = size_step c.copying.pieces.items c.pop_front.new.self.items (Places c.in-Places.run') e in
    room_less c.copying.taken c.in-Places.run'.count (sizes c.copying.pieces.items) (omega (arith, size)) c.copying.invariant.room

pub add_own-requires-clause-room : goal.add_own-requires-clause-room
add_own-requires-clause-room c =
    let e : c.copying.pieces.items ≡ Own c.in-Own.kind c.in-Own.value ∷ c.pop_front.new.self.items = c.in-Some.ensures.items ∙ ap (λ (p : Piece). p ∷ c.pop_front.new.self.items) c.in-Own.is in
    let size = size_step c.copying.pieces.items c.pop_front.new.self.items (Own c.in-Own.kind c.in-Own.value) e in
    room_less c.copying.taken 1 (sizes c.copying.pieces.items) (omega (arith, size)) c.copying.invariant.room

pub returns-in_err-copy_run-in-Places-clause-same : goal.returns-in_err-copy_run-in-Places-clause-same
returns-in_err-copy_run-in-Places-clause-same c = c.copy_run.ensures.same ∙ c.copying.invariant.same

pub copying-preserved-in-Continue-1 : goal.copying-preserved-in-Continue-1
copying-preserved-in-Continue-1 c =
    let l = c.copying in
    let rest = c.pop_front.new.self.items in
    let run = c.in-Places.run' in
    let e : l.pieces.items ≡ Places run ∷ rest = c.in-Some.ensures.items ∙ ap (λ (p : Piece). p ∷ rest) c.in-Places.is in
    let size : sizes l.pieces.items ≡ run.count + sizes rest = size_step l.pieces.items rest (Places run) e in
    let P : ℕ → Type 0 = λ n. HasRoom l.taken n in
    record {
      items = places_step c.args.kinds.now c.args.slots.now (values_in l.slots) (l.own + 1) (items_in l.taken) (items_in c.copy_run.new.taken) _ l.pieces.items rest run c.kind_in.result e c.kind_in.ensures l.invariant.same
          c.in_ok-copy_run-in-Places.ensures.items l.invariant.items;
      same = c.copy_run.ensures.same ∙ l.invariant.same;
      marked = c.in_ok-copy_run-in-Places.ensures.marked;
      free = unused_run (l.own + 1) c.kind_in.result (values_in l.slots) (items_in l.taken) (items_in c.copy_run.new.taken) run l.mixed c.is_mixed-mixed.result c.is_mixed-mixed.ensures c.in_ok-copy_run-in-Places.ensures.items l.invariant.free;
      room = c.in_ok-copy_run-in-Places.ensures.room (sizes rest) (subst P size l.invariant.room);
      few = let low = l.invariant.few in omega (arith, size, low);
    }

pub copying-preserved : goal.copying-preserved
copying-preserved c =
    let l = c.copying in
    let rest = c.pop_front.new.self.items in
    let kind = c.in-Own.kind in
    let value = c.in-Own.value in
    let e : l.pieces.items ≡ Own kind value ∷ rest = c.in-Some.ensures.items ∙ ap (λ (p : Piece). p ∷ rest) c.in-Own.is in
    let size : sizes l.pieces.items ≡ 1 + sizes rest = size_step l.pieces.items rest (Own kind value) e in
    let more : sizes l.pieces.items ≡ sizes rest + 1 = omega (arith, size) in
    let P : ℕ → Type 0 = λ n. HasRoom l.taken n in
    record {
      items = own_step (storage c.args.kinds.now c.args.slots.now) (l.own + 1) (items_in l.taken) (items_in c.add_own.new.taken) _ l.pieces.items rest kind value e c.add_own.ensures.item l.invariant.items;
      same = l.invariant.same;
      marked = marks_of_own l.slots (items_in l.taken) (items_in c.add_own.new.taken) (own_cell (l.own + 1) kind value) l.invariant.marked refl c.add_own.ensures.item;
      free = λ unmixed. unused_own (l.own + 1) (items_in l.taken) (items_in c.add_own.new.taken) kind value c.add_own.ensures.item (l.invariant.free unmixed);
      room = c.add_own.ensures.room (sizes rest) (subst P more l.invariant.room);
      few = let low = l.invariant.few in omega (arith, size, low);
    }
