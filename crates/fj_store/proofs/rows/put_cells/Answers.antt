use Rattle.std.proofs.Common.{◌≡◌, ◌∷◌, length, ap, arith}
use Rattle.fj_store.proofs.RowLemmas.{cell_put}
use Rattle.fj_store.proofs.rows.put_cells.Goals as goal

pub returns-in_default-clause-put : goal.returns-in_default-clause-put
returns-in_default-clause-put c =
    cell_put c.args.kind c.args.cell.place.var (c.args.cell ∷ c.args.rest.now.items) c.args.marks.now c.putting.marks c.put_home.new.marks c.args.values.now c.putting.values c.put_home.new.values c.putting.cell c.putting.rest.items
    c.pop_front.new.self.items c.of_kind.result c.putting.invariant.var c.of_kind.ensures c.put_home.ensures.marks c.put_home.ensures.values c.in_default.ensures.items c.putting.invariant.put

pub returns-then-next-var-clause-put : goal.returns-then-next-var-clause-put
returns-then-next-var-clause-put c =
    cell_put c.args.kind c.args.cell.place.var (c.args.cell ∷ c.args.rest.now.items) c.args.marks.now c.putting.marks c.put_home.new.marks c.args.values.now c.putting.values c.put_home.new.values c.putting.cell c.putting.rest.items
    (c.in-Some.next ∷ c.pop_front.new.self.items) c.of_kind.result c.putting.invariant.var c.of_kind.ensures c.put_home.ensures.marks c.put_home.ensures.values c.in-Some.ensures.items c.putting.invariant.put

pub putting-preserved : goal.putting-preserved
putting-preserved c = record {
  put = cell_put c.args.kind c.args.cell.place.var (c.args.cell ∷ c.args.rest.now.items) c.args.marks.now c.putting.marks c.put_home.new.marks c.args.values.now c.putting.values c.put_home.new.values c.putting.cell c.putting.rest.items
      (c.in-Some.next ∷ c.pop_front.new.self.items) c.of_kind.result c.putting.invariant.var c.of_kind.ensures c.put_home.ensures.marks c.put_home.ensures.values c.in-Some.ensures.items c.putting.invariant.put;
  var = c.if-next-var.false;
  fewer = let e : length c.putting.rest.items ≡ length (c.in-Some.next ∷ c.pop_front.new.self.items) = ap length c.in-Some.ensures.items in let f = c.putting.invariant.fewer in omega (arith, e, f);
}
