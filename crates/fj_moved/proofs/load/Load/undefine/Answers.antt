use Rattle.std.proofs.Common.{ℕ, List, length, replicate, ap, sym, ◌∙◌}
use Rattle.std.specs.List.{range_with_len}
use Rattle.std.proofs.lemmas.List.{length-replicate}
use Rattle.fj_value.specs.declared.value.Cell.{Cell}
use Rattle.fj_value.specs.declared.value.Value.TheVariants.{Undefined}
use Rattle.fj_moved.specs.declared.moved.Moved.{Moved}
use Rattle.fj_moved.specs.Cells.{places_of}
use Rattle.fj_moved.specs.Load.{moved_by, row_cells, with_undefined}
use Rattle.fj_moved.specs.contracts.load.Load.{the_view}
use Rattle.fj_moved.proofs.LoadLemmas.{row_undefined, places_undefined}
use Rattle.fj_moved.proofs.load.Load.undefine.Goals as goal
use Rattle.fj_moved.proofs.load.Load.undefine.Goals.{in-Cells, in-Row}

pub returns-clause-values : goal.returns-clause-values
returns-clause-values c =
    let cleared : Moved → Moved = λ m. record { cells = with_undefined m.cells; order = m.order } in
    let both : List Cell → List ℕ → Moved = λ cells order. record { cells = cells; order = order } in
    elim c.match-self.branch [
      | in-Cells w ↦
          ap the_view w.self-inside-is
          ∙ ap (λ cs. both cs w.in-Cells.moved.order) w.undefine.ensures.values
          ∙ ap (λ s. cleared (moved_by s)) (sym w.in-Cells.is) ∙ ap cleared c.self.view_is
      | in-Row w ↦
          let row = w.in-Row.row in
          let n = length row.values in
          ap the_view w.self-inside-is
          ∙ ap (λ vs. both (row_cells row.first row.kind vs) (range_with_len 0 (length vs))) w.undefine_row.ensures
          ∙ ap (λ cs. both cs (range_with_len 0 (length (replicate n Undefined)))) (row_undefined row.first row.kind row.values)
          ∙ ap (λ k. both (with_undefined (row_cells row.first row.kind row.values)) (range_with_len 0 k)) (length-replicate n Undefined)
          ∙ ap (λ s. cleared (moved_by s)) (sym w.in-Row.is) ∙ ap cleared c.self.view_is
    ]

pub returns-clause-places : goal.returns-clause-places
returns-clause-places c =
    ap (λ m. places_of m.cells) (returns-clause-values c) ∙ places_undefined c.args.self.now.cells
