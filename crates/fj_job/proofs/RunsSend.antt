-- A list of runs, of which one may stand in place, may go to another thread.
use denote.RattleType.{RattleType}
use denote.Param.Send.{IsSend, view_send, sendable}
use denote.Param.SendFields.{as_row_send, declared_send, variants_send}
use Rattle.std.proofs.Crossing.{crosses}
use Rattle.std_heap.specs.contracts.Global as Heap
use Rattle.std_heap.specs.contracts.GlobalAllocator.TheImpl.{ghosts}
use Rattle.arrayvec.specs.contracts.cells.Cells as Cells
use Rattle.arrayvec.specs.contracts.array_vec.ArrayVec as Array
use Rattle.arrayvec.specs.contracts.array_vec.ArrayVec.TheInside as ArrayInside
use Rattle.smallvec.specs.contracts.storage.Data as Data
use Rattle.smallvec.specs.contracts.small_vec.SmallVec as Small
use Rattle.smallvec.specs.contracts.small_vec.SmallVec.TheInside as SmallInside
use Rattle.fj_store.specs.contracts.run.Run as Run
use Rattle.fj_store.specs.contracts.runs.Runs as Runs

-- ---- what stands in place
cells_sends : (T N : RattleType) → IsSend T → IsSend (Cells.the_row T N)
cells_sends T N s = declared_send (Cells.the_type T N) (search (as_row_send, crosses, sendable) depth 20)

inside_array_sends : (T N A : RattleType) → IsSend T → IsSend A → IsSend (ArrayInside.the_row T N A)
inside_array_sends T N A s a = declared_send (ArrayInside.the_type T N A) (search (as_row_send, cells_sends, crosses, sendable) depth 20)

array_sends : (T N A : RattleType) → IsSend T → IsSend A → IsSend (Array.the_row T N A)
array_sends T N A s a = view_send _ _ _ _ _ (inside_array_sends T N A s a)

-- ---- that, or what stands on the heap
data_sends : (T N : RattleType) → IsSend T → IsSend (Data.the_row T N Heap.the_row ghosts)
data_sends T N s = variants_send (Data.enum T N Heap.the_row ghosts) (search (as_row_send, array_sends, crosses, sendable) depth 20)

inside_small_sends : (T N : RattleType) → IsSend T → IsSend (SmallInside.the_row T N Heap.the_row ghosts)
inside_small_sends T N s = declared_send (SmallInside.the_type T N Heap.the_row ghosts) (search (as_row_send, data_sends, crosses, sendable) depth 20)

small_sends : (T N : RattleType) → IsSend T → IsSend (Small.the_row T N Heap.the_row ghosts)
small_sends T N s = view_send _ _ _ _ _ (inside_small_sends T N s)

run_sends : IsSend Run.the_row
run_sends = declared_send Run.the_type (search (as_row_send, crosses, sendable) depth 20)

pub runs_sends : IsSend Runs.the_row
runs_sends = search (small_sends, run_sends, crosses, sendable) depth 20
