-- The file and the window of a file that is read through a window.
use Rattle.std.specs.Prelude.{ℕ}
use Rattle.fj_outside.specs.Windows.{Window}
use Rattle.fj_outside.specs.declared.outside.FileStore.{Ghosts}
use Rattle.fj_outside.specs.declared.buffered.Buffered.{Buffered}

abbrev pub file_in : {F : Type 0} {ghosts : Ghosts F} → Buffered F ghosts → F
file_in buffered = buffered.file

abbrev pub window_in : {F : Type 0} {ghosts : Ghosts F} → Buffered F ghosts → Window
window_in buffered = buffered.window
