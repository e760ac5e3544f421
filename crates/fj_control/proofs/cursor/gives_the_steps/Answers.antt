use Rattle.fj_control.proofs.Control.{gives_the_steps, rounds_are_enough}
use Rattle.fj_control.proofs.cursor.gives_the_steps.Goals as goal

pub returns : goal.returns
returns c = record { run = gives_the_steps; enough = rounds_are_enough }
