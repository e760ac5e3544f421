-- Draws and decks at worked cases.
use Rattle.std.specs.Prelude.{◌≡◌, [], ◌∷◌, codes}
use Rattle.fj_gen.specs.Draws.{draws}
use Rattle.fj_gen.specs.Generated.{generated_text}

pub record CasesAreRight : Type 0 where
  pub four : draws 4 1 ≡ 16838 ∷ 5758 ∷ 10113 ∷ 17515 ∷ []
  pub none : generated_text 0 0
      ≡ codes "INTEGER V(4)\nOPEN(10,FILE='G10',STATUS='REPLACE',ASYNCHRONOUS='YES')\nOPEN(11,FILE='G11',STATUS='REPLACE',ASYNCHRONOUS='YES')\nCLOSE(10)\nCLOSE(11)\nEND\n"
  pub two : generated_text 1 2
      ≡ codes "INTEGER V(4)\nOPEN(10,FILE='G10',STATUS='REPLACE',ASYNCHRONOUS='YES')\nOPEN(11,FILE='G11',STATUS='REPLACE',ASYNCHRONOUS='YES')\nV(1) = 758\nWRITE(10,'(I6)',ASYNCHRONOUS='YES') V(1)\nV(2) = 515\nWRITE(11,'(I6)',ASYNCHRONOUS='YES') V(2)\nCLOSE(10)\nCLOSE(11)\nEND\n"
