-- How seats stand between calls.
use Rattle.std.specs.Prelude.{◌≡◌, true, false, [], Option, None}
use Rattle.fj_queue.specs.declared.view.View.{View}
use Rattle.fj_queue.specs.Rule.{is_live}
use Rattle.atomic_table.specs.Table.{Me}

module _ {C E T : Type 0} (m : Me (Option C) (View E T)) where
  -- it holds no turn and no cell
  pub record IsResting : Type 0 where
    pub empty : m.1 ≡ []
    pub live : is_live m.0 ≡ true
    pub rests : m.0.holds ≡ false
    pub home : m.0.out ≡ false

  -- the submitter between two calls
  pub record IsSubmitter : Type 0 where
    pub empty : m.1 ≡ []
    pub sends : m.0.sends ≡ true
    pub works : m.0.works ≡ false
    pub rests : m.0.holds ≡ false
    pub home : m.0.out ≡ false
    pub idle : m.0.runs ≡ None

  -- a hand between two calls
  pub record IsHand : Type 0 where
    pub empty : m.1 ≡ []
    pub sends : m.0.sends ≡ false
    pub works : m.0.works ≡ true
    pub rests : m.0.holds ≡ false
    pub home : m.0.out ≡ false
    pub idle : m.0.runs ≡ None
