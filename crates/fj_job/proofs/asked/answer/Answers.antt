use Rattle.std.proofs.Common.{inl, refl, sym, arith}
use Rattle.fj_job.specs.declared.task.Task.TheVariants.{Refuse, Check, Execute, Generate}
use Rattle.fj_job.proofs.ReplyLaws.{ended_by}
use Rattle.fj_job.proofs.RunLaws.{run_for, execute_for, run_without, run_refused, run_unread, no_words, no_check, cause_more, no_read}
use Rattle.fj_job.proofs.asked.answer.Goals as goal

pub returns-in-Refuse : goal.returns-in-Refuse
returns-in-Refuse g c =
    record {
      asked = record {
        told = λ disk. run_for Refuse c.args.task _ _ _ _ (sym c.in-Refuse.is) (run_refused c.refuse_words.result _ _ disk c.refuse_words.ensures.usage c.refuse_words.ensures.output
            c.refuse_words.ensures.front c.refuse_words.ensures.cause (record {
              aside = λ e. (refl, tt);
              check = λ e. tt;
              answer = λ l. tt;
              changed = λ t. inl tt;
              untold = λ e. no_read c.refuse_words.result _ _ _ c.refuse_words.ensures.cause e;
            }) (((λ t. t, λ t. t), omega arith), (c.refuse_words.ensures.telling, c.refuse_words.ensures.later)));
        unread = execute_for Refuse c.args.task _ (sym c.in-Refuse.is) tt;
        is_deck = λ t. tt;
        sound = tt;
        task_is = tt;
        untold = tt;
        goes_on = (((λ t. t, λ t. t), omega arith), (c.refuse_words.ensures.telling, c.refuse_words.ensures.later));
      };
    }

pub returns-in-Check : goal.returns-in-Check
returns-in-Check g c =
    let it = c.check_source.ensures in
    record {
      asked = record {
        told = λ disk. run_for Check c.args.task _ _ _ _ (sym c.in-Check.is) (run_without Check c.check_source.result _ _ disk (λ a t. it.replied disk.held.files a t) (record {
          usage = λ q. absurd (it.no_usage q);
          no_form = λ q. no_words Check _ tt q;
          ended = it.ended;
          refused = it.refused;
        }) (λ t e. tt) (λ t. tt) (λ t w. it.front disk.held.files t w) (cause_more c.check_source.result _ _ _ _ _ _ (λ r. ((λ a. a), r)) (λ x. x) (λ x. x) it.cause) (record {
          aside = λ q. absurd q;
          check = λ e. tt;
          answer = λ l. tt;
          changed = λ t. inl tt;
          untold = it.untold;
        }) ((it.deck_telling, it.deck_later), (it.out_telling, it.out_later)));
        unread = execute_for Check c.args.task _ (sym c.in-Check.is) tt;
        is_deck = λ t. tt;
        sound = tt;
        task_is = tt;
        untold = tt;
        goes_on = ((it.deck_telling, it.deck_later), (it.out_telling, it.out_later));
      };
    }

pub returns-in-Ok : goal.returns-in-Ok
returns-in-Ok g c = record {
  asked = record {
    told = λ disk. tt;
    unread = tt;
    is_deck = c.in-Ok.ensures.deck;
    sound = c.in-Ok.ensures.sound.0;
    task_is = c.in-Execute.is;
    untold = c.in-Ok.ensures.sound.1;
    goes_on = ((c.deck_of.ensures.deck_telling, c.deck_of.ensures.deck_later), (c.deck_of.ensures.out_telling, c.deck_of.ensures.out_later));
  };
}

pub returns-in-Err : goal.returns-in-Err
returns-in-Err g c =
    let task = Execute c.in-Execute.workers c.in-Execute.trace in
    record {
      asked = record {
        told = λ disk. run_for task c.args.task _ _ _ _ (sym c.in-Execute.is) (run_unread c.in-Execute.workers c.in-Execute.trace c.in-Err.status _ _ disk c.in-Err.ensures.refused c.in-Err.ensures.output
            c.in-Err.ensures.front c.in-Err.ensures.cause (record {
              aside = λ q. absurd q;
              check = λ q. no_check task _ tt q;
              answer = λ l. tt;
              changed = λ t. inl tt;
              untold = c.in-Err.ensures.untold;
            }) ((c.deck_of.ensures.deck_telling, c.deck_of.ensures.deck_later), (c.deck_of.ensures.out_telling, c.deck_of.ensures.out_later)));
        unread = execute_for task c.args.task _ (sym c.in-Execute.is) (record { is = c.in-Err.ensures.refused; taken = c.in-Err.ensures.front });
        is_deck = λ t. tt;
        sound = tt;
        task_is = tt;
        untold = tt;
        goes_on = ((c.deck_of.ensures.deck_telling, c.deck_of.ensures.deck_later), (c.deck_of.ensures.out_telling, c.deck_of.ensures.out_later));
      };
    }

pub returns-in-Generate : goal.returns-in-Generate
returns-in-Generate g c =
    let task = Generate c.in-Generate.seed c.in-Generate.count c.in-Generate.text in
    let it = c.make.ensures in
    record {
      asked = record {
        told = λ disk. run_for task c.args.task _ _ _ _ (sym c.in-Generate.is) (run_without task c.make.result _ _ disk (λ a t. it.replied (g.R.Source.left c.args.deck.now) disk.held.files a) (record {
          usage = λ q. absurd (it.no_usage q);
          no_form = λ q. no_words task _ tt q;
          ended = λ t. ended_by c.make.result _ tt;
          refused = λ t. it.refused;
        }) (λ t e. tt) (λ t. tt) (λ t w. it.front (g.R.Source.left c.args.deck.now) disk.held.files w) (cause_more c.make.result _ _ _ _ _ _ (λ x. absurd x) (λ x. x) (λ x. x) it.cause) (record {
          aside = λ q. (refl, tt);
          check = λ q. no_check task _ tt q;
          answer = λ l. tt;
          changed = λ t. inl tt;
          untold = λ e. no_read c.make.result _ _ _ it.cause e;
        }) (((λ t. t, λ t. t), omega arith), (it.telling, it.later)));
        unread = execute_for task c.args.task _ (sym c.in-Generate.is) tt;
        is_deck = λ t. tt;
        sound = tt;
        task_is = tt;
        untold = tt;
        goes_on = (((λ t. t, λ t. t), omega arith), (it.telling, it.later));
      };
    }
