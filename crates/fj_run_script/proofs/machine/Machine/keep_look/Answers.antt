use Rattle.std.proofs.Common.{◌≡◌, ◌+◌, ◌≤◌, ◌∷◌, [], None, length, slice_set, drop, refl, sym, ap, subst, ◌∙◌, arith, length-append, length-set, vec_capacity}
use Rattle.fj_statement.specs.Sound.{IsSound}
use Rattle.fj_meaning.specs.State.{Files}
use Rattle.fj_run_script.specs.Asking.{inquired_of}
use Rattle.fj_run_script.specs.Looking.{are_done, known_at, look_at}
use Rattle.fj_run_script.specs.Room.{looks_left}
use Rattle.fj_run_script.proofs.Counting.{files_at, have_start, known_asks}
use Rattle.fj_run_script.proofs.Known.{question_inside, run_known_at, set_twice, sound_known, start_may}
use Rattle.fj_run_script.proofs.Looks.{asks_looked, question_some, room_left, room_used}
use Rattle.fj_run_script.proofs.NextAsks.{behind_at, hand_is}
use Rattle.fj_run_script.proofs.machine.Machine.keep_look.Goals as goal

pub push_reserved-requires : goal.push_reserved-requires
push_reserved-requires g c =
    let m = c.args.self.now in
    let q = inquired_of c.args.asked in
    let l = c.replace-lined.result in
    let no_files : Files = λ name. None in
    let here = question_inside no_files m q (c.requires.question no_files) in
    let item = c.replace-lined.ensures.item in
    let asks = question_some m l item no_files q here.1 in
    let some = room_left (length m.looks.items) (vec_capacity m.looks) m.deck.statements m.at.place l item asks m.room in
    omega (arith, some)

pub invariant_of-self : goal.invariant_of-self
invariant_of-self g c =
    let m = c.args.self.now in
    let q = inquired_of c.args.asked in
    let l = c.replace-lined.result in
    let w = c.put_done.new.self in
    let deck : c.put_back.new.statements ≡ slice_set m.deck.statements m.at.place (known_at q c.args.done l) =
    c.put_back.ensures ∙ ap (λ xs. slice_set xs m.at.place (record l { what = w })) c.replace-lined.ensures.rest ∙ set_twice m.deck.statements m.at.place _ (record l { what = w })
    ∙ ap (λ x. slice_set m.deck.statements m.at.place (record l { what = x })) c.put_done.ensures in
    let no_files : Files = λ name. None in
    let here = question_inside no_files m q (c.requires.question no_files) in
    let item = c.replace-lined.ensures.item in
    let asks = question_some m l item no_files q here.1 in
    let new = c.push_reserved.new.self in
    let long : length new.items ≡ length m.looks.items + 1 = ap length c.push_reserved.ensures.items ∙ length-append m.looks.items (look_at q c.args.done l ∷ []) in
    let used = room_used (length m.looks.items) (vec_capacity m.looks) m.deck.statements m.at.place l (known_at q c.args.done l) item asks (asks_looked q.unit (are_done q c.args.done) l.what) m.room in
    record {
      kinds = m.kinds;
      hand = start_may c.put_back.new.statements m.at.place m.state.stage here.0;
      refused = m.refused;
      room = subst (λ sts. length new.items + looks_left (drop m.at.place sts) ≤ vec_capacity new) (sym deck) (omega (arith, used, long, c.push_reserved.ensures.capacity));
    }

pub returns-clause-looks : goal.returns-clause-looks
returns-clause-looks g c =
    let m = c.args.self.now in
    let q = inquired_of c.args.asked in
    let l = c.replace-lined.result in
    let w = c.put_done.new.self in
    let deck : c.put_back.new.statements ≡ slice_set m.deck.statements m.at.place (known_at q c.args.done l) =
    c.put_back.ensures ∙ ap (λ xs. slice_set xs m.at.place (record l { what = w })) c.replace-lined.ensures.rest ∙ set_twice m.deck.statements m.at.place _ (record l { what = w })
    ∙ ap (λ x. slice_set m.deck.statements m.at.place (record l { what = x })) c.put_done.ensures in
    let no_files : Files = λ name. None in
    let here = question_inside no_files m q (c.requires.question no_files) in
    record {
      question = q;
      is = c.requires.question;
      lined = l;
      here = c.replace-lined.ensures.item;
      deck = ap (λ sts. record m.deck { statements = sts }) deck;
      looks = c.push_reserved.ensures.items;
      at = refl;
      state = refl;
      tally = refl;
      kept = refl;
      run = λ files r known. run_known_at g.F.FileStore.told g.F.FileStore.bytes files m c.put_back.new.statements r here.0 known;
    }

pub returns-clause-on : goal.returns-clause-on
returns-clause-on g c = λ going.
    let m = c.args.self.now in
    let q = inquired_of c.args.asked in
    let l = c.replace-lined.result in
    let w = c.put_done.new.self in
    let deck : c.put_back.new.statements ≡ slice_set m.deck.statements m.at.place (known_at q c.args.done l) =
    c.put_back.ensures ∙ ap (λ xs. slice_set xs m.at.place (record l { what = w })) c.replace-lined.ensures.rest ∙ set_twice m.deck.statements m.at.place _ (record l { what = w })
    ∙ ap (λ x. slice_set m.deck.statements m.at.place (record l { what = x })) c.put_done.ensures in
    let no_files : Files = λ name. None in
    let here = question_inside no_files m q (c.requires.question no_files) in
    let item = c.replace-lined.ensures.item in
    let asks = question_some m l item no_files q here.1 in
    let files = files_at m.state.stage m.state.core.names m.state.core.units _ here.0 (going.at.files _ (behind_at m) (hand_is m l item)) in
    let long : length c.put_back.new.statements ≡ length m.deck.statements = ap length deck ∙ length-set m.deck.statements m.at.place (known_at q c.args.done l) in
    record {
      sound = subst (λ sts. IsSound (record m.deck { statements = sts })) (sym deck) (sound_known m.deck m.at.place l q.unit (are_done q c.args.done) item asks going.sound);
      at = record {
        files = λ st more e. have_start m.state.stage m.state.core.names m.state.core.units st.0.what here.0 files;
        few = going.at.few;
        kept = going.at.kept;
      };
      sent = going.sent;
      told = going.told;
      owes = going.owes;
      awaited = going.awaited;
      asks = known_asks m (length c.put_back.new.statements) (sym long) going.asks;
    }
