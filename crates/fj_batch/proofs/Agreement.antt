-- Two members with the same text and files have the same reply.
use Rattle.std.proofs.Common.{◌≡◌, ℕ, false, List, ◌++◌, Some, sym, ◌∙◌, ap, subst}
use Rattle.fj_job.specs.Reply.{OneReply, IsReplyTo, files_in}
use Rattle.fj_job.specs.Seen.{Seen, OnDisk}
use Rattle.fj_job.specs.declared.task.Task.TheVariants.{Execute}
use Rattle.fj_batch.specs.declared.member.Member.{Member}
use Rattle.fj_batch.specs.Agreeing.{AnswersAgree}

module _ {R D S E : Type 0} (unique : OneReply) (old new : Member R D) (source : Seen (List ℕ)) (disk : Seen OnDisk) (old' new' : Member S E) (source' : Seen (List ℕ)) (disk' : Seen OnDisk) where
  pub answers_agree : AnswersAgree old new source disk old' new' source' disk'
  answers_agree workers workers' one other answer answer' before =
      let r = one.ran.replied answer before.told.0 (λ deck. before.told.1) in
      let r' = other.ran.replied answer' before.told'.0 (λ deck. before.told'.1) in
      let by_files : IsReplyTo (Execute workers' false) source.before (files_in disk'.before.held.files) r.reply =
      subst (λ files. IsReplyTo (Execute workers' false) source.before files r.reply) before.files r.is in
      let here : IsReplyTo (Execute workers' false) source'.before (files_in disk'.before.held.files) r.reply =
      subst (λ text. IsReplyTo (Execute workers' false) text (files_in disk'.before.held.files) r.reply) before.text by_files in
      let same : r.reply ≡ r'.reply = unique (Execute workers' false) source'.before (files_in disk'.before.held.files) r.reply r'.reply here r'.is in
      record {
        answer = one.answered ∙ (ap (λ status. Some status) (r.answer ∙ (ap (λ reply. reply.status) same ∙ sym r'.answer)) ∙ sym other.answered);
        bytes = r.output tt ∙ (ap (λ printed. printed ++ r.reply.output) before.printed ∙ (ap (λ reply. old'.out ++ reply.output) same ∙ sym (r'.output tt)));
        files = r.files_left ∙ (ap (λ reply. reply.files) same ∙ sym r'.files_left);
      }
