use Rattle.std.proofs.Common.{ℕ, List, subst}
use Rattle.ups_script.specs.Telling.{RepliesToMessage}
use Rattle.ups_script.proofs.telling.tell.Goals as goal

pub returns-in_ok-reply-in-Message-clause-tells : goal.returns-in_ok-reply-in-Message-clause-tells
returns-in_ok-reply-in-Message-clause-tells g c =
    rw (c.in-Message.is)
    (subst (λ (bytes : List ℕ). RepliesToMessage c.args.manager.now.settings c.args.manager.now.history c.args.asked.now.ae c.args.asked.now.moment c.in-Message.operation bytes c.in_ok-reply-in-Message.reply c.reply_to.new.manager.history)
    c.deref.ensures.value c.in_ok-reply-in-Message.ensures.replies)
