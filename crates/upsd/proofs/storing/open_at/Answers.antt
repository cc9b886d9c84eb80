use Rattle.upsd.proofs.storing.open_at.Goals as goal

pub returns-in-Ok-clause-resumes : goal.returns-in-Ok-clause-resumes
returns-in-Ok-clause-resumes g c = λ sound.
    let begins = c.in-Ok.ensures.begins in
    record { found = begins.0; finds = begins.1; moment = _; begins = begins.2 (c.in-Ok.ensures.honest sound) }
