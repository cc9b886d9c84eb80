-- A line that tells an accepted request, answered.
use Rattle.std.proofs.Common.{◌≡◌, ℕ, List, Result, refl, sym, subst}
use Rattle.ups_cycle.specs.declared.status.Status.{Status}
use Rattle.ups_life.specs.declared.entry.Entry.{Entry}
use Rattle.ups_life.specs.declared.request.Ask.{Ask}
use Rattle.ups_life.specs.declared.request.Ask.TheVariants.{Do}
use Rattle.ups_life.specs.declared.request.Reply.{Reply}
use Rattle.ups_life.specs.declared.request.Request.{Request}
use Rattle.ups_life.specs.Settings.{Settings}
use Rattle.ups_service.specs.Law.{nobody, alone, Serves}
use Rattle.ups_requests.specs.declared.asking.Question.{Question}
use Rattle.ups_requests.specs.declared.asking.Question.TheVariants as questions
use Rattle.ups_requests.specs.Told.{AsksFor, TellsEntry}
use Rattle.ups_script.specs.declared.telling.Told.{Told}
use Rattle.ups_script.specs.declared.telling.Told.TheVariants as told
use Rattle.ups_script.specs.Running.{AnswersLine}
use Rattle.ups_script.specs.Telling.{Meets, TellsOf}

-- a question that asks for one request is answered as this request
abbrev pub IsServed : {A : Type 0} → Settings → List (Entry A) → List ℕ → ℕ → Request A → Told A → List (Entry A) → Type 0
IsServed {A} s history ae moment request answer after = (reply : Reply A) × (answer ≡ told.Replied reply) × Serves s nobody 0 (alone history) ae moment (Do request) reply (alone after)

served : {A : Type 0} (s : Settings) (history after : List (Entry A)) (ae : List ℕ) (moment : ℕ) (q : Question A) (answer : Told A) (request : Request A)
    → AsksFor s.offset q request → TellsOf s history ae moment q answer after → IsServed s history ae moment request answer after
served s history after ae moment (questions.Message operation bytes) (told.Replied reply) request asks (meaning, means, meets) =
    (reply, refl, subst (λ (m : Result (Ask _) Status). Meets s history ae moment m reply after) (asks meaning means) meets)
served s history after ae moment (questions.Acknowledge upto) (told.Replied reply) request asks tells =
    (reply, refl, subst (λ (r : Request _). Serves s nobody 0 (alone history) ae moment (Do r) reply (alone after)) (sym asks) tells)
served s history after ae moment questions.Sweep (told.Replied reply) request asks tells =
    (reply, refl, subst (λ (r : Request _). Serves s nobody 0 (alone history) ae moment (Do r) reply (alone after)) (sym asks) tells)
served s history after ae moment (questions.Reserve step) (told.Replied reply) request asks tells =
    (reply, refl, subst (λ (r : Request _). Serves s nobody 0 (alone history) ae moment (Do r) reply (alone after)) (sym asks) tells)
served s history after ae moment (questions.Message operation bytes) answer request asks tells = absurd tells
served s history after ae moment (questions.Acknowledge upto) answer request asks tells = absurd tells
served s history after ae moment questions.Sweep answer request asks tells = absurd tells
served s history after ae moment (questions.Reserve step) answer request asks tells = absurd tells
served s history after ae moment q answer request asks tells = absurd asks

pub told_again : {A : Type 0} (s : Settings) (history after : List (Entry A)) (line : List ℕ) (answer : Told A) (e : Entry A) → TellsEntry s.offset line e → AnswersLine s history line answer after
    → IsServed s history e.ae e.moment e.request answer after
told_again {A} s history after line answer e only (asked, at, tells) =
    let (moment, title, asks) = only asked.moment asked.ae asked.question at in
    subst (λ (t : List ℕ). IsServed s history t e.moment e.request answer after) title
    (subst (λ (m : ℕ). IsServed s history asked.ae m e.request answer after) moment (served s history after asked.ae asked.moment asked.question answer e.request asks tells))
