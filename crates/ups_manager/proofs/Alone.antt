-- The law of a service, of one that alone has the history.
use Rattle.std.proofs.Common.{◌≡◌, ℕ, List, [], ◌++◌, refl, sym, ap, subst}
use Rattle.std.proofs.lemmas.List.{append-nil}
use Rattle.ups_life.specs.declared.entry.Entry.{Entry}
use Rattle.ups_life.specs.declared.request.Ask.{Ask}
use Rattle.ups_life.specs.declared.request.Reply.{Reply}
use Rattle.ups_life.specs.Settings.{Settings}
use Rattle.ups_service.specs.Law.{nobody, alone, is_legal, Answers, entered, Serves}

pub serves_alone : {A : Type 0} (s : Settings) (caller : ℕ) (before after : List (Entry A)) (ae : List ℕ) (moment : ℕ) (ask : Ask A) (reply : Reply A) → is_legal s before → Answers s before caller ae moment ask reply
    → after ≡ before ++ entered caller ae moment ask reply → Serves s nobody caller (alone before) ae moment ask reply (alone after)
serves_alone s caller before after ae moment ask reply legal answers is =
    ([], refl, subst (is_legal s) (sym (append-nil before)) legal, subst (λ h. Answers s h caller ae moment ask reply) (sym (append-nil before)) answers, ap alone (rw append-nil is))
