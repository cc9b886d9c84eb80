-- What leaves a sink, one write after another.
use Rattle.std.proofs.Common.{◌≡◌, ◌≤◌, ℕ, List, [], ◌∷◌, ◌++◌, take, Option, None, Some, Result, Ok, Err, refl, sym, ap, ◌∙◌}
use Rattle.std.specs.Prelude.{All, option_map}
use Rattle.std.proofs.lemmas.List.{append_assoc, append-nil}
use Rattle.std.proofs.lemmas.List.Elements.{All-append, All-nil, All-push, All-weaker}
use Rattle.ups_ledger.specs.Backed.{IsBacked}
use Rattle.ups_transport.specs.Leaving.{Departed, departed_on, departed_abort, HasLeft, IsAborting, IsBackedBy, LeavesMore, LeavesOnce}

leaves_nothing : (old : Option (List Departed)) → LeavesMore old [] old
leaves_nothing None = refl
leaves_nothing (Some before) = ap Some (sym (append-nil before))

leaves_on : (old mid new : Option (List Departed)) (first more : List Departed) → LeavesMore old first mid → LeavesMore mid more new → LeavesMore old (first ++ more) new
leaves_on None mid new first more x y = y ∙ ap (option_map (λ (l : List Departed). l ++ more)) x
leaves_on (Some before) mid new first more x y = y ∙ (ap (option_map (λ (l : List Departed). l ++ more)) x ∙ ap Some (append_assoc before first more))

backed_abort : (had : ℕ → Type 0) (d : Departed) → IsAborting d → IsBackedBy had d
backed_abort had (departed_on rests kept bytes) abort = absurd abort
backed_abort had (departed_abort bytes) abort = abort

module _ (had : ℕ → Type 0) where
  pub left_nothing : (old : Option (List Departed)) → HasLeft had old old
  left_nothing old = record { more = []; leaves = leaves_nothing old; backed = All-nil (IsBackedBy had) }

  pub left_same : (old mid new : Option (List Departed)) → new ≡ mid → HasLeft had old mid → HasLeft had old new
  left_same old mid new is left = record { more = left.more; leaves = is ∙ left.leaves; backed = left.backed }

  -- bytes left at one write, or none did
  pub left_once : {E : Type 0} (old mid new : Option (List Departed)) (rests kept : ℕ) (bytes : List ℕ) (result : Result ℕ E) → rests ≤ kept → IsBacked had kept → LeavesOnce mid rests kept bytes result new → HasLeft had old mid → HasLeft had old new
  left_once old mid new rests kept bytes (Ok count) few backed leaves left = record {
    more = left.more ++ departed_on rests kept (take count bytes) ∷ [];
    leaves = leaves_on old mid new left.more (departed_on rests kept (take count bytes) ∷ []) left.leaves leaves;
    backed = All-push (IsBackedBy had) left.more (departed_on rests kept (take count bytes)) left.backed (few, backed);
  }
  left_once old mid new rests kept bytes (Err fault) few backed leaves left = left_same old mid new leaves left

  -- an A-ABORT left, in part or in whole, or none did
  pub left_abort : (old mid new : Option (List Departed)) (more : List Departed) → LeavesMore mid more new → All IsAborting more → HasLeft had old mid → HasLeft had old new
  left_abort old mid new more leaves abort left = record {
    more = left.more ++ more;
    leaves = leaves_on old mid new left.more more left.leaves leaves;
    backed = All-append (IsBackedBy had) left.more more left.backed (All-weaker IsAborting (IsBackedBy had) (backed_abort had) more abort);
  }
