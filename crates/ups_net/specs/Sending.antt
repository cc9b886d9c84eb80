-- What a connection sends is committed.
use Rattle.std.specs.Prelude.{◌≢◌, ℕ, length}
use Rattle.ups_turn.specs.Pass.{PassView}

-- If the pass has made a call, what holds once entries are committed holds of as many as it has then seen.
abbrev pub HasSent : {A : Type 0} → (ℕ → Type 0) → PassView A → PassView A → Type 0
HasSent had old new = new.calls ≢ old.calls → ∥ had (length new.seen) ∥₁
