-- The steps needed, gathered one by one.
use Rattle.std.proofs.Common.{◌≡◌, ℕ, ◌<◌, ◌+◌, List, [], ◌∷◌, ◌++◌, length, take, get_or, sym, ap, ◌∙◌}
use Rattle.std.proofs.lemmas.List.{append_assoc, append-nil, take_more}
use Rattle.ups_life.specs.declared.entry.Entry.{Entry}
use Rattle.ups_life.specs.declared.peer.Peer.{Peer}
use Rattle.ups_life.specs.Settings.{Settings}
use Rattle.ups_life.specs.Events.{pending}
use Rattle.ups_compact.specs.Compacting.{steps_of_events, steps_pending}

module _ {A : Type 0} (s : Settings) (es : List (Entry A)) where
  pending_more : (ps : List Peer) (p : Peer) → steps_pending s es (ps ++ p ∷ []) ≡ steps_pending s es ps ++ steps_of_events (pending s es p.ae)
  pending_more [] p = append-nil (steps_of_events (pending s es p.ae))
  pending_more (x ∷ ps) p =
      ap (λ (us : List (List ℕ)). steps_of_events (pending s es x.ae) ++ us) (pending_more ps p)
      ∙ sym (append_assoc (steps_of_events (pending s es x.ae)) (steps_pending s es ps) (steps_of_events (pending s es p.ae)))

  module _ (before : List (List ℕ)) (ps : List Peer) (i : ℕ) where
    -- those of one peer more
    pub peer_more : (p : Peer) (now then : List (List ℕ)) → i < length ps → p ≡ get_or ps i p → now ≡ before ++ steps_pending s es (take i ps) → then ≡ now ++ steps_of_events (pending s es p.ae)
        → then ≡ before ++ steps_pending s es (take (i + 1) ps)
    peer_more p now then low is was more =
        more
        ∙ (ap (λ (us : List (List ℕ)). us ++ steps_of_events (pending s es p.ae)) was
        ∙ (append_assoc before (steps_pending s es (take i ps)) (steps_of_events (pending s es p.ae))
        ∙ ap (λ (us : List (List ℕ)). before ++ us) (sym (pending_more (take i ps) p) ∙ ap (steps_pending s es) (ap (λ (x : Peer). take i ps ++ x ∷ []) is ∙ sym (take_more ps i p low)))))
