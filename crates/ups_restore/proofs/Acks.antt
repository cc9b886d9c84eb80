-- Acknowledgements behind a history.
use Rattle.std.proofs.Common.{◌≡◌, ℕ, ◌<◌, ◌≤◌, ◌+◌, List, [], ◌∷◌, ◌++◌, length, take, get_or, Option, None, Some, sym, ap, ◌∙◌}
use Rattle.std.proofs.lemmas.List.{append_assoc, append-nil, take_all, take_more}
use Rattle.std.proofs.lemmas.List.Elements.{All-nil, All-cons}
use Rattle.std.specs.List.{All}
use Rattle.ups_life.specs.declared.entry.Entry.{Entry}
use Rattle.ups_life.specs.declared.peer.Peer.{Peer}
use Rattle.ups_life.specs.declared.request.Request.TheVariants.{Ack}
use Rattle.ups_life.specs.Settings.{IsMoment}
use Rattle.ups_life.specs.Steps.{past}
use Rattle.ups_life.proofs.Past.{past-push}
use Rattle.ups_compact.specs.Compacting.{with_ack, with_acks}
use Rattle.ups_restore.specs.Compacting.{ack_of, acks}

module _ {A : Type 0} (caller moment : ℕ) where
  past_ack : (h : List (Entry A)) (w : List ℕ) (n : Option ℕ) → past (h ++ ack_of caller moment w n) ≡ with_ack caller moment w n (past h)
  past_ack h w None = ap past (append-nil h)
  past_ack h w (Some n) = past-push h (record { caller = caller; ae = w; moment = moment; request = Ack n })

  module _ (number : List ℕ → Option ℕ) where
    -- newest first they are those of a compacted history
    pub past_acks : (h : List (Entry A)) (ps : List Peer) → past (h ++ acks caller moment number ps) ≡ with_acks caller moment number ps (past h)
    past_acks h [] = ap past (append-nil h)
    past_acks h (p ∷ ps) =
        ap past (sym (append_assoc h (ack_of caller moment p.ae (number p.ae)) (acks caller moment number ps)))
        ∙ (past_acks (h ++ ack_of caller moment p.ae (number p.ae)) ps ∙ ap (with_acks caller moment number ps) (past_ack h p.ae (number p.ae)))

    -- each is made at this moment
    pub moments_of : IsMoment moment → (ps : List Peer) → All (λ (e : Entry A). IsMoment e.moment) (acks caller moment number ps)
    moments_of at [] = All-nil (λ (e : Entry A). IsMoment e.moment)
    moments_of at (p ∷ ps) = made (number p.ae) (moments_of at ps)
      where
        made : (n : Option ℕ) → All (λ (e : Entry A). IsMoment e.moment) (acks caller moment number ps) → All (λ (e : Entry A). IsMoment e.moment) (ack_of caller moment p.ae n ++ acks caller moment number ps)
        made None rest = rest
        made (Some n) rest = All-cons (λ (e : Entry A). IsMoment e.moment) (record { caller = caller; ae = p.ae; moment = moment; request = Ack n }) (acks caller moment number ps) at rest

    -- those of one peer more
    more_acks : (ps : List Peer) (p : Peer) → acks {A = A} caller moment number (ps ++ p ∷ []) ≡ acks caller moment number ps ++ ack_of caller moment p.ae (number p.ae)
    more_acks [] p = append-nil (ack_of caller moment p.ae (number p.ae))
    more_acks (x ∷ ps) p =
        ap (λ (es : List (Entry A)). ack_of caller moment x.ae (number x.ae) ++ es) (more_acks ps p)
        ∙ sym (append_assoc (ack_of caller moment x.ae (number x.ae)) (acks caller moment number ps) (ack_of caller moment p.ae (number p.ae)))

    pub next_acks : (ps : List Peer) (i : ℕ) (p : Peer) (es after : List (Entry A)) (n : Option ℕ) → i < length ps → p ≡ get_or ps i p → es ≡ acks caller moment number (take i ps) → n ≡ number p.ae
        → after ≡ es ++ ack_of caller moment p.ae n → after ≡ acks caller moment number (take (i + 1) ps)
    next_acks ps i p es after n low is was own put =
        put
        ∙ ((λ k. was k ++ ack_of caller moment p.ae (own k))
        ∙ (sym (more_acks (take i ps) p) ∙ ap (acks caller moment number) (ap (λ (x : Peer). take i ps ++ x ∷ []) is ∙ sym (take_more ps i p low))))

    pub all_acks : (ps : List Peer) (i : ℕ) (es : List (Entry A)) → length ps ≤ i → es ≡ acks caller moment number (take i ps) → es ≡ acks caller moment number ps
    all_acks ps i es end was = was ∙ ap (acks caller moment number) (take_all i ps end)
