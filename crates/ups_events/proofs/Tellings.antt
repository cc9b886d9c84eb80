-- What calls make of the line of a queue, and a loop over reports.
use Rattle.std.proofs.Common.{◌≡◌, ◌<◌, ◌+◌, ℕ, List, [], ◌∷◌, ◌++◌, length, get_or, take, sym, ap, ◌∙◌, refl}
use Rattle.std.proofs.lemmas.List.{take_more}
use Rattle.ups_life.specs.declared.event.Event.{Event}
use Rattle.ups_life.specs.declared.event.Report.{Report}
use Rattle.ups_events.specs.Queue.{QueueView, IsAdded, IsAcked, IsReserved, IsNew}
use Rattle.ups_events.specs.Telling.{Line, line, empty_line, event_of, one_more, told, acked_to}

-- WHAT CALLS MAKE OF A LINE

line_is : (q : QueueView) (made acked : ℕ) (events : List Event) → q.made ≡ made → q.acked ≡ acked → q.events ≡ events → line q ≡ record { made = made; acked = acked; events = events }
line_is q made acked events m a e =
    ap (λ n. record { made = n; acked = q.acked; events = q.events }) m ∙ ap (λ n. record { made = made; acked = n; events = q.events }) a ∙ ap (λ es. record { made = made; acked = acked; events = es }) e

pub line_new : (q : QueueView) → IsNew q → line q ≡ empty_line
line_new q n = line_is q 0 0 [] n.made n.acked n.events

pub line_reserved : (q q' : QueueView) → IsReserved q q' → line q' ≡ line q
line_reserved q q' r = line_is q' q.made q.acked q.events r.made r.acked r.events

pub line_added : (place : ℕ) (q q' : QueueView) (x : Report) → IsAdded q (event_of (q.made + 1) place x) q' → line q' ≡ one_more place (line q) x
line_added place q q' x a = line_is q' _ _ _ a.made a.acked a.events

pub line_acked : (q q' : QueueView) (upto : ℕ) → IsAcked q upto q' → line q' ≡ acked_to upto (line q)
line_acked q q' upto a = line_is q' _ _ _ a.made a.acked a.events

-- A LOOP OVER REPORTS

told_push : (place : ℕ) (xs : List Report) (x : Report) (q : Line) → told place (xs ++ x ∷ []) q ≡ one_more place (told place xs q) x
told_push place [] x q = refl
told_push place (y ∷ ys) x q = told_push place ys x (one_more place q y)

-- the report at a place is told behind those before it
pub told_next : (place : ℕ) (xs : List Report) (i : ℕ) (x : Report) (first q q' : QueueView) → i < length xs → x ≡ get_or xs i x → line q ≡ told place (take i xs) (line first) → IsAdded q (event_of (q.made + 1) place x) q' → line q' ≡ told place (take (i + 1) xs) (line first)
told_next place xs i x first q q' l is so_far a =
    line_added place q q' x a ∙ ap (λ k. one_more place k x) so_far ∙ sym (told_push place (take i xs) x (line first)) ∙ ap (λ r. told place r (line first)) (sym (take_more xs i x l ∙ ap (λ y. take i xs ++ y ∷ []) (sym is)))
