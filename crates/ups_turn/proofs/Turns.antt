-- What the steps of a turn come to, one after the other.
use Rattle.std.proofs.Common.{◌≡◌, ◌≢◌, ℕ, ◌+◌, ◌≤◌, true, List, [], ◌∷◌, ◌++◌, length, Some, None, refl, sym, ap, ◌∙◌, subst, arith}
use Rattle.std.specs.Prelude.{Option, is_some, IfSome}
use Rattle.std.proofs.lemmas.List.{append-nil}
use Rattle.std.proofs.lemmas.List.Elements.{All-nil, All-head, All-from_recursion}
use Rattle.atomic_table.specs.Table.{rest}
use Rattle.atomic_table.specs.Seated.{TableId}
use Rattle.ups_life.specs.declared.entry.Entry.{Entry}
use Rattle.ups_life.specs.declared.request.Ask.{Ask}
use Rattle.ups_life.specs.declared.request.Reply.{Reply}
use Rattle.ups_life.specs.Settings.{Settings}
use Rattle.ups_service.specs.State.{State}
use Rattle.ups_service.specs.Law.{Answers, entered, is_legal}
use Rattle.ups_service.proofs.Legality.{entered_few, entered_numbered}
use Rattle.ups_turn.specs.Rule.{Behind, manager_state}
use Rattle.ups_turn.specs.Plays.{Knows, with_ticket, at_turn, served, TakesTurn, Took, MayGive, MayDecide, MayServe, seeing, history_in}
use Rattle.ups_turn.specs.declared.view.View.{View}
use Rattle.ups_turn.specs.Pass.{resting, seen_in, standing, IsAtRest, IsServed, HasObserved}

-- the value of an option that has one, and what a clause says of it
pub given_in : {X : Type 0} {P : X → Type 0} (o : Option X) → is_some o ≡ true → IfSome o P → (x : X) × (o ≡ Some x) × P x
given_in None given p = absurd (cc)
given_in (Some x) given p = (x, refl, p)

module _ {A : Type 0} where
  -- the value that was taken last
  held_of : List (ℕ × Option (State A)) → Option (State A)
  held_of [] = None
  held_of (x ∷ xs) = x.1

  pub in_hands : (drawn waited : Knows A) → TakesTurn drawn waited → (x : Option (State A)) × (waited.1 ≡ (0, x) ∷ rest waited.1)
  in_hands drawn waited turn =
      let hands = ap (λ (w : Knows A). w.1) turn.after_is in
      let x : Option (State A) = Some (manager_state drawn.0.settings turn.log) in
      (x, hands ∙ ap (λ (r : List (ℕ × Option (State A))). (0, x) ∷ r) (sym (ap rest hands)))

  some_same : {x y : State A} → Some x ≡ Some y → x ≡ y
  some_same e = cc

  pub took : (me drawn waited after : Knows A) (t : ℕ) (found : Option (State A)) (m : State A) → drawn ≡ (with_ticket me.0 t, me.1) → TakesTurn drawn waited → waited.1 ≡ (0, found) ∷ rest waited.1 → found ≡ Some m → after ≡ (waited.0, (0, None) ∷ rest waited.1)
      → Took me after m
  unfolding held_of
  took me drawn waited after t found m drawn_is turn slot some_is after_is =
      let now = subst (λ (d : Knows A). TakesTurn d waited) drawn_is turn in
      let hands = ap (λ (w : Knows A). w.1) now.after_is in
      record {
        ticket = t;
        log = now.log;
        behind = now.behind;
        legal = now.legal;
        manager_is = some_same (sym some_is ∙ ap held_of (sym slot ∙ hands));
        after_is = after_is ∙ ap (λ (w : Knows A). (w.0, (0, None) ∷ rest w.1)) now.after_is;
      }

  -- the turn of a pass that rested, in which the manager answered
  module _ (settings : Settings) (number calls : ℕ) (seen : List (Entry A)) (ae : List ℕ) (moment : ℕ) (ask : Ask A) (reply : Reply A) (me after : Knows A) (m n : State A) (rested : me ≡ (resting settings number calls seen, [])) (turn : Took me after m)
      (history_is : n.history ≡ m.history ++ entered number ae moment ask reply) (settings_is : n.settings ≡ m.settings) where
    pub at_rest : Took (resting settings number calls seen, []) after m
    at_rest = subst (λ (x : Knows A). Took x after m) rested turn

    pub manager_before : m ≡ manager_state settings at_rest.log
    manager_before = at_rest.manager_is

    pub manager_after : n ≡ manager_state settings (at_rest.log ++ entered number ae moment ask reply)
    manager_after = λ i. manager_state ((settings_is ∙ ap (λ (x : State A). x.settings) manager_before) i) ((history_is ∙ ap (λ (x : State A). x.history ++ entered number ae moment ask reply) manager_before) i)

    pub may_give : (count : ℕ) → length (entered number ae moment ask reply) ≡ count → is_legal n.settings n.history → MayGive after n count
    may_give count counted legal = subst (λ (a : Knows A). MayGive a n count) (sym at_rest.after_is) (record {
      number = number;
      seen = at_rest.log;
      added = entered number ae moment ask reply;
      turn = refl;
      parts = refl;
      holds = refl;
      manager_is = manager_after;
      counted = counted;
      few = subst (λ (k : ℕ). k ≤ 1) counted (entered_few number ae moment ask reply);
      own = All-from_recursion (λ (e : Entry A). e.caller ≡ number) (entered number ae moment ask reply) (entered_numbered number ae moment ask reply);
      legal = subst (λ (x : State A). is_legal x.settings x.history) manager_after legal;
    })

    pub rests_again : (last : Knows A) → last ≡ (served (at_turn after.0 true n.history), []) → last ≡ (resting settings number (calls + 1) n.history, [])
    rests_again last is = is ∙ ap (λ (a : Knows A). (served (at_turn a.0 true n.history), [])) at_rest.after_is

    pub answered : (table same : TableId) → same ≡ table → Answers m.settings m.history number ae moment ask reply
        → IsServed (record { table = table; settings = settings; number = number; calls = calls; seen = seen }) ae moment ask reply (record { table = same; settings = settings; number = number; calls = calls + 1; seen = n.history })
    answered table same here answers =
        let b = All-head (Behind at_rest.log) record { number = number; seen = seen } [] at_rest.behind in record {
          same = (here, refl, refl);
          calls = refl;
          between = b.0;
          others = b.2;
          legal = subst (is_legal settings) (sym b.1) at_rest.legal;
          answers = subst (λ (h : List (Entry A)). Answers settings h number ae moment ask reply) (sym b.1) (subst (λ (x : State A). Answers x.settings x.history number ae moment ask reply) manager_before answers);
          seen = ap (λ (x : State A). x.history) manager_after ∙ ap (λ (h : List (Entry A)). h ++ entered number ae moment ask reply) (sym b.1);
        }

    pub legal_again : is_legal n.settings n.history → is_legal settings n.history
    legal_again legal = subst (λ l. is_legal l n.history) (settings_is ∙ ap (λ (x : State A). x.settings) manager_before) legal

  -- the turn of a pass that rested, in which the manager stayed as it was
  module _ (settings : Settings) (number calls : ℕ) (seen : List (Entry A)) (me after : Knows A) (m : State A) (rested : me ≡ (resting settings number calls seen, [])) (turn : Took me after m) where
    pub found : Took (resting settings number calls seen, []) after m
    found = subst (λ (x : Knows A). Took x after m) rested turn

    pub may_give_back : MayGive after m 0
    may_give_back = subst (λ (a : Knows A). MayGive a m 0) (sym found.after_is) (record {
      number = number;
      seen = found.log;
      added = [];
      turn = refl;
      parts = refl;
      holds = refl;
      manager_is = found.manager_is ∙ ap (manager_state settings) (sym (append-nil found.log));
      counted = refl;
      few = omega arith;
      own = All-nil (λ (e : Entry A). e.caller ≡ number);
      legal = subst (is_legal settings) (sym (append-nil found.log)) found.legal;
    })

    pub rests_behind : (last : Knows A) → last ≡ (served (at_turn after.0 true m.history), []) → last ≡ (resting settings number (calls + 1) m.history, [])
    rests_behind last is = is ∙ ap (λ (a : Knows A). (served (at_turn a.0 true m.history), [])) found.after_is

    pub legal_found : is_legal settings m.history
    legal_found = subst (λ (x : State A). is_legal settings x.history) (sym found.manager_is) found.legal

    pub settings_found : m.settings ≡ settings
    settings_found = ap (λ (x : State A). x.settings) found.manager_is

    pub observed : (table same : TableId) → same ≡ table
        → HasObserved (record { table = table; settings = settings; number = number; calls = calls; seen = seen }) (record { table = same; settings = settings; number = number; calls = calls + 1; seen = m.history })
    observed table same here =
        let b = All-head (Behind found.log) record { number = number; seen = seen } [] found.behind in record {
          same = (here, refl, refl);
          calls = refl;
          between = b.0;
          others = b.2;
          legal = subst (is_legal settings) (sym b.1) found.legal;
          seen = ap (λ (x : State A). x.history) found.manager_is ∙ sym b.1;
        }

  -- how often a seat that rests has drawn a ticket is how many calls its pass has made
  pub at_rest_by : (settings : Settings) (number calls : ℕ) (seen : List (Entry A)) (me : Knows A) → me ≡ (resting settings number calls seen, []) → IsAtRest number me × (me.0.draws ≡ calls)
  at_rest_by settings number calls seen me is = subst (λ (m : Knows A). IsAtRest number m × (m.0.draws ≡ calls)) (sym is) (refl, refl)

  pub rests_by : (number calls : ℕ) (me : Knows A) → IsAtRest number me → me.0.draws ≡ calls → me ≡ (resting me.0.settings number calls (seen_in me.0.parts), [])
  rests_by number calls me rests drawn = rests ∙ ap (λ (k : ℕ). (resting me.0.settings number k (seen_in me.0.parts), [])) drawn

  pub served_by : (table same : TableId) (number j k : ℕ) (v w : View A) (ae : List ℕ) (moment : ℕ) (ask : Ask A) (reply : Reply A) → v.draws ≡ j → w.draws ≡ k → IsServed (standing table number v) ae moment ask reply (standing same number w)
      → IsServed (record { table = table; settings = v.settings; number = number; calls = j; seen = seen_in v.parts }) ae moment ask reply (record { table = same; settings = w.settings; number = number; calls = k; seen = seen_in w.parts })
  served_by table same number j k v w ae moment ask reply before after served =
      subst (λ (n : ℕ). IsServed (record { table = table; settings = v.settings; number = number; calls = j; seen = seen_in v.parts }) ae moment ask reply (record { table = same; settings = w.settings; number = number; calls = n; seen = seen_in w.parts })) after
      (subst (λ (n : ℕ). IsServed (record { table = table; settings = v.settings; number = number; calls = n; seen = seen_in v.parts }) ae moment ask reply (standing same number w)) before served)

  pub observed_by : (table same : TableId) (number j k : ℕ) (v w : View A) → v.draws ≡ j → w.draws ≡ k → HasObserved (standing table number v) (standing same number w)
      → HasObserved (record { table = table; settings = v.settings; number = number; calls = j; seen = seen_in v.parts }) (record { table = same; settings = w.settings; number = number; calls = k; seen = seen_in w.parts })
  observed_by table same number j k v w before after has =
      subst (λ (n : ℕ). HasObserved (record { table = table; settings = v.settings; number = number; calls = j; seen = seen_in v.parts }) (record { table = same; settings = w.settings; number = number; calls = n; seen = seen_in w.parts })) after
      (subst (λ (n : ℕ). HasObserved (record { table = table; settings = v.settings; number = number; calls = n; seen = seen_in v.parts }) (standing same number w)) before has)

  -- the manager was given back into the seat's hands
  pub may_decide : (me given : Knows A) (m : State A) (count : ℕ) → MayGive me m count → given ≡ (me.0, (0, Some m) ∷ rest me.1) → MayDecide given count
  may_decide me given m count may is = subst (λ (g : Knows A). MayDecide g count) (sym is) (record {
    number = may.number;
    seen = may.seen;
    added = may.added;
    has = record { turn = may.turn; parts = may.parts; holds = λ i. (0, Some (may.manager_is i)) ∷ rest (may.holds i) };
    counted = may.counted;
    few = may.few;
    own = may.own;
    legal = may.legal;
  })

  -- and then it was decided
  pub may_serve : (me given last : Knows A) (m : State A) (count : ℕ) → MayGive me m count → given ≡ (me.0, (0, Some m) ∷ rest me.1) → last ≡ (at_turn given.0 true (history_in given.1), given.1) → MayServe last
  may_serve me given last m count may is decided =
      let now : last ≡ (at_turn me.0 true m.history, (0, Some m) ∷ rest me.1) = decided ∙ ap (λ (g : Knows A). (at_turn g.0 true (history_in g.1), g.1)) is in
      let whole : m ≡ manager_state me.0.settings m.history = may.manager_is ∙ ap (manager_state me.0.settings) (sym (ap (λ (x : State A). x.history) may.manager_is)) in
      subst (λ (g : Knows A). MayServe g) (sym now) (record { number = may.number; seen = m.history; has = record { turn = refl; parts = ap (seeing m.history) may.parts; holds = λ i. (0, Some (whole i)) ∷ rest (may.holds i) } })
