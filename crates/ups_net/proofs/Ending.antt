-- What becomes of several threads' passes.
use Rattle.std.proofs.Common.{rules, ◌≡◌, ◌+◌, suc, length, map, Some, None, Bool, true, false, List, [], ◌∷◌, ◌++◌, refl, sym, ap, ◌∙◌}
use Rattle.std.specs.Prelude.{MatchBool, MatchOption, Option, is_some}
use Rattle.std.specs.Vec.Iter.{into_iter_items, into_iter_len}
use Rattle.std.specs.declared.vec.IntoIter.{IntoIter}
use Rattle.std.proofs.lemmas.List.{append_assoc, append-nil, length-append, map-append, nil_from_length}
use Rattle.ups_turn.specs.Pass.{PassView}
use Rattle.ups_net.specs.declared.options.ServerOptions.{ServerOptions}
use Rattle.ups_net.specs.Working.{EndThreads, Ran}
use Rattle.ups_net.specs.Sweeping.{Sweeps}

module _ {A : Type 0} (options : ServerOptions) where
  -- of threads that haven't begun the passes are as they were
  pub unbegun_alike : (olds news : List (PassView A)) → EndThreads options false olds news → news ≡ olds
  unbegun_alike [] [] h = refl
  unbegun_alike [] (new ∷ news) h = absurd h
  unbegun_alike (old ∷ olds) [] h = absurd h
  unbegun_alike (old ∷ olds) (new ∷ news) h = λ i. h.0 i ∷ unbegun_alike olds news h.1 i

  -- threads that were started and have ended, passes whose threads were not started, and that of the sweeper
  pub ran : (keeps begun : Bool) (hs unbegun rest passes back : List (PassView A)) (sweeper swept : PassView A) → hs ++ unbegun ≡ passes → EndThreads options begun hs rest → back ≡ (rest ++ unbegun) ++ swept ∷ []
      → (begun ≡ true → unbegun ≡ []) → MatchBool begun (Sweeps options.config.ae keeps options.rounds sweeper swept) (swept ≡ sweeper) → Ran options keeps begun (passes ++ sweeper ∷ []) back
  ran keeps true hs unbegun rest passes back sweeper swept all ends is none sweeps =
      let gone = none refl in
      record {
        front = hs;
        sweeper = sweeper;
        worked = rest;
        swept = swept;
        before = ap (λ (l : List (PassView A)). l ++ sweeper ∷ []) (sym all ∙ (ap (λ (l : List (PassView A)). hs ++ l) gone ∙ append-nil hs));
        after = is ∙ ap (λ (l : List (PassView A)). l ++ swept ∷ []) (ap (λ (l : List (PassView A)). rest ++ l) gone ∙ append-nil rest);
        each = ends;
        sweeps = sweeps;
      }
  ran keeps false hs unbegun rest passes back sweeper swept all ends is none sweeps =
      is ∙ ((λ i. (unbegun_alike hs rest ends i ++ unbegun) ++ sweeps i ∷ []) ∙ ap (λ (l : List (PassView A)). l ++ sweeper ∷ []) all)

-- nothing is left to come
pub none_left : {X Z : Type 0} (it : IntoIter X Z) → into_iter_len it ≡ 0 → into_iter_items it ≡ []
none_left it is = let none : length (into_iter_items it) ≡ 0 = grind rules in nil_from_length (into_iter_items it) none

module _ {H X : Type 0} (f : H → X) where
  -- one more behind the first ones
  pub first_more : (hs : List H) (h : H) (us : List X) (xs ys all : List X) → us ≡ [] → ys ≡ f h ∷ xs → (map f hs ++ us) ++ ys ≡ all → (map f (hs ++ h ∷ []) ++ us) ++ xs ≡ all
  first_more hs h us xs ys all none is was =
      (λ i. (map f (hs ++ h ∷ []) ++ none i) ++ xs) ∙ (ap (λ (l : List X). l ++ xs) (append-nil (map f (hs ++ h ∷ [])) ∙ map-append f hs (h ∷ []))
      ∙ (append_assoc (map f hs) (f h ∷ []) xs ∙ ((λ i. map f hs ++ sym is i) ∙ (ap (λ (l : List X). l ++ ys) (sym (append-nil (map f hs))) ∙ ((λ i. (map f hs ++ sym none i) ++ ys) ∙ was)))))

module _ {X : Type 0} where
  -- one more behind the last ones
  pub last_more : (ms : List X) (x : X) (us : List X) (xs ys all : List X) → ys ≡ x ∷ xs → (ms ++ us) ++ ys ≡ all → (ms ++ (us ++ x ∷ [])) ++ xs ≡ all
  last_more ms x us xs ys all is was =
      ap (λ (l : List X). l ++ xs) (sym (append_assoc ms us (x ∷ []))) ∙ (append_assoc (ms ++ us) (x ∷ []) xs ∙ ((λ i. (ms ++ us) ++ sym is i) ∙ was))

-- each thread has one pass
pub ends_length : {A : Type 0} (options : ServerOptions) (begun : Bool) (olds news : List (PassView A)) → EndThreads options begun olds news → length news ≡ length olds
ends_length options begun [] [] h = refl
ends_length options begun [] (new ∷ news) h = absurd h
ends_length options begun (old ∷ olds) [] h = absurd h
ends_length options begun (old ∷ olds) (new ∷ news) h = ap suc (ends_length options begun olds news h.1)

-- as many passes come back
pub ran_as_many : {A : Type 0} (options : ServerOptions) (keeps begun : Bool) (olds news : List (PassView A)) → Ran options keeps begun olds news → length news ≡ length olds
ran_as_many options keeps true olds news w =
    ap length w.after ∙ (length-append w.worked (w.swept ∷ []) ∙ (ap (λ n. n + 1) (ends_length options true w.front w.worked w.each)
    ∙ (sym (length-append w.front (w.sweeper ∷ [])) ∙ sym (ap length w.before))))
ran_as_many options keeps false olds news is = ap length is

module _ {T : Type 0} where
  -- where some is there, what is said of none is of no use
  pub told_on : (off : Option T) (P Q : Type 0) (R : T → Type 0) → is_some off ≡ true → MatchOption off P R → MatchOption off Q R
  told_on (Some t) P Q R is h = h
  told_on None P Q R is h = absurd cc

  -- where none is there, what is said of some is of no use
  pub none_told : (off : Option T) (P : Type 0) (R : T → Type 0) → is_some off ≡ false → MatchOption off P R → P
  none_told (Some t) P R is h = absurd cc
  none_told None P R is h = h

  -- they begin only where none was told otherwise
  pub unless_off : (off : Option T) (f : T → Bool) (v : Bool) (P : Type 0) (X : T → Type 0) → MatchOption off (v ≡ true) (λ t. v ≡ f t) → MatchOption off P (λ t. X t × (f t ≡ false)) → v ≡ true → P
  unless_off (Some t) f v P X said h is = absurd (let no : true ≡ false = sym is ∙ (said ∙ h.1) in cc)
  unless_off None f v P X said h is = h
