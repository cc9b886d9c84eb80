-- A command or a data set, said fragment by fragment.
use Rattle.std.proofs.Common.{◌≡◌, ℕ, ◌<◌, ◌≤◌, Bool, true, false, List, [], ◌∷◌, ◌++◌, length, take, drop, Result, None, Some, refl, sym, ap, subst, ◌∙◌, append_assoc, append-nil, arith}
use Rattle.ups_pdu.specs.declared.pdu.Pdu.{Pdu}
use Rattle.ups_assoc.specs.Cutting.{room, fragment, fragments, run, pieces}
use Rattle.ups_assoc.proofs.Pieces.{fragments-last, fragments-more}
use Rattle.ups_session.specs.declared.fault.SessionFault.{SessionFault}
use Rattle.ups_session.specs.Session.{okay}
use Rattle.ups_session.specs.Tells.{Told}
use Rattle.ups_session.specs.Visits.{SendsPdus}
use Rattle.ups_session.specs.WatchedIo.{Output}
use Rattle.ups_session.proofs.Spoken.{stopping, says_nothing, says_then, says_cut}

-- the first of the fragments were said, and these bytes are left
pub record SaidUpTo (A : Type 0) (size context : ℕ) (command : Bool) (bytes rest : List ℕ) (o p : Output) (t u : Told) : Type 0 where
  pub most : ℕ
  pub enough : length rest ≤ most
  pub said : List (Pdu A)
  pub parts : fragments {A = A} (length bytes) size context command bytes ≡ said ++ fragments most size context command rest
  pub sends : SendsPdus said o p t u okay

pub said_none : (A : Type 0) (size context : ℕ) (command : Bool) (bytes : List ℕ) (o : Output) (t : Told) → SaidUpTo A size context command bytes bytes o o t t
said_none A size context command bytes o t = record { most = length bytes; enough = omega arith; said = []; parts = refl; sends = says_nothing o t }

-- one fragment more, which isn't the last
pub said_more : (A : Type 0) (size context : ℕ) (command : Bool) (bytes rest front back : List ℕ) (o p q : Output) (t u v : Told) → 0 < size → size < length rest → front ≡ take size rest → back ≡ drop size rest
    → SaidUpTo A size context command bytes rest o p t u → SendsPdus (fragment {A = A} context command false front ∷ []) p q u v okay → SaidUpTo A size context command bytes back o q t v
said_more A size context command bytes rest front back o p q t u v some long f b s then =
    let (n, fits, split) = fragments-more A s.most size context command rest some s.enough long in
    let piece : Pdu A = fragment context command false (take size rest) in
    let same : SendsPdus (piece ∷ []) p q u v okay = subst (λ (l : List ℕ). SendsPdus (fragment {A = A} context command false l ∷ []) p q u v okay) f then in
    let then_on : SaidUpTo A size context command bytes (drop size rest) o q t v = record {
      most = n;
      enough = fits;
      said = s.said ++ piece ∷ [];
      parts = s.parts ∙ ap (λ (l : List (Pdu A)). s.said ++ l) split ∙ sym (append_assoc s.said (piece ∷ []) (fragments n size context command (drop size rest)));
      sends = says_then s.said (piece ∷ []) o p q t u v tt okay s.sends same;
    } in
    subst (λ (l : List ℕ). SaidUpTo A size context command bytes l o q t v) (sym b) then_on

-- a fragment that isn't the last was not said
pub said_part : (A Y : Type 0) (size context : ℕ) (command : Bool) (bytes rest front : List ℕ) (o p q : Output) (t u v : Told) (e : SessionFault) → 0 < size → size < length rest → front ≡ take size rest
    → SaidUpTo A size context command bytes rest o p t u → SendsPdus (fragment {A = A} context command false front ∷ []) p q u v (stopping {Y = Y} e) → SendsPdus (run {A = A} size context command bytes) o q t v (stopping {Y = Y} e)
unfolding run
said_part A Y size context command bytes rest front o p q t u v e some long f s then =
    let (n, fits, split) = fragments-more A s.most size context command rest some s.enough long in
    let piece : Pdu A = fragment context command false (take size rest) in
    let later : List (Pdu A) = fragments n size context command (drop size rest) in
    let same : SendsPdus (piece ∷ []) p q u v (stopping {Y = Y} e) = subst (λ (l : List ℕ). SendsPdus (fragment {A = A} context command false l ∷ []) p q u v (stopping {Y = Y} e)) f then in
    let parts : (s.said ++ piece ∷ []) ++ later ≡ fragments {A = A} (length bytes) size context command bytes = append_assoc s.said (piece ∷ []) later ∙ ap (λ (l : List (Pdu A)). s.said ++ l) (sym split) ∙ sym s.parts in
    subst (λ (l : List (Pdu A)). SendsPdus l o q t v (stopping {Y = Y} e)) parts
    (says_cut {Y = Y} {Z = Y} (s.said ++ piece ∷ []) later o q t v e (says_then s.said (piece ∷ []) o p q t u v tt (stopping {Y = Y} e) s.sends same))

-- the last fragment, said or not
pub said_last : (A Y : Type 0) (size context : ℕ) (command : Bool) (bytes rest : List ℕ) (o p q : Output) (t u v : Told) (r : Result Y SessionFault) → length rest ≤ size
    → SaidUpTo A size context command bytes rest o p t u → SendsPdus (fragment {A = A} context command true rest ∷ []) p q u v r → SendsPdus (run {A = A} size context command bytes) o q t v r
unfolding run
said_last A Y size context command bytes rest o p q t u v r short s then =
    let last : List (Pdu A) = fragment context command true rest ∷ [] in
    let parts : s.said ++ last ≡ fragments {A = A} (length bytes) size context command bytes = ap (λ (l : List (Pdu A)). s.said ++ l) (sym (fragments-last A s.most size context command rest short)) ∙ sym s.parts in
    subst (λ (l : List (Pdu A)). SendsPdus l o q t v r) parts (says_then s.said last o p q t u v tt r s.sends then)

-- a command, and then its data set
pub said_both : (A Y : Type 0) (size max context : ℕ) (command body : List ℕ) (o p q : Output) (t u v : Told) (r : Result Y SessionFault) → size ≡ room max
    → SendsPdus (run {A = A} size context true command) o p t u okay → SendsPdus (run {A = A} size context false body) p q u v r → SendsPdus (pieces {A = A} context command (Some body) max) o q t v r
said_both A Y size max context command body o p q t u v r e s then =
    subst (λ (n : ℕ). SendsPdus (run {A = A} n context true command ++ run n context false body) o q t v r) e
    (says_then (run {A = A} size context true command) (run size context false body) o p q t u v tt r s then)

-- not all of a command, and so nothing of its data set
pub said_neither : (A Y : Type 0) (size max context : ℕ) (command body : List ℕ) (o p : Output) (t u : Told) (e : SessionFault) → size ≡ room max
    → SendsPdus (run {A = A} size context true command) o p t u (stopping {Y = Y} e) → SendsPdus (pieces {A = A} context command (Some body) max) o p t u (stopping {Y = Y} e)
said_neither A Y size max context command body o p t u e is s =
    subst (λ (n : ℕ). SendsPdus (run {A = A} n context true command ++ run n context false body) o p t u (stopping {Y = Y} e)) is
    (says_cut {Y = Y} {Z = Y} (run {A = A} size context true command) (run size context false body) o p t u e s)

-- a command without a data set
pub said_alone : (A Y : Type 0) (size max context : ℕ) (command : List ℕ) (o p : Output) (t u : Told) (r : Result Y SessionFault) → size ≡ room max
    → SendsPdus (run {A = A} size context true command) o p t u r → SendsPdus (pieces {A = A} context command None max) o p t u r
said_alone A Y size max context command o p t u r is s =
    subst (λ (n : ℕ). SendsPdus (run {A = A} n context true command ++ []) o p t u r) is
    (subst (λ (l : List (Pdu A)). SendsPdus l o p t u r) (sym (append-nil (run {A = A} size context true command))) s)
