-- A script as far as it has come.
use Rattle.std.proofs.Common.{◌≡◌, ℕ, suc, ◌+◌, ◌≤◌, inl, inr, List, [], ◌∷◌, ◌++◌, length, refl, sym, ap, subst, ◌∙◌, arith, Option, Some, None, Ok, Err, append-nil}
use Rattle.std.specs.Io.KnownBytes.{Keeps, Appends, Consumes, IsAtEnd}
use Rattle.std.specs.Prelude.{OnSome}
use Rattle.std.specs.List.{flat_map}
use Rattle.std.proofs.KnownBytes.{Appends-trans, Appends-nil, Keeps-refl}
use Rattle.std.proofs.lemmas.Grind.{flat_map-append}
use Rattle.ups_life.specs.declared.entry.Entry.{Entry}
use Rattle.ups_life.specs.Settings.{Settings}
use Rattle.ups_script.specs.declared.telling.Told.{Told}
use Rattle.ups_script.specs.Lines.{HasMore, MeetsEnd, TakesLine, TakesLines}
use Rattle.ups_script.specs.Printing.{line_of}
use Rattle.ups_script.specs.declared.fault.ScriptFault.{ScriptFault}
use Rattle.ups_script.specs.declared.fault.ScriptFault.TheVariants.{BadLine, TooManyLines, Read, Write, Memory}
use Rattle.ups_script.specs.Running.{AnswersLine, AnswersAll, IsReading, Breaks, EndsScript, Runs}

-- so many lines were taken and answered, and the replies were written
pub record Sofar {A : Type 0} (settings : Settings) (count : ℕ) (input left written after : Option (List ℕ)) (old new : List (Entry A)) : Type 0 where
  pub lines : List (List ℕ)
  pub told : List (Told A)
  pub taken : TakesLines input lines left
  pub answered : AnswersAll settings old lines told new
  pub replied : Appends written after (flat_map line_of told)
  pub counted : length lines ≡ count

pub none_yet : {A : Type 0} (settings : Settings) (input written : Option (List ℕ)) (old : List (Entry A)) → Sofar settings 0 input input written written old old
none_yet settings input written old = record { lines = []; told = []; taken = Keeps-refl input; answered = refl; replied = Appends-nil written; counted = refl }

kept_front : (a b c : Option (List ℕ)) (bs : List ℕ) → Keeps a b → Consumes b c bs → Consumes a c bs
kept_front None b c bs k p = tt
kept_front (Some x) None c bs k p = absurd k
kept_front (Some x) (Some y) None bs k p = absurd p
kept_front (Some x) (Some y) (Some z) bs k p = sym k ∙ p

kept_end : (a b c : Option (List ℕ)) → Keeps a b → OnSome b (IsAtEnd c) → OnSome a (IsAtEnd c)
kept_end None b c k e = tt
kept_end (Some x) None c k e = absurd k
kept_end (Some x) (Some y) c k e = e

kept_meets : (a b c : Option (List ℕ)) (bytes line : List ℕ) → Keeps a b → MeetsEnd b c bytes line → MeetsEnd a c bytes line
kept_meets a b c bytes line k (inl fed) = inl (kept_front a b c _ k fed)
kept_meets a b c bytes line k (inr (bare, inl end)) = inr (kept_front a b c _ k bare, inl (kept_end a b c k end))
kept_meets a b c bytes line k (inr (bare, inr long)) = inr (kept_front a b c _ k bare, inr long)

-- nothing was taken before the line
pub kept_line : (a b c : Option (List ℕ)) (line : List ℕ) → Keeps a b → TakesLine b line c → TakesLine a line c
kept_line a b c line k t = record { no_feed = t.no_feed; bytes = kept_meets a b c line line k t.bytes }

takes_snoc : (a b c : Option (List ℕ)) (lines : List (List ℕ)) (line : List ℕ) → TakesLines a lines b → TakesLine b line c → TakesLines a (lines ++ line ∷ []) c
takes_snoc a b c [] line k t = (c, kept_line a b c line k t, Keeps-refl c)
takes_snoc a b c (x ∷ xs) line (then, first, more) t = (then, first, takes_snoc then b c xs line more t)

answers_snoc : {A : Type 0} (settings : Settings) (old mid new : List (Entry A)) (lines : List (List ℕ)) (told : List (Told A)) (line : List ℕ) (x : Told A)
    → AnswersAll settings old lines told mid → AnswersLine settings mid line x new → AnswersAll settings old (lines ++ line ∷ []) (told ++ x ∷ []) new
answers_snoc {A} settings old mid new [] [] line x same one = (new, subst (λ (h : List (Entry A)). AnswersLine settings h line x new) same one, refl)
answers_snoc settings old mid new [] (t ∷ ts) line x all one = absurd all
answers_snoc settings old mid new (l ∷ ls) [] line x all one = absurd all
answers_snoc settings old mid new (l ∷ ls) (t ∷ ts) line x (then, first, more) one = (then, first, answers_snoc settings then mid new ls ts line x more one)

longer : (lines : List (List ℕ)) (line : List ℕ) → length (lines ++ line ∷ []) ≡ length lines + 1
longer [] line = refl
longer (x ∷ xs) line = ap suc (longer xs line) ∙ (let e : suc (length xs + 1) ≡ suc (length xs) + 1 = omega arith in e)

-- one more line is taken and answered
pub one_more : {A : Type 0} (settings : Settings) (count : ℕ) (input a b c written after then : Option (List ℕ)) (old mid new : List (Entry A)) (line : List ℕ) (x : Told A)
    → Sofar settings count input a written after old mid → Keeps a b → TakesLine b line c → AnswersLine settings mid line x new → Appends after then (line_of x) → Sofar settings (count + 1) input c written then old new
one_more settings count input a b c written after then old mid new line x so k t one said = record {
  lines = so.lines ++ line ∷ [];
  told = so.told ++ x ∷ [];
  taken = takes_snoc input a c so.lines line so.taken (kept_line a b c line k t);
  answered = answers_snoc settings old mid new so.lines so.told line x so.answered one;
  replied = subst (Appends written then) (sym (flat_map-append line_of so.told (x ∷ []) ∙ ap (λ l. flat_map line_of so.told ++ l) (append-nil (line_of x)))) (Appends-trans written after then _ _ so.replied said);
  counted = longer so.lines line ∙ ap (λ n. n + 1) so.counted;
}

-- the input is at its end
pub ended : {A : Type 0} (settings : Settings) (count limit : ℕ) (input a b written after : Option (List ℕ)) (old new : List (Entry A))
    → Sofar settings count input a written after old new → count ≤ limit → Keeps a b → OnSome a (IsAtEnd b) → Runs settings limit input b written after old new (Ok tt)
ended settings count limit input a b written after old new so low k end = record {
  lines = so.lines;
  told = so.told;
  rest = a;
  replies = after;
  history = new;
  taken = so.taken;
  answered = so.answered;
  replied = so.replied;
  few = omega (arith, so.counted, low);
  ends = (k, end, Keeps-refl after, refl);
}

-- there are more lines than are allowed
pub too_many : {A : Type 0} (settings : Settings) (count limit : ℕ) (input a b written after : Option (List ℕ)) (old new : List (Entry A))
    → Sofar settings count input a written after old new → count ≡ limit → HasMore a → Keeps a b → Runs settings limit input b written after old new (Err TooManyLines)
too_many settings count limit input a b written after old new so all more k = record {
  lines = so.lines;
  told = so.told;
  rest = a;
  replies = after;
  history = new;
  taken = so.taken;
  answered = so.answered;
  replied = so.replied;
  few = omega (arith, so.counted, all);
  ends = (so.counted ∙ all, more, k, Keeps-refl after, refl);
}

unread : {A : Type 0} (settings : Settings) (limit count : ℕ) (a b after : Option (List ℕ)) (new : List (Entry A)) (part : List ℕ) (fault : ScriptFault)
    → IsReading fault → Consumes a b part → EndsScript settings limit count a b after after new new (Err fault)
unread settings limit count a b after new part Read is p = ((part, p), Keeps-refl after, refl)
unread settings limit count a b after new part Memory is p = inl ((part, p), refl, Keeps-refl after, refl)
unread settings limit count a b after new part TooManyLines is p = absurd is
unread settings limit count a b after new part Write is p = absurd is
unread settings limit count a b after new part (BadLine bad) is p = absurd is

-- a read failed, or memory ran out for what was read
pub failed : {A : Type 0} (settings : Settings) (count limit : ℕ) (input a b c written after : Option (List ℕ)) (old new : List (Entry A)) (part : List ℕ) (fault : ScriptFault)
    → Sofar settings count input a written after old new → count ≤ limit → Keeps a b → IsReading fault → Consumes b c part → Runs settings limit input c written after old new (Err fault)
failed settings count limit input a b c written after old new part fault so low k is p = record {
  lines = so.lines;
  told = so.told;
  rest = a;
  replies = after;
  history = new;
  taken = so.taken;
  answered = so.answered;
  replied = so.replied;
  few = omega (arith, so.counted, low);
  ends = unread settings limit (length so.lines) a c after new part fault is (kept_front a b c part k p);
}

broken_by : {A : Type 0} (settings : Settings) (limit count : ℕ) (a c after then : Option (List ℕ)) (mid new : List (Entry A)) (line : List ℕ) (fault : ScriptFault)
    → TakesLine a line c → Breaks settings mid line (count + 1) after then fault new → EndsScript settings limit count a c after then mid new (Err fault)
broken_by settings limit count a c after then mid new line (BadLine bad) t b = inr (line, t, b)
broken_by settings limit count a c after then mid new line Memory t b = inr (line, t, b)
broken_by settings limit count a c after then mid new line Write t b = inr (line, t, b)
broken_by settings limit count a c after then mid new line TooManyLines t b = absurd b
broken_by settings limit count a c after then mid new line Read t b = absurd b

-- a line ends the script
pub broken : {A : Type 0} (settings : Settings) (count limit : ℕ) (input a b c written after then : Option (List ℕ)) (old mid new : List (Entry A)) (line : List ℕ) (fault : ScriptFault)
    → Sofar settings count input a written after old mid → count ≤ limit → Keeps a b → TakesLine b line c → Breaks settings mid line (count + 1) after then fault new → Runs settings limit input c written then old new (Err fault)
broken settings count limit input a b c written after then old mid new line fault so low k t br = record {
  lines = so.lines;
  told = so.told;
  rest = a;
  replies = after;
  history = mid;
  taken = so.taken;
  answered = so.answered;
  replied = so.replied;
  few = omega (arith, so.counted, low);
  ends = broken_by settings limit (length so.lines) a c after then mid new line fault (kept_line a b c line k t) (subst (λ n. Breaks settings mid line (n + 1) after then fault new) (sym so.counted) br);
}
