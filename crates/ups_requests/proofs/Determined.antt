-- The words of an exact line ask one question.
use Rattle.std.proofs.Common.{◌≡◌, ◌≢◌, ℕ, ℤ, ◌+◌, ◌*◌, eqb, Bool, true, false, cond, List, [], ◌∷◌, length, codes, inl, inr, Option, Some, None, Result, Ok, Err, refl, sym, ap, subst, ◌∙◌, arith}
use Rattle.std.specs.Prelude.{MatchOption, IfOk}
use Rattle.std.specs.Str.Parse.{digits_value}
use Rattle.ups_pdu.specs.Identifier.{SpellsUid}
use Rattle.ups_pdu.specs.Padding.{is_space, without_leading, without_trailing, without_padding}
use Rattle.ups_pdu.specs.Title.{SpellsAe}
use Rattle.ups_pdu.specs.declared.syntax.TransferSyntax.{TransferSyntax}
use Rattle.ups_pdu.specs.declared.syntax.TransferSyntax.TheVariants.{Explicit}
use Rattle.ups_dataset.specs.Data.{El}
use Rattle.ups_dataset.specs.Spelling.{SpellsSet}
use Rattle.ups_dimse.specs.declared.command.Operation.{Operation}
use Rattle.ups_dimse.specs.declared.command.Operation.TheVariants as operations
use Rattle.ups_cycle.specs.declared.status.Status.{Status}
use Rattle.ups_life.specs.declared.request.Ask.{Ask}
use Rattle.ups_life.specs.declared.request.Ask.TheVariants.{Do}
use Rattle.ups_life.specs.declared.request.Request.{Request}
use Rattle.ups_life.specs.declared.request.Request.TheVariants as requests
use Rattle.ups_life.specs.declared.entry.Entry.{Entry}
use Rattle.ups_life.specs.Asking.{asked}
use Rattle.ups_journal.specs.Columns.{recorded}
use Rattle.ups_journal.specs.declared.record.Record.{Record}
use Rattle.ups_lines.specs.Elements.{Encodes}
use Rattle.ups_lines.specs.Escapes.{StandsFor}
use Rattle.ups_lines.specs.Words.{words_of}
use Rattle.ups_requests.specs.declared.asking.Question.{Question}
use Rattle.ups_requests.specs.declared.asking.Question.TheVariants as questions
use Rattle.ups_requests.specs.declared.fault.Untold.{Untold}
use Rattle.ups_requests.specs.declared.line.Verb.{Verb}
use Rattle.ups_requests.specs.declared.line.Verb.TheVariants.{Create, Get, Set, Change, Cancel, Subscribe, Unsubscribe, Suspend, Find, Pending, Ack, Watches, Sweep, Held, Holder, Reserve}
use Rattle.ups_requests.specs.Asking.{Asks, unread}
use Rattle.ups_requests.specs.Questions.{verb_word, IsMomentWord, IsTitleWord, IsHeading, StandsForInstance, NamesInstance, Names, IsCount, IsMessageOf, IsCreate, IsSet, IsAction, IsFind, IsOf, IsExact, set_words, HoldsIf, HoldsWords, AsksAt, IsExactLine}
use Rattle.ups_requests.specs.Told.{AsksFor, TellsEntry}

-- a text stands for one value, words for one data set, bytes for one set of elements
abbrev pub OneText : Type 0
OneText = (text : List ℕ) → (one : List ℕ) → (other : List ℕ) → StandsFor text one → StandsFor text other → one ≡ other

abbrev pub OneSet : Type 0
OneSet = (words : List (List ℕ)) → (one other : List ℕ) → Encodes words one → Encodes words other → one ≡ other

abbrev pub OneReading : Type 0
OneReading = (syntax : TransferSyntax) → (bytes : List ℕ) → (one other : List El) → SpellsSet syntax bytes one → SpellsSet syntax bytes other → one ≡ other

-- VERBS

abbrev weigh : List ℕ → ℕ
weigh [] = 0
weigh (byte ∷ bytes) = byte + 2 * weigh bytes

abbrev verb_at : ℕ → Verb
verb_at n = cond (eqb n 6595) Create (cond (eqb n 769) Get (cond (eqb n 781) Set (cond (eqb n 6455) Change (cond (eqb n 6597) Cancel (cond (eqb n 52013) Subscribe (cond (eqb n 208389) Unsubscribe (cond (eqb n 13241) Suspend
    (cond (eqb n 1552) Find (cond (eqb n 13346) Pending (cond (eqb n 723) Ack (cond (eqb n 13825) Watches (cond (eqb n 3357) Sweep (cond (eqb n 1538) Held (cond (eqb n 13648) Reserve Holder))))))))))))))

verb_found : (verb : Verb) → verb_at (weigh (verb_word verb)) ≡ verb
verb_found Create = refl
verb_found Get = refl
verb_found Set = refl
verb_found Change = refl
verb_found Cancel = refl
verb_found Subscribe = refl
verb_found Unsubscribe = refl
verb_found Suspend = refl
verb_found Find = refl
verb_found Pending = refl
verb_found Ack = refl
verb_found Watches = refl
verb_found Sweep = refl
verb_found Held = refl
verb_found Holder = refl
verb_found Reserve = refl

one_verb : (v w : Verb) → verb_word v ≡ verb_word w → v ≡ w
one_verb v w is = sym (verb_found v) ∙ ap (λ (l : List ℕ). verb_at (weigh l)) is ∙ verb_found w

-- THE HEADING

pub record SameHeading (m n : ℕ) (a b : List ℕ) (v w : Verb) (xs ys : List (List ℕ)) : Type 0 where
  pub moment : m ≡ n
  pub title : a ≡ b
  pub verb : v ≡ w
  pub arguments : xs ≡ ys

one_title : OneText → (one other a b : List ℕ) → one ≡ other → IsTitleWord one a → IsTitleWord other b → a ≡ b
one_title only one other a b is (bytes, stands, spells) (more, stood, spelled) =
    let same : bytes ≡ more = only other bytes more (subst (λ (l : List ℕ). StandsFor l bytes) is stands) stood in
    spells.parts ∙ ap (λ (l : List ℕ). without_trailing is_space (without_leading is_space l)) same ∙ sym spelled.parts

one_heading : OneText → (words : List (List ℕ)) (m n : ℕ) (a b : List ℕ) (v w : Verb) (xs ys : List (List ℕ)) → IsHeading words m a v xs → IsHeading words n b w ys → SameHeading m n a b v w xs ys
one_heading only words m n a b v w xs ys h k =
    let p : words ≡ h.moment_word ∷ h.title_word ∷ verb_word v ∷ xs = h.parts in
    let q : words ≡ k.moment_word ∷ k.title_word ∷ verb_word w ∷ ys = k.parts in
    let moment : h.moment_word ≡ k.moment_word = cc in
    let title : h.title_word ≡ k.title_word = cc in
    let verb : verb_word v ≡ verb_word w = cc in
    let arguments : xs ≡ ys = cc in
    record {
      moment = h.is_moment.value ∙ ap (λ (l : List ℕ). digits_value 10 l) moment ∙ sym k.is_moment.value;
      title = one_title only h.title_word k.title_word a b title h.is_title k.is_title;
      verb = one_verb v w verb;
      arguments = arguments;
    }

-- INSTANCES

one_uid : (b c : List ℕ) → b ≡ c → (i j : Option (List ℕ)) → MatchOption i ((uid : List ℕ) → SpellsUid b uid → ⊥) (SpellsUid b) → MatchOption j ((uid : List ℕ) → SpellsUid c uid → ⊥) (SpellsUid c) → i ≡ j
one_uid b c is None None h k = refl
one_uid b c is None (Some v) h k = absurd (h v (subst (λ (l : List ℕ). SpellsUid l v) (sym is) k))
one_uid b c is (Some u) None h k = absurd (k u (subst (λ (l : List ℕ). SpellsUid l u) is h))
one_uid b c is (Some u) (Some v) h k = ap (λ (l : List ℕ). Some l) (h.parts ∙ ap (λ (l : List ℕ). without_padding l) is ∙ sym k.parts)

one_instance : OneText → (word : List ℕ) (i j : Option (List ℕ)) → StandsForInstance word i → StandsForInstance word j → i ≡ j
one_instance only word i j (b, stands, h) (c, stood, k) = one_uid b c (only word b c stands stood) i j h k

apart : codes "global" ≡ codes "filtered" → ⊥
apart is = let e : 6 ≡ 8 = ap length is in omega (arith, e)

one_name : OneText → (word : List ℕ) (i j : Option (List ℕ)) → NamesInstance word i → NamesInstance word j → i ≡ j
one_name only word i j (inl (is, names)) (inl (too, named)) = names ∙ sym named
one_name only word i j (inl (is, names)) (inr (inl (other, named))) = absurd (apart (sym is ∙ other))
one_name only word i j (inl (is, names)) (inr (inr (un, nor, stands))) = absurd (un is)
one_name only word i j (inr (inl (is, names))) (inl (other, named)) = absurd (apart (sym other ∙ is))
one_name only word i j (inr (inl (is, names))) (inr (inl (too, named))) = names ∙ sym named
one_name only word i j (inr (inl (is, names))) (inr (inr (un, nor, stands))) = absurd (nor is)
one_name only word i j (inr (inr (un, nor, stands))) (inl (is, named)) = absurd (un is)
one_name only word i j (inr (inr (un, nor, stands))) (inr (inl (is, named))) = absurd (nor is)
one_name only word i j (inr (inr (un, nor, stands))) (inr (inr (never, neither, stood))) = one_instance only word i j stands stood

one_named : OneText → (words : List (List ℕ)) (i j : Option (List ℕ)) → ((rest : List (List ℕ)) × Names words i rest) → ((rest : List (List ℕ)) × Names words j rest) → i ≡ j
one_named only words i j (r, (word, is, names)) (s, (other, too, named)) =
    let p : words ≡ word ∷ r = is in
    let q : words ≡ other ∷ s = too in
    let same : word ≡ other = cc in
    one_name only other i j (subst (λ (l : List ℕ). NamesInstance l i) same names) named

-- OPERATIONS

one_create : {A : Type 0} → OneText → (words : List (List ℕ)) (o p : Operation A) → IsCreate words o → IsCreate words p → o ≡ p
one_create only words (operations.Create i) (operations.Create j) h k = let same : i ≡ j = one_named only words i j h k in cc
one_create only words (operations.Create i) p h k = absurd k
one_create only words o p h k = absurd h

one_setting : {A : Type 0} → OneText → (words : List (List ℕ)) (o p : Operation A) → IsSet words o → IsSet words p → o ≡ p
one_setting only words (operations.Set i) (operations.Set j) h k = let same : i ≡ j = one_named only words i j h k in cc
one_setting only words (operations.Set i) p h k = absurd k
one_setting only words o p h k = absurd h

one_action : {A : Type 0} → OneText → (kind : ℕ) (words : List (List ℕ)) (o p : Operation A) → IsAction kind words o → IsAction kind words p → o ≡ p
one_action only kind words (operations.Action i a) (operations.Action j b) (h, is) (k, too) =
    let same : i ≡ j = one_named only words i j h k in
    let kinds : a ≡ b = is ∙ sym too in
    cc
one_action only kind words (operations.Action i a) p h k = absurd k
one_action only kind words o p h k = absurd h

one_find : {A : Type 0} → (o p : Operation A) → IsFind o → IsFind p → o ≡ p
one_find (operations.Find i) (operations.Find j) h k = let same : i ≡ j = h ∙ sym k in cc
one_find (operations.Find i) p h k = absurd k
one_find o p h k = absurd h

-- QUESTIONS

abbrev pub SameQuestion : {A : Type 0} → Question A → Question A → Type 0
SameQuestion (questions.Message o d) (questions.Message p e) = (o ≡ p) × (d.items ≡ e.items)
SameQuestion (questions.Acknowledge m) (questions.Acknowledge n) = m ≡ n
SameQuestion questions.Sweep questions.Sweep = Unit {0}
SameQuestion (questions.Reserve s) (questions.Reserve t) = s ≡ t
SameQuestion q r = ⊥

one_message : {A : Type 0} → OneSet → (Is : Operation A → Type 0) → ((o p : Operation A) → Is o → Is p → o ≡ p) → (IsSaid : Type 0) (words : List (List ℕ)) → IsSaid → (q r : Question A)
    → IsMessageOf Is q → IsMessageOf Is r → HoldsIf IsSaid words q → HoldsIf IsSaid words r → SameQuestion q r
one_message only Is one IsSaid words said (questions.Message o d) (questions.Message p e) h k f g = (one o p h k, only words d.items e.items (f said) (g said))
one_message only Is one IsSaid words said (questions.Message o d) r h k f g = absurd k
one_message only Is one IsSaid words said q r h k f g = absurd h

one_count : (words : List (List ℕ)) (m n : ℕ) → IsCount words m → IsCount words n → m ≡ n
one_count words m n (w, is, numeral, value) (x, too, number, other) =
    let p : words ≡ w ∷ [] = is in
    let q : words ≡ x ∷ [] = too in
    let same : w ≡ x = cc in
    value ∙ ap (λ (l : List ℕ). digits_value 10 l) same ∙ sym other

one_ack : {A : Type 0} (words : List (List ℕ)) (q r : Question A) → IsOf Ack words q → IsOf Ack words r → SameQuestion q r
one_ack words (questions.Acknowledge m) (questions.Acknowledge n) h k = one_count words m n h k
one_ack words (questions.Acknowledge m) r h k = absurd k
one_ack words q r h k = absurd h

one_sweep : {A : Type 0} (words : List (List ℕ)) (q r : Question A) → IsOf Sweep words q → IsOf Sweep words r → SameQuestion q r
one_sweep words questions.Sweep questions.Sweep h k = tt
one_sweep words questions.Sweep r h k = absurd k
one_sweep words q r h k = absurd h

one_reservation : {A : Type 0} → OneText → (words : List (List ℕ)) (q r : Question A) → IsOf Reserve words q → IsOf Reserve words r → SameQuestion q r
one_reservation texts words (questions.Reserve s) (questions.Reserve t) h k = let same : Some s ≡ Some t = one_named texts words (Some s) (Some t) ([], h) ([], k) in cc
one_reservation texts words (questions.Reserve s) r h k = absurd k
one_reservation texts words q r h k = absurd h

one_question : {A : Type 0} → OneText → OneSet → (verb : Verb) (words : List (List ℕ)) → IsExact verb words → (q r : Question A) → IsOf verb words q → IsOf verb words r → HoldsWords verb words q → HoldsWords verb words r → SameQuestion q r
one_question texts sets Create words exact q r h k f g = one_message sets (IsCreate words) (one_create texts words) (IsExact Create words) (set_words Create words) exact q r h k f g
one_question texts sets Set words exact q r h k f g = one_message sets (IsSet words) (one_setting texts words) (IsExact Set words) (set_words Set words) exact q r h.0 k.0 f g
one_question texts sets Change words exact q r h k f g = one_message sets (IsAction 1 words) (one_action texts 1 words) (IsExact Change words) (set_words Change words) exact q r h.0 k.0 f g
one_question texts sets Cancel words exact q r h k f g = one_message sets (IsAction 2 words) (one_action texts 2 words) (IsExact Cancel words) (set_words Cancel words) exact q r h k f g
one_question texts sets Subscribe words exact q r h k f g = one_message sets (IsAction 3 words) (one_action texts 3 words) (IsExact Subscribe words) (set_words Subscribe words) exact q r h.0 k.0 f g
one_question texts sets Unsubscribe words exact q r h k f g = one_message sets (IsAction 4 words) (one_action texts 4 words) (IsExact Unsubscribe words) (set_words Unsubscribe words) exact q r h.0 k.0 f g
one_question texts sets Suspend words exact q r h k f g = one_message sets (IsAction 5 words) (one_action texts 5 words) (IsExact Suspend words) (set_words Suspend words) exact q r h.0 k.0 f g
one_question texts sets Find words exact q r h k f g = one_message sets IsFind one_find (IsExact Find words) (set_words Find words) exact q r h k f g
one_question texts sets Ack words exact q r h k f g = one_ack words q r h k
one_question texts sets Sweep words exact q r h k f g = one_sweep words q r h k
one_question texts sets Reserve words exact q r h k f g = one_reservation texts words q r h k
one_question texts sets verb words exact q r h k f g = absurd exact

-- MEANINGS

pub one_meaning : {A : Type 0} → OneReading → (offset : ℤ) (operation : Operation A) (bytes : List ℕ) (m n : Result (Ask A) Status) → Asks offset operation bytes m → Asks offset operation bytes n → m ≡ n
one_meaning only offset operation bytes m n (inl (s, spells, is)) (inl (t, spelled, too)) =
    let same : s ≡ t = only Explicit bytes s t spells spelled in
    is ∙ ap (λ (l : List El). asked offset operation l) same ∙ sym too
one_meaning only offset operation bytes m n (inl (s, spells, is)) (inr (none, too)) = absurd (none s spells)
one_meaning only offset operation bytes m n (inr (none, is)) (inl (t, spelled, too)) = absurd (none t spelled)
one_meaning only offset operation bytes m n (inr (none, is)) (inr (nor, too)) = is ∙ sym too

-- a message asks for the request that it was found to mean
pub asks_for : {A : Type 0} → OneReading → (offset : ℤ) (operation : Operation A) (bytes : List ℕ) (request : Request A) → Asks offset operation bytes (Ok (Do request))
    → (meaning : Result (Ask A) Status) → Asks offset operation bytes meaning → meaning ≡ Ok (Do request)
asks_for only offset operation bytes request asks meaning means = one_meaning only offset operation bytes meaning (Ok (Do request)) means asks

-- the same question asks for the same request
asks_too : {A : Type 0} (offset : ℤ) (q r : Question A) (request : Request A) → SameQuestion q r → AsksFor offset q request → AsksFor offset r request
asks_too {A} offset (questions.Message o d) (questions.Message p e) request (os, ds) asks =
    λ meaning means. asks meaning (subst (λ (l : List ℕ). Asks offset o l meaning) (sym ds) (subst (λ (x : Operation A). Asks offset x e.items meaning) (sym os) means))
asks_too offset (questions.Acknowledge m) (questions.Acknowledge n) request same asks = asks ∙ ap (λ (k : ℕ). requests.Ack k) same
asks_too offset questions.Sweep questions.Sweep request same asks = asks
asks_too offset (questions.Reserve s) (questions.Reserve t) request same asks = asks ∙ ap (λ (u : List ℕ). requests.Reserve u) same
asks_too offset q r request same asks = absurd same

-- AN EXACT LINE TELLS ONE ENTRY
pub tells : {A : Type 0} → OneText → OneSet → (offset : ℤ) (line : List ℕ) (m : ℕ) (a : List ℕ) (q : Question A) (e : Entry A) → AsksAt (words_of line) m a q → IsExactLine (words_of line)
    → e.moment ≡ m → e.ae ≡ a → AsksFor offset q e.request → TellsEntry offset line e
tells texts sets offset line m a q e (v, xs, heading, is, holds) (m0, a0, w, ys, first, exact) moment title asks =
    λ n b r. λ at.
    let (u, zs, other, too, holds_too) = at in
    let here = one_heading texts (words_of line) m n a b v u xs zs heading other in
    let there = one_heading texts (words_of line) m0 m a0 a w v ys xs first heading in
    let said : IsExact v xs = subst (λ (l : List (List ℕ)). IsExact v l) there.arguments (subst (λ (x : Verb). IsExact x ys) there.verb exact) in
    let is_too : IsOf v xs r = subst (λ (l : List (List ℕ)). IsOf v l r) (sym here.arguments) (subst (λ (x : Verb). IsOf x zs r) (sym here.verb) too) in
    let held : HoldsWords v xs r = subst (λ (l : List (List ℕ)). HoldsWords v l r) (sym here.arguments) (subst (λ (x : Verb). HoldsWords x zs r) (sym here.verb) holds_too) in
    (sym here.moment ∙ sym moment, sym here.title ∙ sym title, asks_too offset q r e.request (one_question texts sets v xs said q r is is_too holds held) asks)

-- the same by another name of the offset and of the bytes
pub requested_by : {A : Type 0} (z offset : ℤ) (operation : Operation A) (bytes items : List ℕ) (r : Result (Request A) Untold) → z ≡ offset → bytes ≡ items
    → IfOk r (λ request. (meaning : Result (Ask A) Status) → Asks z operation bytes meaning → meaning ≡ Ok (Do request)) → IfOk r (λ request. (meaning : Result (Ask A) Status) → Asks offset operation items meaning → meaning ≡ Ok (Do request))
requested_by {A} z offset operation bytes items r is same h =
    subst (λ (b : List ℕ). IfOk r (λ request. (meaning : Result (Ask A) Status) → Asks offset operation b meaning → meaning ≡ Ok (Do request))) same
    (subst (λ (y : ℤ). IfOk r (λ request. (meaning : Result (Ask A) Status) → Asks y operation bytes meaning → meaning ≡ Ok (Do request))) is h)

pub tells_line : {A : Type 0} (z offset : ℤ) (text line : List ℕ) (stored : Record A) → z ≡ offset → text ≡ line → ((e : Entry A) × (recorded e ≡ stored) × TellsEntry z text e) → ((e : Entry A) × (recorded e ≡ stored) × TellsEntry offset line e)
tells_line {A} z offset text line stored is same (e, noted, told) = (e, noted, subst (λ (l : List ℕ). TellsEntry offset l e) same (subst (λ (y : ℤ). TellsEntry y text e) is told))
