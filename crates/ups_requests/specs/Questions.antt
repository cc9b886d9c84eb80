-- What a line asks, by its words: when, who and what; and the data set of an exact line.
use Rattle.std.specs.Prelude.{◌≡◌, ◌≢◌, ◌⊎◌, ◌<◌, ◌≤◌, ◌^◌, ℕ, List, [], ◌∷◌, ◌++◌, length, slice_index, codes, Option, None, Some, MatchOption, if◌then◌else◌}
use Rattle.std.specs.Str.{bytes_eq}
use Rattle.std.specs.Str.Parse.{IsNumeral, digits_value}
use Rattle.ups_pdu.specs.Identifier.{SpellsUid}
use Rattle.ups_pdu.specs.declared.registered.RegisteredUid.TheVariants.{GlobalSubscription, FilteredGlobalSubscription}
use Rattle.ups_pdu.specs.Registered.{text_of}
use Rattle.ups_pdu.specs.Title.{SpellsAe}
use Rattle.ups_dimse.specs.declared.command.Operation.{Operation}
use Rattle.ups_dimse.specs.declared.command.Operation.TheVariants as operations
use Rattle.ups_lines.specs.Elements.{Encodes}
use Rattle.ups_lines.specs.Escapes.{StandsFor, IsText}
use Rattle.ups_lines.specs.Words.{words_of, NoWord}
use Rattle.ups_lines.specs.declared.fault.LineFault.{LineFault}
use Rattle.ups_lines.specs.declared.fault.LineFault.TheVariants.{Malformed, Memory}
use Rattle.ups_lines.specs.declared.fault.LineReason.{LineReason}
use Rattle.ups_lines.specs.declared.fault.LineReason.TheVariants as reasons
use Rattle.ups_life.specs.Settings.{IsMoment}
use Rattle.ups_requests.specs.Limits.{max_line}
use Rattle.ups_requests.specs.declared.asking.Question.{Question}
use Rattle.ups_requests.specs.declared.asking.Question.TheVariants as questions
use Rattle.ups_requests.specs.declared.exact.Grammar.{Grammar}
use Rattle.ups_requests.specs.declared.exact.Grammar.TheVariants.{Script, History}
use Rattle.ups_requests.specs.declared.line.Verb.{Verb}
use Rattle.ups_requests.specs.declared.line.Verb.TheVariants.{Create, Get, Set, Change, Cancel, Subscribe, Unsubscribe, Suspend, Find, Pending, Ack, Watches, Sweep, Held, Holder, Reserve}

-- the word is a moment: a number of seconds in decimal digits
pub record IsMomentWord (word : List ℕ) (moment : ℕ) : Type 0 where
  pub numeral : IsNumeral 10 word
  pub value : moment ≡ digits_value 10 word

-- the word stands for the title of an application entity (PS3.5 section 6.2, AE)
abbrev pub IsTitleWord : List ℕ → List ℕ → Type 0
IsTitleWord word ae = (bytes : List ℕ) × StandsFor word bytes × SpellsAe bytes ae

abbrev pub verb_word : Verb → List ℕ
verb_word Create = codes "create"
verb_word Get = codes "get"
verb_word Set = codes "set"
verb_word Change = codes "change"
verb_word Cancel = codes "cancel"
verb_word Subscribe = codes "subscribe"
verb_word Unsubscribe = codes "unsubscribe"
verb_word Suspend = codes "suspend"
verb_word Find = codes "find"
verb_word Pending = codes "pending"
verb_word Ack = codes "ack"
verb_word Watches = codes "watches"
verb_word Sweep = codes "sweep"
verb_word Held = codes "held"
verb_word Holder = codes "holder"
verb_word Reserve = codes "reserve"

-- the words are MOMENT AE VERB, followed by the arguments
pub record IsHeading (words : List (List ℕ)) (moment : ℕ) (ae : List ℕ) (verb : Verb) (arguments : List (List ℕ)) : Type 0 where
  pub moment_word : List ℕ
  pub title_word : List ℕ
  pub parts : words ≡ moment_word ∷ title_word ∷ verb_word verb ∷ arguments
  pub is_moment : IsMomentWord moment_word moment
  pub is_title : IsTitleWord title_word ae

-- the word stands for the UID of an instance; None if it stands for no UID
abbrev pub StandsForInstance : List ℕ → Option (List ℕ) → Type 0
StandsForInstance word instance = (bytes : List ℕ) × StandsFor word bytes × MatchOption instance ((uid : List ℕ) → SpellsUid bytes uid → ⊥) (SpellsUid bytes)

-- the word names an instance: `global` and `filtered` those of global subscriptions (PS3.4 CC.2.3), any other word the one
-- whose UID it stands for
abbrev pub NamesInstance : List ℕ → Option (List ℕ) → Type 0
NamesInstance word instance =
    ((word ≡ codes "global") × (instance ≡ Some (text_of GlobalSubscription)))
    ⊎ (((word ≡ codes "filtered") × (instance ≡ Some (text_of FilteredGlobalSubscription)))
    ⊎ ((word ≢ codes "global") × (word ≢ codes "filtered") × StandsForInstance word instance))

-- the first of these words names an instance, and the rest follows it
abbrev pub Names : List (List ℕ) → Option (List ℕ) → List (List ℕ) → Type 0
Names words instance rest = (word : List ℕ) × (words ≡ word ∷ rest) × NamesInstance word instance

-- there is one word, which is a number in decimal digits
abbrev pub IsCount : List (List ℕ) → ℕ → Type 0
IsCount words count = (word : List ℕ) × (words ≡ word ∷ []) × IsNumeral 10 word × (count ≡ digits_value 10 word)

-- the question is a message with such an operation
abbrev pub IsMessageOf : {A : Type 0} → (Operation A → Type 0) → Question A → Type 0
IsMessageOf Is (questions.Message operation data_set) = Is operation
IsMessageOf Is question = ⊥

-- N-CREATE, N-GET and N-SET for the instance that the first word names (PS3.7 sections 10.3.5, 10.3.2 and 10.3.3)
abbrev pub IsCreate : {A : Type 0} → List (List ℕ) → Operation A → Type 0
IsCreate words (operations.Create instance) = (rest : List (List ℕ)) × Names words instance rest
IsCreate words operation = ⊥

abbrev pub IsGet : {A : Type 0} → List (List ℕ) → Operation A → Type 0
IsGet words (operations.Get instance attributes) = (rest : List (List ℕ)) × Names words instance rest
IsGet words operation = ⊥

abbrev pub IsSet : {A : Type 0} → List (List ℕ) → Operation A → Type 0
IsSet words (operations.Set instance) = (rest : List (List ℕ)) × Names words instance rest
IsSet words operation = ⊥

-- N-ACTION of this type on the instance that the first word names (PS3.7 section 10.3.4)
abbrev pub IsAction : {A : Type 0} → ℕ → List (List ℕ) → Operation A → Type 0
IsAction kind words (operations.Action instance action) = ((rest : List (List ℕ)) × Names words instance rest) × (action ≡ kind)
IsAction kind words operation = ⊥

-- C-FIND, which has no instance, without a priority (PS3.7 section 9.3.2)
abbrev pub IsFind : {A : Type 0} → Operation A → Type 0
IsFind (operations.Find priority) = priority ≡ None
IsFind operation = ⊥

-- What a verb asks with the words after it: a question that only the service can be asked, in full; or a message with this
-- operation, its instance, and the type of an N-ACTION (PS3.4 table CC.2.1-1 and CC.2.2 to CC.2.8).
abbrev pub IsOf : {A : Type 0} → Verb → List (List ℕ) → Question A → Type 0
IsOf Create words question = IsMessageOf (IsCreate words) question
IsOf Get words question = IsMessageOf (IsGet words) question
IsOf Set words question = IsMessageOf (IsSet words) question × (2 ≤ length words)
IsOf Change words question = IsMessageOf (IsAction 1 words) question × (length words ≡ 3)
IsOf Cancel words question = IsMessageOf (IsAction 2 words) question
IsOf Subscribe words question = IsMessageOf (IsAction 3 words) question × (3 ≤ length words)
IsOf Unsubscribe words question = IsMessageOf (IsAction 4 words) question × (length words ≡ 2)
IsOf Suspend words question = IsMessageOf (IsAction 5 words) question × (length words ≡ 2)
IsOf Find words question = IsMessageOf IsFind question
IsOf Pending words (questions.Pending max) = IsCount words max
IsOf Ack words (questions.Acknowledge upto) = IsCount words upto
IsOf Watches words questions.Watches = words ≡ []
IsOf Sweep words questions.Sweep = words ≡ []
IsOf Held words questions.Held = words ≡ []
IsOf Holder words (questions.Holder instance) = Names words instance []
IsOf Reserve words (questions.Reserve step) = Names words (Some step) []
IsOf verb words question = ⊥

-- THE DATA SET OF AN EXACT LINE

-- the word begins with a colon
abbrev pub IsColon : List ℕ → Type 0
IsColon word = slice_index word 0 ≡ 58

abbrev pub IsColonFirst : List (List ℕ) → Type 0
IsColonFirst [] = ⊥
IsColonFirst (word ∷ words) = IsColon word

-- so are the words behind the first
abbrev pub BehindFirst : (List (List ℕ) → Type 0) → List (List ℕ) → Type 0
BehindFirst Are [] = ⊥
BehindFirst Are (word ∷ words) = Are words

abbrev pub words_behind : List (List ℕ) → List (List ℕ)
words_behind [] = []
words_behind (word ∷ words) = words

abbrev pub word_first : List (List ℕ) → List ℕ
word_first [] = []
word_first (word ∷ words) = word

-- only a history has such a line: a colon begins the first of its attributes, or it reserves a UID
abbrev pub IsOfHistory : Verb → List (List ℕ) → Type 0
IsOfHistory Create words = BehindFirst IsColonFirst words
IsOfHistory Set words = BehindFirst (BehindFirst IsColonFirst) words
IsOfHistory Cancel words = BehindFirst IsColonFirst words
IsOfHistory Subscribe words = BehindFirst (BehindFirst (BehindFirst IsColonFirst)) words
IsOfHistory Find words = IsColonFirst words
IsOfHistory Reserve words = Unit {0}
IsOfHistory verb words = ⊥

-- a script of this grammar has such lines: one that is no history has none that only a history has
abbrev pub IsFor : Grammar → Verb → List (List ℕ) → Type 0
IsFor Script verb words = IsOfHistory verb words → ⊥
IsFor History verb words = Unit {0}

-- what a line asks is said by its words alone: only a history has it, or its verb takes no attributes
abbrev pub IsExact : Verb → List (List ℕ) → Type 0
IsExact Change words = Unit {0}
IsExact Unsubscribe words = Unit {0}
IsExact Suspend words = Unit {0}
IsExact Ack words = Unit {0}
IsExact Sweep words = Unit {0}
IsExact verb words = IsOfHistory verb words

-- a word with the attribute of an argument
abbrev pub argument_word : List ℕ → List ℕ → List ℕ
argument_word digits text = digits ++ (61 ∷ text)

-- a Transaction UID, unless the word is `-`
abbrev pub transaction_words : List ℕ → List (List ℕ)
transaction_words word = if bytes_eq word (codes "-") then [] else argument_word (codes "00081195") word ∷ []

-- the words of the data set: the attributes; or, of a verb that takes none, its arguments as attributes
abbrev pub set_words : Verb → List (List ℕ) → List (List ℕ)
set_words Create words = words_behind words
set_words Set words = words_behind (words_behind words)
set_words Change words = transaction_words (word_first (words_behind (words_behind words))) ++ (argument_word (codes "00741000") (word_first (words_behind words)) ∷ [])
set_words Cancel words = words_behind words
set_words Subscribe words = words_behind (words_behind (words_behind words))
set_words Unsubscribe words = argument_word (codes "00741234") (word_first (words_behind words)) ∷ []
set_words Suspend words = argument_word (codes "00741234") (word_first (words_behind words)) ∷ []
set_words Find words = words
set_words verb words = []

-- if the line is exact, the data set of the message is what these words stand for
abbrev pub HoldsIf : {A : Type 0} → Type 0 → List (List ℕ) → Question A → Type 0
HoldsIf IsSaid words (questions.Message operation data_set) = IsSaid → Encodes words data_set.items
HoldsIf IsSaid words question = Unit {0}

abbrev pub HoldsWords : {A : Type 0} → Verb → List (List ℕ) → Question A → Type 0
HoldsWords verb words question = HoldsIf (IsExact verb words) (set_words verb words) question

-- with the words of a line, an application entity asks this question at a moment
abbrev pub AsksAt : {A : Type 0} → List (List ℕ) → ℕ → List ℕ → Question A → Type 0
AsksAt words moment ae question = (verb : Verb) × (arguments : List (List ℕ)) × IsHeading words moment ae verb arguments × IsOf verb arguments question × HoldsWords verb arguments question

-- the words begin a line that is exact
abbrev pub IsExactLine : List (List ℕ) → Type 0
IsExactLine words = (moment : ℕ) × (ae : List ℕ) × (verb : Verb) × (arguments : List (List ℕ)) × IsHeading words moment ae verb arguments × IsExact verb arguments

-- the words begin a line that only a history has, or one that a script of this grammar has
abbrev pub IsHistoryLine : List (List ℕ) → Type 0
IsHistoryLine words = (moment : ℕ) × (ae : List ℕ) × (verb : Verb) × (arguments : List (List ℕ)) × IsHeading words moment ae verb arguments × IsOfHistory verb arguments

abbrev pub IsLineOf : Grammar → List (List ℕ) → Type 0
IsLineOf grammar words = (moment : ℕ) × (ae : List ℕ) × (verb : Verb) × (arguments : List (List ℕ)) × IsHeading words moment ae verb arguments × IsFor grammar verb arguments

-- the word is no moment: it is no number in decimal digits, or one beyond the last moment
abbrev pub NoMoment : List ℕ → Type 0
NoMoment word = (moment : ℕ) → IsMoment moment → IsMomentWord word moment → ⊥

-- the word is no title, for this reason: two hex digits are missing after a `%`, or it stands for no AE title
abbrev pub NoTitle : List ℕ → LineReason → Type 0
NoTitle word reason = ((reason ≡ reasons.Escape) × (IsText word → ⊥)) ⊎ ((reason ≡ reasons.Title) × ((ae : List ℕ) → IsTitleWord word ae → ⊥))

abbrev pub NoVerb : List ℕ → Type 0
NoVerb word = (verb : Verb) → verb_word verb ≡ word → ⊥

-- the words fail to begin a line, for this reason, by the first faulty word
abbrev pub FailsVerb : List (List ℕ) → LineReason → Type 0
FailsVerb words reason = NoWord words reason ⊎ ((word : List ℕ) × (rest : List (List ℕ)) × (words ≡ word ∷ rest) × (reason ≡ reasons.Verb) × NoVerb word)

abbrev pub FailsTitle : List (List ℕ) → LineReason → Type 0
FailsTitle words reason = NoWord words reason ⊎ ((word : List ℕ) × (rest : List (List ℕ)) × (words ≡ word ∷ rest) × (NoTitle word reason ⊎ FailsVerb rest reason))

abbrev pub FailsHeading : List (List ℕ) → LineReason → Type 0
FailsHeading words reason =
    NoWord words reason ⊎ ((word : List ℕ) × (rest : List (List ℕ)) × (words ≡ word ∷ rest) × (((reason ≡ reasons.Moment) × NoMoment word) ⊎ FailsTitle rest reason))

-- the arguments are not what the verb takes; this covers only the verbs that take no argument, one number or one instance
abbrev pub FailsArguments : Verb → List (List ℕ) → Type 0
FailsArguments Watches arguments = arguments ≢ []
FailsArguments Sweep arguments = arguments ≢ []
FailsArguments Held arguments = arguments ≢ []
FailsArguments Pending arguments = (word : List ℕ) → arguments ≡ word ∷ [] → IsNumeral 10 word → digits_value 10 word < 2 ^ 64 → ⊥
FailsArguments Ack arguments = (word : List ℕ) → arguments ≡ word ∷ [] → IsNumeral 10 word → digits_value 10 word < 2 ^ 64 → ⊥
FailsArguments Holder arguments = (word : List ℕ) → arguments ≡ word ∷ [] → word ≢ [] → IsText word → ⊥
FailsArguments verb arguments = Unit {0}

-- the words begin a line, and the arguments after its verb fail
pub record FailsBehind (words : List (List ℕ)) : Type 0 where
  pub moment : ℕ
  pub ae : List ℕ
  pub verb : Verb
  pub arguments : List (List ℕ)
  pub heading : IsHeading words moment ae verb arguments
  pub fails : FailsArguments verb arguments

-- the bytes are no line of a script, for this reason, among them that only a history has it; for any reason if the arguments fail
abbrev pub IsBad : List ℕ → LineReason → Type 0
IsBad line reason =
    ((reason ≡ reasons.TooLong) × (max_line < length line))
    ⊎ (FailsHeading (words_of line) reason ⊎ (FailsBehind (words_of line) ⊎ ((reason ≡ reasons.OfHistory) × IsHistoryLine (words_of line))))

-- if the fault is that of a malformed line, its reason satisfies P
abbrev pub OnBad : LineFault → (LineReason → Type 0) → Type 0
OnBad (Malformed reason) P = P reason
OnBad Memory P = Unit {0}
