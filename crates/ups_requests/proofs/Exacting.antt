-- The data set of an exact line, behind the arguments of its verb.
use Rattle.std.proofs.Common.{◌≡◌, ℕ, Bool, true, false, cond, List, [], ◌∷◌, ◌++◌, codes, inl, inr, Result, Ok, Err, refl, sym, ap, subst, ◌∙◌, append_assoc, append-nil}
use Rattle.std.specs.Prelude.{IfOk, OnOk, if◌then◌else◌}
use Rattle.std.specs.Str.{bytes_eq}
use Rattle.ups_lines.specs.declared.fault.LineFault.{LineFault}
use Rattle.ups_lines.specs.Elements.{IsAttribute, EncodesWord, Encodes}
use Rattle.ups_requests.specs.declared.asking.Question.{Question}
use Rattle.ups_requests.specs.declared.asking.Question.TheVariants as questions
use Rattle.ups_requests.specs.declared.line.Verb.TheVariants.{Create, Set, Change, Cancel, Subscribe, Unsubscribe, Suspend}
use Rattle.ups_requests.specs.Questions.{IsColon, IsColonFirst, BehindFirst, HoldsIf, HoldsWords, argument_word, transaction_words, set_words}

pub holds_create : {A : Type 0} (ws rest : List (List ℕ)) (word : List ℕ) (r : Result (Question A) LineFault) → ws ≡ word ∷ rest → IfOk r (HoldsIf (IsColonFirst rest) rest) → IfOk r (HoldsWords Create ws)
holds_create {A} ws rest word r is h = subst (λ (l : List (List ℕ)). IfOk r (HoldsWords {A = A} Create l)) (sym is) h

pub holds_cancel : {A : Type 0} (ws rest : List (List ℕ)) (word : List ℕ) (r : Result (Question A) LineFault) → ws ≡ word ∷ rest → IfOk r (HoldsIf (IsColonFirst rest) rest) → IfOk r (HoldsWords Cancel ws)
holds_cancel {A} ws rest word r is h = subst (λ (l : List (List ℕ)). IfOk r (HoldsWords {A = A} Cancel l)) (sym is) h

pub holds_setting : {A : Type 0} (ws mid rest : List (List ℕ)) (word next : List ℕ) (r : Result (Question A) LineFault) → ws ≡ word ∷ mid → mid ≡ next ∷ rest → IfOk r (HoldsIf (IsColonFirst rest) rest) → IfOk r (HoldsWords Set ws)
holds_setting {A} ws mid rest word next r is two h = subst (λ (l : List (List ℕ)). IfOk r (HoldsWords {A = A} Set l)) (sym (is ∙ ap (λ (l : List (List ℕ)). word ∷ l) two)) h

pub holds_subscription : {A : Type 0} (ws mid more rest : List (List ℕ)) (word next last : List ℕ) (r : Result (Question A) LineFault) → ws ≡ word ∷ mid → mid ≡ next ∷ more → more ≡ last ∷ rest → IfOk r (HoldsIf (IsColonFirst rest) rest) → IfOk r (HoldsWords Subscribe ws)
holds_subscription {A} ws mid more rest word next last r is two at h = subst (λ (l : List (List ℕ)). IfOk r (HoldsWords {A = A} Subscribe l)) (sym (is ∙ ap (λ (l : List (List ℕ)). word ∷ l) (two ∙ ap (λ (l : List (List ℕ)). next ∷ l) at))) h

-- one attribute is what its word encodes
pub one_encoded : (word encoded : List ℕ) → IsAttribute word encoded → Encodes (word ∷ []) encoded
one_encoded word encoded is = (encoded, [], inr is, refl, sym (append-nil encoded))

then_encoded : (words : List (List ℕ)) (word a b : List ℕ) → Encodes words a → IsAttribute word b → Encodes (words ++ word ∷ []) (a ++ b)
then_encoded [] word a b none is = subst (λ (l : List ℕ). Encodes (word ∷ []) (l ++ b)) (sym none) (one_encoded word b is)
then_encoded (w ∷ ws) word a b (one, more, first, rest, parts) is =
    (one, more ++ b, first, then_encoded ws word more b rest is, ap (λ (l : List ℕ). l ++ b) parts ∙ append_assoc one more b)

pub no_transaction : (word : List ℕ) → bytes_eq word (codes "-") ≡ true → Encodes (transaction_words word) []
no_transaction word is = rw is refl

pub some_transaction : (word encoded : List ℕ) → bytes_eq word (codes "-") ≡ false → IsAttribute (argument_word (codes "00081195") word) encoded → Encodes (transaction_words word) encoded
some_transaction word encoded is h = rw is (one_encoded (argument_word (codes "00081195") word) encoded h)

-- a Transaction UID that was put
pub transaction_put : (word before after : List ℕ) (r : Result (Unit {0}) LineFault) → bytes_eq word (codes "-") ≡ false
    → OnOk r ((encoded : List ℕ) × IsAttribute (argument_word (codes "00081195") word) encoded × (after ≡ before ++ encoded)) → OnOk r ((encoded : List ℕ) × Encodes (transaction_words word) encoded × (after ≡ before ++ encoded))
transaction_put word before after (Ok done) is (encoded, h, grown) = (encoded, some_transaction word encoded is h, grown)
transaction_put word before after (Err fault) is h = tt

-- the words of a change of state
pub change_encoded : (ws r1 r2 r3 : List (List ℕ)) (instance state transaction before after final : List ℕ) → before ≡ [] → ws ≡ instance ∷ r1 → r1 ≡ state ∷ r2 → r2 ≡ transaction ∷ r3
    → ((encoded : List ℕ) × Encodes (transaction_words transaction) encoded × (after ≡ before ++ encoded)) → ((encoded : List ℕ) × IsAttribute (argument_word (codes "00741000") state) encoded × (final ≡ after ++ encoded))
    → Encodes (set_words Change ws) final
change_encoded ws r1 r2 r3 instance state transaction before after final none is two at (a, first, grown) (b, second, whole) =
    subst (λ (l : List (List ℕ)). Encodes (set_words Change l) final) (sym (is ∙ ap (λ (l : List (List ℕ)). instance ∷ l) (two ∙ ap (λ (l : List (List ℕ)). state ∷ l) at)))
    (subst (λ (l : List ℕ). Encodes (transaction_words transaction ++ argument_word (codes "00741000") state ∷ []) l) (sym (whole ∙ ap (λ (l : List ℕ). l ++ b) (grown ∙ ap (λ (l : List ℕ). l ++ a) none))) (then_encoded (transaction_words transaction) (argument_word (codes "00741000") state) a b first second))

-- the word of the end of subscriptions
pub end_encoded : (ws r1 r2 : List (List ℕ)) (instance receiver before final : List ℕ) → before ≡ [] → ws ≡ instance ∷ r1 → r1 ≡ receiver ∷ r2
    → ((encoded : List ℕ) × IsAttribute (argument_word (codes "00741234") receiver) encoded × (final ≡ before ++ encoded)) → Encodes (set_words Suspend ws) final
end_encoded ws r1 r2 instance receiver before final none is two (a, first, grown) =
    subst (λ (l : List (List ℕ)). Encodes (set_words Suspend l) final) (sym (is ∙ ap (λ (l : List (List ℕ)). instance ∷ l) two))
    (subst (λ (l : List ℕ). Encodes (argument_word (codes "00741234") receiver ∷ []) l) (sym (grown ∙ ap (λ (l : List ℕ). l ++ a) none)) (one_encoded (argument_word (codes "00741234") receiver) a first))

-- colons
pub colon_first : (ws rest : List (List ℕ)) (word : List ℕ) → ws ≡ word ∷ rest → IsColon word → IsColonFirst ws
colon_first ws rest word is h = subst IsColonFirst (sym is) h

pub no_colon_first : (ws rest : List (List ℕ)) (word : List ℕ) → ws ≡ word ∷ rest → (IsColon word → ⊥) → IsColonFirst ws → ⊥
no_colon_first ws rest word is un h = un (subst IsColonFirst is h)

pub none_first : (ws : List (List ℕ)) → ws ≡ [] → IsColonFirst ws → ⊥
none_first ws is h = subst IsColonFirst is h

pub behind_first : (Are : List (List ℕ) → Type 0) (ws rest : List (List ℕ)) (word : List ℕ) → ws ≡ word ∷ rest → Are rest → BehindFirst Are ws
behind_first Are ws rest word is h = subst (BehindFirst Are) (sym is) h

pub not_behind : (Are : List (List ℕ) → Type 0) (ws rest : List (List ℕ)) (word : List ℕ) → ws ≡ word ∷ rest → (Are rest → ⊥) → BehindFirst Are ws → ⊥
not_behind Are ws rest word is un h = un (subst (BehindFirst Are) is h)

pub none_behind : (Are : List (List ℕ) → Type 0) (ws : List (List ℕ)) → ws ≡ [] → BehindFirst Are ws → ⊥
none_behind Are ws is h = subst (BehindFirst Are) is h

-- no line of such a verb is exact
pub never_holds : {A : Type 0} (words : List (List ℕ)) (r : Result (Question A) LineFault) → IfOk r (HoldsIf ⊥ words)
never_holds words (Ok (questions.Message operation data_set)) = λ said. absurd said
never_holds words (Ok (questions.Pending max)) = tt
never_holds words (Ok (questions.Acknowledge upto)) = tt
never_holds words (Ok questions.Watches) = tt
never_holds words (Ok questions.Sweep) = tt
never_holds words (Ok questions.Held) = tt
never_holds words (Ok (questions.Holder instance)) = tt
never_holds words (Ok (questions.Reserve step)) = tt
never_holds words (Err fault) = tt
