-- What is spelled, and within the limits where it is written, can be written.
use Rattle.std.proofs.Common.{◌≡◌, ℕ, ◌<◌, ◌^◌, Bool, true, false, cond, List, [], ◌∷◌, length, map, Option, Some, None, refl, sym, ap, subst, ◌∙◌, arith}
use Rattle.std.specs.Prelude.{◌==◌, unwrap_or}
use Rattle.std.specs.List.{flat_map, AllByRecursion}
use Rattle.std.specs.Option.{option_to_list}
use Rattle.std.proofs.lemmas.List.{length-append}
use Rattle.ups_pdu.specs.declared.pdv.Pdv.{Pdv}
use Rattle.ups_pdu.specs.declared.pdu.Pdu.{Pdu}
use Rattle.ups_pdu.specs.declared.pdu.Pdu.TheVariants.{AssociateRq, AssociateAc, AssociateRj, Data, ReleaseRq, ReleaseRp, Abort}
use Rattle.ups_pdu.specs.declared.associate.UserInformation.{UserInformation}
use Rattle.ups_pdu.specs.declared.associate.ProposedContext.{ProposedContext}
use Rattle.ups_pdu.specs.declared.associate.ContextAnswer.{ContextAnswer}
use Rattle.ups_pdu.specs.declared.associate.ContextAnswer.TheVariants.{Accepted, Refused}
use Rattle.ups_pdu.specs.Each.{Each}
use Rattle.ups_pdu.specs.Identifier.{IsUid, SpellsUid}
use Rattle.ups_pdu.specs.Item.{Item, IsItem, contents, EachSpells}
use Rattle.ups_pdu.specs.Context.{SpellsProposedContext, IsAnswer, SpellsAnsweredContext, first_byte, are_context_ids}
use Rattle.ups_pdu.specs.UserItems.{SpellsUserInformation, SpellsMaximumLength, SpellsWindow, SpellsRole}
use Rattle.ups_pdu.specs.Association.{IsAssociateHead, AreAssociateItems}
use Rattle.ups_pdu.specs.Header.{limit}
use Rattle.ups_pdu.specs.Fragment.{SpellsPdv}
use Rattle.ups_pdu.specs.Spelling.{SpellsPdu}
use Rattle.ups_pdu.specs.Written.{written_pdv, proposed_content, user_content}
use Rattle.ups_pdu.specs.Fits.{Fits, FitsProposed, FitsAnswer, FitsWindow, FitsUser, FitsAssociate, IsWithin}

-- what each spelled thing is
each_is : {X : Type 0} (Spells : List ℕ → X → Type 0) (P : X → Type 0) → ((content : List ℕ) (x : X) → Spells content x → P x) → (found : List (List ℕ)) (xs : List X) → EachSpells Spells found xs → AllByRecursion P xs
each_is Spells P f found [] s = tt
each_is Spells P f [] (x ∷ xs) s = absurd s
each_is Spells P f (c ∷ cs) (x ∷ xs) s = (f c x s.0, each_is Spells P f cs xs s.1)

same_ids : {X : Type 0} (Spells : List ℕ → X → Type 0) (id : X → ℕ) → ((content : List ℕ) (x : X) → Spells content x → first_byte content ≡ id x) → (found : List (List ℕ)) (xs : List X) → EachSpells Spells found xs → map first_byte found ≡ map id xs
same_ids Spells id f [] [] s = refl
same_ids Spells id f [] (x ∷ xs) s = absurd s
same_ids Spells id f (c ∷ cs) [] s = absurd s
same_ids Spells id f (c ∷ cs) (x ∷ xs) s =
    let first : first_byte c ≡ id x = f c x s.0 in
    let others : map first_byte cs ≡ map id xs = same_ids Spells id f cs xs s.1 in
    cc

abbrev ShortContent : List ℕ → Type 0
ShortContent c = length c < 2 ^ 16

short_with : (b : Bool) (c : List ℕ) (cs : List (List ℕ)) → ShortContent c → AllByRecursion ShortContent cs → AllByRecursion ShortContent (cond b (c ∷ cs) cs)
short_with true c cs s t = (s, t)
short_with false c cs s t = t

contents_short : (kind : ℕ) (text : List ℕ) (items : List Item) → Each IsItem text items → AllByRecursion ShortContent (contents kind items)
contents_short kind text [] e = tt
contents_short kind text (i ∷ is) (r, first, more) = short_with (i.kind == kind) i.content (contents kind is) first.fits (contents_short kind r is more)

uid_is : (content uid : List ℕ) → SpellsUid content uid → IsUid uid
uid_is content uid s = s.is_uid

below_or_none : (found : List (List ℕ)) (o : Option ℕ) → EachSpells SpellsMaximumLength found (option_to_list o) → unwrap_or o 0 < 2 ^ 32
below_or_none found None s = omega arith
below_or_none [] (Some n) s = absurd s
below_or_none (c ∷ cs) (Some n) s = s.0.fits

user_fits : {A : Type 0} (content : List ℕ) (info : UserInformation A) → SpellsUserInformation content info → length (user_content info) < 2 ^ 16 → FitsUser info
user_fits content info s short = record {
  maximum_length = omega (arith, s.or_none, below_or_none (contents 0x51 s.items) s.stated s.maximum_length);
  implementation_class = each_is SpellsUid IsUid uid_is (contents 0x52 s.items) (option_to_list info.implementation_class) s.implementation_class;
  asynchronous_window = each_is SpellsWindow FitsWindow (λ c w t. (t.invoked, t.performed)) (contents 0x53 s.items) (option_to_list info.asynchronous_window) s.asynchronous_window;
  roles = each_is SpellsRole (λ r. IsUid r.sop_class) (λ c r t. t.sop_class.is_uid) (contents 0x54 s.items) info.roles s.each_role;
  implementation_version = subst (λ (l : List (List ℕ)). AllByRecursion ShortContent l) s.implementation_version (contents_short 0x55 content s.items s.each);
  short = short;
}

only_uid : (found : List (List ℕ)) (uid : List ℕ) → EachSpells SpellsUid found (uid ∷ []) → IsUid uid
only_uid found uid s = (each_is SpellsUid IsUid uid_is found (uid ∷ []) s).0

proposed_fits : {A : Type 0} (found : List (List ℕ)) (contexts : List (ProposedContext A)) → EachSpells SpellsProposedContext found contexts → AllByRecursion (λ c. length (proposed_content c) < 2 ^ 16) contexts → AllByRecursion FitsProposed contexts
proposed_fits found [] s short = tt
proposed_fits [] (x ∷ xs) s short = absurd s
proposed_fits (c ∷ cs) (x ∷ xs) s short = (
  record {
    abstract_syntax = only_uid (contents 0x30 s.0.syntaxes.items) x.abstract_syntax s.0.syntaxes.abstract_syntax;
    transfer_syntaxes = each_is SpellsUid IsUid uid_is (contents 0x40 s.0.syntaxes.items) x.transfer_syntaxes s.0.syntaxes.transfer_syntaxes;
    some = s.0.syntaxes.some;
    short = short.0;
  },
  proposed_fits cs xs s.1 short.1,
)

answer_fits : (outcome : ℕ) (found : List (List ℕ)) (a : ContextAnswer) → IsAnswer outcome found a → FitsAnswer a
answer_fits outcome found (Accepted uid) s = only_uid found uid s.1
answer_fits outcome found (Refused result) s = s.1

associate_fits : {A X : Type 0} (kind : ℕ) (Spells : List ℕ → X → Type 0) (FitsContext : X → Type 0) (id : X → ℕ) → ((content : List ℕ) (x : X) → Spells content x → first_byte content ≡ id x) → (body : List ℕ) (version : ℕ) (called calling text uid : List ℕ) (contexts : List X) (user : List ℕ) (info : UserInformation A)
    → IsAssociateHead body version called calling text → (s : AreAssociateItems kind Spells text uid contexts user) → SpellsUserInformation user info → AllByRecursion FitsContext contexts → length (user_content info) < 2 ^ 16
    → FitsAssociate FitsContext version called calling uid contexts (map id contexts) info
associate_fits kind Spells FitsContext id same body version called calling text uid contexts user info h s u fits short = record {
  protocol_version = h.version_fits;
  called_title = h.called_fits;
  calling_title = h.calling_fits;
  application_context = only_uid (contents 0x10 s.items) uid s.application_context;
  each_context = fits;
  some = s.some;
  odd_and_different = ap are_context_ids (sym (same_ids Spells id same (contents kind s.items) contexts s.each_context)) ∙ s.ids;
  user_information = user_fits user info u short;
}

length_spelled : {A : Type 0} (bytes : List ℕ) (ps : List (Pdv A)) → Each SpellsPdv bytes ps → length (flat_map written_pdv ps) ≡ length bytes
length_spelled bytes [] e = ap length (sym e)
length_spelled bytes (p ∷ ps) (rest, s, more) =
    omega (arith, length-append p.bytes (flat_map written_pdv ps), length_spelled rest ps more, ap length s.is.is.parts, length-append s.fragment.message rest, ap length s.value.message)

pub fits_from_spelled : {A : Type 0} (bytes : List ℕ) (pdu : Pdu A) → SpellsPdu bytes pdu → IsWithin pdu → Fits pdu
fits_from_spelled {A} bytes (AssociateRq rq) s w =
    let t = s.spelled.1 in (
      associate_fits 0x20 (SpellsProposedContext {A = A}) (FitsProposed {A = A}) (λ c. c.id) (λ c x u. ap first_byte u.head.parts) s.body rq.protocol_version rq.called rq.calling t.text rq.application_context rq.contexts t.user rq.user_information t.head t.items t.user_information
          (proposed_fits (contents 0x20 t.items.items) rq.contexts t.items.each_context w.0) w.1,
      w.2,
    )
fits_from_spelled bytes (AssociateAc ac) s w =
    let t = s.spelled.1 in (
      associate_fits 0x21 SpellsAnsweredContext (λ c. FitsAnswer c.answer) (λ c. c.id) (λ c x u. ap first_byte u.head.parts) s.body ac.protocol_version ac.called ac.calling t.text ac.application_context ac.contexts t.user ac.user_information t.head t.items t.user_information
          (each_is SpellsAnsweredContext (λ c. FitsAnswer c.answer) (λ c x u. answer_fits u.outcome (contents 0x40 u.answer.items) x.answer u.answer.is) (contents 0x21 t.items.items) ac.contexts t.items.each_context) w.0,
      w.1,
    )
fits_from_spelled bytes (AssociateRj a b c) s w = tt
fits_from_spelled bytes (Data ps) s w = (s.spelled.1.some, omega (arith, length_spelled s.body ps s.spelled.1.each, s.whole.within, ap limit s.spelled.0))
fits_from_spelled bytes ReleaseRq s w = tt
fits_from_spelled bytes ReleaseRp s w = tt
fits_from_spelled bytes (Abort a b) s w = tt

proposed_short : {A : Type 0} (contexts : List (ProposedContext A)) → AllByRecursion FitsProposed contexts → AllByRecursion (λ c. length (proposed_content c) < 2 ^ 16) contexts
proposed_short [] s = tt
proposed_short (x ∷ xs) s = (s.0.short, proposed_short xs s.1)

pub within_from_fits : {A : Type 0} (pdu : Pdu A) → Fits pdu → IsWithin pdu
within_from_fits (AssociateRq rq) h = (proposed_short rq.contexts h.0.each_context, h.0.user_information.short, h.1)
within_from_fits (AssociateAc ac) h = (h.0.user_information.short, h.1)
within_from_fits (AssociateRj a b c) h = tt
within_from_fits (Data ps) h = tt
within_from_fits ReleaseRq h = tt
within_from_fits ReleaseRp h = tt
within_from_fits (Abort a b) h = tt
