-- An acceptance, and that it can be written.
use Rattle.std.proofs.Common.{◌≡◌, ◌≢◌, ℕ, ◌+◌, ◌*◌, ◌<◌, ◌≤◌, true, false, List, [], ◌∷◌, ◌++◌, length, map, Option, None, Some, refl, sym, ap, subst, ◌∙◌, arith}
use Rattle.std.specs.List.{flat_map, AllByRecursion}
use Rattle.std.specs.Prelude.{replicate}
use Rattle.std.proofs.lemmas.List.{length-append}
use Rattle.std.proofs.lemmas.Bool.{and_parts}
use Rattle.ups_pdu.specs.declared.associate.AssociateRq.{AssociateRq}
use Rattle.ups_pdu.specs.declared.associate.AnsweredContext.{AnsweredContext}
use Rattle.ups_pdu.specs.declared.associate.ProposedContext.{ProposedContext}
use Rattle.ups_pdu.specs.declared.registered.RegisteredUid.TheVariants.{ApplicationContext, ImplicitVrLittleEndian, ExplicitVrLittleEndian, Implementation}
use Rattle.ups_pdu.specs.declared.pdu.Pdu.TheVariants.{AssociateRq as RequestPdu, AssociateAc as AnswerPdu}
use Rattle.ups_pdu.specs.Registered.{text_of}
use Rattle.ups_pdu.specs.Identifier.{IsUid}
use Rattle.ups_pdu.specs.Item.{contents, EachSpells}
use Rattle.ups_pdu.specs.Context.{SpellsProposedContext, first_byte, are_different, are_context_ids}
use Rattle.ups_pdu.specs.Spelling.{SpellsPdu}
use Rattle.ups_pdu.specs.Written.{associate_head, associate_items, user_content, answered_content, written_item, syntax_of as written_syntax}
use Rattle.ups_pdu.specs.Fits.{Fits, FitsAnswer, FitsUser}
use Rattle.ups_pdu.specs.declared.syntax.TransferSyntax.{TransferSyntax}
use Rattle.ups_pdu.specs.declared.syntax.TransferSyntax.TheVariants.{Implicit, Explicit}
use Rattle.ups_assoc.specs.declared.sop_class.SopClass.{SopClass}
use Rattle.ups_assoc.specs.declared.negotiating.Acceptance.{Acceptance}
use Rattle.ups_assoc.specs.declared.negotiating.Outcome.TheVariants.{Accept}
use Rattle.ups_assoc.specs.Titles.{title, is_this_title}
use Rattle.ups_assoc.specs.Classes.{class_of}
use Rattle.ups_assoc.specs.Contexts.{first_syntax, answer_of, context_answer, answered}
use Rattle.ups_assoc.specs.Negotiation.{has_version_1, is_dicom, is_too_small, this_server, accepting_answer, acceptance, outcome, IsWritable}
use Rattle.ups_assoc.proofs.Different.{at_most}

pub accepts : {A : Type 0} (ae : List ℕ) (request : AssociateRq A) (calling : List ℕ) → has_version_1 request.protocol_version ≡ true → is_dicom request.application_context ≡ true
    → is_this_title ae request.called ≡ true → title request.calling ≡ Some calling → is_too_small request.user_information.maximum_length ≡ false → outcome ae request ≡ Accept (acceptance request calling)
accepts ae request calling v a t c m = rw (v, a, t, c, m) refl

uid_application : IsUid (text_of ApplicationContext)
uid_application = record { some = omega (arith); short = omega (arith); components = refl }

uid_implicit : IsUid (text_of ImplicitVrLittleEndian)
uid_implicit = record { some = omega (arith); short = omega (arith); components = refl }

uid_explicit : IsUid (text_of ExplicitVrLittleEndian)
uid_explicit = record { some = omega (arith); short = omega (arith); components = refl }

uid_implementation : IsUid (text_of Implementation)
uid_implementation = record { some = omega (arith); short = omega (arith); components = refl }

answer_of_fits : (c : Option SopClass) (s : Option TransferSyntax) → FitsAnswer (answer_of c s)
answer_of_fits None s = λ e. absurd cc
answer_of_fits (Some c) None = λ e. absurd cc
answer_of_fits (Some c) (Some Implicit) = uid_implicit
answer_of_fits (Some c) (Some Explicit) = uid_explicit

answer_of_short : (c : Option SopClass) (s : Option TransferSyntax) → length (written_syntax (answer_of c s)) ≤ 19
answer_of_short None s = omega arith
answer_of_short (Some c) None = omega arith
answer_of_short (Some c) (Some Implicit) = omega arith
answer_of_short (Some c) (Some Explicit) = omega arith

answer_fits : {A : Type 0} (p : ProposedContext A) → FitsAnswer (context_answer p)
unfolding context_answer
answer_fits p = answer_of_fits (class_of p.abstract_syntax) (first_syntax p.transfer_syntaxes)

answer_short : {A : Type 0} (p : ProposedContext A) → length (written_syntax (context_answer p)) ≤ 19
unfolding context_answer
answer_short p = answer_of_short (class_of p.abstract_syntax) (first_syntax p.transfer_syntaxes)

abbrev written_answer : AnsweredContext → List ℕ
written_answer c = written_item 0x21 (answered_content c)

one_length : (c : AnsweredContext) → length (written_answer c) ≡ 12 + length (written_syntax c.answer)
unfolding written_item answered_content
one_length c = omega arith

all_fit : {A : Type 0} (ps : List (ProposedContext A)) → AllByRecursion (λ c. FitsAnswer c.answer) (map answered ps)
all_fit [] = tt
all_fit (p ∷ ps) = (answer_fits p, all_fit ps)

all_length : {A : Type 0} (ps : List (ProposedContext A)) → length (flat_map written_answer (map answered ps)) ≤ 31 * length ps
all_length [] = omega arith
all_length (p ∷ ps) = omega (arith, length-append (written_answer (answered p)) (flat_map written_answer (map answered ps)), one_length (answered p), answer_short p, all_length ps)

same_ids : {A : Type 0} (ps : List (ProposedContext A)) → map (λ c. c.id) (map answered ps) ≡ map (λ c. c.id) ps
same_ids [] = refl
same_ids (p ∷ ps) = ap (λ (l : List ℕ). p.id ∷ l) (same_ids ps)

spelled_ids : {A : Type 0} (found : List (List ℕ)) (ps : List (ProposedContext A)) → EachSpells SpellsProposedContext found ps → map first_byte found ≡ map (λ c. c.id) ps
spelled_ids [] [] s = refl
spelled_ids [] (p ∷ ps) s = absurd s
spelled_ids (c ∷ cs) [] s = absurd s
spelled_ids (c ∷ cs) (p ∷ ps) s =
    let one : first_byte c ≡ p.id = ap first_byte s.0.head.parts in
    let others = spelled_ids cs ps s.1 in
    λ i. one i ∷ others i

some_answers : {A : Type 0} (ps : List (ProposedContext A)) → ps ≢ [] → map answered ps ≢ []
some_answers [] h = absurd (h refl)
some_answers (p ∷ ps) h = λ e. absurd cc

ids_below : (cs : List AnsweredContext) → AllByRecursion (λ c. c.id < 256) cs → AllByRecursion (λ n. n < 256) (map (λ c. c.id) cs)
ids_below [] h = tt
ids_below (c ∷ cs) h = (h.0, ids_below cs h.1)

same_length : {X Y : Type 0} (f : X → Y) (xs : List X) → length (map f xs) ≡ length xs
same_length f [] = refl
same_length f (x ∷ xs) = omega (arith, same_length f xs)

zeros : length {A = ℕ} (replicate 32 0) ≡ 32
zeros = refl

head_length : (called calling : List ℕ) → length called ≡ 16 → length calling ≡ 16 → length (associate_head 1 called calling) ≡ 68
unfolding associate_head
head_length called calling h k = omega (arith, h, k, length-append called (calling ++ replicate 32 0), length-append calling (replicate 32 0), zeros)

user_length : (A : Type 0) → length (user_content (this_server {A = A})) ≡ 31
unfolding user_content written_item
user_length A = refl

fits_user : (A : Type 0) → FitsUser (this_server {A = A})
fits_user A = record {
  maximum_length = omega (arith);
  implementation_class = (uid_implementation, tt);
  asynchronous_window = tt;
  roles = tt;
  implementation_version = (omega (arith), tt);
  short = omega (arith, user_length A);
}

application_length : length (written_item 0x10 (text_of ApplicationContext)) ≡ 25
unfolding written_item
application_length = refl

user_item_length : (A : Type 0) → length (written_item 0x50 (user_content (this_server {A = A}))) ≡ 35
unfolding user_content written_item
user_item_length A = refl

items_length : (A : Type 0) (cs : List AnsweredContext) → length (associate_items (text_of ApplicationContext) written_answer cs (this_server {A = A})) ≡ 60 + length (flat_map written_answer cs)
unfolding associate_items
items_length A cs =
    omega (
      arith,
      length-append (written_item 0x10 (text_of ApplicationContext)) (flat_map written_answer cs ++ written_item 0x50 (user_content (this_server {A = A}))),
      length-append (flat_map written_answer cs) (written_item 0x50 (user_content (this_server {A = A}))),
      application_length,
      user_item_length A,
    )

pub answer_writable : {A : Type 0} (bytes : List ℕ) (request : AssociateRq A) → SpellsPdu bytes (RequestPdu request) → AllByRecursion (λ c. c.id < 256) (map answered request.contexts) → Fits {A = A} (AnswerPdu (accepting_answer request))
answer_writable {A} bytes request s small =
    let items = s.spelled.1.items in
    let head = s.spelled.1.head in
    let ids : are_context_ids (map (λ c. c.id) request.contexts) ≡ true = ap are_context_ids (sym (spelled_ids (contents 0x20 items.items) request.contexts items.each_context)) ∙ items.ids in
    let answered_ids : are_context_ids (map (λ c. c.id) (map answered request.contexts)) ≡ true = ap are_context_ids (same_ids request.contexts) ∙ ids in
    let different = (and_parts _ (are_different (map (λ c. c.id) (map answered request.contexts))) answered_ids).1 in
    let few = at_most 256 (map (λ c. c.id) (map answered request.contexts)) (ids_below (map answered request.contexts) small) different in
    let count : length request.contexts ≤ 256 = omega (arith, few, same_length (λ (c : AnsweredContext). c.id) (map answered request.contexts), same_length (answered {A = A}) request.contexts) in (
      record {
        protocol_version = omega (arith);
        called_title = head.called_fits;
        calling_title = head.calling_fits;
        application_context = uid_application;
        each_context = all_fit request.contexts;
        some = some_answers request.contexts items.some;
        odd_and_different = answered_ids;
        user_information = fits_user A;
      },
      omega (
        arith,
        head_length request.called request.calling head.called_fits head.calling_fits,
        items_length A (map answered request.contexts),
        all_length request.contexts,
        length-append (associate_head 1 request.called request.calling) (associate_items (text_of ApplicationContext) written_answer (map answered request.contexts) (this_server {A = A})),
        count,
      ),
    )

-- the same of an acceptance that is this one
pub acceptance_writable : {A : Type 0} (bytes : List ℕ) (request : AssociateRq A) (calling : List ℕ) (a : Acceptance A) → a ≡ acceptance request calling → AllByRecursion (λ c. c.id < 256) a.ac.contexts → SpellsPdu bytes (RequestPdu request) → IsWritable (Accept a)
unfolding acceptance
acceptance_writable {A} bytes request calling a e small s =
    subst (λ (x : Acceptance A). Fits {A = A} (AnswerPdu x.ac)) (sym e) (answer_writable bytes request s (subst (λ (x : Acceptance A). AllByRecursion (λ (c : AnsweredContext). c.id < 256) x.ac.contexts) e small))
